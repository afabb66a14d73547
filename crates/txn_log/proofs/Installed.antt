-- What stands while a snapshot is settled stands for one store.
use Rattle.std.proofs.Common.{◌≡◌, inl, inr, ℕ, ◌<◌, ◌≤◌, List, [], ◌∷◌, length, get_or, zero, suc, sym, ◌∙◌, ap, subst, arith}
use Rattle.std.proofs.Props.{props}
use Rattle.std.proofs.Math.Logic.{∥∥₁_elim}
use Rattle.lf_disk.specs.Folder.{Folder}
use Rattle.ltx_codec.specs.Format.{IsLtx}
use Rattle.world_laws.specs.Store.{StoreState}
use Rattle.txn_log.specs.Kept.{LogFile, file_of}
use Rattle.txn_log.specs.Durable.{Durable, StandsBySnapshot, IsEncoding, IsLog}
use Rattle.txn_log.specs.Settling.{IsInstalled}

-- what holds of a file holds of each file of a log of it alone
each_alone : (P : LogFile → Type 0) (file : LogFile) → P file → (k : ℕ) (d : LogFile) → k < length (file ∷ []) → P (get_or (file ∷ []) k d)
each_alone P file it zero d within = it
each_alone P file it (suc k) d within = absurd (omega (arith, within))

above_none : (encoding : List ℕ) → IsEncoding encoding → 0 < (file_of encoding).header.min
above_none encoding is = ∥∥₁_elim is (hlevel props) (λ (it : IsLtx encoding (file_of encoding)). omega (arith, it.valid.header.min))

in_order : (encoding : List ℕ) → IsEncoding encoding → (file_of encoding).header.min ≤ (file_of encoding).header.max
in_order encoding is = ∥∥₁_elim is (hlevel props) (λ (it : IsLtx encoding (file_of encoding)). it.valid.header.max)

-- one file is a log
pub alone : (file : LogFile) → IsEncoding file.encoding → (file_of file.encoding).header.min ≡ file.min → (file_of file.encoding).header.max ≡ file.max → IsLog (file ∷ [])
alone file is low high = record {
  ascends = (omega (arith, low, above_none file.encoding is), omega (arith, low, high, in_order file.encoding is), tt);
  encodings = each_alone (λ (f : LogFile). IsEncoding f.encoding) file is;
  min = each_alone (λ (f : LogFile). (file_of f.encoding).header.min ≡ f.min) file low;
  max = each_alone (λ (f : LogFile). (file_of f.encoding).header.max ≡ f.max) file high;
  follow = λ k d within. absurd (omega (arith, within));
}

-- so at each moment of it a folder stands for the store of the snapshot
pub durable_installed : (folder c : Folder) (store : StoreState) (by : StandsBySnapshot folder store) (file : LogFile) → file.encoding ≡ by.encoding → (file_of by.encoding).header.min ≡ file.min → (file_of by.encoding).header.max ≡ file.max
    → IsInstalled store.image file c → Durable c store
durable_installed folder c store by file same low high installed =
    let is : IsEncoding file.encoding = subst (λ (t : List ℕ). IsEncoding t) (sym same) by.is in
    let log : store.log ≡ file_of file.encoding ∷ [] = by.log ∙ ap (λ (t : List ℕ). file_of t ∷ []) (sym same) in
    elim installed [
      | inl snapshot ↦ inr (inl (record {
        encoding = file.encoding;
        by = snapshot;
        log = log;
        is = is;
        first = ap (λ (t : List ℕ). (file_of t).header.min) same ∙ by.first;
        sum = by.sum;
        unmarked = by.unmarked;
      }))
      | inr kept ↦ inl (record {
        files = file ∷ [];
        kept = kept;
        log = log;
        sound = alone file is (ap (λ (t : List ℕ). (file_of t).header.min) same ∙ low) (ap (λ (t : List ℕ). (file_of t).header.max) same ∙ high);
        sum = by.sum;
        unmarked = by.unmarked;
      })
    ]
