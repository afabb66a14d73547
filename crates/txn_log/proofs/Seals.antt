-- The checksum at the end of a file.
use Rattle.std.proofs.Common.{◌≡◌, ◌∙◌, ℕ, ◌+◌, ◌-◌, ◌<◌, ◌≤◌, Bool, true, false, List, ◌++◌, length, get_or, take, drop, replicate, append-nil, length-append, refl, sym, ap, subst, arith}
use Rattle.std.specs.Int.{w64, from_be_bytes, to_be_bytes}
use Rattle.std.proofs.Math.Logic.{∥∥₁_elim}
use Rattle.std.proofs.Props.{props}
use Rattle.std.proofs.lemmas.List.{drop_all, get_or-map, length-replicate, take-take}
use Rattle.lf_base.specs.Endian.{be64_at}
use Rattle.lf_base.specs.FileBytes.{read_into}
use Rattle.lf_disk.specs.Folder.{Folder, bytes_of}
use Rattle.lf_disk.specs.History.{History, Rests}
use Rattle.lf_disk.specs.declared.name.FileName.TheVariants.{Ltx as LtxName}
use Rattle.lf_disk.proofs.Moments.{past_stays}
use Rattle.ltx_codec.specs.Format.{IsLtx, file_sum, summed_encoding}
use Rattle.txn_log.specs.declared.entry.Entry.{Entry}
use Rattle.txn_log.specs.Durable.{IsLog}
use Rattle.txn_log.specs.Fields.{StoreFields}
use Rattle.txn_log.specs.Kept.{LogFile, file_of}
use Rattle.txn_log.specs.LastFile.{seal_of, IsCompared, IsWithout}
use Rattle.txn_log.specs.Looking.{IsLookedAt}
use Rattle.txn_log.specs.Store.{files_in, state_in, state_of, failed_of}
use Rattle.txn_log.proofs.Resting.{same_now}
use Rattle.txn_log.proofs.Stores.{file_at, length-files_in, no_entry}

-- a read of eight bytes that are there gives them
read_eight : (at : ℕ) (bytes : List ℕ) → at + 8 ≤ length bytes → read_into at bytes (replicate 8 0) ≡ take 8 (drop at bytes)
read_eight at bytes room =
    ap (λ (n : ℕ). take n (drop at bytes) ++ drop (length bytes - at) (replicate {A = ℕ} 8 0)) (length-replicate {A = ℕ} 8 0)
    ∙ ap (λ (l : List ℕ). take 8 (drop at bytes) ++ l) (drop_all (length bytes - at) (replicate {A = ℕ} 8 0) (omega (arith, length-replicate {A = ℕ} 8 0, room)))
    ∙ append-nil (take 8 (drop at bytes))

-- so the number that was read is that at the end
pub seal_read : (bytes : List ℕ) → 8 ≤ length bytes → be64_at 0 (read_into (length bytes - 8) bytes (replicate 8 0)) ≡ seal_of bytes
unfolding be64_at
seal_read bytes long =
    ap (λ (l : List ℕ). from_be_bytes w64 (take 8 l)) (read_eight (length bytes - 8) bytes (omega (arith, long)))
    ∙ ap (λ (l : List ℕ). from_be_bytes w64 l) (take-take 8 8 (drop (length bytes - 8) bytes) (omega arith))

-- an encoding has them
pub long_enough : (encoding : List ℕ) → ∥ IsLtx encoding (file_of encoding) ∥₁ → 8 ≤ length encoding
long_enough encoding is = ∥∥₁_elim is (hlevel props) go where
  go : IsLtx encoding (file_of encoding) → 8 ≤ length encoding
  go it =
      let front : List ℕ = summed_encoding (file_of encoding) it.reserved in
      let eight : length (to_be_bytes w64 (file_sum front)) ≡ 8 = refl in
      omega (arith, ap length it.encoding, length-append front (to_be_bytes w64 (file_sum front)), eight)

-- and so has the file of each entry
pub entry_long : (entries : List Entry) (f : Folder) (at : ℕ) (e : Entry) → IsLog (files_in entries f) → at < length entries → e ≡ get_or entries at e → 8 ≤ length (bytes_of (f (LtxName e.min e.max)))
entry_long entries f at e log within is =
    let file : LogFile = file_at f e in
    let inside : at < length (files_in entries f) = omega (arith, within, length-files_in entries f) in
    let same : get_or (files_in entries f) at file ≡ file = get_or-map (file_at f) entries at e file within ∙ ap (file_at f) (sym is) in
    long_enough file.encoding (subst (λ (x : LogFile). ∥ IsLtx x.encoding (file_of x.encoding) ∥₁) same (log.encodings at file inside))

-- a store that was not looked into at all
pub looked_none : (h : History) (s : StoreFields) → IsLookedAt h s h s
looked_none h s = record {
  rests = record { moment = refl; past = past_stays h };
  same = refl;
  state = λ honest. refl;
  failed = λ honest. refl;
}

-- and one of whose disk a file was read
pub looked_read : (h new : History) (s : StoreFields) (faults : ℕ) (honest : Bool) → honest ≡ s.honest → Rests h new → s.broken ≡ false → IsLookedAt h s new (record s { honest = honest; faults = faults })
looked_read h new s faults honest is rests whole = record {
  rests = rests;
  same = ap (λ (b : Bool). record s { honest = b; faults = faults }) is;
  state = λ disk.
      subst (λ (b : Bool). state_of new s.page_size s.commit s.entries s.dropped b s.whole ≡ state_of h s.page_size s.commit s.entries s.dropped b s.whole) (sym whole)
      (ap (λ (f : Folder). state_in s.page_size s.commit s.entries s.dropped f) (same_now h new rests));
  failed = λ disk. subst (λ (b : Bool). failed_of new b s.attempt s.tried ≡ failed_of h b s.attempt s.tried) (sym whole) refl;
}

false_true : false ≡ true → ⊥
false_true same = cc

-- where the log has no such file nothing is doubted
pub none_compared : (honest : Bool) (f : Folder) (entries : List Entry) (min max sum : ℕ) → IsWithout entries min max → IsCompared honest f entries min max sum false
none_compared honest f entries min max sum none = record {
  there = λ same. absurd (false_true same);
  other = λ disk same. absurd (false_true same);
  same = λ disk same has.
      let is = has.1.1 no_entry in
      absurd (none has.0 no_entry has.1.0 is.0 is.1);
}
