-- The snapshot stays while the rest of an install is done.
use Rattle.std.proofs.Common.{◌≡◌, Option, List, ℕ, IsSome, refl, sym, ◌∙◌, subst}
use Rattle.lf_disk.specs.Change.{Step, SetsFile}
use Rattle.lf_disk.specs.Folder.{bytes_of, SameBut}
use Rattle.lf_disk.specs.History.{History, now, Moves}
use Rattle.lf_disk.specs.declared.name.FileName.TheVariants.{Database, Snapshot, Dropped}
use Rattle.ltx_codec.specs.Fields.{AreBytes}
use Rattle.ltx_codec.specs.Format.{IsLtx}
use Rattle.ltx_codec.specs.declared.file.Ltx.{Ltx}
use Rattle.ltx_codec.specs.declared.header.Header.{Header}
use Rattle.txn_log.specs.declared.entry.Entry.{Entry}
use Rattle.txn_log.specs.Settling.{IsCleared}
use Rattle.txn_log.proofs.Settlings.{cleared-other}
use Rattle.node_recovery.specs.Rewriting.{HoldsFile}
use Rattle.std.specs.Prelude.{None}

module _ (h one two : History) (entries : List Entry) (sees : Step) (gone : Moves (SetsFile Dropped None) sees h one) (cleared : IsCleared entries (now one) two) where
  same : now two Snapshot ≡ now h Snapshot
  same = cleared-other entries (now one) two cleared Snapshot (λ a b. refl) ∙ gone.seen.elsewhere Snapshot refl

  pub held : (header : Header) (file : Ltx) → HoldsFile Snapshot header file (now h) → HoldsFile Snapshot header file (now two)
  held header file holds = record {
    octets = subst (λ (o : Option (List ℕ)). AreBytes (bytes_of o)) (sym same) holds.octets;
    is = subst (λ (o : Option (List ℕ)). IsLtx (bytes_of o) file) (sym same) holds.is;
    header_is = holds.header_is;
  }

  pub still_there : (three : History) → IsSome (now h Snapshot) → SameBut Database (now two) (now three) → IsSome (now three Snapshot)
  still_there three some others = subst (λ (o : Option (List ℕ)). IsSome o) (sym (others Snapshot refl ∙ same)) some
