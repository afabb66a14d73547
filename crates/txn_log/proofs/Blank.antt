-- A disk without files holds the empty store.
use Rattle.std.proofs.Common.{◌≡◌, ℕ, false, true, is_some, List, [], length, Some, None, Option, refl, ap, arith}
use Rattle.lf_disk.specs.declared.name.FileName.TheVariants.{Database, Snapshot, Dropped, Ltx}
use Rattle.lf_disk.specs.Folder.{bytes_of}
use Rattle.lf_disk.specs.History.{History}
use Rattle.txn_log.specs.Opening.{IsBlank}
use Rattle.txn_log.specs.Store.{IsStore, IsShaped}

pub blank : (h : History) → IsBlank h → IsStore h 0 0 [] false [] false 0 0
blank h is = record {
  past = omega arith;
  rest = record {
    kept = record {
      log = λ a b. is.none (Ltx a b);
      no_snapshot = is.none Snapshot;
      mark = ap is_some (is.none Dropped);
      decided = record { none = λ none. refl; some = λ file some. absurd (none_some file some) };
      bare = λ _ _. ap bytes_of (is.none Database);
    };
    shows = record { long = ap (λ (o : Option (List ℕ)). length (bytes_of o)) (is.none Database); pages = λ n first last. absurd (omega (arith, first, last)) };
    settled = is.settled;
  };
  log = record {
    log = record {
      ascends = tt;
      encodings = λ k d within. absurd (omega (arith, within));
      min = λ k d within. absurd (omega (arith, within));
      max = λ k d within. absurd (omega (arith, within));
      follow = λ k d within. absurd (omega (arith, within));
    };
    same = refl;
  };
  table = refl;
  early = λ same. absurd (false_true same);
}
  where
    none_some : {A : Type 0} (x : A) → None ≡ Some x → ⊥
    none_some x same = cc

    false_true : false ≡ true → ⊥
    false_true same = cc

pub shaped : IsShaped 0 [] false []
shaped = record {
  count = refl;
  limit = omega arith;
  none = λ none. refl;
  marked = λ marked. refl;
  sum = λ some. absurd (some refl);
  some = λ some. absurd (some refl);
}
