-- The rest of a drop, call by call.
use Rattle.std.proofs.Common.{◌≡◌, ℕ, ◌*◌, true, false, Option, Some, None, IsSome, List, [], length, refl, sym, ◌∙◌, ap, subst, arith}
use Rattle.std.specs.Prelude.{is_some}
use Rattle.lf_disk.specs.declared.name.FileName.TheVariants.{Database, Snapshot, Dropped, Ltx}
use Rattle.lf_base.proofs.FileLemmas.{length-resized}
use Rattle.lf_disk.specs.Folder.{Folder, bytes_of}
use Rattle.lf_disk.specs.History.{History, now, EachMoment}
use Rattle.lf_disk.proofs.Moments.{joined, weakened}
use Rattle.lf_sqlite_pages.specs.Image.{empty_image}
use Rattle.lf_sqlite_pages.specs.Change.{PageChange}
use Rattle.txn_log.specs.declared.entry.Entry.{Entry}
use Rattle.txn_log.specs.Pages.{patched}
use Rattle.txn_log.specs.Rewriting.{IsWorn, IsRewritten}
use Rattle.txn_log.specs.Kept.{Shows, IsAtRest, IsByMark}
use Rattle.txn_log.specs.Settling.{HasNoOthers, IsThinned, IsCleared}
use Rattle.txn_log.proofs.Clearings.{cleared_all}
use Rattle.txn_log.proofs.Settlings.{thinned-other, cleared-other}

-- the mark decides as long as it stays and no snapshot comes
by_mark : (f c : Folder) → c Snapshot ≡ f Snapshot → c Dropped ≡ f Dropped → IsByMark f → IsByMark c
by_mark f c snapshot dropped by = record {
  no_snapshot = snapshot ∙ by.no_snapshot;
  stands = subst (λ (o : Option (List ℕ)). IsSome o) (sym dropped) by.stands;
}

-- a database file without bytes shows no page
pub shows_nothing : (bytes : List ℕ) → length bytes ≡ 0 → Shows empty_image bytes
shows_nothing bytes none = record { long = none; pages = λ n first last. absurd (omega arith) }

module _ (entries : List Entry) (h one : History) (is : IsByMark (now h)) where
  pub clears : EachMoment h one (IsThinned entries (now h)) → EachMoment h one IsByMark
  clears run =
      weakened h one (IsThinned entries (now h)) IsByMark run
      (λ c thin. by_mark (now h) c (thinned-other entries (now h) c thin Snapshot (λ a b. refl) refl) (thinned-other entries (now h) c thin Dropped (λ a b. refl) refl) is)

  module _ (change : PageChange) (two : History) (cleared : IsCleared entries (now h) one) where
    by_one : IsByMark (now one)
    by_one = by_mark (now h) (now one) (cleared-other entries (now h) one cleared Snapshot (λ a b. refl)) (cleared-other entries (now h) one cleared Dropped (λ a b. refl)) is

    pub writes : EachMoment h one (IsThinned entries (now h)) → EachMoment one two (IsWorn change (now one)) → EachMoment h two IsByMark
    writes first second =
        joined h one two IsByMark (clears first)
        (weakened one two (IsWorn change (now one)) IsByMark second (λ c worn. by_mark (now one) c (worn.others Snapshot refl refl) (worn.others Dropped refl refl) by_one))

    pub at_rest : change.commit ≡ 0 → HasNoOthers entries (now h) → IsRewritten change (now one) two → IsAtRest empty_image [] true two
    at_rest none others done = record {
      kept = record {
        log = λ a b. done.others (Ltx a b) refl ∙ cleared_all entries (now h) one others cleared a b;
        no_snapshot = done.others Snapshot refl ∙ by_one.no_snapshot;
        mark = ap is_some (done.others Dropped refl) ∙ is_true (now one Dropped) by_one.stands;
        decided = record { none = λ _. refl; some = λ file some. let no : None ≡ Some file = some in absurd (cc) };
        bare = λ _ unmarked. let no : true ≡ false = unmarked in absurd (cc);
      };
      shows = shows_nothing (bytes_of (now two Database))
          (ap (λ (o : Option (List ℕ)). length (bytes_of o)) done.database
          ∙ length-resized (change.commit * change.page_size) (patched change.page_size (bytes_of (now one Database)) change.pages)
          ∙ ap (λ (n : ℕ). n * change.page_size) none ∙ no_bytes change.page_size);
      settled = done.settled;
    }
      where
        no_bytes : (size : ℕ) → 0 * size ≡ 0
        no_bytes size = omega arith

        is_true : (o : Option (List ℕ)) → IsSome o → is_some o ≡ true
        is_true None some = some
        is_true (Some x) some = refl
