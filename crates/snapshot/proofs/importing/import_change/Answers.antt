use Rattle.std.proofs.Common.{◌≡◌, ℕ, ◌*◌, ◌/◌, ◌≤◌, Option, Some, None, List, length, sym, ◌∙◌, ap, subst, arith}
use Rattle.std.specs.Prelude.{IfSome, if◌then◌else◌}
use Rattle.std.proofs.Math.Nat.{div-mul-le_self}
use Rattle.std.proofs.lemmas.Nat.{le-div}
use Rattle.lf_disk.specs.Folder.{Folder}
use Rattle.lf_disk.specs.History.{now}
use Rattle.lf_sqlite_pages.specs.Change.{FitsOver, PageChange, empty_change}
use Rattle.lf_sqlite_pages.specs.Image.{DatabaseImage}
use Rattle.lf_sqlite_pages.specs.PageSize.{IsPageSize}
use Rattle.lf_sqlite_pages.proofs.LockPages.{page_size-positive}
use Rattle.database_file.specs.Commit.{LeadsTo, difference}
use Rattle.database_file.specs.CommitParts.{changes_nothing}
use Rattle.txn_log.proofs.Moves.{moved-none}
use Rattle.txn_log.proofs.PagesRead.{count}
use Rattle.txn_log.specs.Store.{image_in, state_of, failed_of}
use Rattle.snapshot.specs.Bytes.{AreDatabase, size_in, count_in, image_of_pages, image_of_bytes}
use Rattle.snapshot.specs.Pages.{HasPages}
use Rattle.snapshot.proofs.ImportLemmas.{fits, fits-some, leads, length_of, same_images}
use Rattle.snapshot.proofs.StoreLemmas.{kept_still, left_still, mode_still, moved_still, has_pages, image_now}
use Rattle.snapshot.proofs.importing.import_change.Goals as goal

-- the bytes that the pages take
pages_fit : (size pages : ℕ) (bytes : List ℕ) → pages ≡ length bytes / size → pages * size ≤ length bytes
pages_fit size pages bytes is = subst (λ (k : ℕ). k * size ≤ length bytes) (sym is) (div-mul-le_self (length bytes) size)

-- the change of a comparison leads to the image of the bytes
imported : (size commit : ℕ) (f : Folder) (s pages : ℕ) (bytes : List ℕ) (old change : PageChange) (result : Option PageChange) (image : DatabaseImage) →
    image ≡ image_in size commit f → HasPages size commit f → AreDatabase bytes → s ≡ size_in bytes → IsPageSize s → pages ≡ length bytes / s → old ≡ empty_change s pages →
    change ≡ difference (image_in size commit f) (image_of_pages old.page_size old.commit bytes) →
    result ≡ (if changes_nothing change commit then None else Some change) → LeadsTo image (image_of_bytes bytes) result
imported size commit f s pages bytes old change result image image_is has are size_is is_size count_is old_is change_is result_is =
    let standing : DatabaseImage = image_in size commit f in
    let other : DatabaseImage = image_of_bytes bytes in
    let same : image_of_pages old.page_size old.commit bytes ≡ other =
    ap (λ (o : PageChange). image_of_pages o.page_size o.commit bytes) old_is ∙ ap (λ (k : ℕ). image_of_pages s k bytes) count_is
    ∙ ap (λ (z : ℕ). image_of_pages z (length bytes / z) bytes) size_is in
    let is : change ≡ difference standing other = change_is ∙ ap (difference standing) same in
    let sized : IsPageSize (size_in bytes) = subst IsPageSize size_is is_size in
    let some : 1 ≤ count_in bytes = le-div 1 (length bytes) (size_in bytes) (page_size-positive (size_in bytes) sized) (omega (arith, are.some)) in
    let led = leads standing other change (changes_nothing change commit)
    (λ none long. same_images size commit f (size_in bytes) (count_in bytes) bytes has sized some (div-mul-le_self (length bytes) (size_in bytes)) none
    (sym (length_of (size_in bytes) (count_in bytes) bytes) ∙ long ∙ count size commit f))
    is (ap (changes_nothing change) (count size commit f)) in
    subst (λ (i : DatabaseImage). LeadsTo i other result) (sym image_is) (subst (λ (r : Option PageChange). LeadsTo standing other r) (sym result_is) led)

pub returns-in-None-clause-went : goal.returns-in-None-clause-went
returns-in-None-clause-went g c honest =
    let s = c.args.store.now in
    let h = g.D.Disk.history s.disk in
    moved-none (state_of h s.page_size s.commit s.entries.items s.dropped s.broken s.whole) (failed_of h s.broken s.attempt s.tried) h (s.left honest)

pub returns-in-None-count_within-clause-went : goal.returns-in-None-count_within-clause-went
returns-in-None-count_within-clause-went g c honest =
    let s = c.args.store.now in
    let h = g.D.Disk.history s.disk in
    moved-none (state_of h s.page_size s.commit s.entries.items s.dropped s.broken s.whole) (failed_of h s.broken s.attempt s.tried) h (s.left honest)

pub returns-then-store-clause-went : goal.returns-then-store-clause-went
returns-then-store-clause-went g c honest =
    let s = c.args.store.now in
    let h = g.D.Disk.history s.disk in
    moved-none (state_of h s.page_size s.commit s.entries.items s.dropped s.broken s.whole) (failed_of h s.broken s.attempt s.tried) h (s.left honest)

pub returns-in-Err-clause-went : goal.returns-in-Err-clause-went
returns-in-Err-clause-went g c honest =
    let s = c.args.store.now in
    let h = g.D.Disk.history s.disk in
    moved-none (state_of h s.page_size s.commit s.entries.items s.dropped s.broken s.whole) (failed_of h s.broken s.attempt s.tried) h (s.left honest)

pub push_all-requires-clause-pages : goal.push_all-requires-clause-pages
push_all-requires-clause-pages g c =
    subst (λ (o : PageChange). o.commit * o.page_size ≤ length c.args.bytes.now) (sym c.new-change.ensures)
    (pages_fit c.in-Some.size c.in-Some-count_within.count c.args.bytes.now c.in-Some-count_within.ensures.some.0)

pub invariant_of-store : goal.invariant_of-store
invariant_of-store g c =
    let s = c.args.store.now in
    let h = g.D.Disk.history s.disk in
    let new = g.D.Disk.history c.push_all.new.disk in
    let rests = c.push_all.ensures.rests in
    record {
      shaped = s.shaped;
      sized = s.sized;
      kept = λ still. kept_still h new rests s.page_size s.commit s.entries.items s.dropped s.broken s.whole c.if-store.false s.sums.sums s.tried (s.kept (sym c.push_all.ensures.honest ∙ still));
      left = λ still. left_still h new rests s.page_size s.commit s.entries.items s.dropped s.broken s.whole c.if-store.false s.attempt s.tried (s.left (sym c.push_all.ensures.honest ∙ still));
      mode = λ still. mode_still h new rests s.page_size s.commit s.entries.items s.dropped s.broken s.whole c.if-store.false s.wal (s.mode (sym c.push_all.ensures.honest ∙ still));
    }

pub returns-in-Ok-push_all-clause-leads : goal.returns-in-Ok-push_all-clause-leads
returns-in-Ok-push_all-clause-leads g c honest =
    let s = c.args.store.now in
    let h = g.D.Disk.history s.disk in
    let has = has_pages h s.page_size s.commit s.entries.items s.dropped s.broken s.sums.sums s.whole s.tried c.if-store.false (s.kept honest) in
    imported s.page_size s.commit (now h) c.in-Some.size c.in-Some-count_within.count c.args.bytes.now c.new-change.result c.push_all.new.change c.unless_nothing.result _
    (image_now h s.page_size s.commit s.whole s.broken c.if-store.false) has c.in-Some.ensures.some.0 c.in-Some.ensures.some.1 c.in-Some.ensures.sized
    c.in-Some-count_within.ensures.some.0 c.new-change.ensures (c.in-Ok-push_all.ensures.pushed honest has) c.unless_nothing.ensures

pub returns-in-Ok-push_all-clause-went : goal.returns-in-Ok-push_all-clause-went
returns-in-Ok-push_all-clause-went g c honest =
    let s = c.args.store.now in
    moved_still (g.D.Disk.history s.disk) (g.D.Disk.history c.push_all.new.disk) c.push_all.ensures.rests s.page_size s.commit s.entries.items s.dropped s.broken s.whole c.if-store.false s.attempt s.tried (s.left honest)

pub returns-clause-went : goal.returns-clause-went
returns-clause-went g c honest =
    let s = c.args.store.now in
    moved_still (g.D.Disk.history s.disk) (g.D.Disk.history c.push_all.new.disk) c.push_all.ensures.rests s.page_size s.commit s.entries.items s.dropped s.broken s.whole c.if-store.false s.attempt s.tried (s.left honest)

pub returns-in-Ok-push_all-clause-fits : goal.returns-in-Ok-push_all-clause-fits
returns-in-Ok-push_all-clause-fits g c honest =
    let s = c.args.store.now in
    let h = g.D.Disk.history s.disk in
    let bytes = c.args.bytes.now in
    let empty : PageChange = c.new-change.result in
    let change : PageChange = c.push_all.new.change in
    let has = has_pages h s.page_size s.commit s.entries.items s.dropped s.broken s.sums.sums s.whole s.tried c.if-store.false (s.kept honest) in
    let room : empty.commit * empty.page_size ≤ length bytes =
    subst (λ (o : PageChange). o.commit * o.page_size ≤ length bytes) (sym c.new-change.ensures)
    (pages_fit c.in-Some.size c.in-Some-count_within.count bytes c.in-Some-count_within.ensures.some.0) in
    let fit : FitsOver s.page_size s.commit change =
    subst (FitsOver s.page_size s.commit) (sym (c.in-Ok-push_all.ensures.pushed honest has)) (fits s.page_size s.commit (now h) empty.page_size empty.commit bytes has room) in
    subst (λ (r : Option PageChange). IfSome r (FitsOver s.page_size s.commit)) (sym c.unless_nothing.ensures) (fits-some s.page_size s.commit change (changes_nothing change s.commit) fit)
