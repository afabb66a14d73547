-- What is ready once a write waits.
use Rattle.std.proofs.Common.{◌≡◌, ℕ, ◌<◌, ◌≤◌, length, List, Bool, true, false, inl, inr, Option, Some, None, map, replicate, unwrap_or, refl, sym, ap, ◌∙◌, subst, arith, if◌then◌else◌}
use Rattle.std.specs.Prelude.{IsSome, IfSome, ◌==◌, nat_le, nat_lt, is_none}
use Rattle.std.specs.List.{range_with_len}
use Rattle.std.specs.FinMap as pages
use Rattle.std.proofs.lemmas.Bool.{cases_eq, cases_Bool, cond-true, cond-false, ne_eqb, and_parts}
use Rattle.std.proofs.lemmas.Bool.Decides.{nat_tests}
use Rattle.lf_sqlite_pages.specs.LockPage.{lock_page_of, IsDataPage}
use Rattle.lf_sqlite_pages.specs.PageSize.{IsPageSize}
use Rattle.lf_sqlite_pages.specs.Image.{DatabaseImage, page_at}
use Rattle.lf_sqlite_pages.specs.Change.{PageChange, written}
use Rattle.lf_sqlite_pages.specs.Apply.{apply}
use Rattle.lf_sqlite_pages.proofs.Laws.{length-apply}
use Rattle.lf_sqlite_pages.proofs.Writes.{written-writes_of}
use Rattle.database_file.specs.DatabaseFile.{DatabaseFile, FitsShape, KeepsDifferences, count_over, count_of, size_over, size_of, page_of, as_read}
use Rattle.database_file.specs.WalCommit.{change_over, change_page}
use Rattle.database_file.specs.WritingParts.{Pages, counted}
use Rattle.database_file.proofs.WriteLemmas.{counted-over, counted-differs, same-pages}
use Rattle.database_under_log.specs.Staying.{WaitingWrite, without, finished, forgotten, StaysAsRead}
use Rattle.database_under_log.specs.HoldingParts.{among, IsBack, ReadsOn, StaysTo}
use Rattle.database_under_log.proofs.HoldLemmas.{back-is, get-without}
use Rattle.lf_base.specs.FileBytes.{written as file_written}
use Rattle.lf_sqlite_pages.proofs.LockPages.{page_size-positive}
use Rattle.wal_watch.specs.Frames.{page_size_in, is_header, committed_count}
use Rattle.wal_watch.specs.News.{first_new, change_of, change_between}
use Rattle.wal_watch.specs.Refusals.{IsSoundWrite, KeepsCommitted}
use Rattle.wal_watch.proofs.CommitLemmas.{has_committed, valid_header}
use Rattle.wal_watch.proofs.LawLemmas.{last_some}
use Rattle.database_under_log.specs.Fault.{wanted_size}
use Rattle.database_under_log.specs.LogChange.{log_change}
use Rattle.database_under_log.specs.Over.{over, Agrees, FollowsLog}
use Rattle.database_under_log.specs.Waiting.{WaitsOver, MayChangeHeader}
use Rattle.database_under_log.specs.WaitingParts.{Stays}
use Rattle.database_under_log.specs.declared.waiting.LogCommit.{LogCommit}
use Rattle.database_under_log.proofs.CommitLemmas.{commit-leads}
use Rattle.database_under_log.proofs.KeepLemmas.{stored-keeps}
use Rattle.database_under_log.proofs.OverLemmas.{over-pages}

-- the change of a commit in the log has each data page past the image
pub change-complete : (file : DatabaseFile) (news change : PageChange) (commit : ℕ) → change ≡ change_over file news commit →
    (n : ℕ) → commit < n → n ≤ change.commit → IsDataPage change.page_size n → IsSome (written change.pages n)
change-complete file news change commit is = subst (λ (c : PageChange). (n : ℕ) → commit < n → n ≤ c.commit → IsDataPage c.page_size n → IsSome (written c.pages n)) (sym is)
    (λ n past high data_page.
    let lock : (n == lock_page_of news.page_size) ≡ false = ne_eqb n (lock_page_of news.page_size) data_page in
    let beyond : nat_le n commit ≡ false = grind (arith, nat_tests) in
    let here : change_page file news commit n ≡ Some (unwrap_or (written news.pages n) (unwrap_or (pages.get file.kept n) (replicate news.page_size 0))) = rw (lock, beyond) refl in
    some (written (change_over file news commit).pages n) (unwrap_or (written news.pages n) (unwrap_or (pages.get file.kept n) (replicate news.page_size 0)))
    (written-writes_of (change_page file news commit) news.commit n (omega (arith, past)) high ∙ here)) where
      some : (o : Option (List ℕ)) (page : List ℕ) → o ≡ Some page → IsSome o
      some None page e = absurd cc
      some (Some p) page e = refl

-- a page that stands once some were let go stood before
pub stood : (m : Pages) (ns : List ℕ) (n : ℕ) (page : List ℕ) → pages.get (without m ns) n ≡ Some page → pages.get m n ≡ Some page
stood m ns n page is = by (among ns n) (sym (get-without m ns n) ∙ is) where
  by : (b : Bool) → (if b then None else pages.get m n) ≡ Some page → pages.get m n ≡ Some page
  by true e = absurd cc
  by false e = e

-- the file that went on, or back
pub went-back : (before after : DatabaseFile) (waiting : WaitingWrite) → IsBack before.kept after.kept waiting.added → after.page_size ≡ before.page_size → after.count ≡ before.count →
    forgotten after waiting ≡ before
went-back before after waiting back size count =
    ap (λ (m : Pages). record { kept = m; page_size = after.page_size; count = after.count }) (back-is before.kept after.kept waiting.added back)
    ∙ ap (λ (s : ℕ). record { kept = before.kept; page_size = s; count = after.count }) size
    ∙ ap (λ (c : Option ℕ). record { kept = before.kept; page_size = before.page_size; count = c }) count

size-later : (size page_size commit : ℕ) → 0 < commit → (if commit == 0 then size else page_size) ≡ page_size
size-later size page_size commit some = cond-false (commit == 0) size page_size (ne_eqb commit 0 (λ none. omega (arith, none, some)))

pub fits-later : (file : DatabaseFile) (waiting : WaitingWrite) (page_size commit size : ℕ) → FitsShape file page_size commit → waiting.before ≡ commit → 0 < waiting.commit → IsPageSize size →
    (0 < count_over file commit → size_over file page_size commit ≡ size) → FitsShape (finished file waiting) size waiting.commit
fits-later file waiting page_size commit size fits before some valid same =
    let own : size_over (finished file waiting) size waiting.commit ≡ size = size-later file.page_size size waiting.commit some in
    let count : count_over (finished file waiting) waiting.commit ≡ count_over file commit = counted-over (count_over file waiting.before) waiting.commit ∙ ap (count_over file) before in
    let here : (n : ℕ) (page : List ℕ) → pages.get file.kept n ≡ Some page → size_over file page_size commit ≡ size =
    λ n page is. let both = fits.within n page is in same (omega (arith, both.0, both.1)) in
    record {
      sized = λ much. rw own valid;
      whole = λ n page is. let was = stood file.kept waiting.same n page is in fits.whole n page was ∙ here n page was ∙ sym own;
      within = λ n page is. let was = stood file.kept waiting.same n page is in let both = fits.within n page was in (both.0, omega (arith, both.1, count));
      data_pages = λ n page is. let was = stood file.kept waiting.same n page is in rw (own, ← here n page was) (fits.data_pages n page was);
      count = counted-differs (count_over file waiting.before) waiting.commit;
    }

-- it reads on, and stays
pub reads-on : (before after : DatabaseFile) (image : DatabaseImage) → after.page_size ≡ before.page_size → after.count ≡ before.count → ReadsOn before after image →
    as_read after image ≡ as_read before image
reads-on before after image size count reads =
    ap (λ (s : ℕ). record { page_size = size_over (record { kept = before.kept; page_size = s; count = before.count }) image.page_size (length image.pages); pages = (as_read after image).pages }) size
    ∙ ap (λ (c : Option ℕ). record { page_size = size_of before image; pages = map (page_of after image) (range_with_len 1 (unwrap_or c (length image.pages))) }) count
    ∙ ap (λ (ps : List (List ℕ)). record { page_size = size_of before image; pages = ps })
    (same-pages (page_of after image) (page_of before image) (count_of before image) (λ n low high. reads n low high))

pub stays-on : (before after : DatabaseFile) (waiting : WaitingWrite) (image : DatabaseImage) (change : PageChange) (page_size : ℕ) → waiting.before ≡ length image.pages → waiting.commit ≡ change.commit → 0 < change.commit →
    after.count ≡ before.count → FitsShape after page_size (length image.pages) → StaysTo before after waiting.same image change (count_over before (length image.pages)) →
    StaysAsRead before image (finished after waiting) (apply image change)
stays-on before after waiting image change page_size from to some count fits stays =
    let new : DatabaseImage = apply image change in
    let fin : DatabaseFile = finished after waiting in
    let long : length new.pages ≡ change.commit = length-apply image change in
    let many : count_over after (length image.pages) ≡ count_over before (length image.pages) = ap (λ (c : Option ℕ). unwrap_or c (length image.pages)) count in
    let is : count_of fin new ≡ count_over before (length image.pages) =
    ap (λ (c : ℕ). unwrap_or (counted (count_over after waiting.before) waiting.commit) c) (long ∙ sym to) ∙ counted-over (count_over after waiting.before) waiting.commit
    ∙ ap (count_over after) from ∙ many in
    let size : size_of fin new ≡ change.page_size = ap (λ (c : ℕ). if c == 0 then after.page_size else change.page_size) long ∙ size-later after.page_size change.page_size change.commit some in
    record {
      reads = ap (λ (c : ℕ). map (page_of fin new) (range_with_len 1 c)) is
          ∙ same-pages (page_of fin new) (page_of before image) (count_over before (length image.pages))
          (λ n low high. ap (λ (s : ℕ). unwrap_or (pages.get fin.kept n) (unwrap_or (page_at new n) (replicate s 0))) size ∙ (stays n low high high).read);
      differs = record {
        pages = λ n page there.
            let both = fits.within n page (stood after.kept waiting.same n page there) in
            (stays n both.0 (omega (arith, both.1, many)) (omega (arith, both.1, many))).differ page there;
      };
    }

pub same-sized : (before after : DatabaseFile) (page_size commit size : ℕ) → after.page_size ≡ before.page_size → after.count ≡ before.count →
    (0 < count_over before commit → size_over before page_size commit ≡ size) → 0 < count_over after commit → size_over after page_size commit ≡ size
same-sized before after page_size commit size one two same some =
    ap (λ (s : ℕ). if commit == 0 then s else page_size) one ∙ same (subst (λ (c : Option ℕ). 0 < unwrap_or c commit) two some)

pub told-ready : (told : Option DatabaseImage) (before after : DatabaseFile) (waiting : WaitingWrite) (change : PageChange) (page_size commit : ℕ) → IfSome told (λ i. commit ≡ length i.pages) →
    waiting.before ≡ commit → waiting.commit ≡ change.commit → 0 < change.commit → after.page_size ≡ before.page_size → after.count ≡ before.count → FitsShape after page_size commit →
    IfSome told (λ i. KeepsDifferences before i → ReadsOn before after i × StaysTo before after waiting.same i change (count_over before (length i.pages))) →
    IfSome told (λ i. KeepsDifferences before i → Stays before after i (record { change = change; write = waiting }))
told-ready None before after waiting change page_size commit t2 from to some one two fits held = tt
told-ready (Some i) before after waiting change page_size commit t2 from to some one two fits held = λ keeps.
    let both = held keeps in
    record {
      reads = reads-on before after i one two both.0;
      stays = stays-on before after waiting i change page_size (from ∙ t2) to some two (subst (λ (c : ℕ). FitsShape after page_size c) t2 fits) both.1;
    }

-- the news of a write
pub news-facts : (old new : List ℕ) (news : PageChange) → Some news ≡ change_between old new →
    (first_new old new < committed_count new) × (news ≡ change_of new (first_new old new) (committed_count new))
news-facts old new news is = elim (cases_Bool (nat_lt (first_new old new) (committed_count new))) [
  | inl on ↦
      let some : Some news ≡ Some (change_of new (first_new old new) (committed_count new)) = is ∙ cond-true (nat_lt (first_new old new) (committed_count new)) (Some (change_of new (first_new old new) (committed_count new))) None on in
      (grind (arith, nat_tests), grind (arith, some))
  | inr off ↦ absurd (let none = is ∙ cond-false (nat_lt (first_new old new) (committed_count new)) (Some (change_of new (first_new old new) (committed_count new))) None off in cc)
]

pub follows-clean : (file : DatabaseFile) (page_size commit : ℕ) (contents : List ℕ) → FollowsLog file page_size commit contents → commit ≡ 0 → count_over file commit ≡ 0
follows-clean file page_size commit contents follows none = elim (cases_eq (committed_count contents) 0) [
  | inr some ↦ absurd (let more : 0 < committed_count contents = omega (arith, some) in omega (arith, none, follows.commit_is more, last_some contents more))
  | inl empty ↦
      let parts = and_parts (pages.len file.kept == 0) (is_none file.count) (follows.clean empty) in
      no_count file.count parts.1 ∙ none
] where
  no_count : (o : Option ℕ) → is_none o ≡ true → unwrap_or o commit ≡ commit
  no_count None e = refl
  no_count (Some k) e = absurd cc

pub sized-log : (file : DatabaseFile) (page_size commit at : ℕ) (old bytes : List ℕ) → FollowsLog file page_size commit old → (0 < commit → IsPageSize page_size) →
    IsSoundWrite old (wanted_size page_size commit) at bytes → 0 < committed_count (file_written at bytes old) → 0 < count_over file commit →
    size_over file page_size commit ≡ page_size_in (file_written at bytes old)
sized-log file page_size commit at old bytes follows valid sound some count = elim (cases_eq commit 0) [
  | inl none ↦ absurd (let zero_count = follows-clean file page_size commit old follows none in omega (arith, zero_count, count))
  | inr other ↦
      let test : (commit == 0) ≡ false = ne_eqb commit 0 other in
      let own : size_over file page_size commit ≡ page_size = cond-false (commit == 0) file.page_size page_size test in
      let wanted : wanted_size page_size commit ≡ page_size = cond-false (commit == 0) 0 page_size test in
      let header : is_header (file_written at bytes old) ≡ true =
      valid_header (file_written at bytes old) (committed_count (file_written at bytes old)) (has_committed (file_written at bytes old) (committed_count (file_written at bytes old)) refl some).valid in
      let positive : 0 < page_size = page_size-positive page_size (valid (omega (arith, other))) in
      own ∙ elim (cases_eq page_size (page_size_in (file_written at bytes old))) [
        | inl same ↦ same
        | inr apart ↦ absurd (sound.header (inr (λ zero_size. omega (arith, zero_size, wanted, positive), header, λ is. apart (sym (is ∙ wanted)))))
      ]
]

-- where the image is told the write commits
pub told-commits : (told : Option DatabaseImage) (before after : DatabaseFile) (old new : List ℕ) (page_size commit : ℕ) (c : LogCommit) → IfSome told (λ i. page_size ≡ i.page_size) → IfSome told (λ i. commit ≡ length i.pages) →
    KeepsCommitted old new → first_new old new < committed_count new → FitsShape before page_size commit →
    (0 < count_over before commit → size_over before page_size commit ≡ page_size_in new) → c.change ≡ log_change before old new commit →
    IfSome told (λ i. KeepsDifferences before i → Stays before after i c) →
    IfSome told (λ i. MayChangeHeader before old new → KeepsDifferences before i → Agrees before i old → WaitsOver before after i new c)
told-commits None before after old new page_size commit c t1 t2 kept more fits sized change stays = tt
told-commits (Some i) before after old new page_size commit c t1 t2 kept more fits sized change stays = λ clean keeps agrees.
    let fits_i : FitsShape before i.page_size (length i.pages) = subst (λ (p : ℕ). FitsShape before p (length i.pages)) t1 (subst (λ (k : ℕ). FitsShape before page_size k) t2 fits) in
    let sized_i : 0 < count_of before i → page_size_in new ≡ size_of before i =
    λ some. sym (subst (λ (p : ℕ). size_over before p (length i.pages) ≡ page_size_in new) t1 (subst (λ (k : ℕ). 0 < count_over before k → size_over before page_size k ≡ page_size_in new) t2 sized some)) in
    let is : c.change ≡ log_change before old new (length i.pages) = change ∙ ap (log_change before old new) t2 in
    let leads : apply i c.change ≡ over (as_read before i) new = ap (apply i) is ∙ commit-leads old new before i kept more clean fits_i sized_i agrees in
    let held = stays keeps in
    record {
      reads = held.reads;
      led = record {
        leads = leads;
        stays = held.stays;
        agrees = over-pages (as_read (finished after c.write) (apply i c.change)) (as_read before i) new held.stays.reads ∙ ap (λ (j : DatabaseImage). j.pages) (sym leads);
      };
    }

pub told-stored : (told : Option DatabaseImage) (file : DatabaseFile) (old new : List ℕ) → KeepsCommitted old new → change_between old new ≡ None →
    IfSome told (λ i. MayChangeHeader file old new → KeepsDifferences file i → Agrees file i old → Agrees file i new)
told-stored None file old new kept none = tt
told-stored (Some i) file old new kept none = λ clean keeps agrees. stored-keeps old new file i kept none clean agrees
