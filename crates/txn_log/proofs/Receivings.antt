-- One page more of a file that is staged as its pages come.
use Rattle.std.proofs.Common.{◌≡◌, ℕ, ◌+◌, ◌-◌, ◌<◌, ◌≤◌, true, false, eqb, Option, Some, None, List, [], ◌∷◌, ◌++◌, replicate, refl, sym, ◌∙◌, ap, subst, arith, unwrap_or}
use Rattle.std.specs.Prelude.{bit_xor, slice_index, ◌==◌, if◌then◌else◌}
use Rattle.std.specs.Int.Bits.{xor_zero_r}
use Rattle.std.specs.Option.{option_map}
use Rattle.std.proofs.lemmas.Bool.Decides.{nat_tests}
use Rattle.page_checksum.specs.Sums.{flagged, joined as xor_of, page_sum_of}
use Rattle.lf_sqlite_pages.specs.LockPage.{lock_page_of, IsDataPage}
use Rattle.lf_sqlite_pages.specs.Change.{empty_change}
use Rattle.lf_sqlite_pages.specs.Complete.{completed, completed_page}
use Rattle.lf_sqlite_pages.specs.Writes.{writes_of}
use Rattle.lf_sqlite_pages.specs.declared.page_write.PageWrite.{PageWrite}
use Rattle.lf_sqlite_pages.proofs.Completing.{completed-lock_page, completed-within, completed-past}
use Rattle.lf_sqlite_pages.proofs.Writes.{writes_of-some, writes_of-none, written-writes_of}
use Rattle.ltx_codec.specs.declared.header.Header.{Header}
use Rattle.ltx_codec.specs.steps.ChangedSum.{joined_over}
use Rattle.ltx_codec.proofs.SumLemmas.{joined_over-next, map-same}
use Rattle.ltx_codec.specs.declared.file.Ltx.{Ltx}
use Rattle.txn_log.specs.Apply.{sum_behind}
use Rattle.txn_log.specs.Draft.{sum_after}
use Rattle.txn_log.specs.declared.receiving.Receiving.{Receiving}
use Rattle.txn_log.specs.declared.staging.Staging.{Staging}
use Rattle.lf_disk.specs.declared.name.FileName.TheVariants.{Staged}
use Rattle.lf_disk.specs.Folder.{Folder, SameBut}
use Rattle.lf_disk.specs.History.{History, EachMoment}
use Rattle.lf_disk.proofs.Moments.{started, joined}
use Rattle.txn_log.specs.Receiving.{lacking_page, sum_with, HasPassed, Lacks}
use Rattle.txn_log.specs.Staging.{HoldsSoFar, front_encoding, IsStaging}

-- the sum of the next page is taken in
more-sum : (sum : ℕ → ℕ) (passed total : ℕ) → total ≡ joined_over sum 1 passed → bit_xor total (sum (passed + 1)) ≡ joined_over sum 1 (passed + 1)
more-sum sum passed total so_far =
    let here : passed - 0 ≡ passed = omega arith in
    let next : passed + 1 - 0 ≡ passed + 1 = omega arith in
    joined_over-next sum 0 passed total (omega arith) (so_far ∙ sym (ap (joined_over sum 1) here)) ∙ ap (joined_over sum 1) next

-- the sum of a page, by what is written there
pub sum-lock : (size : ℕ) (sums : List ℕ) (page : ℕ → Option (List ℕ)) (n : ℕ) → n ≡ lock_page_of size → sum_with size sums page n ≡ 0
sum-lock size sums page n lock =
    let test : eqb n (lock_page_of size) ≡ true = grind (arith, nat_tests) in
    rw test refl

pub sum-some : (size : ℕ) (sums : List ℕ) (page : ℕ → Option (List ℕ)) (n : ℕ) (bytes : List ℕ) → IsDataPage size n → page n ≡ Some bytes → sum_with size sums page n ≡ page_sum_of n bytes
sum-some size sums page n bytes other some =
    let test : eqb n (lock_page_of size) ≡ false = grind (arith, nat_tests) in
    rw (test, some) refl

pub sum-none : (size : ℕ) (sums : List ℕ) (page : ℕ → Option (List ℕ)) (n : ℕ) → IsDataPage size n → page n ≡ None → sum_with size sums page n ≡ slice_index sums (n - 1)
sum-none size sums page n other none =
    let test : eqb n (lock_page_of size) ≡ false = grind (arith, nat_tests) in
    rw (test, none) refl

-- what a file lacks
pub lacking-lock : (size count n : ℕ) → n ≡ lock_page_of size → lacking_page size count n ≡ None
lacking-lock size count n lock = ap (lacking_page size count) lock ∙ completed-lock_page (empty_change size 0) count

pub lacking-within : (size count n : ℕ) → IsDataPage size n → n ≤ count → lacking_page size count n ≡ None
lacking-within size count n other within = completed-within (empty_change size 0) count n other within

pub lacking-past : (size count n : ℕ) → IsDataPage size n → count < n → lacking_page size count n ≡ Some (replicate size 0)
lacking-past size count n other past = completed-past (empty_change size 0) count n other past

-- the next page was passed
pub passes : (old new : Receiving) (sums : List ℕ) (held : ℕ → Option (List ℕ)) → HasPassed old sums held → new.header ≡ old.header → new.passed ≡ old.passed + 1
    → new.total ≡ bit_xor old.total (sum_with old.header.page_size sums held (old.passed + 1)) → IsStaging new.staging old.header (writes_of held (old.passed + 1)) → HasPassed new sums held
passes old new sums held has header passed total staging = record {
  staging =
      subst (λ (h : Header). IsStaging new.staging h (writes_of held new.passed)) (sym header)
      (subst (λ (n : ℕ). IsStaging new.staging old.header (writes_of held n)) (sym passed) staging);
  total =
      total ∙ more-sum (sum_with old.header.page_size sums held) old.passed old.total has.total
      ∙ ap (λ (n : ℕ). joined_over (sum_with old.header.page_size sums held) 1 n) (sym passed)
      ∙ ap (λ (h : Header). joined_over (sum_with h.page_size sums held) 1 new.passed) (sym header);
}

-- pages are passed one after another
pub record IsPassing (old new : Receiving) (sums : List ℕ) (count last : ℕ) (honest : Type 0) (start end : History) : Type 0 where
  pub within : new.passed ≤ last
  pub header : new.header ≡ old.header
  pub passed : (held : ℕ → Option (List ℕ)) → HasPassed old sums held → Lacks old count held last → HasPassed new sums held
  pub lacks : (held : ℕ → Option (List ℕ)) → Lacks old count held last → Lacks new count held last
  pub moments : honest → (before : Folder) (held : ℕ → Option (List ℕ)) → HasPassed old sums held → Lacks old count held last
      → HoldsSoFar before (front_encoding old.header (writes_of held old.passed)) start → EachMoment start end (SameBut Staged before)
  pub staged : honest → (before : Folder) (held : ℕ → Option (List ℕ)) → HasPassed old sums held → Lacks old count held last
      → HoldsSoFar before (front_encoding old.header (writes_of held old.passed)) start → HoldsSoFar before (front_encoding new.header (writes_of held new.passed)) end

pub passing-none : (old : Receiving) (sums : List ℕ) (count last : ℕ) (honest : Type 0) (h : History) → old.passed ≤ last → IsPassing old old sums count last honest h h
passing-none old sums count last honest h within = record {
  within = within;
  header = refl;
  passed = λ held has lacks. has;
  lacks = λ held lacks. lacks;
  moments = λ is before held has lacks so_far. started h (SameBut Staged before) so_far.left;
  staged = λ is before held has lacks so_far. so_far;
}

-- the page that was passed next is lacking
pub lacks-next : (old mid new : Receiving) (sums : List ℕ) (count last : ℕ) (honest : Type 0) (start end : History) → IsPassing old mid sums count last honest start end
    → new.passed ≡ mid.passed + 1 → mid.passed < last → (held : ℕ → Option (List ℕ)) → Lacks old count held last → held new.passed ≡ lacking_page mid.header.page_size count new.passed
lacks-next old mid new sums count last honest start end so_far next more held lacks = so_far.lacks held lacks new.passed (omega (arith, next)) (omega (arith, next, more))

pub passing-more : (old mid new : Receiving) (sums : List ℕ) (count last : ℕ) (honest : Type 0) (start at end : History) → IsPassing old mid sums count last honest start at
    → mid.passed < last → new.passed ≡ mid.passed + 1 → new.header ≡ mid.header
    → ((held : ℕ → Option (List ℕ)) → HasPassed mid sums held → held new.passed ≡ lacking_page mid.header.page_size count new.passed → HasPassed new sums held)
    → (honest → (before : Folder) (held : ℕ → Option (List ℕ)) → HasPassed mid sums held → HoldsSoFar before (front_encoding mid.header (writes_of held mid.passed)) at → EachMoment at end (SameBut Staged before))
    → (honest → (before : Folder) (held : ℕ → Option (List ℕ)) → HasPassed mid sums held → held new.passed ≡ lacking_page mid.header.page_size count new.passed
    → HoldsSoFar before (front_encoding mid.header (writes_of held mid.passed)) at → HoldsSoFar before (front_encoding new.header (writes_of held new.passed)) end)
    → IsPassing old new sums count last honest start end
passing-more old mid new sums count last honest start at end so_far more next header passed moments staged = record {
  within = omega (arith, next, more);
  header = header ∙ so_far.header;
  passed = λ held has lacks. passed held (so_far.passed held has lacks) (lacks-next old mid new sums count last honest start at so_far next more held lacks);
  lacks = λ held lacks n above below. so_far.lacks held lacks n (omega (arith, next, above)) below ∙ ap (λ (h : Header). lacking_page h.page_size count n) (sym header);
  moments = λ is before held has lacks first.
      joined start at end (SameBut Staged before) (so_far.moments is before held has lacks first)
      (moments is before held (so_far.passed held has lacks) (so_far.staged is before held has lacks first));
  staged = λ is before held has lacks first.
      staged is before held (so_far.passed held has lacks) (lacks-next old mid new sums count last honest start at so_far next more held lacks) (so_far.staged is before held has lacks first);
}

-- a page of the file was staged
pub taken-writes : (held : ℕ → Option (List ℕ)) (passed number : ℕ) (page : List ℕ) → passed + 1 ≡ number → held number ≡ Some page
    → writes_of held passed ++ record { number = number; bytes = page } ∷ [] ≡ writes_of held number
taken-writes held passed number page next some =
    subst (λ (n : ℕ). held n ≡ Some page → writes_of held passed ++ record { number = n; bytes = page } ∷ [] ≡ writes_of held n) next (λ here. sym (writes_of-some held passed page here)) some

pub takes : (old new : Receiving) (sums : List ℕ) (held : ℕ → Option (List ℕ)) (number : ℕ) (page : List ℕ) → HasPassed old sums held → old.passed + 1 ≡ number
    → IsDataPage old.header.page_size number → held number ≡ Some page → new.header ≡ old.header → new.passed ≡ number → new.total ≡ bit_xor old.total (page_sum_of number page)
    → IsStaging new.staging old.header (writes_of held old.passed ++ record { number = number; bytes = page } ∷ []) → HasPassed new sums held
takes old new sums held number page has next other some header passed total staging =
    passes old new sums held has header (passed ∙ sym next)
    (total ∙ ap (bit_xor old.total) (sym (sum-some old.header.page_size sums held number page other some)) ∙ ap (λ (n : ℕ). bit_xor old.total (sum_with old.header.page_size sums held n)) (sym next))
    (subst (λ (ws : List PageWrite). IsStaging new.staging old.header ws) (taken-writes held old.passed number page next some ∙ ap (writes_of held) (sym next)) staging)

-- a page was passed at which nothing is staged
pub passed-writes : (held : ℕ → Option (List ℕ)) (passed : ℕ) → held (passed + 1) ≡ None → writes_of held passed ≡ writes_of held (passed + 1)
passed-writes held passed none = sym (writes_of-none held passed none)

-- the lock page was passed, or a page that stays
pub passes-lock : (old new : Receiving) (sums : List ℕ) (held : ℕ → Option (List ℕ)) → HasPassed old sums held → new.header ≡ old.header → new.passed ≡ old.passed + 1 → new.total ≡ old.total → new.staging ≡ old.staging
    → old.passed + 1 ≡ lock_page_of old.header.page_size → held (old.passed + 1) ≡ None → HasPassed new sums held
passes-lock old new sums held has header passed total staging lock none =
    passes old new sums held has header passed
    (total ∙ sym (ap (bit_xor old.total) (sum-lock old.header.page_size sums held (old.passed + 1) lock) ∙ xor_zero_r old.total))
    (subst (λ (s : Staging). IsStaging s old.header (writes_of held (old.passed + 1))) (sym staging)
    (subst (λ (ws : List PageWrite). IsStaging old.staging old.header ws) (passed-writes held old.passed none) has.staging))

pub passes-none : (old new : Receiving) (sums : List ℕ) (held : ℕ → Option (List ℕ)) → HasPassed old sums held → new.header ≡ old.header → new.passed ≡ old.passed + 1 → new.staging ≡ old.staging
    → IsDataPage old.header.page_size (old.passed + 1) → held (old.passed + 1) ≡ None → new.total ≡ bit_xor old.total (slice_index sums (old.passed + 1 - 1)) → HasPassed new sums held
passes-none old new sums held has header passed staging other none total =
    passes old new sums held has header passed
    (total ∙ ap (bit_xor old.total) (sym (sum-none old.header.page_size sums held (old.passed + 1) other none)))
    (subst (λ (s : Staging). IsStaging s old.header (writes_of held (old.passed + 1))) (sym staging)
    (subst (λ (ws : List PageWrite). IsStaging old.staging old.header ws) (passed-writes held old.passed none) has.staging))

-- the sum of all pages is that by which a file is judged
pub received-sum : (receiving : Receiving) (count : ℕ) (sums : List ℕ) (file : Ltx) → HasPassed receiving sums (completed_page file.change count) → receiving.header.page_size ≡ file.change.page_size
    → receiving.passed ≡ file.change.commit → flagged receiving.total ≡ sum_behind count sums file
received-sum receiving count sums file has size passed =
    let change = file.change in
    let page : ℕ → Option (List ℕ) = completed_page change count in
    let each : (n : ℕ) → 1 ≤ n → n ≤ change.commit → sum_with change.page_size sums page n ≡ sum_after sums (completed change count) n = λ n first last.
    ap (λ (o : Option (List ℕ)). if n == lock_page_of change.page_size then 0 else unwrap_or (option_map (page_sum_of n) o) (slice_index sums (n - 1))) (sym (written-writes_of page change.commit n first last))
    in
    ap flagged (has.total
    ∙ ap (λ (s : ℕ). joined_over (sum_with s sums page) 1 receiving.passed) size
    ∙ ap (λ (n : ℕ). joined_over (sum_with change.page_size sums page) 1 n) passed
    ∙ ap xor_of (map-same (sum_with change.page_size sums page) (sum_after sums (completed change count)) 1 change.commit (λ n above below. each n above (omega (arith, below)))))
