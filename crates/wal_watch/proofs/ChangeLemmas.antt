-- The latest frames of the pages, found one after another.
use Rattle.std.proofs.Common.{◌≡◌, ℕ, zero, suc, ◌+◌, ◌-◌, ◌≤◌, ◌<◌, ◌&&◌, ◌==◌, Some, None, List, [], ◌∷◌, ◌++◌, refl, sym, ap, ◌∙◌, inl, inr, add-one, arith, if◌then◌else◌, nat_le}
use Rattle.std.proofs.lemmas.Bool.{cond-true, cond-false, le-leb, lt-leb, eq-eqb, ne_eqb, and_from, and_left, and_right, cases_Bool}
use Rattle.std.proofs.lemmas.List.{append-nil}
use Rattle.lf_sqlite_pages.specs.Change.{PageChange}
use Rattle.lf_sqlite_pages.specs.declared.page_write.PageWrite.{PageWrite}
use Rattle.lf_sqlite_pages.specs.LockPage.{lock_page_of, IsDataPage}
use Rattle.std.proofs.lemmas.Bool.{cases_eq}
use Rattle.wal_watch.specs.Frames.{number_in, page_size_in}
use Rattle.wal_watch.specs.News.{latest_frame, change_frame, latest_pages, write_in}
use Rattle.wal_watch.specs.Searching.{HoldsNone, IsLeast}

pub latest_more : (contents : List ℕ) (page first k : ℕ) → latest_frame contents page first (k + 1)
    ≡ (if nat_le first k && (number_in contents k == page) then Some k else latest_frame contents page first k)
unfolding latest_frame
latest_more contents page first k = ap (λ (m : ℕ). latest_frame contents page first m) (add-one k)

-- a frame that holds the page is the latest so far
pub latest_here : (contents : List ℕ) (page first k : ℕ) → first ≤ k → number_in contents k ≡ page → latest_frame contents page first (k + 1) ≡ Some k
latest_here contents page first k le is = latest_more contents page first k ∙ cond-true _ _ _ (and_from _ _ (le-leb first k le) (eq-eqb _ _ is))

-- one that holds another changes nothing
pub latest_other : (contents : List ℕ) (page first k : ℕ) → (number_in contents k ≡ page → ⊥) → latest_frame contents page first (k + 1) ≡ latest_frame contents page first k
latest_other contents page first k other = latest_more contents page first k ∙ cond-false _ _ _ (and_right _ _ (ne_eqb _ _ other))

-- before the first frame there is none
pub latest_none : (contents : List ℕ) (page first n : ℕ) → n ≤ first → latest_frame contents page first n ≡ None
unfolding latest_frame
latest_none contents page first zero le = refl
latest_none contents page first (suc k) le =
    cond-false _ _ _ (and_left _ _ (lt-leb first k (omega (arith, add-one k)))) ∙ latest_none contents page first k (omega (arith, add-one k))

-- the same of the frame that a change takes a page from
pub change_data : (contents : List ℕ) (page first n : ℕ) → IsDataPage (page_size_in contents) page → change_frame contents page first n ≡ latest_frame contents page first n
change_data contents page first n holds = cond-false _ _ _ (ne_eqb page (lock_page_of (page_size_in contents)) holds)

pub change_lock : (contents : List ℕ) (page first n : ℕ) → page ≡ lock_page_of (page_size_in contents) → change_frame contents page first n ≡ None
change_lock contents page first n lock = cond-true _ _ _ (eq-eqb page (lock_page_of (page_size_in contents)) lock)

pub change_here : (contents : List ℕ) (page first k : ℕ) → first ≤ k → IsDataPage (page_size_in contents) page → number_in contents k ≡ page → change_frame contents page first (k + 1) ≡ Some k
change_here contents page first k le holds is = change_data contents page first (k + 1) holds ∙ latest_here contents page first k le is

pub change_other : (contents : List ℕ) (page first k : ℕ) → (number_in contents k ≡ page → page ≡ lock_page_of (page_size_in contents)) → change_frame contents page first (k + 1) ≡ change_frame contents page first k
change_other contents page first k other = elim (cases_eq page (lock_page_of (page_size_in contents))) [
  | inl lock ↦ change_lock contents page first (k + 1) lock ∙ sym (change_lock contents page first k lock)
  | inr holds ↦ change_data contents page first (k + 1) holds ∙ latest_other contents page first k (λ is. holds (other is)) ∙ sym (change_data contents page first k holds)
]

pub change_none : (contents : List ℕ) (page first n : ℕ) → n ≤ first → change_frame contents page first n ≡ None
change_none contents page first n le = elim (cases_eq page (lock_page_of (page_size_in contents))) [
  | inl lock ↦ change_lock contents page first n lock
  | inr holds ↦ change_data contents page first n holds ∙ latest_none contents page first n le
]

pub pages_none : (contents : List ℕ) (first n page : ℕ) → change_frame contents (page + 1) first n ≡ None → latest_pages contents first n (page + 1) ≡ latest_pages contents first n page
unfolding latest_pages
pages_none contents first n page none = ap (λ (m : ℕ). latest_pages contents first n m) (add-one page) ∙ rw none (append-nil _)

pub pages_push : (contents : List ℕ) (first n page k : ℕ) → change_frame contents (page + 1) first n ≡ Some k
    → latest_pages contents first n (page + 1) ≡ latest_pages contents first n page ++ write_in contents (page + 1) k ∷ []
unfolding latest_pages
pages_push contents first n page k some = ap (λ (m : ℕ). latest_pages contents first n m) (add-one page) ∙ rw some refl

-- pages that no frame holds change nothing
pages_skip : (contents : List ℕ) (first n above more : ℕ) → HoldsNone contents first n above (above + more + 1) → latest_pages contents first n (above + more) ≡ latest_pages contents first n above
pages_skip contents first n above zero h = ap (λ (m : ℕ). latest_pages contents first n m) (omega arith)
pages_skip contents first n above (suc more) h =
    let page = above + more + 1 in
    let none : change_frame contents page first n ≡ None = h.none page (omega arith) (omega (arith, add-one more)) in
    ap (λ (m : ℕ). latest_pages contents first n m) (omega (arith, add-one more))
    ∙ pages_none contents first n (above + more) none
    ∙ pages_skip contents first n above more (record { none = λ other from to. h.none other from (omega (arith, add-one more)) })

-- the pages up to the one that was found
pub pages_next : (contents : List ℕ) (first n above commit page frame : ℕ) → IsLeast contents first n above commit page frame
    → latest_pages contents first n page ≡ latest_pages contents first n above ++ write_in contents page frame ∷ []
pages_next contents first n above commit page frame h =
    let more = page - 1 - above in
    let over = h.over in
    let page_is : above + more + 1 ≡ page = omega arith in
    let skipped : latest_pages contents first n (above + more) ≡ latest_pages contents first n above = pages_skip contents first n above more (rw page_is h.between) in
    let some : change_frame contents (above + more + 1) first n ≡ Some frame = rw page_is h.latest in
    ap (λ (m : ℕ). latest_pages contents first n m) (sym page_is) ∙ pages_push contents first n (above + more) frame some ∙ rw (skipped, page_is) refl

-- all pages, where nothing more was found
pub pages_end : (contents : List ℕ) (first n above commit : ℕ) → above ≤ commit → HoldsNone contents first n above (commit + 1)
    → latest_pages contents first n commit ≡ latest_pages contents first n above
pages_end contents first n above commit le h =
    let more = commit - above in
    let all : above + more ≡ commit = omega arith in
    ap (λ (m : ℕ). latest_pages contents first n m) (sym all) ∙ pages_skip contents first n above more (rw all h)

-- no pages yet
pub no_pages : (contents : List ℕ) (first n : ℕ) → latest_pages contents first n 0 ≡ []
unfolding latest_pages
no_pages contents first n = refl

-- a change is its three parts
pub same_change : (change : PageChange) (page_size commit : ℕ) (pages : List PageWrite) → change.page_size ≡ page_size → change.commit ≡ commit → change.pages ≡ pages
    → change ≡ record { page_size = page_size; commit = commit; pages = pages }
same_change change page_size commit pages size-is commit-is pages-is =
    ap (λ (n : ℕ). record { page_size = n; commit = change.commit; pages = change.pages }) size-is
    ∙ ap (λ (n : ℕ). record { page_size = page_size; commit = n; pages = change.pages }) commit-is
    ∙ ap (λ (ws : List PageWrite). record { page_size = page_size; commit = commit; pages = ws }) pages-is

-- the latest frame is one of them
pub latest_among : (contents : List ℕ) (page first n k : ℕ) → latest_frame contents page first n ≡ Some k → k < n
unfolding latest_frame
latest_among contents page first zero k is = absurd cc
latest_among contents page first (suc n) k is = elim (cases_Bool (nat_le first n && (number_in contents n == page))) [
  | inl here ↦ let same : Some n ≡ Some k = sym (cond-true _ _ _ here) ∙ is in let at_k : n ≡ k = cc in omega (arith, at_k, add-one n)
  | inr other ↦ omega (arith, latest_among contents page first n k (sym (cond-false _ _ _ other) ∙ is), add-one n)
]
