-- The pages of the new frames, collected in a map and taken out of it in order.
use Rattle.std.proofs.Common.{◌≡◌, ℕ, zero, suc, ◌+◌, ◌≤◌, ◌<◌, ◌&&◌, ◌==◌, cond, Option, Some, None, true, false, List, [], ◌∷◌, ◌++◌, refl, sym, ap, ◌∙◌, inl, inr, add-one, arith, nat_lt, not}
use Rattle.std.specs.Option.{is_some}
use Rattle.std.specs.Map.{lookup}
use Rattle.std.specs.BTreeMap.{BTreeMap, get, IsLowerBound, Updates, is_at, btree_map_len}
use Rattle.std.specs.Ordering.{nat_cmp, is_eq}
use Rattle.std.specs.declared.cmp.Ordering.{Ordering}
use Rattle.std.specs.declared.cmp.Ordering.TheVariants.{Less, Equal, Greater}
use Rattle.std.proofs.lemmas.Bool.{cases_lt, cases_eq, cases_Bool, cond-true, cond-false, le-leb, ne_eqb, eq-eqb, lt-leb, and_parts, not_from_true}
use Rattle.std.proofs.lemmas.Map.Keys.{le_from_not_gt}
use Rattle.std.proofs.lemmas.List.{nil_from_length}
use Rattle.lf_base.specs.Endian.{be32_at}
use Rattle.lf_sqlite_pages.specs.Change.{PageChange, last_number}
use Rattle.lf_sqlite_pages.specs.LockPage.{lock_page_of, IsDataPage}
use Rattle.lf_sqlite_pages.specs.declared.page_write.PageWrite.{PageWrite}
use Rattle.wal_watch.specs.Frames.{number_in, page_size_in, page_in, is_frame, is_frame_at, is_head, frame_place, are_valid}
use Rattle.wal_watch.specs.News.{latest_frame, change_frame, latest_pages, write_in}
use Rattle.wal_watch.specs.Searching.{frame_within, HoldsPages, HoldsNone, IsLeast, AreTaken}
use Rattle.wal_watch.proofs.Steps.{valid_more}
use Rattle.wal_watch.proofs.ChangeLemmas.{latest_other, latest_none, latest_among, change_data, change_lock, change_none, no_pages, pages_next, pages_end}

-- a page within the commit, and one past it
pub within_is : (contents : List ℕ) (commit first n page : ℕ) → page ≤ commit → frame_within contents commit first n page ≡ change_frame contents page first n
unfolding frame_within
within_is contents commit first n page le = cond-true _ _ _ (le-leb page commit le)

pub past_is : (contents : List ℕ) (commit first n page : ℕ) → commit < page → frame_within contents commit first n page ≡ None
unfolding frame_within
past_is contents commit first n page past = cond-false _ _ _ (lt-leb page commit past)

-- what a change takes from a frame is a data page, and the frame is the latest of it
change_some : (contents : List ℕ) (page first n k : ℕ) → change_frame contents page first n ≡ Some k → IsDataPage (page_size_in contents) page × (latest_frame contents page first n ≡ Some k)
change_some contents page first n k is = elim (cases_eq page (lock_page_of (page_size_in contents))) [
  | inl lock ↦ absurd (let none : None ≡ Some k = sym (change_lock contents page first n lock) ∙ is in cc)
  | inr holds ↦ (holds, sym (change_data contents page first n holds) ∙ is)
]

-- before the first frame the map is empty
pub within_start : (contents : List ℕ) (commit first : ℕ) (pages : BTreeMap ℕ ℕ) → pages.entries ≡ [] → HoldsPages contents commit first first pages
within_start contents commit first pages empty = record {
  at = λ page. ap (λ (es : List (ℕ × ℕ)). lookup (is_at (nat_cmp page)) es) empty ∙ sym (elim (cases_lt commit page) [
    | inl past ↦ past_is contents commit first first page past
    | inr le ↦ within_is contents commit first first page le ∙ change_none contents page first first (omega arith)
  ]);
}

-- a key that is another
pub other_key : (a b : ℕ) → (a ≡ b → ⊥) → is_eq (nat_cmp a b) ≡ false
other_key a b other = elim (cases_Bool (nat_lt a b)) [
  | inl below ↦ ap (λ (o : Ordering). is_eq o) (cond-true (nat_lt a b) Less (cond (a == b) Equal Greater) below)
  | inr above ↦ ap (λ (o : Ordering). is_eq o) (cond-false (nat_lt a b) Less (cond (a == b) Equal Greater) above ∙ cond-false (a == b) Equal Greater (ne_eqb a b other))
]

-- no committed frame holds page 0
head_numbered : (contents : List ℕ) (place : ℕ) → is_head contents place ≡ true → be32_at place contents ≡ 0 → ⊥
unfolding is_head
head_numbered contents place h zero_is =
    let off : not (be32_at place contents == 0) ≡ false = not_from_true _ (eq-eqb (be32_at place contents) 0 zero_is) in
    let on : not (be32_at place contents == 0) ≡ true =
    (and_parts (not (be32_at place contents == 0)) ((be32_at (place + 8) contents == be32_at 16 contents) && (be32_at (place + 12) contents == be32_at 20 contents)) h).0 in
    cc (off, on)

frame_numbered : (contents : List ℕ) (k : ℕ) → is_frame contents k ≡ true → number_in contents k ≡ 0 → ⊥
unfolding is_frame_at
frame_numbered contents k h = head_numbered contents (frame_place contents k) (and_parts _ _ (and_parts _ _ h).1).0

pub none_zero : (contents : List ℕ) (first n : ℕ) → are_valid contents n ≡ true → latest_frame contents 0 first n ≡ None
none_zero contents first zero valid = latest_none contents 0 first 0 (omega arith)
none_zero contents first (suc k) valid =
    let parts = and_parts _ _ (sym (valid_more contents k) ∙ ap (λ (m : ℕ). are_valid contents m) (add-one k) ∙ valid) in
    ap (λ (m : ℕ). latest_frame contents 0 first m) (sym (add-one k)) ∙ latest_other contents 0 first k (frame_numbered contents k parts.1) ∙ none_zero contents first k parts.0

zero_within : (contents : List ℕ) (commit first n : ℕ) → are_valid contents n ≡ true → frame_within contents commit first n 0 ≡ None
zero_within contents commit first n valid =
    within_is contents commit first n 0 (omega arith) ∙ elim (cases_eq 0 (lock_page_of (page_size_in contents))) [
      | inl lock ↦ change_lock contents 0 first n lock
      | inr holds ↦ change_data contents 0 first n holds ∙ none_zero contents first n valid
    ]

-- no page is taken yet
pub taken_none : (contents : List ℕ) (commit first n : ℕ) (pages : BTreeMap ℕ ℕ) (change : PageChange) → are_valid contents n ≡ true → HoldsPages contents commit first n pages
    → change ≡ record { page_size = page_size_in contents; commit = commit; pages = [] } → AreTaken contents commit first n pages change
taken_none contents commit first n pages change valid h is = rw is record {
  taken = sym (no_pages contents first n);
  page_size = refl;
  of_size = refl;
  within = omega arith;
  gone = λ page low. let zero_is : page ≡ 0 = omega arith in h.at page ∙ ap (λ (q : ℕ). frame_within contents commit first n q) zero_is ∙ zero_within contents commit first n valid;
  left = λ page over. h.at page;
}

none_or : (o : Option ℕ) → (is_some o ≡ true → ⊥) → o ≡ None
none_or None never = refl
none_or (Some k) never = absurd (never refl)

-- below the least key there is none
below_least : (pages : BTreeMap ℕ ℕ) (least q : ℕ) → IsLowerBound nat_cmp pages least → q < least → get nat_cmp pages q ≡ None
below_least pages least q bound below = none_or (get nat_cmp pages q) (λ some. let up = le_from_not_gt least q (bound q some) in omega (arith, up, below))

-- the first page of the map is the next of the change
pub taken_least : (contents : List ℕ) (commit first n : ℕ) (pages : BTreeMap ℕ ℕ) (change : PageChange) (number frame : ℕ) → AreTaken contents commit first n pages change
    → get nat_cmp pages number ≡ Some frame → IsLowerBound nat_cmp pages number → IsLeast contents first n (last_number change.pages) commit number frame
taken_least contents commit first n pages change number frame h value least =
    let above = last_number change.pages in
    let over : last_number change.pages < number = elim (cases_lt (last_number change.pages) number) [
      | inl more ↦ more
      | inr low ↦ absurd (let none : None ≡ Some frame = sym (h.gone number low) ∙ value in cc)
    ] in
    let here : frame_within contents commit first n number ≡ Some frame = sym (h.left number over) ∙ value in
    let low : number ≤ commit = elim (cases_lt commit number) [
      | inl past ↦ absurd (let none : None ≡ Some frame = sym (past_is contents commit first n number past) ∙ here in cc)
      | inr less ↦ less
    ] in
    let latest : change_frame contents number first n ≡ Some frame = sym (within_is contents commit first n number low) ∙ here in
    let parts = change_some contents number first n frame latest in
    record {
      over = over;
      within = low;
      among = latest_among contents number first n frame parts.1;
      holds_data = parts.0;
      latest = latest;
      between = record {
        none = λ q from to.
            sym (within_is contents commit first n q (omega (arith, to, low))) ∙ sym (h.left q from) ∙ below_least pages number q least to;
      };
    }

-- and once it is taken the map has the others
pub taken_more : (contents : List ℕ) (commit first n : ℕ) (old new : BTreeMap ℕ ℕ) (before after : PageChange) (number frame : ℕ) → AreTaken contents commit first n old before
    → get nat_cmp old number ≡ Some frame → IsLowerBound nat_cmp old number → Updates nat_cmp old new number None
    → after ≡ record before { pages = before.pages ++ record { number = number; bytes = page_in contents frame } ∷ [] } → last_number after.pages ≡ number
    → AreTaken contents commit first n new after
taken_more contents commit first n old new before after number frame h value least cut is last =
    let here = taken_least contents commit first n old before number frame h value least in
    let pages-is : after.pages ≡ before.pages ++ write_in contents number frame ∷ [] = ap (λ (ch : PageChange). ch.pages) is in
    record {
      taken =
          pages-is
          ∙ ap (λ (ws : List PageWrite). ws ++ write_in contents number frame ∷ []) h.taken
          ∙ sym (pages_next contents first n (last_number before.pages) commit number frame here)
          ∙ ap (λ (m : ℕ). latest_pages contents first n m) (sym last);
      page_size = ap (λ (ch : PageChange). ch.page_size) is ∙ h.page_size;
      of_size = ap (λ (ch : PageChange). ch.commit) is ∙ h.of_size;
      within = omega (arith, last, here.within);
      gone = λ q low. elim (cases_eq number q) [
        | inl same ↦ rw (← same) cut.1
        | inr apart ↦ cut.2 q (other_key number q apart) ∙ elim (cases_lt (last_number before.pages) q) [
          | inl over ↦ below_least old number q least (omega (arith, apart, low, last))
          | inr under ↦ h.gone q under
        ]
      ];
      left = λ q over.
          cut.2 q (other_key number q (λ same. omega (arith, same, over, last))) ∙ h.left q (omega (arith, over, last, here.over));
    }

-- where the map is empty the change is whole
pub taken_all : (contents : List ℕ) (commit first n : ℕ) (pages : BTreeMap ℕ ℕ) (change : PageChange) → AreTaken contents commit first n pages change → btree_map_len pages ≡ 0
    → change ≡ record { page_size = page_size_in contents; commit = commit; pages = latest_pages contents first n commit }
taken_all contents commit first n pages change h none =
    let empty : pages.entries ≡ [] = nil_from_length pages.entries none in
    let rest : HoldsNone contents first n (last_number change.pages) (commit + 1) = record {
      none = λ q from to.
          sym (within_is contents commit first n q (omega (arith, to))) ∙ sym (h.left q from) ∙ ap (λ (es : List (ℕ × ℕ)). lookup (is_at (nat_cmp q)) es) empty;
    } in
    ap (λ (m : ℕ). record { page_size = m; commit = change.commit; pages = change.pages }) h.page_size
    ∙ ap (λ (m : ℕ). record { page_size = page_size_in contents; commit = m; pages = change.pages }) h.of_size
    ∙ ap (λ (ws : List PageWrite). record { page_size = page_size_in contents; commit = commit; pages = ws })
    (h.taken ∙ sym (pages_end contents first n (last_number change.pages) commit h.within rest))

-- the same at a size that is another's
pub same_pages : (contents : List ℕ) (first n commit size : ℕ) → commit ≡ size
    → ◌≡◌ {A = PageChange} (record { page_size = page_size_in contents; commit = commit; pages = latest_pages contents first n commit })
    (record { page_size = page_size_in contents; commit = size; pages = latest_pages contents first n size })
same_pages contents first n commit size is = ap (λ (m : ℕ). record { page_size = page_size_in contents; commit = m; pages = latest_pages contents first n m }) is
