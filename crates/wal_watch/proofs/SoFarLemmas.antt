-- The pages of the new frames, collected frame by frame; one of which a later frame is known waits for that.
use Rattle.std.proofs.Common.{◌≡◌, ◌⊎◌, ℕ, zero, suc, ◌+◌, ◌≤◌, ◌<◌, ◌&&◌, ◌==◌, Option, Some, None, List, [], refl, sym, ap, ◌∙◌, inl, inr, arith, nat_le}
use Rattle.std.specs.Map.{lookup}
use Rattle.std.specs.BTreeMap.{BTreeMap, Updates, is_at}
use Rattle.std.specs.Ordering.{nat_cmp}
use Rattle.std.proofs.lemmas.Bool.{cases_lt, cases_eq, cases_Bool, cond-true, cond-false, and_parts, eqb-true}
use Rattle.lf_sqlite_pages.specs.LockPage.{lock_page_of}
use Rattle.wal_watch.specs.Frames.{number_in, page_size_in}
use Rattle.wal_watch.specs.News.{latest_frame}
use Rattle.wal_watch.specs.Searching.{frame_within, IsBefore, HoldsPages, HoldsSoFar}
use Rattle.wal_watch.proofs.ChangeLemmas.{latest_among, change_lock, change_here, change_other}
use Rattle.wal_watch.proofs.TakenLemmas.{within_is, past_is, within_start, other_key}

-- the latest frame of a page holds it
latest_holds : (contents : List ℕ) (page first n k : ℕ) → latest_frame contents page first n ≡ Some k → number_in contents k ≡ page
unfolding latest_frame
latest_holds contents page first zero k is = absurd cc
latest_holds contents page first (suc n) k is = elim (cases_Bool (nat_le first n && (number_in contents n == page))) [
  | inl here ↦
      let same : Some n ≡ Some k = sym (cond-true _ _ _ here) ∙ is in
      let at_k : n ≡ k = cc in
      rw (← at_k) (eqb-true (number_in contents n) page (and_parts _ _ here).1)
  | inr other ↦ latest_holds contents page first n k (sym (cond-false _ _ _ other) ∙ is)
]

-- a page that the change does not take has no frame
not_taken : (contents : List ℕ) (commit first n q : ℕ) → (q ≤ commit → (q ≡ lock_page_of (page_size_in contents) → ⊥) → ⊥) → frame_within contents commit first n q ≡ None
not_taken contents commit first n q out = elim (cases_lt commit q) [
  | inl past ↦ past_is contents commit first n q past
  | inr low ↦ elim (cases_eq q (lock_page_of (page_size_in contents))) [
    | inl lock ↦ within_is contents commit first n q low ∙ change_lock contents q first n lock
    | inr apart ↦ absurd (out low apart)
  ]
]

-- a frame of another page changes nothing
step_over : (contents : List ℕ) (commit first k q : ℕ) → (number_in contents k ≡ q → q ≤ commit → (q ≡ lock_page_of (page_size_in contents) → ⊥) → ⊥)
    → frame_within contents commit first (k + 1) q ≡ frame_within contents commit first k q
step_over contents commit first k q out = elim (cases_lt commit q) [
  | inl past ↦ past_is contents commit first (k + 1) q past ∙ sym (past_is contents commit first k q past)
  | inr low ↦ elim (cases_eq q (lock_page_of (page_size_in contents))) [
    | inl lock ↦
        within_is contents commit first (k + 1) q low ∙ change_lock contents q first (k + 1) lock
        ∙ sym (within_is contents commit first k q low ∙ change_lock contents q first k lock)
    | inr apart ↦
        within_is contents commit first (k + 1) q low ∙ change_other contents q first k (λ own. absurd (out own low apart)) ∙ sym (within_is contents commit first k q low)
  ]
]

split : (o : Option ℕ) → (o ≡ None) ⊎ ((l : ℕ) × (o ≡ Some l))
split None = inl refl
split (Some l) = inr (l, refl)

-- a frame before another
never_before : (k : ℕ) (o : Option ℕ) → o ≡ None → IsBefore k o → ⊥
never_before k None is before = before
never_before k (Some l) is before = absurd cc

before_some : (k l : ℕ) (o : Option ℕ) → o ≡ Some l → IsBefore k o → k < l
before_some k l None is before = absurd before
before_some k l (Some m) is before = let same : m ≡ l = cc in omega (arith, same, before)

some_before : (k l : ℕ) (o : Option ℕ) → o ≡ Some l → k < l → IsBefore k o
some_before k l None is below = absurd cc
some_before k l (Some m) is below = let same : m ≡ l = cc in omega (arith, same, below)

pub same_before : (k : ℕ) (a b : Option ℕ) → a ≡ b → IsBefore k a → IsBefore k b
same_before k a b is before = rw (← is) before

-- before the first frame the map is empty
pub so_far_start : (contents : List ℕ) (commit first indexed : ℕ) (pages : BTreeMap ℕ ℕ) → pages.entries ≡ [] → HoldsSoFar contents commit first first indexed pages
so_far_start contents commit first indexed pages empty = record {
  coming = λ page l is le. ap (λ (es : List (ℕ × ℕ)). lookup (is_at (nat_cmp page)) es) empty;
  at = λ page late. (within_start contents commit first pages empty).at page;
}

-- at the end nothing is still to come
pub so_far_all : (contents : List ℕ) (commit first n indexed : ℕ) (pages : BTreeMap ℕ ℕ) → HoldsSoFar contents commit first n indexed pages → indexed ≤ n
    → HoldsPages contents commit first n pages
so_far_all contents commit first n indexed pages h few = record {
  at = λ page. h.at page (λ l is. omega (arith, latest_among contents page 0 indexed l is, few));
}

-- a frame of a data page within the commit goes into the map, where none of its page is to come
pub so_far_more : (contents : List ℕ) (commit first k indexed page : ℕ) (old new : BTreeMap ℕ ℕ) → HoldsSoFar contents commit first k indexed old → first ≤ k
    → page ≡ number_in contents k → page ≤ commit → (page ≡ lock_page_of (page_size_in contents) → ⊥) → (IsBefore k (latest_frame contents page 0 indexed) → ⊥)
    → Updates nat_cmp old new page (Some k) → HoldsSoFar contents commit first (k + 1) indexed new
so_far_more contents commit first k indexed page old new h from is low apart last put = record {
  coming = λ q l known le. elim (cases_eq page q) [
    | inl same ↦
        let there : latest_frame contents page 0 indexed ≡ Some l = ap (λ (m : ℕ). latest_frame contents m 0 indexed) same ∙ known in
        absurd (last (some_before k l _ there (omega (arith, le))))
    | inr other ↦ put.2 q (other_key page q other) ∙ h.coming q l known (omega (arith, le))
  ];
  at = λ q late. elim (cases_eq page q) [
    | inl same ↦ rw (← same) (put.1 ∙ sym (within_is contents commit first (k + 1) page low ∙ change_here contents page first k from apart (sym is)))
    | inr other ↦
        let before : (l : ℕ) → latest_frame contents q 0 indexed ≡ Some l → l < k = λ l known. elim (cases_eq l k) [
          | inl at_k ↦ absurd (other (is ∙ ap (λ (m : ℕ). number_in contents m) (sym at_k) ∙ latest_holds contents q 0 indexed l known))
          | inr below ↦ omega (arith, late l known, below)
        ] in
        put.2 q (other_key page q other) ∙ h.at q before ∙ sym (step_over contents commit first k q (λ own low whole. other (is ∙ own)))
  ];
}

-- another frame is passed over
pub so_far_same : (contents : List ℕ) (commit first k indexed page : ℕ) (pages : BTreeMap ℕ ℕ) → HoldsSoFar contents commit first k indexed pages
    → page ≡ number_in contents k → (page ≤ commit → (page ≡ lock_page_of (page_size_in contents) → ⊥) → IsBefore k (latest_frame contents page 0 indexed))
    → HoldsSoFar contents commit first (k + 1) indexed pages
so_far_same contents commit first k indexed page pages h is out = record {
  coming = λ q l known le. h.coming q l known (omega (arith, le));
  at = λ q late.
      let of_page : number_in contents k ≡ q → page ≡ q = λ own. is ∙ own in
      let out_of : page ≡ q → q ≤ commit → (q ≡ lock_page_of (page_size_in contents) → ⊥) → IsBefore k (latest_frame contents q 0 indexed) =
      λ same low apart. rw (← same) (out (omega (arith, same, low)) (λ lock. apart (sym same ∙ lock))) in
      elim (split (latest_frame contents q 0 indexed)) [
        | inl none ↦
            h.at q (λ l known. absurd (let both : None ≡ Some l = sym none ∙ known in cc))
            ∙ sym (step_over contents commit first k q (λ own low apart.
            never_before k _ none (out_of (of_page own) low apart)))
        | inr (l, known) ↦ elim (cases_eq l k) [
          | inl at_k ↦
              let here : latest_frame contents q 0 indexed ≡ Some k = known ∙ ap (λ (m : ℕ). Some m) at_k in
              let same : page ≡ q = is ∙ latest_holds contents q 0 indexed k here in
              h.coming q k here (omega arith) ∙ sym (not_taken contents commit first (k + 1) q (λ low apart.
              let before : k < k = before_some k k _ here (out_of same low apart) in
              omega (arith, before)))
          | inr other ↦
              let below : l < k = omega (arith, late l known, other) in
              h.at q (λ m known'. let both : Some l ≡ Some m = sym known ∙ known' in let eq : l ≡ m = cc in omega (arith, eq, below))
              ∙ sym (step_over contents commit first k q (λ own low apart.
              let before : k < l = before_some k l _ known (out_of (of_page own) low apart) in
              omega (arith, before, below)))
        ]
      ];
}
