-- Pages of a change put in their places one after another, against the change written over the pages as a whole.
use Rattle.std.proofs.Common.{◌≡◌, ℕ, ◌+◌, ◌-◌, ◌<◌, ◌≤◌, true, false, eqb, List, [], ◌∷◌, ◌++◌, inl, inr, length, take, get_or, set, replicate, sym, subst, ap, ◌∙◌, arith}
use Rattle.std.specs.List.{All}
use Rattle.std.proofs.lemmas.List.{get_or_default, length-set, length-take, replicate-append-replicate, set-append_left, set-append_right}
use Rattle.std.proofs.lemmas.List.Elements.{All-nil, All-set, All-head, All-tail}
use Rattle.std.proofs.lemmas.Bool.{cases_eq}
use Rattle.std.proofs.lemmas.Bool.Decides.{nat_tests}
use Rattle.std.proofs.lemmas.Grind.{common_steps}
use Rattle.lf_sqlite_pages.specs.Change.{PageChange, IsChange}
use Rattle.lf_sqlite_pages.specs.Steps.{kept, resized, overwritten, filled, placed}
use Rattle.lf_sqlite_pages.specs.declared.page_write.PageWrite.{PageWrite}
use Rattle.lf_sqlite_pages.proofs.Applying.{WritesWhole, WritesWhole-at}

-- at least as many as before, and at least the count
pub length-filled : (pages : List (List ℕ)) (size count : ℕ) → length (filled pages size count) ≡ length pages + (count - length pages)
length-filled pages size count = grind (arith, common_steps)

-- a list that is long enough stays
pub filled-enough : (pages : List (List ℕ)) (size count : ℕ) → count ≤ length pages → filled pages size count ≡ pages
filled-enough pages size count enough = grind (arith, common_steps)

-- one more page of zeros
filled-more : (pages : List (List ℕ)) (size count : ℕ) → length pages ≤ count →
    filled pages size (count + 1) ≡ filled pages size count ++ replicate size 0 ∷ []
filled-more pages size count short = grind (arith, common_steps)

-- a page at the end is that page over one of zeros
pub placed-at_end : (pages : List (List ℕ)) (size : ℕ) (w : PageWrite) → 1 ≤ w.number → length pages ≤ w.number - 1 →
    filled pages size (w.number - 1) ++ w.bytes ∷ [] ≡ placed pages size w
placed-at_end pages size w first short =
    let number : w.number ≡ w.number - 1 + 1 = omega arith in
    let count : length (filled pages size (w.number - 1)) ≡ w.number - 1 = omega (arith, length-filled pages size (w.number - 1)) in
    let zeros : filled pages size w.number ≡ filled pages size (w.number - 1) ++ replicate size 0 ∷ [] =
    ap (λ n. filled pages size n) number ∙ filled-more pages size (w.number - 1) short
    in
    sym (ap (λ ps. set ps (w.number - 1) w.bytes) zeros
    ∙ set-append_right (filled pages size (w.number - 1)) (replicate size 0 ∷ []) (w.number - 1) (w.number - 1) w.bytes count (omega arith)
    ∙ grind (arith, common_steps))

-- a page within the list is that page over the one that stands there
pub placed-within : (pages : List (List ℕ)) (size : ℕ) (w : PageWrite) → 1 ≤ w.number → w.number - 1 < length pages →
    set pages (w.number - 1) w.bytes ≡ placed pages size w
placed-within pages size w first within = grind (arith, common_steps, filled-enough)

-- a list that is not too long is resized by pages of zeros alone
pub resized-short : (pages : List (List ℕ)) (size count : ℕ) → length pages ≤ count → resized pages size count ≡ filled pages size count
resized-short pages size count short = grind (arith, common_steps)

-- a list is cut once
pub resized-cut : (pages : List (List ℕ)) (size count : ℕ) → resized (take count pages) size count ≡ resized pages size count
resized-cut pages size count = grind (arith, common_steps)

-- pages of zeros added in two steps
filled-twice : (pages : List (List ℕ)) (size few count : ℕ) → few ≤ count → filled (filled pages size few) size count ≡ filled pages size count
filled-twice pages size few count h =
    let left : few - length pages + (count - length (filled pages size few)) ≡ count - length pages = omega (arith, length-filled pages size few) in
    grind (arith, common_steps, replicate-append-replicate)

-- a page put over one that stands, and then pages of zeros added
filled-set : (pages : List (List ℕ)) (size count k : ℕ) (page : List ℕ) → k < length pages →
    filled (set pages k page) size count ≡ set (filled pages size count) k page
filled-set pages size count k page within =
    rw length-set (sym (set-append_left pages (replicate (count - length pages) (replicate size 0)) k page within))

-- a page put in its place, and then the list grown
pub resized-placed : (pages : List (List ℕ)) (size count : ℕ) (w : PageWrite) → 1 ≤ w.number → w.number ≤ count → length pages ≤ count →
    resized (placed pages size w) size count ≡ set (resized pages size count) (w.number - 1) w.bytes
resized-placed pages size count w first last short =
    let there : w.number - 1 < length (filled pages size w.number) = omega (arith, length-filled pages size w.number) in
    let within : length (placed pages size w) ≤ count = omega (arith, length-filled pages size w.number, length-set (filled pages size w.number) (w.number - 1) w.bytes) in
    resized-short (placed pages size w) size count within
    ∙ filled-set (filled pages size w.number) size count (w.number - 1) w.bytes there
    ∙ ap (λ ps. set ps (w.number - 1) w.bytes) (filled-twice pages size w.number count last ∙ sym (resized-short pages size count short))

-- while the writes of a change are put in their places: what is left of them still leads to the pages after the change
pub record Placing (change : PageChange) (before pages : List (List ℕ)) (rest : List PageWrite) : Type 0 where
  pub short : length pages ≤ change.commit
  pub within : All (λ w. WritesWhole change w) rest
  pub leads : overwritten (resized pages change.page_size change.commit) rest ≡ overwritten (resized before change.page_size change.commit) change.pages

-- one more write
pub Placing-more : (change : PageChange) (before pages : List (List ℕ)) (w : PageWrite) (rest : List PageWrite) →
    Placing change before pages (w ∷ rest) → Placing change before (placed pages change.page_size w) rest
Placing-more change before pages w rest so_far =
    let known : WritesWhole change w = All-head (λ v. WritesWhole change v) w rest so_far.within in
    let step : resized (placed pages change.page_size w) change.page_size change.commit
    ≡ set (resized pages change.page_size change.commit) (w.number - 1) w.bytes =
    resized-placed pages change.page_size change.commit w known.first known.last so_far.short
    in
    record {
      short = omega (arith, so_far.short, known.last, length-filled pages change.page_size w.number, length-set (filled pages change.page_size w.number) (w.number - 1) w.bytes);
      within = All-tail (λ v. WritesWhole change v) w rest so_far.within;
      leads = ap (λ ps. overwritten ps rest) step ∙ so_far.leads;
    }

-- nothing was put in its place yet
pub Placing-none : (change : PageChange) (before : List (List ℕ)) (ws : List PageWrite) → IsChange change → ws ≡ change.pages →
    Placing change before (take change.commit before) ws
Placing-none change before ws valid same = record {
  short = omega (arith, length-take change.commit before);
  within = λ k w h. WritesWhole-at change ws valid same k (get_or ws k w) h (get_or_default ws k w (get_or ws k w) h);
  leads = rw same (ap (λ ps. overwritten ps change.pages) (resized-cut before change.page_size change.commit));
}

-- the pages that can stay have the new page size
pub whole-kept : (old_size size : ℕ) (pages : List (List ℕ)) → All (λ page. length page ≡ old_size) pages →
    All (λ page. length page ≡ size) (kept old_size pages size)
whole-kept old_size size pages whole =
    elim (cases_eq old_size size) [
      | inl same ↦
          let test : eqb old_size size ≡ true = grind (arith, nat_tests) in
          rw test (subst (λ n. All (λ page. length page ≡ n) pages) same whole)
      | inr differ ↦
          let test : eqb old_size size ≡ false = grind (arith, nat_tests) in
          rw test (All-nil (λ page. length page ≡ size))
    ]

-- whole pages written over whole pages
pub whole-overwritten : (size : ℕ) (pages : List (List ℕ)) (ws : List PageWrite) → All (λ page. length page ≡ size) pages →
    All (λ w. length w.bytes ≡ size) ws → All (λ page. length page ≡ size) (overwritten pages ws)
whole-overwritten size pages [] whole writes = whole
whole-overwritten size pages (w ∷ ws) whole writes =
    whole-overwritten size (set pages (w.number - 1) w.bytes) ws
    (All-set (λ page. length page ≡ size) pages (w.number - 1) w.bytes (All-head (λ v. length v.bytes ≡ size) w ws writes) whole)
    (All-tail (λ v. length v.bytes ≡ size) w ws writes)
