-- What the file reads as once pages were written, and what it keeps.
use Rattle.std.proofs.Common.{◌≡◌, ◌≢◌, ℕ, ◌+◌, ◌-◌, ◌*◌, ◌/◌, ◌<◌, ◌≤◌, length, List, map, replicate, Bool, true, false, inl, inr, ◌⊎◌, Option, Some, None, refl, sym, ap, ◌∙◌, subst, arith, unwrap_or, min, max, eqb, get_or, length-take, length-drop}
use Rattle.std.specs.Prelude.{IfSome, nat_le, nat_lt, ◌&&◌}
use Rattle.std.specs.List.{slice_get, range_with_len}
use Rattle.std.proofs.lemmas.Bool.{cases_lt}
use Rattle.std.proofs.lemmas.Bool.Decides.{nat_tests}
use Rattle.std.proofs.lemmas.List.{same_lists, length-replicate}
use Rattle.std.proofs.lemmas.List.FromFn.{length-map-range_with_len, get_or-map-range_with_len}
use Rattle.std.proofs.lemmas.Option.{slice_get-get_or}
use Rattle.std.specs.FinMap as pages
use Rattle.std.proofs.lemmas.Nat.{mul-le}
use Rattle.std.proofs.lemmas.Grind.{common_steps}
use Rattle.lf_sqlite_pages.specs.LockPage.{IsDataPage}
use Rattle.lf_sqlite_pages.specs.Image.{DatabaseImage, page_at}
use Rattle.lf_sqlite_pages.proofs.PageNumbers.{page_at-first, page_at-past}
use Rattle.database_file.specs.DatabaseFile.{DatabaseFile, size_over, size_of, count_over, count_of, page_of, as_read, FitsShape, KeepsDifferences}
use Rattle.database_file.specs.Writing.{page_or_zeros, page_in, page_written, with_pages, sized, AreDataPages, TakesPages}
use Rattle.database_file.specs.WritingParts.{Pages, counted, KeepsZeros, MayKeepZeros, TellAllSame, ArePut}
use Rattle.database_file.proofs.ZeroLemmas.{get_cut}

-- the count as it is kept is the count
pub counted-over : (count commit : ℕ) → unwrap_or (counted count commit) commit ≡ count
counted-over count commit = grind (arith, nat_tests)

-- and it is another than the image's
pub counted-differs : (count commit : ℕ) → counted count commit ≢ Some commit
counted-differs count commit h = grind (arith, nat_tests)

-- the page size over an image, once it is the image's wherever that has pages
pub size-settled : (kept : Pages) (count : Option ℕ) (size page_size commit : ℕ) → (0 < commit → size ≡ page_size) →
    size_over (record { kept = kept; page_size = size; count = count }) page_size commit ≡ size
size-settled kept count size page_size commit same = elim (cases_lt 0 commit) [
  | inl some ↦
      let test : eqb commit 0 ≡ false = grind (arith, nat_tests) in
      rw test (sym (same some))
  | inr none ↦
      let test : eqb commit 0 ≡ true = grind (arith, nat_tests) in
      rw test refl
]

-- each page of the file as it reads
pub read-at : (file : DatabaseFile) (image : DatabaseImage) (n : ℕ) → 1 ≤ n → n ≤ count_of file image → page_at (as_read file image) n ≡ Some (page_of file image n)
read-at file image n first last =
    let all : List (List ℕ) = (as_read file image).pages in
    let inside : n - 1 < length all = rw length-map-range_with_len (omega arith) in
    page_at-first (as_read file image) n first
    ∙ slice_get-get_or all (n - 1) (page_of file image n) inside
    ∙ ap Some (get_or-map-range_with_len (page_of file image) 1 (count_of file image) (n - 1) n (page_of file image n) (omega arith) (omega arith))

pub length-read : (file : DatabaseFile) (image : DatabaseImage) → length (as_read file image).pages ≡ count_of file image
length-read file image = length-map-range_with_len (page_of file image) 1 (count_of file image)

pub read-past : (file : DatabaseFile) (image : DatabaseImage) (n : ℕ) → count_of file image < n → page_at (as_read file image) n ≡ None
read-past file image n past = page_at-past (as_read file image) n (rw length-read past)

-- functions that agree give the same pages
pub same-pages : (f g : ℕ → List ℕ) (count : ℕ) → ((n : ℕ) → 1 ≤ n → n ≤ count → f n ≡ g n) → map f (range_with_len 1 count) ≡ map g (range_with_len 1 count)
same-pages f g count same =
    same_lists (map f (range_with_len 1 count)) (map g (range_with_len 1 count))
    (length-map-range_with_len f 1 count ∙ sym (length-map-range_with_len g 1 count))
    (λ k d h.
    let inside : k < count = rw length-map-range_with_len at h in
    get_or-map-range_with_len f 1 count k (k + 1) d inside (omega arith) ∙ same (k + 1) (omega arith) (omega (arith, inside))
    ∙ sym (get_or-map-range_with_len g 1 count k (k + 1) d inside (omega arith)))

-- nothing is kept past the file
pub none-past : (file : DatabaseFile) (page_size commit n : ℕ) → FitsShape file page_size commit → count_over file commit < n → pages.get file.kept n ≡ None
none-past file page_size commit n fits past = looked (pages.get file.kept n) refl where
  looked : (o : Option (List ℕ)) → pages.get file.kept n ≡ o → pages.get file.kept n ≡ None
  looked None e = e
  looked (Some page) e = absurd (omega (arith, past, (fits.within n page e).1))

-- what is kept once zeros were
pub zeros-cases : (file : DatabaseFile) (page_size commit to size n : ℕ) (mid : Pages) (page : List ℕ) → FitsShape file page_size commit →
    MayKeepZeros file.kept (count_over file commit) to size mid → pages.get mid n ≡ Some page →
    (pages.get file.kept n ≡ Some page) ⊎ ((count_over file commit < n) × (n ≤ to) × (page ≡ replicate size 0) × IsDataPage size n)
zeros-cases file page_size commit to size n mid page fits zeros is = elim (cases_lt (count_over file commit) n) [
  | inr within ↦ inl (sym (zeros.before n within) ∙ is)
  | inl past ↦ elim (cases_lt to n) [
    | inl behind ↦ inl (sym (zeros.behind n past behind) ∙ is)
    | inr there ↦ let both = zeros.zeros n page past there is in inr (past, there, both.0, both.1)
  ]
]

-- a page as it reads once zeros were kept: as before, and zeros past the old end
pub zeros-page : (file : DatabaseFile) (image : DatabaseImage) (to size n : ℕ) (mid : Pages) → FitsShape file image.page_size (length image.pages) →
    (0 < count_of file image → size ≡ size_of file image) →
    MayKeepZeros file.kept (count_of file image) to size mid → KeepsZeros mid (count_of file image) to size image →
    1 ≤ n → ((n ≤ count_of file image) ⊎ (n ≤ to) ⊎ (length image.pages < n)) →
    unwrap_or (pages.get mid n) (page_or_zeros image size n) ≡ page_or_zeros (as_read file image) size n
zeros-page file image to size n mid fits same zeros kept first reach = elim (cases_lt (count_of file image) n) [
  | inr within ↦
      let sizes : size ≡ size_of file image = same (omega (arith, first, within)) in
      rw (zeros.before n within, read-at file image n first within, sizes) refl
  | inl past ↦ elim (cases_lt to n) [
    | inr there ↦ rw (read-past file image n past) (kept n past there).read
    | inl behind ↦
        let outside : length image.pages < n = elim reach [
          | inl low ↦ absurd (omega (arith, low, past))
          | inr (inl low) ↦ absurd (omega (arith, low, behind))
          | inr (inr beyond) ↦ beyond
        ] in
        rw (zeros.behind n past behind, none-past file image.page_size (length image.pages) n fits past, read-past file image n past, page_at-past image n outside) refl
  ]
]

-- the file after a change of size
abbrev pub resized_file : Pages → ℕ → ℕ → ℕ → DatabaseFile
resized_file mid size commit count = record { kept = pages.retain_keys mid (λ n. nat_le n count); page_size = size; count = counted count commit }

get-within : (m : Pages) (count n : ℕ) → n ≤ count → pages.get (pages.retain_keys m (λ k. nat_le k count)) n ≡ pages.get m n
get-within m count n within =
    let test : nat_le n count ≡ true = grind (arith, nat_tests) in
    get_cut m count n ∙ rw test refl

kept-within : (m : Pages) (count n : ℕ) (page : List ℕ) → pages.get (pages.retain_keys m (λ k. nat_le k count)) n ≡ Some page → (n ≤ count) × (pages.get m n ≡ Some page)
kept-within m count n page is = elim (cases_lt count n) [
  | inl past ↦
      let test : nat_le n count ≡ false = grind (arith, nat_tests) in
      let none : pages.get (pages.retain_keys m (λ k. nat_le k count)) n ≡ None = get_cut m count n ∙ rw test refl in
      absurd (cc (none, is))
  | inr within ↦ (within, sym (get-within m count n within) ∙ is)
]

pub resized-reads : (file : DatabaseFile) (image : DatabaseImage) (size count : ℕ) (mid : Pages) → FitsShape file image.page_size (length image.pages) →
    TakesPages file image.page_size (length image.pages) size →
    MayKeepZeros file.kept (count_of file image) (min count (length image.pages)) size mid →
    KeepsZeros mid (count_of file image) (min count (length image.pages)) size image →
    as_read (resized_file mid size (length image.pages) count) image ≡ sized (as_read file image) size count
resized-reads file image size count mid fits takes zeros kept =
    let commit : ℕ = length image.pages in
    let new : DatabaseFile = resized_file mid size commit count in
    let own : size_of new image ≡ size = size-settled new.kept new.count size image.page_size commit takes.of_the_image in
    let all : count_of new image ≡ count = counted-over count commit in
    let same : map (page_of new image) (range_with_len 1 count) ≡ map (page_or_zeros (as_read file image) size) (range_with_len 1 count) =
    same-pages (page_of new image) (page_or_zeros (as_read file image) size) count
    (λ n first last.
    let reach : (n ≤ count_of file image) ⊎ (n ≤ min count commit) ⊎ (commit < n) = elim (cases_lt commit n) [
      | inl past ↦ inr (inr past)
      | inr within ↦ inr (inl (omega (arith, last, within)))
    ] in
    rw (get-within mid count n last, own) (zeros-page file image (min count commit) size n mid fits takes.of_the_file zeros kept first reach))
    in
    rw (own, all, same) refl

pub resized-fits : (file : DatabaseFile) (page_size commit size count : ℕ) (mid : Pages) → FitsShape file page_size commit → TakesPages file page_size commit size →
    MayKeepZeros file.kept (count_over file commit) (min count commit) size mid → FitsShape (resized_file mid size commit count) page_size commit
resized-fits file page_size commit size count mid fits takes zeros =
    let new : DatabaseFile = resized_file mid size commit count in
    let own : size_over new page_size commit ≡ size = size-settled new.kept new.count size page_size commit takes.of_the_image in
    let all : count_over new commit ≡ count = counted-over count commit in
    let old_size : (n : ℕ) (page : List ℕ) → pages.get file.kept n ≡ Some page → size ≡ size_over file page_size commit =
    λ n page is. takes.of_the_file (omega (arith, (fits.within n page is).0, (fits.within n page is).1)) in
    record {
      sized = λ _. rw own takes.sqlite;
      whole = λ n page is. elim (zeros-cases file page_size commit (min count commit) size n mid page fits zeros (kept-within mid count n page is).1) [
        | inl stood ↦ fits.whole n page stood ∙ sym (old_size n page stood) ∙ sym own
        | inr zero ↦ ap length zero.2 ∙ length-replicate size 0 ∙ sym own
      ];
      within = λ n page is.
          let low : n ≤ count_over new commit = rw all (kept-within mid count n page is).0 in
          elim (zeros-cases file page_size commit (min count commit) size n mid page fits zeros (kept-within mid count n page is).1) [
            | inl stood ↦ ((fits.within n page stood).0, low)
            | inr zero ↦ (omega (arith, zero.0), low)
          ];
      data_pages = λ n page is. elim (zeros-cases file page_size commit (min count commit) size n mid page fits zeros (kept-within mid count n page is).1) [
        | inl stood ↦ rw (own, old_size n page stood) (fits.data_pages n page stood)
        | inr zero ↦ rw own zero.3
      ];
      count = counted-differs count commit;
    }

pub resized-differs : (file : DatabaseFile) (image : DatabaseImage) (size count : ℕ) (mid : Pages) → FitsShape file image.page_size (length image.pages) →
    MayKeepZeros file.kept (count_of file image) (min count (length image.pages)) size mid →
    KeepsZeros mid (count_of file image) (min count (length image.pages)) size image →
    KeepsDifferences file image → KeepsDifferences (resized_file mid size (length image.pages) count) image
resized-differs file image size count mid fits zeros kept old = record {
  pages = λ n page is.
      let there : pages.get mid n ≡ Some page = (kept-within mid count n page is).1 in
      elim (zeros-cases file image.page_size (length image.pages) (min count (length image.pages)) size n mid page fits zeros there) [
        | inl stood ↦ old.pages n page stood
        | inr zero ↦ (kept n zero.0 zero.1).differ page there
      ];
}

-- the same where the image is told, and the new file is given by an equation
pub told-resized : (told : Option DatabaseImage) (file new : DatabaseFile) (page_size commit size count : ℕ) (mid : Pages) →
    IfSome told (λ i. page_size ≡ i.page_size) → IfSome told (λ i. commit ≡ length i.pages) → FitsShape file page_size commit → TakesPages file page_size commit size →
    MayKeepZeros file.kept (count_over file commit) (min count commit) size mid →
    IfSome told (KeepsZeros mid (count_over file commit) (min count commit) size) →
    new ≡ resized_file mid size commit count → IfSome told (λ i. as_read new i ≡ sized (as_read file i) size count)
told-resized None file new page_size commit size count mid t1 t2 fits takes zeros kept is = tt
told-resized (Some i) file new page_size commit size count mid t1 t2 fits takes zeros kept is =
    let fits_i = subst (λ (p : ℕ). FitsShape file p (length i.pages)) t1 (subst (λ (c : ℕ). FitsShape file page_size c) t2 fits) in
    let takes_i = subst (λ (p : ℕ). TakesPages file p (length i.pages) size) t1 (subst (λ (c : ℕ). TakesPages file page_size c size) t2 takes) in
    let zeros_i = subst (λ (c : ℕ). MayKeepZeros file.kept (count_over file c) (min count c) size mid) t2 zeros in
    let kept_i = subst (λ (c : ℕ). KeepsZeros mid (count_over file c) (min count c) size i) t2 kept in
    let is_i = is ∙ ap (λ (c : ℕ). resized_file mid size c count) t2 in
    rw is_i (resized-reads file i size count mid fits_i takes_i zeros_i kept_i)

pub told-resized_differs : (told : Option DatabaseImage) (file new : DatabaseFile) (page_size commit size count : ℕ) (mid : Pages) →
    IfSome told (λ i. page_size ≡ i.page_size) → IfSome told (λ i. commit ≡ length i.pages) → FitsShape file page_size commit →
    MayKeepZeros file.kept (count_over file commit) (min count commit) size mid →
    IfSome told (KeepsZeros mid (count_over file commit) (min count commit) size) →
    new ≡ resized_file mid size commit count → IfSome told (λ i. KeepsDifferences file i → KeepsDifferences new i)
told-resized_differs None file new page_size commit size count mid t1 t2 fits zeros kept is = tt
told-resized_differs (Some i) file new page_size commit size count mid t1 t2 fits zeros kept is =
    let fits_i = subst (λ (p : ℕ). FitsShape file p (length i.pages)) t1 (subst (λ (c : ℕ). FitsShape file page_size c) t2 fits) in
    let zeros_i = subst (λ (c : ℕ). MayKeepZeros file.kept (count_over file c) (min count c) size mid) t2 zeros in
    let kept_i = subst (λ (c : ℕ). KeepsZeros mid (count_over file c) (min count c) size i) t2 kept in
    let is_i = is ∙ ap (λ (c : ℕ). resized_file mid size c count) t2 in
    rw is_i (resized-differs file i size count mid fits_i zeros_i kept_i)

-- the file after a write
abbrev pub written_file : Pages → ℕ → ℕ → ℕ → DatabaseFile
written_file kept size commit count = record { kept = kept; page_size = size; count = counted count commit }

-- what a write was made of: zeros kept in the gap, then pages put
pub record Wrote (file : DatabaseFile) (commit size first : ℕ) (bytes : List ℕ) (mid : Pages) (same : List Bool) (kept : Pages) : Type 0 where
  pub gap : MayKeepZeros file.kept (count_over file commit) (min (first - 1) commit) size mid
  pub put : ArePut mid first bytes size (length same) same kept
  pub count : length same ≡ length bytes / size

-- a number within the pages that are written, and one outside
flag : (same : List Bool) (first n : ℕ) → first ≤ n → n < first + length same →
    (k : ℕ) × (k < length same) × (n ≡ first + k) × ((b : Bool) × (slice_get same k ≡ Some b))
flag same first n low high = (n - first, omega (arith, low, high), omega (arith, low), (get_or same (n - first) false, slice_get-get_or same (n - first) false (omega (arith, low, high))))

outside : (mid kept : Pages) (first : ℕ) (bytes : List ℕ) (size count : ℕ) (same : List Bool) (n : ℕ) → ArePut mid first bytes size count same kept →
    ((n < first) ⊎ (first + count ≤ n)) → pages.get kept n ≡ pages.get mid n
outside mid kept first bytes size count same n put (inl low) = put.before n low
outside mid kept first bytes size count same n put (inr high) = put.behind n high

where_is : (first count n : ℕ) → ((first ≤ n) × (n < first + count)) ⊎ ((n < first) ⊎ (first + count ≤ n))
where_is first count n = elim (cases_lt n first) [
  | inl low ↦ inr (inl low)
  | inr from ↦ elim (cases_lt n (first + count)) [
    | inl within ↦ inl (from, within)
    | inr high ↦ inr (inr high)
  ]
]

-- what is kept after a write
pub written-cases : (file : DatabaseFile) (page_size commit size first n : ℕ) (bytes : List ℕ) (mid : Pages) (same : List Bool) (kept : Pages) (page : List ℕ) →
    FitsShape file page_size commit → Wrote file commit size first bytes mid same kept → pages.get kept n ≡ Some page →
    ((k : ℕ) × (k < length same) × (n ≡ first + k) × (page ≡ page_in bytes size k) × (slice_get same k ≡ Some false))
    ⊎ ((pages.get mid n ≡ Some page) × ((pages.get file.kept n ≡ Some page) ⊎
    ((count_over file commit < n) × (n ≤ min (first - 1) commit) × (page ≡ replicate size 0) × IsDataPage size n)))
written-cases file page_size commit size first n bytes mid same kept page fits wrote is = elim (where_is first (length same) n) [
  | inl within ↦ let f = flag same first n within.0 within.1 in inl (found f.0 f.1 f.2 f.3.0 f.3.1)
  | inr out ↦
      let there : pages.get mid n ≡ Some page = sym (outside mid kept first bytes size (length same) same n wrote.put out) ∙ is in
      inr (there, zeros-cases file page_size commit (min (first - 1) commit) size n mid page fits wrote.gap there)
] where
  found : (k : ℕ) → k < length same → n ≡ first + k → (b : Bool) → slice_get same k ≡ Some b →
      (k : ℕ) × (k < length same) × (n ≡ first + k) × (page ≡ page_in bytes size k) × (slice_get same k ≡ Some false)
  found k inside here true e =
      let none = wrote.put.within k true inside e in
      let at = ap (pages.get kept) here in
      absurd (cc (none, at, is))
  found k inside here false e =
      let some = wrote.put.within k false inside e in
      let at = ap (pages.get kept) here in
      (k, inside, here, cc (some, at, is), e)

-- a page as it reads after a write
written-page : (file : DatabaseFile) (image : DatabaseImage) (size first n : ℕ) (bytes : List ℕ) (mid : Pages) (same : List Bool) (kept : Pages) →
    FitsShape file image.page_size (length image.pages) → TakesPages file image.page_size (length image.pages) size → 1 ≤ first →
    Wrote file (length image.pages) size first bytes mid same kept →
    KeepsZeros mid (count_of file image) (min (first - 1) (length image.pages)) size image → TellAllSame (Some image) first bytes size same →
    1 ≤ n → n ≤ max (count_of file image) (first + length bytes / size - 1) →
    unwrap_or (pages.get kept n) (page_or_zeros image size n) ≡ page_written (as_read file image) size first bytes n
written-page file image size first n bytes mid same kept fits takes begins wrote zeros told low last = elim (where_is first (length same) n) [
  | inl within ↦
      let upto : n < first + length bytes / size = omega (arith, within.1, wrote.count) in
      let test : nat_le first n ≡ true = grind (arith, nat_tests) in
      let test2 : nat_lt n (first + length bytes / size) ≡ true = grind (arith, nat_tests) in
      let f = flag same first n within.0 within.1 in
      let place : n - first ≡ f.0 = omega (arith, f.2) in
      rw (test, test2, place) (subst (λ (m : ℕ). unwrap_or (pages.get kept m) (page_or_zeros image size m) ≡ page_in bytes size f.0) (sym f.2) (found f.0 f.1 f.3.0 f.3.1))
  | inr out ↦
      let test : (nat_le first n && nat_lt n (first + length bytes / size)) ≡ false = not_within out in
      let reach : (n ≤ count_of file image) ⊎ (n ≤ min (first - 1) (length image.pages)) ⊎ (length image.pages < n) = reached out in
      rw (test, outside mid kept first bytes size (length same) same n wrote.put out)
      (zeros-page file image (min (first - 1) (length image.pages)) size n mid fits takes.of_the_file wrote.gap zeros low reach)
] where
  found : (k : ℕ) → k < length same → (b : Bool) → slice_get same k ≡ Some b →
      unwrap_or (pages.get kept (first + k)) (page_or_zeros image size (first + k)) ≡ page_in bytes size k
  found k inside true e = rw (wrote.put.within k true inside e, (told k true e).0 refl) refl
  found k inside false e = rw (wrote.put.within k false inside e) refl

  not_within : ((n < first) ⊎ (first + length same ≤ n)) → (nat_le first n && nat_lt n (first + length bytes / size)) ≡ false
  not_within (inl before) = let test : nat_le first n ≡ false = grind (arith, nat_tests) in rw test refl
  not_within (inr after) =
      let test : nat_le first n ≡ true = grind (arith, nat_tests) in
      let far : first + length bytes / size ≤ n = omega (arith, after, wrote.count) in
      let test2 : nat_lt n (first + length bytes / size) ≡ false = grind (arith, nat_tests) in
      rw (test, test2) refl

  reached : ((n < first) ⊎ (first + length same ≤ n)) → (n ≤ count_of file image) ⊎ (n ≤ min (first - 1) (length image.pages)) ⊎ (length image.pages < n)
  reached (inl before) = elim (cases_lt (length image.pages) n) [
    | inl past ↦ inr (inr past)
    | inr within ↦ inr (inl (omega (arith, before, within)))
  ]
  reached (inr after) = inl (omega (arith, after, last, wrote.count, low, begins))

pub written-reads : (file : DatabaseFile) (image : DatabaseImage) (size first : ℕ) (bytes : List ℕ) (mid : Pages) (same : List Bool) (kept : Pages) →
    FitsShape file image.page_size (length image.pages) → TakesPages file image.page_size (length image.pages) size → AreDataPages size first bytes →
    Wrote file (length image.pages) size first bytes mid same kept →
    KeepsZeros mid (count_of file image) (min (first - 1) (length image.pages)) size image → TellAllSame (Some image) first bytes size same →
    as_read (written_file kept size (length image.pages) (max (count_of file image) (first + length bytes / size - 1))) image
    ≡ with_pages (as_read file image) size first bytes
written-reads file image size first bytes mid same kept fits takes are wrote zeros told =
    let commit : ℕ = length image.pages in
    let count : ℕ = max (count_of file image) (first + length bytes / size - 1) in
    let new : DatabaseFile = written_file kept size commit count in
    let own : size_of new image ≡ size = size-settled kept new.count size image.page_size commit takes.of_the_image in
    let all : count_of new image ≡ count = counted-over count commit in
    let same_pages : map (page_of new image) (range_with_len 1 count) ≡ map (page_written (as_read file image) size first bytes) (range_with_len 1 count) =
    same-pages (page_of new image) (page_written (as_read file image) size first bytes) count
    (λ n low last. rw own (written-page file image size first n bytes mid same kept fits takes are.first wrote zeros told low last))
    in
    rw (own, all, same_pages, length-read file image) refl

pub written-fits : (file : DatabaseFile) (page_size commit size first : ℕ) (bytes : List ℕ) (mid : Pages) (same : List Bool) (kept : Pages) →
    FitsShape file page_size commit → TakesPages file page_size commit size → AreDataPages size first bytes →
    ((k : ℕ) → k < length bytes / size → length (page_in bytes size k) ≡ size) → Wrote file commit size first bytes mid same kept →
    FitsShape (written_file kept size commit (max (count_over file commit) (first + length bytes / size - 1))) page_size commit
written-fits file page_size commit size first bytes mid same kept fits takes are whole wrote =
    let count : ℕ = max (count_over file commit) (first + length bytes / size - 1) in
    let new : DatabaseFile = written_file kept size commit count in
    let own : size_over new page_size commit ≡ size = size-settled kept new.count size page_size commit takes.of_the_image in
    let all : count_over new commit ≡ count = counted-over count commit in
    let old_size : (n : ℕ) (page : List ℕ) → pages.get file.kept n ≡ Some page → size ≡ size_over file page_size commit =
    λ n page is. takes.of_the_file (omega (arith, (fits.within n page is).0, (fits.within n page is).1)) in
    record {
      sized = λ _. rw own takes.sqlite;
      whole = λ n page is. elim (written-cases file page_size commit size first n bytes mid same kept page fits wrote is) [
        | inl put ↦ ap length put.3 ∙ whole put.0 (omega (arith, put.1, wrote.count)) ∙ sym own
        | inr (there, inl stood) ↦ fits.whole n page stood ∙ sym (old_size n page stood) ∙ sym own
        | inr (there, inr zero) ↦ ap length zero.2 ∙ length-replicate size 0 ∙ sym own
      ];
      within = λ n page is. elim (written-cases file page_size commit size first n bytes mid same kept page fits wrote is) [
        | inl put ↦ rw all (omega (arith, put.2, are.first), omega (arith, put.1, put.2, wrote.count, are.first))
        | inr (there, inl stood) ↦ rw all ((fits.within n page stood).0, omega (arith, (fits.within n page stood).1))
        | inr (there, inr zero) ↦ rw all (omega (arith, zero.0), omega (arith, zero.1, are.some, are.first))
      ];
      data_pages = λ n page is. elim (written-cases file page_size commit size first n bytes mid same kept page fits wrote is) [
        | inl put ↦ rw own (are.data_pages n (omega (arith, put.2)) (omega (arith, put.1, put.2, wrote.count)))
        | inr (there, inl stood) ↦ rw (own, old_size n page stood) (fits.data_pages n page stood)
        | inr (there, inr zero) ↦ rw own zero.3
      ];
      count = counted-differs count commit;
    }

pub written-differs : (file : DatabaseFile) (image : DatabaseImage) (size first count : ℕ) (bytes : List ℕ) (mid : Pages) (same : List Bool) (kept : Pages) →
    FitsShape file image.page_size (length image.pages) → Wrote file (length image.pages) size first bytes mid same kept →
    KeepsZeros mid (count_of file image) (min (first - 1) (length image.pages)) size image → TellAllSame (Some image) first bytes size same →
    KeepsDifferences file image → KeepsDifferences (written_file kept size (length image.pages) count) image
written-differs file image size first count bytes mid same kept fits wrote zeros told old = record {
  pages = λ n page is. elim (written-cases file image.page_size (length image.pages) size first n bytes mid same kept page fits wrote is) [
    | inl put ↦ rw (put.2, put.3) ((told put.0 false put.4).1 refl)
    | inr (there, inl stood) ↦ old.pages n page stood
    | inr (there, inr zero) ↦ (zeros n zero.0 zero.1).differ page there
  ];
}

-- each page of bytes that are whole pages has the size
pub page_in-whole : (bytes : List ℕ) (size : ℕ) → length bytes ≡ length bytes / size * size → (k : ℕ) → k < length bytes / size → length (page_in bytes size k) ≡ size
page_in-whole bytes size whole k inside =
    let more : (k + 1) * size ≤ length bytes / size * size = mul-le (k + 1) size (length bytes / size) size (omega (arith, inside)) (omega arith) in
    let split : (k + 1) * size ≡ k * size + size = grind (arith, common_steps) in
    rw (length-take, length-drop) (omega (arith, whole, more, split))

-- the same where the image is told, and the new file is given by an equation
pub told-written : (told : Option DatabaseImage) (file new : DatabaseFile) (page_size commit size first : ℕ) (bytes : List ℕ) (mid : Pages) (same : List Bool) (kept : Pages) →
    IfSome told (λ i. page_size ≡ i.page_size) → IfSome told (λ i. commit ≡ length i.pages) → FitsShape file page_size commit → TakesPages file page_size commit size →
    AreDataPages size first bytes → Wrote file commit size first bytes mid same kept →
    IfSome told (KeepsZeros mid (count_over file commit) (min (first - 1) commit) size) → TellAllSame told first bytes size same →
    new ≡ written_file kept size commit (max (count_over file commit) (first + length bytes / size - 1)) →
    IfSome told (λ i. as_read new i ≡ with_pages (as_read file i) size first bytes)
told-written None file new page_size commit size first bytes mid same kept t1 t2 fits takes are wrote zeros all_same is = tt
told-written (Some i) file new page_size commit size first bytes mid same kept t1 t2 fits takes are wrote zeros all_same is =
    let fits_i = subst (λ (p : ℕ). FitsShape file p (length i.pages)) t1 (subst (λ (c : ℕ). FitsShape file page_size c) t2 fits) in
    let takes_i = subst (λ (p : ℕ). TakesPages file p (length i.pages) size) t1 (subst (λ (c : ℕ). TakesPages file page_size c size) t2 takes) in
    let wrote_i = subst (λ (c : ℕ). Wrote file c size first bytes mid same kept) t2 wrote in
    let zeros_i = subst (λ (c : ℕ). KeepsZeros mid (count_over file c) (min (first - 1) c) size i) t2 zeros in
    let is_i = is ∙ ap (λ (c : ℕ). written_file kept size c (max (count_over file c) (first + length bytes / size - 1))) t2 in
    rw is_i (written-reads file i size first bytes mid same kept fits_i takes_i are wrote_i zeros_i all_same)

pub told-written_differs : (told : Option DatabaseImage) (file new : DatabaseFile) (page_size commit size first count : ℕ) (bytes : List ℕ) (mid : Pages) (same : List Bool)
    (kept : Pages) →
    IfSome told (λ i. page_size ≡ i.page_size) → IfSome told (λ i. commit ≡ length i.pages) → FitsShape file page_size commit →
    Wrote file commit size first bytes mid same kept →
    IfSome told (KeepsZeros mid (count_over file commit) (min (first - 1) commit) size) → TellAllSame told first bytes size same →
    new ≡ written_file kept size commit count → IfSome told (λ i. KeepsDifferences file i → KeepsDifferences new i)
told-written_differs None file new page_size commit size first count bytes mid same kept t1 t2 fits wrote zeros all_same is = tt
told-written_differs (Some i) file new page_size commit size first count bytes mid same kept t1 t2 fits wrote zeros all_same is =
    let fits_i = subst (λ (p : ℕ). FitsShape file p (length i.pages)) t1 (subst (λ (c : ℕ). FitsShape file page_size c) t2 fits) in
    let wrote_i = subst (λ (c : ℕ). Wrote file c size first bytes mid same kept) t2 wrote in
    let zeros_i = subst (λ (c : ℕ). KeepsZeros mid (count_over file c) (min (first - 1) c) size i) t2 zeros in
    let is_i = is ∙ ap (λ (c : ℕ). written_file kept size c count) t2 in
    rw is_i (written-differs file i size first count bytes mid same kept fits_i wrote_i zeros_i all_same)
