-- Some bytes of the file lie in the pages of their span.
use Rattle.std.proofs.Common.{◌≡◌, ℕ, ◌+◌, ◌-◌, ◌*◌, ◌<◌, ◌≤◌, suc, zero, length, List, [], ◌∷◌, ◌++◌, take, drop, min, subst, refl, sym, ap, ◌∙◌, arith, inl, inr, ◌⊎◌, append-nil, zero-add, Option, Some, None, add-zero, length-append, length-drop}
use Rattle.std.specs.Prelude.{map, unwrap_or, replicate, IfSome}
use Rattle.std.specs.List.{concat, range_with_len}
use Rattle.std.proofs.lemmas.List.{map-append, take-append-le, drop-append-le, take_all, length-replicate}
use Rattle.std.proofs.Math.ListN.{drop_of_length-le}
use Rattle.std.proofs.Math.Seq.{drop-append-add}
use Rattle.std.specs.FinMap.{get}
use Rattle.std.proofs.lemmas.Option.{slice_get_cases}
use Rattle.std.proofs.lemmas.Bool.{cases_lt}
use Rattle.std.proofs.lemmas.Bool.Decides.{nat_tests}
use Rattle.lf_sqlite_pages.specs.Image.{DatabaseImage, IsImage, page_at, image_bytes}
use Rattle.database_file.specs.DatabaseFile.{DatabaseFile, FitsShape, page_of, size_of, size_over, count_over, as_read, bytes_from}
use Rattle.std.proofs.lemmas.List.Folds.{concat-append}
use Rattle.std.proofs.lemmas.Grind.{common_steps}
use Rattle.lf_sqlite_pages.proofs.PageNumbers.{page_at-first}

-- pages from a number on, one after another
abbrev pub texts : (ℕ → List ℕ) → ℕ → ℕ → List ℕ
texts f a n = concat (map f (range_with_len a n))

range-split : (a m n : ℕ) → range_with_len a (m + n) ≡ range_with_len a m ++ range_with_len (a + m) n
range-split a zero n = rw (zero-add, add-zero) refl
range-split a (suc m) n =
    let e : suc m + n ≡ suc (m + n) = omega arith in
    let s : a + suc m ≡ a + 1 + m = omega arith in
    rw (e, s) (ap (λ (xs : List ℕ). a ∷ xs) (range-split (a + 1) m n))

texts-split : (f : ℕ → List ℕ) (a m n : ℕ) → texts f a (m + n) ≡ texts f a m ++ texts f (a + m) n
texts-split f a m n = rw (range-split a m n, map-append, concat-append) refl

length-texts : (f : ℕ → List ℕ) (size a n : ℕ) → ((k : ℕ) → a ≤ k → k < a + n → length (f k) ≡ size) → length (texts f a n) ≡ n * size
length-texts f size a zero each = omega arith
length-texts f size a (suc n) each =
    rw (
      length-append,
      each a (omega arith) (omega arith),
      length-texts f size (a + 1) n (λ k h l. each k (omega (arith, h)) (omega (arith, l))),
    ) (grind (arith, common_steps))

-- a part of a text that lies before another one; or that ends where nothing follows
part : (b z : List ℕ) (from wanted span : ℕ) → from + span ≤ length b →
    ((span ≡ wanted) ⊎ ((span ≤ wanted) × (z ≡ []) × (from + span ≡ length b))) →
    take span (drop from b) ≡ take wanted (drop from (b ++ z))
part b z from wanted span fits (inl e) =
    let within : from ≤ length b = omega (arith, fits) in
    let enough : span ≤ length (drop from b) = rw length-drop (omega (arith, fits)) in
    rw (drop-append-le from b z within, ← e, take-append-le span (drop from b) z enough) refl
part b z from wanted span fits (inr h) =
    let within : from ≤ length b = omega (arith, fits) in
    let long : length (drop from b) ≤ span = rw length-drop (omega (arith, h.2)) in
    let longer : length (drop from b) ≤ wanted = omega (arith, h.0, long) in
    rw (h.1, append-nil, take_all span (drop from b) long, take_all wanted (drop from b) longer) refl

pub read_pages : (f : ℕ → List ℕ) (size before m r from wanted span : ℕ) →
    ((k : ℕ) → 1 ≤ k → k < 1 + (before + (m + r)) → length (f k) ≡ size) → from + span ≤ m * size →
    ((span ≡ wanted) ⊎ ((span ≤ wanted) × (r ≡ 0) × (from + span ≡ m * size))) →
    take span (drop from (texts f (1 + before) m)) ≡ take wanted (drop (before * size + from) (texts f 1 (before + (m + r))))
read_pages f size before m r from wanted span each fits end =
    let a : length (texts f 1 before) ≡ before * size = length-texts f size 1 before (λ k h l. each k h (omega (arith, l))) in
    let b : length (texts f (1 + before) m) ≡ m * size = length-texts f size (1 + before) m (λ k h l. each k (omega (arith, h)) (omega (arith, l))) in
    let whole : texts f 1 (before + (m + r)) ≡ texts f 1 before ++ (texts f (1 + before) m ++ texts f (1 + before + m) r)
    = texts-split f 1 before (m + r) ∙ ap (λ (t : List ℕ). texts f 1 before ++ t) (texts-split f (1 + before) m r) in
    rw (whole, ← a, drop-append-add (texts f 1 before) (texts f (1 + before) m ++ texts f (1 + before + m) r) from)
    (part (texts f (1 + before) m) (texts f (1 + before + m) r) from wanted span (rw b fits)
    (elim end [ inl e ↦ inl e | inr h ↦ inr (h.0, rw h.1 refl, rw b h.2) ]))

-- each page that the file reads has its size
pub page_of-length : (file : DatabaseFile) (image : DatabaseImage) (n : ℕ) → FitsShape file image.page_size (length image.pages) → IsImage image → 1 ≤ n →
    length (page_of file image n) ≡ size_of file image
page_of-length file image n fits valid first = looked (get file.kept n) (page_at image n) refl refl where
  looked : (kept at_image : Option (List ℕ)) → get file.kept n ≡ kept → page_at image n ≡ at_image →
      length (unwrap_or kept (unwrap_or at_image (replicate (size_of file image) 0))) ≡ size_of file image
  looked (Some p) at_image k a = fits.whole n p k
  looked None (Some p) k a = elim (slice_get_cases image.pages (n - 1)).1 [
    | inl there ↦
        let found = sym (page_at-first image n first) ∙ a in
        let same : p ≡ there.0 = cc (found, there.2) in
        let inside : n - 1 < length image.pages = there.1 in
        let long : length there.0 ≡ image.page_size = rw there.3 at (valid.whole (n - 1) there.0 inside) in
        let sized : size_of file image ≡ image.page_size = grind (arith, nat_tests, inside) in
        rw same (long ∙ sym sized)
    | inr past ↦ let found = sym (page_at-first image n first) ∙ a in absurd (cc (found, past.1))
  ]
  looked None None k a = length-replicate (size_of file image) 0

-- the numbers of a span
mul-split : (m n size : ℕ) → (m + n) * size ≡ m * size + n * size
mul-split m n size = grind (arith, common_steps)

pub span_fits : (before after place end size : ℕ) → before * size ≤ place → place < end → before < after → end ≤ after * size →
    place - before * size + (end - place) ≤ (after - before) * size
span_fits before after place end size begins some order reaches =
    let ab : after - before + before ≡ after = omega arith in
    let e : after * size ≡ (after - before) * size + before * size = rw ab at (mul-split (after - before) before size) in
    omega (arith, e, begins, reaches)

no_size : (r size a : ℕ) → suc r * size ≤ 0 → a * size ≡ 0
no_size r size a h =
    let z : size ≡ 0 = grind (arith, common_steps, h) in
    rw z (grind (arith, common_steps))

ends_with : (r after count place end wanted size before : ℕ) → count ≡ after + r → place < end → end ≡ min (place + wanted) (count * size) →
    before * size ≤ place → before < after → end ≤ after * size → count * size < place + wanted →
    (r ≡ 0) × (place - before * size + (end - place) ≡ (after - before) * size)
ends_with zero after count place end wanted size before c some stop begins order reaches less =
    let ab : after - before + before ≡ after = omega arith in
    let e : after * size ≡ (after - before) * size + before * size = rw ab at (mul-split (after - before) before size) in
    let same : count ≡ after = omega (arith, c) in
    let whole : count * size ≡ after * size = ap (λ (n : ℕ). n * size) same in
    (refl, omega (arith, e, begins, reaches, whole, stop, less))
ends_with (suc r) after count place end wanted size before c some stop begins order reaches less =
    let e : count * size ≡ after * size + suc r * size = rw c (mul-split after (suc r) size) in
    let gone : suc r * size ≤ 0 = omega (arith, e, stop, less, reaches) in
    let none : count * size ≡ 0 = no_size r size count gone in
    absurd (omega (arith, none, stop, less, some))

span_ends : (before after count place end wanted size : ℕ) → place < end → end ≡ min (place + wanted) (count * size) →
    before * size ≤ place → before < after → end ≤ after * size → after ≤ count →
    ((end - place ≡ wanted) ⊎ ((end - place ≤ wanted) × (count - after ≡ 0) × (place - before * size + (end - place) ≡ (after - before) * size)))
span_ends before after count place end wanted size some stop begins order reaches within =
    elim (cases_lt (count * size) (place + wanted)) [
      | inl less ↦
          let both = ends_with (count - after) after count place end wanted size before (omega arith) some stop begins order reaches less in
          inr (omega (arith, stop, less), both.0, both.1)
      | inr enough ↦ inl (omega (arith, stop, enough))
    ]

-- what was read is that part of the file, where an image is told
pub told_read : (told : Option DatabaseImage) (file : DatabaseFile) (page_size commit count size place wanted end before after : ℕ) (text bytes : List ℕ) →
    FitsShape file page_size commit → IfSome told (λ i. page_size ≡ i.page_size) → IfSome told (λ i. commit ≡ length i.pages) → IfSome told IsImage →
    size ≡ size_over file page_size commit → count ≡ count_over file commit →
    place < end → end ≡ min (place + wanted) (count * size) →
    before * size ≤ place → before < after → end ≤ after * size → after ≤ count →
    IfSome told (λ i. text ≡ texts (page_of file i) (before + 1) (after - before)) →
    bytes ≡ bytes_from text (place - before * size) (place - before * size + (end - place) - (place - before * size)) →
    IfSome told (λ i. bytes ≡ bytes_from (image_bytes (as_read file i)) place wanted)
told_read None file page_size commit count size place wanted end before after text bytes fits t1 t2 valid s k some stop begins order reaches within is got = tt
told_read (Some i) file page_size commit count size place wanted end before after text bytes fits t1 t2 valid s k some stop begins order reaches within is got =
    let from : ℕ = place - before * size in
    let f : FitsShape file i.page_size (length i.pages) = subst (λ (p : ℕ). FitsShape file p (length i.pages)) t1 (subst (λ (c : ℕ). FitsShape file page_size c) t2 fits) in
    let own : size ≡ size_of file i = s ∙ ap (λ (c : ℕ). size_over file page_size c) t2 ∙ ap (λ (p : ℕ). size_over file p (length i.pages)) t1 in
    let pages : count ≡ count_over file (length i.pages) = k ∙ ap (λ (c : ℕ). count_over file c) t2 in
    let m : ℕ = after - before in
    let r : ℕ = count - after in
    let span : ℕ = end - place in
    let x : from + span - from ≡ span = omega arith in
    let one : before + 1 ≡ 1 + before = omega arith in
    let t : text ≡ texts (page_of file i) (1 + before) m = is ∙ ap (λ (a : ℕ). texts (page_of file i) a m) one in
    let p : before * size + from ≡ place = omega (arith, begins) in
    let joined : before + (m + r) ≡ count = omega (arith, order, within) in
    let w : before + (m + r) ≡ count_over file (length i.pages) = joined ∙ pages in
    let main = read_pages (page_of file i) size before m r from wanted span
    (λ k h l. page_of-length file i k f valid h ∙ sym own) (span_fits before after place end size begins some order reaches)
    (span_ends before after count place end wanted size some stop begins order reaches within) in
    rw (got, x, t) (rw (p, w) at main)

-- no bytes are read where none are wanted, or past the end
nothing : (text : List ℕ) (place wanted : ℕ) → min (place + wanted) (length text) ≤ place → [] ≡ take wanted (drop place text)
nothing text place zero h = refl
nothing text place (suc wanted) h =
    let past : length text ≤ place = omega (arith, h) in
    rw (drop_of_length-le text past) refl

pub told_past : (told : Option DatabaseImage) (file : DatabaseFile) (page_size commit count size place wanted : ℕ) →
    FitsShape file page_size commit → IfSome told (λ i. page_size ≡ i.page_size) → IfSome told (λ i. commit ≡ length i.pages) → IfSome told IsImage →
    size ≡ size_over file page_size commit → count ≡ count_over file commit → min (place + wanted) (count * size) ≤ place →
    IfSome told (λ i. [] ≡ bytes_from (image_bytes (as_read file i)) place wanted)
told_past None file page_size commit count size place wanted fits t1 t2 valid s k past = tt
told_past (Some i) file page_size commit count size place wanted fits t1 t2 valid s k past =
    let f : FitsShape file i.page_size (length i.pages) = subst (λ (p : ℕ). FitsShape file p (length i.pages)) t1 (subst (λ (c : ℕ). FitsShape file page_size c) t2 fits) in
    let own : size ≡ size_of file i = s ∙ ap (λ (c : ℕ). size_over file page_size c) t2 ∙ ap (λ (p : ℕ). size_over file p (length i.pages)) t1 in
    let pages : count ≡ count_over file (length i.pages) = k ∙ ap (λ (c : ℕ). count_over file c) t2 in
    let len : length (texts (page_of file i) 1 count) ≡ count * size
    = length-texts (page_of file i) size 1 count (λ n h l. page_of-length file i n f valid h ∙ sym own) in
    rw (← pages) (nothing (texts (page_of file i) 1 count) place wanted (rw len past))
