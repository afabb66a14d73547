-- A sink that takes bytes in several calls.
use Rattle.std.proofs.Common.{◌≡◌, ℕ, ◌+◌, ◌<◌, ◌≤◌, List, [], ◌∷◌, ◌++◌, Option, Some, Result, Ok, Err, OnErr, IfErr, length, get_or, take, drop, refl, arith, sym, ap, ◌∙◌, add-one, append_assoc, append-nil}
use Rattle.std.proofs.Math.Seq.{take-add, drop-cons}
use Rattle.std.specs.Io.KnownBytes.{Appends}
use Rattle.std.specs.List.{concat, slice_get}
use Rattle.std.specs.Result.{IsErrAnd}
use Rattle.std.proofs.KnownBytes.{Appends-trans}
use Rattle.std.proofs.lemmas.List.{take-append-drop}
use Rattle.std.proofs.lemmas.List.Folds.{concat-append}
use Rattle.std.proofs.lemmas.Option.{slice_get_within, get_or_from_slice_get}
use Rattle.std.proofs.lemmas.Bool.Decides.{nat_tests}
use Rattle.lf_sqlite_pages.specs.PageSize.{IsPageSize, is_page_size}
use Rattle.litefs_tool.specs.Output.{AppendsPrefix}
use Rattle.litefs_tool.specs.steps.Buffer.{AppendsAllBut}

-- some bytes were taken whole, and then a prefix of more
pub AppendsPrefix-after : (a b c : Option (List ℕ)) (bytes more all : List ℕ) → all ≡ bytes ++ more → Appends a b bytes → AppendsPrefix b c more → AppendsPrefix a c all
AppendsPrefix-after a b c bytes more all is whole prefix =
    let joined : all ≡ (bytes ++ prefix.0) ++ prefix.1.0 = is ∙ ap (λ l. bytes ++ l) prefix.1.1 ∙ sym (append_assoc bytes prefix.0 prefix.1.0) in
    (bytes ++ prefix.0, (prefix.1.0, joined), Appends-trans a b c bytes prefix.0 whole prefix.2)

-- a prefix of some bytes is one of those and more
pub AppendsPrefix-more : (a b : Option (List ℕ)) (bytes more : List ℕ) → AppendsPrefix a b bytes → AppendsPrefix a b (bytes ++ more)
AppendsPrefix-more a b bytes more prefix =
    let longer : bytes ++ more ≡ prefix.0 ++ (prefix.1.0 ++ more) = ap (λ l. l ++ more) prefix.1.1 ∙ append_assoc prefix.0 prefix.1.0 more in
    (prefix.0, (prefix.1.0 ++ more, longer), prefix.2)

-- a prefix of a piece, after what stands before it
pub AppendsPrefix-middle : (a b c : Option (List ℕ)) (before piece after all : List ℕ) → all ≡ before ++ (piece ++ after) →
    Appends a b before → AppendsPrefix b c piece → AppendsPrefix a c all
AppendsPrefix-middle a b c before piece after all is whole prefix =
    AppendsPrefix-after a b c before (piece ++ after) all is whole (AppendsPrefix-more b c piece after prefix)

-- one more page behind those that were taken and those that are held
pub AppendsAllBut-more : (a b c : Option (List ℕ)) (bytes held page held_now : List ℕ) → AppendsAllBut a b bytes held →
    AppendsAllBut b c (held ++ page) held_now → AppendsAllBut a c (bytes ++ page) held_now
AppendsAllBut-more a b c bytes held page held_now so_far step = (
  so_far.0 ++ step.0,
  ap (λ l. l ++ page) so_far.1 ∙ append_assoc so_far.0 held page ∙ ap (λ l. so_far.0 ++ l) step.1 ∙ sym (append_assoc so_far.0 step.0 held_now),
  Appends-trans a b c so_far.0 step.0 so_far.2 step.2,
)

-- a prefix of those that are held, behind those that were taken
pub AppendsPrefix-held : (a b c : Option (List ℕ)) (bytes held more all : List ℕ) → AppendsAllBut a b bytes held → AppendsPrefix b c held →
    all ≡ bytes ++ more → AppendsPrefix a c all
AppendsPrefix-held a b c bytes held more all so_far prefix is =
    let split : all ≡ so_far.0 ++ (held ++ more) = is ∙ ap (λ l. l ++ more) so_far.1 ∙ append_assoc so_far.0 held more in
    AppendsPrefix-middle a b c so_far.0 held more all split so_far.2 prefix

-- the pages from one on: that page, and those after it
drop-page : (pages : List (List ℕ)) (k : ℕ) (page : List ℕ) → slice_get pages k ≡ Some page → drop k pages ≡ page ∷ drop (k + 1) pages
drop-page pages k page found =
    let within : k < length pages = slice_get_within pages k page found in
    let here : get_or pages k page ≡ page = get_or_from_slice_get pages k page page found in
    rw (add-one, drop-cons pages k page within, here) refl

-- the bytes of the pages up to one, and those after it
pub concat-split : (pages : List (List ℕ)) (k : ℕ) → concat pages ≡ concat (take k pages) ++ concat (drop k pages)
concat-split pages k = ap concat (sym (take-append-drop k pages)) ∙ concat-append (take k pages) (drop k pages)

-- the bytes of the pages up to one and with it
pub concat-take : (pages : List (List ℕ)) (k : ℕ) (page : List ℕ) → slice_get pages k ≡ Some page →
    concat (take (k + 1) pages) ≡ concat (take k pages) ++ page
concat-take pages k page found =
    let next : take 1 (drop k pages) ≡ page ∷ [] = ap (take 1) (drop-page pages k page found) in
    ap concat (take-add k 1 pages ∙ ap (λ ps. take k pages ++ ps) next)
    ∙ concat-append (take k pages) (page ∷ [])
    ∙ ap (λ l. concat (take k pages) ++ l) (append-nil page)

-- what holds in any case holds on an error
pub on_err : {T E : Type 0} (r : Result T E) (P : Type 0) → P → OnErr r P
on_err (Ok x) P p = tt
on_err (Err e) P p = p

-- what follows from a fact on an error
pub map_on_err : {T E : Type 0} (r : Result T E) (P Q : Type 0) → (P → Q) → OnErr r P → OnErr r Q
map_on_err (Ok x) P Q step p = tt
map_on_err (Err e) P Q step p = step p

-- what the error that came means
pub if_err : {T E : Type 0} (r : Result T E) (Q P : E → Type 0) → IsErrAnd r Q → ((e : E) → Q e → P e) → IfErr r P
if_err (Ok x) Q P is step = tt
if_err (Err e) Q P is step = step e is

-- the largest page
pub page_size-most : (size : ℕ) → IsPageSize size → size ≤ 65536
unfolding is_page_size
page_size-most size is = grind (arith, nat_tests)
