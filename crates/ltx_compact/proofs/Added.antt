-- A change as the pages in slots are added to it.
use Rattle.std.proofs.Common.{◌≡◌, ℕ, zero, suc, ◌+◌, ◌-◌, ◌<◌, ◌≤◌, Option, Some, None, List, [], ◌++◌, length, drop, get_or, refl, sym, ◌∙◌, ap, subst, arith, add-zero}
use Rattle.std.specs.Prelude.{◌==◌, if◌then◌else◌}
use Rattle.std.specs.List.{All, filter_map, cons_option, range_with_len}
use Rattle.std.specs.Option.{IfSome}
use Rattle.std.proofs.lemmas.List.{get_or_default, get_or-drop, drop_more}
use Rattle.lf_sqlite_pages.specs.LockPage.{lock_page_of}
use Rattle.lf_sqlite_pages.specs.Writes.{writes_of}
use Rattle.lf_sqlite_pages.proofs.Writes.{writes_of-same}
use Rattle.lf_sqlite_pages.specs.Change.{PageChange, IsChange, last_number}
use Rattle.lf_sqlite_pages.specs.declared.page_write.PageWrite.{PageWrite}
use Rattle.ltx_codec.specs.declared.file.Ltx.{Ltx}
use Rattle.ltx_compact.specs.Compaction.{page_of, data_page_of, pages_of}
use Rattle.ltx_compact.specs.Slots.{Slots, page_to_write, data_page_in, pages_in, HoldPages}
use Rattle.ltx_compact.proofs.Left.{page_of-whole}

-- an item before lists
cons_option-append : {X : Type 0} (o : Option X) (xs ys : List X) → cons_option o (xs ++ ys) ≡ cons_option o xs ++ ys
cons_option-append None xs ys = refl
cons_option-append (Some x) xs ys = refl

-- one more number at the end of a range
filter_map-more : (h : ℕ → Option PageWrite) (a n : ℕ) →
    filter_map h (range_with_len a (n + 1)) ≡ filter_map h (range_with_len a n) ++ cons_option (h (a + n)) []
filter_map-more h a zero = rw add-zero refl
filter_map-more h a (suc n) =
    let more : suc n + 1 ≡ suc (n + 1) = omega arith in
    let place : a + 1 + n ≡ a + suc n = omega arith in
    let rest : filter_map h (range_with_len (a + 1) (n + 1)) ≡ filter_map h (range_with_len (a + 1) n) ++ cons_option (h (a + suc n)) [] =
    filter_map-more h (a + 1) n ∙ ap (λ (k : ℕ). filter_map h (range_with_len (a + 1) n) ++ cons_option (h k) []) place
    in
    rw (more, rest) (cons_option-append (h a) (filter_map h (range_with_len (a + 1) n)) (cons_option (h (a + suc n)) []))

-- the page in the slot behind some others, where it is a data page
abbrev slot_page : ℕ → Slots → ℕ → Option (List ℕ)
slot_page size slots count = if count + 1 == lock_page_of size then None else get_or slots count None

-- one more page
pages_in-more : (size : ℕ) (slots : Slots) (count : ℕ) →
    pages_in size slots (count + 1) ≡ pages_in size slots count ++ cons_option (page_to_write (count + 1) (slot_page size slots count)) []
unfolding writes_of
pages_in-more size slots count =
    let next : 1 + count ≡ count + 1 = omega arith in
    let back : count + 1 - 1 ≡ count = omega arith in
    let add : ℕ → Option (List ℕ) → List PageWrite = λ k page. pages_in size slots count ++ cons_option (page_to_write k page) [] in
    filter_map-more (λ n. page_to_write n (data_page_in size slots n)) 1 count
    ∙ ap (λ (k : ℕ). add k (data_page_in size slots k)) next
    ∙ ap (λ (k : ℕ). add (count + 1) (if count + 1 == lock_page_of size then None else get_or slots k None)) back

-- no page
pages_in-none : (size : ℕ) (slots : Slots) → pages_in size slots 0 ≡ []
unfolding writes_of
pages_in-none size slots = refl

-- a change without pages has those up to 0
pub pages-begun : (change : PageChange) (slots : Slots) → change.pages ≡ [] → change ≡ record change { pages = pages_in change.page_size slots 0 }
pages-begun change slots empty =
    let with_pages : List PageWrite → PageChange = λ ps. record change { pages = ps } in
    ap with_pages (empty ∙ sym (pages_in-none change.page_size slots))

-- and no last number
pub last_number-begun : (pages : List PageWrite) → pages ≡ [] → last_number pages ≤ 0
last_number-begun pages empty = let P : List PageWrite → Type 0 = λ ps. last_number ps ≤ 0 in subst P (sym empty) (omega arith)

-- a change with one more page
pub pages-grown : (start now next : PageChange) (slots : Slots) (n : ℕ) → now ≡ record start { pages = pages_in start.page_size slots n } →
    next ≡ record now { pages = now.pages ++ cons_option (page_to_write (n + 1) (slot_page start.page_size slots n)) [] } →
    next ≡ record start { pages = pages_in start.page_size slots (n + 1) }
pages-grown start now next slots n now-is next-is =
    let grow : PageChange → PageChange = λ c. record c { pages = c.pages ++ cons_option (page_to_write (n + 1) (slot_page start.page_size slots n)) [] } in
    let with_pages : List PageWrite → PageChange = λ ps. record start { pages = ps } in
    next-is ∙ ap grow now-is ∙ ap with_pages (sym (pages_in-more start.page_size slots n))

-- slots that hold what files leave hold the pages that they leave
pub pages_in-held : (size : ℕ) (files : List Ltx) (commit : ℕ) (slots : Slots) → HoldPages files commit slots → pages_in size slots commit ≡ pages_of size files commit
pages_in-held size files commit slots held =
    writes_of-same (data_page_in size slots) (data_page_of size files) commit
    (λ n first last. ap (λ (p : Option (List ℕ)). if n == lock_page_of size then None else p) (held.pages n first last))

-- and every page in them is whole
pub slots-whole : (files : List Ltx) (size commit : ℕ) (slots : Slots) → HoldPages files commit slots → All (λ file. file.change.page_size ≡ size) files →
    All (λ file. IsChange file.change) files → All (λ slot. IfSome slot (λ bytes. length bytes ≡ size)) slots
slots-whole files size commit slots held sized sound k d within =
    let back : k ≡ k + 1 - 1 = omega arith in
    let page : get_or slots k d ≡ page_of files (k + 1) =
    get_or_default slots k d None within ∙ ap (λ (j : ℕ). get_or slots j None) back ∙ held.pages (k + 1) (omega arith) (omega (arith, held.count))
    in
    let P : Option (List ℕ) → Type 0 = λ o. IfSome o (λ b. length b ≡ size) in
    subst P (sym page) (page_of-whole files size (k + 1) sized sound)

-- slots of which those from a place on are the same, are the same at it
pub get_or-left : (now old : Slots) (n : ℕ) (d : Option (List ℕ)) → n < length now → length now ≡ length old → drop n now ≡ drop n old → get_or now n d ≡ get_or old n None
get_or-left now old n d inside count left =
    let zero_on : n + 0 ≡ n = omega arith in
    let there : n < length old = omega (arith, inside, count) in
    ap (λ (k : ℕ). get_or now k d) (sym zero_on) ∙ sym (get_or-drop n now 0 d) ∙ ap (λ (s : Slots). get_or s 0 d) left
    ∙ get_or-drop n old 0 d ∙ ap (λ (k : ℕ). get_or old k d) zero_on ∙ get_or_default old n d None there

-- and behind it
pub left-more : (now old : Slots) (n : ℕ) → n < length now → length now ≡ length old → drop n now ≡ drop n old → drop (n + 1) now ≡ drop (n + 1) old
left-more now old n inside count left =
    let tail : Slots → Slots = λ s. drop 1 s in
    let there : n < length old = omega (arith, inside, count) in
    sym (ap tail (drop_more now n None inside)) ∙ ap tail left ∙ ap tail (drop_more old n None there)
