-- What files leave at a page, from the last file to the first.
use Rattle.std.proofs.Common.{◌≡◌, ℕ, Bool, true, false, ltb, eqb, cond, Option, Some, None, List, [], ◌∷◌, inl, inr, length, replicate, refl, sym, ◌∙◌, ap, subst, arith}
use Rattle.std.specs.List.{All, fold}
use Rattle.std.specs.Option.{IfSome, option_or}
use Rattle.std.proofs.lemmas.Bool.{cases_eq}
use Rattle.std.proofs.lemmas.Bool.Decides.{nat_tests}
use Rattle.std.proofs.lemmas.List.{length-replicate}
use Rattle.std.proofs.lemmas.List.Elements.{All-head, All-tail}
use Rattle.lf_sqlite_pages.specs.Change.{IsChange, written}
use Rattle.lf_sqlite_pages.specs.declared.page_write.PageWrite.{PageWrite}
use Rattle.ltx_codec.specs.declared.file.Ltx.{Ltx}
use Rattle.ltx_compact.specs.Compaction.{page_past, page_of}

-- nothing in place of nothing
pub option_or-none : (o : Option (List ℕ)) → option_or o None ≡ o
option_or-none None = refl
option_or-none (Some x) = refl

-- three pages, of which the first stands
pub option_or_assoc : (o p q : Option (List ℕ)) → option_or (option_or o p) q ≡ option_or o (option_or p q)
option_or_assoc None p q = refl
option_or_assoc (Some x) p q = refl

-- a page that a file leaves as it was
past-kept : (b : Bool) (zeros : List ℕ) (w o : Option (List ℕ)) →
    cond b (Some zeros) (option_or w o) ≡ option_or (cond b (Some zeros) (option_or w None)) o
past-kept true zeros w o = refl
past-kept false zeros None o = refl
past-kept false zeros (Some x) o = refl

-- the files decide before what was there
fold-from : (n : ℕ) (o : Option (List ℕ)) (files : List Ltx) → fold (page_past n) o files ≡ option_or (fold (page_past n) None files) o
fold-from n o [] = refl
fold-from n o (file ∷ files) =
    let left : List Ltx → Option (List ℕ) → Option (List ℕ) = λ fs p. fold (page_past n) p fs in
    fold-from n (page_past n o file) files
    ∙ ap (option_or (left files None)) (past-kept (ltb file.change.commit n) (replicate file.change.page_size 0) (written file.change.pages n) o)
    ∙ sym (option_or_assoc (left files None) (page_past n None file) o)
    ∙ ap (λ p. option_or p o) (sym (fold-from n (page_past n None file) files))

-- the later files decide before an earlier one
pub page_of-before : (file : Ltx) (later : List Ltx) (n : ℕ) → page_of (file ∷ later) n ≡ option_or (page_of later n) (page_past n None file)
unfolding page_of
page_of-before file later n = fold-from n (page_past n None file) later

-- no file
pub page_of-none : (n : ℕ) → page_of [] n ≡ None
unfolding page_of
page_of-none n = refl

-- a page has a size, where it is there
abbrev IsWhole : ℕ → Option (List ℕ) → Type 0
IsWhole size page = IfSome page (λ bytes. length bytes ≡ size)

-- a page that is written is whole
written-whole : (size n : ℕ) (pages : List PageWrite) → All (λ w. length w.bytes ≡ size) pages → IsWhole size (written pages n)
written-whole size n [] whole = tt
written-whole size n (w ∷ ws) whole =
    let here : length w.bytes ≡ size = All-head (λ (v : PageWrite). length v.bytes ≡ size) w ws whole in
    let rest : IsWhole size (written ws n) = written-whole size n ws (All-tail (λ (v : PageWrite). length v.bytes ≡ size) w ws whole) in
    elim (cases_eq w.number n) [
      | inl same ↦
          let test : eqb w.number n ≡ true = grind (arith, nat_tests) in
          rw test here
      | inr other ↦
          let test : eqb w.number n ≡ false = grind (arith, nat_tests) in
          rw test rest
    ]

-- so is one that a file leaves
past-whole : (size : ℕ) (b : Bool) (zeros : List ℕ) (w : Option (List ℕ)) → length zeros ≡ size → IsWhole size w →
    IsWhole size (cond b (Some zeros) (option_or w None))
past-whole size true zeros w filled whole = filled
past-whole size false zeros None filled whole = tt
past-whole size false zeros (Some x) filled whole = whole

-- and one of two that are
or-whole : (size : ℕ) (o p : Option (List ℕ)) → IsWhole size o → IsWhole size p → IsWhole size (option_or o p)
or-whole size None p first second = second
or-whole size (Some x) p first second = first

-- and a page that files leave
pub page_of-whole : (files : List Ltx) (size n : ℕ) → All (λ file. file.change.page_size ≡ size) files → All (λ file. IsChange file.change) files →
    IfSome (page_of files n) (λ bytes. length bytes ≡ size)
page_of-whole [] size n sized sound = subst (IsWhole size) (sym (page_of-none n)) tt
page_of-whole (file ∷ files) size n sized sound =
    let same : file.change.page_size ≡ size = All-head (λ (f : Ltx). f.change.page_size ≡ size) file files sized in
    let change : IsChange file.change = All-head (λ (f : Ltx). IsChange f.change) file files sound in
    let P : ℕ → Type 0 = λ s. All (λ (w : PageWrite). length w.bytes ≡ s) file.change.pages in
    let later : IsWhole size (page_of files n) =
    page_of-whole files size n (All-tail (λ (f : Ltx). f.change.page_size ≡ size) file files sized) (All-tail (λ (f : Ltx). IsChange f.change) file files sound)
    in
    let here : IsWhole size (page_past n None file) =
    past-whole size (ltb file.change.commit n) (replicate file.change.page_size 0) (written file.change.pages n)
    (length-replicate file.change.page_size 0 ∙ same) (written-whole size n file.change.pages (subst P same change.whole))
    in
    subst (IsWhole size) (sym (page_of-before file files n)) (or-whole size (page_of files n) (page_past n None file) later here)
