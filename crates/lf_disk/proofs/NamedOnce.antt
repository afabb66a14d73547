-- No name stands twice, and so no numbers do.
use Rattle.std.proofs.Common.{◌≡◌, false, List, [], ◌∷◌, ◌++◌, map, refl, ap}
use Rattle.std.specs.List.{IsDistinct, AllByRecursion}
use Rattle.lf_disk.specs.declared.name.FileName.{FileName}
use Rattle.lf_disk.specs.declared.name.FileName.TheVariants.{Ltx}
use Rattle.lf_disk.specs.Folder.{same_name}
use Rattle.lf_disk.specs.Names.{same_name-sym}
use Rattle.lf_disk.specs.declared.listing.Numbers.{Numbers}
use Rattle.lf_disk.specs.Listing.{same_numbers, AreOnce}

-- the name of the file of these numbers
abbrev pub name_of : Numbers → FileName
name_of e = Ltx e.min e.max

abbrev pub names_of : List Numbers → List FileName
names_of es = map name_of es

pub names_more : (es : List Numbers) (e : Numbers) (left : List FileName) → names_of (es ++ e ∷ []) ++ left ≡ names_of es ++ Ltx e.min e.max ∷ left
names_more [] e left = refl
names_more (x ∷ es) e left = ap (λ (ns : List FileName). name_of x ∷ ns) (names_more es e left)

all_without : (P : FileName → Type 0) (xs : List FileName) (n : FileName) (ys : List FileName) → AllByRecursion P (xs ++ n ∷ ys) → AllByRecursion P (xs ++ ys)
all_without P [] n ys all = all.1
all_without P (x ∷ xs) n ys all = (all.0, all_without P xs n ys all.1)

-- names without one of them
pub distinct_without : (xs : List FileName) (n : FileName) (ys : List FileName) → IsDistinct same_name (xs ++ n ∷ ys) → IsDistinct same_name (xs ++ ys)
unfolding IsDistinct
distinct_without [] n ys once = once.1
distinct_without (x ∷ xs) n ys once = (all_without (λ (y : FileName). same_name x y ≡ false) xs n ys once.0, distinct_without xs n ys once.1)

all_numbers : (e : Numbers) (es : List Numbers) → AllByRecursion (λ (n : FileName). same_name (name_of e) n ≡ false) (names_of es ++ []) → AllByRecursion (λ (x : Numbers). same_numbers e x ≡ false) es
all_numbers e [] all = tt
all_numbers e (x ∷ es) all = (all.0, all_numbers e es all.1)

pub once_named : (es : List Numbers) → IsDistinct same_name (names_of es ++ []) → AreOnce es
unfolding IsDistinct
once_named [] once = tt
once_named (e ∷ es) once = (all_numbers e es once.0, once_named es once.1)

pub numbers_flip : (x y : Numbers) → same_numbers x y ≡ same_numbers y x
numbers_flip x y = same_name-sym (name_of x) (name_of y)
