-- Files are applied to a database, one after another.
use Rattle.std.proofs.Common.{◌≡◌, ◌∙◌, ◌⊎◌, inl, inr, ℕ, ◌<◌, ◌≤◌, Bool, true, false, List, [], ◌∷◌, ◌++◌, refl, sym, ap, subst, arith}
use Rattle.std.specs.Prelude.{nat_le, if◌then◌else◌}
use Rattle.std.proofs.lemmas.Bool.Decides.{nat_tests}
use Rattle.std.proofs.lemmas.Bool.{cases_lt}
use Rattle.lf_disk.specs.Folder.{Folder}
use Rattle.lf_sqlite_pages.specs.Apply.{Fits, apply}
use Rattle.lf_sqlite_pages.specs.Image.{DatabaseImage}
use Rattle.ltx_codec.specs.Positions.{before}
use Rattle.ltx_codec.specs.declared.file.Ltx.{Ltx}
use Rattle.ltx_compact.specs.Application.{apply_all, FitAll}
use Rattle.ltx_backup.specs.Applying.{AppliesAll, last_post, Ends}
use Rattle.ltx_backup.specs.Entries.{entry_of, entries_of}
use Rattle.ltx_backup.specs.Judging.{HasNumbers}
use Rattle.ltx_backup.specs.Levels.{Stands, Has}
use Rattle.ltx_backup.specs.Restoring.{up_to, EndsWith, IsFirstMisfit}
use Rattle.ltx_backup.specs.declared.entry.Entry.{Entry}
use Rattle.ltx_backup.specs.declared.restored.Restored.{Restored}
use Rattle.ltx_backup.proofs.Unique.{stands_once}

pub applied_one : (image : DatabaseImage) (file : Ltx) → apply_all image (file ∷ []) ≡ apply image file.change
unfolding apply_all
applied_one image file = refl

pub applied_more : (image : DatabaseImage) (file : Ltx) (files : List Ltx) → apply_all image (file ∷ files) ≡ apply_all (apply image file.change) files
unfolding apply_all
applied_more image file files = refl

pub applied_none : (image : DatabaseImage) → apply_all image [] ≡ image
unfolding apply_all
applied_none image = refl

pub applied_join : (image : DatabaseImage) (xs ys : List Ltx) → apply_all image (xs ++ ys) ≡ apply_all (apply_all image xs) ys
unfolding apply_all
applied_join image [] ys = refl
applied_join image (x ∷ xs) ys = applied_join (apply image x.change) xs ys

pub fit_join : (image : DatabaseImage) (xs ys : List Ltx) → FitAll image xs → FitAll (apply_all image xs) ys → FitAll image (xs ++ ys)
unfolding apply_all
fit_join image [] ys first second = second
fit_join image (x ∷ xs) ys first second = (first.0, fit_join (apply image x.change) xs ys first.1 second)

pub up_to_join : (txid : ℕ) (xs ys : List Ltx) → up_to txid (xs ++ ys) ≡ up_to txid xs ++ up_to txid ys
up_to_join txid [] ys = refl
up_to_join txid (x ∷ xs) ys = pick (nat_le x.header.max txid) x (up_to txid (xs ++ ys)) (up_to txid xs) (up_to txid ys) (up_to_join txid xs ys)
  where
    pick : (b : Bool) (x : Ltx) (p q r : List Ltx) → p ≡ q ++ r → (if b then x ∷ p else p) ≡ (if b then x ∷ q else q) ++ r
    pick true x p q r same = ap (λ (l : List Ltx). x ∷ l) same
    pick false x p q r same = same

pub taken : (txid : ℕ) (file : Ltx) (files : List Ltx) → file.header.max ≤ txid → up_to txid (file ∷ files) ≡ file ∷ up_to txid files
taken txid file files within =
    let is : nat_le file.header.max txid ≡ true = grind (arith, nat_tests) in
    ap (λ (b : Bool). if b then file ∷ up_to txid files else up_to txid files) is

pub left_out : (txid : ℕ) (file : Ltx) (files : List Ltx) → txid < file.header.max → up_to txid (file ∷ files) ≡ up_to txid files
left_out txid file files past =
    let isnt : nat_le file.header.max txid ≡ false = grind (arith, nat_tests) in
    ap (λ (b : Bool). if b then file ∷ up_to txid files else up_to txid files) isnt

pub last_join : (sum : ℕ) (xs ys : List Ltx) → last_post sum (xs ++ ys) ≡ last_post (last_post sum xs) ys
last_join sum [] ys = refl
last_join sum (x ∷ xs) ys = last_join x.post xs ys

-- what is done from here on is done from the start
pub record GoesOn (files rest : List Ltx) (before here : Restored) : Type 0 where
  pub all : (next : Restored) → AppliesAll rest here next → AppliesAll files before next
  pub misfit : (a b : ℕ) → IsFirstMisfit here.image rest a b → IsFirstMisfit before.image files a b

pub starts : (files : List Ltx) (before : Restored) → GoesOn files files before before
starts files before = record { all = λ next applied. applied; misfit = λ a b first. first }

-- one file was applied
pub goes_on : (files rest : List Ltx) (before here next : Restored) (file : Ltx) → GoesOn files (file ∷ rest) before here → Fits here.image file.change → next.image ≡ apply here.image file.change
    → next.post ≡ file.post → GoesOn files rest before next
goes_on files rest before here next file so_far fits image post = record {
  all = λ last applied. so_far.all last (record {
    fit = (fits, subst (λ (i : DatabaseImage). FitAll i rest) image applied.fit);
    image = applied.image ∙ ap (λ (i : DatabaseImage). apply_all i rest) image ∙ sym (applied_more here.image file rest);
    post = applied.post ∙ ap (λ (p : ℕ). last_post p rest) post;
  });
  misfit = λ a b first. so_far.misfit a b
      (inr (fits, subst (λ (i : DatabaseImage). IsFirstMisfit i rest a b) (image ∙ sym (applied_one here.image file)) first));
}

pub ended : (here : Restored) → AppliesAll [] here here
ended here = record { fit = tt; image = sym (applied_none here.image); post = refl }

-- the file of an entry is the one that stands there
pub the_one : (f : Folder) (entry : Entry) (file other : Ltx) → entry ≡ entry_of other → HasNumbers file entry → Stands f file → Stands f other → file ≡ other
the_one f entry file other is numbers stands stands_other =
    stands_once f file other stands stands_other (numbers.0 ∙ ap (λ (e : Entry). e.min) is) (numbers.1 ∙ ap (λ (e : Entry). e.max) is)

-- a level after another
pub levels_join : (xs ys : List Ltx) (before mid next : Restored) → AppliesAll xs before mid → AppliesAll ys mid next → AppliesAll (xs ++ ys) before next
levels_join xs ys before mid next first second = record {
  fit = fit_join before.image xs ys first.fit (subst (λ (i : DatabaseImage). FitAll i ys) first.image second.fit);
  image = second.image ∙ ap (λ (i : DatabaseImage). apply_all i ys) first.image ∙ sym (applied_join before.image xs ys);
  post = second.post ∙ ap (λ (p : ℕ). last_post p ys) first.post ∙ sym (last_join before.post xs ys);
}

misfit_left : (image : DatabaseImage) (xs ys : List Ltx) (a b : ℕ) → IsFirstMisfit image xs a b → IsFirstMisfit image (xs ++ ys) a b
misfit_left image [] ys a b first = absurd first
misfit_left image (x ∷ xs) ys a b (inl here) = inl here
misfit_left image (x ∷ xs) ys a b (inr later) = inr (later.0, misfit_left (apply_all image (x ∷ [])) xs ys a b later.1)

misfit_right : (image : DatabaseImage) (xs ys : List Ltx) (a b : ℕ) → FitAll image xs → IsFirstMisfit (apply_all image xs) ys a b → IsFirstMisfit image (xs ++ ys) a b
misfit_right image [] ys a b fit first = subst (λ (i : DatabaseImage). IsFirstMisfit i ys a b) (applied_none image) first
misfit_right image (x ∷ xs) ys a b fit first =
    inr (
      fit.0,
      subst (λ (i : DatabaseImage). IsFirstMisfit i (xs ++ ys) a b) (sym (applied_one image x))
          (misfit_right (apply image x.change) xs ys a b fit.1 (subst (λ (i : DatabaseImage). IsFirstMisfit i ys a b) (applied_more image x xs) first)),
    )

pub among_left : (xs ys : List Ltx) (before : Restored) (a b : ℕ) → IsFirstMisfit before.image xs a b → IsFirstMisfit before.image (xs ++ ys) a b
among_left xs ys before a b first = misfit_left before.image xs ys a b first

pub among_right : (xs ys : List Ltx) (before mid : Restored) (a b : ℕ) → AppliesAll xs before mid → IsFirstMisfit mid.image ys a b → IsFirstMisfit before.image (xs ++ ys) a b
among_right xs ys before mid a b first misfit =
    misfit_right before.image xs ys a b first.fit (subst (λ (i : DatabaseImage). IsFirstMisfit i ys a b) first.image misfit)

-- what doesn't fit is one of the files
pub misfit_has : (image : DatabaseImage) (txid : ℕ) (files : List Ltx) (a b : ℕ) → IsFirstMisfit image (up_to txid files) a b → Has files a b
misfit_has image txid [] a b first = absurd first
misfit_has image txid (file ∷ files) a b first = elim (cases_lt txid file.header.max) [
  | inl past ↦ inr (misfit_has image txid files a b (subst (λ (l : List Ltx). IsFirstMisfit image l a b) (left_out txid file files past) first))
  | inr within ↦ elim (subst (λ (l : List Ltx). IsFirstMisfit image l a b) (taken txid file files within) first) [
    | inl here ↦ inl (here.0, here.1)
    | inr later ↦ inr (misfit_has (apply_all image (file ∷ [])) txid files a b later.1)
  ]
]

-- an entry ends with a transaction, and so does its file
pub ends_with : (files : List Ltx) (txid : ℕ) → Ends (entries_of files) txid → (sum : ℕ) × EndsWith files txid sum
ends_with [] txid ends = absurd ends
ends_with (file ∷ files) txid (inl is) = (file.post, inl (is, refl))
ends_with (file ∷ files) txid (inr ends) = let it = ends_with files txid ends in (it.0, inr it.1)

pub with_ends : (files : List Ltx) (txid sum : ℕ) → EndsWith files txid sum → Ends (entries_of files) txid
with_ends [] txid sum ends = absurd ends
with_ends (file ∷ files) txid sum (inl is) = inl is.0
with_ends (file ∷ files) txid sum (inr ends) = inr (with_ends files txid sum ends)

pub ends_left : (xs ys : List Ltx) (txid sum : ℕ) → EndsWith xs txid sum → EndsWith (xs ++ ys) txid sum
ends_left [] ys txid sum ends = absurd ends
ends_left (x ∷ xs) ys txid sum (inl is) = inl is
ends_left (x ∷ xs) ys txid sum (inr ends) = inr (ends_left xs ys txid sum ends)

pub ends_right : (xs ys : List Ltx) (txid sum : ℕ) → EndsWith ys txid sum → EndsWith (xs ++ ys) txid sum
ends_right [] ys txid sum ends = ends
ends_right (x ∷ xs) ys txid sum ends = inr (ends_right xs ys txid sum ends)

pub ends_cases : (xs ys : List Ltx) (txid sum : ℕ) → EndsWith (xs ++ ys) txid sum → EndsWith xs txid sum ⊎ EndsWith ys txid sum
ends_cases [] ys txid sum ends = inr ends
ends_cases (x ∷ xs) ys txid sum (inl is) = inl (inl is)
ends_cases (x ∷ xs) ys txid sum (inr ends) = elim (ends_cases xs ys txid sum ends) [ inl left ↦ inl (inr left) | inr right ↦ inr right ]
