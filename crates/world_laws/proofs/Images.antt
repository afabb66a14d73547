-- Images that a change makes, and the changes that fit an image.
use Rattle.std.proofs.Common.{◌≡◌, ◌⊎◌, ℕ, List, [], ◌∷◌, length, inl, inr, sym, refl, subst, ◌∙◌}
use Rattle.std.specs.List.{All}
use Rattle.std.proofs.lemmas.List.Elements.{All-head, All-nil}
use Rattle.lf_sqlite_pages.specs.Image.{DatabaseImage, IsImage, empty_image}
use Rattle.lf_sqlite_pages.specs.Change.{PageChange}
use Rattle.lf_sqlite_pages.specs.Apply.{Fits}
use Rattle.lf_sqlite_pages.proofs.Images.{IsImage-no_pages}
use Rattle.world_laws.specs.Lineage.{Suits}
pub use Rattle.lf_sqlite_pages.proofs.Images.{IsImage-apply}
pub use Rattle.lf_sqlite_pages.proofs.DataWrites.{apply-same}

pub IsImage-empty : IsImage empty_image
IsImage-empty = IsImage-no_pages [] refl

-- what fits an image suits its pages
pub suits-of : (image : DatabaseImage) (change : PageChange) → IsImage image → Fits image change → Suits image.pages change
suits-of image change valid (inl size) = inl (subst (λ (n : ℕ). All (λ (page : List ℕ). length page ≡ n) image.pages) size valid.whole)
suits-of image change valid (inr (inl none)) = inl (subst (λ (pages : List (List ℕ)). All (λ (page : List ℕ). length page ≡ change.page_size) pages) (sym none) (All-nil (λ page. length page ≡ change.page_size)))
suits-of image change valid (inr (inr every)) = inr every

size_of : (image : DatabaseImage) (size : ℕ) (pages : List (List ℕ)) → image.pages ≡ pages → All (λ (page : List ℕ). length page ≡ image.page_size) pages → All (λ (page : List ℕ). length page ≡ size) pages →
    (image.page_size ≡ size) ⊎ (image.pages ≡ [])
size_of image size [] is whole all = inr is
size_of image size (p ∷ ps) is whole all =
    inl (sym (All-head (λ (page : List ℕ). length page ≡ image.page_size) p ps whole) ∙ All-head (λ (page : List ℕ). length page ≡ size) p ps all)

-- and what suits them fits the image
pub fits-of : (image : DatabaseImage) (change : PageChange) → IsImage image → Suits image.pages change → Fits image change
fits-of image change valid (inl all) = elim (size_of image change.page_size image.pages refl valid.whole all) [
  | inl size ↦ inl size
  | inr none ↦ inr (inl none)
]
fits-of image change valid (inr every) = inr (inr every)
