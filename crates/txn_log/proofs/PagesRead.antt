-- The pages of a store, as its database file reads.
use Rattle.std.proofs.Common.{◌≡◌, inl, inr, ℕ, ◌+◌, ◌-◌, ◌*◌, ◌<◌, ◌≤◌, ◌^◌, Bool, true, false, Some, None, IsTrue, List, [], length, length-take, length-drop, take, drop, ◌++◌, replicate, refl, sym, ◌∙◌, ap, arith}
use Rattle.std.specs.Prelude.{IfSome, if◌then◌else◌}
use Rattle.std.proofs.Math.Nat.{mul-le-mul_right}
use Rattle.std.proofs.lemmas.Bool.{cases_eq}
use Rattle.std.proofs.lemmas.List.{length-replicate, drop_all, append-nil}
use Rattle.std.proofs.lemmas.List.FromFn.{length-map-range_with_len, get_or-map-range_with_len}
use Rattle.std.proofs.lemmas.Option.{slice_get-get_or}
use Rattle.lf_base.specs.FileBytes.{read_into}
use Rattle.lf_disk.specs.declared.name.FileName.TheVariants.{Database}
use Rattle.lf_disk.specs.Folder.{Folder, bytes_of}
use Rattle.lf_sqlite_pages.specs.LockPage.{lock_page_of, IsDataPage}
use Rattle.lf_sqlite_pages.specs.Image.{DatabaseImage, IsImage, page_at}
use Rattle.lf_sqlite_pages.proofs.LockPages.{lock_page-first}
use Rattle.lf_sqlite_pages.proofs.PageNumbers.{page_at-first}
use Rattle.txn_log.specs.Pages.{in_place, page_in}
use Rattle.txn_log.specs.Store.{image_in, IsSized}
use Rattle.txn_log.proofs.Places.{page_end}
use Rattle.txn_log.proofs.Puttings.{page_in-lock, page_in-data}

-- what is told where the disk is honest
pub if_told : (b : Bool) (x : DatabaseImage) (P : DatabaseImage → Type 0) → (IsTrue b → P x) → IfSome (if b then Some x else None) P
if_told true x P holds = holds refl
if_told false x P holds = tt

module _ (size commit : ℕ) (f : Folder) where
  pub count : length (image_in size commit f).pages ≡ commit
  count = length-map-range_with_len (page_in size (bytes_of (f Database))) 1 commit

  pub page_at-in : (n : ℕ) → 1 ≤ n → n ≤ commit → page_at (image_in size commit f) n ≡ Some (page_in size (bytes_of (f Database)) n)
  page_at-in n first last =
      let page : ℕ → List ℕ = page_in size (bytes_of (f Database)) in
      let inside : n - 1 < length (image_in size commit f).pages = omega (arith, first, last, count) in
      page_at-first (image_in size commit f) n first
      ∙ slice_get-get_or (image_in size commit f).pages (n - 1) (page n) inside
      ∙ ap (λ (p : List ℕ). Some p) (get_or-map-range_with_len page 1 commit (n - 1) n (page n) (omega (arith, first, last)) (omega (arith, first)))

  module _ (long : length (bytes_of (f Database)) ≡ length (image_in size commit f).pages * size) where
    end : (n : ℕ) → n ≤ commit → n * size ≤ length (bytes_of (f Database))
    end n last =
        let room : n * size ≤ commit * size = mul-le-mul_right size last in
        let all : length (bytes_of (f Database)) ≡ commit * size = long ∙ ap (λ (c : ℕ). c * size) count in
        omega (arith, room, all)

    page_whole : (n : ℕ) → 1 ≤ n → n ≤ commit → length (page_in size (bytes_of (f Database)) n) ≡ size
    page_whole n first last = elim (cases_eq n (lock_page_of size)) [
      | inl lock ↦ ap length (page_in-lock size (bytes_of (f Database)) n lock) ∙ length-replicate {A = ℕ} size 0
      | inr other ↦
          let at = (n - 1) * size in
          ap length (page_in-data size (bytes_of (f Database)) n other)
          ∙ omega (arith, page_end size n first, end n last, length-take size (drop at (bytes_of (f Database))), length-drop at (bytes_of (f Database)))
    ]

    -- the image is one
    pub is_image : IsSized size commit → commit < 2 ^ 32 → IsImage (image_in size commit f)
    is_image sized few = record {
      sized = sized.sized;
      of_a_page_size = λ some. sized.pages (omega (arith, some, count));
      whole = λ k d within.
          let inside : k < commit = omega (arith, within, count) in
          ap length (get_or-map-range_with_len (page_in size (bytes_of (f Database))) 1 commit k (k + 1) d inside (omega arith))
          ∙ page_whole (k + 1) (omega arith) (omega (arith, inside));
      blank = λ within.
          page_at-in (lock_page_of size) (lock_page-first size) (omega (arith, within, count))
          ∙ ap (λ (p : List ℕ). Some p) (page_in-lock size (bytes_of (f Database)) (lock_page_of size) refl);
      numbered = omega (arith, few, count);
    }

    -- a read at the place of a data page gives it
    pub reads_page : (n : ℕ) (old new : List ℕ) → 1 ≤ n → n ≤ commit → IsDataPage size n → length old ≡ size → new ≡ read_into ((n - 1) * size) (bytes_of (f Database)) (replicate (length old) 0)
        → page_at (image_in size commit f) n ≡ Some new
    reads_page n old new first last data_page whole is =
        let at = (n - 1) * size in
        let bytes = bytes_of (f Database) in
        let zeros : List ℕ = replicate (length old) 0 in
        let long_zeros : length zeros ≡ size = length-replicate {A = ℕ} (length old) 0 ∙ whole in
        let none : drop (length bytes - at) zeros ≡ [] = drop_all (length bytes - at) zeros (omega (arith, long_zeros, page_end size n first, end n last)) in
        let read : read_into at bytes zeros ≡ in_place size n bytes =
        ap (λ (l : List ℕ). take (length zeros) (drop at bytes) ++ l) none ∙ append-nil (take (length zeros) (drop at bytes)) ∙ ap (λ (k : ℕ). take k (drop at bytes)) long_zeros in
        page_at-in n first last ∙ ap (λ (p : List ℕ). Some p) (page_in-data size bytes n data_page ∙ sym read ∙ sym is)

  -- and zeros are the lock page
  pub reads_lock : (n : ℕ) (old new : List ℕ) → 1 ≤ n → n ≤ commit → n ≡ lock_page_of size → length old ≡ size → new ≡ replicate (length old) 0 → page_at (image_in size commit f) n ≡ Some new
  reads_lock n old new first last lock whole is =
      page_at-in n first last
      ∙ ap (λ (p : List ℕ). Some p) (page_in-lock size (bytes_of (f Database)) n lock ∙ ap (λ (k : ℕ). replicate k 0) (sym whole) ∙ sym is)
