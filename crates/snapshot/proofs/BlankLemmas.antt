-- The bytes of a database with zeros at the lock page are its image.
use Rattle.std.proofs.Common.{◌≡◌, ◌≢◌, inl, inr, ℕ, zero, suc, ◌+◌, ◌-◌, ◌*◌, ◌<◌, ◌≤◌, Some, List, [], ◌++◌, length, length-append, append_assoc, append-nil, take, drop, replicate, refl, sym, ◌∙◌, ap, subst, arith}
use Rattle.std.proofs.Math.Nat.{mul-le-mul_right}
use Rattle.std.proofs.Math.Seq.{take-add}
use Rattle.std.proofs.lemmas.Bool.{cases_eq}
use Rattle.std.proofs.lemmas.List.{drop_at, take_all, take_at, length-replicate}
use Rattle.std.specs.List.{concat, slice_get}
use Rattle.lf_base.specs.FileBytes.{overwritten, resized}
use Rattle.lf_disk.specs.Tears.{Torn-overwritten}
use Rattle.lf_sqlite_pages.specs.Image.{DatabaseImage, image_bytes}
use Rattle.lf_sqlite_pages.specs.LockPage.{lock_page_of}
use Rattle.lf_sqlite_pages.proofs.LockPages.{lock_page-first}
use Rattle.lf_sqlite_pages.proofs.PageNumbers.{page_at-next}
use Rattle.txn_log.specs.Pages.{in_place, page_in}
use Rattle.txn_log.proofs.PagesRead.{count, page_at-in}
use Rattle.txn_log.proofs.Places.{page_end, torn_page}
use Rattle.txn_log.proofs.Puttings.{page_in-data, page_in-lock}
use Rattle.snapshot.specs.Bytes.{image_of_pages}
use Rattle.snapshot.proofs.ExportLemmas.{concat-take, pages_all}

-- where each page stands in its place, the bytes are the pages
module _ (size commit : ℕ) (bytes new : List ℕ) (same : (n : ℕ) → 1 ≤ n → n ≤ commit → in_place size n new ≡ page_in size bytes n) where
  abbrev image : DatabaseImage
  image = image_of_pages size commit bytes

  next : (k : ℕ) → k + 1 ≤ commit → concat (take k image.pages) ≡ take (k * size) new → concat (take (k + 1) image.pages) ≡ take ((k + 1) * size) new
  next k within so_far =
      let page : List ℕ = page_in size bytes (k + 1) in
      let found : slice_get image.pages k ≡ Some page = sym (page_at-next image k) ∙ page_at-in size commit (λ _. Some bytes) (k + 1) (omega arith) within in
      let back : k + 1 - 1 ≡ k = omega arith in
      let there : take size (drop (k * size) new) ≡ page = ap (λ (m : ℕ). take size (drop (m * size) new)) (sym back) ∙ same (k + 1) (omega arith) within in
      let end : k * size + size ≡ (k + 1) * size = ap (λ (m : ℕ). m * size + size) (sym back) ∙ page_end size (k + 1) (omega arith) in
      concat-take image.pages k page found
      ∙ ap (λ (l : List ℕ). l ++ page) so_far
      ∙ ap (λ (l : List ℕ). take (k * size) new ++ l) (sym there)
      ∙ sym (take-add (k * size) size new)
      ∙ ap (λ (m : ℕ). take m new) end

  front : (k : ℕ) → k ≤ commit → concat (take k image.pages) ≡ take (k * size) new
  front zero within =
      let none : 0 ≡ 0 * size = omega arith in
      ap (λ (m : ℕ). take m new) none
  front (suc k) within =
      let up : k + 1 ≡ suc k = omega arith in
      subst (λ (m : ℕ). concat (take m image.pages) ≡ take (m * size) new) up (next k (omega (arith, within)) (front k (omega (arith, within))))

  all_in_place : length new ≡ commit * size → new ≡ image_bytes image
  all_in_place long =
      sym (take_all (commit * size) new (omega (arith, long)))
      ∙ sym (front commit (omega arith))
      ∙ pages_all image commit (sym (count size commit (λ _. Some bytes)))

-- a database that ends before its lock page
pub none_blank : (size commit : ℕ) (bytes : List ℕ) → length bytes ≡ commit * size → commit < lock_page_of size → bytes ≡ image_bytes (image_of_pages size commit bytes)
none_blank size commit bytes long past =
    all_in_place size commit bytes bytes (λ n first last. sym (page_in-data size bytes n (λ lock. absurd (omega (arith, lock, last, past))))) long

-- and one that has it, where that page became zeros
pub one_blank : (size commit : ℕ) (bytes start page rest : List ℕ) → length bytes ≡ commit * size → lock_page_of size ≤ commit →
    bytes ≡ start ++ (page ++ rest) → length start ≡ (lock_page_of size - 1) * size → length page ≡ size →
    start ++ (replicate size 0 ++ rest) ≡ image_bytes (image_of_pages size commit bytes)
one_blank size commit bytes start page rest long within is at whole =
    all_in_place size commit bytes new same (length-append start (zeros ++ rest) ∙ omega (arith, long, total, blank, length-append zeros rest, whole)) where
      lock : ℕ
      lock = lock_page_of size

      zeros : List ℕ
      zeros = replicate size 0

      new : List ℕ
      new = start ++ (zeros ++ rest)

      blank : length zeros ≡ size
      blank = length-replicate {A = ℕ} size 0

      total : length bytes ≡ length start + (length page + length rest)
      total = ap length is ∙ length-append start (page ++ rest) ∙ ap (λ (k : ℕ). length start + k) (length-append page rest)

      before : resized ((lock - 1) * size) bytes ≡ start
      before =
          let none : (lock - 1) * size - length bytes ≡ 0 = omega (arith, total, at) in
          ap (λ (k : ℕ). take ((lock - 1) * size) bytes ++ replicate k 0) none
          ∙ append-nil (take ((lock - 1) * size) bytes)
          ∙ ap (take ((lock - 1) * size)) is
          ∙ take_at start (page ++ rest) ((lock - 1) * size) at

      behind : drop ((lock - 1) * size + length zeros) bytes ≡ rest
      behind =
          ap (drop ((lock - 1) * size + length zeros)) (is ∙ sym (append_assoc start page rest))
          ∙ drop_at (start ++ page) rest ((lock - 1) * size + length zeros) (length-append start page ∙ omega (arith, at, whole, blank))

      over : overwritten ((lock - 1) * size) zeros bytes ≡ new
      over =
          ap (λ (l : List ℕ). l ++ zeros ++ drop ((lock - 1) * size + length zeros) bytes) before
          ∙ ap (λ (l : List ℕ). start ++ zeros ++ l) behind
          ∙ append_assoc start zeros rest

      same : (n : ℕ) → 1 ≤ n → n ≤ commit → in_place size n new ≡ page_in size bytes n
      same n first last = elim (cases_eq n lock) [
        | inl is_lock ↦
            ap (λ (m : ℕ). take size (drop ((m - 1) * size) new)) is_lock
            ∙ ap (take size) (drop_at start (zeros ++ rest) ((lock - 1) * size) at)
            ∙ take_at zeros rest size blank
            ∙ sym (page_in-lock size bytes n is_lock)
        | inr other ↦
            let torn = Torn-overwritten ((lock - 1) * size) size zeros bytes (omega (arith, blank)) in
            let inside : n * size ≤ commit * size = mul-le-mul_right size last in
            let left = torn_page size lock n bytes (overwritten ((lock - 1) * size) zeros bytes) (lock_page-first size) first (λ e. other (sym e)) torn (omega (arith, inside, long)) in
            ap (in_place size n) (sym over) ∙ left.same ∙ sym (page_in-data size bytes n other)
      ]
