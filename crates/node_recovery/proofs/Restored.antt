-- The pages that a change leaves over a file are those of the file with the change written over it.
use Rattle.std.proofs.Common.{◌≡◌, ◌≢◌, inl, inr, ℕ, suc, ◌+◌, ◌-◌, ◌*◌, ◌<◌, ◌≤◌, true, false, cond, Bool, Option, Some, None, List, [], ◌∷◌, length, length-take, length-drop, drop, map, get_or, get_or-take, get_or-drop, unwrap_or, refl, sym, ◌∙◌, ap, arith}
use Rattle.std.specs.Prelude.{◌==◌}
use Rattle.std.specs.List.{range_with_len, slice_get}
use Rattle.std.specs.Option.{option_map}
use Rattle.std.proofs.Math.Nat.{mul-le-mul_right}
use Rattle.std.proofs.lemmas.Bool.{cases_lt, cases_eq}
use Rattle.std.proofs.lemmas.Bool.Decides.{nat_tests}
use Rattle.std.proofs.lemmas.List.FromFn.{length-map-range_with_len, get_or-map-range_with_len}
use Rattle.std.proofs.lemmas.Grind.{same_number_lists}
use Rattle.std.proofs.lemmas.Option.{slice_get-get_or}
use Rattle.lf_base.specs.FileBytes.{overwritten}
use Rattle.lf_base.proofs.FileLemmas.{length-resized, get_or-resized, overwritten_before, overwritten_behind}
use Rattle.lf_disk.specs.Tears.{Cropped-resized}
use Rattle.page_checksum.specs.Sums.{page_sum_of}
use Rattle.lf_sqlite_pages.specs.LockPage.{lock_page_of}
use Rattle.lf_sqlite_pages.specs.Image.{DatabaseImage, page_at}
use Rattle.lf_sqlite_pages.specs.Change.{PageChange, IsChange, AscendsAbove, written}
use Rattle.lf_sqlite_pages.specs.declared.page_write.PageWrite.{PageWrite}
use Rattle.ltx_codec.specs.Sums.{sum_table, page_sum_at}
use Rattle.txn_log.specs.Pages.{in_place, page_in, SamePage, patched}
use Rattle.txn_log.proofs.Places.{page_end, cropped_page}
use Rattle.txn_log.proofs.Puttings.{cases_option, page_in-data, patched_written}
use Rattle.txn_log.proofs.Wearing.{other_number, written_rest}
use Rattle.lf_sqlite_pages.specs.Header.{is_wal, image_is_wal}
use Rattle.node_recovery.specs.Summing.{padded, page_left, sum_left, sums_left, mode_left, restored, restored_image}
use Rattle.node_recovery.proofs.Summings.{first_data}

-- the bytes of a page that is not written stay, also past the file's end, where zeros are read
patched_other : (size number : ℕ) (ws : List PageWrite) (bytes : List ℕ) (n k : ℕ) → AscendsAbove number ws → ((j : ℕ) (d : PageWrite) → j < length ws → length (get_or ws j d).bytes ≡ size)
    → 1 ≤ n → k < size → written ws n ≡ None → get_or (patched size bytes ws) ((n - 1) * size + k) 0 ≡ get_or bytes ((n - 1) * size + k) 0
patched_other size number [] bytes n k ascending whole first inside none = refl
patched_other size number (w ∷ ws) bytes n k ascending whole first inside none =
    let one : length w.bytes ≡ size = whole 0 w (omega arith) in
    let other : w.number ≢ n = other_number (w ∷ ws) n none 0 w (omega arith) in
    let over : List ℕ = overwritten ((w.number - 1) * size) w.bytes bytes in
    patched_other size w.number ws over n k ascending.1 (λ j d within. whole (suc j) d (omega arith)) first inside (written_rest w ws n none)
    ∙ elim (cases_lt n w.number) [
      | inl below ↦
          let room : n * size ≤ (w.number - 1) * size = mul-le-mul_right size (omega (arith, below)) in
          overwritten_before ((w.number - 1) * size) w.bytes bytes ((n - 1) * size + k) (omega (arith, room, page_end size n first, inside))
      | inr above ↦
          let room : w.number * size ≤ (n - 1) * size = mul-le-mul_right size (omega (arith, above, other)) in
          let end : (w.number - 1) * size + size ≡ w.number * size = page_end size w.number (omega (arith, ascending.0)) in
          overwritten_behind ((w.number - 1) * size) w.bytes bytes ((n - 1) * size + k) (omega (arith, room, end)) (omega (arith, room, end, one))
    ]

module _ (change : PageChange) (bytes : List ℕ) (valid : IsChange change) where
  abbrev size : ℕ
  size = change.page_size

  abbrev over : List ℕ
  over = patched change.page_size bytes change.pages

  long : length (restored change bytes) ≡ change.commit * change.page_size
  long = length-resized (change.commit * change.page_size) over

  page_kept : (n : ℕ) → 1 ≤ n → n ≤ change.commit → written change.pages n ≡ None → in_place size n (restored change bytes) ≡ padded size n bytes
  page_kept n first last none =
      let at = (n - 1) * change.page_size in
      let room : n * change.page_size ≤ change.commit * change.page_size = mul-le-mul_right change.page_size last in
      let end : at + change.page_size ≡ n * change.page_size = page_end change.page_size n first in
      let count : length (in_place change.page_size n (restored change bytes)) ≡ change.page_size =
      omega (arith, length-take change.page_size (drop at (restored change bytes)), length-drop at (restored change bytes), long, room, end) in
      same_number_lists (in_place change.page_size n (restored change bytes)) (padded change.page_size n bytes) (count ∙ sym (length-resized change.page_size (drop at bytes)))
      (λ k within.
      let inside : k < change.page_size = omega (arith, within, count) in
      get_or-take change.page_size (drop at (restored change bytes)) k 0 inside ∙ get_or-drop at (restored change bytes) k 0
      ∙ get_or-resized (change.commit * change.page_size) over (at + k) (omega (arith, inside, room, end))
      ∙ patched_other change.page_size 0 change.pages bytes n k valid.ascending valid.whole first inside none
      ∙ sym (get_or-resized change.page_size (drop at bytes) k inside ∙ get_or-drop at bytes k 0))

  page_written : (n : ℕ) (piece : List ℕ) → 1 ≤ n → n ≤ change.commit → written change.pages n ≡ Some piece → in_place size n (restored change bytes) ≡ piece
  page_written n piece first last some =
      let room : n * change.page_size ≤ change.commit * change.page_size = mul-le-mul_right change.page_size last in
      let made = patched_written change.page_size 0 change.pages bytes n piece valid.ascending valid.whole first some in
      let cut : SamePage change.page_size n over (restored change bytes) =
      cropped_page change.page_size (change.commit * change.page_size) n over (restored change bytes) first room (Cropped-resized (change.commit * change.page_size) (change.commit * change.page_size) over (omega arith) (omega arith)) made.1 in
      cut.same ∙ made.0

  pub page_there : (n : ℕ) → 1 ≤ n → n ≤ change.commit → in_place size n (restored change bytes) ≡ unwrap_or (written change.pages n) (padded size n bytes)
  page_there n first last = elim (cases_option (written change.pages n)) [
    | inl none ↦ page_kept n first last none ∙ sym (ap (λ (o : Option (List ℕ)). unwrap_or o (padded change.page_size n bytes)) none)
    | inr some ↦ page_written n some.0 first last some.1 ∙ sym (ap (λ (o : Option (List ℕ)). unwrap_or o (padded change.page_size n bytes)) some.1)
  ]

  abbrev image : DatabaseImage
  image = restored_image change bytes

  pub count : length image.pages ≡ change.commit
  count = length-map-range_with_len (page_in change.page_size (restored change bytes)) 1 change.commit

  pub page_of : (n : ℕ) → 1 ≤ n → n ≤ change.commit → page_at image n ≡ Some (page_in change.page_size (restored change bytes) n)
  page_of n first last =
      let page : ℕ → List ℕ = page_in change.page_size (restored change bytes) in
      let test : (n == 0) ≡ false = grind (arith, nat_tests) in
      ap (λ (b : Bool). cond b None (slice_get (map page (range_with_len 1 change.commit)) (n - 1))) test
      ∙ slice_get-get_or (map page (range_with_len 1 change.commit)) (n - 1) (page n) (omega (arith, count))
      ∙ ap (λ (p : List ℕ). Some p) (get_or-map-range_with_len page 1 change.commit (n - 1) n (page n) (omega arith) (omega arith))

  sum_there : (n : ℕ) → 1 ≤ n → n ≤ change.commit → sum_left change bytes n ≡ page_sum_at image n
  sum_there n first last = elim (cases_eq n (lock_page_of change.page_size)) [
    | inl lock ↦
        let test : (n == lock_page_of change.page_size) ≡ true = grind (arith, nat_tests) in
        ap (λ (b : Bool). cond b 0 (page_sum_of n (unwrap_or (written change.pages n) (padded change.page_size n bytes)))) test
        ∙ sym (ap (λ (b : Bool). unwrap_or (option_map (page_sum_of n) (cond b None (page_at image n))) 0) test)
    | inr other ↦
        let test : (n == lock_page_of change.page_size) ≡ false = grind (arith, nat_tests) in
        ap (λ (b : Bool). cond b 0 (page_sum_of n (unwrap_or (written change.pages n) (padded change.page_size n bytes)))) test
        ∙ sym (ap (page_sum_of n) (page_in-data change.page_size (restored change bytes) n other ∙ page_there n first last))
        ∙ sym (ap (λ (b : Bool). unwrap_or (option_map (page_sum_of n) (cond b None (page_at image n))) 0) test ∙ ap (λ (o : Option (List ℕ)). unwrap_or (option_map (page_sum_of n) o) 0) (page_of n first last))
  ]

  -- so the sums are known before the change is written
  pub sums_restored : sums_left change bytes ≡ sum_table image
  sums_restored =
      let left : length (sums_left change bytes) ≡ change.commit = length-map-range_with_len (sum_left change bytes) 1 change.commit in
      let right : length (sum_table image) ≡ length image.pages = length-map-range_with_len (page_sum_at image) 1 (length image.pages) in
      same_number_lists (sums_left change bytes) (sum_table image) (left ∙ sym (right ∙ count))
      (λ k within.
      let inside : k < change.commit = omega (arith, within, left) in
      get_or-map-range_with_len (sum_left change bytes) 1 change.commit k (k + 1) 0 inside (omega arith)
      ∙ sum_there (k + 1) (omega arith) (omega (arith, inside))
      ∙ sym (get_or-map-range_with_len (page_sum_at image) 1 (length image.pages) k (k + 1) 0 (omega (arith, inside, count)) (omega arith)))

  -- and so is the mode
  pub mode_restored : mode_left change bytes ≡ image_is_wal image
  mode_restored = elim (cases_eq change.commit 0) [
    | inl zero ↦
        let test : (change.commit == 0) ≡ true = grind (arith, nat_tests) in
        let made : ℕ → DatabaseImage = λ c. record { page_size = change.page_size; pages = map (page_in change.page_size (restored change bytes)) (range_with_len 1 c) } in
        ap (λ (b : Bool). cond b false (is_wal (page_left change bytes 1))) test ∙ sym (ap (λ (c : ℕ). image_is_wal (made c)) zero)
    | inr some ↦
        let test : (change.commit == 0) ≡ false = grind (arith, nat_tests) in
        let first : 1 ≤ change.commit = omega (arith, some) in
        ap (λ (b : Bool). cond b false (is_wal (page_left change bytes 1))) test
        ∙ sym (ap is_wal (page_in-data change.page_size (restored change bytes) 1 (first_data change bytes valid) ∙ page_there 1 (omega arith) first))
        ∙ sym (ap (λ (o : Option (List ℕ)). is_wal (unwrap_or o [])) (page_of 1 (omega arith) first))
  ]
