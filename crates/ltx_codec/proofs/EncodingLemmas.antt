-- Bytes that were read are the encoding of what they say.
use Rattle.std.proofs.Common.{◌<◌, ◌^◌, ◌≡◌, ◌≢◌, ℕ, ◌+◌, ◌≤◌, List, [], ◌∷◌, ◌++◌, length, take, drop, arith, refl, sym, ap, subst, inl, inr, ◌∙◌, add-one, append_assoc}
use Rattle.std.specs.Prelude.{IsSome}
use Rattle.std.specs.Int.{w32, w64, to_be_bytes}
use Rattle.std.proofs.lemmas.Bool.{cases_lt}
use Rattle.std.proofs.lemmas.List.{length-take, length-drop, get_or-drop, get_or-take, get_or_past, append-nil, drop-drop}
use Rattle.std.proofs.lemmas.List.FromFn.{map-range_with_len_more}
use Rattle.std.proofs.lemmas.List.Sums.{fold-append}
use Rattle.std.proofs.lemmas.Nat.{be_bytes_4, be_bytes_8}
use Rattle.std.proofs.Math.Seq.{take-add}
use Rattle.lf_sqlite_pages.specs.declared.page_write.PageWrite.{PageWrite}
use Rattle.lf_sqlite_pages.specs.LockPage.{data_page_after}
use Rattle.lf_sqlite_pages.specs.Change.{PageChange, with_page, last_number, written}
use Rattle.ltx_codec.specs.Fields.{AreBytes, stated_page_size, header_in}
use Rattle.ltx_codec.specs.Format.{pages_encoding}
use Rattle.ltx_codec.specs.Places.{number_place, number_at, number_before, page_in, write_in, writes_in}
use Rattle.ltx_codec.specs.Block.{HoldsPages, HoldsEachSoFar, IsNextNumber}
use Rattle.ltx_codec.proofs.BlockLemmas.{next_place}
use Rattle.ltx_codec.proofs.DataPages.{after-least, follows-next, written-front, written-back, written-here}
use Rattle.lf_base.specs.Endian.{be32_at, be64_at}

pub AreBytes-drop : (n : ℕ) (bytes : List ℕ) → AreBytes bytes → AreBytes (drop n bytes)
AreBytes-drop n bytes h i = rw get_or-drop (h (n + i))

pub AreBytes-take : (n : ℕ) (bytes : List ℕ) → AreBytes bytes → AreBytes (take n bytes)
AreBytes-take n bytes h i =
    elim (cases_lt i n) [
      | inl lt ↦ rw (get_or-take n bytes i 0 lt) (h i)
      | inr le ↦ rw (get_or_past (take n bytes) i 0 (omega (arith, length-take n bytes))) (omega arith)
    ]

-- the four bytes at a place spell the number there
pub four_spelled : (place : ℕ) (bytes : List ℕ) → AreBytes bytes → place + 4 ≤ length bytes → to_be_bytes w32 (be32_at place bytes) ≡ take 4 (drop place bytes)
unfolding be32_at
four_spelled place bytes fits room =
    be_bytes_4 (take 4 (drop place bytes)) (be32_at place bytes)
    (omega (arith, length-take 4 (drop place bytes), length-drop place bytes))
    (AreBytes-take 4 (drop place bytes) (AreBytes-drop place bytes fits)) refl

pub eight_spelled : (place : ℕ) (bytes : List ℕ) → AreBytes bytes → place + 8 ≤ length bytes → to_be_bytes w64 (be64_at place bytes) ≡ take 8 (drop place bytes)
unfolding be64_at
eight_spelled place bytes fits room =
    be_bytes_8 (take 8 (drop place bytes)) (be64_at place bytes)
    (omega (arith, length-take 8 (drop place bytes), length-drop place bytes))
    (AreBytes-take 8 (drop place bytes) (AreBytes-drop place bytes fits)) refl

-- a number of four or eight bytes has that width
pub four_below : (place : ℕ) (bytes : List ℕ) → AreBytes bytes → be32_at place bytes < 2 ^ 32
unfolding be32_at
four_below place bytes fits =
    let few = AreBytes-take 4 (drop place bytes) (AreBytes-drop place bytes fits) in
    omega (arith, few 0, few 1, few 2, few 3)

pub eight_below : (place : ℕ) (bytes : List ℕ) → AreBytes bytes → be64_at place bytes < 2 ^ 64
unfolding be64_at
eight_below place bytes fits =
    let few = AreBytes-take 8 (drop place bytes) (AreBytes-drop place bytes fits) in
    omega (arith, few 0, few 1, few 2, few 3, few 4, few 5, few 6, few 7)

-- the encoding of one more page
pub pages_encoding-push : (ws : List PageWrite) (w : PageWrite) → pages_encoding (ws ++ w ∷ []) ≡ pages_encoding ws ++ (to_be_bytes w32 w.number ++ w.bytes)
pages_encoding-push [] w = simp append-nil
pages_encoding-push (v ∷ vs) w = rw (pages_encoding-push vs w) (simp append_assoc)

-- the bytes from the k-th number's place to the next are the number and its page
slot_spelled : (bytes : List ℕ) (k : ℕ) → AreBytes bytes → number_place bytes k + 4 ≤ length bytes
    → take (number_place bytes (k + 1)) bytes ≡ take (number_place bytes k) bytes ++ (to_be_bytes w32 (number_at bytes k) ++ page_in bytes k)
slot_spelled bytes k fits room =
    let at = number_place bytes k in
    let size = stated_page_size bytes in
    let number : to_be_bytes w32 (number_at bytes k) ≡ take 4 (drop at bytes) = four_spelled at bytes fits room in
    let page : page_in bytes k ≡ take size (drop 4 (drop at bytes)) = ap (λ (d : List ℕ). take size d) (sym (drop-drop 4 at bytes)) in
    ap (λ (n : ℕ). take n bytes) (next_place bytes k)
    ∙ take-add at (4 + size) bytes
    ∙ ap (λ (d : List ℕ). take at bytes ++ d) (take-add 4 size (drop at bytes))
    ∙ ap (λ (d : List ℕ). take at bytes ++ (d ++ take size (drop 4 (drop at bytes)))) (sym number)
    ∙ ap (λ (d : List ℕ). take at bytes ++ (to_be_bytes w32 (number_at bytes k) ++ d)) (sym page)

pub before_more : (bytes : List ℕ) (k : ℕ) → number_before bytes (k + 1) ≡ number_at bytes k
before_more bytes k = rw add-one refl

-- each data page up to the next is held, where the page that goes to the end is the next one
each_next : (change : PageChange) (n : ℕ) (page : List ℕ) → n ≡ data_page_after change.page_size (last_number change.pages) → last_number (with_page change n page).pages ≡ n
    → HoldsEachSoFar change → HoldsEachSoFar (with_page change n page)
each_next change n page next last each m first within data_page =
    let w : PageWrite = record { number = n; bytes = page } in
    elim (cases_lt (last_number change.pages) m) [
      | inl behind ↦
          let least = after-least change.page_size (last_number change.pages) m behind data_page in
          let same : n ≡ m = omega (arith, least, within, last, next) in
          written-back change.pages (w ∷ []) m (subst (λ (i : ℕ). IsSome (written (w ∷ []) i)) same (written-here w []))
      | inr before ↦ written-front change.pages (w ∷ []) m (each m first before data_page)
    ]

-- one more page is held
pub holds_next : (bytes : List ℕ) (change : PageChange) (k n : ℕ) (page : List ℕ) → AreBytes bytes → HoldsPages bytes change k → IsNextNumber bytes k
    → n ≡ number_at bytes k → n ≢ 0 → page ≡ page_in bytes k → HoldsPages bytes (with_page change n page) (k + 1)
holds_next bytes change k n page fits holds number n-is more page-is =
    let w : PageWrite = record { number = n; bytes = page } in
    let w-is : w ≡ write_in bytes k = write_is n (number_at bytes k) page (page_in bytes k) n-is page-is in
    let last : last_number (with_page change n page).pages ≡ n = fold-append (λ _ (w : PageWrite). w.number) 0 change.pages (w ∷ []) in
    record {
      page_size = holds.page_size;
      commit = holds.commit;
      last = last ∙ n-is ∙ sym (before_more bytes k);
      writes = ap (λ (l : List PageWrite). l ++ w ∷ []) holds.writes
          ∙ ap (λ (v : PageWrite). writes_in bytes k ++ v ∷ []) w-is
          ∙ sym (map-range_with_len_more (write_in bytes) 0 k k (omega arith));
      each = λ snapshot.
          let next = follows-next (header_in bytes) (number_before bytes k) (number_at bytes k) number.may (λ zero. more (n-is ∙ zero)) snapshot in
          each_next change n page (n-is ∙ next ∙ ap (λ (m : ℕ). data_page_after (stated_page_size bytes) m) (sym holds.last) ∙ ap (λ (size : ℕ). data_page_after size (last_number change.pages)) (sym holds.page_size))
          last (holds.each snapshot);
      encoding = slot_spelled bytes k fits number.there
          ∙ ap (λ (d : List ℕ). d ++ (to_be_bytes w32 (number_at bytes k) ++ page_in bytes k)) holds.encoding
          ∙ append_assoc (take 100 bytes) (pages_encoding change.pages) (to_be_bytes w32 (number_at bytes k) ++ page_in bytes k)
          ∙ ap (λ (m : ℕ). take 100 bytes ++ (pages_encoding change.pages ++ (to_be_bytes w32 m ++ page_in bytes k))) (sym n-is)
          ∙ ap (λ (p : List ℕ). take 100 bytes ++ (pages_encoding change.pages ++ (to_be_bytes w32 n ++ p))) (sym page-is)
          ∙ ap (λ (d : List ℕ). take 100 bytes ++ d) (sym (pages_encoding-push change.pages w));
    }
  where
    write_is : (m n : ℕ) (p q : List ℕ) → m ≡ n → p ≡ q → (let v : PageWrite = record { number = m; bytes = p } in v) ≡ record { number = n; bytes = q }
    write_is m n p q numbers pages = cc
