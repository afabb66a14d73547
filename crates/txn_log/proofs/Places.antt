-- Pages in the bytes of a file, under writes and cuts.
use Rattle.std.proofs.Common.{◌≡◌, ◌≢◌, ◌⊎◌, inl, inr, ℕ, zero, suc, ◌+◌, ◌-◌, ◌*◌, ◌<◌, ◌≤◌, List, length, drop, sym, ◌∙◌, ap, arith, length-take, length-drop, get_or-take, get_or-drop, slice_index}
use Rattle.std.proofs.Math.Nat.{mul-le-mul_right, suc-mul}
use Rattle.std.proofs.lemmas.Bool.{cases_lt}
use Rattle.std.proofs.lemmas.Grind.{same_number_lists}
use Rattle.lf_disk.specs.Change.{Torn, Cropped}
use Rattle.txn_log.specs.Pages.{in_place, SamePage}

-- a page ends where the next begins
pub page_end : (size n : ℕ) → 1 ≤ n → (n - 1) * size + size ≡ n * size
page_end size zero first = absurd (omega arith)
page_end size (suc n) first =
    let back : suc n - 1 ≡ n = omega arith in
    ap (λ (m : ℕ). m * size + size) back ∙ sym (suc-mul n size)

-- the places of two pages are apart
pub apart : (size m n : ℕ) → 1 ≤ m → 1 ≤ n → m ≢ n → (n * size ≤ (m - 1) * size) ⊎ (m * size ≤ (n - 1) * size)
apart size m n first first' other = elim (cases_lt m n) [
  | inl below ↦ inr (mul-le-mul_right size (let h : m ≤ n - 1 = omega arith in h))
  | inr above ↦ inl (mul-le-mul_right size (let h : n ≤ m - 1 = omega arith in h))
]

length-in_place : (size n : ℕ) (bytes : List ℕ) → 1 ≤ n → n * size ≤ length bytes → length (in_place size n bytes) ≡ size
length-in_place size n bytes first long =
    omega (arith, length-take size (drop ((n - 1) * size) bytes), length-drop ((n - 1) * size) bytes, page_end size n first)

-- byte by byte
pub same_page : (size n : ℕ) (old new : List ℕ) → 1 ≤ n → n * size ≤ length old → n * size ≤ length new →
    ((i : ℕ) → (n - 1) * size ≤ i → i < n * size → slice_index new i ≡ slice_index old i) → SamePage size n old new
same_page size n old new first long long' each = record {
  long = long';
  same =
      same_number_lists (in_place size n new) (in_place size n old) (length-in_place size n new first long' ∙ sym (length-in_place size n old first long))
      (λ k within.
      let h : k < size = omega (arith, length-in_place size n new first long') in
      get_or-take size (drop ((n - 1) * size) new) k 0 h ∙ get_or-drop ((n - 1) * size) new k 0
      ∙ each ((n - 1) * size + k) (omega arith) (omega (arith, page_end size n first))
      ∙ sym (get_or-take size (drop ((n - 1) * size) old) k 0 h ∙ get_or-drop ((n - 1) * size) old k 0));
}

-- a write of page m that a crash cuts short leaves every other page
pub torn_page : (size m n : ℕ) (old new : List ℕ) → 1 ≤ m → 1 ≤ n → m ≢ n → Torn ((m - 1) * size) size old new → n * size ≤ length old → SamePage size n old new
torn_page size m n old new first first' other torn long =
    same_page size n old new first' long (omega (arith, torn.no_shorter))
    (λ i low high. elim (apart size m n first first' other) [
      | inl below ↦ torn.below i (omega arith) (omega arith)
      | inr above ↦ torn.above i (omega arith) (omega (arith, page_end size m first))
    ])

-- a cut that leaves a page's place leaves the page
pub cropped_page : (size len n : ℕ) (old new : List ℕ) → 1 ≤ n → n * size ≤ len → Cropped len old new → n * size ≤ length old → SamePage size n old new
cropped_page size len n old new first within cropped long =
    same_page size n old new first long (omega (arith, cropped.no_shorter))
    (λ i low high. cropped.below i (omega arith) (omega arith))
