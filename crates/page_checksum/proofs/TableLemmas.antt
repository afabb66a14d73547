-- Each table holds what the definition computes.
use Rattle.std.proofs.Common.{◌≡◌, ℕ, ◌+◌, ◌<◌, List, length, get_or, map, refl, ap, subst, sym, ◌∙◌, zero-add}
use Rattle.std.specs.List.{range_with_len}
use Rattle.std.proofs.lemmas.List.{get_or-map}
use Rattle.std.proofs.lemmas.List.FromFn.{get_or-map-range_with_len}
use Rattle.page_checksum.specs.Crc.{after_bit, after_byte}
use Rattle.page_checksum.specs.Zeros.{after_zeros}
use Rattle.page_checksum.proofs.ZerosLemmas.{after_zeros-add}
use Rattle.page_checksum.specs.declared.entries.TheConstants.{TABLE_1, TABLE_2, TABLE_3, TABLE_4, TABLE_5, TABLE_6, TABLE_7, TABLE_8}

-- a table at each byte holds the register after so many zero bytes
abbrev pub IsTable : ℕ → List ℕ → Type 0
IsTable count table = (byte : ℕ) → byte < 256 → get_or table byte 0 ≡ after_zeros count byte

-- a table whose entries are those of another after one more zero byte
next_table : (count : ℕ) (front back : List ℕ) → length front ≡ 256 → back ≡ map (after_zeros 1) front → IsTable count front → IsTable (count + 1) back
next_table count front back whole is front_is byte below =
    ap (λ (xs : List ℕ). get_or xs byte 0) is
    ∙ get_or-map (after_zeros 1) front byte 0 0 (subst (λ (n : ℕ). byte < n) (sym whole) below)
    ∙ ap (after_zeros 1) (front_is byte below)
    ∙ sym (after_zeros-add count 1 byte)

first_entries : TABLE_1 ≡ map (after_zeros 1) (range_with_len 0 256)
unfolding after_bit after_byte after_zeros
first_entries = refl

pub table_1-is : IsTable 1 TABLE_1
table_1-is byte below =
    ap (λ (xs : List ℕ). get_or xs byte 0) first_entries ∙ get_or-map-range_with_len (after_zeros 1) 0 256 byte byte 0 below (zero-add byte)

entries_2 : TABLE_2 ≡ map (after_zeros 1) TABLE_1
unfolding after_bit after_byte after_zeros
entries_2 = refl

pub table_2-is : IsTable 2 TABLE_2
table_2-is = next_table 1 TABLE_1 TABLE_2 refl entries_2 table_1-is

entries_3 : TABLE_3 ≡ map (after_zeros 1) TABLE_2
unfolding after_bit after_byte after_zeros
entries_3 = refl

pub table_3-is : IsTable 3 TABLE_3
table_3-is = next_table 2 TABLE_2 TABLE_3 refl entries_3 table_2-is

entries_4 : TABLE_4 ≡ map (after_zeros 1) TABLE_3
unfolding after_bit after_byte after_zeros
entries_4 = refl

pub table_4-is : IsTable 4 TABLE_4
table_4-is = next_table 3 TABLE_3 TABLE_4 refl entries_4 table_3-is

entries_5 : TABLE_5 ≡ map (after_zeros 1) TABLE_4
unfolding after_bit after_byte after_zeros
entries_5 = refl

pub table_5-is : IsTable 5 TABLE_5
table_5-is = next_table 4 TABLE_4 TABLE_5 refl entries_5 table_4-is

entries_6 : TABLE_6 ≡ map (after_zeros 1) TABLE_5
unfolding after_bit after_byte after_zeros
entries_6 = refl

pub table_6-is : IsTable 6 TABLE_6
table_6-is = next_table 5 TABLE_5 TABLE_6 refl entries_6 table_5-is

entries_7 : TABLE_7 ≡ map (after_zeros 1) TABLE_6
unfolding after_bit after_byte after_zeros
entries_7 = refl

pub table_7-is : IsTable 7 TABLE_7
table_7-is = next_table 6 TABLE_6 TABLE_7 refl entries_7 table_6-is

entries_8 : TABLE_8 ≡ map (after_zeros 1) TABLE_7
unfolding after_bit after_byte after_zeros
entries_8 = refl

pub table_8-is : IsTable 8 TABLE_8
table_8-is = next_table 7 TABLE_7 TABLE_8 refl entries_8 table_7-is
