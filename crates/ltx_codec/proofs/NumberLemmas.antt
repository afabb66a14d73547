-- A page number's rules, by the numbers alone and by the bytes.
use Rattle.std.proofs.Common.{◌≡◌, ◌≢◌, ℕ, ◌+◌, ◌≤◌, List, length, subst}
use Rattle.ltx_codec.specs.Fields.{header_in}
use Rattle.ltx_codec.specs.Places.{IsSoundBefore, IsEarliest, IsFound, StandsInside, number_place, number_at, number_before, HasPages}
use Rattle.ltx_codec.specs.Block.{IsNextNumber}
use Rattle.ltx_codec.specs.Numbering.{MayFollow, BreaksNumbering}
use Rattle.ltx_codec.specs.declared.header.Header.{Header}
use Rattle.ltx_codec.specs.declared.fault.LtxFault.{LtxFault}
use Rattle.ltx_codec.specs.declared.fault.LtxFault.TheVariants as fault
use Rattle.ltx_codec.proofs.BlockLemmas.{order_first, range_first, left_out_first}

-- the k-th number, with the header and the number before it as the bytes give them
pub record IsKth (bytes : List ℕ) (k : ℕ) (header : Header) (before number : ℕ) : Type 0 where
  pub header_is : header ≡ header_in bytes
  pub before_is : before ≡ number_before bytes k
  pub number_is : number ≡ number_at bytes k
  pub there : number_place bytes k + 4 ≤ length bytes

module _ (bytes : List ℕ) (k : ℕ) (header : Header) (before number : ℕ) (is : IsKth bytes k header before number) where
  -- what holds of the three holds of the bytes
  by_bytes : (P : Header → ℕ → ℕ → Type 0) → P header before number → P (header_in bytes) (number_before bytes k) (number_at bytes k)
  by_bytes P here =
      subst (λ (h : Header). P h (number_before bytes k) (number_at bytes k)) is.header_is
      (subst (λ (b : ℕ). P header b (number_at bytes k)) is.before_is
      (subst (λ (n : ℕ). P header before n) is.number_is here))

  pub number_sound : MayFollow header before number → IsNextNumber bytes k
  number_sound may = record { there = is.there; may = by_bytes MayFollow may }

  module _ (pages : HasPages bytes k) (sound : IsSoundBefore bytes (number_place bytes k + 1)) where
    pub number_refused : (f : LtxFault) → BreaksNumbering header before number f → IsEarliest bytes f
    number_refused fault.PageOrder rule = order_first bytes k pages sound is.there (by_bytes (λ h b n. BreaksNumbering h b n fault.PageOrder) rule)
    number_refused fault.PageRange rule = range_first bytes k pages sound is.there (by_bytes (λ h b n. BreaksNumbering h b n fault.PageRange) rule)
    number_refused fault.NotWhole rule = left_out_first bytes k pages sound is.there (by_bytes (λ h b n. BreaksNumbering h b n fault.NotWhole) rule)
    number_refused fault.Short rule = absurd rule
    number_refused fault.Magic rule = absurd rule
    number_refused fault.Compressed rule = absurd rule
    number_refused fault.UnknownFlags rule = absurd rule
    number_refused fault.PageSize rule = absurd rule
    number_refused fault.Txid rule = absurd rule
    number_refused fault.Commit rule = absurd rule
    number_refused fault.PreSum rule = absurd rule
    number_refused fault.PostSum rule = absurd rule
    number_refused (fault.FileSum want got) rule = absurd rule
    number_refused fault.Tail rule = absurd rule
    number_refused fault.NoMemory rule = absurd rule

-- a rule of numbers is broken by bytes that are there
pub numbering_found : (header : Header) (before number : ℕ) (f : LtxFault) → BreaksNumbering header before number f → IsFound f
numbering_found header before number fault.PageOrder rule = tt
numbering_found header before number fault.PageRange rule = tt
numbering_found header before number fault.NotWhole rule = tt
numbering_found header before number fault.Short rule = absurd rule
numbering_found header before number fault.Magic rule = absurd rule
numbering_found header before number fault.Compressed rule = absurd rule
numbering_found header before number fault.UnknownFlags rule = absurd rule
numbering_found header before number fault.PageSize rule = absurd rule
numbering_found header before number fault.Txid rule = absurd rule
numbering_found header before number fault.Commit rule = absurd rule
numbering_found header before number fault.PreSum rule = absurd rule
numbering_found header before number fault.PostSum rule = absurd rule
numbering_found header before number (fault.FileSum want got) rule = absurd rule
numbering_found header before number fault.Tail rule = absurd rule
numbering_found header before number fault.NoMemory rule = absurd rule

-- what was found stands inside the file, and is not that bytes are missing
pub found_inside : (f : LtxFault) → IsFound f → StandsInside f
found_inside fault.Short found = absurd found
found_inside fault.Magic found = tt
found_inside fault.Compressed found = tt
found_inside fault.UnknownFlags found = tt
found_inside fault.PageSize found = tt
found_inside fault.Txid found = tt
found_inside fault.Commit found = tt
found_inside fault.PreSum found = tt
found_inside fault.PageOrder found = tt
found_inside fault.PageRange found = tt
found_inside fault.NotWhole found = tt
found_inside fault.PostSum found = tt
found_inside (fault.FileSum want got) found = tt
found_inside fault.Tail found = absurd found
found_inside fault.NoMemory found = absurd found

pub found_there : (f : LtxFault) → IsFound f → f ≢ fault.Short
found_there f found short = not_short f short found
  where
    not_short : (g : LtxFault) → g ≡ fault.Short → IsFound g → ⊥
    not_short fault.Short same here = here
    not_short fault.Magic same here = cc
    not_short fault.Compressed same here = cc
    not_short fault.UnknownFlags same here = cc
    not_short fault.PageSize same here = cc
    not_short fault.Txid same here = cc
    not_short fault.Commit same here = cc
    not_short fault.PreSum same here = cc
    not_short fault.PageOrder same here = cc
    not_short fault.PageRange same here = cc
    not_short fault.NotWhole same here = cc
    not_short fault.PostSum same here = cc
    not_short (fault.FileSum want got) same here = cc
    not_short fault.Tail same here = cc
    not_short fault.NoMemory same here = cc
