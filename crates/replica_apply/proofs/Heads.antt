-- Heads of replies as they come.
use Rattle.std.proofs.Common.{◌≡◌, ◌⊎◌, inl, inr, ℕ, ◌-◌, ◌<◌, ◌≤◌, List, [], ◌∷◌, ◌++◌, length, take, drop, Option, Some, None, Err, sym, ap, ◌∙◌, subst, append_assoc, append-nil, length-append, arith}
use Rattle.std.proofs.lemmas.Bool.{cases_lt}
use Rattle.std.proofs.lemmas.List.{take-append-drop, take-append-le}
use Rattle.std.proofs.Math.Seq.{take-append-add, take-append_seam, drop-length}
use Rattle.httparse.specs.Ascii.{space}
use Rattle.httparse.specs.Grammar.{print_blank, print_end, print_reason, print_response, print_section, print_version, HasNoResponse, ResponseHead}
use Rattle.httparse.proofs.GrammarLemmas.{cons-append}
use Rattle.stream_wire.specs.declared.wire_fault.WireFault.{WireFault}
use Rattle.stream_wire.specs.declared.wire_fault.WireFault.TheVariants as fault
use Rattle.stream_wire.specs.Head.{HearsResponse, IsResponse, IsTaken, NeverTakesResponse}
use Rattle.replica_apply.specs.Heads.{HoldsHead, IsHead}

-- a response that is refused is never taken
pub refused : (bytes : List ℕ) (f : WireFault) → HearsResponse bytes (Err f) → NeverTakesResponse bytes
refused bytes fault.Head h = h
refused bytes fault.NoMemory h = absurd h
refused bytes (fault.Kind kind) h = absurd h
refused bytes fault.NameText h = absurd h
refused bytes fault.Length h = absurd h
refused bytes (fault.TooLong len) h = absurd h

-- ---- a head has bytes

some : (a b c : List ℕ) (x : ℕ) → 0 < length (a ++ (b ++ (x ∷ c)))
some a b c x = omega (arith, length-append a (b ++ (x ∷ c)), length-append b (x ∷ c))

abbrev behind_version : ResponseHead → List ℕ
behind_version h = h.digits ++ print_reason h.reason ++ print_end h.line_end ++ print_section h.fields h.last

parts : (h : ResponseHead) → print_response h ≡ print_blank h.blank ++ (print_version h.minor ++ (space ∷ behind_version h))
unfolding print_response
parts h = simp (append_assoc, cons-append)

has_bytes : (h : ResponseHead) → 0 < length (print_response h)
has_bytes h = subst (λ (bytes : List ℕ). 0 < length bytes) (sym (parts h)) (some (print_blank h.blank) (print_version h.minor) (behind_version h) space)

pub none_is_no_head : HasNoResponse []
none_is_no_head h rest reads = absurd omega (arith, ap length reads.1, length-append (print_response h) rest, has_bytes h)

pub empty_head : (status : Option ℕ) (bytes : List ℕ) → status ≡ None → bytes ≡ [] → HoldsHead status bytes
empty_head None [] s b = none_is_no_head
empty_head None (x ∷ xs) s b = absurd cc
empty_head (Some status) bytes s b = absurd cc

-- ---- a piece that ends one

-- the head was not whole before the piece
pub reaches : (old piece : List ℕ) (used status : ℕ) (len : Option ℕ) → HasNoResponse old → IsResponse (old ++ piece) used status len → length old ≤ used
reaches old piece used status len none r = either (cases_lt used (length old))
  where
    either : (used < length old) ⊎ (length old ≤ used) → length old ≤ used
    either (inr past) = past
    either (inl within) =
        let print : List ℕ = print_response r.head in
        let same : take used (old ++ piece) ≡ print = ap (λ (bytes : List ℕ). take used bytes) r.reads.1 ∙ ap (λ (n : ℕ). take n (print ++ drop used (old ++ piece))) r.size_is ∙ take-append_seam print (drop used (old ++ piece)) in
        let front : take used old ≡ print = sym (take-append-le used old piece (omega (arith, within))) ∙ same in
        absurd (none r.head (drop used old) (r.reads.0, sym (take-append-drop used old) ∙ ap (λ (bytes : List ℕ). bytes ++ drop used old) front))

-- the bytes of the head alone
pub cut_to_head : (bytes : List ℕ) (used status : ℕ) (len : Option ℕ) → IsResponse bytes used status len → IsHead status (take used bytes)
cut_to_head bytes used status len r =
    let print : List ℕ = print_response r.head in
    let same : take used bytes ≡ print = ap (λ (b : List ℕ). take used b) r.reads.1 ∙ ap (λ (n : ℕ). take n (print ++ drop used bytes)) r.size_is ∙ take-append_seam print (drop used bytes) in
    let count : length (take used bytes) ≡ used = ap length same ∙ sym r.size_is in (
      len,
      record {
        head = r.head;
        reads = (r.reads.0, same ∙ sym (append-nil print) ∙ ap (λ (rest : List ℕ). print ++ rest) (sym (drop-length (take used bytes))));
        size_is = ap length same;
        taken = subst (λ (n : ℕ). IsTaken n r.head.fields len) (sym count) r.taken;
        status_is = r.status_is;
      },
    )

-- the bytes that ended it
pub end_of_piece : (old piece : List ℕ) (used : ℕ) → length old ≤ used → take used (old ++ piece) ≡ old ++ take (used - length old) piece
end_of_piece old piece used h = ap (λ (n : ℕ). take n (old ++ piece)) (omega (arith, h)) ∙ take-append-add old piece (used - length old)

-- a head lies within the bytes that begin with it
pub within : (bytes : List ℕ) (used status : ℕ) (len : Option ℕ) → IsResponse bytes used status len → used ≤ length bytes
within bytes used status len r = omega (arith, ap length r.reads.1, length-append (print_response r.head) (drop used bytes), r.size_is)
