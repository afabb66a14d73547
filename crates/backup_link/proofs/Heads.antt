-- The head of a reply, byte by byte.
use Rattle.std.proofs.Common.{◌≡◌, ◌⊎◌, inl, inr, ℕ, ◌<◌, ◌≤◌, List, [], ◌∷◌, ◌++◌, length, take, drop, Option, sym, ap, ◌∙◌, subst, append_assoc, append-nil, length-append, arith}
use Rattle.std.proofs.lemmas.Bool.{cases_lt}
use Rattle.std.proofs.lemmas.List.{take-append-drop, take-append-le}
use Rattle.std.proofs.Math.Seq.{take-append_seam}
use Rattle.std.specs.Io.KnownBytes.{IsAtEnd}
use Rattle.httparse.specs.Ascii.{space}
use Rattle.httparse.specs.Grammar.{print_blank, print_end, print_reason, print_response, print_section, print_version, HasNoResponse, ResponseHead}
use Rattle.httparse.proofs.GrammarLemmas.{cons-append}
use Rattle.lf_base.specs.declared.link.Link.{Ghosts as LinkGhosts}
use Rattle.http_exchange.specs.Reading.{Gave}
use Rattle.http_exchange.specs.declared.told.Untold.{Untold}
use Rattle.http_exchange.specs.declared.told.Untold.TheVariants as untold
use Rattle.http_exchange.proofs.Giving.{gave_on}
use Rattle.http_exchange.proofs.Replies.{within}
use Rattle.stream_wire.specs.Head.{IsResponse}
use Rattle.backup_link.specs.Heads.{GaveByte, GaveNoHead, GaveNone, IsWhole}

-- ---- a head has bytes

some : (a b c : List ℕ) (x : ℕ) → 0 < length (a ++ (b ++ (x ∷ c)))
some a b c x = omega (arith, length-append a (b ++ (x ∷ c)), length-append b (x ∷ c))

abbrev behind_version : ResponseHead → List ℕ
behind_version h = h.digits ++ print_reason h.reason ++ print_end h.line_end ++ print_section h.fields h.last

parts : (h : ResponseHead) → print_response h ≡ print_blank h.blank ++ (print_version h.minor ++ (space ∷ behind_version h))
unfolding print_response
parts h = simp (append_assoc, cons-append)

has_bytes : (h : ResponseHead) → 0 < length (print_response h)
has_bytes h = subst (λ (bytes : List ℕ). 0 < length bytes) (sym (parts h)) (some (print_blank h.blank) (print_version h.minor) (behind_version h) space)

pub none_is_no_head : HasNoResponse []
none_is_no_head h rest reads = absurd omega (arith, ap length reads.1, length-append (print_response h) rest, has_bytes h)

-- ---- a byte that ends one

-- no head ends before the last byte
reaches : (old : List ℕ) (byte used status : ℕ) (len : Option ℕ) → HasNoResponse old → IsResponse (old ++ byte ∷ []) used status len → length old < used
reaches old byte used status len none r = either (cases_lt (length old) used)
  where
    either : (length old < used) ⊎ (used ≤ length old) → length old < used
    either (inl past) = past
    either (inr inside) =
        let print : List ℕ = print_response r.head in
        let bytes : List ℕ = old ++ byte ∷ [] in
        let same : take used bytes ≡ print = ap (λ (b : List ℕ). take used b) r.reads.1 ∙ ap (λ (n : ℕ). take n (print ++ drop used bytes)) r.size_is ∙ take-append_seam print (drop used bytes) in
        let front : take used old ≡ print = sym (take-append-le used old (byte ∷ []) inside) ∙ same in
        absurd (none r.head (drop used old) (r.reads.0, sym (take-append-drop used old) ∙ ap (λ (b : List ℕ). b ++ drop used old) front))

-- so it is all of the bytes
pub all_of_it : (old : List ℕ) (byte used status : ℕ) (len : Option ℕ) → HasNoResponse old → IsResponse (old ++ byte ∷ []) used status len → IsWhole status (old ++ byte ∷ [])
all_of_it old byte used status len none r =
    let past : length old < used = reaches old byte used status len none r in
    let inside : used ≤ length (old ++ byte ∷ []) = within (old ++ byte ∷ []) used status len r in
    let same : used ≡ length (old ++ byte ∷ []) = omega (arith, past, inside, length-append old (byte ∷ [])) in
    (len, subst (λ (n : ℕ). IsResponse (old ++ byte ∷ []) n status len) same r)

-- ---- bytes that came

-- one byte more was read of the head
pub byte_on : {L : Type 0} (l : LinkGhosts L) (a b c : L) (head ahead ahead_now : List ℕ) (byte : ℕ) → Gave l a b (head ++ ahead) → GaveByte l b c ahead ahead_now byte
    → Gave l a c ((head ++ byte ∷ []) ++ ahead_now)
byte_on l a b c head ahead ahead_now byte g next =
    let same : head ++ ahead ++ next.more ≡ (head ++ byte ∷ []) ++ ahead_now =
    append_assoc head ahead next.more ∙ ap (λ (rest : List ℕ). head ++ rest) next.next ∙ sym (append_assoc head (byte ∷ []) ahead_now)
    in
    subst (λ (bytes : List ℕ). Gave l a c bytes) same (gave_on l a b c (head ++ ahead) next.more g next.gave)

-- none came, and no head is whole
pub no_byte : {L : Type 0} (l : LinkGhosts L) (a b c : L) (head ahead : List ℕ) (why : Untold) → HasNoResponse head → Gave l a b (head ++ ahead) → GaveNone l b c ahead why
    → GaveNoHead l a c why
no_byte {L} l a b c head ahead why none g gone = record { bytes = head; gave = gave; why_is = go why gone.why_is }
  where
    gave : Gave l a c head
    gave =
        let nothing : head ++ ahead ++ [] ≡ head = append-nil (head ++ ahead) ∙ ap (λ (rest : List ℕ). head ++ rest) gone.empty ∙ append-nil head in
        subst (λ (bytes : List ℕ). Gave l a c bytes) nothing (gave_on l a b c (head ++ ahead) [] g gone.gave)

    go : (why : Untold) → Rattle.backup_link.specs.Heads.IsNoByte (IsAtEnd (l.left c)) why → Rattle.backup_link.specs.Heads.UntellsHead head (IsAtEnd (l.left c)) why
    go untold.Unfit end = inr (none, end)
    go untold.Fault end = none
    go untold.Turns end = none
    go untold.NoMemory end = absurd end
    go untold.TooLong end = absurd end
