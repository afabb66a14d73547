-- What fields say together of the last file.
use Rattle.std.proofs.Common.{◌≡◌, ℕ, ◌<◌, ◌≤◌, ◌^◌, ◌-◌, List, [], ◌∷◌, length, take, drop, get_or, Bool, true, Option, Some, None, refl, sym, ap, ◌∙◌, subst, codes, cond, arith}
use Rattle.std.proofs.lemmas.Grind.{common_steps}
use Rattle.httparse.specs.declared.spans.HeaderSpan.{HeaderSpan}
use Rattle.stream_wire.specs.declared.last_file.LastFile.{LastFile}
use Rattle.stream_wire.specs.declared.last_file.LastFile.TheVariants.{File, Unknown}
use Rattle.stream_wire.specs.Head.{is_called}
use Rattle.stream_wire.specs.LastFile.{last_file_text, IsNoLastFile, values_of, GoesOn, Values, SayTogether}

joins : (before : Option LastFile) (value : List ℕ) (values : List (List ℕ)) (next : LastFile) (said : Option LastFile)
    → Values before value next → GoesOn (Some next) values said → GoesOn before (value ∷ values) said
joins None value [] next said v g = subst (λ (o : Option LastFile). SayTogether (value ∷ []) o) (sym g) v
joins None value (w ∷ ws) next said v g = g
joins (Some b) value [] next said v g = g ∙ ap Some v
joins (Some b) value (w ∷ ws) next said v g = g

pub called : (before : Option LastFile) (f : List ℕ × List ℕ) (fields : List (List ℕ × List ℕ)) (next : LastFile) (said : Option LastFile)
    → is_called (codes "litefs-last-file") f.0 ≡ true → Values before f.1 next → GoesOn (Some next) (values_of fields) said → GoesOn before (values_of (f ∷ fields)) said
called before f fields next said is v g =
    subst (λ (b : Bool). GoesOn before (cond b (f.1 ∷ values_of fields) (values_of fields)) said) (sym is) (joins before f.1 (values_of fields) next said v g)

-- neither the word nor the print of a file
pub no_last_file : (bytes : List ℕ) → (bytes ≡ codes "unknown" → ⊥)
    → ((min max sum : ℕ) → min < 2 ^ 64 → max < 2 ^ 64 → sum < 2 ^ 64 → bytes ≡ last_file_text (File min max sum) → ⊥) → IsNoLastFile bytes
no_last_file bytes word file (File min max sum) fits e = file min max sum fits.0 fits.1 fits.2 e
no_last_file bytes word file Unknown fits e = word e

pub head_rest : (headers : List HeaderSpan) (other : HeaderSpan) → 1 ≤ length headers → headers ≡ get_or headers 0 other ∷ drop 1 headers
head_rest [] other some = absurd (omega arith)
head_rest (h ∷ hs) other some = refl

pub all_behind : (headers : List HeaderSpan) → take (length headers - 1) (drop 1 headers) ≡ drop 1 headers
all_behind [] = refl
all_behind (h ∷ hs) = grind (arith, common_steps)
