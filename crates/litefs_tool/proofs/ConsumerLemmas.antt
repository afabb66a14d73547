-- Bytes that are consumed piece by piece.
use Rattle.std.proofs.Common.{◌≡◌, ℕ, List, [], ◌++◌, take, drop, refl, sym, ap, subst, ◌∙◌, append_assoc, append-nil}
use Rattle.std.proofs.lemmas.List.{take-append-drop}

-- a prefix of the bytes was consumed, and the rest is left
pub record HasConsumedPrefix {T : Type 0} (has_consumed : T → List ℕ → Type 0) (first now : T) (bytes rest : List ℕ) : Type 0 where
  pub prefix : List ℕ
  pub split : bytes ≡ prefix ++ rest
  pub consumed : (before : List ℕ) → has_consumed first before → has_consumed now (before ++ prefix)

pub HasConsumedPrefix-none : {T : Type 0} (has_consumed : T → List ℕ → Type 0) (first : T) (bytes : List ℕ) → HasConsumedPrefix has_consumed first first bytes bytes
HasConsumedPrefix-none has_consumed first bytes = record {
  prefix = [];
  split = refl;
  consumed = λ before has. let P : List ℕ → Type 0 = λ l. has_consumed first l in subst P (sym (append-nil before)) has;
}

pub HasConsumedPrefix-more : {T : Type 0} (has_consumed : T → List ℕ → Type 0) (first now next : T) (bytes rest : List ℕ) (used : ℕ) →
    HasConsumedPrefix has_consumed first now bytes rest →
    ((before : List ℕ) → has_consumed now before → has_consumed next (before ++ take used rest)) →
    HasConsumedPrefix has_consumed first next bytes (drop used rest)
HasConsumedPrefix-more has_consumed first now next bytes rest used so_far step = record {
  prefix = so_far.prefix ++ take used rest;
  split = so_far.split ∙ ap (λ (l : List ℕ). so_far.prefix ++ l) (sym (take-append-drop used rest))
      ∙ sym (append_assoc so_far.prefix (take used rest) (drop used rest));
  consumed = λ before has. let P : List ℕ → Type 0 = λ l. has_consumed next l in
      subst P (append_assoc before so_far.prefix (take used rest)) (step (before ++ so_far.prefix) (so_far.consumed before has));
}

-- where nothing is left, all was consumed
pub HasConsumedPrefix-all : {T : Type 0} (has_consumed : T → List ℕ → Type 0) (first now : T) (bytes rest : List ℕ) → rest ≡ [] →
    HasConsumedPrefix has_consumed first now bytes rest → (before : List ℕ) → has_consumed first before → has_consumed now (before ++ bytes)
HasConsumedPrefix-all has_consumed first now bytes rest none so_far before has =
    let all : so_far.prefix ≡ bytes = sym (so_far.split ∙ ap (λ (l : List ℕ). so_far.prefix ++ l) none ∙ append-nil so_far.prefix) in
    let P : List ℕ → Type 0 = λ l. has_consumed now (before ++ l) in
    subst P all (so_far.consumed before has)
