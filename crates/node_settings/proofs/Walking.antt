-- A walk over the lines of a text.
use Rattle.std.proofs.Math.Nat.{eq-or-lt_of_le}
use Rattle.std.proofs.Math.Seq.{take-length}
use Rattle.std.proofs.lemmas.Str.{IsUtf8-nil}
use Rattle.std.proofs.Common.{sym, ◌≡◌, ◌≢◌, ◌⊎◌, inl, inr, ℕ, ◌<◌, ◌+◌, ◌-◌, List, [], length, take, get_or, Option, Some, None, Bor, refl, arith, below_more, subst}
use Rattle.toml.specs.Data.{Members, no_members}
use Rattle.toml.specs.Parse.{parse_document}
use Rattle.toml.proofs.OnLiterals.{toml_on_literals}
use Rattle.node_settings.specs.declared.place.Place.{Place}
use Rattle.node_settings.specs.declared.place.Place.TheVariants as place
use Rattle.node_settings.specs.Lines.{AreLines, BreaksAt, IsDocument, LacksAt, NoneIsBetween}
use Rattle.node_settings.specs.Rules.{Stands}
use Rattle.node_settings.proofs.Refusing.{one_document}

empty_document : parse_document [] ≡ Some no_members
unfolding toml_on_literals
empty_document = refl

empty_lacks : (p : Place) (name : Option (Bor (List ℕ))) → Stands p name no_members → ⊥
empty_lacks p None h = h
empty_lacks place.Root (Some name) h = absurd (cc)
empty_lacks place.Fuse (Some name) h = absurd (cc)
empty_lacks place.Http (Some name) h = absurd (cc)
empty_lacks place.Proxy (Some name) h = absurd (cc)
empty_lacks place.Data (Some name) h = absurd (cc)
empty_lacks place.Lease (Some name) h = absurd (cc)
empty_lacks place.Etcd (Some name) h = absurd (cc)

-- no line is read yet
pub at_start : (text : List ℕ) (p : Place) (name : Option (Bor (List ℕ))) → LacksAt (Stands p name) text 0
at_start text p name = record {
  lines = record { fits = omega arith; ends = inl refl };
  root = no_members;
  is_document = (IsUtf8-nil, empty_document);
  lacks = empty_lacks p name;
}

-- a place that ends no line
pub no_lines : (text : List ℕ) (at : ℕ) → at < length text → get_or text at 0 ≢ 10 → at + 1 ≢ length text → AreLines (at + 1) text → ⊥
no_lines text at lt byte end lines = no_end text at byte end lines.ends
  where
    no_end : (text : List ℕ) (at : ℕ) → get_or text at 0 ≢ 10 → at + 1 ≢ length text → (at + 1 ≡ 0) ⊎ (at + 1 ≡ length text) ⊎ (get_or text (at + 1 - 1) 0 ≡ 10) → ⊥
    no_end text at byte end (inl z) = omega arith
    no_end text at byte end (inr (inl e)) = end e
    no_end text at byte end (inr (inr b)) = byte (subst (λ (k : ℕ). get_or text k 0 ≡ 10) (omega arith) b)

-- what is so of the whole text is brought by a line of it
pub not_broken : (Has : Members → Type 0) (text : List ℕ) (n : ℕ) (root : Members) → IsDocument text root → Has root → BreaksAt Has text n → ⊥
not_broken Has text n root doc has breaks = at_end (eq-or-lt_of_le breaks.before.lines.fits)
  where
    whole : IsDocument (take (length text) text) root
    whole = subst (λ (t : List ℕ). IsDocument t root) (sym (take-length text)) doc

    at_end : (n ≡ length text) ⊎ (n < length text) → ⊥
    at_end (inl e) =
        let last : IsDocument (take (length text) text) breaks.before.root = subst (λ (k : ℕ). IsDocument (take k text) breaks.before.root) e breaks.before.is_document in
        breaks.before.lacks (subst Has (one_document _ root breaks.before.root whole last) has)
    at_end (inr lt) = breaks.last (length text) (omega arith) lt (record { fits = omega arith; ends = inr (inl refl) }) root whole

-- one place more, at which there are no lines that are TOML
pub none_more : (n m : ℕ) (text : List ℕ) → NoneIsBetween n m text → (AreLines m text → (root : Members) → IsDocument (take m text) root → ⊥) → NoneIsBetween n (m + 1) text
none_more n m text none here =
    below_more (λ (k : ℕ). n < k → AreLines k text → (root : Members) → IsDocument (take k text) root → ⊥) m none (λ lt lines root doc. here lines root doc)

-- nothing lies between two places of which one is next to the other
pub none_next : (n : ℕ) (text : List ℕ) → NoneIsBetween n (n + 1) text
none_next n text k below lt lines root doc = omega (arith, below, lt)

-- a place that ends a line
pub ends_line : (text : List ℕ) (at : ℕ) → at < length text → (get_or text at 0 ≡ 10) ⊎ (at + 1 ≡ length text) → AreLines (at + 1) text
ends_line text at lt (inl newline) = record { fits = omega arith; ends = inr (inr (subst (λ (k : ℕ). get_or text k 0 ≡ 10) (omega arith) newline)) }
ends_line text at lt (inr end) = record { fits = omega arith; ends = inr (inl end) }
