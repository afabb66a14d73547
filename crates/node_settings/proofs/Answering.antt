-- From what one reader answers to what another does.
use Rattle.std.proofs.Common.{◌≡◌, ◌↔◌, Bool, IsTrue, Option, Some, None, IsSomeAnd, IsErrAnd, MatchOption, Result, Ok, Err, IfOk, [], codes, inl, refl, sym, subst, arith, rules}
use Rattle.toml.specs.Data.{Data, Members}
use Rattle.lf_base.specs.declared.memory.NoMemory.{NoMemory}
use Rattle.node_settings.specs.declared.settings_fault.SettingsFault.{SettingsFault}
use Rattle.node_settings.specs.declared.settings_fault.SettingsFault.TheVariants as fault
use Rattle.node_settings.specs.Address.{IsAddress}
use Rattle.node_settings.specs.Answers.{Judges, Reads}
use Rattle.node_settings.specs.Rules.{Says}
use Rattle.node_settings.specs.Values.{IsSomeOf}

-- a refusal where P never holds is one where Q never does, if Q gives P
pub fails : {A B : Type 0} (P : A → Type 0) (Q : B → Type 0) (f : SettingsFault) → ((b : B) → Q b → (a : A) × P a) → Reads P (Err f) → Reads Q (Err f)
fails P Q fault.Config step h = λ b q. let x = step b q in h x.0 x.1
fails P Q fault.NoMemory step h = tt

-- the value at a key, read by its rule
pub at_key : {A : Type 0} (Rule : Data → A → Type 0) (o : Option Data) (d : Data) (r : Result A SettingsFault) → Some d ≡ o
    → Reads (Rule d) r → Reads (λ a. IsSomeAnd o (λ e. Rule e a)) r
at_key Rule o d r e h = subst (λ x. Reads (λ a. IsSomeAnd x (λ y. Rule y a)) r) e h

-- the same where a `?` passes the refusal on
pub passed : {A B : Type 0} (P : A → Type 0) (Q : B → Type 0) (f : SettingsFault) (r : Result B SettingsFault) → ((b : B) → Q b → (a : A) × P a)
    → IsErrAnd r (λ e. e ≡ f) → Reads P (Err f) → Reads Q r
passed P Q f (Ok b) step err h = absurd err
passed P Q f (Err e) step err h = fails P Q e step (subst (λ (x : SettingsFault). Reads P (Err x)) (sym err) h)

-- two facts of which each gives the other
pub both : {A : Type 0} (P Q : A → Type 0) (r : Result A SettingsFault) → ((a : A) → P a → Q a) → ((a : A) → Q a → P a) → Reads P r → Reads Q r
both P Q (Ok a) to from h = to a h
both P Q (Err fault.Config) to from h = λ a q. h a (from a q)
both P Q (Err fault.NoMemory) to from h = tt

-- the default
pub at_none : {A : Type 0} (Rule : Data → A → Type 0) (o : Option Data) (default : A) (r : Result A SettingsFault) → None ≡ o
    → Reads (λ a. a ≡ default) r → Reads (λ a. MatchOption o (a ≡ default) (λ e. Rule e a)) r
at_none Rule o default r e h = subst (λ x. Reads (λ a. MatchOption x (a ≡ default) (λ y. Rule y a)) r) e h

pub at_some : {A : Type 0} (Rule : Data → A → Type 0) (o : Option Data) (d : Data) (default : A) (r : Result A SettingsFault) → Some d ≡ o
    → Reads (Rule d) r → Reads (λ a. MatchOption o (a ≡ default) (λ e. Rule e a)) r
at_some Rule o d default r e h = subst (λ x. Reads (λ a. MatchOption x (a ≡ default) (λ y. Rule y a)) r) e h

-- what is read of a table is read of the one at a key
pub in_section : {A : Type 0} (P : Members → A → Type 0) (o : Option Members) (ms : Members) (r : Result A SettingsFault) → o ≡ Some ms
    → Reads (P ms) r → Reads (λ a. IsSomeAnd o (λ t. P t a)) r
in_section P o ms r e h = subst (λ x. Reads (λ a. IsSomeAnd x (λ t. P t a)) r) (sym e) h

pub some_of : {A : Type 0} (Rule : Data → A → Type 0) (d : Data) (found : Option A) → IsSomeOf Rule d found → (a : A) × Rule d a
some_of Rule d None h = absurd h
some_of Rule d (Some a) h = (a, h)

-- the default of where HTTP is served
pub default_address : IsAddress (codes ":20202")
default_address = record {
  host = [];
  port = codes "20202";
  parts = refl;
  is_host = inl (λ k x lt. absurd (omega arith));
  is_port = ((omega arith, search rules), omega arith);
}

-- a refusal where P holds of nothing
pub refused : {A : Type 0} (P : A → Type 0) (f : SettingsFault) (r : Result A SettingsFault) → IsErrAnd r (λ e. e ≡ f) → ((a : A) → P a → ⊥) → Reads P r
refused P f (Ok a) err none = absurd err
refused P f (Err fault.Config) err none = none
refused P f (Err fault.NoMemory) err none = tt

-- whether something was read
pub judged : {A : Type 0} (P : A → Type 0) (r : Result A SettingsFault) (b : Bool) → Reads P r → Judges r b → IsTrue b ↔ ((a : A) × P a)
judged P (Ok a) b h is = (λ _. (a, h), λ _. is)
judged P (Err fault.Config) b h is = (λ t. absurd (cc), λ x. absurd (h x.0 x.1))
judged P (Err fault.NoMemory) b h is = absurd is

-- what is so only where it is asked for, and it is asked for
pub asked_for : (P : Type 0) (IsSo : Option Data → Type 0) (o p : Option Data) (b : Result Bool NoMemory) → P → o ≡ p → IfOk b (λ kept. IsTrue kept ↔ IsSo o)
    → IfOk b (λ kept. IsTrue kept ↔ (P → IsSo p))
asked_for P IsSo o p (Ok b) asked e h = (λ t _. subst IsSo e (h.0 t), λ so. h.1 (subst IsSo (sym e) (so asked)))
asked_for P IsSo o p (Err f) asked e h = tt

-- whether a value is one that a rule allows
pub fits_from : {A : Type 0} (IsOf : Data → A → Type 0) (d : Data) (r : Result A SettingsFault) (b : Result Bool NoMemory) → Reads (IsOf d) r → IfOk b (Judges r)
    → IfOk b (λ kept. IsTrue kept ↔ Says IsOf d)
fits_from IsOf d r (Ok b) h is = judged (IsOf d) r b h is
fits_from IsOf d r (Err e) h is = tt
