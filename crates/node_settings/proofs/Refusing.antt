-- A text whose root breaks a rule says no settings.
use Rattle.std.proofs.Common.{◌≡◌, ℕ, ◌≤◌, [], List, length, Some, Result, Ok, Err, IsErrAnd, sym, ◌∙◌, subst, arith}
use Rattle.toml.specs.Data.{Members}
use Rattle.node_settings.specs.declared.complaint.Complaint.TheVariants as complaint
use Rattle.node_settings.specs.declared.rule.Rule.{Rule}
use Rattle.node_settings.specs.declared.settings_fault.SettingsFault.{SettingsFault}
use Rattle.node_settings.specs.declared.settings_fault.SettingsFault.TheVariants as fault
use Rattle.node_settings.specs.declared.settings_refusal.SettingsRefusal.{SettingsRefusal}
use Rattle.node_settings.specs.declared.settings_refusal.SettingsRefusal.TheVariants as refusal
use Rattle.node_settings.specs.Answers.{Reads}
use Rattle.node_settings.specs.Complaints.{Answers, Refuses}
use Rattle.node_settings.specs.Lines.{IsDocument}

-- a text is one document
pub one_document : (text : List ℕ) (a b : Members) → IsDocument text a → IsDocument text b → a ≡ b
one_document text a b x y = let same : Some a ≡ Some b = sym x.1 ∙ y.1 in cc

-- what says this is a document, and not too long
abbrev pub IsOfDocument : {A : Type 0} → (A → Type 0) → List ℕ → Type 0
IsOfDocument {A} P text = (a : A) → P a → (length text ≤ 65536) × (root : Members) × IsDocument text root

whole : {A : Type 0} (P : A → Type 0) (rules : List Rule) (text : List ℕ) (f : SettingsRefusal) → IsOfDocument P text → Refuses [] text f → Answers P rules text (Err f)
whole P rules text (refusal.Config complaint.Size) of h = (λ a p. absurd (omega (arith, h, (of a p).0)), h)
whole P rules text (refusal.Config (complaint.Toml line)) of h = (λ a p. let x = of a p in h.1 x.1 x.2, h)
whole P rules text (refusal.Config (complaint.Rule r key line)) of h = absurd h.first
whole P rules text refusal.NoMemory of h = h

-- a text that is refused whole is refused by each reader
pub passed_on : {A : Type 0} (P : A → Type 0) (rules : List Rule) (text : List ℕ) (f : SettingsRefusal) (r : Result A SettingsRefusal) → IsOfDocument P text
    → IsErrAnd r (λ e. e ≡ f) → Refuses [] text f → Answers P rules text r
passed_on P rules text f (Ok a) of err h = absurd err
passed_on P rules text f (Err e) of err h = whole P rules text e of (subst (λ (x : SettingsRefusal). Refuses [] text x) (sym err) h)

-- a refusal of a text that says nothing
pub answered : {A : Type 0} (P : A → Type 0) (rules : List Rule) (text : List ℕ) (f : SettingsRefusal) → ((a : A) → P a → ⊥)
    → Refuses rules text f → Answers P rules text (Err f)
answered P rules text (refusal.Config c) none h = (none, h)
answered P rules text refusal.NoMemory none h = h

-- a reader's Config says that there is nothing
pub config_none : {A : Type 0} (P : A → Type 0) (f : SettingsFault) → f ≡ fault.Config → Reads P (Err f) → (a : A) → P a → ⊥
config_none P fault.Config is h = h
config_none P fault.NoMemory is h = absurd (cc)
