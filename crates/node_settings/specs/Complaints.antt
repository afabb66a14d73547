-- What is complained of where a text is no configuration.
use Rattle.std.specs.Prelude.{◌≡◌, ◌<◌, ◌≤◌, ◌++◌, ◌||◌, ◌==◌, ◌&&◌, ℕ, List, length, codes, Bool, not, if◌then◌else◌, Option, Some, None, Result, Ok, Err}
use Rattle.std.specs.Char.{is_ascii_alphanumeric}
use Rattle.std.specs.Fmt.{decimal}
use Rattle.std.specs.List.{list_all}
use Rattle.toml.specs.Data.{Members}
use Rattle.node_settings.specs.declared.complaint.Complaint.{Complaint}
use Rattle.node_settings.specs.declared.complaint.Complaint.TheVariants as complaint
use Rattle.node_settings.specs.declared.place.Place.{Place}
use Rattle.node_settings.specs.declared.rule.Rule.{Rule}
use Rattle.node_settings.specs.declared.settings_refusal.SettingsRefusal.{SettingsRefusal}
use Rattle.node_settings.specs.declared.settings_refusal.SettingsRefusal.TheVariants as refusal
use Rattle.node_settings.specs.Lines.{IsBrokenOn, IsDocument, IsLineOf}
use Rattle.node_settings.specs.Rules.{IsFirstBroken, StandsAt, name_of_rule, place_of_rule, prefix_of}
use Rattle.node_settings.specs.Words.{words_of}

-- a byte of a key that needs no quotation marks: an ASCII letter or digit, '-' or '_'
abbrev pub is_bare_byte : ℕ → Bool
is_bare_byte b = is_ascii_alphanumeric b || (b == 45) || (b == 95)

abbrev pub is_bare : List ℕ → Bool
is_bare name = not (length name == 0) && list_all is_bare_byte name

-- a key's name, and a question mark in place of one that needs quotation marks
abbrev pub shown : List ℕ → List ℕ
shown name = if is_bare name then name else codes "?"

-- a key with its table
abbrev pub key_text : Place → List ℕ → List ℕ
key_text p name = prefix_of p ++ shown name

-- THE RULE IS THE FIRST that the text breaks; the key that it is about, with its table, and the line on which that key is said
pub record BreaksFirst (rules : List Rule) (text : List ℕ) (rule : Rule) (key : List ℕ) (line : Option ℕ) : Type 0 where
  pub fits : length text ≤ 65536
  pub root : Members
  pub is_document : IsDocument text root
  pub first : IsFirstBroken rules root rule
  pub names : key ≡ key_text (place_of_rule rule) (name_of_rule rule root)
  pub says : IsLineOf (StandsAt (place_of_rule rule) (name_of_rule rule root)) text root line

-- what is complained of in a text, of which these rules are asked
abbrev pub Complains : List Rule → List ℕ → Complaint → Type 0
Complains rules text complaint.Size = 65536 < length text
Complains rules text (complaint.Toml line) = (length text ≤ 65536) × ((root : Members) → IsDocument text root → ⊥) × IsBrokenOn text line
Complains rules text (complaint.Rule r key line) = BreaksFirst rules text r key line

-- a refusal, by what is complained of; memory runs out only where the text isn't too long
abbrev pub Refuses : List Rule → List ℕ → SettingsRefusal → Type 0
Refuses rules text (refusal.Config c) = Complains rules text c
Refuses rules text refusal.NoMemory = length text ≤ 65536

-- WHAT A READER ANSWERS, of which these rules are asked: Ok with what P holds of; else a refusal, and Config only where P holds of nothing
abbrev pub Answers : {A : Type 0} → (A → Type 0) → List Rule → List ℕ → Result A SettingsRefusal → Type 0
Answers P rules text (Ok a) = P a
Answers {A} P rules text (Err (refusal.Config c)) = ((a : A) → P a → ⊥) × Complains rules text c
Answers P rules text (Err refusal.NoMemory) = length text ≤ 65536

-- ---- the parts of a complaint

abbrev pub key_of : Complaint → Option (List ℕ)
key_of complaint.Size = None
key_of (complaint.Toml line) = None
key_of (complaint.Rule r key line) = Some key

abbrev pub wanted_by : Complaint → List ℕ
wanted_by complaint.Size = codes "at most 65536 bytes"
wanted_by (complaint.Toml line) = codes "TOML in UTF-8"
wanted_by (complaint.Rule r key line) = words_of r

abbrev pub line_of : Complaint → Option ℕ
line_of complaint.Size = None
line_of (complaint.Toml line) = Some line
line_of (complaint.Rule r key line) = line

-- ---- all of it in words

-- the file, and the line where there is one
abbrev pub place_text : List ℕ → Option ℕ → List ℕ
place_text file None = file
place_text file (Some line) = (file ++ codes ":") ++ decimal line

-- the same, and the key where there is one
abbrev pub said_of : List ℕ → Option (List ℕ) → List ℕ
said_of place None = place
said_of place (Some key) = (place ++ codes ": ") ++ key

abbrev pub text_of : List ℕ → Complaint → List ℕ
text_of file c = (said_of (place_text file (line_of c)) (key_of c) ++ codes ": wanted ") ++ wanted_by c
