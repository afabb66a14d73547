-- Keys of tables, and words among words.
use Rattle.std.proofs.Common.{◌≡◌, ℕ, ◌∷◌, List, [], ◌||◌, ◌&&◌, Option, Some, None, map, Bor, Bool, true, false, not, cond, String, string_bytes, refl, ap}
use Rattle.std.specs.List.{find, list_any, list_all}
use Rattle.std.specs.declared.alloc.Global.{Global}
use Rattle.std.specs.Map.{keys_of}
use Rattle.toml.proofs.Views.{Entry}
use Rattle.toml.specs.View.{members_view}
use Rattle.std.specs.Str.{bytes_eq}
use Rattle.toml.specs.Data.{Data, string, integer, float, boolean, datetime, array, table, Members, as_table}
use Rattle.node_settings.specs.Rules.{other_key}
use Rattle.node_settings.specs.Values.{section_in, is_among, has_only}

-- what the table at a key is
pub in_table : (d : Data) (ms : Members) → Some ms ≡ as_table d → section_in (Some d) ≡ Some ms
in_table (string s) ms e = cc
in_table (integer z) ms e = cc
in_table (float x) ms e = cc
in_table (boolean b) ms e = cc
in_table (datetime dt) ms e = cc
in_table (array ds) ms e = cc
in_table (table ns) ms e = cc

pub in_no_table : (d : Data) → ◌≡◌ {A = Option Members} None (as_table d) → section_in (Some d) ≡ None
in_no_table (string s) e = refl
in_no_table (integer z) e = refl
in_no_table (float x) e = refl
in_no_table (boolean b) e = refl
in_no_table (datetime dt) e = refl
in_no_table (array ds) e = refl
in_no_table (table ns) e = cc

abbrev pub Word : Type 0
Word = Bor (List ℕ)

abbrev pub words : List Word → List (List ℕ)
words keys = map (λ k. k.now) keys

-- a word stands among words
pub among : (keys : List Word) (key : List ℕ) → list_any (λ y. bytes_eq y.now key) keys ≡ is_among (words keys) key
among [] key = refl
among (k ∷ keys) key = ap (λ b. bytes_eq k.now key || b) (among keys key)

-- the keys of a map are those of its members
pub only : (keys : List (List ℕ)) (es : List Entry) → list_all (λ k. is_among keys (string_bytes k)) (keys_of es) ≡ has_only keys (members_view es)
only keys [] = refl
only keys (e ∷ es) = ap (λ b. is_among keys (string_bytes e.0) && b) (only keys es)

-- the bytes of a key, and nothing where there is none
abbrev pub bytes_or_none : Option (String Global) → List ℕ
bytes_or_none None = []
bytes_or_none (Some key) = string_bytes key

first_step : (b : Bool) (key : String Global) (rest : List ℕ) (found : Option (String Global)) → rest ≡ bytes_or_none found
    → cond b rest (string_bytes key) ≡ bytes_or_none (cond (not b) (Some key) found)
first_step true key rest found e = e
first_step false key rest found e = refl

-- the first key that is none of these
pub first : (keys : List (List ℕ)) (es : List Entry) → other_key keys (members_view es) ≡ bytes_or_none (find (λ k. not (is_among keys (string_bytes k))) (keys_of es))
first keys [] = refl
first keys (e ∷ es) = first_step (is_among keys (string_bytes e.0)) e.0 _ _ (first keys es)
