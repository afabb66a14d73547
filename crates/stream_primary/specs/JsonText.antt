-- The members of a JSON object (RFC 8259), one behind another.
use Rattle.std.specs.Prelude.{ℕ, List, ◌++◌, Bool, true, false, codes, decimal, Option, Some, None}
use Rattle.serde_json.specs.Data.{string}
use Rattle.serde_json.specs.Written.{compact_text}

-- a member whose value is this text
unfoldable pub member_of : List ℕ → List ℕ → List ℕ
member_of key value = codes ",\"" ++ key ++ codes "\":" ++ value

-- a number; text that needs no escapes; a condition
unfoldable pub number_member : List ℕ → ℕ → List ℕ
number_member key n = member_of key (decimal n)

unfoldable pub quoted_member : List ℕ → List ℕ → List ℕ
quoted_member key text = codes ",\"" ++ key ++ codes "\":\"" ++ text ++ codes "\""

abbrev pub truth : Bool → List ℕ
truth true = codes "true"
truth false = codes "false"

unfoldable pub truth_member : List ℕ → Bool → List ℕ
truth_member key holds = member_of key (truth holds)

-- any text, or null where there is none
abbrev pub value_of : Option (List ℕ) → List ℕ
value_of (Some text) = compact_text (string text)
value_of None = codes "null"

unfoldable pub text_member : List ℕ → Option (List ℕ) → List ℕ
text_member key text = member_of key (value_of text)
