-- The floor of a request: the transaction that its client has seen, by its cookie.
use Rattle.std.specs.Prelude.{◌≡◌, ℕ, ◌^◌, ◌<◌, ◌==◌, List, [], ◌∷◌, ◌++◌, codes, reverse, Option, Some, None, unwrap_or, map, if◌then◌else◌}
use Rattle.std.specs.List.{flat_map}
use Rattle.lf_base.specs.Hex.{hex_digits}
use Rattle.httparse.specs.Grammar.{Field, trim_ows}
use Rattle.httparse.specs.Spans.{name_and_value}
use Rattle.stream_wire.specs.Head.{is_called}

-- what stands between semicolons, behind some bytes in reverse
abbrev pub pairs_behind : List ℕ → List ℕ → List (List ℕ)
pairs_behind so_far [] = reverse so_far ∷ []
pairs_behind so_far (b ∷ bytes) = if b == 59 then reverse so_far ∷ pairs_behind [] bytes else pairs_behind (b ∷ so_far) bytes

-- the pairs of a field by its name and its value, where it is a Cookie
abbrev pub pairs_of : List ℕ × List ℕ → List (List ℕ)
pairs_of f = if is_called (codes "cookie") f.0 then pairs_behind [] f.1 else []

-- the pair says this transaction
pub record Says (pair : List ℕ) (txid : ℕ) : Type 0 where
  pub fits : txid < 2 ^ 64
  pub text : trim_ows pair ≡ codes "__txid=" ++ hex_digits 16 txid

-- what the first of these pairs says that says a transaction
pub data SaysFirst : List (List ℕ) → Option ℕ → Type 0 where
  nothing : SaysFirst [] None
  found : {pair : List ℕ} {pairs : List (List ℕ)} {txid : ℕ} → Says pair txid → SaysFirst (pair ∷ pairs) (Some txid)
  further : {pair : List ℕ} {pairs : List (List ℕ)} {said : Option ℕ} → ((txid : ℕ) → Says pair txid → ⊥) → SaysFirst pairs said → SaysFirst (pair ∷ pairs) said

-- the same of fields by their names and values
abbrev pub CookiesSay : List (List ℕ × List ℕ) → Option ℕ → Type 0
CookiesSay fields said = SaysFirst (flat_map pairs_of fields) said

-- THE FLOOR of a head with these fields: what its cookies say, and 0 where they say nothing
pub record IsFloor (fields : List Field) (txid : ℕ) : Type 0 where
  pub said : Option ℕ
  pub says : CookiesSay (map name_and_value fields) said
  pub is : txid ≡ unwrap_or said 0
