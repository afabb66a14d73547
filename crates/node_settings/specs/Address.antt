-- Addresses and URLs of nodes.
use Rattle.std.specs.Prelude.{◌≡◌, ℕ, ◌≤◌, ◌<◌, ◌⊎◌, ◌||◌, ◌==◌, Bool, List, ◌++◌, length, codes, All, IsTrue}
use Rattle.std.specs.Char.{is_ascii_alphanumeric, is_ascii_hexdigit}
use Rattle.std.specs.Str.Parse.{IsNumeral, digits_value}

-- a byte of a host's name: an ASCII letter or digit, '.', '-' or '_'
abbrev pub is_host_byte : ℕ → Bool
is_host_byte b = is_ascii_alphanumeric b || (b == 46) || (b == 45) || (b == 95)

-- a byte of an IPv6 address: a hexadecimal digit, ':' or '.'
abbrev pub is_ipv6_byte : ℕ → Bool
is_ipv6_byte b = is_ascii_hexdigit b || (b == 58) || (b == 46)

-- each byte passes the test
abbrev pub AllPass : (ℕ → Bool) → List ℕ → Type 0
AllPass test bytes = All (λ b. IsTrue (test b)) bytes

-- an IPv6 address, and a bracket behind it
abbrev pub IsIpv6End : List ℕ → Type 0
IsIpv6End text = (inside : List ℕ) × (text ≡ inside ++ codes "]") × (0 < length inside) × AllPass is_ipv6_byte inside

-- an IPv6 address in brackets
abbrev pub IsBracketed : List ℕ → Type 0
IsBracketed host = (rest : List ℕ) × (host ≡ codes "[" ++ rest) × IsIpv6End rest

-- a name, which may be empty, or an IPv6 address in brackets
abbrev pub IsHost : List ℕ → Type 0
IsHost host = AllPass is_host_byte host ⊎ IsBracketed host

-- decimal digits that say 0 to 65,535
abbrev pub IsPort : List ℕ → Type 0
IsPort port = IsNumeral 10 port × (digits_value 10 port ≤ 65535)

-- `host:port`; the host may be empty
pub record IsAddress (text : List ℕ) : Type 0 where
  pub host : List ℕ
  pub port : List ℕ
  pub parts : text ≡ host ++ codes ":" ++ port
  pub is_host : IsHost host
  pub is_port : IsPort port

-- the same, and the host is not empty
abbrev pub IsTarget : List ℕ → Type 0
IsTarget text = (is : IsAddress text) × (0 < length is.host)

-- `http://host:port`; the host is not empty
pub record IsUrl (text : List ℕ) : Type 0 where
  pub host : List ℕ
  pub port : List ℕ
  pub parts : text ≡ codes "http://" ++ host ++ codes ":" ++ port
  pub some : 0 < length host
  pub is_host : IsHost host
  pub is_port : IsPort port
