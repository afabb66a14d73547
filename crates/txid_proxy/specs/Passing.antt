-- What is passed on to the target, and what comes back.
use Rattle.std.specs.Prelude.{◌≡◌, ℕ, ◌≤◌, Bool, not, ◌||◌, List, [], ◌∷◌, ◌++◌, codes, length}
use Rattle.std.specs.List.{filter}
use Rattle.std.specs.Str.{bytes_eq}
use Rattle.lf_base.specs.Hex.{hex_digits}
use Rattle.httparse.specs.Grammar.{Field, RequestHead, ResponseHead, ReadsResponse, crlf, print_request, print_response}
use Rattle.stream_wire.specs.Head.{is_called}

-- GET and HEAD read
abbrev pub is_read : List ℕ → Bool
is_read method = bytes_eq method (codes "GET") || bytes_eq method (codes "HEAD")

-- a field that is passed on: not Connection, which is of one link, and not Expect, since the body is whole already (RFC 9110, 7.6.1 and 10.1.1)
abbrev pub is_passed : Field → Bool
is_passed f = not (is_called (codes "connection") f.name || is_called (codes "expect") f.name)

-- that the link ends with this request
abbrev pub close_field : Field
close_field = record { name = codes "Connection"; raw = codes " close"; end = crlf }

-- the head that the target is sent: as it came but for these fields
abbrev pub passed_head : RequestHead → RequestHead
passed_head h = record h { fields = filter is_passed h.fields ++ close_field ∷ [] }

-- THE BYTES that the target is sent
abbrev pub passed : RequestHead → List ℕ → List ℕ
passed h body = print_request (passed_head h) ++ body

-- the field that names a transaction
abbrev pub cookie_field : ℕ → Field
cookie_field txid = record { name = codes "Set-Cookie"; raw = codes " __txid=" ++ hex_digits 16 txid ++ codes "; Path=/"; end = crlf }

-- it stands behind the status line
abbrev pub marked_head : ResponseHead → ℕ → ResponseHead
marked_head h txid = record h { fields = cookie_field txid ∷ h.fields }

-- a reply begins with this head, of at most 8,192 bytes and 128 fields
pub record BeginsReply (bytes : List ℕ) (head : ResponseHead) (rest : List ℕ) : Type 0 where
  pub reads : ReadsResponse bytes head rest
  pub size : length (print_response head) ≤ 8192
  pub count : length head.fields ≤ 128

-- a reply begins so
abbrev pub IsReply : List ℕ → Type 0
IsReply bytes = (head : ResponseHead) × (rest : List ℕ) × BeginsReply bytes head rest

-- THE BYTES that come back for a write: the reply with the cookie
pub record IsMarked (bytes : List ℕ) (txid : ℕ) (written : List ℕ) : Type 0 where
  pub head : ResponseHead
  pub rest : List ℕ
  pub begins : BeginsReply bytes head rest
  pub is : written ≡ print_response (marked_head head txid) ++ rest
