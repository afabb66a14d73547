-- A request to a service that is no node: of HTTP/1.0, with a body of JSON.
use Rattle.std.specs.Prelude.{ℕ, List, ◌++◌, length, codes, decimal}
use Rattle.httparse.specs.Ascii.{crlf_bytes}

-- a field's line
unfoldable pub field : List ℕ → List ℕ → List ℕ
field name value = name ++ codes ": " ++ value ++ crlf_bytes

-- the first line
unfoldable pub letter_line : List ℕ → List ℕ → List ℕ
letter_line method path = method ++ codes " " ++ path ++ codes " HTTP/1.0" ++ crlf_bytes

unfoldable pub host_line : List ℕ → List ℕ
host_line host = field (codes "Host") host

unfoldable pub json_line : List ℕ
json_line = field (codes "Content-Type") (codes "application/json")

-- the body's length, and the end of the head
unfoldable pub size_line : ℕ → List ℕ
size_line size = field (codes "Content-Length") (decimal size) ++ crlf_bytes

-- A LETTER with this method, path and body to this host
abbrev pub letter_text : List ℕ → List ℕ → List ℕ → List ℕ → List ℕ
letter_text method path host body = letter_line method path ++ host_line host ++ json_line ++ size_line (length body) ++ body
