-- Own replies: without a body, and with the primary's host where it is named.
use Rattle.std.specs.Prelude.{◌≡◌, ℕ, List, [], ◌++◌, codes, Option, Some, None, Err}
use Rattle.std.specs.Io.KnownBytes.{Appends}
use Rattle.httparse.specs.Ascii.{crlf_bytes}
use Rattle.lf_base.specs.declared.session_end.SessionEnd.{SessionEnd}
use Rattle.lf_base.specs.declared.session_end.SessionEnd.TheVariants as ends
use Rattle.stream_wire.specs.Writing.{line, status_line}
use Rattle.http_exchange.specs.Writing.{EndsSending}
use Rattle.txid_proxy.specs.declared.denial.Denial.{Denial}
use Rattle.txid_proxy.specs.declared.denial.Denial.TheVariants as denial

-- the status of a request that is not passed on
abbrev pub status_of : Denial → ℕ
status_of denial.NotPrimary = 503
status_of denial.Behind = 504

-- the line that names the primary's host
abbrev pub host_line : Option (List ℕ) → List ℕ
host_line None = []
host_line (Some host) = line (codes "Litefs-Primary") host

-- THE REPLY to it
unfoldable pub denial_reply : Denial → Option (List ℕ) → List ℕ
denial_reply why host =
    status_line (status_of why) ++ host_line host ++ line (codes "Content-Length") (codes "0") ++ line (codes "Connection") (codes "close") ++ crlf_bytes

-- how a session ends whose last words are this text, and what became of it and of the count of faults
abbrev pub EndsReply : List ℕ → Option (List ℕ) → Option (List ℕ) → ℕ → ℕ → ℕ → SessionEnd → Type 0
EndsReply text old new before now turns ends.Closed = Appends old new text × (now ≡ before)
EndsReply text old new before now turns end = EndsSending {T = Unit {0}} text old new before now turns (Err end)
