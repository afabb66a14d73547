-- The heads that the node writes.
use Rattle.std.specs.Prelude.{ℕ, List, [], ◌++◌, codes, decimal, Option, Some, None, unwrap_or}
use Rattle.httparse.specs.Ascii.{crlf_bytes}
use Rattle.http.specs.StatusCode.{code_digits, reason_phrase}
use Rattle.stream_wire.specs.declared.call.Call.{Call}
use Rattle.stream_wire.specs.declared.call.Call.TheVariants.{Stream}
use Rattle.stream_wire.specs.declared.last_file.LastFile.{LastFile}
use Rattle.stream_wire.specs.Call.{method_of, target_of}
use Rattle.stream_wire.specs.LastFile.{last_file_text}

-- a field's line
unfoldable pub line : List ℕ → List ℕ → List ℕ
line name value = name ++ codes ": " ++ value ++ crlf_bytes

abbrev pub length_line : Option ℕ → List ℕ
length_line None = []
length_line (Some n) = line (codes "Content-Length") (decimal n)

-- the words of the first lines
unfoldable pub blank : List ℕ
blank = codes " "

unfoldable pub end_line : List ℕ
end_line = crlf_bytes

unfoldable pub version : List ℕ
version = codes "HTTP/1.1"

unfoldable pub status_digits : ℕ → List ℕ
status_digits status = code_digits status

-- the status with its phrase, which may be empty
unfoldable pub status_line : ℕ → List ℕ
status_line status = version ++ blank ++ status_digits status ++ blank ++ unwrap_or (reason_phrase status) [] ++ end_line

-- the head of a reply: the status, the length where it is known, and that the connection ends with it
unfoldable pub reply_head : ℕ → Option ℕ → List ℕ
reply_head status len = status_line status ++ length_line len ++ line (codes "Connection") (codes "close") ++ crlf_bytes

-- that the body is of this media type
unfoldable pub type_line : List ℕ → List ℕ
type_line media_type = line (codes "Content-Type") media_type

-- that the connection ends with the reply, and the end of the head
unfoldable pub close_lines : List ℕ
close_lines = line (codes "Connection") (codes "close") ++ crlf_bytes

-- the same of a reply of a media type
unfoldable pub typed_head : ℕ → List ℕ → Option ℕ → List ℕ
typed_head status media_type len = status_line status ++ length_line len ++ type_line media_type ++ close_lines

-- method and target
unfoldable pub request_line : Call → List ℕ
request_line call = method_of call ++ blank ++ target_of call ++ blank ++ version ++ end_line

-- the head of a request with a body of so many bytes
unfoldable pub request_head : Call → List ℕ → ℕ → List ℕ
request_head call host len =
    request_line call ++ line (codes "Host") host ++ line (codes "Content-Length") (decimal len) ++ crlf_bytes

-- what is said of the last file, if anything is
abbrev pub last_line : Option LastFile → List ℕ
last_line None = []
last_line (Some last) = line (codes "Litefs-Last-File") (last_file_text last)

-- the head of a request for a stream, with a body of so many bytes
unfoldable pub stream_head : List ℕ → ℕ → Option LastFile → List ℕ
stream_head host len last =
    request_line Stream ++ line (codes "Host") host ++ line (codes "Content-Length") (decimal len) ++ last_line last ++ crlf_bytes
