-- The heads of HTTP/1.1 (RFC 9112) that are taken: those of httparse's grammar, and of them those of at most 8,192 bytes,
-- with at most 128 fields, without a Transfer-Encoding, and with lengths that agree.
use Rattle.std.specs.Prelude.{◌≡◌, ℕ, ◌+◌, ◌-◌, ◌*◌, ◌^◌, ◌≤◌, ◌==◌, ◌&&◌, nat_lt, Bool, List, [], ◌∷◌, ◌++◌, length, map, drop, codes, if◌then◌else◌}
use Rattle.std.specs.Prelude.{Option, Some, None, option_map, option_and_then, unwrap_or, Result, Ok, Err}
use Rattle.std.specs.Char.{is_ascii_digit, to_ascii_lowercase}
use Rattle.std.specs.Str.{bytes_eq}
use Rattle.httparse.specs.Grammar.{Field, RequestHead, print_request, ReadsRequest, HasNoRequest, ResponseHead, print_response, ReadsResponse, HasNoResponse, status_code}
use Rattle.httparse.specs.Spans.{name_and_value}
use Rattle.stream_wire.specs.declared.call.Call.{Call}
use Rattle.stream_wire.specs.Call.{Names}
use Rattle.stream_wire.specs.declared.wire_fault.WireFault.{WireFault}
use Rattle.stream_wire.specs.declared.wire_fault.WireFault.TheVariants.{Head, NoMemory}
use Rattle.stream_wire.specs.declared.request.Heard.{Heard}
use Rattle.stream_wire.specs.declared.request.Heard.TheVariants as heard
use Rattle.stream_wire.specs.declared.response.Told.{Told}
use Rattle.stream_wire.specs.declared.response.Told.TheVariants as told

-- the number that decimal digits say behind this one, within 64 bits
abbrev pub decimal_after : ℕ → List ℕ → Option ℕ
decimal_after n [] = Some n
decimal_after n (b ∷ bs) = if is_ascii_digit b && nat_lt (n * 10 + (b - 48)) (2 ^ 64) then decimal_after (n * 10 + (b - 48)) bs else None

-- the number that a value says: one digit or more
abbrev pub decimal_of : List ℕ → Option ℕ
decimal_of [] = None
decimal_of (b ∷ bs) = decimal_after 0 (b ∷ bs)

-- a field's name is this word; upper and lower case are one
abbrev pub is_called : List ℕ → List ℕ → Bool
is_called word name = bytes_eq (map to_ascii_lowercase name) word

-- a length beside those before it: they agree
abbrev pub joined : Option ℕ → Option ℕ → Option ℕ
joined before None = None
joined None (Some n) = Some n
joined (Some m) (Some n) = if m == n then Some n else None

-- what a field's name and value say of the body behind a length so far: nothing where they are refused, else the length, if there is one
unfoldable pub with_field : Option ℕ → List ℕ × List ℕ → Option (Option ℕ)
with_field so_far f =
    if is_called (codes "transfer-encoding") f.0 then None else
    if is_called (codes "content-length") f.0 then option_map Some (joined so_far (decimal_of f.1)) else
    Some so_far

-- what the fields say, one after another
abbrev pub framing : Option ℕ → List (List ℕ × List ℕ) → Option (Option ℕ)
framing so_far [] = Some so_far
framing so_far (f ∷ fields) = option_and_then (λ next. framing next fields) (with_field so_far f)

abbrev pub framing_of : List Field → Option (Option ℕ)
framing_of fields = framing None (map name_and_value fields)

-- a head of so many bytes with these fields is taken, and says this length
pub record IsTaken (size : ℕ) (fields : List Field) (len : Option ℕ) : Type 0 where
  pub size_fits : size ≤ 8192
  pub count : length fields ≤ 128
  pub framed : framing_of fields ≡ Some len

-- the bytes begin with a head that is taken
abbrev pub TakesRequest : List ℕ → Type 0
TakesRequest bytes =
    (h : RequestHead) × (rest : List ℕ) × (len : Option ℕ) × ReadsRequest bytes h rest × IsTaken (length (print_request h)) h.fields len

abbrev pub TakesResponse : List ℕ → Type 0
TakesResponse bytes =
    (h : ResponseHead) × (rest : List ℕ) × (len : Option ℕ) × ReadsResponse bytes h rest × IsTaken (length (print_response h)) h.fields len

-- some bytes can follow with which they do
abbrev pub MayTakeRequest : List ℕ → Type 0
MayTakeRequest bytes = (more : List ℕ) × TakesRequest (bytes ++ more)

abbrev pub MayTakeResponse : List ℕ → Type 0
MayTakeResponse bytes = (more : List ℕ) × TakesResponse (bytes ++ more)

-- whatever bytes follow, they do not
abbrev pub NeverTakesRequest : List ℕ → Type 0
NeverTakesRequest bytes = (more : List ℕ) → TakesRequest (bytes ++ more) → ⊥

abbrev pub NeverTakesResponse : List ℕ → Type 0
NeverTakesResponse bytes = (more : List ℕ) → TakesResponse (bytes ++ more) → ⊥

-- the bytes begin with a request's head of this size, which names this call and this length
pub record IsRequest (bytes : List ℕ) (size : ℕ) (call : Call) (len : ℕ) : Type 0 where
  pub head : RequestHead
  pub said : Option ℕ
  pub reads : ReadsRequest bytes head (drop size bytes)
  pub size_is : size ≡ length (print_request head)
  pub taken : IsTaken size head.fields said
  pub names : Names head.method head.target call
  pub len_is : len ≡ unwrap_or said 0

-- the same of a response, with its status and its length, if it says one
pub record IsResponse (bytes : List ℕ) (size status : ℕ) (len : Option ℕ) : Type 0 where
  pub head : ResponseHead
  pub reads : ReadsResponse bytes head (drop size bytes)
  pub size_is : size ≡ length (print_response head)
  pub taken : IsTaken size head.fields len
  pub status_is : status ≡ status_code head

-- what reading a request's head answers. More bytes are asked for exactly where no head is whole and one that is taken can still come
abbrev pub HearsRequest : List ℕ → Result Heard WireFault → Type 0
HearsRequest bytes (Ok heard.Part) = HasNoRequest bytes × MayTakeRequest bytes
HearsRequest bytes (Ok (heard.Whole used call len)) = IsRequest bytes used call len
HearsRequest bytes (Err Head) = NeverTakesRequest bytes
HearsRequest bytes (Err NoMemory) = Unit {0}
HearsRequest bytes (Err _) = ⊥

abbrev pub HearsResponse : List ℕ → Result Told WireFault → Type 0
HearsResponse bytes (Ok told.Part) = HasNoResponse bytes × MayTakeResponse bytes
HearsResponse bytes (Ok (told.Whole used status len)) = IsResponse bytes used status len
HearsResponse bytes (Err Head) = NeverTakesResponse bytes
HearsResponse bytes (Err _) = ⊥
