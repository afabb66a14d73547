-- Heads that are written are read back.
use Rattle.std.proofs.Common.{◌≡◌, ℕ, zero, suc, ◌∷◌, ◌+◌, ◌/◌, ◌%◌, ◌<◌, ◌≤◌, ◌^◌, ◌&&◌, List, [], ◌++◌, length, drop, Bool, true, nat_lt, nat_le, IsTrue, Option, Some, None, IfSome, if◌then◌else◌, unwrap_or, refl, sym, ap, ◌∙◌, arith, append_assoc, append-nil, codes, decimal, All, length-append}
use Rattle.std.proofs.lemmas.Grind.{common_steps}
use Rattle.std.proofs.lemmas.Bool.{and_parts}
use Rattle.std.proofs.lemmas.Bool.Decides.{Decides-below_and, nat_tests}
use Rattle.std.proofs.lemmas.Fmt.{length-decimal-le}
use Rattle.std.proofs.lemmas.List.Elements.{All-cons, All-nil, All-weaker, All-from_get_or, All-append}
use Rattle.std.proofs.lemmas.Bool.{ltb-true}
use Rattle.std.proofs.lemmas.Str.{IsUtf8-from_ascii}
use Rattle.std.proofs.lemmas.Str.Ascii.{IsAscii-from_all}
use Rattle.std.specs.Char.{is_ascii_digit, digit_value}
use Rattle.std.specs.List.{list_all}
use Rattle.std.specs.Str.{bytes_eq}
use Rattle.std.specs.Str.Parse.{digits_value}
use Rattle.httparse.specs.Ascii.{crlf_bytes}
use Rattle.http.specs.StatusCode.{IsStatusCode, code_digits, reason_phrase}
use Rattle.httparse.specs.Grammar.{crlf, Field, IsField, is_uri_byte, AllPass, is_token_byte, is_value_byte, RequestHead, print_request, ReadsRequest, ResponseHead, print_response, ReadsResponse, status_code}
use Rattle.httparse.specs.Spans.{name_and_value}
use Rattle.httparse.proofs.GrammarLemmas.{cons-append}
use Rattle.stream_wire.specs.Head.{with_field, framing_of, IsTaken}
use Rattle.stream_wire.proofs.Digits.{passes, decimal_pass, is_value, trim_ows-decimal, decimal_of-decimal}
use Rattle.lf_base.specs.Name.{IsName, is_name_byte}
use Rattle.stream_wire.specs.declared.call.Call.{Call}
use Rattle.stream_wire.specs.declared.call.Call.TheVariants as kind
use Rattle.stream_wire.specs.Call.{method_of, target_of, IsNamed, Names}
use Rattle.stream_wire.specs.Writing.{reply_head, status_line, status_digits, version, blank, end_line, line, length_line, request_line, request_head}

-- ---- the fields

abbrev pub field : List ℕ → List ℕ → Field
field name value = record { name = name; raw = 32 ∷ value; end = crlf }

abbrev pub length_field : ℕ → Field
length_field n = field (codes "Content-Length") (decimal n)

abbrev pub connection_field : Field
connection_field = field (codes "Connection") (codes "close")

pub is_field : (name value : List ℕ) → 0 < length name → list_all is_token_byte name ≡ true → AllPass is_value_byte value → IsField (field name value)
is_field name value some token all = record {
  name = (some, passes is_token_byte name token);
  raw = All-cons (λ b. IsTrue (is_value_byte b)) 32 value refl all;
}

pub is_length_field : (n : ℕ) → n < 2 ^ 64 → IsField (length_field n)
unfolding is_token_byte
is_length_field n h = is_field (codes "Content-Length") (decimal n) (omega arith) refl (All-weaker (λ b. IsTrue (is_ascii_digit b)) (λ b. IsTrue (is_value_byte b)) is_value (decimal n) (decimal_pass n h))

is_connection_field : IsField connection_field
unfolding is_token_byte
is_connection_field = is_field (codes "Connection") (codes "close") (omega arith) refl (passes is_value_byte (codes "close") refl)

pub says_length : (n : ℕ) → n < 2 ^ 64 → with_field None (name_and_value (length_field n)) ≡ Some (Some n)
unfolding with_field
says_length n h = let t = trim_ows-decimal n h in let d = decimal_of-decimal n h in rw (t, d) refl

says_nothing : (so_far : Option ℕ) → with_field so_far (name_and_value connection_field) ≡ Some so_far
unfolding with_field
says_nothing so_far = refl

-- ---- the head of a reply

abbrev fits_phrase : Option (List ℕ) → Bool
fits_phrase None = true
fits_phrase (Some phrase) = list_all is_value_byte phrase && nat_le (length phrase) 40

abbrev fit_below : ℕ → Bool
fit_below zero = true
fit_below (suc n) = fits_phrase (reason_phrase n) && fit_below n

phrase_fits : (n : ℕ) → n < 1000 → fits_phrase (reason_phrase n) ≡ true
phrase_fits n h =
    let test = λ (k : ℕ). fits_phrase (reason_phrase k) in
    (Decides-below_and test (λ k. test k ≡ true) fit_below (λ k. (λ x. x, λ x. x)) refl (λ _. refl) 1000).0 refl n h

abbrev pub phrase_of : ℕ → List ℕ
phrase_of status = unwrap_or (reason_phrase status) []

phrase : (status : ℕ) → status < 1000 → AllPass is_value_byte (phrase_of status) × (length (phrase_of status) ≤ 40)
phrase status h = of (reason_phrase status) (phrase_fits status h)
  where
    of : (o : Option (List ℕ)) → fits_phrase o ≡ true → AllPass is_value_byte (unwrap_or o []) × (length (unwrap_or o []) ≤ 40)
    of None t = (All-nil _, omega arith)
    of (Some p) t = let both = and_parts _ _ t in (passes is_value_byte p both.0, grind (arith, nat_tests, common_steps, both))

abbrev pub reply_fields : Option ℕ → List Field
reply_fields None = connection_field ∷ []
reply_fields (Some n) = length_field n ∷ connection_field ∷ []

abbrev pub reply_of : ℕ → List ℕ → Option ℕ → ResponseHead
reply_of status p len = record {
  blank = [];
  minor = 1;
  digits = code_digits status;
  reason = Some p;
  line_end = crlf;
  fields = reply_fields len;
  last = crlf;
}

-- a number below ten as a digit
ten : (d : ℕ) → d < 10 → IsTrue (is_ascii_digit (48 + d)) × (digit_value (48 + d) ≡ d)
ten d h = (grind (arith, nat_tests, common_steps), grind (arith, nat_tests, common_steps))

digits_of_code : (status : ℕ) → IsStatusCode status → (length (code_digits status) ≡ 3) × AllPass is_ascii_digit (code_digits status) × (digits_value 10 (code_digits status) ≡ status)
digits_of_code status is =
    let a = ten (status / 100) (omega arith) in
    let b = ten (status / 10 % 10) (omega arith) in
    let c = ten (status % 10) (omega arith) in
    let P : ℕ → Type 0 = λ b. IsTrue (is_ascii_digit b) in
    let x = 48 + status / 100 in
    let y = 48 + status / 10 % 10 in
    let z = 48 + status % 10 in (
      refl,
      All-cons P x (y ∷ z ∷ []) a.0 (All-cons P y (z ∷ []) b.0 (All-cons P z [] c.0 (All-nil P))),
      rw (a.1, b.1, c.1) (omega arith),
    )

regroup_two : (a p e c : List ℕ) → a ++ p ++ e ++ [] ++ c ++ e ≡ (a ++ p) ++ e ++ ((c ++ []) ++ e)
regroup_two a p e c = simp (append_assoc, append-nil)

regroup_three : (a p e b c : List ℕ) → a ++ p ++ e ++ b ++ c ++ e ≡ (a ++ p) ++ e ++ ((b ++ (c ++ [])) ++ e)
regroup_three a p e b c = simp (append_assoc, append-nil)

reply_text : (status : ℕ) (p : List ℕ) (len : Option ℕ)
    → version ++ blank ++ status_digits status ++ blank ++ p ++ end_line ++ length_line len ++ line (codes "Connection") (codes "close") ++ crlf_bytes ≡ print_response (reply_of status p len)
unfolding version blank status_digits end_line line print_response
reply_text status p None = regroup_two (version ++ blank ++ status_digits status ++ blank) p crlf_bytes (line (codes "Connection") (codes "close"))
reply_text status p (Some n) = regroup_three (version ++ blank ++ status_digits status ++ blank) p crlf_bytes (line (codes "Content-Length") (decimal n)) (line (codes "Connection") (codes "close"))

pub code_value : (status : ℕ) → IsStatusCode status → status_code (reply_of status [] None) ≡ status
code_value status is = (digits_of_code status is).2

pub reply_head-text : (status : ℕ) (len : Option ℕ) → reply_head status len ≡ print_response (reply_of status (phrase_of status) len)
unfolding reply_head status_line
reply_head-text status len = reply_text status (phrase_of status) len

are_fields : (len : Option ℕ) → IfSome len (λ n. n < 2 ^ 64) → All IsField (reply_fields len)
are_fields None fits = All-cons IsField connection_field [] is_connection_field (All-nil IsField)
are_fields (Some n) fits = All-cons IsField (length_field n) (connection_field ∷ []) (is_length_field n fits) (All-cons IsField connection_field [] is_connection_field (All-nil IsField))

pub reads_reply : (status : ℕ) (len : Option ℕ) (more : List ℕ) → IsStatusCode status → IfSome len (λ n. n < 2 ^ 64) → ReadsResponse (reply_head status len ++ more) (reply_of status (phrase_of status) len) more
reads_reply status len more is fits =
    let code = digits_of_code status is in (
      record { minor = omega arith; digits = (code.0, code.1); reason = (phrase status is.1).0; fields = are_fields len fits },
      ap (λ (l : List ℕ). l ++ more) (reply_head-text status len),
    )

total : (a p e b c f : List ℕ) → length (a ++ p ++ e ++ b ++ c ++ f) ≡ length a + length p + length e + length b + length c + length f
total a p e b c f = simp length-append (omega arith)

short_text : (status : ℕ) (p : List ℕ) (len : Option ℕ) → length p ≤ 40 → IfSome len (λ n. n < 2 ^ 64)
    → length (version ++ blank ++ status_digits status ++ blank ++ p ++ end_line ++ length_line len ++ line (codes "Connection") (codes "close") ++ crlf_bytes) ≤ 8192
unfolding version blank status_digits end_line line
short_text status p None short fits =
    omega (arith, total (version ++ blank ++ status_digits status ++ blank) p crlf_bytes [] (line (codes "Connection") (codes "close")) crlf_bytes)
short_text status p (Some n) short fits =
    let d = length-decimal-le 20 n (omega arith) (omega arith) fits in
    let l : length (line (codes "Content-Length") (decimal n)) ≤ 38 = omega (arith, length-append (decimal n) crlf_bytes) in
    omega (arith, total (version ++ blank ++ status_digits status ++ blank) p crlf_bytes (line (codes "Content-Length") (decimal n)) (line (codes "Connection") (codes "close")) crlf_bytes)

short_reply : (status : ℕ) (len : Option ℕ) → IsStatusCode status → IfSome len (λ n. n < 2 ^ 64) → length (reply_head status len) ≤ 8192
unfolding reply_head status_line
short_reply status len is fits = short_text status (phrase_of status) len (phrase status is.1).1 fits

framed_reply : (len : Option ℕ) → IfSome len (λ n. n < 2 ^ 64) → framing_of (reply_fields len) ≡ Some len
framed_reply None fits = rw (says_nothing None) refl
framed_reply (Some n) fits = rw (says_length n fits, says_nothing (Some n)) refl

few_reply_fields : (len : Option ℕ) → length (reply_fields len) ≤ 128
few_reply_fields None = omega arith
few_reply_fields (Some n) = omega arith

pub taken_reply : (status : ℕ) (len : Option ℕ) → IsStatusCode status → IfSome len (λ n. n < 2 ^ 64) → IsTaken (length (reply_head status len)) (reply_fields len) len
taken_reply status len is fits = record { size_fits = short_reply status len is fits; count = few_reply_fields len; framed = framed_reply len fits }

-- ---- the head of a request

abbrev pub host_field : List ℕ → Field
host_field host = field (codes "Host") host

abbrev pub request_of : Call → List ℕ → ℕ → RequestHead
request_of call host len = record {
  blank = [];
  method = method_of call;
  target = target_of call;
  minor = 1;
  line_end = crlf;
  fields = host_field host ∷ length_field len ∷ [];
  last = crlf;
}

-- a byte of a name may stand in a target
uri_byte : (b : ℕ) → IsTrue (is_name_byte b) → IsTrue (is_uri_byte b)
uri_byte b h = grind (arith, nat_tests, common_steps)

ascii_byte : (b : ℕ) → IsTrue (is_name_byte b) → b < 128
ascii_byte b h = grind (arith, nat_tests, common_steps)

name_bytes : (name : List ℕ) → IsName name → All (λ b. IsTrue (is_name_byte b)) name
name_bytes name is = All-from_get_or (λ b. IsTrue (is_name_byte b)) name 0 is.allowed

record IsPlain (target : List ℕ) : Type 0 where
  some : 0 < length target
  bytes : AllPass is_uri_byte target
  ascii : All (λ b. b < 128) target

plain : (target : List ℕ) → 0 < length target → list_all is_uri_byte target ≡ true → list_all (λ b. nat_lt b 128) target ≡ true → IsPlain target
plain target some uri low = record {
  some = some;
  bytes = passes is_uri_byte target uri;
  ascii = All-weaker (λ b. IsTrue (nat_lt b 128)) (λ b. b < 128) (λ b h. ltb-true b 128 h) target (passes (λ b. nat_lt b 128) target low);
}

with_name : (path name : List ℕ) → IsPlain path → IsName name → IsPlain (path ++ name)
with_name path name is named = record {
  some = omega (arith, is.some, length-append path name);
  bytes = All-append (λ b. IsTrue (is_uri_byte b)) path name is.bytes (All-weaker (λ b. IsTrue (is_name_byte b)) (λ b. IsTrue (is_uri_byte b)) uri_byte name (name_bytes name named));
  ascii = All-append (λ b. b < 128) path name is.ascii (All-weaker (λ b. IsTrue (is_name_byte b)) (λ b. b < 128) ascii_byte name (name_bytes name named));
}

plain_target : (c : Call) → IsNamed c → IsPlain (target_of c)
plain_target kind.Stream named = plain (codes "/stream") (omega arith) refl refl
plain_target kind.Halt named = plain (codes "/halt") (omega arith) refl refl
plain_target kind.HaltBack named = plain (codes "/halt") (omega arith) refl refl
plain_target kind.Tx named = plain (codes "/tx") (omega arith) refl refl
plain_target (kind.Export name) named = with_name (codes "/export?name=") name (plain (codes "/export?name=") (omega arith) refl refl) named
plain_target (kind.Import name) named = with_name (codes "/import?name=") name (plain (codes "/import?name=") (omega arith) refl refl) named
plain_target kind.Lease named = plain (codes "/lease") (omega arith) refl refl
plain_target kind.Info named = plain (codes "/info") (omega arith) refl refl
plain_target kind.Metrics named = plain (codes "/metrics") (omega arith) refl refl
plain_target kind.Events named = plain (codes "/events") (omega arith) refl refl
plain_target kind.Other named = absurd named

method_token : (c : Call) → IsNamed c → (0 < length (method_of c)) × (list_all is_token_byte (method_of c) ≡ true)
unfolding is_token_byte
method_token kind.Stream named = (omega arith, refl)
method_token kind.Halt named = (omega arith, refl)
method_token kind.HaltBack named = (omega arith, refl)
method_token kind.Tx named = (omega arith, refl)
method_token (kind.Export name) named = (omega arith, refl)
method_token (kind.Import name) named = (omega arith, refl)
method_token kind.Lease named = (omega arith, refl)
method_token kind.Info named = (omega arith, refl)
method_token kind.Metrics named = (omega arith, refl)
method_token kind.Events named = (omega arith, refl)
method_token kind.Other named = absurd named

regroup_request : (m t v e h l : List ℕ) → m ++ (32 ∷ []) ++ t ++ (32 ∷ []) ++ v ++ e ++ h ++ l ++ e ≡ (m ++ 32 ∷ t ++ 32 ∷ v ++ e) ++ ((h ++ (l ++ [])) ++ e)
regroup_request m t v e h l = simp (append_assoc, cons-append, append-nil)

pub request_head-text : (c : Call) (host : List ℕ) (len : ℕ) → request_head c host len ≡ print_request (request_of c host len)
unfolding request_head request_line version blank end_line line print_request
request_head-text c host len = regroup_request (method_of c) (target_of c) (codes "HTTP/1.1") crlf_bytes (line (codes "Host") host) (line (codes "Content-Length") (decimal len))

pub is_host_field : (host : List ℕ) → AllPass is_value_byte host → IsField (host_field host)
unfolding is_token_byte
is_host_field host fits = is_field (codes "Host") host (omega arith) refl fits

pub reads_request : (c : Call) (host : List ℕ) (len : ℕ) (more : List ℕ) → IsNamed c → AllPass is_value_byte host → len < 2 ^ 64
    → ReadsRequest (request_head c host len ++ more) (request_of c host len) more
reads_request c host len more named host_fits len_fits =
    let target = plain_target c named in
    let method = method_token c named in (
      record {
        method = (method.0, passes is_token_byte (method_of c) method.1);
        target = (target.some, target.bytes);
        target_text = IsUtf8-from_ascii (target_of c) (IsAscii-from_all (target_of c) target.ascii);
        minor = omega arith;
        fields = All-cons IsField (host_field host) (length_field len ∷ []) (is_host_field host host_fits) (All-cons IsField (length_field len) [] (is_length_field len len_fits) (All-nil IsField));
      },
      ap (λ (l : List ℕ). l ++ more) (request_head-text c host len),
    )

pub host_says_nothing : (host : List ℕ) → with_field None (name_and_value (host_field host)) ≡ Some None
unfolding with_field
host_says_nothing host = refl

pub taken_request : (c : Call) (host : List ℕ) (len : ℕ) → len < 2 ^ 64 → length (request_head c host len) ≤ 8192
    → IsTaken (length (request_head c host len)) (host_field host ∷ length_field len ∷ []) (Some len)
taken_request c host len fits short = record {
  size_fits = short;
  count = omega arith;
  framed = rw (host_says_nothing host, says_length len fits) refl;
}

-- ---- a call is named by one method and one target

abbrev call_by : List ℕ → List ℕ → Call
call_by method target =
    if bytes_eq target (codes "/stream") then kind.Stream else
    if bytes_eq target (codes "/tx") then kind.Tx else
    if bytes_eq target (codes "/lease") then kind.Lease else
    if bytes_eq target (codes "/info") then kind.Info else
    if bytes_eq target (codes "/metrics") then kind.Metrics else
    if bytes_eq target (codes "/events") then kind.Events else
    if bytes_eq target (codes "/halt") then (if bytes_eq method (codes "POST") then kind.Halt else kind.HaltBack) else
    if bytes_eq method (codes "GET") then kind.Export (drop 13 target) else kind.Import (drop 13 target)

call_by-named : (c : Call) → IsNamed c → call_by (method_of c) (target_of c) ≡ c
call_by-named kind.Stream named = refl
call_by-named kind.Halt named = refl
call_by-named kind.HaltBack named = refl
call_by-named kind.Tx named = refl
call_by-named (kind.Export name) named = refl
call_by-named (kind.Import name) named = refl
call_by-named kind.Lease named = refl
call_by-named kind.Info named = refl
call_by-named kind.Metrics named = refl
call_by-named kind.Events named = refl
call_by-named kind.Other named = absurd named

one : (c d : Call) → IsNamed c → IsNamed d → method_of c ≡ method_of d → target_of c ≡ target_of d → d ≡ c
one c d named also m t = sym (call_by-named d also) ∙ ap (λ (x : List ℕ). call_by x (target_of d)) (sym m) ∙ ap (call_by (method_of c)) (sym t) ∙ call_by-named c named

pub same_call : (c d : Call) → IsNamed c → Names (method_of c) (target_of c) d → d ≡ c
same_call c kind.Other named names = absurd (names c named refl refl)
same_call c kind.Stream named names = one c kind.Stream named names.0 names.1 names.2
same_call c kind.Halt named names = one c kind.Halt named names.0 names.1 names.2
same_call c kind.HaltBack named names = one c kind.HaltBack named names.0 names.1 names.2
same_call c kind.Tx named names = one c kind.Tx named names.0 names.1 names.2
same_call c (kind.Export name) named names = one c (kind.Export name) named names.0 names.1 names.2
same_call c (kind.Import name) named names = one c (kind.Import name) named names.0 names.1 names.2
same_call c kind.Lease named names = one c kind.Lease named names.0 names.1 names.2
same_call c kind.Info named names = one c kind.Info named names.0 names.1 names.2
same_call c kind.Metrics named names = one c kind.Metrics named names.0 names.1 names.2
same_call c kind.Events named names = one c kind.Events named names.0 names.1 names.2
