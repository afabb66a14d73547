-- Heads of requests for a stream, written and read back with what they say of the last file.
use Rattle.std.proofs.Common.{◌≡◌, ℕ, zero, suc, ◌∷◌, ◌/◌, ◌%◌, ◌<◌, ◌≤◌, ◌^◌, ◌&&◌, List, [], ◌++◌, length, reverse, Bool, true, false, nat_le, nat_lt, IsTrue, Option, Some, None, IfSome, Result, Ok, Err, refl, sym, ap, ◌∙◌, subst, arith, append_assoc, append-nil, codes, decimal, All, inl, inr, ◌⊎◌}
use Rattle.std.proofs.lemmas.Grind.{common_steps}
use Rattle.std.proofs.lemmas.Bool.{ltb-true}
use Rattle.std.specs.List.{list_all}
use Rattle.std.proofs.lemmas.Bool.Decides.{nat_tests}
use Rattle.std.proofs.lemmas.List.Elements.{All-cons, All-nil, All-head, All-weaker, All-append}
use Rattle.std.proofs.lemmas.Str.{IsUtf8-from_ascii}
use Rattle.std.proofs.lemmas.Str.Ascii.{IsAscii-from_all}
use Rattle.httparse.specs.Ascii.{crlf_bytes}
use Rattle.httparse.specs.Grammar.{crlf, Field, IsField, AllPass, is_uri_byte, is_ows, skip_ows, trim_ows, is_token_byte, is_value_byte, RequestHead, print_request, ReadsRequest}
use Rattle.httparse.specs.Spans.{name_and_value}
use Rattle.httparse.proofs.GrammarLemmas.{cons-append}
use Rattle.httparse.proofs.TrimLemmas.{trim_ows_space, AllPass-reverse}
use Rattle.lf_base.specs.Hex.{hex_digit, hex_digits, number_after}
use Rattle.lf_base.proofs.HexLemmas.{sixteen}
use Rattle.stream_wire.specs.declared.call.Call.{Call}
use Rattle.stream_wire.specs.declared.call.Call.TheVariants as kind
use Rattle.stream_wire.specs.declared.last_file.LastFile.{LastFile}
use Rattle.stream_wire.specs.declared.last_file.LastFile.TheVariants.{File, Unknown}
use Rattle.stream_wire.specs.declared.request.Heard.{Heard}
use Rattle.stream_wire.specs.declared.request.Heard.TheVariants as heard
use Rattle.stream_wire.specs.declared.wire_fault.WireFault.{WireFault}
use Rattle.stream_wire.specs.declared.wire_fault.WireFault.TheVariants as fault
use Rattle.stream_wire.specs.Call.{IsNamed}
use Rattle.stream_wire.specs.Head.{with_field, framing_of, IsTaken, HearsRequest}
use Rattle.stream_wire.specs.LastFile.{last_file_text, FitsLastFile, SaysLastFile, SayTogether, TellsLastFile}
use Rattle.stream_wire.specs.Writing.{version, blank, end_line, line, request_line, request_head, stream_head}
use Rattle.stream_wire.proofs.Digits.{passes}
use Rattle.stream_wire.proofs.NumberParts.{number_size, number_part, same_rest}
use Rattle.stream_wire.proofs.ReadBack.{asks}
use Rattle.stream_wire.proofs.Written.{field, host_field, length_field, is_field, is_length_field, is_host_field, host_says_nothing, says_length, request_of, reads_request}

-- ---- what is printed is neither blank nor control

abbrev is_plain : ℕ → Bool
is_plain b = nat_le 33 b && nat_le b 126

plain_value : (b : ℕ) → IsTrue (is_plain b) → IsTrue (is_value_byte b)
plain_value b h = grind (arith, nat_tests, common_steps)

plain_no_ows : (b : ℕ) → IsTrue (is_plain b) → is_ows b ≡ false
plain_no_ows b h = grind (arith, nat_tests, common_steps)

plain_digit : (d : ℕ) → d < 16 → IsTrue (is_plain (hex_digit d))
unfolding hex_digit
plain_digit d h = grind (arith, nat_tests, common_steps)

plain_digits : (k n : ℕ) → AllPass is_plain (hex_digits k n)
unfolding hex_digits
plain_digits zero n = All-nil _
plain_digits (suc k) n =
    let P : ℕ → Type 0 = λ b. IsTrue (is_plain b) in
    All-append P (hex_digits k (n / 16)) (hex_digit (n % 16) ∷ []) (plain_digits k (n / 16)) (All-cons P (hex_digit (n % 16)) [] (plain_digit (n % 16) (omega arith)) (All-nil P))

plain_text : (last : LastFile) → AllPass is_plain (last_file_text last)
plain_text (File min max sum) =
    let P : ℕ → Type 0 = λ b. IsTrue (is_plain b) in
    let back = All-append P (hex_digits 16 max) (47 ∷ hex_digits 16 sum) (plain_digits 16 max) (All-cons P 47 (hex_digits 16 sum) refl (plain_digits 16 sum)) in
    All-append P (hex_digits 16 min) (45 ∷ (hex_digits 16 max ++ 47 ∷ hex_digits 16 sum)) (plain_digits 16 min) (All-cons P 45 (hex_digits 16 max ++ 47 ∷ hex_digits 16 sum) refl back)
plain_text Unknown = passes is_plain (codes "unknown") refl

skip_plain : (bytes : List ℕ) → AllPass is_plain bytes → skip_ows bytes ≡ bytes
skip_plain [] all = refl
skip_plain (b ∷ bytes) all = let no = plain_no_ows b (All-head (λ x. IsTrue (is_plain x)) b bytes all) in rw no refl

trim_text : (last : LastFile) → trim_ows (32 ∷ last_file_text last) ≡ last_file_text last
trim_text last =
    let text = last_file_text last in
    let all = plain_text last in
    trim_ows_space text (skip_plain text all) (skip_plain (reverse text) (AllPass-reverse is_plain text all))

-- ---- no two last files have the same print

same_number : (bytes : List ℕ) (n m mark : ℕ) (r q : List ℕ) → n < 2 ^ 64 → m < 2 ^ 64 → bytes ≡ hex_digits 16 n ++ mark ∷ r → bytes ≡ hex_digits 16 m ++ mark ∷ q → n ≡ m
same_number bytes n m mark r q fits also a b =
    sym (sixteen n fits) ∙ ap (λ (l : List ℕ). number_after 0 l) (sym (number_part bytes n mark r a) ∙ number_part bytes m mark q b) ∙ sixteen m also

file_of_parts : (a b d x y z : ℕ) → a ≡ x → b ≡ y → d ≡ z → File a b d ≡ File x y z
file_of_parts a b d x y z p q r = cc

one_print : (a b : LastFile) → FitsLastFile a → FitsLastFile b → last_file_text a ≡ last_file_text b → a ≡ b
one_print (File a b d) (File x y z) f g e =
    let text = last_file_text (File a b d) in
    let behind = hex_digits 16 b ++ 47 ∷ hex_digits 16 d in
    let same = same_rest text a x 45 behind (hex_digits 16 y ++ 47 ∷ hex_digits 16 z) refl e in
    let sums = same_rest behind b y 47 (hex_digits 16 d) (hex_digits 16 z) refl same in
    file_of_parts a b d x y z
    (same_number text a x 45 behind (hex_digits 16 y ++ 47 ∷ hex_digits 16 z) f.0 g.0 refl e)
    (same_number behind b y 47 (hex_digits 16 d) (hex_digits 16 z) f.1 g.1 refl same)
    (sym (sixteen d f.2) ∙ ap (λ (l : List ℕ). number_after 0 l) sums ∙ sixteen z g.2)
one_print (File a b d) Unknown f g e = absurd (omega (arith, number_size (codes "unknown") a 45 (hex_digits 16 b ++ 47 ∷ hex_digits 16 d) (sym e)))
one_print Unknown (File x y z) f g e = absurd (omega (arith, number_size (codes "unknown") x 45 (hex_digits 16 y ++ 47 ∷ hex_digits 16 z) e))
one_print Unknown Unknown f g e = refl

-- ---- the head

abbrev last_field : LastFile → Field
last_field last = field (codes "Litefs-Last-File") (last_file_text last)

abbrev last_fields : Option LastFile → List Field
last_fields None = []
last_fields (Some last) = last_field last ∷ []

abbrev stream_of : List ℕ → ℕ → Option LastFile → RequestHead
stream_of host len last = record {
  blank = [];
  method = codes "POST";
  target = codes "/stream";
  minor = 1;
  line_end = crlf;
  fields = host_field host ∷ length_field len ∷ last_fields last;
  last = crlf;
}

regroup : (m t v e h l x : List ℕ) → m ++ (32 ∷ []) ++ t ++ (32 ∷ []) ++ v ++ e ++ h ++ l ++ x ++ e ≡ (m ++ 32 ∷ t ++ 32 ∷ v ++ e) ++ ((h ++ (l ++ (x ++ []))) ++ e)
regroup m t v e h l x = simp (append_assoc, cons-append, append-nil)

head_text : (host : List ℕ) (len : ℕ) (last : Option LastFile) → stream_head host len last ≡ print_request (stream_of host len last)
unfolding stream_head request_line version blank end_line line print_request
head_text host len None = regroup (codes "POST") (codes "/stream") (codes "HTTP/1.1") crlf_bytes (line (codes "Host") host) (line (codes "Content-Length") (decimal len)) []
head_text host len (Some last) = regroup (codes "POST") (codes "/stream") (codes "HTTP/1.1") crlf_bytes (line (codes "Host") host) (line (codes "Content-Length") (decimal len)) (line (codes "Litefs-Last-File") (last_file_text last))

is_last_field : (last : LastFile) → IsField (last_field last)
unfolding is_token_byte
is_last_field last = is_field (codes "Litefs-Last-File") (last_file_text last) (omega arith) refl (All-weaker (λ b. IsTrue (is_plain b)) (λ b. IsTrue (is_value_byte b)) plain_value (last_file_text last) (plain_text last))

are_last_fields : (last : Option LastFile) → All IsField (last_fields last)
are_last_fields None = All-nil IsField
are_last_fields (Some last) = All-cons IsField (last_field last) [] (is_last_field last) (All-nil IsField)

post_token : list_all is_token_byte (codes "POST") ≡ true
unfolding is_token_byte
post_token = refl

reads_stream : (host : List ℕ) (len : ℕ) (last : Option LastFile) (more : List ℕ) → AllPass is_value_byte host → len < 2 ^ 64
    → ReadsRequest (stream_head host len last ++ more) (stream_of host len last) more
reads_stream host len last more host_fits len_fits = (
  record {
    method = (omega arith, passes is_token_byte (codes "POST") post_token);
    target = (omega arith, passes is_uri_byte (codes "/stream") refl);
    target_text = IsUtf8-from_ascii (codes "/stream") (IsAscii-from_all (codes "/stream") (All-weaker (λ b. IsTrue (nat_lt b 128)) (λ b. b < 128) (λ b h. ltb-true b 128 h) (codes "/stream") (passes (λ b. nat_lt b 128) (codes "/stream") refl)));
    minor = omega arith;
    fields = All-cons IsField (host_field host) (length_field len ∷ last_fields last) (is_host_field host host_fits)
        (All-cons IsField (length_field len) (last_fields last) (is_length_field len len_fits) (are_last_fields last));
  },
  ap (λ (l : List ℕ). l ++ more) (head_text host len last),
)

last_says_nothing : (so_far : Option ℕ) (last : LastFile) → with_field so_far (name_and_value (last_field last)) ≡ Some so_far
unfolding with_field
last_says_nothing so_far last = refl

framed : (host : List ℕ) (len : ℕ) (last : Option LastFile) → len < 2 ^ 64 → framing_of (host_field host ∷ length_field len ∷ last_fields last) ≡ Some (Some len)
framed host len None fits = rw (host_says_nothing host, says_length len fits) refl
framed host len (Some last) fits = rw (host_says_nothing host, says_length len fits, last_says_nothing (Some len) last) refl

few : (host : List ℕ) (len : ℕ) (last : Option LastFile) → length (host_field host ∷ length_field len ∷ last_fields last) ≤ 128
few host len None = omega arith
few host len (Some last) = omega arith

pub head_read : (host : List ℕ) (len : ℕ) (last : Option LastFile) (more : List ℕ) (answer : Result Heard WireFault)
    → AllPass is_value_byte host → len < 2 ^ 64 → length (stream_head host len last) ≤ 8192
    → HearsRequest (stream_head host len last ++ more) answer
    → (answer ≡ Ok (heard.Whole (length (stream_head host len last)) kind.Stream len)) ⊎ (answer ≡ Err fault.NoMemory)
head_read host len last more answer host_fits len_fits short hears =
    let h = stream_of host len last in
    let text = ap (λ (l : List ℕ). length l) (head_text host len last) in
    let taken : IsTaken (length (print_request h)) h.fields (Some len) = record {
      size_fits = subst (λ (n : ℕ). n ≤ 8192) text short;
      count = few host len last;
      framed = framed host len last len_fits;
    } in
    subst (λ (n : ℕ). (answer ≡ Ok (heard.Whole n kind.Stream len)) ⊎ (answer ≡ Err fault.NoMemory)) (sym text)
    (asks (stream_head host len last ++ more) h more kind.Stream len answer (reads_stream host len last more host_fits len_fits) taken (record {}) refl refl hears)

-- ---- the last file

said_once : (last : LastFile) (said : Option LastFile) → FitsLastFile last → IfSome said FitsLastFile → SayTogether (trim_ows (32 ∷ last_file_text last) ∷ []) said → said ≡ Some last
said_once last None fits also says = absurd says
said_once last (Some said) fits also says = of (subst (λ (value : List ℕ). SaysLastFile value said) (trim_text last) says)
  where
    of : SaysLastFile (last_file_text last) said → Some said ≡ Some last
    of (inl same) = ap Some (sym (one_print last said fits also same))
    of (inr none) = absurd (none.0 last fits refl)

pub last_read : (host : List ℕ) (len : ℕ) (last : Option LastFile) (more : List ℕ) (said : Option LastFile)
    → AllPass is_value_byte host → len < 2 ^ 64 → IfSome last FitsLastFile → IfSome said FitsLastFile
    → TellsLastFile (stream_head host len last ++ more) said → said ≡ last
last_read host len None more said host_fits len_fits fits also tells = tells (stream_of host len None) more (reads_stream host len None more host_fits len_fits) (few host len None)
last_read host len (Some last) more said host_fits len_fits fits also tells =
    said_once last said fits also (tells (stream_of host len (Some last)) more (reads_stream host len (Some last) more host_fits len_fits) (few host len (Some last)))

without_line : (a b d e : List ℕ) → a ++ b ++ d ++ [] ++ e ≡ a ++ b ++ d ++ e
without_line a b d e = simp (append_assoc, append-nil)

pub without : (host : List ℕ) (len : ℕ) → stream_head host len None ≡ request_head kind.Stream host len
unfolding stream_head request_head
without host len = without_line (request_line kind.Stream) (line (codes "Host") host) (line (codes "Content-Length") (decimal len)) crlf_bytes

pub unsaid_read : (c : Call) (host : List ℕ) (len : ℕ) (more : List ℕ) (said : Option LastFile)
    → IsNamed c → AllPass is_value_byte host → len < 2 ^ 64
    → TellsLastFile (request_head c host len ++ more) said → said ≡ None
unsaid_read c host len more said named host_fits len_fits tells = tells (request_of c host len) more (reads_request c host len more named host_fits len_fits) (few host len None)
