-- Which heads are never taken.
use Rattle.std.proofs.Common.{◌≡◌, ℕ, ◌<◌, ◌≤◌, List, ◌++◌, length, map, take, drop, Some, None, subst, sym, ap, ◌∙◌, arith, append_assoc}
use Rattle.std.proofs.lemmas.Grind.{common_steps}
use Rattle.std.proofs.lemmas.List.{take-append-drop, take-append-le}
use Rattle.httparse.specs.Grammar.{Field, RequestHead, print_request, ReadsRequest, HasNoRequest, ResponseHead, print_response, ReadsResponse, HasNoResponse}
use Rattle.httparse.specs.declared.spans.HeaderSpan.{HeaderSpan}
use Rattle.httparse.specs.Spans.{RequestOverflows, ResponseOverflows, name_and_value, header_bytes}
use Rattle.httparse.proofs.GrammarLemmas.{request_prefix_free, response_prefix_free}
use Rattle.stream_wire.specs.Head.{framing_of, NeverTakesRequest, NeverTakesResponse, TakesResponse}

-- no more fields than there is room for
pub few_fields : (bytes : List ℕ) (headers : List HeaderSpan) (count : ℕ) (fields : List Field)
    → map (header_bytes bytes) (take count headers) ≡ map name_and_value fields → length headers ≡ 128 → length fields ≤ 128
few_fields bytes headers count fields e room =
    let l = ap length e in
    grind (arith, common_steps, l)

-- the bytes that a front takes of longer ones
front_in : (bytes more front rest : List ℕ) → bytes ++ more ≡ front ++ rest → length front ≤ length bytes → bytes ≡ front ++ drop (length front) bytes
front_in bytes more front rest e h =
    let a : take (length front) (bytes ++ more) ≡ take (length front) bytes = take-append-le (length front) bytes more h in
    let b : take (length front) (front ++ rest) ≡ front = grind (arith, common_steps) in
    let c : take (length front) bytes ≡ front = sym a ∙ ap (take (length front)) e ∙ b in
    sym (take-append-drop (length front) bytes) ∙ ap (λ (l : List ℕ). l ++ drop (length front) bytes) c

-- too many fields, whatever follows
pub never_over : (bytes : List ℕ) → RequestOverflows 128 bytes → NeverTakesRequest bytes
never_over bytes over more (h, rest, len, reads, taken) = omega (arith, over more h rest reads, taken.count)

pub never_over_response : (bytes : List ℕ) → ResponseOverflows 128 bytes → NeverTakesResponse bytes
never_over_response bytes over more (h, rest, len, reads, taken) = omega (arith, over more h rest reads, taken.count)

-- so many bytes without a head that none is left in the limit
pub never_long : (bytes : List ℕ) → HasNoRequest bytes → 8192 ≤ length bytes → NeverTakesRequest bytes
never_long bytes none long more (h, rest, len, reads, taken) =
    none h (drop (length (print_request h)) bytes) (reads.0, front_in bytes more (print_request h) rest reads.1 (omega (arith, taken.size_fits)))

pub never_long_response : (bytes : List ℕ) → HasNoResponse bytes → 8192 ≤ length bytes → NeverTakesResponse bytes
never_long_response bytes none long more (h, rest, len, reads, taken) =
    none h (drop (length (print_response h)) bytes) (reads.0, front_in bytes more (print_response h) rest reads.1 (omega (arith, taken.size_fits)))

-- a whole head that is too long
pub never_large : (bytes : List ℕ) (k : RequestHead) (left : List ℕ) → ReadsRequest bytes k left → 8192 < length (print_request k) → NeverTakesRequest bytes
never_large bytes k left read large more (h, rest, len, reads, taken) =
    let same = request_prefix_free bytes more k h left rest read reads in
    omega (arith, ap (λ (x : RequestHead). length (print_request x)) same.0, taken.size_fits)

pub never_large_response : (bytes : List ℕ) (k : ResponseHead) (left : List ℕ) → ReadsResponse bytes k left → 8192 < length (print_response k) → NeverTakesResponse bytes
never_large_response bytes k left read large more (h, rest, len, reads, taken) =
    let same = response_prefix_free bytes more k h left rest read reads in
    omega (arith, ap (λ (x : ResponseHead). length (print_response x)) same.0, taken.size_fits)

-- a whole head whose fields are refused
pub never_framed : (bytes : List ℕ) (k : RequestHead) (left : List ℕ) → ReadsRequest bytes k left → framing_of k.fields ≡ None → NeverTakesRequest bytes
never_framed bytes k left read none more (h, rest, len, reads, taken) =
    let same = request_prefix_free bytes more k h left rest read reads in
    let f : framing_of k.fields ≡ framing_of h.fields = ap (λ (x : RequestHead). framing_of x.fields) same.0 in
    let g : None ≡ Some len = sym none ∙ f ∙ taken.framed in cc

pub never_framed_response : (bytes : List ℕ) (k : ResponseHead) (left : List ℕ) → ReadsResponse bytes k left → framing_of k.fields ≡ None → NeverTakesResponse bytes
never_framed_response bytes k left read none more (h, rest, len, reads, taken) =
    let same = response_prefix_free bytes more k h left rest read reads in
    let f : framing_of k.fields ≡ framing_of h.fields = ap (λ (x : ResponseHead). framing_of x.fields) same.0 in
    let g : None ≡ Some len = sym none ∙ f ∙ taken.framed in cc

-- what begins no head begins none with more bytes behind it
pub never_more : (bytes more : List ℕ) → NeverTakesResponse bytes → NeverTakesResponse (bytes ++ more)
never_more bytes more n = λ behind takes. n (more ++ behind) (subst TakesResponse (append_assoc bytes more behind) takes)
