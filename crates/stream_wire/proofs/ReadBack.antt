-- What the readers answer of bytes that begin with a head that is taken.
use Rattle.std.proofs.Common.{◌≡◌, ℕ, ◌<◌, ◌≤◌, ◌^◌, ◌++◌, List, [], length, Option, Some, IfSome, unwrap_or, Result, Ok, Err, refl, sym, ap, ◌∙◌, subst, inl, inr, ◌⊎◌}
use Rattle.http.specs.StatusCode.{IsStatusCode}
use Rattle.httparse.specs.Grammar.{AllPass, is_value_byte, RequestHead, print_request, ReadsRequest, ResponseHead, print_response, ReadsResponse, status_code}
use Rattle.httparse.proofs.GrammarLemmas.{request_unique, response_unique, ReadsRequest-append, ReadsResponse-append}
use Rattle.stream_wire.specs.declared.call.Call.{Call}
use Rattle.stream_wire.specs.declared.wire_fault.WireFault.{WireFault}
use Rattle.stream_wire.specs.declared.wire_fault.WireFault.TheVariants as fault
use Rattle.stream_wire.specs.declared.request.Heard.{Heard}
use Rattle.stream_wire.specs.declared.request.Heard.TheVariants as heard
use Rattle.stream_wire.specs.declared.response.Told.{Told}
use Rattle.stream_wire.specs.declared.response.Told.TheVariants as told
use Rattle.stream_wire.specs.Call.{IsNamed, Names, method_of, target_of}
use Rattle.stream_wire.specs.Head.{framing_of, IsTaken, HearsRequest, HearsResponse}
use Rattle.stream_wire.specs.Writing.{reply_head, request_head}
use Rattle.stream_wire.proofs.Written.{reply_of, phrase_of, reply_head-text, reads_reply, taken_reply, code_value, request_of, request_head-text, reads_request, taken_request, same_call}

tells : (bytes : List ℕ) (h : ResponseHead) (rest : List ℕ) (len : Option ℕ) (answer : Result Told WireFault)
    → ReadsResponse bytes h rest → IsTaken (length (print_response h)) h.fields len → HearsResponse bytes answer
    → answer ≡ Ok (told.Whole (length (print_response h)) (status_code h) len)
tells bytes h rest len (Ok told.Part) reads taken hears = absurd (hears.0 h rest reads)
tells bytes h rest len (Ok (told.Whole used status said)) reads taken hears =
    let same = (response_unique bytes hears.head h _ rest hears.reads reads).0 in
    let size : used ≡ length (print_response h) = hears.size_is ∙ ap (λ (x : ResponseHead). length (print_response x)) same in
    let code : status ≡ status_code h = hears.status_is ∙ ap status_code same in
    let f : Some said ≡ Some len = sym hears.taken.framed ∙ ap (λ (x : ResponseHead). framing_of x.fields) same ∙ taken.framed in
    cc
tells bytes h rest len (Err fault.Head) reads taken hears = absurd (hears [] (h, rest ++ [], len, ReadsResponse-append bytes h rest [] reads, taken))
tells bytes h rest len (Err fault.Length) reads taken hears = absurd hears
tells bytes h rest len (Err (fault.Kind kind)) reads taken hears = absurd hears
tells bytes h rest len (Err fault.NameText) reads taken hears = absurd hears
tells bytes h rest len (Err (fault.TooLong size)) reads taken hears = absurd hears
tells bytes h rest len (Err fault.NoMemory) reads taken hears = absurd hears

pub reply_read : (status : ℕ) (len : Option ℕ) (more : List ℕ) (answer : Result Told WireFault)
    → IsStatusCode status → IfSome len (λ n. n < 2 ^ 64) → HearsResponse (reply_head status len ++ more) answer
    → answer ≡ Ok (told.Whole (length (reply_head status len)) status len)
reply_read status len more answer is fits hears =
    let h = reply_of status (phrase_of status) len in
    let text = ap (λ (l : List ℕ). length l) (reply_head-text status len) in
    let taken = subst (λ (n : ℕ). IsTaken n h.fields len) text (taken_reply status len is fits) in
    tells (reply_head status len ++ more) h more len answer (reads_reply status len more is fits) taken hears
    ∙ ap (λ (n : ℕ). Ok (told.Whole n (status_code h) len)) (sym text)
    ∙ ap (λ (n : ℕ). Ok (told.Whole (length (reply_head status len)) n len)) (code_value status is)

pub asks : (bytes : List ℕ) (h : RequestHead) (rest : List ℕ) (c : Call) (len : ℕ) (answer : Result Heard WireFault)
    → ReadsRequest bytes h rest → IsTaken (length (print_request h)) h.fields (Some len) → IsNamed c → h.method ≡ method_of c → h.target ≡ target_of c → HearsRequest bytes answer
    → (answer ≡ Ok (heard.Whole (length (print_request h)) c len)) ⊎ (answer ≡ Err fault.NoMemory)
asks bytes h rest c len (Ok heard.Part) reads taken named method target hears = absurd (hears.0 h rest reads)
asks bytes h rest c len (Ok (heard.Whole used call said)) reads taken named method target hears =
    let same = (request_unique bytes hears.head h _ rest hears.reads reads).0 in
    let size : used ≡ length (print_request h) = hears.size_is ∙ ap (λ (x : RequestHead). length (print_request x)) same in
    let f : Some hears.said ≡ Some (Some len) = sym hears.taken.framed ∙ ap (λ (x : RequestHead). framing_of x.fields) same ∙ taken.framed in
    let said_is : hears.said ≡ Some len = cc in
    let body : said ≡ len = hears.len_is ∙ ap (λ (o : Option ℕ). unwrap_or o 0) said_is in
    let names = subst (λ (t : List ℕ). Names (method_of c) t call) (ap (λ (x : RequestHead). x.target) same ∙ target)
    (subst (λ (m : List ℕ). Names m hears.head.target call) (ap (λ (x : RequestHead). x.method) same ∙ method) hears.names) in
    let called : call ≡ c = same_call c call named names in
    inl (cc)
asks bytes h rest c len (Err fault.Head) reads taken named method target hears = absurd (hears [] (h, rest ++ [], Some len, ReadsRequest-append bytes h rest [] reads, taken))
asks bytes h rest c len (Err fault.Length) reads taken named method target hears = absurd hears
asks bytes h rest c len (Err (fault.Kind kind)) reads taken named method target hears = absurd hears
asks bytes h rest c len (Err fault.NameText) reads taken named method target hears = absurd hears
asks bytes h rest c len (Err (fault.TooLong size)) reads taken named method target hears = absurd hears
asks bytes h rest c len (Err fault.NoMemory) reads taken named method target hears = inr refl

pub request_read : (c : Call) (host : List ℕ) (len : ℕ) (more : List ℕ) (answer : Result Heard WireFault)
    → IsNamed c → AllPass is_value_byte host → len < 2 ^ 64 → length (request_head c host len) ≤ 8192
    → HearsRequest (request_head c host len ++ more) answer
    → (answer ≡ Ok (heard.Whole (length (request_head c host len)) c len)) ⊎ (answer ≡ Err fault.NoMemory)
request_read c host len more answer named host_fits len_fits short hears =
    let h = request_of c host len in
    let text = ap (λ (l : List ℕ). length l) (request_head-text c host len) in
    let taken = subst (λ (n : ℕ). IsTaken n h.fields (Some len)) text (taken_request c host len len_fits short) in
    subst (λ (n : ℕ). (answer ≡ Ok (heard.Whole n c len)) ⊎ (answer ≡ Err fault.NoMemory)) (sym text)
    (asks (request_head c host len ++ more) h more c len answer (reads_request c host len more named host_fits len_fits) taken named refl refl hears)
