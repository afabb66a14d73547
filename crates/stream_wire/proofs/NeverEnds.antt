-- Where no end that is tried makes a head, no bytes do.
use Rattle.std.proofs.Common.{◌≡◌, ℕ, ◌∷◌, ◌<◌, ◌≤◌, inl, inr, List, [], ◌++◌, length, drop, refl, sym, ap, ◌∙◌, subst, arith, length-append}
use Rattle.std.proofs.lemmas.List.{drop-append-le}
use Rattle.httparse.specs.Grammar.{print_request, print_response}
use Rattle.stream_wire.specs.declared.head_ends.HeadKind.{HeadKind}
use Rattle.stream_wire.specs.declared.head_ends.HeadKind.TheVariants as kind
use Rattle.stream_wire.specs.Ends.{HasNoHead, TakesHead, NeverTakes, EndsByNone, EndsByNoLength, EndsByNoCharacter, SaysLength, name_end, shortest_head}
use Rattle.stream_wire.proofs.Heads.{never_long, never_long_response}
use Rattle.stream_wire.proofs.RequestEnds.{IsRequestEnd, RequestSays, request_ends, shortest_request}
use Rattle.stream_wire.proofs.ResponseEnds.{IsResponseEnd, ResponseSays, response_ends}
use Rattle.stream_wire.proofs.SectionEnds.{IsFieldEnd}
use Rattle.stream_wire.proofs.TextEnds.{CharEnd, none, one, two, three, two_high, three_high}

-- an end of a text that was tried
tried : (k : HeadKind) (bytes text end : List ℕ) (at : ℕ) → EndsByNone k bytes text → at < length text → end ≡ drop at text → TakesHead k (bytes ++ end) → ⊥
tried k bytes text end at none_of short e takes = none_of at short (subst (λ (x : List ℕ). TakesHead k (bytes ++ x)) e takes)

by_field : (k : HeadKind) (bytes digits end : List ℕ) → EndsByNone k bytes name_end → EndsByNone k bytes (digits ++ 10 ∷ 10 ∷ []) → length digits ≡ 20 → IsFieldEnd digits end → TakesHead k (bytes ++ end) → ⊥
by_field k bytes digits end names lengths len (inl (at, few, e)) takes = tried k bytes name_end end at names (omega (arith, few)) e takes
by_field k bytes digits end names lengths len (inr (at, few, e)) takes =
    tried k bytes (digits ++ 10 ∷ 10 ∷ []) end at lengths (omega (arith, few, len, length-append digits (10 ∷ 10 ∷ []))) (e ∙ sym (drop-append-le at digits (10 ∷ 10 ∷ []) (omega (arith, few, len)))) takes

by_character : (bytes u end : List ℕ) → EndsByNone kind.Request bytes shortest_request → EndsByNoCharacter kind.Request bytes → CharEnd u → end ≡ u ++ drop 4 shortest_request → TakesHead kind.Request (bytes ++ end) → ⊥
by_character bytes _ end start no_char none e takes = tried kind.Request bytes _ end 4 start (omega arith) e takes
by_character bytes _ end start no_char one e takes = tried kind.Request bytes _ end 2 no_char.least (omega arith) e takes
by_character bytes _ end start no_char two e takes = tried kind.Request bytes _ end 1 no_char.least (omega arith) e takes
by_character bytes _ end start no_char three e takes = tried kind.Request bytes _ end 0 no_char.least (omega arith) e takes
by_character bytes _ end start no_char two_high e takes = tried kind.Request bytes _ end 0 no_char.second (omega arith) e takes
by_character bytes _ end start no_char three_high e takes = tried kind.Request bytes _ end 0 no_char.second_of_four (omega arith) e takes

request_says : (bytes : List ℕ) (n : ℕ) → SaysLength kind.Request bytes n → RequestSays bytes n
request_says bytes n says h fs f so_far reads e few framed =
    says (length (print_request h)) fs f so_far (h, [], reads, refl, sym e) (omega (arith, ap length e, few)) framed

response_says : (bytes : List ℕ) (n : ℕ) → SaysLength kind.Response bytes n → ResponseSays bytes n
response_says bytes n says h fs f so_far reads e few framed =
    says (length (print_response h)) fs f so_far (h, [], reads, refl, sym e) (omega (arith, ap length e, few)) framed

pub never_ends : (k : HeadKind) (bytes : List ℕ) → EndsByNone k bytes name_end → EndsByNone k bytes (shortest_head k) → EndsByNoLength k bytes → EndsByNoCharacter k bytes → HasNoHead k bytes → NeverTakes k bytes
never_ends kind.Request bytes names start length_ character none_yet more takes =
    let x = request_ends length_.digits bytes more length_.number none_yet takes (request_says bytes length_.number length_.says) length_.padded in
    on x.0 x.1 x.2
  where
    on : (end : List ℕ) → IsRequestEnd length_.digits end → TakesHead kind.Request (bytes ++ end) → ⊥
    on end (inl field) takes = by_field kind.Request bytes length_.digits end names length_.none length_.padded.len field takes
    on end (inr (inl (at, few, e))) takes = tried kind.Request bytes (shortest_head kind.Request) end at start (omega (arith, few)) e takes
    on end (inr (inr (u, char, e))) takes = by_character bytes u end start character char e takes
never_ends kind.Response bytes names start length_ character none_yet more takes =
    let x = response_ends length_.digits bytes more length_.number none_yet takes (response_says bytes length_.number length_.says) length_.padded in
    on x.0 x.1 x.2
  where
    on : (end : List ℕ) → IsResponseEnd length_.digits end → TakesHead kind.Response (bytes ++ end) → ⊥
    on end (inl field) takes = by_field kind.Response bytes length_.digits end names length_.none length_.padded.len field takes
    on end (inr (at, few, e)) takes = tried kind.Response bytes (shortest_head kind.Response) end at start (omega (arith, few)) e takes

-- so many bytes without a head that none is left within the limit
pub never_late : (k : HeadKind) (bytes : List ℕ) → HasNoHead k bytes → 8192 ≤ length bytes → NeverTakes k bytes
never_late kind.Request bytes none_yet long = never_long bytes none_yet long
never_late kind.Response bytes none_yet long = never_long_response bytes none_yet long
