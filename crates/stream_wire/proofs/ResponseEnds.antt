-- A response's head that stops anywhere is ended by one of few ends, where any bytes make it one that is taken.
use Rattle.std.proofs.Common.{◌≡◌, ℕ, ◌∷◌, ◌+◌, ◌-◌, ◌<◌, ◌≤◌, ◌⊎◌, inl, inr, List, [], ◌++◌, length, drop, IsTrue, codes, Option, Some, None, unwrap_or, refl, sym, ap, ◌∙◌, subst, arith, append_assoc, append-nil, length-append, drop-drop}
use Rattle.std.proofs.lemmas.List.Elements.{All-nil, All-append}
use Rattle.std.specs.Char.{is_ascii_digit}
use Rattle.httparse.specs.Grammar.{LineEnd, lf, print_end, print_blank, print_version, print_reason, reason_phrase, Field, print_section, AllPass, is_value_byte, ResponseHead, IsResponseHead, print_response, ReadsResponse, HasNoResponse}
use Rattle.httparse.proofs.GrammarLemmas.{print_response-append}
use Rattle.httparse.proofs.PieceLemmas.{front-append}
use Rattle.stream_wire.specs.Head.{framing_of, TakesResponse}
use Rattle.stream_wire.proofs.Cuts.{cut, StopsInside, GoesPast}
use Rattle.stream_wire.proofs.Digits.{AllPass-front, passes}
use Rattle.stream_wire.proofs.SectionEnds.{IsFieldEnd, SaysBefore, section_ends}
use Rattle.stream_wire.proofs.StartEnds.{blank_cut, literal_end, literal_short, end_cut, end_some, section_some}
use Rattle.stream_wire.specs.declared.head_ends.HeadKind.TheVariants as kind
use Rattle.stream_wire.specs.Ends.{IsPadded, shortest_head}

abbrev word : List ℕ
word = codes "HTTP/1."

abbrev zeros : List ℕ
zeros = 48 ∷ 48 ∷ 48 ∷ []

abbrev pub shortest_response : List ℕ
shortest_response = shortest_head kind.Response

-- the ends that are tried
abbrev pub IsResponseEnd : List ℕ → List ℕ → Type 0
IsResponseEnd digits end = IsFieldEnd digits end ⊎ ((at : ℕ) × (at ≤ 14) × (end ≡ drop at shortest_response))

abbrev pub EndsResponse : List ℕ → List ℕ → Type 0
EndsResponse digits bytes = (end : List ℕ) × IsResponseEnd digits end × TakesResponse (bytes ++ end)

-- the parts of a response, with what follows
parts_of : ResponseHead → List ℕ
parts_of h = print_blank h.blank ++ (print_version h.minor ++ 32 ∷ (h.digits ++ (print_reason h.reason ++ (print_end h.line_end ++ print_section h.fields h.last))))

parts : (h : ResponseHead) → print_response h ≡ parts_of h
unfolding parts_of
parts h = sym (append-nil (print_response h)) ∙ print_response-append h [] ∙ rw (append-nil (print_section h.fields h.last)) refl

-- bytes that end as a head of no more bytes
finish : (bytes w end : List ℕ) (h : ResponseHead) (len : Option ℕ) → IsResponseHead h → bytes ++ end ≡ parts_of h → length h.fields ≤ 128 → framing_of h.fields ≡ Some len
    → length bytes + length w ≤ 8192 → length end ≤ length w → TakesResponse (bytes ++ end)
finish bytes w end h len is text few framed fits short =
    let printed : bytes ++ end ≡ print_response h = text ∙ sym (parts h) in (
      h,
      [],
      len,
      (is, printed ∙ sym (append-nil (print_response h))),
      record { size_fits = omega (arith, ap length printed, length-append bytes end, fits, short); count = few; framed = framed },
    )

-- where the bytes of a head stop: `bytes` is what came of it and `w` what did not
record Stop (bytes w : List ℕ) : Type 0 where
  h : ResponseHead
  len : Option ℕ
  is : IsResponseHead h
  few : length h.fields ≤ 128
  framed : framing_of h.fields ≡ Some len
  fits : length bytes + length w ≤ 8192

-- a head with nothing behind its start line
abbrev bare : List LineEnd → ℕ → List ℕ → Option (List ℕ) → LineEnd → ResponseHead
bare blank minor digits reason end = record { blank = blank; minor = minor; digits = digits; reason = reason; line_end = end; fields = []; last = lf }

finish_bare : (bytes w end : List ℕ) (s : Stop bytes w) (blank : List LineEnd) (minor : ℕ) (digits : List ℕ) (reason : Option (List ℕ)) (e : LineEnd) → IsResponseHead (bare blank minor digits reason e)
    → bytes ++ end ≡ parts_of (bare blank minor digits reason e) → length end ≤ length w → TakesResponse (bytes ++ end)
finish_bare bytes w end s blank minor digits reason e is text short = finish bytes w end (bare blank minor digits reason e) None is text (omega arith) refl s.fits short

zero_digits : AllPass is_ascii_digit zeros
zero_digits = passes is_ascii_digit zeros refl

is_bare : (blank : List LineEnd) (minor : ℕ) (digits : List ℕ) → minor ≤ 1 → length digits ≡ 3 → AllPass is_ascii_digit digits → IsResponseHead (bare blank minor digits None lf)
is_bare blank minor digits low three all = record { minor = low; digits = (three, all); reason = All-nil _; fields = All-nil _ }

-- how much there is behind a version
six_behind : (h : ResponseHead) → IsResponseHead h → 6 ≤ length (32 ∷ (h.digits ++ (print_reason h.reason ++ (print_end h.line_end ++ print_section h.fields h.last))))
six_behind h is =
    omega (
      arith,
      length-append h.digits (print_reason h.reason ++ (print_end h.line_end ++ print_section h.fields h.last)),
      length-append (print_reason h.reason) (print_end h.line_end ++ print_section h.fields h.last),
      length-append (print_end h.line_end) (print_section h.fields h.last),
      is.digits.0,
      end_some h.line_end,
      section_some h.fields h.last,
    )

two_behind : (h : ResponseHead) → 2 ≤ length (print_reason h.reason ++ (print_end h.line_end ++ print_section h.fields h.last))
two_behind h =
    omega (
      arith,
      length-append (print_reason h.reason) (print_end h.line_end ++ print_section h.fields h.last),
      length-append (print_end h.line_end) (print_section h.fields h.last),
      end_some h.line_end,
      section_some h.fields h.last,
    )

-- ---- each part

in_blank : (digits bytes w left rest : List ℕ) (s : Stop bytes w) → print_blank s.h.blank ≡ bytes ++ left → 0 < length left → w ≡ left ++ rest → 14 ≤ length rest → EndsResponse digits bytes
unfolding parts_of
in_blank digits bytes w left rest s e some w_is long =
    let x = blank_cut s.h.blank bytes left e in (
      shortest_response,
      inr (0, omega arith, refl),
      finish_bare bytes w shortest_response s x.0 0 zeros None lf (is_bare x.0 0 zeros (omega arith) refl zero_digits)
          (sym (append_assoc bytes (10 ∷ []) (drop 1 shortest_response)) ∙ ap (λ (l : List ℕ). l ++ drop 1 shortest_response) x.1)
          (omega (arith, ap length w_is, length-append left rest, some, long)),
    )

in_version : (digits bytes w b left rest : List ℕ) (s : Stop bytes w) → bytes ≡ print_blank s.h.blank ++ b → print_version s.h.minor ≡ b ++ left → 0 < length left → w ≡ left ++ rest → 6 ≤ length rest
    → EndsResponse digits bytes
unfolding parts_of
in_version digits bytes w b left rest s e part some w_is long =
    let end = drop (1 + length b) shortest_response in
    let tail : List ℕ = 48 ∷ 32 ∷ 48 ∷ 48 ∷ 48 ∷ 10 ∷ 10 ∷ [] in
    let least = literal_short word b left (48 + s.h.minor) part some in
    let same : end ≡ drop (length b) (word ++ tail) = sym (drop-drop (length b) 1 shortest_response) in
    let front : b ++ end ≡ word ++ tail = ap (λ (l : List ℕ). b ++ l) same ∙ literal_end word b left tail (48 + s.h.minor) part some in (
      end,
      inr (1 + length b, omega (arith, least), refl),
      finish_bare bytes w end s s.h.blank 0 zeros None lf (is_bare s.h.blank 0 zeros (omega arith) refl zero_digits)
          (front-append bytes (print_blank s.h.blank) b end e ∙ ap (λ (l : List ℕ). print_blank s.h.blank ++ l) front)
          (omega (arith, ap length front, length-append b end, ap length part, length-append b left, ap length w_is, length-append left rest, long)),
    )

-- two parts in front of what has come
through : (bytes first second b end : List ℕ) → bytes ≡ first ++ (second ++ b) → bytes ++ end ≡ first ++ (second ++ (b ++ end))
through bytes first second b end e = front-append bytes first (second ++ b) end e ∙ ap (λ (l : List ℕ). first ++ l) (append_assoc second b end)

behind_version : (digits bytes w : List ℕ) (s : Stop bytes w) → bytes ≡ print_blank s.h.blank ++ (print_version s.h.minor ++ []) → 6 ≤ length w → EndsResponse digits bytes
unfolding parts_of
behind_version digits bytes w s e long =
    let end = drop 9 shortest_response in (
      end,
      inr (9, omega arith, refl),
      finish_bare bytes w end s s.h.blank s.h.minor zeros None lf (is_bare s.h.blank s.h.minor zeros s.is.minor refl zero_digits)
          (through bytes (print_blank s.h.blank) (print_version s.h.minor) [] end e) (omega (arith, long)),
    )

-- the bytes behind a version and its space
behind_space : (bytes blank version b end : List ℕ) → bytes ≡ blank ++ (version ++ (32 ∷ b)) → bytes ++ end ≡ blank ++ (version ++ 32 ∷ (b ++ end))
behind_space bytes blank version b end e = through bytes blank version (32 ∷ b) end e

-- so many digits, and zeros behind them
ends_digits : (digits bytes w b : List ℕ) (at : ℕ) (s : Stop bytes w) → bytes ≡ print_blank s.h.blank ++ (print_version s.h.minor ++ (32 ∷ b)) → AllPass is_ascii_digit b → AllPass is_ascii_digit (drop at zeros) → at ≤ 3 → length b ≡ at
    → drop (10 + at) shortest_response ≡ drop at zeros ++ (10 ∷ 10 ∷ []) → length (drop at zeros) + at ≡ 3 → 5 - at ≤ length w → EndsResponse digits bytes
unfolding parts_of
ends_digits digits bytes w b at s e all back few len same three long =
    let end = drop (10 + at) shortest_response in
    let now = b ++ drop at zeros in (
      end,
      inr (10 + at, omega (arith, few), refl),
      finish_bare bytes w end s s.h.blank s.h.minor now None lf
          (is_bare s.h.blank s.h.minor now s.is.minor (omega (arith, length-append b (drop at zeros), len, three)) (All-append (λ x. IsTrue (is_ascii_digit x)) b (drop at zeros) all back))
          (behind_space bytes (print_blank s.h.blank) (print_version s.h.minor) b end e
          ∙ ap (λ (l : List ℕ). print_blank s.h.blank ++ (print_version s.h.minor ++ 32 ∷ l)) (ap (λ (l : List ℕ). b ++ l) same ∙ sym (append_assoc b (drop at zeros) (10 ∷ 10 ∷ []))))
          (omega (arith, ap length same, length-append (drop at zeros) (10 ∷ 10 ∷ []), three, few, long)),
    )

in_digits : (digits bytes w b left rest : List ℕ) (s : Stop bytes w) → bytes ≡ print_blank s.h.blank ++ (print_version s.h.minor ++ (32 ∷ b)) → s.h.digits ≡ b ++ left → 0 < length left
    → w ≡ left ++ rest → 2 ≤ length rest → EndsResponse digits bytes
in_digits digits bytes w b left rest s e part some w_is long = by_count b e part
  where
    three : length s.h.digits ≡ 3
    three = s.is.digits.0

    by_count : (b : List ℕ) → bytes ≡ print_blank s.h.blank ++ (print_version s.h.minor ++ (32 ∷ b)) → s.h.digits ≡ b ++ left → EndsResponse digits bytes
    by_count [] e part = ends_digits digits bytes w [] 0 s e (All-nil _) zero_digits (omega arith) refl refl refl (omega (arith, ap length part, three, ap length w_is, length-append left rest, long))
    by_count (x ∷ []) e part =
        ends_digits digits bytes w (x ∷ []) 1 s e (AllPass-front is_ascii_digit (x ∷ []) left (subst (AllPass is_ascii_digit) part s.is.digits.1)) (passes is_ascii_digit (48 ∷ 48 ∷ []) refl) (omega arith) refl refl refl
        (omega (arith, ap length part, three, ap length w_is, length-append left rest, long))
    by_count (x ∷ y ∷ []) e part =
        ends_digits digits bytes w (x ∷ y ∷ []) 2 s e (AllPass-front is_ascii_digit (x ∷ y ∷ []) left (subst (AllPass is_ascii_digit) part s.is.digits.1)) (passes is_ascii_digit (48 ∷ []) refl) (omega arith) refl refl refl
        (omega (arith, ap length part, three, ap length w_is, length-append left rest, long))
    by_count (x ∷ y ∷ z ∷ b) e part = absurd (omega (arith, ap length part, three, length-append b left, some))

-- the bytes behind a status and before its phrase
behind_digits : (bytes blank version digits b end : List ℕ) → bytes ≡ blank ++ (version ++ (32 ∷ (digits ++ b))) → bytes ++ end ≡ blank ++ (version ++ 32 ∷ (digits ++ (b ++ end)))
behind_digits bytes blank version digits b end e = behind_space bytes blank version (digits ++ b) end e ∙ ap (λ (l : List ℕ). blank ++ (version ++ 32 ∷ l)) (append_assoc digits b end)

-- a phrase that was cut is a phrase
reason_cut : (r : Option (List ℕ)) (b left : List ℕ) → print_reason r ≡ b ++ left → 0 < length left → AllPass is_value_byte (reason_phrase r)
    → (q : Option (List ℕ)) × (b ≡ print_reason q) × AllPass is_value_byte (reason_phrase q)
reason_cut r [] left e some all = (None, refl, All-nil _)
reason_cut None (c ∷ b) left e some all = absurd (cc)
reason_cut (Some p) (c ∷ b) left e some all =
    let first : c ≡ 32 = cc in
    let rest : p ≡ b ++ left = cc in
    (Some b, ap (λ (x : ℕ). x ∷ b) first, AllPass-front is_value_byte b left (subst (AllPass is_value_byte) rest all))

in_reason : (digits bytes w b left rest : List ℕ) (s : Stop bytes w) → bytes ≡ print_blank s.h.blank ++ (print_version s.h.minor ++ (32 ∷ (s.h.digits ++ b))) → print_reason s.h.reason ≡ b ++ left
    → 0 < length left → w ≡ left ++ rest → 2 ≤ length rest → EndsResponse digits bytes
unfolding parts_of
in_reason digits bytes w b left rest s e part some w_is long =
    let end = drop 13 shortest_response in
    let q = reason_cut s.h.reason b left part some s.is.reason in (
      end,
      inr (13, omega arith, refl),
      finish_bare bytes w end s s.h.blank s.h.minor s.h.digits q.0 lf (record { minor = s.is.minor; digits = s.is.digits; reason = q.2; fields = All-nil _ })
          (behind_digits bytes (print_blank s.h.blank) (print_version s.h.minor) s.h.digits b end e
          ∙ ap (λ (l : List ℕ). print_blank s.h.blank ++ (print_version s.h.minor ++ 32 ∷ (s.h.digits ++ (l ++ (10 ∷ 10 ∷ []))))) q.1)
          (omega (arith, ap length w_is, length-append left rest, long)),
    )

-- the bytes behind a phrase
behind_reason : (bytes blank version digits reason b end : List ℕ) → bytes ≡ blank ++ (version ++ (32 ∷ (digits ++ (reason ++ b)))) → bytes ++ end ≡ blank ++ (version ++ 32 ∷ (digits ++ (reason ++ (b ++ end))))
behind_reason bytes blank version digits reason b end e =
    behind_digits bytes blank version digits (reason ++ b) end e ∙ ap (λ (l : List ℕ). blank ++ (version ++ 32 ∷ (digits ++ l))) (append_assoc reason b end)

in_line_end : (digits bytes w b left rest : List ℕ) (s : Stop bytes w) → bytes ≡ print_blank s.h.blank ++ (print_version s.h.minor ++ (32 ∷ (s.h.digits ++ (print_reason s.h.reason ++ b))))
    → print_end s.h.line_end ≡ b ++ left → 0 < length left → w ≡ left ++ rest → 0 < length rest → EndsResponse digits bytes
unfolding parts_of
in_line_end digits bytes w b left rest s e part some w_is long =
    let end = drop 13 shortest_response in
    let y = end_cut s.h.line_end b left part some in (
      end,
      inr (13, omega arith, refl),
      finish_bare bytes w end s s.h.blank s.h.minor s.h.digits s.h.reason y.0 (record { minor = s.is.minor; digits = s.is.digits; reason = s.is.reason; fields = All-nil _ })
          (behind_reason bytes (print_blank s.h.blank) (print_version s.h.minor) s.h.digits (print_reason s.h.reason) b end e
          ∙ ap (λ (l : List ℕ). print_blank s.h.blank ++ (print_version s.h.minor ++ 32 ∷ (s.h.digits ++ (print_reason s.h.reason ++ l)))) (sym (append_assoc b (10 ∷ []) (10 ∷ [])) ∙ ap (λ (l : List ℕ). l ++ 10 ∷ []) y.1))
          (omega (arith, ap length w_is, length-append left rest, some, long)),
    )

in_section : (digits bytes w b : List ℕ) (k : ℕ) (s : Stop bytes w) → bytes ≡ print_blank s.h.blank ++ (print_version s.h.minor ++ (32 ∷ (s.h.digits ++ (print_reason s.h.reason ++ (print_end s.h.line_end ++ b)))))
    → b ++ w ≡ print_section s.h.fields s.h.last → 0 < length w → SaysBefore b k → IsPadded k digits → EndsResponse digits bytes
unfolding parts_of
in_section digits bytes w b k s e part some before padded =
    let x = section_ends s.h.fields s.h.last b w digits k s.len s.is.fields s.few s.framed part some before padded in
    let y = x.2 in
    let h : ResponseHead = record { blank = s.h.blank; minor = s.h.minor; digits = s.h.digits; reason = s.h.reason; line_end = s.h.line_end; fields = y.fields; last = y.last } in (
      x.0,
      inl x.1,
      finish bytes w x.0 h y.len (record { minor = s.is.minor; digits = s.is.digits; reason = s.is.reason; fields = y.are })
          (behind_reason bytes (print_blank s.h.blank) (print_version s.h.minor) s.h.digits (print_reason s.h.reason) (print_end s.h.line_end ++ b) x.0 e
          ∙ ap (λ (l : List ℕ). print_blank s.h.blank ++ (print_version s.h.minor ++ 32 ∷ (s.h.digits ++ (print_reason s.h.reason ++ l)))) (append_assoc (print_end s.h.line_end) b x.0 ∙ ap (λ (l : List ℕ). print_end s.h.line_end ++ l) y.text))
          y.few y.framed s.fits y.short,
    )

-- ---- part after part

-- the length said before, for the bytes of a section behind those of a start line
abbrev pub ResponseSays : List ℕ → ℕ → Type 0
ResponseSays bytes k = (h : ResponseHead) (fs : List Field) (f : Field) (so_far : Option ℕ) → ReadsResponse (bytes ++ 48 ∷ 10 ∷ 10 ∷ []) h [] → h.fields ≡ fs ++ f ∷ [] → length h.fields ≤ 128
    → framing_of fs ≡ Some so_far → k ≡ unwrap_or so_far 0

section_says : (bytes w b : List ℕ) (k : ℕ) (s : Stop bytes w) → bytes ≡ print_blank s.h.blank ++ (print_version s.h.minor ++ (32 ∷ (s.h.digits ++ (print_reason s.h.reason ++ (print_end s.h.line_end ++ b)))))
    → ResponseSays bytes k → SaysBefore b k
unfolding parts_of
section_says bytes w b k s e says fs f so_far are few text framed =
    let h : ResponseHead = record { blank = s.h.blank; minor = s.h.minor; digits = s.h.digits; reason = s.h.reason; line_end = s.h.line_end; fields = fs ++ f ∷ []; last = lf } in
    let printed : bytes ++ 48 ∷ 10 ∷ 10 ∷ [] ≡ parts_of h =
    behind_reason bytes (print_blank s.h.blank) (print_version s.h.minor) s.h.digits (print_reason s.h.reason) (print_end s.h.line_end ++ b) (48 ∷ 10 ∷ 10 ∷ []) e
    ∙ ap (λ (l : List ℕ). print_blank s.h.blank ++ (print_version s.h.minor ++ 32 ∷ (s.h.digits ++ (print_reason s.h.reason ++ l)))) (append_assoc (print_end s.h.line_end) b (48 ∷ 10 ∷ 10 ∷ []) ∙ ap (λ (l : List ℕ). print_end s.h.line_end ++ l) text) in
    says h fs f so_far (record { minor = s.is.minor; digits = s.is.digits; reason = s.is.reason; fields = are }, printed ∙ sym (parts h) ∙ sym (append-nil (print_response h))) refl few framed

stops : (digits bytes w : List ℕ) (k : ℕ) (s : Stop bytes w) → ResponseSays bytes k → IsPadded k digits → 0 < length w → bytes ++ w ≡ parts_of s.h → EndsResponse digits bytes
unfolding parts_of
stops digits bytes w k s says padded some text = on_blank (cut bytes w (print_blank s.h.blank) behind_blank text)
  where
    behind_end : List ℕ
    behind_end = print_section s.h.fields s.h.last

    behind_phrase : List ℕ
    behind_phrase = print_end s.h.line_end ++ behind_end

    behind_status : List ℕ
    behind_status = print_reason s.h.reason ++ behind_phrase

    behind_word : List ℕ
    behind_word = s.h.digits ++ behind_status

    behind_blank : List ℕ
    behind_blank = print_version s.h.minor ++ 32 ∷ behind_word

    on_end : (b : List ℕ) → bytes ≡ print_blank s.h.blank ++ (print_version s.h.minor ++ (32 ∷ (s.h.digits ++ (print_reason s.h.reason ++ b))))
        → StopsInside b w (print_end s.h.line_end) behind_end ⊎ GoesPast b w (print_end s.h.line_end) behind_end → EndsResponse digits bytes
    on_end b e (inl x) = in_line_end digits bytes w b x.left behind_end s e x.first_is x.some x.more_is (section_some s.h.fields s.h.last)
    on_end b e (inr x) =
        let f = e ∙ ap (λ (l : List ℕ). print_blank s.h.blank ++ (print_version s.h.minor ++ (32 ∷ (s.h.digits ++ (print_reason s.h.reason ++ l))))) x.bytes_are in
        in_section digits bytes w x.behind k s f x.rest_is some (section_says bytes w x.behind k s f says) padded

    on_reason : (b : List ℕ) → bytes ≡ print_blank s.h.blank ++ (print_version s.h.minor ++ (32 ∷ (s.h.digits ++ b)))
        → StopsInside b w (print_reason s.h.reason) behind_phrase ⊎ GoesPast b w (print_reason s.h.reason) behind_phrase → EndsResponse digits bytes
    on_reason b e (inl x) =
        in_reason digits bytes w b x.left behind_phrase s e x.first_is x.some x.more_is (omega (arith, length-append (print_end s.h.line_end) behind_end, end_some s.h.line_end, section_some s.h.fields s.h.last))
    on_reason b e (inr x) =
        on_end x.behind (e ∙ ap (λ (l : List ℕ). print_blank s.h.blank ++ (print_version s.h.minor ++ (32 ∷ (s.h.digits ++ l)))) x.bytes_are) (cut x.behind w (print_end s.h.line_end) behind_end x.rest_is)

    on_digits : (b : List ℕ) → bytes ≡ print_blank s.h.blank ++ (print_version s.h.minor ++ (32 ∷ b)) → StopsInside b w s.h.digits behind_status ⊎ GoesPast b w s.h.digits behind_status → EndsResponse digits bytes
    on_digits b e (inl x) = in_digits digits bytes w b x.left behind_status s e x.first_is x.some x.more_is (two_behind s.h)
    on_digits b e (inr x) =
        on_reason x.behind (e ∙ ap (λ (l : List ℕ). print_blank s.h.blank ++ (print_version s.h.minor ++ (32 ∷ l))) x.bytes_are) (cut x.behind w (print_reason s.h.reason) behind_phrase x.rest_is)

    on_word : (b : List ℕ) → bytes ≡ print_blank s.h.blank ++ (print_version s.h.minor ++ b) → b ++ w ≡ 32 ∷ behind_word → EndsResponse digits bytes
    on_word [] e rest = behind_version digits bytes w s e (omega (arith, ap length rest, six_behind s.h s.is))
    on_word (c ∷ b) e rest =
        let first : c ≡ 32 = cc in
        let more : b ++ w ≡ behind_word = cc in
        on_digits b (e ∙ ap (λ (x : ℕ). print_blank s.h.blank ++ (print_version s.h.minor ++ (x ∷ b))) first) (cut b w s.h.digits behind_status more)

    on_version : (b : List ℕ) → bytes ≡ print_blank s.h.blank ++ b → StopsInside b w (print_version s.h.minor) (32 ∷ behind_word) ⊎ GoesPast b w (print_version s.h.minor) (32 ∷ behind_word) → EndsResponse digits bytes
    on_version b e (inl x) = in_version digits bytes w b x.left (32 ∷ behind_word) s e x.first_is x.some x.more_is (six_behind s.h s.is)
    on_version b e (inr x) = on_word x.behind (e ∙ ap (λ (l : List ℕ). print_blank s.h.blank ++ l) x.bytes_are) x.rest_is

    on_blank : StopsInside bytes w (print_blank s.h.blank) behind_blank ⊎ GoesPast bytes w (print_blank s.h.blank) behind_blank → EndsResponse digits bytes
    on_blank (inl x) =
        in_blank digits bytes w x.left behind_blank s x.first_is x.some x.more_is (omega (arith, length-append (print_version s.h.minor) (32 ∷ behind_word), six_behind s.h s.is))
    on_blank (inr x) = on_version x.behind x.bytes_are (cut x.behind w (print_version s.h.minor) (32 ∷ behind_word) x.rest_is)

-- a head that is taken can come behind bytes that are no whole one, where one of few ends makes it
pub response_ends : (digits bytes more : List ℕ) (k : ℕ) → HasNoResponse bytes → TakesResponse (bytes ++ more) → ResponseSays bytes k → IsPadded k digits → EndsResponse digits bytes
response_ends digits bytes more k none_yet (h, rest, len, reads, taken) says padded = on (cut bytes more (print_response h) rest reads.1)
  where
    on : StopsInside bytes more (print_response h) rest ⊎ GoesPast bytes more (print_response h) rest → EndsResponse digits bytes
    on (inl x) =
        let s : Stop bytes x.left = record { h = h; len = len; is = reads.0; few = taken.count; framed = taken.framed; fits = omega (arith, ap length x.first_is, length-append bytes x.left, taken.size_fits) } in
        stops digits bytes x.left k s says padded x.some (sym x.first_is ∙ parts h)
    on (inr x) = absurd (none_yet h x.behind (reads.0, x.bytes_are))
