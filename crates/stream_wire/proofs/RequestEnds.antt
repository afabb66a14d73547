-- A request's head that stops anywhere is ended by one of few ends, where any bytes make it one that is taken.
use Rattle.std.proofs.Common.{◌≡◌, ℕ, ◌∷◌, ◌+◌, ◌<◌, ◌≤◌, ◌⊎◌, inl, inr, List, [], ◌++◌, length, drop, IsTrue, IsUtf8, codes, Option, Some, None, unwrap_or, refl, sym, ap, ◌∙◌, subst, arith, append_assoc, append-nil, length-append, drop-drop}
use Rattle.std.proofs.lemmas.List.Elements.{All-nil, All-cons, All-append}
use Rattle.std.proofs.lemmas.Str.{IsUtf8-append, IsUtf8-from_ascii}
use Rattle.std.proofs.lemmas.Str.Ascii.{IsAscii-from_all}
use Rattle.httparse.specs.Grammar.{LineEnd, lf, print_end, print_blank, print_version, Field, print_section, AllPass, IsToken, is_token_byte, is_uri_byte, RequestHead, IsRequestHead, print_request, ReadsRequest, HasNoRequest}
use Rattle.httparse.proofs.GrammarLemmas.{print_request-append}
use Rattle.httparse.proofs.PieceLemmas.{front-append}
use Rattle.stream_wire.specs.Head.{framing_of, TakesRequest}
use Rattle.stream_wire.proofs.Cuts.{cut, StopsInside, GoesPast}
use Rattle.stream_wire.proofs.Digits.{AllPass-front, passes}
use Rattle.stream_wire.proofs.SectionEnds.{IsFieldEnd, SaysBefore, section_ends}
use Rattle.stream_wire.proofs.StartEnds.{blank_cut, literal_end, literal_short, end_cut, end_some, section_some}
use Rattle.stream_wire.proofs.TextEnds.{CharEnd, none, one, two, three, two_high, three_high, EndsText, ends_text}
use Rattle.stream_wire.specs.declared.head_ends.HeadKind.TheVariants as kind
use Rattle.stream_wire.specs.Ends.{IsPadded, shortest_head}

abbrev word : List ℕ
word = codes "HTTP/1."

abbrev pub shortest_request : List ℕ
shortest_request = shortest_head kind.Request

-- the ends that are tried
abbrev pub IsRequestEnd : List ℕ → List ℕ → Type 0
IsRequestEnd digits end = IsFieldEnd digits end ⊎ ((at : ℕ) × (at ≤ 14) × (end ≡ drop at shortest_request)) ⊎ ((u : List ℕ) × CharEnd u × (end ≡ u ++ drop 4 shortest_request))

abbrev pub EndsRequest : List ℕ → List ℕ → Type 0
EndsRequest digits bytes = (end : List ℕ) × IsRequestEnd digits end × TakesRequest (bytes ++ end)

-- the parts of a request, with what follows
parts_of : RequestHead → List ℕ
parts_of h = print_blank h.blank ++ (h.method ++ 32 ∷ (h.target ++ 32 ∷ (print_version h.minor ++ (print_end h.line_end ++ print_section h.fields h.last))))

parts : (h : RequestHead) → print_request h ≡ parts_of h
unfolding parts_of
parts h = sym (append-nil (print_request h)) ∙ print_request-append h [] ∙ rw (append-nil (print_section h.fields h.last)) refl

-- bytes that end as a head of no more bytes
finish : (bytes w end : List ℕ) (h : RequestHead) (len : Option ℕ) → IsRequestHead h → bytes ++ end ≡ parts_of h → length h.fields ≤ 128 → framing_of h.fields ≡ Some len
    → length bytes + length w ≤ 8192 → length end ≤ length w → TakesRequest (bytes ++ end)
finish bytes w end h len is text few framed fits short =
    let printed : bytes ++ end ≡ print_request h = text ∙ sym (parts h) in (
      h,
      [],
      len,
      (is, printed ∙ sym (append-nil (print_request h))),
      record { size_fits = omega (arith, ap length printed, length-append bytes end, fits, short); count = few; framed = framed },
    )

-- where the bytes of a head stop: `bytes` is what came of it and `w` what did not
record Stop (bytes w : List ℕ) : Type 0 where
  h : RequestHead
  len : Option ℕ
  is : IsRequestHead h
  few : length h.fields ≤ 128
  framed : framing_of h.fields ≡ Some len
  fits : length bytes + length w ≤ 8192

-- a head with nothing behind its start line
abbrev bare : List LineEnd → List ℕ → List ℕ → ℕ → LineEnd → RequestHead
bare blank method target minor end = record { blank = blank; method = method; target = target; minor = minor; line_end = end; fields = []; last = lf }

finish_bare : (bytes w end : List ℕ) (s : Stop bytes w) (blank : List LineEnd) (method target : List ℕ) (minor : ℕ) (e : LineEnd) → IsRequestHead (bare blank method target minor e)
    → bytes ++ end ≡ parts_of (bare blank method target minor e) → length end ≤ length w → TakesRequest (bytes ++ end)
finish_bare bytes w end s blank method target minor e is text short = finish bytes w end (bare blank method target minor e) None is text (omega arith) refl s.fits short

letter : IsToken (65 ∷ [])
unfolding is_token_byte
letter = (omega arith, All-cons (λ b. IsTrue (is_token_byte b)) 65 [] refl (All-nil _))

more_token : (m : List ℕ) → AllPass is_token_byte m → IsToken (m ++ 65 ∷ [])
unfolding is_token_byte
more_token m all = (omega (arith, length-append m (65 ∷ [])), All-append (λ b. IsTrue (is_token_byte b)) m (65 ∷ []) all (All-cons (λ b. IsTrue (is_token_byte b)) 65 [] refl (All-nil _)))

slash_text : IsUtf8 (47 ∷ [])
slash_text = IsUtf8-from_ascii (47 ∷ []) (IsAscii-from_all (47 ∷ []) (All-cons (λ b. b < 128) 47 [] (omega arith) (All-nil _)))

slash_bytes : AllPass is_uri_byte (47 ∷ [])
slash_bytes = All-cons (λ b. IsTrue (is_uri_byte b)) 47 [] refl (All-nil _)

-- ---- how much of a head there is behind each part

behind_version : (h : RequestHead) → length (print_version h.minor ++ (print_end h.line_end ++ print_section h.fields h.last)) ≡ 8 + (length (print_end h.line_end) + length (print_section h.fields h.last))
behind_version h = length-append (print_version h.minor) (print_end h.line_end ++ print_section h.fields h.last) ∙ ap (λ (n : ℕ). 8 + n) (length-append (print_end h.line_end) (print_section h.fields h.last))

ten_behind : (h : RequestHead) → 10 ≤ length (print_version h.minor ++ (print_end h.line_end ++ print_section h.fields h.last))
ten_behind h = omega (arith, behind_version h, end_some h.line_end, section_some h.fields h.last)

-- ---- each part

in_blank : (digits bytes w left rest : List ℕ) (s : Stop bytes w) → print_blank s.h.blank ≡ bytes ++ left → 0 < length left → w ≡ left ++ rest → 14 ≤ length rest → EndsRequest digits bytes
unfolding parts_of
in_blank digits bytes w left rest s e some w_is long =
    let x = blank_cut s.h.blank bytes left e in
    let is : IsRequestHead (bare x.0 (65 ∷ []) (47 ∷ []) 0 lf) = record { method = letter; target = (omega arith, slash_bytes); target_text = slash_text; minor = omega arith; fields = All-nil _ } in (
      shortest_request,
      inr (inl (0, omega arith, refl)),
      finish_bare bytes w shortest_request s x.0 (65 ∷ []) (47 ∷ []) 0 lf is
          (sym (append_assoc bytes (10 ∷ []) (drop 1 shortest_request)) ∙ ap (λ (l : List ℕ). l ++ drop 1 shortest_request) x.1)
          (omega (arith, ap length w_is, length-append left rest, some, long)),
    )

in_method : (digits bytes w b left rest : List ℕ) (s : Stop bytes w) → bytes ≡ print_blank s.h.blank ++ b → s.h.method ≡ b ++ left → 0 < length left → w ≡ left ++ rest → 13 ≤ length rest → EndsRequest digits bytes
unfolding parts_of
in_method digits bytes w b left rest s e part some w_is long =
    let end = drop 1 shortest_request in
    let token = more_token b (AllPass-front is_token_byte b left (subst (AllPass is_token_byte) part s.is.method.1)) in
    let is : IsRequestHead (bare s.h.blank (b ++ 65 ∷ []) (47 ∷ []) 0 lf) = record { method = token; target = (omega arith, slash_bytes); target_text = slash_text; minor = omega arith; fields = All-nil _ } in (
      end,
      inr (inl (1, omega arith, refl)),
      finish_bare bytes w end s s.h.blank (b ++ 65 ∷ []) (47 ∷ []) 0 lf is
          (front-append bytes (print_blank s.h.blank) b end e ∙ ap (λ (l : List ℕ). print_blank s.h.blank ++ l) (sym (append_assoc b (65 ∷ []) (drop 2 shortest_request))))
          (omega (arith, ap length w_is, length-append left rest, some, long)),
    )

-- two parts in front of what has come
through : (bytes first second b end : List ℕ) → bytes ≡ first ++ (second ++ b) → bytes ++ end ≡ first ++ (second ++ (b ++ end))
through bytes first second b end e = front-append bytes first (second ++ b) end e ∙ ap (λ (l : List ℕ). first ++ l) (append_assoc second b end)

behind_method : (digits bytes w : List ℕ) (s : Stop bytes w) → bytes ≡ print_blank s.h.blank ++ (s.h.method ++ []) → 13 ≤ length w → EndsRequest digits bytes
unfolding parts_of
behind_method digits bytes w s e long =
    let end = drop 2 shortest_request in
    let is : IsRequestHead (bare s.h.blank s.h.method (47 ∷ []) 0 lf) = record { method = s.is.method; target = (omega arith, slash_bytes); target_text = slash_text; minor = omega arith; fields = All-nil _ } in (
      end,
      inr (inl (2, omega arith, refl)),
      finish_bare bytes w end s s.h.blank s.h.method (47 ∷ []) 0 lf is (through bytes (print_blank s.h.blank) s.h.method [] end e) (omega (arith, long)),
    )

uri_end : (u : List ℕ) → CharEnd u → AllPass is_uri_byte u
uri_end _ none = All-nil _
uri_end _ one = passes is_uri_byte (128 ∷ []) refl
uri_end _ two = passes is_uri_byte (128 ∷ 128 ∷ []) refl
uri_end _ three = passes is_uri_byte (128 ∷ 128 ∷ 128 ∷ []) refl
uri_end _ two_high = passes is_uri_byte (160 ∷ 128 ∷ []) refl
uri_end _ three_high = passes is_uri_byte (144 ∷ 128 ∷ 128 ∷ []) refl

-- the bytes behind a method and its space
behind_space : (bytes blank method b end : List ℕ) → bytes ≡ blank ++ (method ++ (32 ∷ b)) → bytes ++ end ≡ blank ++ (method ++ 32 ∷ (b ++ end))
behind_space bytes blank method b end e = through bytes blank method (32 ∷ b) end e

slash_target : (digits bytes w b left rest : List ℕ) (s : Stop bytes w) → bytes ≡ print_blank s.h.blank ++ (s.h.method ++ (32 ∷ b)) → s.h.target ≡ b ++ left → IsUtf8 b
    → 0 < length left → w ≡ left ++ rest → 11 ≤ length rest → EndsRequest digits bytes
unfolding parts_of
slash_target digits bytes w b left rest s e part text some w_is long =
    let end = drop 3 shortest_request in
    let front = AllPass-front is_uri_byte b left (subst (AllPass is_uri_byte) part s.is.target.1) in
    let is : IsRequestHead (bare s.h.blank s.h.method (b ++ 47 ∷ []) 0 lf) = record {
      method = s.is.method;
      target = (omega (arith, length-append b (47 ∷ [])), All-append (λ x. IsTrue (is_uri_byte x)) b (47 ∷ []) front slash_bytes);
      target_text = IsUtf8-append b (47 ∷ []) text slash_text;
      minor = omega arith;
      fields = All-nil _;
    } in (
      end,
      inr (inl (3, omega arith, refl)),
      finish_bare bytes w end s s.h.blank s.h.method (b ++ 47 ∷ []) 0 lf is
          (behind_space bytes (print_blank s.h.blank) s.h.method b end e
          ∙ ap (λ (l : List ℕ). print_blank s.h.blank ++ (s.h.method ++ 32 ∷ l)) (sym (append_assoc b (47 ∷ []) (drop 4 shortest_request))))
          (omega (arith, ap length w_is, length-append left rest, some, long)),
    )

char_target : (digits bytes w b u left rest : List ℕ) (s : Stop bytes w) → bytes ≡ print_blank s.h.blank ++ (s.h.method ++ (32 ∷ b)) → s.h.target ≡ b ++ left → CharEnd u → 0 < length u → IsUtf8 (b ++ u)
    → length u ≤ length left → w ≡ left ++ rest → 11 ≤ length rest → EndsRequest digits bytes
unfolding parts_of
char_target digits bytes w b u left rest s e part char some text short w_is long =
    let end = u ++ drop 4 shortest_request in
    let front = AllPass-front is_uri_byte b left (subst (AllPass is_uri_byte) part s.is.target.1) in
    let is : IsRequestHead (bare s.h.blank s.h.method (b ++ u) 0 lf) = record {
      method = s.is.method;
      target = (omega (arith, length-append b u, some), All-append (λ x. IsTrue (is_uri_byte x)) b u front (uri_end u char));
      target_text = text;
      minor = omega arith;
      fields = All-nil _;
    } in (
      end,
      inr (inr (u, char, refl)),
      finish_bare bytes w end s s.h.blank s.h.method (b ++ u) 0 lf is
          (behind_space bytes (print_blank s.h.blank) s.h.method b end e
          ∙ ap (λ (l : List ℕ). print_blank s.h.blank ++ (s.h.method ++ 32 ∷ l)) (sym (append_assoc b u (drop 4 shortest_request))))
          (omega (arith, ap length w_is, length-append left rest, length-append u (drop 4 shortest_request), short, long)),
    )

in_target : (digits bytes w b left rest : List ℕ) (s : Stop bytes w) → bytes ≡ print_blank s.h.blank ++ (s.h.method ++ (32 ∷ b)) → s.h.target ≡ b ++ left → 0 < length left
    → w ≡ left ++ rest → 11 ≤ length rest → EndsText b left → EndsRequest digits bytes
in_target digits bytes w b left rest s e part some w_is long ([], char, text, short) = slash_target digits bytes w b left rest s e part (subst IsUtf8 (append-nil b) text) some w_is long
in_target digits bytes w b left rest s e part some w_is long (c ∷ u, char, text, short) = char_target digits bytes w b (c ∷ u) left rest s e part char (omega arith) text short w_is long

behind_target : (digits bytes w : List ℕ) (s : Stop bytes w) → bytes ≡ print_blank s.h.blank ++ (s.h.method ++ (32 ∷ (s.h.target ++ []))) → 11 ≤ length w → EndsRequest digits bytes
unfolding parts_of
behind_target digits bytes w s e long =
    let end = drop 4 shortest_request in
    let is : IsRequestHead (bare s.h.blank s.h.method s.h.target 0 lf) = record { method = s.is.method; target = s.is.target; target_text = s.is.target_text; minor = omega arith; fields = All-nil _ } in (
      end,
      inr (inl (4, omega arith, refl)),
      finish_bare bytes w end s s.h.blank s.h.method s.h.target 0 lf is
          (behind_space bytes (print_blank s.h.blank) s.h.method (s.h.target ++ []) end e ∙ ap (λ (l : List ℕ). print_blank s.h.blank ++ (s.h.method ++ 32 ∷ l)) (append_assoc s.h.target [] end))
          (omega (arith, long)),
    )

-- the bytes behind a target and its space
behind_two : (bytes blank method target b end : List ℕ) → bytes ≡ blank ++ (method ++ (32 ∷ (target ++ (32 ∷ b)))) → bytes ++ end ≡ blank ++ (method ++ 32 ∷ (target ++ 32 ∷ (b ++ end)))
behind_two bytes blank method target b end e = behind_space bytes blank method (target ++ (32 ∷ b)) end e ∙ ap (λ (l : List ℕ). blank ++ (method ++ 32 ∷ l)) (append_assoc target (32 ∷ b) end)

in_version : (digits bytes w b left rest : List ℕ) (s : Stop bytes w) → bytes ≡ print_blank s.h.blank ++ (s.h.method ++ (32 ∷ (s.h.target ++ (32 ∷ b)))) → print_version s.h.minor ≡ b ++ left
    → 0 < length left → w ≡ left ++ rest → 2 ≤ length rest → EndsRequest digits bytes
unfolding parts_of
in_version digits bytes w b left rest s e part some w_is long =
    let end = drop (5 + length b) shortest_request in
    let least = literal_short word b left (48 + s.h.minor) part some in
    let same : end ≡ drop (length b) (word ++ 48 ∷ 10 ∷ 10 ∷ []) = sym (drop-drop (length b) 5 shortest_request) in
    let front : b ++ end ≡ word ++ 48 ∷ 10 ∷ 10 ∷ [] = ap (λ (l : List ℕ). b ++ l) same ∙ literal_end word b left (48 ∷ 10 ∷ 10 ∷ []) (48 + s.h.minor) part some in
    let is : IsRequestHead (bare s.h.blank s.h.method s.h.target 0 lf) = record { method = s.is.method; target = s.is.target; target_text = s.is.target_text; minor = omega arith; fields = All-nil _ } in (
      end,
      inr (inl (5 + length b, omega (arith, least), refl)),
      finish_bare bytes w end s s.h.blank s.h.method s.h.target 0 lf is
          (behind_two bytes (print_blank s.h.blank) s.h.method s.h.target b end e ∙ ap (λ (l : List ℕ). print_blank s.h.blank ++ (s.h.method ++ 32 ∷ (s.h.target ++ 32 ∷ l))) front)
          (omega (arith, ap length front, length-append b end, ap length part, length-append b left, ap length w_is, length-append left rest, long)),
    )

-- the bytes behind a version
behind_three : (bytes blank method target version b end : List ℕ) → bytes ≡ blank ++ (method ++ (32 ∷ (target ++ (32 ∷ (version ++ b)))))
    → bytes ++ end ≡ blank ++ (method ++ 32 ∷ (target ++ 32 ∷ (version ++ (b ++ end))))
behind_three bytes blank method target version b end e =
    behind_two bytes blank method target (version ++ b) end e ∙ ap (λ (l : List ℕ). blank ++ (method ++ 32 ∷ (target ++ 32 ∷ l))) (append_assoc version b end)

in_line_end : (digits bytes w b left rest : List ℕ) (s : Stop bytes w) → bytes ≡ print_blank s.h.blank ++ (s.h.method ++ (32 ∷ (s.h.target ++ (32 ∷ (print_version s.h.minor ++ b)))))
    → print_end s.h.line_end ≡ b ++ left → 0 < length left → w ≡ left ++ rest → 0 < length rest → EndsRequest digits bytes
unfolding parts_of
in_line_end digits bytes w b left rest s e part some w_is long =
    let end = drop 13 shortest_request in
    let y = end_cut s.h.line_end b left part some in
    let h = bare s.h.blank s.h.method s.h.target s.h.minor y.0 in
    let is : IsRequestHead h = record { method = s.is.method; target = s.is.target; target_text = s.is.target_text; minor = s.is.minor; fields = All-nil _ } in (
      end,
      inr (inl (13, omega arith, refl)),
      finish_bare bytes w end s s.h.blank s.h.method s.h.target s.h.minor y.0 is
          (behind_three bytes (print_blank s.h.blank) s.h.method s.h.target (print_version s.h.minor) b end e
          ∙ ap (λ (l : List ℕ). print_blank s.h.blank ++ (s.h.method ++ 32 ∷ (s.h.target ++ 32 ∷ (print_version s.h.minor ++ l)))) (sym (append_assoc b (10 ∷ []) (10 ∷ [])) ∙ ap (λ (l : List ℕ). l ++ 10 ∷ []) y.1))
          (omega (arith, ap length w_is, length-append left rest, some, long)),
    )

in_section : (digits bytes w b : List ℕ) (k : ℕ) (s : Stop bytes w) → bytes ≡ print_blank s.h.blank ++ (s.h.method ++ (32 ∷ (s.h.target ++ (32 ∷ (print_version s.h.minor ++ (print_end s.h.line_end ++ b))))))
    → b ++ w ≡ print_section s.h.fields s.h.last → 0 < length w → SaysBefore b k → IsPadded k digits → EndsRequest digits bytes
unfolding parts_of
in_section digits bytes w b k s e part some before padded =
    let x = section_ends s.h.fields s.h.last b w digits k s.len s.is.fields s.few s.framed part some before padded in
    let y = x.2 in
    let h : RequestHead = record { blank = s.h.blank; method = s.h.method; target = s.h.target; minor = s.h.minor; line_end = s.h.line_end; fields = y.fields; last = y.last } in
    let is : IsRequestHead h = record { method = s.is.method; target = s.is.target; target_text = s.is.target_text; minor = s.is.minor; fields = y.are } in (
      x.0,
      inl x.1,
      finish bytes w x.0 h y.len is
          (behind_three bytes (print_blank s.h.blank) s.h.method s.h.target (print_version s.h.minor) (print_end s.h.line_end ++ b) x.0 e
          ∙ ap (λ (l : List ℕ). print_blank s.h.blank ++ (s.h.method ++ 32 ∷ (s.h.target ++ 32 ∷ (print_version s.h.minor ++ l)))) (append_assoc (print_end s.h.line_end) b x.0 ∙ ap (λ (l : List ℕ). print_end s.h.line_end ++ l) y.text))
          y.few y.framed s.fits y.short,
    )

-- ---- part after part

-- the length said before, for the bytes of a section behind those of a start line
abbrev pub RequestSays : List ℕ → ℕ → Type 0
RequestSays bytes k = (h : RequestHead) (fs : List Field) (f : Field) (so_far : Option ℕ) → ReadsRequest (bytes ++ 48 ∷ 10 ∷ 10 ∷ []) h [] → h.fields ≡ fs ++ f ∷ [] → length h.fields ≤ 128
    → framing_of fs ≡ Some so_far → k ≡ unwrap_or so_far 0

section_says : (bytes w b : List ℕ) (k : ℕ) (s : Stop bytes w) → bytes ≡ print_blank s.h.blank ++ (s.h.method ++ (32 ∷ (s.h.target ++ (32 ∷ (print_version s.h.minor ++ (print_end s.h.line_end ++ b))))))
    → RequestSays bytes k → SaysBefore b k
unfolding parts_of
section_says bytes w b k s e says fs f so_far are few text framed =
    let h : RequestHead = record { blank = s.h.blank; method = s.h.method; target = s.h.target; minor = s.h.minor; line_end = s.h.line_end; fields = fs ++ f ∷ []; last = lf } in
    let is : IsRequestHead h = record { method = s.is.method; target = s.is.target; target_text = s.is.target_text; minor = s.is.minor; fields = are } in
    let printed : bytes ++ 48 ∷ 10 ∷ 10 ∷ [] ≡ parts_of h =
    behind_three bytes (print_blank s.h.blank) s.h.method s.h.target (print_version s.h.minor) (print_end s.h.line_end ++ b) (48 ∷ 10 ∷ 10 ∷ []) e
    ∙ ap (λ (l : List ℕ). print_blank s.h.blank ++ (s.h.method ++ 32 ∷ (s.h.target ++ 32 ∷ (print_version s.h.minor ++ l)))) (append_assoc (print_end s.h.line_end) b (48 ∷ 10 ∷ 10 ∷ []) ∙ ap (λ (l : List ℕ). print_end s.h.line_end ++ l) text) in
    says h fs f so_far (is, printed ∙ sym (parts h) ∙ sym (append-nil (print_request h))) refl few framed

stops : (digits bytes w : List ℕ) (k : ℕ) (s : Stop bytes w) → RequestSays bytes k → IsPadded k digits → 0 < length w → bytes ++ w ≡ parts_of s.h → EndsRequest digits bytes
unfolding parts_of
stops digits bytes w k s says padded some text = on_blank (cut bytes w (print_blank s.h.blank) behind_blank text)
  where
    behind_end : List ℕ
    behind_end = print_section s.h.fields s.h.last

    behind_number : List ℕ
    behind_number = print_end s.h.line_end ++ behind_end

    behind_uri : List ℕ
    behind_uri = print_version s.h.minor ++ behind_number

    behind_word : List ℕ
    behind_word = s.h.target ++ 32 ∷ behind_uri

    behind_blank : List ℕ
    behind_blank = s.h.method ++ 32 ∷ behind_word

    long : 10 ≤ length behind_uri
    long = ten_behind s.h

    on_end : (b : List ℕ) → bytes ≡ print_blank s.h.blank ++ (s.h.method ++ (32 ∷ (s.h.target ++ (32 ∷ (print_version s.h.minor ++ b)))))
        → StopsInside b w (print_end s.h.line_end) behind_end ⊎ GoesPast b w (print_end s.h.line_end) behind_end → EndsRequest digits bytes
    on_end b e (inl x) = in_line_end digits bytes w b x.left behind_end s e x.first_is x.some x.more_is (section_some s.h.fields s.h.last)
    on_end b e (inr x) =
        let f = e ∙ ap (λ (l : List ℕ). print_blank s.h.blank ++ (s.h.method ++ (32 ∷ (s.h.target ++ (32 ∷ (print_version s.h.minor ++ l)))))) x.bytes_are in
        in_section digits bytes w x.behind k s f x.rest_is some (section_says bytes w x.behind k s f says) padded

    on_version : (b : List ℕ) → bytes ≡ print_blank s.h.blank ++ (s.h.method ++ (32 ∷ (s.h.target ++ (32 ∷ b))))
        → StopsInside b w (print_version s.h.minor) behind_number ⊎ GoesPast b w (print_version s.h.minor) behind_number → EndsRequest digits bytes
    on_version b e (inl x) = in_version digits bytes w b x.left behind_number s e x.first_is x.some x.more_is (omega (arith, length-append (print_end s.h.line_end) behind_end, end_some s.h.line_end, section_some s.h.fields s.h.last))
    on_version b e (inr x) =
        on_end x.behind (e ∙ ap (λ (l : List ℕ). print_blank s.h.blank ++ (s.h.method ++ (32 ∷ (s.h.target ++ (32 ∷ l))))) x.bytes_are) (cut x.behind w (print_end s.h.line_end) behind_end x.rest_is)

    on_uri : (b : List ℕ) → bytes ≡ print_blank s.h.blank ++ (s.h.method ++ (32 ∷ (s.h.target ++ b))) → b ++ w ≡ 32 ∷ behind_uri → EndsRequest digits bytes
    on_uri [] e rest = behind_target digits bytes w s e (omega (arith, ap length rest, long))
    on_uri (c ∷ b) e rest =
        let first : c ≡ 32 = cc in
        let more : b ++ w ≡ behind_uri = cc in
        on_version b (e ∙ ap (λ (x : ℕ). print_blank s.h.blank ++ (s.h.method ++ (32 ∷ (s.h.target ++ (x ∷ b))))) first) (cut b w (print_version s.h.minor) behind_number more)

    on_target : (b : List ℕ) → bytes ≡ print_blank s.h.blank ++ (s.h.method ++ (32 ∷ b)) → StopsInside b w s.h.target (32 ∷ behind_uri) ⊎ GoesPast b w s.h.target (32 ∷ behind_uri) → EndsRequest digits bytes
    on_target b e (inl x) =
        in_target digits bytes w b x.left (32 ∷ behind_uri) s e x.first_is x.some x.more_is (omega (arith, long)) (ends_text b x.left (subst IsUtf8 x.first_is s.is.target_text))
    on_target b e (inr x) = on_uri x.behind (e ∙ ap (λ (l : List ℕ). print_blank s.h.blank ++ (s.h.method ++ (32 ∷ l))) x.bytes_are) x.rest_is

    on_word : (b : List ℕ) → bytes ≡ print_blank s.h.blank ++ (s.h.method ++ b) → b ++ w ≡ 32 ∷ behind_word → EndsRequest digits bytes
    on_word [] e rest = behind_method digits bytes w s e (omega (arith, ap length rest, length-append s.h.target (32 ∷ behind_uri), long, s.is.target.0))
    on_word (c ∷ b) e rest =
        let first : c ≡ 32 = cc in
        let more : b ++ w ≡ behind_word = cc in
        on_target b (e ∙ ap (λ (x : ℕ). print_blank s.h.blank ++ (s.h.method ++ (x ∷ b))) first) (cut b w s.h.target (32 ∷ behind_uri) more)

    on_method : (b : List ℕ) → bytes ≡ print_blank s.h.blank ++ b → StopsInside b w s.h.method (32 ∷ behind_word) ⊎ GoesPast b w s.h.method (32 ∷ behind_word) → EndsRequest digits bytes
    on_method b e (inl x) = in_method digits bytes w b x.left (32 ∷ behind_word) s e x.first_is x.some x.more_is (omega (arith, length-append s.h.target (32 ∷ behind_uri), long, s.is.target.0))
    on_method b e (inr x) = on_word x.behind (e ∙ ap (λ (l : List ℕ). print_blank s.h.blank ++ l) x.bytes_are) x.rest_is

    on_blank : StopsInside bytes w (print_blank s.h.blank) behind_blank ⊎ GoesPast bytes w (print_blank s.h.blank) behind_blank → EndsRequest digits bytes
    on_blank (inl x) =
        in_blank digits bytes w x.left behind_blank s x.first_is x.some x.more_is
        (omega (arith, length-append s.h.method (32 ∷ behind_word), length-append s.h.target (32 ∷ behind_uri), long, s.is.target.0, s.is.method.0))
    on_blank (inr x) = on_method x.behind x.bytes_are (cut x.behind w s.h.method (32 ∷ behind_word) x.rest_is)

-- a head that is taken can come behind bytes that are no whole one, where one of few ends makes it
pub request_ends : (digits bytes more : List ℕ) (k : ℕ) → HasNoRequest bytes → TakesRequest (bytes ++ more) → RequestSays bytes k → IsPadded k digits → EndsRequest digits bytes
request_ends digits bytes more k none_yet (h, rest, len, reads, taken) says padded = on (cut bytes more (print_request h) rest reads.1)
  where
    on : StopsInside bytes more (print_request h) rest ⊎ GoesPast bytes more (print_request h) rest → EndsRequest digits bytes
    on (inl x) =
        let s : Stop bytes x.left = record { h = h; len = len; is = reads.0; few = taken.count; framed = taken.framed; fits = omega (arith, ap length x.first_is, length-append bytes x.left, taken.size_fits) } in
        stops digits bytes x.left k s says padded x.some (sym x.first_is ∙ parts h)
    on (inr x) = absurd (none_yet h x.behind (reads.0, x.bytes_are))
