-- The start lines of heads, with the empty lines before them.
use Rattle.std.proofs.Common.{◌≡◌, ℕ, zero, suc, ◌+◌, ◌<◌, ◌≤◌, ◌==◌, ◌∷◌, Bool, true, false, IsTrue, List, [], ◌++◌, length, All, Option, refl, ap, subst, ◌∙◌}
use Rattle.std.proofs.Common.{arith, append_assoc, Some, None, inl, inr}
use Rattle.std.proofs.lemmas.Bool.{cases_Bool}
use Rattle.std.proofs.lemmas.Bool.Decides.{nat_tests}
use Rattle.std.proofs.lemmas.List.Elements.{All-append, All-cons, All-nil}
use Rattle.std.specs.Char.{is_ascii_digit}
use Rattle.httparse.specs.Grammar.{LineEnd, crlf, lf, is_token_byte, is_uri_byte, is_value_byte, AllPass, Field, IsRequestHead, IsResponseHead, RequestHead}
use Rattle.httparse.specs.Grammar.{ResponseHead, print_blank, print_end, print_reason, print_request, print_response, print_section, print_version, reason_phrase}
use Rattle.txid_proxy.specs.Lines.{Lacks, is_line_end, IsStart}

other_than : (test : ℕ → Bool) (b x : ℕ) → (test b ≡ true → ⊥) → IsTrue (test x) → (x == b) ≡ false
other_than test b x fails t = elim (cases_Bool (x == b)) [
  | inl same ↦ (let e : x ≡ b = grind (arith, nat_tests) in absurd (fails (subst (λ (n : ℕ). test n ≡ true) e t)))
  | inr other ↦ other
]

-- what passes a test that a byte fails lacks it
pub lacks_by : (test : ℕ → Bool) (b : ℕ) (xs : List ℕ) → (test b ≡ true → ⊥) → AllPass test xs → Lacks b xs
lacks_by test b xs fails all = λ k d less. other_than test b _ fails (all k d less)

pub token_no_feed : is_token_byte 10 ≡ true → ⊥
unfolding is_token_byte
token_no_feed e = cc

pub token_no_return : is_token_byte 13 ≡ true → ⊥
unfolding is_token_byte
token_no_return e = cc

pub token_no_colon : is_token_byte 58 ≡ true → ⊥
unfolding is_token_byte
token_no_colon e = cc

pub value_no_feed : is_value_byte 10 ≡ true → ⊥
value_no_feed e = cc

uri_no_feed : is_uri_byte 10 ≡ true → ⊥
uri_no_feed e = cc

digit_no_feed : (x : ℕ) → 48 ≤ x → (x == 10) ≡ false
digit_no_feed x h = grind (arith, nat_tests)

no_end : (m : ℕ) → (m == 10) ≡ false → (m == 13) ≡ false → is_line_end m ≡ false
no_end m a b = rw (a, b) refl

-- the end of a line, but for its line feed
abbrev pub end_front : LineEnd → List ℕ
end_front crlf = 13 ∷ []
end_front lf = []

pub end_parts : (e : LineEnd) → print_end e ≡ end_front e ++ 10 ∷ []
end_parts crlf = refl
end_parts lf = refl

pub end_lacks : (e : LineEnd) → Lacks 10 (end_front e)
end_lacks crlf = All-cons (λ x. (x == 10) ≡ false) 13 [] refl (All-nil _)
end_lacks lf = All-nil _

end_ends : (e : LineEnd) → All (λ x. is_line_end x ≡ true) (print_end e)
end_ends crlf = All-cons (λ x. is_line_end x ≡ true) 13 (10 ∷ []) refl (All-cons (λ x. is_line_end x ≡ true) 10 [] refl (All-nil _))
end_ends lf = All-cons (λ x. is_line_end x ≡ true) 10 [] refl (All-nil _)

blank_ends : (es : List LineEnd) → All (λ x. is_line_end x ≡ true) (print_blank es)
blank_ends [] = All-nil _
blank_ends (e ∷ es) = All-append (λ x. is_line_end x ≡ true) (print_end e) (print_blank es) (end_ends e) (blank_ends es)

-- what a line's end adds to a start
start_are : (b m t v f e : List ℕ) → e ≡ f ++ 10 ∷ [] → b ++ m ++ t ++ v ++ e ≡ b ++ (m ++ t ++ v ++ f) ++ 10 ∷ []
start_are b m t v f e is = ap (λ (xs : List ℕ). b ++ m ++ t ++ v ++ xs) is ∙ simp append_assoc

version_digit : (minor : ℕ) → Lacks 10 ((48 + minor) ∷ [])
version_digit minor = All-cons (λ x. (x == 10) ≡ false) (48 + minor) [] (digit_no_feed (48 + minor) (omega arith)) (All-nil _)

-- a version behind its first byte
abbrev version_more : ℕ → List ℕ
version_more minor = 84 ∷ 84 ∷ 80 ∷ 47 ∷ 49 ∷ 46 ∷ (48 + minor) ∷ []

version_lacks : (minor : ℕ) → Lacks 10 (version_more minor)
version_lacks minor =
    let P : ℕ → Type 0 = λ x. (x == 10) ≡ false in
    All-cons P 84 (84 ∷ 80 ∷ 47 ∷ 49 ∷ 46 ∷ (48 + minor) ∷ []) refl
    (All-cons P 84 (80 ∷ 47 ∷ 49 ∷ 46 ∷ (48 + minor) ∷ []) refl
    (All-cons P 80 (47 ∷ 49 ∷ 46 ∷ (48 + minor) ∷ []) refl
    (All-cons P 47 (49 ∷ 46 ∷ (48 + minor) ∷ []) refl
    (All-cons P 49 (46 ∷ (48 + minor) ∷ []) refl
    (All-cons P 46 ((48 + minor) ∷ []) refl (version_digit minor))))))

-- four parts one behind another
parts_lack : (m t v f : List ℕ) → Lacks 10 m → Lacks 10 t → Lacks 10 v → Lacks 10 f → Lacks 10 (m ++ t ++ v ++ f)
parts_lack m t v f a b c d =
    let P : ℕ → Type 0 = λ x. (x == 10) ≡ false in
    All-append P (m ++ t ++ v) f (All-append P (m ++ t) v (All-append P m t a b) c) d

blank_lacks : (xs : List ℕ) → Lacks 10 xs → Lacks 10 (32 ∷ xs)
blank_lacks xs lacks = All-cons (λ x. (x == 10) ≡ false) 32 xs refl lacks

-- ---- a request

-- its start, and the section behind it
pub record CutRequest (h : RequestHead) : Type 0 where
  pub start : List ℕ
  pub is : IsStart start
  pub cut : (fields : List Field) → print_request (record h { fields = fields }) ≡ start ++ print_section fields h.last

abbrev request_start : RequestHead → List ℕ → List ℕ
request_start h method = print_blank h.blank ++ method ++ 32 ∷ h.target ++ 32 ∷ print_version h.minor ++ print_end h.line_end

method_start : (h : RequestHead) → IsRequestHead h → (m : ℕ) (ms : List ℕ) → AllPass is_token_byte (m ∷ ms) → IsStart (request_start h (m ∷ ms))
method_start h is m ms all =
    let first : IsTrue (is_token_byte m) = all zero zero (omega arith) in
    let lacks : Lacks 10 ms = λ k d less. lacks_by is_token_byte 10 (m ∷ ms) token_no_feed all (suc k) d (omega arith) in record {
      blank = print_blank h.blank;
      first = m;
      more = ms ++ 32 ∷ h.target ++ 32 ∷ print_version h.minor ++ end_front h.line_end;
      ends = blank_ends h.blank;
      begins = no_end m (other_than is_token_byte 10 m token_no_feed first) (other_than is_token_byte 13 m token_no_return first);
      line = parts_lack ms (32 ∷ h.target) (32 ∷ print_version h.minor) (end_front h.line_end) lacks
          (blank_lacks h.target (lacks_by is_uri_byte 10 h.target uri_no_feed is.target.1))
          (blank_lacks (print_version h.minor) (All-cons (λ x. (x == 10) ≡ false) 72 (version_more h.minor) refl (version_lacks h.minor))) (end_lacks h.line_end);
      are = start_are (print_blank h.blank) (m ∷ ms) (32 ∷ h.target) (32 ∷ print_version h.minor) (end_front h.line_end) (print_end h.line_end) (end_parts h.line_end);
    }

start_by : (h : RequestHead) → IsRequestHead h → (method : List ℕ) → 0 < length method → AllPass is_token_byte method → IsStart (request_start h method)
start_by h is [] some all = absurd (omega (arith, some))
start_by h is (m ∷ ms) some all = method_start h is m ms all

pub cut_request : (h : RequestHead) → IsRequestHead h → CutRequest h
unfolding print_request
cut_request h is = record {
  start = request_start h h.method;
  is = start_by h is h.method is.method.0 is.method.1;
  cut = λ fields. refl;
}

-- ---- a response

pub record CutResponse (h : ResponseHead) : Type 0 where
  pub start : List ℕ
  pub is : IsStart start
  pub cut : (fields : List Field) → print_response (record h { fields = fields }) ≡ start ++ print_section fields h.last

digits_lack : (xs : List ℕ) → AllPass is_ascii_digit xs → Lacks 10 xs
digits_lack xs all = lacks_by is_ascii_digit 10 xs (λ e. cc) all

reason_lacks : (reason : Option (List ℕ)) → AllPass is_value_byte (reason_phrase reason) → Lacks 10 (print_reason reason)
reason_lacks None all = All-nil _
reason_lacks (Some phrase) all = blank_lacks phrase (lacks_by is_value_byte 10 phrase value_no_feed all)

pub cut_response : (h : ResponseHead) → IsResponseHead h → CutResponse h
unfolding print_response
cut_response h is = record {
  start = print_blank h.blank ++ print_version h.minor ++ 32 ∷ h.digits ++ print_reason h.reason ++ print_end h.line_end;
  is = record {
    blank = print_blank h.blank;
    first = 72;
    more = version_more h.minor ++ 32 ∷ h.digits ++ print_reason h.reason ++ end_front h.line_end;
    ends = blank_ends h.blank;
    begins = refl;
    line = parts_lack (version_more h.minor) (32 ∷ h.digits) (print_reason h.reason) (end_front h.line_end) (version_lacks h.minor)
        (blank_lacks h.digits (digits_lack h.digits is.digits.1)) (reason_lacks h.reason is.reason) (end_lacks h.line_end);
    are = start_are (print_blank h.blank) (print_version h.minor) (32 ∷ h.digits) (print_reason h.reason) (end_front h.line_end) (print_end h.line_end)
        (end_parts h.line_end);
  };
  cut = λ fields. refl;
}
