-- A frame's bytes are its fields, its name and its body, one after another.
use Rattle.std.proofs.Common.{◌≡◌, ◌≢◌, ℕ, ◌∷◌, ◌+◌, ◌<◌, ◌≤◌, List, [], ◌++◌, length, take, drop, get_or, refl, sym, ap, ◌∙◌, arith, IsTrue, subst, ◌⊎◌, inl, inr, None}
use Rattle.std.proofs.lemmas.Grind.{common_steps}
use Rattle.std.proofs.lemmas.Bool.{cases_lt}
use Rattle.std.proofs.lemmas.Bool.Decides.{nat_tests}
use Rattle.std.proofs.lemmas.List.{take-append-drop, take_all}
use Rattle.std.proofs.lemmas.Nat.{be_bytes_4, be_bytes_8}
use Rattle.std.proofs.Math.Seq.{take-add}
use Rattle.lf_base.specs.Endian.{be32_at, be64_at}
use Rattle.stream_wire.specs.Frame.{be32, be64, frame_of, pos_body}
use Rattle.stream_wire.specs.Front.{kind_at, name_len_at, body_len_at, name_at, named_len_at, frame_len_at, is_kind, is_name_len, is_body_len, IsWholeFrame, GivesName}

-- each is a byte
abbrev pub AreBytes : List ℕ → Type 0
AreBytes bytes = (i : ℕ) → get_or bytes i 0 < 256

pub are_bytes : (bytes : List ℕ) → ((i : ℕ) → i < length bytes → get_or bytes i 0 < 256) → AreBytes bytes
are_bytes bytes fits i = within (cases_lt i (length bytes))
  where
    within : (i < length bytes) ⊎ (length bytes ≤ i) → get_or bytes i 0 < 256
    within (inl less) = fits i less
    within (inr past) = grind (arith, common_steps)

bytes-take : (n : ℕ) (bytes : List ℕ) → AreBytes bytes → AreBytes (take n bytes)
bytes-take n bytes all i = let h = all i in grind (arith, common_steps, h)

bytes-drop : (n : ℕ) (bytes : List ℕ) → AreBytes bytes → AreBytes (drop n bytes)
bytes-drop n bytes all i = let h = all (n + i) in grind (arith, common_steps, h)

field32 : (place : ℕ) (bytes : List ℕ) → AreBytes bytes → place + 4 ≤ length bytes → be32 (be32_at place bytes) ≡ take 4 (drop place bytes)
unfolding be32_at be32
field32 place bytes all h = be_bytes_4 (take 4 (drop place bytes)) _ (grind (arith, common_steps)) (bytes-take 4 (drop place bytes) (bytes-drop place bytes all)) refl

field64 : (place : ℕ) (bytes : List ℕ) → AreBytes bytes → place + 8 ≤ length bytes → be64 (be64_at place bytes) ≡ take 8 (drop place bytes)
unfolding be64_at be64
field64 place bytes all h = be_bytes_8 (take 8 (drop place bytes)) _ (grind (arith, common_steps)) (bytes-take 8 (drop place bytes) (bytes-drop place bytes all)) refl

parts : (n : ℕ) (bytes : List ℕ) → take 4 bytes ++ take 4 (drop 4 bytes) ++ take 8 (drop 8 bytes) ++ take n (drop 16 bytes) ++ drop (16 + n) bytes ≡ bytes
parts n bytes =
    ap (λ x. x ++ take 8 (drop 8 bytes) ++ take n (drop 16 bytes) ++ drop (16 + n) bytes) (sym (take-add 4 4 bytes))
    ∙ ap (λ x. x ++ take n (drop 16 bytes) ++ drop (16 + n) bytes) (sym (take-add 8 8 bytes))
    ∙ ap (λ x. x ++ drop (16 + n) bytes) (sym (take-add 16 n bytes))
    ∙ take-append-drop (16 + n) bytes

name_length : (bytes : List ℕ) → named_len_at bytes ≤ length bytes → length (name_at bytes) ≡ name_len_at bytes
name_length bytes h = grind (arith, common_steps)

pub body_length : (bytes : List ℕ) → length bytes ≡ frame_len_at bytes → length (drop (named_len_at bytes) bytes) ≡ body_len_at bytes
body_length bytes h = grind (arith, common_steps)

pub cut_frame : (bytes : List ℕ) → AreBytes bytes → IsWholeFrame bytes
    → frame_of (kind_at bytes) (name_at bytes) (drop (named_len_at bytes) bytes) ≡ bytes
unfolding frame_of
cut_frame bytes all is =
    let kind = field32 0 bytes all (omega (arith, is.fields)) in
    let name = field32 4 bytes all (omega (arith, is.fields)) in
    let body = field64 8 bytes all (omega (arith, is.fields)) in
    let n : length (name_at bytes) ≡ name_len_at bytes = name_length bytes (omega (arith, is.len)) in
    let b : length (drop (named_len_at bytes) bytes) ≡ body_len_at bytes = body_length bytes is.len in
    ap (λ x. be32 (kind_at bytes) ++ be32 x ++ be64 (length (drop (named_len_at bytes) bytes)) ++ name_at bytes ++ drop (named_len_at bytes) bytes) n
    ∙ ap (λ x. be32 (kind_at bytes) ++ be32 (name_len_at bytes) ++ be64 x ++ name_at bytes ++ drop (named_len_at bytes) bytes) b
    ∙ ap (λ x. x ++ be32 (name_len_at bytes) ++ be64 (body_len_at bytes) ++ name_at bytes ++ drop (named_len_at bytes) bytes) kind
    ∙ ap (λ x. take 4 bytes ++ x ++ be64 (body_len_at bytes) ++ name_at bytes ++ drop (named_len_at bytes) bytes) name
    ∙ ap (λ x. take 4 bytes ++ take 4 (drop 4 bytes) ++ x ++ name_at bytes ++ drop (named_len_at bytes) bytes) body
    ∙ parts (name_len_at bytes) bytes

-- the same of a frame whose parts were read one by one
pub frame_is : (bytes name body : List ℕ) (kind : ℕ) → AreBytes bytes → IsWholeFrame bytes
    → kind ≡ kind_at bytes → name ≡ name_at bytes → body ≡ drop (named_len_at bytes) bytes → frame_of kind name body ≡ bytes
frame_is bytes name body kind all is k n b = rw (k, n, b) (cut_frame bytes all is)

pub cut_pos : (body : List ℕ) → AreBytes body → length body ≡ 16 → pos_body (record { txid = be64_at 0 body; sum = be64_at 8 body }) ≡ body
unfolding pos_body
cut_pos body all len =
    ap (λ x. x ++ be64 (be64_at 8 body)) (field64 0 body all (omega arith))
    ∙ ap (λ x. take 8 body ++ x) (field64 8 body all (omega arith))
    ∙ sym (take-add 8 8 body) ∙ take_all 16 body (omega arith)

-- ---- which kinds have a name and a body

end_kind : (k n b : ℕ) → IsTrue (is_kind k) → IsTrue (is_name_len k n) → IsTrue (is_body_len k b) → n ≡ 0 → (k ≡ 3) × (b ≡ 0)
end_kind k n b x y z e = grind (arith, nat_tests, common_steps)

drop_kind : (k n b : ℕ) → IsTrue (is_kind k) → IsTrue (is_name_len k n) → IsTrue (is_body_len k b) → 0 < n → k ≢ 1 → k ≢ 2 → (k ≡ 4) × (b ≡ 0)
drop_kind k n b x y z e one two = grind (arith, nat_tests, common_steps)

ready_kind : (b : ℕ) → IsTrue (is_body_len 2 b) → b ≡ 16
ready_kind b z = grind (arith, nat_tests, common_steps)

pub end_frame : (bytes : List ℕ) → AreBytes bytes → IsWholeFrame bytes → name_len_at bytes ≡ 0 → frame_of 3 [] [] ≡ bytes
end_frame bytes all is n =
    let k = end_kind (kind_at bytes) (name_len_at bytes) (body_len_at bytes) is.kind is.name_len is.body_len n in
    frame_is bytes [] [] 3 all is (sym k.0) (sym (empty (name_at bytes) (name_length bytes (omega (arith, is.len)) ∙ n)))
    (sym (empty (drop (named_len_at bytes) bytes) (body_length bytes is.len ∙ k.1)))
  where
    empty : (xs : List ℕ) → length xs ≡ 0 → xs ≡ []
    empty [] e = refl
    empty (x ∷ xs) e = absurd (omega arith)

pub drop_frame : (bytes name : List ℕ) → AreBytes bytes → IsWholeFrame bytes → 0 < name_len_at bytes → kind_at bytes ≢ 1 → kind_at bytes ≢ 2
    → name ≡ name_at bytes → frame_of 4 name [] ≡ bytes
drop_frame bytes name all is some one two n =
    let k = drop_kind (kind_at bytes) (name_len_at bytes) (body_len_at bytes) is.kind is.name_len is.body_len some one two in
    frame_is bytes name [] 4 all is (sym k.0) n (sym (empty (drop (named_len_at bytes) bytes) (body_length bytes is.len ∙ k.1)))
  where
    empty : (xs : List ℕ) → length xs ≡ 0 → xs ≡ []
    empty [] e = refl
    empty (x ∷ xs) e = absurd (omega arith)

pub ready_length : (bytes : List ℕ) → IsWholeFrame bytes → kind_at bytes ≡ 2 → length (drop (named_len_at bytes) bytes) ≡ 16
ready_length bytes is two = body_length bytes is.len ∙ ready_kind (body_len_at bytes) (subst (λ (k : ℕ). IsTrue (is_body_len k (body_len_at bytes))) two is.body_len)

-- a whole frame without a name has an empty one
pub nameless : (bytes : List ℕ) → IsWholeFrame bytes → GivesName bytes None → name_len_at bytes ≡ 0
nameless bytes is (inl zero) = zero
nameless bytes is (inr short) = absurd (omega (arith, is.len))
