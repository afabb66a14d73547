-- Heads that stop before their end, and the ends that are tried on them.
use Rattle.std.specs.Prelude.{◌≡◌, ℕ, ◌<◌, ◌≤◌, List, [], ◌∷◌, ◌++◌, length, drop, Option, Some, unwrap_or, codes}
use Rattle.std.specs.Str.Parse.{AllDigits, digits_value}
use Rattle.httparse.specs.Grammar.{Field, RequestHead, print_request, ReadsRequest, HasNoRequest, ResponseHead, print_response, ReadsResponse, HasNoResponse}
use Rattle.stream_wire.specs.declared.head_ends.HeadKind.{HeadKind}
use Rattle.stream_wire.specs.declared.head_ends.HeadKind.TheVariants as kind
use Rattle.stream_wire.specs.Head.{framing_of, TakesRequest, TakesResponse}

-- the same words for both kinds of heads
abbrev pub HasHead : HeadKind → List ℕ → ℕ → List Field → Type 0
HasHead kind.Request text size fields = (h : RequestHead) × (rest : List ℕ) × ReadsRequest text h rest × (size ≡ length (print_request h)) × (fields ≡ h.fields)
HasHead kind.Response text size fields = (h : ResponseHead) × (rest : List ℕ) × ReadsResponse text h rest × (size ≡ length (print_response h)) × (fields ≡ h.fields)

abbrev pub HasNoHead : HeadKind → List ℕ → Type 0
HasNoHead kind.Request = HasNoRequest
HasNoHead kind.Response = HasNoResponse

abbrev pub TakesHead : HeadKind → List ℕ → Type 0
TakesHead kind.Request = TakesRequest
TakesHead kind.Response = TakesResponse

-- some bytes make it a head that is taken, or none do
abbrev pub MayTake : HeadKind → List ℕ → Type 0
MayTake kind bytes = (more : List ℕ) × TakesHead kind (bytes ++ more)

abbrev pub NeverTakes : HeadKind → List ℕ → Type 0
NeverTakes kind bytes = (more : List ℕ) → TakesHead kind (bytes ++ more) → ⊥

-- ---- the texts whose ends are tried

abbrev pub version_end : List ℕ
version_end = codes "HTTP/1." ++ 48 ∷ 10 ∷ 10 ∷ []

-- the shortest head, behind an empty line
abbrev pub shortest_head : HeadKind → List ℕ
shortest_head kind.Request = 10 ∷ 65 ∷ 32 ∷ 47 ∷ 32 ∷ version_end
shortest_head kind.Response = 10 ∷ (codes "HTTP/1." ++ 48 ∷ 32 ∷ 48 ∷ 48 ∷ 48 ∷ 10 ∷ 10 ∷ [])

-- a name goes on by one byte, and its field is empty
abbrev pub name_end : List ℕ
name_end = 120 ∷ 58 ∷ 10 ∷ 10 ∷ []

-- a character in a target that was cut goes on by bytes that are all least, but for the second of 0xE0 or 0xF0
abbrev pub least_end : List ℕ
least_end = 128 ∷ 128 ∷ 128 ∷ 32 ∷ version_end

abbrev pub second_end : List ℕ
second_end = 160 ∷ 128 ∷ 32 ∷ version_end

abbrev pub second_of_four_end : List ℕ
second_of_four_end = 144 ∷ 128 ∷ 128 ∷ 32 ∷ version_end

-- no end of this text makes it one
abbrev pub EndsByNone : HeadKind → List ℕ → List ℕ → Type 0
EndsByNone kind bytes text = (at : ℕ) → at < length text → TakesHead kind (bytes ++ drop at text) → ⊥

-- the length said before the field in which the bytes stop, where a zero ends it; 0 where none is said
abbrev pub SaysLength : HeadKind → List ℕ → ℕ → Type 0
SaysLength kind bytes k =
    (size : ℕ) (fs : List Field) (f : Field) (so_far : Option ℕ) → HasHead kind (bytes ++ 48 ∷ 10 ∷ 10 ∷ []) size (fs ++ f ∷ [])
    → length (fs ++ f ∷ []) ≤ 128 → framing_of fs ≡ Some so_far → k ≡ unwrap_or so_far 0

-- twenty digits that say a number
pub record IsPadded (n : ℕ) (digits : List ℕ) : Type 0 where
  pub len : length digits ≡ 20
  pub all : AllDigits 10 digits
  pub value : digits_value 10 digits ≡ n

-- the end of a length's line: the digits of a number, and two line feeds
abbrev pub IsLengthEnd : ℕ → List ℕ → Type 0
IsLengthEnd n text = (digits : List ℕ) × IsPadded n digits × (text ≡ digits ++ 10 ∷ 10 ∷ [])

-- no last digits of a length that agrees with the one before make it a head
pub record EndsByNoLength (kind : HeadKind) (bytes : List ℕ) : Type 0 where
  pub number : ℕ
  pub digits : List ℕ
  pub says : SaysLength kind bytes number
  pub padded : IsPadded number digits
  pub none : EndsByNone kind bytes (digits ++ 10 ∷ 10 ∷ [])

-- nor does the rest of a character
pub record EndsByNoCharacter (kind : HeadKind) (bytes : List ℕ) : Type 0 where
  pub least : EndsByNone kind bytes least_end
  pub second : EndsByNone kind bytes second_end
  pub second_of_four : EndsByNone kind bytes second_of_four_end
