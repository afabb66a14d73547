-- A reply by the bytes that a link gave: whole, less than one, too long, or unfit.
use Rattle.std.specs.Prelude.{◌≡◌, ℕ, ◌+◌, ◌<◌, ◌≤◌, Bool, true, false, List, length, take, drop, Some, None}
use Rattle.httparse.specs.Grammar.{HasNoResponse}
use Rattle.stream_wire.specs.Head.{IsResponse, MayTakeResponse, NeverTakesResponse}

-- what of a reply is taken: whether only one that says its length, and the most bytes of its body
pub record Terms : Type 0 where
  pub sized : Bool
  pub limit : ℕ

-- the bytes begin with a head of this size and status that says a length within the limit
pub record SaysLength (terms : Terms) (bytes : List ℕ) (size status len : ℕ) : Type 0 where
  pub head : IsResponse bytes size status (Some len)
  pub fits : len ≤ terms.limit

-- they begin with a head that says none, and such a reply is taken
pub record SaysNoLength (terms : Terms) (bytes : List ℕ) (size status : ℕ) : Type 0 where
  pub head : IsResponse bytes size status None
  pub taken : terms.sized ≡ false

-- A REPLY IS WHOLE: behind its head comes a body of the length that it says; or it says none, and its body is all that came up to the input's end
pub data IsWholeReply (terms : Terms) (bytes : List ℕ) (ended : Type 0) (status : ℕ) (body : List ℕ) : Type 0 where
  with_length : (size len : ℕ) → SaysLength terms bytes size status len → size + len ≤ length bytes → body ≡ take len (drop size bytes)
      → IsWholeReply terms bytes ended status body
  to_the_end : (size : ℕ) → SaysNoLength terms bytes size status → ended → body ≡ drop size bytes → length body ≤ terms.limit
      → IsWholeReply terms bytes ended status body

-- less than a head, and one can still come; or a head, and less of a body than it says
pub data IsShort (terms : Terms) (bytes : List ℕ) : Type 0 where
  in_head : HasNoResponse bytes → MayTakeResponse bytes → IsShort terms bytes
  in_body : (size status len : ℕ) → SaysLength terms bytes size status len → length bytes < size + len → IsShort terms bytes

-- LESS THAN A REPLY: that; or a head that says no length, and no more behind it than the limit
pub data IsReplyPart (terms : Terms) (bytes : List ℕ) : Type 0 where
  short : IsShort terms bytes → IsReplyPart terms bytes
  unending : (size status : ℕ) → SaysNoLength terms bytes size status → length (drop size bytes) ≤ terms.limit → IsReplyPart terms bytes

-- UNFIT: no head that is taken comes, whatever follows; or the input ended inside the reply; or a length is wanted and none is said
pub data IsUnfit (terms : Terms) (bytes : List ℕ) (ended : Type 0) : Type 0 where
  no_head : NeverTakesResponse bytes → IsUnfit terms bytes ended
  cut : IsShort terms bytes → ended → IsUnfit terms bytes ended
  no_length : (size status : ℕ) → IsResponse bytes size status None → terms.sized ≡ true → IsUnfit terms bytes ended

-- TOO LONG: the head says a length past the limit; or none, and more came behind it than the limit
pub data IsTooLong (terms : Terms) (bytes : List ℕ) : Type 0 where
  said : (size status len : ℕ) → IsResponse bytes size status (Some len) → terms.limit < len → IsTooLong terms bytes
  came : (size status : ℕ) → SaysNoLength terms bytes size status → terms.limit < length (drop size bytes) → IsTooLong terms bytes
