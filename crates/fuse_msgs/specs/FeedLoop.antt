-- A loop that feeds the pieces of a stream, and the rest of a piece again where a message ended in it.
use Rattle.std.specs.Prelude.{◌≡◌, ℕ, zero, suc, List, [], ◌∷◌, ◌++◌, drop, Result, Ok, Err}
use Rattle.std.specs.List.{flat_map}
use Rattle.fuse_msgs.specs.declared.feed.Fed.{Fed}
use Rattle.fuse_msgs.specs.declared.feed.Fed.TheVariants as fed
use Rattle.fuse_msgs.specs.declared.fault.BadMessage.{BadMessage}
use Rattle.fuse_msgs.specs.Feed.{feed_answer, fed_on}

-- the stream of which these are the pieces
abbrev pub joined : List (List ℕ) → List ℕ
joined pieces = flat_map (λ piece. piece) pieces

-- what holds after an answer: the first where no message is whole, the second where so many bytes of the piece ended one, the last after a fault
abbrev pub After : Result Fed BadMessage → Type 0 → (ℕ → Type 0) → Type 0 → Type 0
After (Ok fed.More) more whole refused = more
After (Ok (fed.Whole used)) more whole refused = whole used
After (Err fault) more whole refused = refused

-- so many calls of `feed`, from what is held on, give these messages and leave this rest. A whole message is cleared, and
-- the rest of its piece is the next piece; behind a fault all that was not taken stays
abbrev pub Feeds : ℕ → List ℕ → List (List ℕ) → List (List ℕ) → List ℕ → Type 0
Feeds zero held pieces messages rest = (pieces ≡ []) × (messages ≡ []) × (rest ≡ held)
Feeds (suc calls) held [] messages rest = ⊥
Feeds (suc calls) held (piece ∷ pieces) messages rest = After (feed_answer held piece)
    (Feeds calls (fed_on held piece) pieces messages rest)
    (λ used. (later : List (List ℕ)) × (messages ≡ fed_on held piece ∷ later) × Feeds calls [] (drop used piece ∷ pieces) later rest)
    ((messages ≡ []) × (rest ≡ held ++ joined (piece ∷ pieces)))

-- the loop ends, with these messages and this rest
abbrev pub FeedsAll : List (List ℕ) → List (List ℕ) → List ℕ → Type 0
FeedsAll pieces messages rest = (calls : ℕ) × Feeds calls [] pieces messages rest
