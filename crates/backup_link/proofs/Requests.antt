-- A request that is written.
use Rattle.std.proofs.Common.{◌≡◌, List, ℕ, take, drop, Option, sym, ◌∙◌}
use Rattle.std.proofs.lemmas.List.{take-append-drop}
use Rattle.link_session.specs.Writing.{AppendsPart}
use Rattle.backup_link.specs.Fetching.{AppendsFront}

-- a part of it is a front of it
pub part_is_front : (old new : Option (List ℕ)) (text request : List ℕ) → text ≡ request → AppendsPart old new text → AppendsFront old new request
part_is_front old new text request is part = (take part.0 text, drop part.0 text, sym is ∙ sym (take-append-drop part.0 text), part.2)
