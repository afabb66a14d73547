-- FUSE messages as a feed.
use Rattle.std.proofs.Common.{◌≡◌, ℕ, Bool, true, false, List, [], ◌∷◌, ◌++◌, length, take, Some, Result, Ok, refl, sym, ap, ◌∙◌, subst}
use Rattle.fuse_msgs.specs.declared.feed.Fed.{Fed}
use Rattle.fuse_msgs.specs.declared.feed.Fed.TheVariants as fed
use Rattle.fuse_msgs.specs.declared.fault.BadMessage.{BadMessage}
use Rattle.fuse_msgs.proofs.Run.{fed_message}
use Rattle.link_session.specs.Reading.{Took}
use Rattle.fuse_msgs.specs.Feed.{Beginning, part, whole, broken, beginning_of, is_whole, answer_at, taken_at, feed_answer, fed_on, IsWholeMessage, says_whole, UsesSome}
use Rattle.link_session.specs.declared.stage.Stage.TheVariants as stages
use Rattle.link_session.specs.Messages.{stage_of, IsPart}

pub is_open : (b : Bool) → stage_of b ≡ stages.Open → b ≡ false
is_open true e = absurd cc
is_open false e = refl

pub is_ready : (b : Bool) → stage_of b ≡ stages.Whole → b ≡ true
is_ready true e = refl
is_ready false e = absurd cc

pub more_is_part : (b : Beginning) (before : ℕ) → answer_at before b ≡ Ok fed.More → b ≡ part
more_is_part part before e = refl
more_is_part (whole len) before e = absurd cc
more_is_part (broken len) before e = absurd cc

pub nothing_held : (xs : List ℕ) → length xs ≡ 0 → xs ≡ []
nothing_held [] e = refl
nothing_held (x ∷ xs) e = absurd cc

pub used_is : (b : Beginning) (before more used : ℕ) → answer_at before b ≡ Ok (fed.Whole used) → taken_at before more b ≡ used
used_is part before more used e = absurd cc
used_is (whole len) before more used e = cc
used_is (broken len) before more used e = absurd cc

-- what a feed took of a piece that ended a message
pub took_whole : (old piece new : List ℕ) (used : ℕ) (answer : Result Fed BadMessage) → is_whole old ≡ false → answer ≡ feed_answer old piece
    → new ≡ fed_on old piece → is_whole new ≡ says_whole answer → answer ≡ Ok (fed.Whole used) → UsesSome answer (length piece)
    → Took IsWholeMessage IsPart old piece new (stage_of (is_whole new)) (Some used)
took_whole old piece new used answer u a h w i uses =
    let said : is_whole new ≡ true = w ∙ ap says_whole i in
    let one : IsWholeMessage (fed_on old piece) = fed_message old piece u (sym (ap is_whole h) ∙ said) in (
      subst IsWholeMessage (sym h) one,
      (subst (λ (r : Result Fed BadMessage). UsesSome r (length piece)) i uses).1,
      h ∙ ap (λ n. old ++ take n piece) (used_is (beginning_of (old ++ piece)) (length old) (length piece) used (sym a ∙ i)),
      ap stage_of said,
    )
