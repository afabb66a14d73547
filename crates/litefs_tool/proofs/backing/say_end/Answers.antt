use Rattle.std.proofs.Common.{◌++◌, ◌∷◌, [], codes, refl}
use Rattle.std.proofs.KnownBytes.{Appends-trans}
use Rattle.lf_base.specs.Position.{position_text}
use Rattle.litefs_tool.proofs.OutputLemmas.{AppendsPrefix-middle, AppendsPrefix-more, map_on_err, on_err}
use Rattle.litefs_tool.proofs.backing.say_end.Goals as goal

pub returns-in_err-write_whole-clause-prefix : goal.returns-in_err-write_whole-clause-prefix
returns-in_err-write_whole-clause-prefix g c =
    on_err _ _ (AppendsPrefix-more _ _ (codes "backup ") (position_text c.args.end ++ 10 ∷ []) c.in_err-write_whole.ensures.prefix)

pub returns-in_err-write_whole-2-clause-prefix : goal.returns-in_err-write_whole-2-clause-prefix
returns-in_err-write_whole-2-clause-prefix g c =
    let prefix = rw c.pos_text.ensures at c.in_err-write_whole-2.ensures.prefix in
    on_err _ _ (AppendsPrefix-middle _ _ _ (codes "backup ") (position_text c.args.end) (10 ∷ []) _ refl c.in_ok-write_whole.ensures.whole prefix)

pub returns-clause-prefix : goal.returns-clause-prefix
returns-clause-prefix g c =
    let position = rw c.pos_text.ensures at c.in_ok-write_whole-2.ensures.whole in
    let before = Appends-trans _ _ _ (codes "backup ") (position_text c.args.end) c.in_ok-write_whole.ensures.whole position in
    map_on_err _ _ _ (AppendsPrefix-middle _ _ _ (codes "backup " ++ position_text c.args.end) (10 ∷ []) [] _ refl before) c.write_whole-3.ensures.prefix
