use Rattle.std.proofs.Common.{[], codes, sym, append-nil}
use Rattle.litefs_tool.proofs.OutputLemmas.{AppendsPrefix-more, AppendsPrefix-middle, on_err, map_on_err}
use Rattle.litefs_tool.proofs.asking.say_imported.Goals as goal

pub returns-in_err-write_whole-clause-prefix : goal.returns-in_err-write_whole-clause-prefix
returns-in_err-write_whole-clause-prefix g c =
    on_err _ _ (AppendsPrefix-more _ _ (codes "imported ") c.args.line.now c.in_err-write_whole.ensures.prefix)

pub returns-clause-prefix : goal.returns-clause-prefix
returns-clause-prefix g c =
    map_on_err _ _ _ (AppendsPrefix-middle _ _ _ (codes "imported ") c.args.line.now [] _ (sym (append-nil _)) c.in_ok-write_whole.ensures.whole)
    c.write_whole-2.ensures.prefix
