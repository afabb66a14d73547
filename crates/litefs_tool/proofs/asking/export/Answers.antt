use Rattle.std.proofs.Common.{refl}
use Rattle.litefs_tool.specs.declared.command.Command.TheVariants.{Export}
use Rattle.litefs_tool.specs.declared.failure.Failure.TheVariants as failure
use Rattle.litefs_tool.proofs.AskLemmas.{ends_as, export_asked, other_status, succeeds, untold_goes, unwritten_goes, written_goes}
use Rattle.litefs_tool.proofs.asking.export.Goals as goal

pub returns-in_err-told : goal.returns-in_err-told
returns-in_err-told g c input still =
    ends_as _ (Export c.args.remote) input _ _ _ _ _ c.from_residual.ensures.1
    (untold_goes _ (Export c.args.remote) input _ _ _ _ _
    (export_asked _ c.args.remote input _ _ _ still c.in_err-told.ensures.back c.in_err-told.ensures.cause))

pub returns-in_err-database : goal.returns-in_err-database
returns-in_err-database g c input still =
    ends_as _ (Export c.args.remote) input _ _ _ _ _ c.from_residual-in_err-database.ensures.1
    (rw c.in_err-database.ensures.0 (other_status _ (Export c.args.remote) input _ _ _ _ c.in_ok-told.told c.in_err-database.ensures.1
    (export_asked _ c.args.remote input _ _ _ still c.in_ok-told.ensures.back c.in_ok-told.ensures.cause)))

pub returns-in_err-write_whole : goal.returns-in_err-write_whole
returns-in_err-write_whole g c input still =
    let has = export_asked _ c.args.remote input _ _ _ still c.in_ok-told.ensures.back c.in_ok-told.ensures.cause in
    let prefix = rw c.as_slice.ensures at c.in_err-write_whole.ensures.prefix in
    ends_as _ (Export c.args.remote) input _ _ _ failure.Output _ c.from_residual-in_err-write_whole.ensures.1
    (unwritten_goes _ (Export c.args.remote) input _ _ _ c.in_ok-database.database _ refl prefix c.in_err-write_whole.ensures.cause
    (succeeds _ (Export c.args.remote) input _ _ c.in_ok-told.told _ c.in_ok-database.ensures has))

pub returns : goal.returns
returns g c input still =
    let has = export_asked _ c.args.remote input _ _ _ still c.in_ok-told.ensures.back c.in_ok-told.ensures.cause in
    let whole = rw c.as_slice.ensures at c.in_ok-write_whole.ensures.whole in
    written_goes _ (Export c.args.remote) input _ _ _ c.in_ok-database.database _ refl whole c.in_ok-write_whole.ensures.cause
    (succeeds _ (Export c.args.remote) input _ _ c.in_ok-told.told _ c.in_ok-database.ensures has)
