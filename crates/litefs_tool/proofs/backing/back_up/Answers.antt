use Rattle.std.proofs.Common.{refl}
use Rattle.litefs_tool.specs.declared.command.Command.TheVariants.{Backup}
use Rattle.litefs_tool.specs.declared.failure.Failure.TheVariants as failure
use Rattle.litefs_tool.proofs.BackingLemmas.{ends_as, said_goes, unable_goes, unfetched_goes, unsaid_goes}
use Rattle.litefs_tool.proofs.backing.back_up.Goals as goal

pub returns-in_err-folders : goal.returns-in_err-folders
returns-in_err-folders g c =
    ends_as _ (Backup c.args.remote) _ _ _ _ _ c.from_residual.ensures.1 (unable_goes _ (Backup c.args.remote) _ _ _ _ (refl, refl) refl)

pub returns-in_err-end : goal.returns-in_err-end
returns-in_err-end g c =
    ends_as _ (Backup c.args.remote) _ _ _ _ _ c.from_residual-in_err-end.ensures.1
    (unfetched_goes _ c.args.remote _ _ _ _ _ c.in_err-end.ensures.back c.in_err-end.ensures.cause)

pub returns-in_err-say_end : goal.returns-in_err-say_end
returns-in_err-say_end g c =
    ends_as _ (Backup c.args.remote) _ _ _ failure.Output _ c.from_residual-in_err-say_end.ensures.1
    (unsaid_goes _ c.args.remote _ _ _ _ c.in_ok-end.ensures.back c.in_ok-end.ensures.cause c.in_err-say_end.ensures.prefix c.in_err-say_end.ensures.cause)

pub returns : goal.returns
returns g c = said_goes _ c.args.remote _ _ _ _ c.in_ok-end.ensures.back c.in_ok-end.ensures.cause c.in_ok-say_end.ensures.whole c.in_ok-say_end.ensures.cause
