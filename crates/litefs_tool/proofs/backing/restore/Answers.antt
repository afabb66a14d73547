use Rattle.std.proofs.Common.{refl}
use Rattle.litefs_tool.specs.declared.command.Command.TheVariants.{Restore}
use Rattle.litefs_tool.specs.declared.failure.Failure.TheVariants as failure
use Rattle.litefs_tool.proofs.BackingLemmas.{ends_as, no_buffer_goes, unable_goes, unrestored_goes, unwritten_goes, written_goes}
use Rattle.litefs_tool.proofs.backing.restore.Goals as goal

pub returns-in_err-folders : goal.returns-in_err-folders
returns-in_err-folders g c =
    ends_as _ (Restore c.args.name c.args.txid) _ _ _ _ _ c.from_residual.ensures.1 (unable_goes _ (Restore c.args.name c.args.txid) _ _ _ _ (refl, refl) refl)

pub returns-in_err-image : goal.returns-in_err-image
returns-in_err-image g c =
    let back = rw c.in_ok-folders.ensures at c.in_err-image.ensures.back in
    ends_as _ (Restore c.args.name c.args.txid) _ _ _ _ _ c.from_residual-in_err-image.ensures.1
    (unrestored_goes _ c.args.name c.args.txid _ _ _ _ _ back c.in_err-image.ensures.cause)

pub returns-in_err-buffer : goal.returns-in_err-buffer
returns-in_err-buffer g c =
    let back = rw c.in_ok-folders.ensures at c.in_ok-image.ensures.back in
    ends_as _ (Restore c.args.name c.args.txid) _ _ _ _ _ c.from_residual-in_err-buffer.ensures.1
    (no_buffer_goes _ c.args.name c.args.txid _ _ _ _ _ back c.in_ok-image.ensures.cause)

pub returns-in_err-write_image : goal.returns-in_err-write_image
returns-in_err-write_image g c =
    let back = rw c.in_ok-folders.ensures at c.in_ok-image.ensures.back in
    ends_as _ (Restore c.args.name c.args.txid) _ _ _ failure.Output _ c.from_residual-in_err-write_image.ensures.1
    (unwritten_goes _ c.args.name c.args.txid _ _ _ _ back c.in_ok-image.ensures.cause c.in_err-write_image.ensures.prefix c.in_err-write_image.ensures.cause)

pub returns : goal.returns
returns g c =
    let back = rw c.in_ok-folders.ensures at c.in_ok-image.ensures.back in
    written_goes _ c.args.name c.args.txid _ _ _ _ back c.in_ok-image.ensures.cause c.in_ok-write_image.ensures.whole c.in_ok-write_image.ensures.cause
