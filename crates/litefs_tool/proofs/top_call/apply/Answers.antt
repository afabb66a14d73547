use Rattle.std.proofs.Common.{[], refl}
use Rattle.std.proofs.KnownBytes.{Consumes-nil}
use Rattle.litefs_tool.specs.declared.command.Command.TheVariants.{Apply}
use Rattle.litefs_tool.proofs.PerformLemmas.{Performs-unable, Performs-unread, Performs-stopped, Performs-unwritten, Stops-apply, WritesFor-apply}
use Rattle.litefs_tool.proofs.top_call.apply.Goals as goal

pub returns-in_err-new : goal.returns-in_err-new
returns-in_err-new g c = Performs-unable Apply _ _ _ [] _ (Consumes-nil _) refl c.from_residual.ensures.1

pub returns-in_err-applying : goal.returns-in_err-applying
returns-in_err-applying g c = Performs-unread Apply _ _ _ _ _ c.in_err-applying.ensures.lost c.in_err-applying.ensures.cause
    c.from_residual-in_err-applying.ensures.1

pub returns-in_err-image : goal.returns-in_err-image
returns-in_err-image g c =
    let took = c.in_ok-applying.ensures.whole in
    Performs-stopped Apply _ _ _ _ _ _ took.1 c.in_ok-applying.ensures.cause (Stops-apply took.0 _ (c.in_err-image.ensures took.0 took.2))
    c.from_residual-in_err-image.ensures.1

pub returns-in_err-buffer : goal.returns-in_err-buffer
returns-in_err-buffer g c =
    let took = c.in_ok-applying.ensures.whole in
    Performs-unable Apply _ _ _ _ _ took.1.read c.in_ok-applying.ensures.cause c.from_residual-in_err-buffer.ensures.1

pub returns-in_err-write_image : goal.returns-in_err-write_image
returns-in_err-write_image g c =
    let took = c.in_ok-applying.ensures.whole in
    Performs-unwritten Apply _ _ _ _ _ took.1 c.in_ok-applying.ensures.cause (WritesFor-apply took.0 _ (c.in_ok-image.ensures took.0 took.2))
    c.in_err-write_image.ensures.prefix c.in_err-write_image.ensures.cause c.from_residual-in_err-write_image.ensures.1
