use Rattle.std.proofs.Common.{[], refl}
use Rattle.std.proofs.KnownBytes.{Consumes-nil}
use Rattle.litefs_tool.specs.declared.command.Command.TheVariants.{Compact}
use Rattle.litefs_tool.proofs.PerformLemmas.{Performs-unable, Performs-unread, Performs-stopped, Performs-unwritten, Performs-written, Stops-compact, WritesFor-compact}
use Rattle.litefs_tool.proofs.top_call.compact.Goals as goal

pub returns-in_err-new : goal.returns-in_err-new
returns-in_err-new g c = Performs-unable Compact _ _ _ [] _ (Consumes-nil _) refl c.from_residual.ensures.1

pub returns-in_err-gathering : goal.returns-in_err-gathering
returns-in_err-gathering g c = Performs-unread Compact _ _ _ _ _ c.in_err-gathering.ensures.lost c.in_err-gathering.ensures.cause
    c.from_residual-in_err-gathering.ensures.1

pub returns-in_err-finish : goal.returns-in_err-finish
returns-in_err-finish g c =
    let took = c.in_ok-gathering.ensures.whole in
    Performs-stopped Compact _ _ _ _ _ _ took.1 c.in_ok-gathering.ensures.cause (Stops-compact took.0 _ (c.in_err-finish.ensures.refused took.0 took.2))
    c.from_residual-in_err-finish.ensures.1

pub returns-in_err-file : goal.returns-in_err-file
returns-in_err-file g c =
    let took = c.in_ok-gathering.ensures.whole in
    let encodings = c.in_ok-finish.ensures.encodings took.0 took.2 in
    Performs-stopped Compact _ _ _ _ _ _ took.1 c.in_ok-gathering.ensures.cause
    (Stops-compact took.0 _ (c.in_err-file.ensures.refused took.0 encodings)) c.from_residual-in_err-file.ensures.1

pub returns-in_err-buffer : goal.returns-in_err-buffer
returns-in_err-buffer g c =
    let took = c.in_ok-gathering.ensures.whole in
    Performs-unable Compact _ _ _ _ _ took.1.read c.in_ok-gathering.ensures.cause c.from_residual-in_err-buffer.ensures.1

pub returns-in_err-write_file : goal.returns-in_err-write_file
returns-in_err-write_file g c =
    let took = c.in_ok-gathering.ensures.whole in
    let encodings = c.in_ok-finish.ensures.encodings took.0 took.2 in
    let writes = WritesFor-compact took.0 _ (c.in_ok-file.ensures.ok took.0 encodings) c.in_ok-file.ensures.valid in
    Performs-unwritten Compact _ _ _ _ _ took.1 c.in_ok-gathering.ensures.cause writes c.in_err-write_file.ensures.prefix
    c.in_err-write_file.ensures.cause c.from_residual-in_err-write_file.ensures.1

pub returns : goal.returns
returns g c =
    let took = c.in_ok-gathering.ensures.whole in
    let encodings = c.in_ok-finish.ensures.encodings took.0 took.2 in
    let writes = WritesFor-compact took.0 _ (c.in_ok-file.ensures.ok took.0 encodings) c.in_ok-file.ensures.valid in
    Performs-written Compact _ _ _ _ took.1 c.in_ok-gathering.ensures.cause writes c.in_ok-write_file.ensures.whole c.in_ok-write_file.ensures.cause
