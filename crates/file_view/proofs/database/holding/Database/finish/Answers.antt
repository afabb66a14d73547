-- The write is the one that waits.
use Rattle.std.proofs.Common.{sym, ◌∙◌}
use Rattle.file_view.proofs.HeldLemmas.{room-left}
use Rattle.file_view.proofs.database.holding.Database.finish.Goals as goal

pub finish_log_write-requires-clause-room : goal.finish_log_write-requires-clause-room
finish_log_write-requires-clause-room c =
    rw c.in-Some-write.write-is
    (room-left c.self.inside.file c.self.inside.held c.args.self.now c.in-Some.held c.in-Some-write.write c.args.log.now.room c.self.view_is
    (sym c.take.ensures.value ∙ c.in-Some.is) c.in-Some-write.is c.self.invariant c.requires.room)
