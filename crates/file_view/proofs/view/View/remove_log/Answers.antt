-- By the rows.
use Rattle.lf_sqlite_pages.specs.Blocks.{no_room}
use Rattle.file_view.specs.ServedParts.{served_of}
use Rattle.file_view.proofs.LogLemmas.{removed-log-sound, removed-room}
use Rattle.file_view.proofs.view.View.remove_log.Goals as goal

pub invariant_of-self : goal.invariant_of-self
invariant_of-self c =
    let allowed = rw (← c.self.view_is) at c.in_ok-log_unlink_allowed.ensures.allowed in
    rw c.remove.ensures (record {
      sound = removed-log-sound (served_of c.self.inside) c.args.scene.now allowed c.self.invariant.sound;
      room = removed-room (served_of c.self.inside) c.args.scene.now allowed no_room;
    })
