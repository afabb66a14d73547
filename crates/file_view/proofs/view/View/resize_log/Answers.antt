-- By the rows.
use Rattle.std.proofs.Common.{◌≡◌, rules}
use Rattle.wal_watch.specs.File.{after_cut}
use Rattle.file_view.specs.ServedParts.{served_of}
use Rattle.file_view.proofs.LogLemmas.{cut-log-sound}
use Rattle.file_view.proofs.view.View.resize_log.Goals as goal

pub invariant_of-self : goal.invariant_of-self
invariant_of-self c =
    let cut : c.cut.new.self ≡ after_cut c.self.inside.log c.args.len = search rules in
    rw cut (record {
      sound = cut-log-sound (served_of c.self.inside) c.args.scene.now c.args.len (rw (← c.self.view_is) at c.in_ok-log_cut_allowed.ensures.allowed) c.self.invariant.sound;
      room = c.self.invariant.room;
    })
