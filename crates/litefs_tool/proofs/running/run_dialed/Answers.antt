use Rattle.std.proofs.Common.{◌∙◌, refl}
use Rattle.litefs_tool.proofs.RunningLemmas.{rose_by, tells_behind, told_of_link}
use Rattle.litefs_tool.proofs.running.run_dialed.Goals as goal

pub run_child-end-requires : goal.run_child-end-requires
run_child-end-requires g c node fh locked granted = g.met.S.ReadyStarter.ready c.args.child.now locked.taken

pub returns-in-Err : goal.returns-in-Err
returns-in-Err g c counts counts_after told none = record {
  told = c.in-Err.ensures.dials;
  cause = rose_by counts counts_after _ _ none c.in-Err.ensures.cause told;
  unstarted = refl;
}

pub returns : goal.returns
returns g c counts counts_after told none =
    let ran = rw c.as_slice-words.ensures at c.run_child-end.ensures.ends in
    record {
      link = c.in-Ok.link;
      link_after = c.run_child-end.new.link;
      room = ran.0;
      sound = c.in-Ok.ensures.begins;
      unread = c.in-Ok.ensures.new.0;
      unwritten = c.in-Ok.ensures.new.1;
      went = ran.1;
      hung_up = tells_behind _ _ _ _ c.in-Ok.ensures.dials c.hang_up.ensures.dials;
      cause = told_of_link counts counts_after _ _ _ (c.in-Ok.ensures.cause ∙ none) c.hang_up.ensures.cause told;
    }
