use Rattle.run_child.proofs.Course.{closing_is, early_end, held_end}
use Rattle.run_child.specs.Starts.{book}
use Rattle.run_child.specs.Talk.{place}
use Rattle.run_child.proofs.running.run_child.Goals as goal

pub start-end-requires : goal.start-end-requires
start-end-requires g c = c.requires c.in-Ok.ensures.granted.0 c.in-Ok.ensures.granted.1
    (place g.L.Link c.take_halt.new.link c.take_halt.new.room) c.in-Ok.ensures.granted.2

pub returns-in-Err : goal.returns-in-Err
returns-in-Err g c = record {
  ends = (
    c.take_halt.new.room,
    early_end c.args.run.name.now c.args.run.words.now (place g.L.Link c.args.link.now c.args.run.budget)
        (place g.L.Link c.take_halt.new.link c.take_halt.new.room) (book g.S.Starter c.args.starter.now) c.in-Err.end c.in-Err.ensures.stopped,
  );
}

pub returns : goal.returns
returns g c = record {
  ends = (
    c.close.new.room,
    held_end c.args.run.name.now c.args.run.words.now c.in-Ok.ensures.granted.0 c.in-Ok.ensures.granted.1
        (place g.L.Link c.args.link.now c.args.run.budget) (place g.L.Link c.take_halt.new.link c.take_halt.new.room) (place g.L.Link c.close.new.link c.close.new.room)
        (book g.S.Starter c.args.starter.now) (book g.S.Starter c.start-end.new.starter) c.start-end.result c.in-Ok.ensures.granted.2 c.start-end.ensures
        (closing_is c.in-Ok.ensures.granted.0 c.in-Ok.ensures.granted.1 c.in-Ok.closing (place g.L.Link c.take_halt.new.link c.take_halt.new.room)
        (place g.L.Link c.close.new.link c.close.new.room) c.in-Ok.ensures.granted.3 c.close.ensures),
  );
}
