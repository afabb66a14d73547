use Rattle.litefs_tool.proofs.running.run_under.Goals as goal

pub returns : goal.returns
returns g c =
    let back = rw c.dialer-dialer.ensures.same.1 at c.back_dial.ensures.back in
    let cause = rw c.dialer-dialer.ensures.same.0 at c.back_dial.ensures.cause in
    record {
      before = c.dialer-dialer.result;
      dialer = c.run_dialed-end.new.dialer;
      back = back;
      went = c.run_dialed-end.ensures (g.M.Maker.counts c.args.make.now) (g.M.Maker.counts c.back_dial.new.self) cause c.dialer-dialer.ensures.made;
    }
