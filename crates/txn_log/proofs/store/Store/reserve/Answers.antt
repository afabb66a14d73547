use Rattle.txn_log.proofs.Reservings.{shaped-same, kept-same, left-same}
use Rattle.txn_log.proofs.store.Store.reserve.Goals as goal

pub invariant_of-self : goal.invariant_of-self
invariant_of-self g c =
    let s = c.args.self.now in
    record {
      shaped = shaped-same s.entries.items _ s.sums.sums _ c.take_room.ensures.entries c.take_room.ensures.sums s.commit s.dropped s.shaped;
      kept = λ honest. kept-same s.entries.items _ s.sums.sums _ c.take_room.ensures.entries c.take_room.ensures.sums (g.D.Disk.history s.disk) s.page_size s.commit s.dropped s.broken s.whole s.tried (s.kept honest);
      left = λ honest. left-same s.entries.items _ s.sums.sums _ c.take_room.ensures.entries c.take_room.ensures.sums (g.D.Disk.history s.disk) s.page_size s.commit s.dropped s.broken s.whole s.tried s.attempt (s.left honest);
      mode = s.mode;
      sized = s.sized;
    }

pub invariant_of-self-2 : goal.invariant_of-self-2
invariant_of-self-2 g c =
    let s = c.args.self.now in
    record {
      shaped = shaped-same s.entries.items _ s.sums.sums _ c.take_room.ensures.entries c.take_room.ensures.sums s.commit s.dropped s.shaped;
      kept = λ honest. kept-same s.entries.items _ s.sums.sums _ c.take_room.ensures.entries c.take_room.ensures.sums (g.D.Disk.history s.disk) s.page_size s.commit s.dropped s.broken s.whole s.tried (s.kept honest);
      left = λ honest. left-same s.entries.items _ s.sums.sums _ c.take_room.ensures.entries c.take_room.ensures.sums (g.D.Disk.history s.disk) s.page_size s.commit s.dropped s.broken s.whole s.tried s.attempt (s.left honest);
      mode = s.mode;
      sized = s.sized;
    }
