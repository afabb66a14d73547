use Rattle.std.proofs.Common.{arith}
use Rattle.lf_sqlite_pages.proofs.blocks.Blocks.make_room.Goals as goal

pub invariant_of-self : goal.invariant_of-self
invariant_of-self c =
    let inv = c.self.invariant in
    record {
      table = rw c.reserve.ensures.items inv.table;
      limit = inv.limit;
      room_limit = inv.room_limit;
      places = inv.places;
      ready = rw c.reserve.ensures.items inv.ready;
      capacity = λ some. omega (arith, inv.capacity some, c.reserve.ensures.capacity);
      spare = inv.spare;
      shorter = inv.shorter;
      saved = inv.saved;
      kept = rw c.reserve.ensures.items inv.kept;
    }

pub invariant_of-self-in_err-reserve-2 : goal.invariant_of-self-in_err-reserve-2
invariant_of-self-in_err-reserve-2 c =
    let inv = c.self.invariant in
    record {
      table = rw c.reserve.ensures.items inv.table;
      limit = inv.limit;
      room_limit = inv.room_limit;
      places = inv.places;
      ready = rw c.reserve.ensures.items inv.ready;
      capacity = λ some. omega (arith, inv.capacity some, c.reserve.ensures.capacity);
      spare = omega (arith, inv.spare, c.reserve-2.ensures.capacity);
      shorter = inv.shorter;
      saved = λ can. omega (arith, inv.saved can, c.reserve-2.ensures.len);
      kept = rw (c.reserve.ensures.items, c.reserve-2.ensures.len) inv.kept;
    }
