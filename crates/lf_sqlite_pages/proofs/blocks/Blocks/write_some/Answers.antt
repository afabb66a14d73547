use Rattle.std.proofs.Common.{◌≡◌, ◌+◌, ◌/◌, Some, length, max, ap, sym, arith, refl, vec_len}
use Rattle.std.specs.Vec.{with_items}
use Rattle.std.proofs.lemmas.List.{with_items_is}
use Rattle.lf_sqlite_pages.specs.Blocks.{BlockList}
use Rattle.lf_sqlite_pages.specs.BlockTable.{IsPut, IsFilled, IsSaved, blocks_in}
use Rattle.lf_sqlite_pages.proofs.BlockListLemmas.{written-bytes, written-table, written-ready, written-count, written-kept, written-back}
use Rattle.lf_sqlite_pages.proofs.blocks.Blocks.write_some.Goals as goal

pub overflow_add-end : goal.overflow_add-end
overflow_add-end c =
    let to-is : c.args.self.now.room.to ≡ c.self.inside.to = ap (λ (b : BlockList). b.room.to) (sym c.self.view_is) in
    omega (arith, c.requires.room.to, to-is, c.self.invariant.room_limit)

pub invariant_of-self : goal.invariant_of-self
invariant_of-self c =
    let inv = c.self.invariant in
    let b = c.self.inside in
    let at = c.args.at in
    let piece = c.args.piece.now in
    let first = c.self.inside.from / 4096 in
    let to-is : c.args.self.now.room.to ≡ c.self.inside.to = ap (λ (l : BlockList). l.room.to) (sym c.self.view_is) in
    let filled : IsFilled c.self.inside.blocks.items (c.self.inside.from / 4096) c.self.inside.ready.items (c.args.at / 4096) (blocks_in (c.args.at + length c.args.piece.now)) c.fill.new.blocks.items c.fill.new.ready =
    rw (c.as_mut_slice-ready.ensures.value, c.blocks_in.ensures) at c.fill.ensures.filled in
    let put : IsPut c.fill.new.blocks.items c.args.at (c.args.at + length c.args.piece.now) c.args.piece.now c.put.new.blocks = rw c.as_mut_slice.ensures.value at c.put.ensures in
    let saved : IsSaved c.fill.new.blocks.items c.min-start.result c.min-displaced.result c.save.new.saved.items = rw c.as_slice.ensures.value at c.save.ensures.saved in
    let own : length c.put.new.blocks ≡ length c.fill.new.blocks.items = omega (arith, c.put.auto.blocks, ap length c.as_mut_slice.ensures.value) in
    let size : length c.fill.new.blocks.items ≡ max (length c.self.inside.blocks.items) (blocks_in (c.args.at + length c.args.piece.now)) =
    omega (arith, c.fill.ensures.len, c.blocks_in.ensures, c.fill.new.blocks.ok.0, c.self.inside.blocks.ok.0) in
    let now : (with_items c.fill.new.blocks c.put.new.blocks).items ≡ c.put.new.blocks = with_items_is c.fill.new.blocks c.put.new.blocks (omega (arith, own, c.fill.new.blocks.ok.0)) in
    let left : (with_items c.self.inside.ready c.fill.new.ready).items ≡ c.fill.new.ready =
    with_items_is c.self.inside.ready c.fill.new.ready (omega (arith, c.fill.auto.ready, c.as_mut_slice-ready.ensures.len)) in
    record {
      table = rw (now, c.max-self-inside.ensures) (written-table b.blocks.items c.fill.new.blocks.items c.put.new.blocks b.ready.items c.fill.new.ready b.len at first piece c.requires.some inv.table filled size put own);
      limit = omega (arith, c.max-self-inside.ensures, inv.limit, inv.room_limit, c.requires.room.to, to-is);
      room_limit = inv.room_limit;
      places = inv.places;
      ready =
          rw (now, left)
          (λ some n low high.
          written-ready b.blocks.items c.fill.new.blocks.items c.put.new.blocks b.ready.items c.fill.new.ready b.len at first piece c.requires.some inv.table filled size put own n low
          (inv.ready some n low high));
      capacity = λ some. omega (arith, inv.capacity some, c.fill.ensures.capacity);
      spare = omega (arith, inv.spare, c.save.ensures.capacity);
      shorter = λ can. omega (arith, c.max-self-inside.ensures);
      saved = λ can. omega (arith, saved.size, c.save.new.saved.ok.0, c.min-start.ensures, c.min-displaced.ensures);
      kept =
          λ can.
          let count-is : vec_len c.save.new.saved ≡ c.min-displaced.result = omega (arith, saved.size, c.save.new.saved.ok.0) in
          rw (now, count-is)
          (written-kept b.blocks.items c.fill.new.blocks.items c.put.new.blocks b.ready.items c.fill.new.ready b.len at first piece c.requires.some inv.table filled size put own
          c.min-start.result c.min-displaced.result c.min-start.ensures c.min-displaced.ensures);
    }

pub returns : goal.returns
returns c =
    let inv = c.self.invariant in
    let b = c.self.inside in
    let at = c.args.at in
    let piece = c.args.piece.now in
    let first = c.self.inside.from / 4096 in
    let filled : IsFilled c.self.inside.blocks.items (c.self.inside.from / 4096) c.self.inside.ready.items (c.args.at / 4096) (blocks_in (c.args.at + length c.args.piece.now)) c.fill.new.blocks.items c.fill.new.ready =
    rw (c.as_mut_slice-ready.ensures.value, c.blocks_in.ensures) at c.fill.ensures.filled in
    let put : IsPut c.fill.new.blocks.items c.args.at (c.args.at + length c.args.piece.now) c.args.piece.now c.put.new.blocks = rw c.as_mut_slice.ensures.value at c.put.ensures in
    let saved : IsSaved c.fill.new.blocks.items c.min-start.result c.min-displaced.result c.save.new.saved.items = rw c.as_slice.ensures.value at c.save.ensures.saved in
    let own : length c.put.new.blocks ≡ length c.fill.new.blocks.items = omega (arith, c.put.auto.blocks, ap length c.as_mut_slice.ensures.value) in
    let size : length c.fill.new.blocks.items ≡ max (length c.self.inside.blocks.items) (blocks_in (c.args.at + length c.args.piece.now)) =
    omega (arith, c.fill.ensures.len, c.blocks_in.ensures, c.fill.new.blocks.ok.0, c.self.inside.blocks.ok.0) in
    let now : (with_items c.fill.new.blocks c.put.new.blocks).items ≡ c.put.new.blocks = with_items_is c.fill.new.blocks c.put.new.blocks (omega (arith, own, c.fill.new.blocks.ok.0)) in
    rw (← c.self.view_is, now, c.max-self-inside.ensures) record {
      bytes = written-bytes b.blocks.items c.fill.new.blocks.items c.put.new.blocks b.ready.items c.fill.new.ready b.len at first piece c.requires.some inv.table filled size put own;
      before =
          ap Some (written-back b.blocks.items c.fill.new.blocks.items c.put.new.blocks b.ready.items c.fill.new.ready b.len at first piece c.requires.some inv.table filled size put own
          c.min-start.result c.min-displaced.result c.save.new.saved.items c.min-start.ensures c.min-displaced.ensures saved);
      held = written-count b.blocks.items c.fill.new.blocks.items c.put.new.blocks b.ready.items c.fill.new.ready b.len at first piece c.requires.some inv.table filled size put own;
      room = refl;
    }
