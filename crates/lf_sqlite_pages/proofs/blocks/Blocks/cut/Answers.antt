use Rattle.std.proofs.Common.{◌≡◌, ◌/◌, arith, refl}
use Rattle.std.specs.Vec.{with_items}
use Rattle.std.proofs.lemmas.List.{with_items_is}
use Rattle.lf_sqlite_pages.proofs.BlockListLemmas.{cut-bytes, cut-ready}
use Rattle.lf_sqlite_pages.proofs.blocks.Blocks.cut.Goals as goal

pub invariant_of-self : goal.invariant_of-self
invariant_of-self c =
    let inv = c.self.invariant in
    let back : (with_items c.self.inside.ready c.cut.new.ready).items ≡ c.cut.new.ready =
    with_items_is c.self.inside.ready c.cut.new.ready (omega (arith, c.cut.auto.ready, c.as_mut_slice.ensures.len)) in
    let cut = rw c.as_mut_slice.ensures.value at c.cut.ensures.cut in
    record {
      table = c.cut.ensures.cut.table;
      limit = c.requires;
      room_limit = inv.room_limit;
      places = inv.places;
      ready =
          rw back
          (cut-ready c.self.inside.blocks.items c.cut.new.blocks.items c.self.inside.ready.items c.cut.new.ready (c.self.inside.from / 4096) c.args.len c.self.inside.from c.self.inside.to
          cut refl (λ some. omega (arith, inv.places some, c.self.inside.ready.ok.0)) inv.ready);
      capacity = λ some. omega (arith, inv.capacity some, c.cut.ensures.capacity);
      spare = inv.spare;
      shorter = λ is. cc;
      saved = λ is. cc;
      kept = λ is. cc;
    }

pub returns-clause-resized : goal.returns-clause-resized
returns-clause-resized c =
    let cut = rw c.as_mut_slice.ensures.value at c.cut.ensures.cut in
    rw (← c.self.view_is) record {
      bytes =
          cut-bytes c.self.inside.blocks.items c.cut.new.blocks.items c.self.inside.ready.items c.cut.new.ready c.self.inside.len c.args.len (c.self.inside.from / 4096)
          c.self.invariant.table cut;
      before = refl;
      held = cut.count;
      room = refl;
    }
