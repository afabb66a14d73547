use Rattle.std.proofs.Common.{◌≡◌, ◌+◌, ◌/◌, true, Some, length, ap, sym, subst, ◌∙◌, arith, refl, vec_len}
use Rattle.std.specs.Prelude.{IsSome}
use Rattle.std.specs.Vec.{with_items}
use Rattle.std.proofs.lemmas.Bool.{cond-true}
use Rattle.std.proofs.lemmas.List.{with_items_is}
use Rattle.lf_sqlite_pages.specs.Blocks.{BlockList}
use Rattle.lf_sqlite_pages.specs.BlockTable.{IsPut, IsCut}
use Rattle.lf_sqlite_pages.proofs.BlockLemmas.{same-count, some-true}
use Rattle.lf_sqlite_pages.proofs.BlockListLemmas.{undone-bytes, cut-ready, ready-put}
use Rattle.lf_sqlite_pages.proofs.blocks.Blocks.undo.Goals as goal

pub put-requires-clause-kept : goal.put-requires-clause-kept
put-requires-clause-kept c =
    let P : BlockList → Type 0 = λ b. IsSome b.before in
    let can : c.self.inside.can_undo ≡ true = some-true c.self.inside.can_undo _ (subst P (sym c.self.view_is) c.requires) in
    let size : length c.as_slice.result.now ≡ vec_len c.self.inside.saved = c.as_slice.ensures.len in
    rw (c.as_mut_slice.ensures.value, size) (c.self.invariant.kept can)

pub invariant_of-self : goal.invariant_of-self
invariant_of-self c =
    let P : BlockList → Type 0 = λ b. IsSome b.before in
    let can : c.self.inside.can_undo ≡ true = some-true c.self.inside.can_undo _ (subst P (sym c.self.view_is) c.requires) in
    let inv = c.self.invariant in
    let put : IsPut c.self.inside.blocks.items c.self.inside.saved_at (c.self.inside.saved_at + length c.self.inside.saved.items) c.self.inside.saved.items c.put.new.blocks =
    rw (c.as_mut_slice.ensures.value, c.as_slice.ensures.value) at c.put.ensures in
    let mid : (with_items c.self.inside.blocks c.put.new.blocks).items ≡ c.put.new.blocks =
    with_items_is c.self.inside.blocks c.put.new.blocks (omega (arith, c.put.auto.blocks, c.as_mut_slice.ensures.len)) in
    let cut : IsCut c.put.new.blocks (c.self.inside.from / 4096) c.self.inside.ready.items c.self.inside.old_len c.cut.new.blocks.items c.cut.new.ready =
    rw (mid, c.as_mut_slice-2.ensures.value) at c.cut.ensures.cut in
    let back : (with_items c.self.inside.ready c.cut.new.ready).items ≡ c.cut.new.ready =
    with_items_is c.self.inside.ready c.cut.new.ready (omega (arith, c.cut.auto.ready, c.as_mut_slice-2.ensures.len)) in
    record {
      table = c.cut.ensures.cut.table;
      limit = omega (arith, inv.shorter can, inv.limit);
      room_limit = inv.room_limit;
      places = inv.places;
      ready =
          rw back
          (cut-ready c.put.new.blocks c.cut.new.blocks.items c.self.inside.ready.items c.cut.new.ready (c.self.inside.from / 4096) c.self.inside.old_len c.self.inside.from c.self.inside.to
          cut refl (λ some. omega (arith, inv.places some, c.self.inside.ready.ok.0))
          (ready-put c.self.inside.blocks.items c.put.new.blocks c.self.inside.ready.items (c.self.inside.from / 4096) c.self.inside.from c.self.inside.to put.sizes inv.ready));
      capacity = λ some. omega (arith, inv.capacity some, c.cut.ensures.capacity);
      spare = inv.spare;
      shorter = λ is. cc;
      saved = λ is. cc;
      kept = λ is. cc;
    }

pub returns : goal.returns
returns c =
    let P : BlockList → Type 0 = λ b. IsSome b.before in
    let can : c.self.inside.can_undo ≡ true = some-true c.self.inside.can_undo _ (subst P (sym c.self.view_is) c.requires) in
    let inv = c.self.invariant in
    let put : IsPut c.self.inside.blocks.items c.self.inside.saved_at (c.self.inside.saved_at + length c.self.inside.saved.items) c.self.inside.saved.items c.put.new.blocks =
    rw (c.as_mut_slice.ensures.value, c.as_slice.ensures.value) at c.put.ensures in
    let mid : (with_items c.self.inside.blocks c.put.new.blocks).items ≡ c.put.new.blocks =
    with_items_is c.self.inside.blocks c.put.new.blocks (omega (arith, c.put.auto.blocks, c.as_mut_slice.ensures.len)) in
    let cut : IsCut c.put.new.blocks (c.self.inside.from / 4096) c.self.inside.ready.items c.self.inside.old_len c.cut.new.blocks.items c.cut.new.ready =
    rw (mid, c.as_mut_slice-2.ensures.value) at c.cut.ensures.cut in
    let size : length c.put.new.blocks ≡ length c.self.inside.blocks.items = omega (arith, c.put.auto.blocks, ap length c.as_mut_slice.ensures.value) in
    let count = same-count c.put.new.blocks c.self.inside.blocks.items size put.sizes in
    rw (← c.self.view_is) record {
      bytes =
          ap Some (undone-bytes c.self.inside.blocks.items c.put.new.blocks c.cut.new.blocks.items c.self.inside.ready.items c.cut.new.ready c.self.inside.len c.self.inside.saved_at
          c.self.inside.old_len (c.self.inside.from / 4096) c.self.inside.saved.items inv.table (inv.shorter can) put cut)
          ∙ sym (cond-true _ _ _ can);
      before = refl;
      held = omega (arith, cut.count, count);
      room = refl;
    }
