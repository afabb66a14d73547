use Rattle.std.proofs.Common.{◌≡◌, ◌+◌, ◌≤◌, ◌-◌, length, take, drop, ap, inl, inr, vec_len, arith}
use Rattle.std.proofs.lemmas.Bool.{eq-eqb}
use Rattle.std.proofs.lemmas.Slice.Eq.{slice_eq-Decides}
use Rattle.std.proofs.lemmas.Bool.Decides.{Decides-eqb}
use Rattle.lf_sqlite_pages.proofs.BlockLemmas.{part-same, same-part}
use Rattle.lf_sqlite_pages.proofs.blocks.block.Block.holds.Goals as goal

pub returns-else-is_empty : goal.returns-else-is_empty
returns-else-is_empty c =
    let block = c.self.inside.bytes.items in
    let within = c.args.within in
    let piece = c.args.piece.now in
    let fits : c.args.within + length c.args.piece.now ≤ length c.self.inside.bytes.items = elim c.self.invariant [
      | inl none ↦ absurd (let zero : length c.self.inside.bytes.items ≡ 0 = ap length none in let size : vec_len c.self.inside.bytes ≡ 0 = omega (arith, zero, c.self.inside.bytes.ok.0) in let on = eq-eqb (vec_len c.self.inside.bytes) 0 size in cc (on, c.is_empty.ensures, c.if-is_empty.false))
      | inr whole ↦ omega (arith, whole, c.requires)
    ] in
    let is = rw c.deref.ensures.value at c.eq.ensures in
    let decides = slice_eq-Decides Decides-eqb (take (within + length piece - within) (drop within block)) piece c.eq.result is in
    rw (← c.self.view_is)
    (λ yes. same-part block within piece (decides.0 yes), λ each. decides.1 (part-same block within piece fits each))
