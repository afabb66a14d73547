use Rattle.std.proofs.Common.{◌≡◌, ℕ, List, ap, drop, refl, ◌∙◌, subst, arith}
use Rattle.std.specs.Prelude.{Some}
use Rattle.ltx_codec.specs.Fields.{AreBytes}
use Rattle.node_recovery.specs.Reading.{left_over}
use Rattle.node_recovery.proofs.PieceReaders.{passed_comes}
use Rattle.node_recovery.proofs.piece_reader.PieceReader.pass_over.Goals as goal

pub returns-clause-comes : goal.returns-clause-comes
returns-clause-comes c encoding change come =
    let r = c.args.self.now in
    let is : c.split_at.result.1.now ≡ left_over r = c.split_at.ensures.back ∙ ap (λ (l : List ℕ). drop r.taken l) c.as_slice.ensures.value in
    passed_comes r _ encoding change (subst (λ (l : List ℕ). AreBytes l) is c.are_bytes.ensures) c.requires.more refl (omega (arith, c.len-self.ensures)) c.requires.ended (ap Some c.unwrap_or-fault.ensures) come
