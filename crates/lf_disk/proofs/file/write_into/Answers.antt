use Rattle.std.proofs.Common.{◌≡◌, ℕ, List, ◌+◌, ◌-◌, ◌++◌, length, take, drop, replicate, ◌∙◌, ap, arith}
use Rattle.std.proofs.lemmas.Grind.{common_steps}
use Rattle.lf_base.proofs.FileLemmas.{filled-lengthened}
use Rattle.lf_disk.proofs.file.write_into.Goals as goal

pub returns-clause-ok : goal.returns-clause-ok
returns-clause-ok c =
    let whole : take c.lengthen.new.bytes.len (c.fill.new.bytes ++ drop (length c.fill.new.bytes) c.lengthen.new.bytes.items) ≡ c.fill.new.bytes = grind (arith, common_steps) in
    let end_is : c.in_ok-end.end ≡ c.args.at + length c.args.piece.now = grind (arith, common_steps) in
    let long : c.deref_mut.result.now ≡ c.args.bytes.now.items ++ replicate (c.args.at + length c.args.piece.now - length c.args.bytes.now.items) 0 =
    c.deref_mut.ensures.value ∙ c.in_ok-lengthen.ensures.ok ∙ ap (λ (n : ℕ). c.args.bytes.now.items ++ replicate (n - length c.args.bytes.now.items) 0) end_is in
    whole ∙ c.fill.ensures ∙ ap (λ (l : List ℕ). take c.args.at l ++ c.args.piece.now ++ drop (c.args.at + length c.args.piece.now) l) long ∙ filled-lengthened c.args.bytes.now.items c.args.piece.now c.args.at
