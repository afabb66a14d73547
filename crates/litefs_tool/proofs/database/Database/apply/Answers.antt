-- The sum that the file says is that of the image after it.
use Rattle.std.proofs.Common.{◌≡◌, ◌∙◌, refl, sym, arith}
use Rattle.std.proofs.lemmas.Bool.Decides.{nat_tests}
use Rattle.litefs_tool.proofs.ApplyingLemmas.{HasSum-after}
use Rattle.litefs_tool.proofs.database.Database.apply.Goals as goal

pub returns-clause-sum : goal.returns-clause-sum
returns-clause-sum c =
    let same : c.args.file.post ≡ c.in_ok-got.got = grind (arith, nat_tests, c.if-want-got.false) in
    HasSum-after c.args.self (record { image = c.in_ok-image.image; pos = c.after-pos.result }) c.args.file (rw (c.in_ok-image.ensures, c.after-pos.ensures) refl) (sym c.in_ok-got.ensures ∙ sym same)
