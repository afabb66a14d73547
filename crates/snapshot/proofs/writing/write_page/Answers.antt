use Rattle.std.proofs.Common.{refl}
use Rattle.std.specs.Int.{w32, to_be_bytes}
use Rattle.snapshot.proofs.OutputLemmas.{AppendsPrefix-after, AppendsPrefix-more, on_err, map_on_err}
use Rattle.snapshot.proofs.writing.write_page.Goals as goal

pub returns-in_err-register-clause-prefix : goal.returns-in_err-register-clause-prefix
returns-in_err-register-clause-prefix g c =
    on_err _ _ (AppendsPrefix-more _ _ (to_be_bytes w32 c.args.number) c.args.page.now (rw c.to_be_bytes.ensures at c.in_err-register.ensures.prefix))

pub returns-clause-prefix : goal.returns-clause-prefix
returns-clause-prefix g c =
    map_on_err c.write_part-2.result _ _
    (λ prefix. AppendsPrefix-after _ _ _ (to_be_bytes w32 c.args.number) c.args.page.now _ refl (rw c.to_be_bytes.ensures at c.in_ok-register.ensures.whole) prefix)
    c.write_part-2.ensures.prefix
