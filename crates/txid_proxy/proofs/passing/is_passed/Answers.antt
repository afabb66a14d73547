use Rattle.std.proofs.Common.{sym, ◌∙◌, ap}
use Rattle.std.specs.Prelude.{not}
use Rattle.txid_proxy.proofs.FieldLines.{by_expect, kept_out}
use Rattle.txid_proxy.proofs.passing.is_passed.Goals as goal

pub returns-then-is_called : goal.returns-then-is_called
returns-then-is_called c = λ f is e. sym (kept_out f c.name_of-name.result.now (c.name_of-name.ensures f is e) (sym c.is_called.ensures ∙ c.if-is_called.true))

pub returns : goal.returns
returns c = λ f is e. ap not c.is_called-2.ensures ∙ sym (by_expect f c.name_of-name.result.now (c.name_of-name.ensures f is e) (sym c.is_called.ensures
    ∙ c.if-is_called.false))
