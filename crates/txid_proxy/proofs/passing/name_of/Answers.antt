use Rattle.std.proofs.Common.{◌++◌, ◌∙◌}
use Rattle.httparse.specs.Grammar.{print_end}
use Rattle.txid_proxy.proofs.FieldLines.{name_front, name_lacks, named}
use Rattle.txid_proxy.proofs.Finding.{found_at, found_none}
use Rattle.txid_proxy.proofs.passing.name_of.Goals as goal

pub returns-in-Some : goal.returns-in-Some
returns-in-Some c = λ f is e.
    c.split_at.ensures.front ∙ name_front f c.args.line.now c.in-Some.at e
    (found_at c.args.line.now f.name (f.raw ++ print_end f.end) 58 c.in-Some.at c.find.result (name_lacks f is) (e ∙ named f) c.find.ensures c.in-Some.is)

pub returns-in-None : goal.returns-in-None
returns-in-None c = λ f is e.
    absurd (found_none c.args.line.now f.name (f.raw ++ print_end f.end) 58 c.find.result (name_lacks f is) (e ∙ named f) c.find.ensures c.in-None.is)
