use Rattle.std.proofs.Common.{◌≡◌, sym, ◌∙◌, Some, None, length}
use Rattle.txid_proxy.proofs.Finding.{line_found}
use Rattle.txid_proxy.proofs.lines.blank_length.Goals as goal

pub returns-in-Some-clause-blank : goal.returns-in-Some-clause-blank
returns-in-Some-clause-blank c = λ start rest is e.
    let same : Some c.in-Some.at ≡ Some (length is.blank) = sym c.in-Some.is ∙ c.line_at.ensures ∙ line_found c.args.bytes.now start rest is e in cc

pub returns-in-None-clause-blank : goal.returns-in-None-clause-blank
returns-in-None-clause-blank c = λ start rest is e.
    let same : None ≡ Some (length is.blank) = sym c.in-None.is ∙ c.line_at.ensures ∙ line_found c.args.bytes.now start rest is e in absurd (cc)
