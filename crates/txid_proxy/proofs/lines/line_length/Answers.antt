use Rattle.std.proofs.Common.{ℕ, ◌+◌, ap}
use Rattle.txid_proxy.proofs.Finding.{found_at, found_none}
use Rattle.txid_proxy.proofs.lines.line_length.Goals as goal

pub returns-in-Some-clause-first : goal.returns-in-Some-clause-first
returns-in-Some-clause-first c = λ line rest lacks is.
    ap (λ (n : ℕ). n + 1) (found_at c.args.bytes.now line rest 10 c.in-Some.at c.find.result lacks is c.find.ensures c.in-Some.is)

pub returns-in-None-clause-first : goal.returns-in-None-clause-first
returns-in-None-clause-first c = λ line rest lacks is.
    absurd (found_none c.args.bytes.now line rest 10 c.find.result lacks is c.find.ensures c.in-None.is)
