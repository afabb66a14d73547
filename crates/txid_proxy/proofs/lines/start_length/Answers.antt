use Rattle.std.proofs.Common.{◌∷◌, arith}
use Rattle.txid_proxy.proofs.Finding.{line_behind, line_lacks, start_len}
use Rattle.txid_proxy.proofs.lines.start_length.Goals as goal

pub returns-clause-start : goal.returns-clause-start
returns-clause-start c = λ start rest is e.
    let blank = c.blank_length-blank.ensures.blank start rest is e in
    let behind = line_behind c.args.bytes.now start rest c.split_at.result.1.now is c.blank_length-blank.result e blank c.split_at.ensures.back in
    let line = c.line_length.ensures.first (is.first ∷ is.more) rest (line_lacks start is) behind in
    omega (arith, start_len start is, line, blank)
