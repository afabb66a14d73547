use Rattle.txid_proxy.proofs.returning.give_back.Goals as goal

pub returns-in-Ok-clause-returns : goal.returns-in-Ok-clause-returns
returns-in-Ok-clause-returns g c = λ dials dials_now faults faults_now.
    let marks = c.mark.ensures.marks dials dials_now faults faults_now in
    rw (c.in-Ok.is, c.if-reads.false, ← c.as_slice-else-reads.ensures) marks
