use Rattle.txid_proxy.specs.Session.{marked, unmarked}
use Rattle.txid_proxy.proofs.returning.mark.Goals as goal

pub returns-in-Some-clause-marks : goal.returns-in-Some-clause-marks
returns-in-Some-clause-marks g c = λ dials dials_now faults faults_now.
    marked c.in-Ok.answer c.in-Some.here c.in-Ok.ensures.asked c.in-Some.ensures c.give_back_marked.ensures.end

pub returns-clause-marks : goal.returns-clause-marks
returns-clause-marks g c = λ dials dials_now faults faults_now. unmarked c.in-Ok.answer c.in-Ok.ensures.asked c.in-None.ensures c.give_back_as_it_is.ensures.end
