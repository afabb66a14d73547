use Rattle.txn_log.proofs.Intakes.{lacks_rest}
use Rattle.txn_log.proofs.receiving.Receiving.pass_rest.Goals as goal

pub returns-in-Ok-clause-moments : goal.returns-in-Ok-clause-moments
returns-in-Ok-clause-moments g c honest before change valid up holds =
    c.pass_to.ensures.moments honest before _ up.passed (lacks_rest c.args.self.now c.args.sums.now.sums c.args.count change c.args.self.now.header.commit valid up) holds

pub returns-in-Err-clause-moments : goal.returns-in-Err-clause-moments
returns-in-Err-clause-moments g c honest before change valid up holds =
    c.pass_to.ensures.moments honest before _ up.passed (lacks_rest c.args.self.now c.args.sums.now.sums c.args.count change c.args.self.now.header.commit valid up) holds

pub returns-in-Ok-clause-staged : goal.returns-in-Ok-clause-staged
returns-in-Ok-clause-staged g c honest before change valid up holds =
    c.in-Ok.ensures.staged honest before _ up.passed (lacks_rest c.args.self.now c.args.sums.now.sums c.args.count change c.args.self.now.header.commit valid up) holds

pub returns-in-Ok-clause-passed : goal.returns-in-Ok-clause-passed
returns-in-Ok-clause-passed g c change valid up =
    c.in-Ok.ensures.passed _ up.passed (lacks_rest c.args.self.now c.args.sums.now.sums c.args.count change c.args.self.now.header.commit valid up)
