use Rattle.std.proofs.Common.{◌≡◌, List, [], ℕ, ◌++◌, take, sym, ◌∙◌, ap, arith}
use Rattle.std.proofs.lemmas.List.{take-append-drop, nil_from_length}
use Rattle.txn_log.proofs.Comings.{taken_none, taken_step, taken_all, taken_fault}
use Rattle.txn_log.proofs.coming.Coming.take_all.Goals as goal

pub loop-rest-init : goal.loop-rest-init
loop-rest-init c = taken_none c.args.self.now c.args.piece.now c.requires.open_

pub loop-rest-preserved : goal.loop-rest-preserved
loop-rest-preserved c =
    let rest = c.loop-rest.rest.now in
    let splits = sym (take-append-drop c.in-Ok.used rest) ∙ ap (λ (l : List ℕ). take c.in-Ok.used rest ++ l) (sym c.split_at.ensures.back) in
    let more = c.in-Ok.ensures.more in
    taken_step c.args.self.now c.loop-rest.self c.step.new.self c.args.piece.now rest c.split_at.result.1.now c.in-Ok.field-0-0 c.in-Ok.used c.loop-rest.invariant
    splits more.1 more.2 more.0 c.in-Ok.ensures.within c.in-Ok.ensures.comes

pub returns-in-Err-clause-takes : goal.returns-in-Err-clause-takes
returns-in-Err-clause-takes c =
    taken_fault c.args.self.now c.loop-rest.self c.step.new.self c.args.piece.now c.loop-rest.rest.now c.in-Err.fault c.loop-rest.invariant c.in-Err.ensures.comes

pub returns-clause-takes : goal.returns-clause-takes
returns-clause-takes c =
    let none : c.loop-rest.rest.now ≡ [] = nil_from_length c.loop-rest.rest.now (omega (arith, c.loop-rest-test.false)) in
    taken_all c.args.self.now c.loop-rest.self c.args.piece.now c.loop-rest.rest.now c.loop-rest.invariant none
