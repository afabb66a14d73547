use Rattle.std.proofs.Common.{None, ◌∙◌, ap, subst}
use Rattle.lease_core.specs.Belief.{LeaseBelief}
use Rattle.node_core.specs.declared.news.LeaseNews.{LeaseNews}
use Rattle.node_core.specs.declared.standing.Standing.{Standing}
use Rattle.node_core.specs.Leasing.{Believes, believes}
use Rattle.node_core.specs.Nodes.{history, parts_of}
use Rattle.node_core.proofs.node.Node.news.Goals as goal

pub returns-in-Asked-clause-does : goal.returns-in-Asked-clause-does
returns-in-Asked-clause-does g c =
    let n = c.args.self.now in
    let m = c.believe.new.self in
    rw c.in-Asked.is
    (subst (λ (b : LeaseBelief). Believes (history n) (parts_of n) b c.believe.result (history m) (parts_of m))
    (c.believed-belief.ensures ∙ ap (λ (k : LeaseNews). believes c.args.now k n.standing.belief) c.in-Asked.is) c.believe.ensures.does)

pub returns-in-Asked-clause-belief : goal.returns-in-Asked-clause-belief
returns-in-Asked-clause-belief g c = c.believe.ensures.belief ∙ c.believed-belief.ensures

pub returns-in-Granted-clause-does : goal.returns-in-Granted-clause-does
returns-in-Granted-clause-does g c =
    let n = c.args.self.now in
    let m = c.believe-in-Granted.new.self in
    rw c.in-Granted.is
    (subst (λ (b : LeaseBelief). Believes (history n) (record (parts_of n) { held = None }) b c.believe-in-Granted.result (history m) (parts_of m))
    (c.believed-belief.ensures ∙ ap (λ (k : LeaseNews). believes c.args.now k n.standing.belief) c.in-Granted.is) c.believe-in-Granted.ensures.does)

pub returns-in-Granted-clause-belief : goal.returns-in-Granted-clause-belief
returns-in-Granted-clause-belief g c = c.believe-in-Granted.ensures.belief ∙ c.believed-belief.ensures

pub returns-in-Granted-clause-safe : goal.returns-in-Granted-clause-safe
returns-in-Granted-clause-safe g c = c.believe-in-Granted.ensures.safe

pub returns-in-Lost-clause-does : goal.returns-in-Lost-clause-does
returns-in-Lost-clause-does g c =
    let n = c.args.self.now in
    let m = c.believe-in-Lost.new.self in
    rw c.in-Lost.is
    (subst (λ (b : LeaseBelief). Believes (history n) (parts_of n) b c.believe-in-Lost.result (history m) (parts_of m))
    (c.believed-belief.ensures ∙ ap (λ (k : LeaseNews). believes c.args.now k n.standing.belief) c.in-Lost.is) c.believe-in-Lost.ensures.does)

pub returns-in-Lost-clause-belief : goal.returns-in-Lost-clause-belief
returns-in-Lost-clause-belief g c = c.believe-in-Lost.ensures.belief ∙ c.believed-belief.ensures

pub returns-in-Primary-clause-does : goal.returns-in-Primary-clause-does
returns-in-Primary-clause-does g c = rw c.in-Primary.is c.name_primary.ensures.does

pub returns-in-Primary-clause-belief : goal.returns-in-Primary-clause-belief
returns-in-Primary-clause-belief g c = rw c.in-Primary.is (ap (λ (t : Standing). t.belief) c.name_primary.ensures.standing)

pub returns-in-Primary-clause-moment : goal.returns-in-Primary-clause-moment
returns-in-Primary-clause-moment g c = ap (λ (t : Standing). t.moment) c.name_primary.ensures.standing
