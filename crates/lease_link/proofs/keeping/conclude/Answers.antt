use Rattle.std.proofs.Common.{ℕ, [], None, Some, refl, subst, sym}
use Rattle.link_session.specs.Stands.{asker}
use Rattle.lease_link.specs.declared.learned.Learned.{Learned}
use Rattle.lease_link.specs.declared.learned.Learned.TheVariants as learned
use Rattle.lease_link.specs.declared.keep_end.KeepEnd.TheVariants as ends
use Rattle.lease_link.specs.Keeping.{Concludes, concluded}
use Rattle.lease_link.proofs.Rounds.{concludes_by, nothing_behind}
use Rattle.lease_link.proofs.keeping.conclude.Goals as goal

pub returns-in-Granted-clause-concludes : goal.returns-in-Granted-clause-concludes
returns-in-Granted-clause-concludes g c =
    subst (λ (l : Learned). Concludes g.B.Bringing (asker g.S.Steps g.C.Clock c.args.steps.now c.args.round.now.clock.now) c.args.own.now l (g.S.Steps.entries c.args.steps.now)
    (g.S.Steps.entries c.tell-told.new.steps) c.ended.result) (sym c.in-Granted.is)
    (concludes_by g.B.Bringing (asker g.S.Steps g.C.Clock c.args.steps.now c.args.round.now.clock.now) c.args.own.now (learned.Granted c.in-Granted.term c.in-Granted.ttl)
    (λ (now : ℕ). g.B.Bringing.granted_at now c.in-Granted.term c.in-Granted.ttl) c.now_ms-now.result c.granted.result (g.S.Steps.is_worn c.tell-told.new.steps) c.args.round.now.turns c.tell-told.result
    (g.S.Steps.entries c.args.steps.now) (g.S.Steps.entries c.tell-told.new.steps) c.in-Granted.term None c.ended.result
    (λ entries are. are) tt refl c.now_ms-now.ensures.meets c.granted.ensures c.tell-told.ensures.asked c.tell-told.ensures.still c.tell-told.ensures.cause c.ended.ensures)

pub returns-in-Lost-clause-concludes : goal.returns-in-Lost-clause-concludes
returns-in-Lost-clause-concludes g c =
    subst (λ (l : Learned). Concludes g.B.Bringing (asker g.S.Steps g.C.Clock c.args.steps.now c.args.round.now.clock.now) c.args.own.now l (g.S.Steps.entries c.args.steps.now)
    (g.S.Steps.entries c.tell-told-in-Lost.new.steps) c.ended-in-Lost.result) (sym c.in-Lost.is)
    (concludes_by g.B.Bringing (asker g.S.Steps g.C.Clock c.args.steps.now c.args.round.now.clock.now) c.args.own.now learned.Lost
    (g.B.Bringing.lost_at) c.now_ms-now.result c.lost.result (g.S.Steps.is_worn c.tell-told-in-Lost.new.steps) c.args.round.now.turns c.tell-told-in-Lost.result
    (g.S.Steps.entries c.args.steps.now) (g.S.Steps.entries c.tell-told-in-Lost.new.steps) 0 None c.ended-in-Lost.result
    (λ entries are. are) tt refl c.now_ms-now.ensures.meets c.lost.ensures c.tell-told-in-Lost.ensures.asked c.tell-told-in-Lost.ensures.still c.tell-told-in-Lost.ensures.cause c.ended-in-Lost.ensures)

pub returns-in-Primary-clause-concludes : goal.returns-in-Primary-clause-concludes
returns-in-Primary-clause-concludes g c =
    subst (λ (l : Learned). Concludes g.B.Bringing (asker g.S.Steps g.C.Clock c.args.steps.now c.args.round.now.clock.now) c.args.own.now l (g.S.Steps.entries c.args.steps.now)
    (g.S.Steps.entries c.tell-told-in-Primary.new.steps) c.ended-in-Primary.result) (sym c.in-Primary.is)
    (concludes_by g.B.Bringing (asker g.S.Steps g.C.Clock c.args.steps.now c.args.round.now.clock.now) c.args.own.now (learned.Primary c.in-Primary.host c.in-Primary.url)
    (λ (now : ℕ). g.B.Bringing.primary_at now c.in-Primary.host) c.now_ms-now.result c.primary.result (g.S.Steps.is_worn c.tell-told-in-Primary.new.steps) c.args.round.now.turns c.tell-told-in-Primary.result
    (g.S.Steps.entries c.args.steps.now) (g.S.Steps.entries c.tell-told-in-Primary.new.steps) c.args.own.now.term (Some c.in-Primary.url) c.ended-in-Primary.result
    (λ entries are. are) tt refl c.now_ms-now.ensures.meets c.primary.ensures c.tell-told-in-Primary.ensures.asked c.tell-told-in-Primary.ensures.still c.tell-told-in-Primary.ensures.cause c.ended-in-Primary.ensures)

pub returns-in-Nothing-clause-concludes : goal.returns-in-Nothing-clause-concludes
returns-in-Nothing-clause-concludes g c =
    subst (λ (l : Learned). Concludes g.B.Bringing (asker g.S.Steps g.C.Clock c.args.steps.now c.args.round.now.clock.now) c.args.own.now l (g.S.Steps.entries c.args.steps.now)
    (g.S.Steps.entries c.args.steps.now) c.ended-in-Nothing.result) (sym c.in-Nothing.is)
    (concluded [] refl (sym (nothing_behind (g.S.Steps.entries c.args.steps.now))) c.ended-in-Nothing.ensures)

pub returns-in-Nobody-clause-concludes : goal.returns-in-Nobody-clause-concludes
returns-in-Nobody-clause-concludes g c =
    subst (λ (l : Learned). Concludes g.B.Bringing (asker g.S.Steps g.C.Clock c.args.steps.now c.args.round.now.clock.now) c.args.own.now l (g.S.Steps.entries c.args.steps.now)
    (g.S.Steps.entries c.args.steps.now) ends.Nobody) (sym c.in-Nobody.is)
    (concluded [] refl (sym (nothing_behind (g.S.Steps.entries c.args.steps.now))) refl)
