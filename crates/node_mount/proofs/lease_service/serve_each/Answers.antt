use Rattle.std.proofs.Common.{rules, ◌^◌, ◌∙◌, refl, subst}
use Rattle.lease_link.specs.Serving.{IsLeaseSession}
use Rattle.node_mount.specs.LeaseService.{another, none}
use Rattle.node_mount.proofs.lease_service.serve_each.Goals as goal

pub loop-init : goal.loop-init
loop-init g c = record { given = c.requires; faults = refl; clock = refl; served = none refl refl }

pub loop-preserved : goal.loop-preserved
loop-preserved g c =
    let link = c.in-Ok-Some.link in
    let served = c.serve_lease in
    let session = subst (λ may. IsLeaseSession g.A.L.Link may (2 ^ 62) c.loop.table served.new.table link served.new.link served.result)
    c.loop.invariant.clock served.ensures.session in
    record {
      given = search rules;
      faults = c.in-Ok-Some.ensures.cause ∙ c.loop.invariant.faults;
      clock = served.ensures.clock ∙ c.loop.invariant.clock;
      served = another link served.new.link served.result c.loop.invariant.served session refl;
    }
