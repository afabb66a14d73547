use Rattle.std.proofs.Common.{◌≡◌, ap, refl, subst, sym}
use Rattle.lf_disk.specs.History.{History}
use Rattle.world_laws.specs.Node as laws
use Rattle.node_core.specs.Nodes.{NodeParts, history, parts_of}
use Rattle.node_core.specs.Stores.{OnlyRead, history_of}
use Rattle.node_core.proofs.Leased.{lease-news, stood}
use Rattle.node_core.proofs.Reading.{rests_stay}
use Rattle.node_core.proofs.node.Node.believe.Goals as goal

pub returns-clause-does : goal.returns-clause-does
returns-clause-does g c =
    let h = history c.args.self.now in
    let alike : history c.stand.new.self ≡ h = λ i. history_of (c.stand.ensures.store i) in
    record {
      quiet = refl;
      same = c.stand.ensures.parts;
      rests = subst (λ (e : History). OnlyRead h e) (sym alike) ∣ rests_stay h ∣₁;
    }

pub returns-clause-safe : goal.returns-clause-safe
returns-clause-safe g c honest =
    let n = c.args.self.now in
    let h = history n in
    let m = c.stand.new.self in
    stood laws.Lease lease-news h (parts_of n) (n.store.left honest) (n.image honest) n.locked.together n.replica (record n.standing { belief = c.args.belief }) (history m) (parts_of m)
    (λ i. history_of (c.stand.ensures.store i)) c.stand.ensures.parts

pub returns-clause-belief : goal.returns-clause-belief
returns-clause-belief g c = ap (λ (p : NodeParts). p.standing.belief) c.stand.ensures.parts

pub returns-clause-moment : goal.returns-clause-moment
returns-clause-moment g c = ap (λ (p : NodeParts). p.standing.moment) c.stand.ensures.parts
