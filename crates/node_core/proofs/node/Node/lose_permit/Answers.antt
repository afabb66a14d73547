use Rattle.std.proofs.Common.{◌≡◌, ◌∙◌, IsTrue, Option, ap, refl, subst, sym}
use Rattle.halt_forward.specs.declared.halt_pass.HaltPass.{HaltPass}
use Rattle.lf_disk.specs.History.{History}
use Rattle.world_laws.specs.Node as laws
use Rattle.node_core.specs.declared.ask.Ask.TheVariants as asks
use Rattle.node_core.specs.declared.standing.Standing.{Standing}
use Rattle.node_core.specs.Leasing.{StepsAs}
use Rattle.node_core.specs.Nodes.{NodeParts, history, parts_of, seen, stands}
use Rattle.node_core.specs.Permitting.{unless_number}
use Rattle.node_core.specs.Stores.{OnlyRead, StoreFields, fields_of, history_of}
use Rattle.node_core.proofs.Leased.{permit-news, stood}
use Rattle.node_core.proofs.Reading.{rests_stay}
use Rattle.node_core.proofs.node.Node.lose_permit.Goals as goal

pub returns : goal.returns
returns g c =
    let n = c.args.self.now in
    let h = history n in
    let old = parts_of n in
    let m = c.stand.new.self in
    let alike : history m ≡ h = λ i. history_of (c.stand.ensures.store i) in
    let left : Standing = record n.standing { pass = unless_number c.args.number n.standing.pass } in
    let is : parts_of m ≡ stands left old = c.stand.ensures.parts ∙ ap (λ (p : Option HaltPass). stands (record n.standing { pass = p }) old) c.unless_number-pass.ensures in
    let safe : IsTrue old.store.honest → StepsAs (seen h old) laws.Permit laws.Done (seen (history m) (parts_of m)) h (history m) =
    λ honest. stood laws.Permit permit-news h old (n.store.left honest) (n.image honest) n.locked.together n.replica left (history m) (parts_of m) alike is in
    let each : IsTrue old.store.honest → (law : laws.Ask) → law ≡ laws.Permit → StepsAs (seen h old) law laws.Done (seen (history m) (parts_of m)) h (history m) =
    λ honest law of. subst (λ (a : laws.Ask). StepsAs (seen h old) a laws.Done (seen (history m) (parts_of m)) h (history m)) (sym of) (safe honest) in
    record {
      step = λ caller. record {
        does = record { quiet = refl; same = is; rests = subst (λ (e : History). OnlyRead h e) (sym alike) ∣ rests_stay h ∣₁ };
        safe = λ honest law of. (each honest law of).0;
        role = λ honest law of. (each honest law of).1;
        lease = (ap (λ (p : NodeParts). p.standing.belief) is, ap (λ (p : NodeParts). p.standing.moment) is);
        honest = ap (λ (p : NodeParts). p.store.honest) is;
      };
    }
