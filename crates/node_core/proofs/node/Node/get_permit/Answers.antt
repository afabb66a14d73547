use Rattle.std.proofs.Common.{◌≡◌, ◌∙◌, ap, inl, inr, refl, subst, sym}
use Rattle.file_view.specs.declared.view.Role.{Role}
use Rattle.lf_disk.specs.History.{History}
use Rattle.world_laws.specs.Node as laws
use Rattle.std.specs.Prelude.{Some}
use Rattle.node_core.specs.declared.standing.Standing.{Standing}
use Rattle.node_core.specs.Nodes.{NodeParts, history, parts_of}
use Rattle.node_core.specs.Permitting.{given_by}
use Rattle.node_core.specs.Stores.{OnlyRead, history_of}
use Rattle.node_core.proofs.Leased.{permit-news, stood, unseen-safely}
use Rattle.node_core.proofs.Reading.{rests_stay}
use Rattle.node_core.proofs.node.Node.get_permit.Goals as goal

pub returns-in-Replica-clause-does : goal.returns-in-Replica-clause-does
returns-in-Replica-clause-does g c =
    let n = c.args.self.now in
    let h = history n in
    let alike : history c.stand.new.self ≡ h = λ i. history_of (c.stand.ensures.store i) in
    record {
      quiet = refl;
      same = c.stand.ensures.parts ∙ sym (ap (λ (r : Role). given_by r c.args.pass (parts_of n)) (sym c.role.ensures ∙ c.in-Replica.is));
      rests = subst (λ (e : History). OnlyRead h e) (sym alike) ∣ rests_stay h ∣₁;
    }

pub returns-in-Replica-clause-safe : goal.returns-in-Replica-clause-safe
returns-in-Replica-clause-safe g c honest =
    let n = c.args.self.now in
    let h = history n in
    let m = c.stand.new.self in
    stood laws.Permit permit-news h (parts_of n) (n.store.left honest) (n.image honest) n.locked.together n.replica (record n.standing { pass = Some c.args.pass }) (history m) (parts_of m)
    (λ i. history_of (c.stand.ensures.store i)) c.stand.ensures.parts

pub returns-in-Primary : goal.returns-in-Primary
returns-in-Primary g c =
    let n = c.args.self.now in
    let h = history n in
    let old = parts_of n in
    record {
      does = record {
        quiet = refl;
        same = elim c.in-Primary.is [
          | inl primary ↦ sym (ap (λ (r : Role). given_by r c.args.pass old) (sym c.role.ensures ∙ primary))
          | inr halted ↦ sym (ap (λ (r : Role). given_by r c.args.pass old) (sym c.role.ensures ∙ halted))
        ];
        rests = ∣ rests_stay h ∣₁;
      };
      safe = λ honest. unseen-safely laws.Permit permit-news h old (n.store.left honest) (n.image honest) n.locked.together n.replica old laws.Done refl tt;
      belief = refl;
      moment = refl;
      honest = refl;
    }
