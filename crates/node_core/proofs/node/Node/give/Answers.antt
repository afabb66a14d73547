use Rattle.std.proofs.Common.{refl, subst, sym}
use Rattle.lf_base.specs.declared.pos.Pos.{Pos}
use Rattle.txn_log.specs.declared.answering.Answer.TheVariants as owed
use Rattle.world_laws.specs.Node as laws
use Rattle.node_core.specs.Hello.{IsOwed}
use Rattle.node_core.specs.Nodes.{parts_of, role_in, seen}
use Rattle.node_core.specs.Safely.{StepsSafely}
use Rattle.node_core.specs.Stores.{history_of, position}
use Rattle.node_core.proofs.Looked.{looks-says}
use Rattle.node_core.proofs.Lookups.{looked-at-nothing}
use Rattle.node_core.proofs.Owing.{tells-gone, tells-level}
use Rattle.node_core.proofs.Reading.{rests_stay}
use Rattle.node_core.proofs.Sound.{leads}
use Rattle.node_core.proofs.Steady.{steps-still}
use Rattle.node_core.proofs.node.Node.give.Goals as goal

pub returns-in-Gone-clause-safe : goal.returns-in-Gone-clause-safe
returns-in-Gone-clause-safe g c honest =
    let n = c.args.self.now in
    let h = history_of n.store in
    let old = parts_of n in
    let from = c.args.from in
    let last = c.args.last in
    let owes : IsOwed h old.store from last owed.Gone = record { doubted = c.args.doubted; doubts = c.requires.doubted; answers = c.in-Gone.ensures } in
    steps-still (seen h old) (seen h old) (laws.Hello from last) laws.Gone h h ∣ rests_stay h ∣₁ refl refl (n.store.left honest)
    (looks-says h h old old.store refl c.requires.primary (n.image honest) n.locked.together n.replica from last laws.Gone
    (tells-gone h old.store (n.store.kept honest) from last (seen h old) (seen h old) (seen h old).role (leads (role_in old) c.requires.primary) refl n.store.shaped h owes) tt)

pub returns-in-Level-clause-safe : goal.returns-in-Level-clause-safe
returns-in-Level-clause-safe g c honest =
    let n = c.args.self.now in
    let h = history_of n.store in
    let old = parts_of n in
    let from = c.args.from in
    let last = c.args.last in
    let owes : IsOwed h old.store from last owed.Level = record { doubted = c.args.doubted; doubts = c.requires.doubted; answers = c.in-Level.ensures } in
    subst (λ (p : Pos). StepsSafely (seen h old) (laws.Hello from last) (laws.Level p) (seen h old) h h) (sym c.pos.ensures.value)
    (steps-still (seen h old) (seen h old) (laws.Hello from last) (laws.Level (position old.store)) h h ∣ rests_stay h ∣₁ refl refl (n.store.left honest)
    (looks-says h h old old.store refl c.requires.primary (n.image honest) n.locked.together n.replica from last (laws.Level (position old.store))
    (tells-level h old.store (n.store.kept honest) from last (seen h old) (seen h old) (seen h old).role (leads (role_in old) c.requires.primary) refl h owes) tt))

pub returns-in-Gone-clause-does : goal.returns-in-Gone-clause-does
returns-in-Gone-clause-does g c = record {
  tells = (c.requires.primary, record { doubted = c.args.doubted; doubts = c.requires.doubted; answers = c.in-Gone.ensures });
  read = looked-at-nothing (history_of c.args.self.now.store) (parts_of c.args.self.now).store;
  same = refl;
}

pub returns-in-Level-clause-does : goal.returns-in-Level-clause-does
returns-in-Level-clause-does g c = record {
  tells = (c.requires.primary, c.pos.ensures.value, record { doubted = c.args.doubted; doubts = c.requires.doubted; answers = c.in-Level.ensures });
  read = looked-at-nothing (history_of c.args.self.now.store) (parts_of c.args.self.now).store;
  same = refl;
}

pub give_file-requires-clause-owed : goal.give_file-requires-clause-owed
give_file-requires-clause-owed g c = record { doubted = c.args.doubted; doubts = c.requires.doubted; answers = c.in-Files.ensures }

pub give_snapshot-requires-clause-owed : goal.give_snapshot-requires-clause-owed
give_snapshot-requires-clause-owed g c = record { doubted = c.args.doubted; doubts = c.requires.doubted; answers = c.in-Snapshot.ensures }
