use Rattle.std.proofs.Common.{◌≡◌, ◌∙◌, inr, refl}
use Rattle.ltx_codec.specs.Positions.{before}
use Rattle.world_laws.specs.Node as laws
use Rattle.node_core.specs.Nodes.{parts_of}
use Rattle.node_core.specs.Stores.{history_of, position}
use Rattle.node_core.proofs.Imported.{looks-safely}
use Rattle.node_core.proofs.Reading.{rests_stay}
use Rattle.node_core.proofs.node.Node.accept_transaction.Goals as goal

pub returns-then-not-follows-clause-safe : goal.returns-then-not-follows-clause-safe
returns-then-not-follows-clause-safe g c honest =
    let n = c.args.self.now in
    let h = history_of n.store in
    let old = parts_of n in
    looks-safely h h old old.store (laws.Forward c.args.file.now) (laws.Refused laws.Other) ∣ rests_stay h ∣₁ refl refl (n.store.left honest) (n.image honest) n.locked.together n.replica tt refl

pub returns-in-Ok-clause-does : goal.returns-in-Ok-clause-does
returns-in-Ok-clause-does g c =
    let follows : before c.args.file.now ≡ position (parts_of c.args.self.now).store = c.if-not-follows.ensures ∙ c.pos-have.ensures.value in
    inr (follows, c.commit_forwarded.ensures.does)

pub returns-in-Err-clause-does : goal.returns-in-Err-clause-does
returns-in-Err-clause-does g c =
    let h = history_of c.args.self.now.store in
    let follows : before c.args.file.now ≡ position (parts_of c.args.self.now).store = c.if-not-follows.ensures ∙ c.pos-have.ensures.value in
    inr (follows, (c.in-Err.ensures.held, (refl, ∣ rests_stay h ∣₁)))

pub returns-in-Err-clause-safe : goal.returns-in-Err-clause-safe
returns-in-Err-clause-safe g c honest =
    let n = c.args.self.now in
    let h = history_of n.store in
    let old = parts_of n in
    looks-safely h h old old.store (laws.Forward c.args.file.now) (laws.Held c.in-Err.lock) ∣ rests_stay h ∣₁ refl refl (n.store.left honest) (n.image honest) n.locked.together n.replica tt refl
