use Rattle.std.proofs.Common.{◌≡◌, ◌∙◌, Ok, Err, ap, refl, subst, sym}
use Rattle.byte_locks.specs.LockList.{IsLockList}
use Rattle.lf_base.specs.declared.pos.Pos.{Pos}
use Rattle.file_view.specs.Endings.{applied}
use Rattle.file_view.specs.Overlay.{FitsImage, IsOverImage}
use Rattle.file_view.specs.Served.{Served, waits}
use Rattle.txn_log.specs.Store.{end_of_entries}
use Rattle.txn_log.specs.declared.fault.StoreFault.TheVariants as fault
use Rattle.world_laws.specs.Node as laws
use Rattle.world_laws.specs.Store.{Commit, StoreState}
use Rattle.node_core.specs.declared.answer.Answer.TheVariants as answers
use Rattle.node_core.specs.declared.refusal.Refusal.{Refusal}
use Rattle.node_core.specs.Committing.{file_of}
use Rattle.node_core.specs.Importing.{AnswersChange}
use Rattle.node_core.specs.Nodes.{NodeParts, parts_of, role_in, seen}
use Rattle.node_core.specs.Safely.{law_answer}
use Rattle.node_core.specs.Stores.{failed, fields_of, history_of, state, told}
use Rattle.node_core.proofs.Asking.{called}
use Rattle.node_core.proofs.Calls.{err-same}
use Rattle.node_core.proofs.Dropped.{disk-rose}
use Rattle.node_core.proofs.Facts.{leading, ok_err}
use Rattle.node_core.proofs.Following.{took-fits, took-over}
use Rattle.node_core.proofs.Imported.{commit-changes, makes-import, refuses-change, sized-most}
use Rattle.node_core.proofs.Refusing.{ran-undone}
use Rattle.node_core.proofs.Sound.{leads, sound}
use Rattle.node_core.specs.declared.sent.Sent.{Sent}
use Rattle.node_core.specs.Waiting.{Waits}
use Rattle.node_core.proofs.Waiting.{applied-waits, overtaken-some, waits-kept, waits-overtaken}
use Rattle.std.specs.Prelude.{Option, is_some}
use Rattle.node_core.proofs.node.Node.commit_import.Goals as goal

pub applied-requires : goal.applied-requires
applied-requires g c =
    let t = c.commit.new.self in
    sized-most t.page_size t.sized.sized

pub invariant_of-self : goal.invariant_of-self
invariant_of-self g c =
    let n = c.args.self.now in
    let t = c.commit.new.self in
    let at = c.in-Ok.position in
    let files = record (applied n.view t.page_size t.commit) { position = at } in
    let is : c.told_position.new.self ≡ files = c.told_position.ensures ∙ ap (λ (s : Served). record s { position = at }) c.applied.ensures.done in
    record {
      shape = subst (λ (s : Served). FitsImage s t.page_size t.commit) (sym is) (took-fits n.view at t.page_size t.commit t.sized.pages);
      image = λ honest. let image = (state (history_of t) (fields_of t)).image in subst (λ (s : Served). IsOverImage s image) (sym is) (took-over n.view at t.page_size t.commit image);
      named = ap (λ (s : Served). s.name) is ∙ n.named;
      told = ap (λ (s : Served). s.position) is ∙ sym c.in-Ok.ensures.position;
      replica = λ not. ap (λ (s : Served). s.writer) is;
      alone = n.alone;
      idle = ap waits is ∙ applied-waits n.view t.page_size t.commit ∙ n.idle ∙ sym (ap is_some c.overtake.ensures ∙ overtaken-some n.sent);
      awaits =
          let start = history_of n.store in
          let end = history_of t in
          let view = c.told_position.new.self in
          subst (λ (o : Option Sent). Waits (told end (fields_of t)) (fields_of t) view o) (sym c.overtake.ensures)
          (waits-overtaken (told start (fields_of n.store)) (told end (fields_of t)) (fields_of n.store) (fields_of t) n.view view n.sent n.awaits);
      locked = subst (λ (s : Served). IsLockList s.locks) (sym is) n.locked;
    }

pub returns-in-Ok-clause-does : goal.returns-in-Ok-clause-does
returns-in-Ok-clause-does g c =
    let n = c.args.self.now in
    let old = parts_of n in
    let h = history_of n.store in
    let t = c.commit.new.self in
    let end = history_of t in
    let change = c.args.change in
    let at = c.in-Ok.position in
    let given = c.in-Ok.ensures in
    let is : c.told_position.new.self ≡ record (applied n.view change.page_size change.commit) { position = at } =
    c.told_position.ensures ∙ ap (λ (s : Served). record s { position = at }) c.applied.ensures.done ∙ (λ i. record (applied n.view (given.shape.0 i) (given.shape.1 i)) { position = at }) in
    record {
      store = record {
        answers = given.commits;
        cause = given.cause;
        store = λ honest. commit-changes h end old (fields_of t) change (Ok at) given.commits (given.went honest);
        honest = c.commit.ensures.honest;
      };
      shape = (given.shape.0, given.shape.1, given.position);
      same = λ i. record old { store = fields_of t; files = is i; sent = c.overtake.ensures i };
    }

pub returns-in-Ok-clause-safe : goal.returns-in-Ok-clause-safe
returns-in-Ok-clause-safe g c honest =
    let n = c.args.self.now in
    let old = parts_of n in
    let h = history_of n.store in
    let t = c.commit.new.self in
    let end = history_of t in
    let change = c.args.change in
    let at = c.in-Ok.position in
    let given = c.in-Ok.ensures in
    let files = record (applied n.view t.page_size t.commit) { position = at } in
    let is : c.told_position.new.self ≡ files = c.told_position.ensures ∙ ap (λ (s : Served). record s { position = at }) c.applied.ensures.done in
    let new : NodeParts = record old { store = fields_of t; files = c.told_position.new.self; sent = c.overtake.new.sent } in
    let image = (state end (fields_of t)).image in
    called (seen h old) (seen end new) laws.Import (laws.Applied at) (Commit (file_of old change)) h end (makes-import h old change c.requires.primary)
    (sound end new (subst (λ (s : Served). IsOverImage s image) (sym is) (took-over n.view at t.page_size t.commit image)) (subst (λ (s : Served). IsLockList s.locks) (sym is) n.locked).together
    (λ not. ap (λ (s : Served). s.writer) is))
    (λ plain still lock held. leading (seen h old) (seen end new) (leads (role_in old) c.requires.primary) plain still)
    (Ok at) (given.went honest) (λ same. absurd (ok_err at fault.Disk same)) (λ did failure ran. (tt, tt))

pub invariant_of-self-in-Err-1 : goal.invariant_of-self-in-Err-1
invariant_of-self-in-Err-1 g c =
    let n = c.args.self.now in
    let old = parts_of n in
    let t = c.commit.new.self in
    let given = c.in-Err.ensures in
    record {
      shape = subst (λ p. FitsImage n.view p t.commit) (sym given.same.0) (subst (λ k. FitsImage n.view n.store.page_size k) (sym given.same.1) n.shape);
      image = λ still.
          let honest = sym c.commit.ensures.honest ∙ still in
          let h = history_of n.store in
          let end = history_of t in
          let alike : state end (fields_of t) ≡ state h old.store =
          err-same Pos (state h old.store) (state end (fields_of t)) (failed h old.store) (failed end (fields_of t)) (Commit (file_of old c.args.change)) c.in-Err.fault
          (commit-changes h end old (fields_of t) c.args.change (Err c.in-Err.fault) given.commits (given.went honest)) in
          subst (λ (st : StoreState). IsOverImage n.view st.image) (sym alike) (n.image honest);
      named = n.named;
      told = n.told ∙ sym (ap end_of_entries given.same.2);
      replica = n.replica;
      alone = n.alone;
      idle = n.idle;
      awaits =
          let h = history_of n.store in
          let end = history_of t in
          waits-kept h end (fields_of n.store) (fields_of t) n.view n.sent c.commit.ensures.honest
          (λ honest. ap (λ (st : StoreState). st.image)
          (err-same Pos (state h old.store) (state end (fields_of t)) (failed h old.store) (failed end (fields_of t)) (Commit (file_of old c.args.change)) c.in-Err.fault
          (commit-changes h end old (fields_of t) c.args.change (Err c.in-Err.fault) given.commits (given.went honest)))) (ap end_of_entries given.same.2) n.awaits;
      locked = n.locked;
    }

pub returns-in-Err-clause-does : goal.returns-in-Err-clause-does
returns-in-Err-clause-does g c =
    let n = c.args.self.now in
    let old = parts_of n in
    let h = history_of n.store in
    let t = c.commit.new.self in
    let end = history_of t in
    let change = c.args.change in
    let why = c.in-Err.fault in
    let given = c.in-Err.ensures in
    subst (λ (r : Refusal). AnswersChange h old change (answers.Refused r) end (record old { store = fields_of t })) (sym c.refusal_of.ensures)
    (refuses-change h old change why end (record old { store = fields_of t }) record {
      store = record {
        answers = given.commits;
        cause = given.cause;
        store = λ honest. commit-changes h end old (fields_of t) change (Err why) given.commits (given.went honest);
        honest = c.commit.ensures.honest;
      };
      shape = (given.same.0, given.same.1, ap end_of_entries given.same.2);
      same = refl;
    })

pub returns-in-Err-clause-safe : goal.returns-in-Err-clause-safe
returns-in-Err-clause-safe g c honest =
    let n = c.args.self.now in
    let old = parts_of n in
    let h = history_of n.store in
    let t = c.commit.new.self in
    let end = history_of t in
    let change = c.args.change in
    let why = c.in-Err.fault in
    let given = c.in-Err.ensures in
    let new : NodeParts = record old { store = fields_of t } in
    let alike : state end (fields_of t) ≡ state h old.store =
    err-same Pos (state h old.store) (state end (fields_of t)) (failed h old.store) (failed end (fields_of t)) (Commit (file_of old change)) why
    (commit-changes h end old (fields_of t) change (Err why) given.commits (given.went honest)) in
    called (seen h old) (seen end new) laws.Import (law_answer (answers.Refused c.refusal_of.result)) (Commit (file_of old change)) h end (makes-import h old change c.requires.primary)
    (sound end new (subst (λ (s : StoreState). IsOverImage n.view s.image) (sym alike) (n.image honest)) n.locked.together n.replica)
    (λ plain still lock held. leading (seen h old) (seen end new) (leads (role_in old) c.requires.primary) plain still)
    {T = Pos} (Err why) (given.went honest) (disk-rose {T = Pos} n.store.broken t.broken old.store.faults (fields_of t).faults (Err why) given.cause)
    (λ did failure ran. (tt, ran-undone Pos why (Commit (file_of old change)) did failure ran))
