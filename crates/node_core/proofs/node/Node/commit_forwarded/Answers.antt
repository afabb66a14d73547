use Rattle.std.proofs.Common.{◌≡◌, ◌∙◌, Ok, Err, ap, refl, subst, sym, arith}
use Rattle.byte_locks.specs.LockList.{IsLockList}
use Rattle.lf_base.specs.declared.pos.Pos.{Pos}
use Rattle.ltx_codec.specs.Positions.{after}
use Rattle.file_view.specs.Endings.{applied}
use Rattle.file_view.specs.Overlay.{FitsImage, IsOverImage}
use Rattle.file_view.specs.Served.{Served, waits}
use Rattle.txn_log.specs.declared.fault.StoreFault.TheVariants as fault
use Rattle.world_laws.specs.Answers.{completed_over}
use Rattle.world_laws.specs.Node as laws
use Rattle.world_laws.specs.Store.{Commit, StoreState}
use Rattle.node_core.specs.declared.answer.Answer.TheVariants as answers
use Rattle.node_core.specs.declared.refusal.Refusal.{Refusal}
use Rattle.node_core.specs.Forwarding.{AcceptsStore, RefusesCommit}
use Rattle.node_core.specs.Nodes.{NodeParts, parts_of, role_in, seen}
use Rattle.node_core.specs.Safely.{law_answer}
use Rattle.node_core.specs.Stores.{fields_of, history_of, state, told}
use Rattle.node_core.proofs.Asking.{called}
use Rattle.node_core.proofs.Dropped.{disk-rose}
use Rattle.node_core.proofs.Facts.{leading, ok_err}
use Rattle.node_core.proofs.Following.{page_size-most, took-fits, took-over}
use Rattle.node_core.proofs.Forwarded.{accept-changes, accept-same, makes-accept, refuses-commit}
use Rattle.node_core.proofs.Refusing.{ran-undone}
use Rattle.node_core.proofs.Sound.{leads, sound}
use Rattle.node_core.specs.declared.sent.Sent.{Sent}
use Rattle.node_core.specs.Waiting.{Waits}
use Rattle.node_core.proofs.Waiting.{applied-waits, overtaken-some, waits-kept, waits-overtaken}
use Rattle.std.specs.Prelude.{Option, is_some}
use Rattle.node_core.proofs.node.Node.commit_forwarded.Goals as goal

pub applied-requires : goal.applied-requires
applied-requires g c = omega (arith, c.in-Ok.ensures.stands.0, page_size-most c.args.file.now.header.page_size c.requires.valid.header.page_size)

pub invariant_of-self : goal.invariant_of-self
invariant_of-self g c =
    let n = c.args.self.now in
    let t = c.accept.new.store in
    let at = c.pos.result in
    let files = record (applied n.view t.page_size t.commit) { position = at } in
    let is : c.told_position.new.self ≡ files = c.told_position.ensures ∙ ap (λ (s : Served). record s { position = at }) c.applied.ensures.done in
    record {
      shape = subst (λ (s : Served). FitsImage s t.page_size t.commit) (sym is) (took-fits n.view at t.page_size t.commit t.sized.pages);
      image = λ honest. let image = (state (history_of t) (fields_of t)).image in subst (λ (s : Served). IsOverImage s image) (sym is) (took-over n.view at t.page_size t.commit image);
      named = ap (λ (s : Served). s.name) is ∙ n.named;
      told = ap (λ (s : Served). s.position) is ∙ c.pos.ensures.value;
      replica = λ not. ap (λ (s : Served). s.writer) is;
      alone = n.alone;
      idle = ap waits is ∙ applied-waits n.view t.page_size t.commit ∙ n.idle ∙ sym (ap is_some c.overtake.ensures ∙ overtaken-some n.sent);
      awaits =
          let start = history_of n.store in
          let end = history_of t in
          let view = c.told_position.new.self in
          subst (λ (o : Option Sent). Waits (told end (fields_of t)) (fields_of t) view o) (sym c.overtake.ensures)
          (waits-overtaken (told start (fields_of n.store)) (told end (fields_of t)) (fields_of n.store) (fields_of t) n.view view n.sent n.awaits);
      locked = subst (λ (s : Served). IsLockList s.locks) (sym is) n.locked;
    }

pub invariant_of-self-in-Err-1 : goal.invariant_of-self-in-Err-1
invariant_of-self-in-Err-1 g c =
    let n = c.args.self.now in
    let s = n.store in
    let t = c.accept.new.store in
    let given = c.in-Err.ensures in
    record {
      shape = subst (λ p. FitsImage n.view p t.commit) (sym given.stands.0) (subst (λ k. FitsImage n.view s.page_size k) (sym given.stands.1) n.shape);
      image = λ still.
          let honest = sym c.accept.ensures.honest ∙ still in
          subst (λ (st : StoreState). IsOverImage n.view st.image)
          (sym (accept-same (history_of s) (history_of t) (fields_of s) (fields_of t) c.args.file.now c.in-Err.fault given.answers (given.went honest))) (n.image honest);
      named = n.named;
      told = n.told ∙ sym given.stands.2;
      replica = n.replica;
      alone = n.alone;
      idle = n.idle;
      awaits =
          let start = history_of s in
          let end = history_of t in
          waits-kept start end (fields_of s) (fields_of t) n.view n.sent c.accept.ensures.honest
          (λ honest. ap (λ (st : StoreState). st.image) (accept-same start end (fields_of s) (fields_of t) c.args.file.now c.in-Err.fault given.answers (given.went honest))) given.stands.2 n.awaits;
      locked = n.locked;
    }

pub returns-in-Ok-clause-does : goal.returns-in-Ok-clause-does
returns-in-Ok-clause-does g c =
    let n = c.args.self.now in
    let old = parts_of n in
    let h = history_of n.store in
    let t = c.accept.new.store in
    let end = history_of t in
    let file = c.args.file.now in
    let given = c.in-Ok.ensures in
    let told : c.in-Ok.position ≡ after file = given.answers.2 in
    let here : c.pos.result ≡ after file = c.pos.ensures.value ∙ given.stands.2 in
    let is : c.told_position.new.self ≡ record (applied n.view file.header.page_size file.header.commit) { position = after file } =
    c.told_position.ensures ∙ ap (λ (s : Served). record s { position = c.pos.result }) c.applied.ensures.done
    ∙ (λ i. record (applied n.view (given.stands.0 i) (given.stands.1 i)) { position = here i }) in (
      told,
      record {
        free = c.requires.free;
        store = subst (λ (p : Pos). AcceptsStore h old.store file (Ok p) end (fields_of t)) told record {
          answers = given.answers;
          cause = given.cause;
          stands = given.stands;
          store = λ honest. accept-changes h end old.store (fields_of t) file (Ok c.in-Ok.position) given.answers (given.went honest);
          honest = c.accept.ensures.honest;
        };
        same = λ i. record old { store = fields_of t; files = is i; sent = c.overtake.ensures i };
      },
    )

pub returns-in-Ok-clause-safe : goal.returns-in-Ok-clause-safe
returns-in-Ok-clause-safe g c honest =
    let n = c.args.self.now in
    let old = parts_of n in
    let h = history_of n.store in
    let t = c.accept.new.store in
    let end = history_of t in
    let file = c.args.file.now in
    let given = c.in-Ok.ensures in
    let here = c.pos.result in
    let files = record (applied n.view t.page_size t.commit) { position = here } in
    let is : c.told_position.new.self ≡ files = c.told_position.ensures ∙ ap (λ (s : Served). record s { position = here }) c.applied.ensures.done in
    let new : NodeParts = record old { store = fields_of t; files = c.told_position.new.self; sent = c.overtake.new.sent } in
    let image = (state end (fields_of t)).image in
    called (seen h old) (seen end new) (laws.Forward file) (laws.Applied c.in-Ok.position) (Commit (completed_over (state h old.store) file)) h end (makes-accept h old file c.requires.primary)
    (sound end new (subst (λ (s : Served). IsOverImage s image) (sym is) (took-over n.view here t.page_size t.commit image)) (subst (λ (s : Served). IsLockList s.locks) (sym is) n.locked).together
    (λ not. ap (λ (s : Served). s.writer) is))
    (λ plain still lock held. leading (seen h old) (seen end new) (leads (role_in old) c.requires.primary) plain still)
    (Ok c.in-Ok.position) (given.went honest) (λ same. absurd (ok_err c.in-Ok.position fault.Disk same)) (λ did failure ran. ((ran.0, ran.1), tt))

pub returns-in-Err-clause-does : goal.returns-in-Err-clause-does
returns-in-Err-clause-does g c =
    let n = c.args.self.now in
    let old = parts_of n in
    let h = history_of n.store in
    let t = c.accept.new.store in
    let end = history_of t in
    let file = c.args.file.now in
    let why = c.in-Err.fault in
    let given = c.in-Err.ensures in
    subst (λ (r : Refusal). RefusesCommit h old file r end (record old { store = fields_of t })) (sym c.refusal_of.ensures)
    (refuses-commit h old file why end (record old { store = fields_of t }) record {
      free = c.requires.free;
      store = record {
        answers = given.answers;
        cause = given.cause;
        stands = given.stands;
        store = λ honest. accept-changes h end old.store (fields_of t) file (Err why) given.answers (given.went honest);
        honest = c.accept.ensures.honest;
      };
      same = refl;
    })

pub returns-in-Err-clause-safe : goal.returns-in-Err-clause-safe
returns-in-Err-clause-safe g c honest =
    let n = c.args.self.now in
    let old = parts_of n in
    let h = history_of n.store in
    let t = c.accept.new.store in
    let end = history_of t in
    let file = c.args.file.now in
    let why = c.in-Err.fault in
    let given = c.in-Err.ensures in
    let new : NodeParts = record old { store = fields_of t } in
    let call = Commit (completed_over (state h old.store) file) in
    let still : state end (fields_of t) ≡ state h old.store = accept-same h end old.store (fields_of t) file why given.answers (given.went honest) in
    called (seen h old) (seen end new) (laws.Forward file) (law_answer (answers.Refused c.refusal_of.result)) call h end (makes-accept h old file c.requires.primary)
    (sound end new (subst (λ (s : StoreState). IsOverImage n.view s.image) (sym still) (n.image honest)) n.locked.together n.replica)
    (λ plain again lock held. leading (seen h old) (seen end new) (leads (role_in old) c.requires.primary) plain again)
    {T = Pos} (Err why) (given.went honest) (disk-rose {T = Pos} n.store.broken t.broken old.store.faults (fields_of t).faults (Err why) given.cause)
    (λ did failure ran. (tt, ran-undone Pos why call did failure ran))
