use Rattle.std.proofs.Common.{◌≡◌, ◌∙◌, true, IsTrue, Option, None, Some, Ok, Err, inl, refl, sym, ap, subst, arith}
use Rattle.std.specs.Prelude.{IsSomeAnd, is_some}
use Rattle.byte_locks.specs.LockList.{IsLockList}
use Rattle.lf_base.specs.declared.pos.Pos.{Pos}
use Rattle.lf_sqlite_pages.specs.Image.{DatabaseImage}
use Rattle.ltx_codec.specs.Positions.{after}
use Rattle.file_view.specs.Endings.{abandoned, committed}
use Rattle.file_view.specs.Overlay.{FitsImage, IsOverImage}
use Rattle.file_view.specs.Served.{Served, waits}
use Rattle.world_laws.specs.Node as laws
use Rattle.world_laws.specs.Store.{StoreState}
use Rattle.node_core.specs.declared.answer.Answer.TheVariants as answers
use Rattle.node_core.specs.declared.sent.Sent.{Sent}
use Rattle.node_core.specs.Nodes.{NodeParts, parts_of, seen}
use Rattle.node_core.specs.Replying.{AnswersForwarded, AppliesStore, IsDue, finished}
use Rattle.node_core.specs.Safely.{StepsSafely}
use Rattle.node_core.specs.Stores.{fields_of, history_of, said_of, state, told}
use Rattle.node_core.specs.Waiting.{Waits}
use Rattle.node_core.proofs.Answering.{told-after}
use Rattle.node_core.proofs.Dropped.{disk-rose}
use Rattle.node_core.proofs.Following.{page_size-most}
use Rattle.node_core.proofs.Owing.{at-position}
use Rattle.node_core.proofs.Replied.{abandoned-fits, abandoned-over, apply-changes, apply-image, apply-same, finish-safely, finished-fits, finished-idle, finished-locks, finished-name, finished-over, finished-writer, refuse-safely}
use Rattle.node_core.proofs.Sound.{sound}
use Rattle.node_core.proofs.node.Node.finish_sent.Goals as goal

pub apply-requires : goal.apply-requires
apply-requires g c =
    let n = c.args.self.now in
    let h = history_of n.store in
    (subst (λ (o : Option Sent). Waits (told h (fields_of n.store)) (fields_of n.store) n.view o) (sym c.take.ensures.value ∙ c.in-Some.is) n.awaits).0.valid

pub finish-requires : goal.finish-requires
finish-requires g c =
    let n = c.args.self.now in
    let h = history_of n.store in
    let valid = (subst (λ (o : Option Sent). Waits (told h (fields_of n.store)) (fields_of n.store) n.view o) (sym c.take.ensures.value ∙ c.in-Some.is) n.awaits).0.valid in
    omega (arith, c.in-Ok.ensures.stands.0, page_size-most c.in-Some.sent.file.header.page_size valid.header.page_size)

pub invariant_of-self-in-Ok : goal.invariant_of-self-in-Ok
invariant_of-self-in-Ok g c =
    let n = c.args.self.now in
    let old = parts_of n in
    let h = history_of n.store in
    let sent = c.in-Some.sent in
    let sent_is : n.sent ≡ Some sent = sym c.take.ensures.value ∙ c.in-Some.is in
    let taken : c.take.new.self ≡ None = c.take.ensures.after in
    let file = sent.file in
    let t = c.apply.new.store in
    let ft = fields_of t in
    let end = history_of t in
    let given = c.in-Ok.ensures in
    let at = c.in-Ok.position in
    let waiting : Waits (told h old.store) old.store n.view (Some sent) = subst (λ (o : Option Sent). Waits (told h old.store) old.store n.view o) sent_is n.awaits in
    let files : Served = record (finished sent.overtaken t.page_size t.commit n.view) { position = at } in
    let is : c.told_position.new.self ≡ files = c.told_position.ensures ∙ ap (λ (s : Served). record s { position = at }) c.finish.ensures in
    let over : IsTrue old.store.honest → IsOverImage c.told_position.new.self (state end ft).image = λ honest.
    subst (λ (s : Served). IsOverImage s (state end ft).image) (sym is)
    (finished-over n.view t.page_size t.commit at (state end ft).image sent.overtaken
    (λ not. subst (λ (i : DatabaseImage). IsOverImage (committed n.view) i) (sym (apply-image h end old.store ft file at given.answers (given.went honest)))
    (told-after h old.store file.change (λ i. IsOverImage (committed n.view) i) honest (waiting.1 not).stands.image))) in
    record {
      shape = subst (λ (s : Served). FitsImage s t.page_size t.commit) (sym is)
          (finished-fits n.view t.page_size t.commit at t.sized.pages sent.overtaken
          (λ not. subst (λ p. FitsImage (committed n.view) p t.commit) (sym given.stands.0) (subst (λ k. FitsImage (committed n.view) file.header.page_size k) (sym given.stands.1) (waiting.1 not).stands.shape)));
      image = λ still. over (sym c.apply.ensures.honest ∙ still);
      named = ap (λ (s : Served). s.name) is ∙ finished-name n.view t.page_size t.commit sent.overtaken ∙ n.named;
      told = ap (λ (s : Served). s.position) is ∙ given.answers.2 ∙ sym given.stands.2;
      replica = λ not. ap (λ (s : Served). s.writer) is ∙ finished-writer n.view t.page_size t.commit (n.replica not) sent.overtaken;
      alone = n.alone;
      idle = ap waits is ∙ finished-idle n.view t.page_size t.commit c.sound.ensures sent.overtaken ∙ sym (ap is_some taken);
      awaits = subst (λ (o : Option Sent). Waits (told end ft) ft c.told_position.new.self o) (sym taken) tt;
      locked = subst IsLockList (sym (ap (λ (s : Served). s.locks) is ∙ finished-locks n.view t.page_size t.commit sent.overtaken)) n.locked;
    }

pub returns-in-Ok-clause-does : goal.returns-in-Ok-clause-does
returns-in-Ok-clause-does g c =
    let n = c.args.self.now in
    let old = parts_of n in
    let h = history_of n.store in
    let sent = c.in-Some.sent in
    let sent_is : n.sent ≡ Some sent = sym c.take.ensures.value ∙ c.in-Some.is in
    let taken : c.take.new.self ≡ None = c.take.ensures.after in
    let file = sent.file in
    let t = c.apply.new.store in
    let ft = fields_of t in
    let end = history_of t in
    let given = c.in-Ok.ensures in
    let at = c.in-Ok.position in
    let waiting : Waits (told h old.store) old.store n.view (Some sent) = subst (λ (o : Option Sent). Waits (told h old.store) old.store n.view o) sent_is n.awaits in
    let files : Served = record (finished sent.overtaken t.page_size t.commit n.view) { position = at } in
    let is : c.told_position.new.self ≡ files = c.told_position.ensures ∙ ap (λ (s : Served). record s { position = at }) c.finish.ensures in
    let over : IsTrue old.store.honest → IsOverImage c.told_position.new.self (state end ft).image = λ honest.
    subst (λ (s : Served). IsOverImage s (state end ft).image) (sym is)
    (finished-over n.view t.page_size t.commit at (state end ft).image sent.overtaken
    (λ not. subst (λ (i : DatabaseImage). IsOverImage (committed n.view) i) (sym (apply-image h end old.store ft file at given.answers (given.went honest)))
    (told-after h old.store file.change (λ i. IsOverImage (committed n.view) i) honest (waiting.1 not).stands.image))) in
    let new : NodeParts = record old { store = ft; files = c.told_position.new.self; sent = c.take.new.self } in
    let there : c.told_position.new.self ≡ record (finished sent.overtaken file.header.page_size file.header.commit n.view) { position = after file } =
    is ∙ (λ i. record (finished sent.overtaken (given.stands.0 i) (given.stands.1 i) n.view) { position = given.answers.2 i }) in
    subst (λ (o : Option Sent). AnswersForwarded o true h old (answers.Done sent.reply) end new (said_of t)) (sym sent_is)
    (inl (
      subst (λ (o : Option Sent). IsSomeAnd o (IsDue old)) sent_is c.requires.due,
      (
        refl,
        record {
          store = subst (λ (p : Pos). AppliesStore h old.store file (Ok p) end ft) given.answers.2 record {
            answers = given.answers;
            cause = given.cause;
            stands = given.stands;
            store = λ honest. apply-changes h end old.store ft file (Ok at) given.answers (given.went honest);
            honest = c.apply.ensures.honest;
          };
          same = λ i. record old { store = ft; files = there i; sent = taken i };
        },
      ),
    ))

pub returns-in-Ok-clause-safe : goal.returns-in-Ok-clause-safe
returns-in-Ok-clause-safe g c honest =
    let n = c.args.self.now in
    let old = parts_of n in
    let h = history_of n.store in
    let sent = c.in-Some.sent in
    let sent_is : n.sent ≡ Some sent = sym c.take.ensures.value ∙ c.in-Some.is in
    let taken : c.take.new.self ≡ None = c.take.ensures.after in
    let file = sent.file in
    let t = c.apply.new.store in
    let ft = fields_of t in
    let end = history_of t in
    let given = c.in-Ok.ensures in
    let at = c.in-Ok.position in
    let waiting : Waits (told h old.store) old.store n.view (Some sent) = subst (λ (o : Option Sent). Waits (told h old.store) old.store n.view o) sent_is n.awaits in
    let files : Served = record (finished sent.overtaken t.page_size t.commit n.view) { position = at } in
    let is : c.told_position.new.self ≡ files = c.told_position.ensures ∙ ap (λ (s : Served). record s { position = at }) c.finish.ensures in
    let over : IsTrue old.store.honest → IsOverImage c.told_position.new.self (state end ft).image = λ honest.
    subst (λ (s : Served). IsOverImage s (state end ft).image) (sym is)
    (finished-over n.view t.page_size t.commit at (state end ft).image sent.overtaken
    (λ not. subst (λ (i : DatabaseImage). IsOverImage (committed n.view) i) (sym (apply-image h end old.store ft file at given.answers (given.went honest)))
    (told-after h old.store file.change (λ i. IsOverImage (committed n.view) i) honest (waiting.1 not).stands.image))) in
    let new : NodeParts = record old { store = ft; files = c.told_position.new.self; sent = None } in
    subst (λ (o : Option Sent). StepsSafely (seen h old) (laws.Forwarded true) laws.Done (seen end (record old { store = ft; files = c.told_position.new.self; sent = o })) h end) (sym taken)
    (finish-safely h end old sent sent_is ft c.told_position.new.self at (given.went honest)
    (sound end new (over honest) (subst (λ (s : Served). IsLockList s.locks) (sym is) (subst IsLockList (sym (finished-locks n.view t.page_size t.commit sent.overtaken)) n.locked)).together
    (λ not. ap (λ (s : Served). s.writer) is ∙ finished-writer n.view t.page_size t.commit (n.replica not) sent.overtaken))
    (at-position end ft (t.kept (c.apply.ensures.honest ∙ honest)) ∙ given.stands.2))

pub invariant_of-self-in-Err : goal.invariant_of-self-in-Err
invariant_of-self-in-Err g c =
    let n = c.args.self.now in
    let old = parts_of n in
    let h = history_of n.store in
    let sent = c.in-Some.sent in
    let sent_is : n.sent ≡ Some sent = sym c.take.ensures.value ∙ c.in-Some.is in
    let taken : c.take.new.self ≡ None = c.take.ensures.after in
    let file = sent.file in
    let t = c.apply.new.store in
    let ft = fields_of t in
    let end = history_of t in
    let given = c.in-Err.ensures in
    let why = c.in-Err.fault in
    let is : c.abandon.new.self ≡ abandoned n.view = c.abandon.ensures in
    let still : IsTrue old.store.honest → state end ft ≡ state h old.store = λ honest. apply-same h end old.store ft file why given.answers (given.went honest) in
    record {
      shape = subst (λ (s : Served). FitsImage s t.page_size t.commit) (sym is)
          (abandoned-fits n.view t.page_size t.commit (subst (λ p. FitsImage n.view p t.commit) (sym given.stands.0) (subst (λ k. FitsImage n.view n.store.page_size k) (sym given.stands.1) n.shape)));
      image = λ now.
          let honest = sym c.apply.ensures.honest ∙ now in
          subst (λ (s : Served). IsOverImage s (state end ft).image) (sym is)
          (abandoned-over n.view (state end ft).image (subst (λ (st : StoreState). IsOverImage n.view st.image) (sym (still honest)) (n.image honest)));
      named = ap (λ (s : Served). s.name) is ∙ n.named;
      told = ap (λ (s : Served). s.position) is ∙ n.told ∙ sym given.stands.2;
      replica = λ not. ap (λ (s : Served). s.writer) is ∙ n.replica not;
      alone = n.alone;
      idle = ap waits is ∙ sym (ap is_some taken);
      awaits = subst (λ (o : Option Sent). Waits (told end ft) ft c.abandon.new.self o) (sym taken) tt;
      locked = subst (λ (s : Served). IsLockList s.locks) (sym is) n.locked;
    }

pub returns-in-Err-clause-does : goal.returns-in-Err-clause-does
returns-in-Err-clause-does g c =
    let n = c.args.self.now in
    let old = parts_of n in
    let h = history_of n.store in
    let sent = c.in-Some.sent in
    let sent_is : n.sent ≡ Some sent = sym c.take.ensures.value ∙ c.in-Some.is in
    let taken : c.take.new.self ≡ None = c.take.ensures.after in
    let file = sent.file in
    let t = c.apply.new.store in
    let ft = fields_of t in
    let end = history_of t in
    let given = c.in-Err.ensures in
    let why = c.in-Err.fault in
    let is : c.abandon.new.self ≡ abandoned n.view = c.abandon.ensures in
    let still : IsTrue old.store.honest → state end ft ≡ state h old.store = λ honest. apply-same h end old.store ft file why given.answers (given.went honest) in
    let new : NodeParts = record old { store = ft; files = c.abandon.new.self; sent = c.take.new.self } in
    subst (λ (o : Option Sent). AnswersForwarded o true h old (answers.Refuse c.errno_of_store.result) end new (said_of t)) (sym sent_is)
    (inl (
      subst (λ (o : Option Sent). IsSomeAnd o (IsDue old)) sent_is c.requires.due,
      record {
        why = why;
        store = record {
          answers = given.answers;
          cause = given.cause;
          stands = given.stands;
          store = λ honest. apply-changes h end old.store ft file (Err why) given.answers (given.went honest);
          honest = c.apply.ensures.honest;
        };
        number_is = c.errno_of_store.ensures;
        same = λ i. record old { store = ft; files = is i; sent = taken i };
      },
    ))

pub returns-in-Err-clause-safe : goal.returns-in-Err-clause-safe
returns-in-Err-clause-safe g c honest =
    let n = c.args.self.now in
    let old = parts_of n in
    let h = history_of n.store in
    let sent = c.in-Some.sent in
    let sent_is : n.sent ≡ Some sent = sym c.take.ensures.value ∙ c.in-Some.is in
    let taken : c.take.new.self ≡ None = c.take.ensures.after in
    let file = sent.file in
    let t = c.apply.new.store in
    let ft = fields_of t in
    let end = history_of t in
    let given = c.in-Err.ensures in
    let why = c.in-Err.fault in
    let is : c.abandon.new.self ≡ abandoned n.view = c.abandon.ensures in
    let still : IsTrue old.store.honest → state end ft ≡ state h old.store = λ honest. apply-same h end old.store ft file why given.answers (given.went honest) in
    let new : NodeParts = record old { store = ft; files = abandoned n.view; sent = None } in
    subst (λ (k : NodeParts). StepsSafely (seen h old) (laws.Forwarded true) (laws.Refused laws.Other) (seen end k) h end) (sym (λ i. record old { store = ft; files = is i; sent = taken i }))
    (refuse-safely h end old sent sent_is ft why (given.went honest)
    (sound end new (abandoned-over n.view (state end ft).image (subst (λ (st : StoreState). IsOverImage n.view st.image) (sym (still honest)) (n.image honest))) n.locked.together n.replica)
    (still honest) (disk-rose {T = Pos} n.store.broken t.broken old.store.faults ft.faults (Err why) given.cause))
