use Rattle.std.proofs.Common.{◌≡◌, ◌∙◌, ◌≤◌, ◌++◌, ℕ, List, [], None, inr, ap, refl, subst, sym}
use Rattle.ltx_codec.specs.Fields.{AreBytes}
use Rattle.ltx_codec.specs.FileIn.{file_in}
use Rattle.ltx_codec.specs.Format.{file_encoding, no_meaning}
use Rattle.world_laws.specs.Answers.{snapshot_of}
use Rattle.world_laws.specs.Node as laws
use Rattle.node_core.specs.declared.answer.Answer.TheVariants as answers
use Rattle.node_core.specs.declared.refusal.Refusal.{Refusal}
use Rattle.node_core.specs.Hello.{RefusesHello}
use Rattle.node_core.specs.Nodes.{NodeParts, parts_of, role_in, seen}
use Rattle.node_core.specs.Safely.{StepsSafely, law_answer, law_store_fault}
use Rattle.node_core.specs.Stores.{failed, fields_of, history_of, position, state}
use Rattle.node_core.proofs.Asking.{failed-some}
use Rattle.node_core.proofs.Calls.{stays}
use Rattle.node_core.proofs.Facts.{steps}
use Rattle.node_core.proofs.Looked.{looks-says, same-but-faults}
use Rattle.node_core.proofs.Owing.{owes-snapshot, some-owed, tells-snapshot}
use Rattle.node_core.proofs.Reading.{rests_stay}
use Rattle.node_core.proofs.Refusing.{law-refusal-of, read-refused, reads-later, refuses-read}
use Rattle.node_core.proofs.Sound.{leads}
use Rattle.node_core.proofs.node.Node.give_snapshot.Goals as goal

pub returns-in-Ok-clause-does : goal.returns-in-Ok-clause-does
returns-in-Ok-clause-does g c =
    let n = c.args.self.now in
    let s = n.store in
    let h = history_of s in
    let t = c.make.new.store in
    let f = c.make.ensures.fields in
    let m = c.make.ensures.marks in
    let same : fields_of t ≡ record (fields_of s) { faults = (fields_of t).faults } =
    same-but-faults (fields_of s) (fields_of t) c.make.ensures.honest f.2 f.3 f.0 f.1 f.4 m.0 f.5 m.1 m.2 m.3 m.4 in
    let written : 1 ≤ (position (fields_of s)).txid = s.shaped.some (some-owed h (fields_of s) c.args.from c.args.last c.requires.owed) in
    record {
      tells = (
        c.requires.primary,
        inr (inr record {
          owed = c.requires.owed;
          written = written;
          leads = c.pos-after.ensures.value;
          encoding = λ honest.
              c.of.ensures ∙ c.in-Ok.ensures.bytes honest ∙ ap (λ (l : List ℕ). l ++ file_encoding (snapshot_of (state h (fields_of s))) no_meaning) c.new-bytes.ensures.items;
        }),
      );
      read = record {
        same = same;
        faults = reads-later s.broken (fields_of s).faults (fields_of t).faults c.make.result c.make.ensures.cause;
        state = λ honest. (c.make.ensures.went honest).store;
        failed = λ honest. (c.make.ensures.went honest).broken ∙ stays (failed h (fields_of s));
      };
      same = refl;
    }

pub returns-in-Ok-clause-safe : goal.returns-in-Ok-clause-safe
returns-in-Ok-clause-safe g c honest =
    let n = c.args.self.now in
    let old = parts_of n in
    let h = history_of n.store in
    let t = c.make.new.store in
    let end = history_of t in
    let new : NodeParts = record old { store = fields_of t } in
    let from = c.args.from in
    let last = c.args.last in
    let ltx : List ℕ = c.of.result in
    let octets : AreBytes ltx = subst (λ (l : List ℕ). AreBytes l) (c.as_slice.ensures.value ∙ sym c.of.ensures) c.are_bytes.ensures in
    let written : 1 ≤ (position old.store).txid = n.store.shaped.some (some-owed h old.store from last c.requires.owed) in
    let encoding : ltx ≡ file_encoding (snapshot_of (state h old.store)) no_meaning =
    c.of.ensures ∙ c.in-Ok.ensures.bytes honest ∙ ap (λ (l : List ℕ). l ++ file_encoding (snapshot_of (state h old.store)) no_meaning) c.new-bytes.ensures.items in
    let owes = tells-snapshot h old.store (n.store.kept honest) from last c.file_is_read.ensures ltx octets written h c.requires.owed (c.snapshot_is_a_file.ensures.sound honest) encoding in
    let went = c.make.ensures.went honest in
    steps (seen h old) (seen end new) (laws.Hello from last) (laws.Item (file_in ltx)) [] None h h end ∣ rests_stay h ∣₁ went
    (looks-says h end old (fields_of t) went.store c.requires.primary (n.image honest) n.locked.together n.replica from last (laws.Item (file_in ltx)) (leads (role_in old) c.requires.primary, owes.0, owes.1) tt)

pub returns-in-Err-clause-safe : goal.returns-in-Err-clause-safe
returns-in-Err-clause-safe g c honest =
    let n = c.args.self.now in
    let old = parts_of n in
    let h = history_of n.store in
    let t = c.make.new.store in
    let end = history_of t in
    let new : NodeParts = record old { store = fields_of t } in
    let from = c.args.from in
    let last = c.args.last in
    let why = c.in-Err.fault in
    let went = c.make.ensures.went honest in
    let safe : StepsSafely (seen h old) (laws.Hello from last) (laws.Refused (law_store_fault why)) (seen end new) h end =
    steps (seen h old) (seen end new) (laws.Hello from last) (laws.Refused (law_store_fault why)) [] None h h end ∣ rests_stay h ∣₁ went
    (looks-says h end old (fields_of t) went.store c.requires.primary (n.image honest) n.locked.together n.replica from last (laws.Refused (law_store_fault why))
    (read-refused (Unit {0}) (seen h old) (seen end new) (seen h old).role from last n.store.broken why (failed-some h n.store.broken n.store.attempt n.store.tried) c.in-Err.ensures.cause) refl) in
    subst (λ (r : Refusal). StepsSafely (seen h old) (laws.Hello from last) (law_answer (answers.Refused r)) (seen end new) h end) (sym c.refusal_of.ensures)
    (subst (λ (r : laws.Refusal). StepsSafely (seen h old) (laws.Hello from last) (laws.Refused r) (seen end new) h end) (sym (law-refusal-of why)) safe)

pub returns-in-Err-clause-does : goal.returns-in-Err-clause-does
returns-in-Err-clause-does g c =
    let n = c.args.self.now in
    let s = n.store in
    let old = parts_of n in
    let h = history_of s in
    let t = c.make.new.store in
    let f = c.make.ensures.fields in
    let m = c.make.ensures.marks in
    let from = c.args.from in
    let last = c.args.last in
    let why = c.in-Err.fault in
    record {
      tells =
          subst (λ (r : Refusal). RefusesHello old from last r (fields_of t)) (sym c.refusal_of.ensures)
          (refuses-read (Unit {0}) old from last why (fields_of t) c.requires.primary (owes-snapshot h old.store from last c.requires.owed) c.in-Err.ensures.cause);
      read = record {
        same = same-but-faults (fields_of s) (fields_of t) c.make.ensures.honest f.2 f.3 f.0 f.1 f.4 m.0 f.5 m.1 m.2 m.3 m.4;
        faults = reads-later s.broken (fields_of s).faults (fields_of t).faults c.make.result c.make.ensures.cause;
        state = λ honest. (c.make.ensures.went honest).store;
        failed = λ honest. (c.make.ensures.went honest).broken ∙ stays (failed h (fields_of s));
      };
      same = refl;
    }
