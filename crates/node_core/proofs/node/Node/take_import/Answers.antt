use Rattle.std.proofs.Common.{◌≡◌, ◌∙◌, ℕ, IsTrue, List, None, Option, Some, Err, Ok, ap, refl, subst, sym}
use Rattle.lf_sqlite_pages.specs.Change.{FitsOver, PageChange}
use Rattle.database_file.specs.Commit.{LeadsTo}
use Rattle.snapshot.specs.Bytes.{ImportsWith, image_of_bytes}
use Rattle.std.specs.Prelude.{IfSome}
use Rattle.world_laws.specs.Node as laws
use Rattle.node_core.specs.declared.answer.Answer.TheVariants as answers
use Rattle.node_core.specs.declared.refusal.Refusal.{Refusal}
use Rattle.node_core.specs.Importing.{AnswersChange, RefusesImport}
use Rattle.node_core.specs.Nodes.{NodeParts, parts_of, seen}
use Rattle.node_core.specs.Safely.{law_answer}
use Rattle.node_core.specs.Stores.{StoreFields, failed, fields_of, history_of, position, state}
use Rattle.node_core.proofs.Calls.{stays}
use Rattle.node_core.proofs.Imported.{as-it-was, change-since, compared, imports-by, is-there, looks-safely, refuses-bytes, takes-change}
use Rattle.node_core.proofs.Looked.{same-but-faults}
use Rattle.node_core.proofs.Lookups.{safely-since, seen-since}
use Rattle.node_core.proofs.node.Node.take_import.Goals as goal

pub returns-in-Ok-None-clause-does : goal.returns-in-Ok-None-clause-does
returns-in-Ok-None-clause-does g c =
    let n = c.args.self.now in
    let old = parts_of n in
    let s = n.store in
    let h = history_of s in
    let t = c.import_change.new.store in
    let mid = history_of t in
    let given = c.import_change.ensures in
    let f = given.fields in
    let m = given.marks in
    let bytes = c.args.bytes.now in
    let same : fields_of t ≡ record old.store { faults = (fields_of t).faults } = same-but-faults old.store (fields_of t) given.honest f.2 f.3 f.0 f.1 f.4 m.0 f.5 m.1 m.2 m.3 m.4 in
    let alike : IsTrue old.store.honest → state mid (fields_of t) ≡ state h old.store = λ honest. (given.went honest).store in
    let was : IsTrue old.store.honest → failed mid (fields_of t) ≡ failed h old.store = λ honest. (given.went honest).broken ∙ stays (failed h old.store) in
    let found : Option PageChange = c.in-Ok-None.field-0 in
    let cause : ImportsWith bytes s.broken old.store.faults (fields_of t).faults (Ok found) = subst (λ (l : List ℕ). ImportsWith l s.broken old.store.faults (fields_of t).faults (Ok found)) c.as_slice.ensures c.in-Ok-None.ensures.cause in
    let leads : IsTrue old.store.honest → LeadsTo (state h old.store).image (image_of_bytes bytes) None = λ honest.
    subst (λ (o : Option PageChange). LeadsTo (state h old.store).image (image_of_bytes bytes) o) c.in-Ok-None.field-0-is
    (subst (λ (l : List ℕ). LeadsTo (state h old.store).image (image_of_bytes l) found) c.as_slice.ensures (c.in-Ok-None.ensures.leads honest)) in (
      c.pos.ensures.value ∙ ap position (as-it-was h mid old (fields_of t) bytes c.requires.free same alike was ∣ given.rests ∣₁ found cause),
      is-there h mid old (fields_of t) bytes c.requires.free same alike was ∣ given.rests ∣₁ found cause leads,
    )

pub returns-in-Ok-None-clause-safe : goal.returns-in-Ok-None-clause-safe
returns-in-Ok-None-clause-safe g c honest =
    let n = c.args.self.now in
    let old = parts_of n in
    let h = history_of n.store in
    let t = c.import_change.new.store in
    let given = c.import_change.ensures in
    looks-safely h (history_of t) old (fields_of t) laws.Import laws.Done ∣ given.rests ∣₁ (given.went honest).store ((given.went honest).broken ∙ stays (failed h old.store))
    (t.left (given.honest ∙ honest)) (n.image honest) n.locked.together n.replica tt tt

pub returns-in-Ok-Some-clause-does : goal.returns-in-Ok-Some-clause-does
returns-in-Ok-Some-clause-does g c =
    let n = c.args.self.now in
    let old = parts_of n in
    let s = n.store in
    let h = history_of s in
    let t = c.import_change.new.store in
    let mid = history_of t in
    let given = c.import_change.ensures in
    let f = given.fields in
    let m = given.marks in
    let bytes = c.args.bytes.now in
    let same : fields_of t ≡ record old.store { faults = (fields_of t).faults } = same-but-faults old.store (fields_of t) given.honest f.2 f.3 f.0 f.1 f.4 m.0 f.5 m.1 m.2 m.3 m.4 in
    let alike : IsTrue old.store.honest → state mid (fields_of t) ≡ state h old.store = λ honest. (given.went honest).store in
    let was : IsTrue old.store.honest → failed mid (fields_of t) ≡ failed h old.store = λ honest. (given.went honest).broken ∙ stays (failed h old.store) in
    let found : Option PageChange = c.in-Ok-Some.field-0 in
    let change : PageChange = c.in-Ok-Some.change in
    let cause : ImportsWith bytes s.broken old.store.faults (fields_of t).faults (Ok found) = subst (λ (l : List ℕ). ImportsWith l s.broken old.store.faults (fields_of t).faults (Ok found)) c.as_slice.ensures c.in-Ok-Some.ensures.cause in
    let leads : IsTrue old.store.honest → LeadsTo (state h old.store).image (image_of_bytes bytes) (Some change) = λ honest.
    subst (λ (o : Option PageChange). LeadsTo (state h old.store).image (image_of_bytes bytes) o) c.in-Ok-Some.field-0-is
    (subst (λ (l : List ℕ). LeadsTo (state h old.store).image (image_of_bytes l) found) c.as_slice.ensures (c.in-Ok-Some.ensures.leads honest)) in
    let fits : IsTrue old.store.honest → FitsOver old.store.page_size old.store.commit change = λ honest.
    subst (λ (o : Option PageChange). IfSome o (FitsOver old.store.page_size old.store.commit)) c.in-Ok-Some.field-0-is (c.in-Ok-Some.ensures.fits honest) in
    let still : fields_of t ≡ old.store = as-it-was h mid old (fields_of t) bytes c.requires.free same alike was ∣ given.rests ∣₁ found cause in
    let is = imports-by h mid old (fields_of t) bytes c.requires.free same alike was ∣ given.rests ∣₁ found cause change leads fits in
    let e = c.commit_import.new.self in
    let end = history_of e.store in
    let answer = c.commit_import.result in
    let at_old : AnswersChange mid old change answer end (parts_of e) =
    subst (λ (b : StoreFields). AnswersChange mid (record old { store = b }) change answer end (parts_of e)) still c.commit_import.ensures.does in
    let alike_old : IsTrue old.store.honest → state mid old.store ≡ state h old.store = subst (λ (b : StoreFields). IsTrue old.store.honest → state mid b ≡ state h old.store) still alike in
    let was_old : IsTrue old.store.honest → failed mid old.store ≡ failed h old.store = subst (λ (b : StoreFields). IsTrue old.store.honest → failed mid b ≡ failed h old.store) still was in
    takes-change h old bytes change c.requires.free is end (parts_of e) answer (change-since h mid old alike_old was_old change end answer (parts_of e) at_old)

pub returns-in-Ok-Some-clause-safe : goal.returns-in-Ok-Some-clause-safe
returns-in-Ok-Some-clause-safe g c honest =
    let n = c.args.self.now in
    let old = parts_of n in
    let s = n.store in
    let h = history_of s in
    let t = c.import_change.new.store in
    let mid = history_of t in
    let given = c.import_change.ensures in
    let f = given.fields in
    let m = given.marks in
    let same : fields_of t ≡ record old.store { faults = (fields_of t).faults } = same-but-faults old.store (fields_of t) given.honest f.2 f.3 f.0 f.1 f.4 m.0 f.5 m.1 m.2 m.3 m.4 in
    let still : fields_of t ≡ old.store = same ∙ ap (λ (k : ℕ). record old.store { faults = k }) c.in-Ok-Some.ensures.cause.3 in
    let between : NodeParts = record old { store = fields_of t } in
    let e = c.commit_import.new.self in
    let end = history_of e.store in
    safely-since h mid end (seen h old) (seen mid between) (seen end (parts_of e)) laws.Import (law_answer c.commit_import.result) given.rests.moment given.rests.past
    (seen-since h mid old between (given.went honest).store ((given.went honest).broken ∙ stays (failed h old.store)) (ap (λ (b : StoreFields). record old { store = b }) still))
    (c.commit_import.ensures.safe (given.honest ∙ honest))

pub returns-in-Err-clause-does : goal.returns-in-Err-clause-does
returns-in-Err-clause-does g c =
    let n = c.args.self.now in
    let old = parts_of n in
    let s = n.store in
    let h = history_of s in
    let t = c.import_change.new.store in
    let mid = history_of t in
    let given = c.import_change.ensures in
    let f = given.fields in
    let m = given.marks in
    let bytes = c.args.bytes.now in
    let why = c.in-Err.fault in
    let new : NodeParts = record old { store = fields_of t } in
    let same : fields_of t ≡ record old.store { faults = (fields_of t).faults } = same-but-faults old.store (fields_of t) given.honest f.2 f.3 f.0 f.1 f.4 m.0 f.5 m.1 m.2 m.3 m.4 in
    let cause : ImportsWith {T = Unit {0}} bytes s.broken old.store.faults (fields_of t).faults (Err why) =
    subst (λ (l : List ℕ). ImportsWith {T = Unit {0}} l s.broken old.store.faults (fields_of t).faults (Err why)) c.as_slice.ensures c.in-Err.ensures.cause in
    subst (λ (r : Refusal). RefusesImport h old bytes r mid new) (sym c.refusal_of_import.ensures)
    (refuses-bytes h old bytes why mid new
    (compared h mid old (fields_of t) bytes c.requires.free same (λ honest. (given.went honest).store) (λ honest. (given.went honest).broken ∙ stays (failed h old.store)) ∣ given.rests ∣₁ {T = Unit {0}} (Err why) cause))

pub returns-in-Err-clause-safe : goal.returns-in-Err-clause-safe
returns-in-Err-clause-safe g c honest =
    let n = c.args.self.now in
    let old = parts_of n in
    let h = history_of n.store in
    let t = c.import_change.new.store in
    let given = c.import_change.ensures in
    looks-safely h (history_of t) old (fields_of t) laws.Import (law_answer (answers.Refused c.refusal_of_import.result)) ∣ given.rests ∣₁ (given.went honest).store
    ((given.went honest).broken ∙ stays (failed h old.store)) (t.left (given.honest ∙ honest)) (n.image honest) n.locked.together n.replica tt refl
