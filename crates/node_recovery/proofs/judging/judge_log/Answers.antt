use Rattle.std.proofs.Common.{◌≡◌, ◌∙◌, ◌+◌, ◌∷◌, ◌++◌, [], List, Option, Some, eqb, eq-eqb, sym, ap, subst, length}
use Rattle.lf_base.specs.declared.pos.Pos.{Pos}
use Rattle.lf_disk.specs.Folder.{Folder, bytes_of}
use Rattle.lf_disk.specs.History.{now}
use Rattle.lf_disk.specs.declared.name.FileName.TheVariants.{Ltx as LtxName}
use Rattle.std.specs.Prelude.{get_or, Ok}
use Rattle.txn_log.specs.declared.entry.Entry.{Entry}
use Rattle.txn_log.specs.Kept.{file_of}
use Rattle.txn_log.proofs.Stores.{no_entry}
use Rattle.node_recovery.specs.Damage.{IsNext, IsRefusedBehind}
use Rattle.node_recovery.specs.Finding.{AreEnded}
use Rattle.node_recovery.specs.Outcome.{Blames, Judges}
use Rattle.node_recovery.specs.Outline.{entry_of}
use Rattle.node_recovery.proofs.Judgings.{Judged, behind_read, rests_both, same_now, judged, refused, ended_more}
use Rattle.node_recovery.proofs.judging.judge_log.Goals as goal

pub loop-place-preserved : goal.loop-place-preserved
loop-place-preserved g c =
    let h = g.D.Disk.history c.args.disk.now in
    let mid = g.D.Disk.history c.loop-place.disk in
    let names = c.args.names.now in
    let i = c.loop-place.place in
    let read = c.in-Ok.read in
    let inv = c.loop-place.invariant in
    let name : Entry = get_or c.args.names.now c.loop-place.place no_entry in
    let more : c.push.new.self.items ≡ c.loop-place.entries.items ++ entry_of read.outline ∷ [] = c.in-Ok-push.ensures.items ∙ ap (λ (e : Entry). c.loop-place.entries.items ++ e ∷ []) c.entry.ensures in
    record {
      honest = c.judge_file.ensures.honest ∙ inv.honest;
      faults = c.in-Ok.ensures.cause ∙ inv.faults;
      rests = rests_both h mid (g.D.Disk.history c.judge_file.new.disk) inv.rests c.judge_file.ensures.rests;
      ended = subst (λ (es : List Entry). AreEnded es (Some read.outline)) (sym more) (ended_more c.loop-place.entries.items read.outline c.in-Ok.ensures.valid);
      count = λ last. c.in-Ok.ensures.count (eq-eqb (i + 1) (length names) last);
      judged = λ honest.
          let both = subst (λ (f : Folder). Judges name c.behind.result (bytes_of (f (LtxName name.min name.max))) (eqb (i + 1) (length names)) (Ok read)) (same_now h mid inv.rests) (c.in-Ok.ensures.judges (inv.honest ∙ honest)) in
          let next : IsNext name (behind_read c.loop-place.last) (file_of (bytes_of (now h (LtxName name.min name.max)))) =
          subst (λ (p : Option Pos). IsNext name p (file_of (bytes_of (now h (LtxName name.min name.max))))) c.behind.ensures both.1 in
          subst (λ (es : List Entry). Judged names (now h) (i + 1) es (Some read)) (sym more)
          (judged names (now h) i no_entry c.loop-place.entries.items c.loop-place.last c.loop-place-test.true (inv.judged honest) read both.0.0 next (λ last. both.0.1 (eq-eqb (i + 1) (length names) last)));
    }

pub returns-in-Err-clause-judges : goal.returns-in-Err-clause-judges
returns-in-Err-clause-judges g c honest =
    let h = g.D.Disk.history c.args.disk.now in
    let mid = g.D.Disk.history c.loop-place.disk in
    let names = c.args.names.now in
    let inv = c.loop-place.invariant in
    let name : Entry = get_or c.args.names.now c.loop-place.place no_entry in
    let why = c.in-Err.why in
    let blames : Blames (LtxName name.min name.max) (IsRefusedBehind name (behind_read c.loop-place.last) (bytes_of (now h (LtxName name.min name.max)))) why =
    subst (λ (p : Option Pos). Blames (LtxName name.min name.max) (IsRefusedBehind name p (bytes_of (now h (LtxName name.min name.max)))) why) c.behind.ensures
    (subst (λ (f : Folder). Blames (LtxName name.min name.max) (IsRefusedBehind name c.behind.result (bytes_of (f (LtxName name.min name.max)))) why) (same_now h mid inv.rests) (c.in-Err.ensures.judges (inv.honest ∙ honest))) in
    refused names (now h) c.loop-place.place no_entry c.loop-place.entries.items c.loop-place.last c.loop-place-test.true (inv.judged honest) why blames
