use Rattle.std.proofs.Common.{◌≡◌, ◌∙◌, inl, inr, List, [], ◌∷◌, length, length-append, take, refl, sym, ap, subst}
use Rattle.lf_disk.specs.declared.name.FileName.TheVariants.{Staged}
use Rattle.lf_disk.specs.Folder.{SameBut}
use Rattle.lf_disk.specs.History.{now, Rests}
use Rattle.lf_disk.proofs.Moments.{started}
use Rattle.ltx_codec.specs.declared.file.Ltx.{Ltx}
use Rattle.ltx_compact.specs.Compaction.{Compacts}
use Rattle.ltx_compact.specs.Application.{DoesAsFiles}
use Rattle.ltx_backup.specs.Entries.{entry_of, entries_of}
use Rattle.ltx_backup.specs.Moving.{IsEightOf}
use Rattle.ltx_backup.specs.declared.entry.Entry.{Entry}
use Rattle.ltx_backup.proofs.Eights.{front_are, stand_take, unfolded, blameless_unfolded, unmerged_cause, moves_after}
use Rattle.ltx_backup.proofs.Stills.{settled_rests, trimmed_after}
use Rattle.ltx_backup.proofs.Turns.{resting}
use Rattle.ltx_backup.proofs.folding.fold.Goals as goal

pub returns-in-Err-clause-why : goal.returns-in-Err-clause-why
returns-in-Err-clause-why g c from files level here lead =
    let f = now (g.D.Disk.history c.args.from.now) in
    let es = c.args.entries.now.items in
    let are : c.oldest-front.result.now ≡ entries_of (take 8 files) =
    c.oldest-front.ensures ∙ ap (λ (l : List Entry). take 8 l) c.as_slice.ensures.value ∙ front_are f es files level.entries_are level.has.stand c.requires.due in
    blameless_unfolded files c.in-Err.why (c.in-Err.ensures.blameless from (take 8 files) are (stand_take f 8 files level.has.stand))

pub returns-in-Err-clause-moves : goal.returns-in-Err-clause-moves
returns-in-Err-clause-moves g c from to files level =
    inl (
      resting (g.D.Disk.history c.args.from.now) (g.D.Disk.history c.read_files.new.disk) (c.requires.from_settled from) c.read_files.ensures.rests,
      started (g.D.Disk.history c.args.to.now) (SameBut Staged (now (g.D.Disk.history c.args.to.now))) (c.requires.to_settled to),
    )

pub returns-in-Err-clause-same : goal.returns-in-Err-clause-same
returns-in-Err-clause-same g c not = (refl, refl, c.read_files.ensures.rests, refl)

pub returns-in-Err-merge-clause-why : goal.returns-in-Err-merge-clause-why
returns-in-Err-merge-clause-why g c from files level here lead =
    let f = now (g.D.Disk.history c.args.from.now) in
    let es = c.args.entries.now.items in
    let are : c.oldest-front.result.now ≡ entries_of (take 8 files) =
    c.oldest-front.ensures ∙ ap (λ (l : List Entry). take 8 l) c.as_slice.ensures.value ∙ front_are f es files level.entries_are level.has.stand c.requires.due in
    let read : c.in-Ok.files.items ≡ take 8 files = c.in-Ok.ensures.files from (take 8 files) are (stand_take f 8 files level.has.stand) in
    unfolded f es files level.entries_are level.has.stand c.requires.due here c.in-Ok.files.items lead read c.in-Err-merge.why c.in-Err-merge.ensures.unmerged

pub returns-in-Err-merge-clause-moves : goal.returns-in-Err-merge-clause-moves
returns-in-Err-merge-clause-moves g c from to files level =
    inl (
      resting (g.D.Disk.history c.args.from.now) (g.D.Disk.history c.read_files.new.disk) (c.requires.from_settled from) c.read_files.ensures.rests,
      started (g.D.Disk.history c.args.to.now) (SameBut Staged (now (g.D.Disk.history c.args.to.now))) (c.requires.to_settled to),
    )

pub returns-in-Err-merge-clause-same : goal.returns-in-Err-merge-clause-same
returns-in-Err-merge-clause-same g c not = (refl, refl, c.read_files.ensures.rests, refl)

pub returns-in-Err-merge-clause-cause : goal.returns-in-Err-merge-clause-cause
returns-in-Err-merge-clause-cause g c =
    unmerged_cause (Unit {0}) c.in-Ok.files.items _ _ c.in-Err-merge.why c.in-Err-merge.ensures.unmerged (record { low = c.in-Ok.ensures.cause; middle = refl; high = refl })

pub move_up-requires-clause-from_settled : goal.move_up-requires-clause-from_settled
move_up-requires-clause-from_settled g c honest =
    settled_rests (g.D.Disk.history c.args.from.now) (g.D.Disk.history c.read_files.new.disk) (c.requires.from_settled (sym c.read_files.ensures.honest ∙ honest)) c.read_files.ensures.rests

pub returns-clause-why : goal.returns-clause-why
returns-clause-why g c from files level here lead = blameless_unfolded files c.in-Err-move_up.why c.in-Err-move_up.ensures.blameless

pub returns-clause-moves : goal.returns-clause-moves
returns-clause-moves g c from to files level =
    let f = now (g.D.Disk.history c.args.from.now) in
    let es = c.args.entries.now.items in
    let are : c.oldest-front.result.now ≡ entries_of (take 8 files) =
    c.oldest-front.ensures ∙ ap (λ (l : List Entry). take 8 l) c.as_slice.ensures.value ∙ front_are f es files level.entries_are level.has.stand c.requires.due in
    let read : c.in-Ok.files.items ≡ take 8 files = c.in-Ok.ensures.files from (take 8 files) are (stand_take f 8 files level.has.stand) in
    let eight : IsEightOf files c.in-Ok-merge.file = record {
      is = subst (λ (l : List Ltx). Compacts l c.in-Ok-merge.file) read c.in-Ok-merge.ensures.compacts;
      does = subst (λ (l : List Ltx). DoesAsFiles l c.in-Ok-merge.file.change) read c.in-Ok-merge.ensures.does;
      reads_back = c.move_up.ensures.reads_back;
    } in
    inr (
      c.in-Ok-merge.file,
      eight,
      moves_after c.in-Ok-merge.file (g.D.Disk.history c.args.from.now) (g.D.Disk.history c.read_files.new.disk) (g.D.Disk.history c.args.to.now)
          (g.D.Disk.history c.move_up.new.from) (g.D.Disk.history c.move_up.new.to) (c.requires.from_settled from) c.read_files.ensures.rests (c.move_up.ensures.moves (c.read_files.ensures.honest ∙ from) to),
    )

pub returns-clause-same : goal.returns-clause-same
returns-clause-same g c not =
    let same = c.in-Err-move_up.ensures.same not in
    (same.0, same.1, subst (λ d. Rests (g.D.Disk.history c.args.from.now) (g.D.Disk.history d)) (sym same.2) c.read_files.ensures.rests, same.3)

pub returns-in-Ok-move_up-clause-moves : goal.returns-in-Ok-move_up-clause-moves
returns-in-Ok-move_up-clause-moves g c from to files level =
    let f = now (g.D.Disk.history c.args.from.now) in
    let es = c.args.entries.now.items in
    let are : c.oldest-front.result.now ≡ entries_of (take 8 files) =
    c.oldest-front.ensures ∙ ap (λ (l : List Entry). take 8 l) c.as_slice.ensures.value ∙ front_are f es files level.entries_are level.has.stand c.requires.due in
    let read : c.in-Ok.files.items ≡ take 8 files = c.in-Ok.ensures.files from (take 8 files) are (stand_take f 8 files level.has.stand) in
    let eight : IsEightOf files c.in-Ok-merge.file = record {
      is = subst (λ (l : List Ltx). Compacts l c.in-Ok-merge.file) read c.in-Ok-merge.ensures.compacts;
      does = subst (λ (l : List Ltx). DoesAsFiles l c.in-Ok-merge.file.change) read c.in-Ok-merge.ensures.does;
      reads_back = c.move_up.ensures.reads_back;
    } in
    inr (
      c.in-Ok-merge.file,
      eight,
      moves_after c.in-Ok-merge.file (g.D.Disk.history c.args.from.now) (g.D.Disk.history c.read_files.new.disk) (g.D.Disk.history c.args.to.now)
          (g.D.Disk.history c.move_up.new.from) (g.D.Disk.history c.move_up.new.to) (c.requires.from_settled from) c.read_files.ensures.rests (c.move_up.ensures.moves (c.read_files.ensures.honest ∙ from) to),
    )

pub returns-in-Ok-move_up-clause-folds : goal.returns-in-Ok-move_up-clause-folds
returns-in-Ok-move_up-clause-folds g c from to files level =
    let f = now (g.D.Disk.history c.args.from.now) in
    let es = c.args.entries.now.items in
    let are : c.oldest-front.result.now ≡ entries_of (take 8 files) =
    c.oldest-front.ensures ∙ ap (λ (l : List Entry). take 8 l) c.as_slice.ensures.value ∙ front_are f es files level.entries_are level.has.stand c.requires.due in
    let read : c.in-Ok.files.items ≡ take 8 files = c.in-Ok.ensures.files from (take 8 files) are (stand_take f 8 files level.has.stand) in
    let eight : IsEightOf files c.in-Ok-merge.file = record {
      is = subst (λ (l : List Ltx). Compacts l c.in-Ok-merge.file) read c.in-Ok-merge.ensures.compacts;
      does = subst (λ (l : List Ltx). DoesAsFiles l c.in-Ok-merge.file.change) read c.in-Ok-merge.ensures.does;
      reads_back = c.move_up.ensures.reads_back;
    } in
    let done = c.in-Ok-move_up.ensures.done (c.read_files.ensures.honest ∙ from) to in
    record {
      file = c.in-Ok-merge.file;
      eight = eight;
      done = record {
        there = done.there;
        gone = trimmed_after c.in-Ok-merge.file.header.max es (g.D.Disk.history c.args.from.now) (g.D.Disk.history c.read_files.new.disk) (g.D.Disk.history c.move_up.new.from) c.read_files.ensures.rests done.gone;
      };
      left = c.in-Ok-move_up.ensures.entries;
      made = c.in-Ok-move_up.ensures.uppers;
    }

pub returns-in-Ok-move_up-clause-settled : goal.returns-in-Ok-move_up-clause-settled
returns-in-Ok-move_up-clause-settled g c = (λ honest. c.in-Ok-move_up.ensures.settled.0 (c.read_files.ensures.honest ∙ honest), λ honest. c.in-Ok-move_up.ensures.settled.1 honest)

pub returns-in-Ok-move_up-clause-made : goal.returns-in-Ok-move_up-clause-made
returns-in-Ok-move_up-clause-made g c = ap length c.in-Ok-move_up.ensures.uppers ∙ length-append c.args.uppers.now.items (entry_of c.in-Ok-merge.file ∷ [])
