use Rattle.std.proofs.Common.{◌≡◌, ◌∙◌, [], ◌∷◌, ◌++◌, length, refl, ap, arith}
use Rattle.std.proofs.lemmas.List.{take_all}
use Rattle.std.proofs.lemmas.List.Elements.{All-same, All-nil, All-push}
use Rattle.lf_disk.specs.History.{now}
use Rattle.ltx_codec.specs.Format.{IsFile}
use Rattle.ltx_backup.proofs.Nths.{as_many}
use Rattle.ltx_backup.proofs.Gathers.{one_more, not_unread}
use Rattle.ltx_backup.proofs.Stills.{rests_now, rests_stay, rests_join}
use Rattle.ltx_backup.proofs.folding.read_files.Goals as goal

pub loop-entry-init : goal.loop-entry-init
loop-entry-init g c = record {
  honest = refl;
  faults = refl;
  rests = rests_stay (g.D.Disk.history c.args.disk.now);
  valid = All-same IsFile _ [] c.new-files.ensures.items (All-nil IsFile);
  runs = λ honest files are stand. c.new-files.ensures.items;
}

pub loop-entry-preserved : goal.loop-entry-preserved
loop-entry-preserved g c =
    let h = g.D.Disk.history c.args.disk.now in
    let mid = g.D.Disk.history c.loop-entry.disk in
    record {
      honest = c.read_file.ensures.honest ∙ c.loop-entry.invariant.honest;
      faults = c.in-Ok.ensures.cause ∙ c.loop-entry.invariant.faults;
      rests = rests_join h mid (g.D.Disk.history c.read_file.new.disk) c.loop-entry.invariant.rests c.read_file.ensures.rests;
      valid = All-same IsFile _ (c.loop-entry.files.items ++ c.in-Ok.file ∷ []) c.in-Ok-push.ensures.items (All-push IsFile c.loop-entry.files.items c.in-Ok.file c.loop-entry.invariant.valid c.in-Ok.ensures.valid);
      runs = λ honest files are stand.
          c.in-Ok-push.ensures.items
          ∙ one_more (now h) (now mid) c.args.entries.now files c.loop-entry.entry-index c.loop-entry.files.items c.in-Ok.file (rests_now h mid c.loop-entry.invariant.rests) are stand c.loop-entry-test.true
          (c.loop-entry.invariant.runs honest files are stand) (c.in-Ok.ensures.stands (c.loop-entry.invariant.honest ∙ honest)) (c.in-Ok.ensures.min, c.in-Ok.ensures.max);
    }

pub returns-in-Err-clause-blameless : goal.returns-in-Err-clause-blameless
returns-in-Err-clause-blameless g c honest files are stand =
    let h = g.D.Disk.history c.args.disk.now in
    let mid = g.D.Disk.history c.loop-entry.disk in
    not_unread (now h) (now mid) c.args.entries.now files c.loop-entry.entry-index c.args.level (rests_now h mid c.loop-entry.invariant.rests) are stand c.loop-entry-test.true
    c.in-Err.why (c.in-Err.ensures.unread (c.loop-entry.invariant.honest ∙ honest))

pub returns-in-Err-clause-rests : goal.returns-in-Err-clause-rests
returns-in-Err-clause-rests g c =
    rests_join (g.D.Disk.history c.args.disk.now) (g.D.Disk.history c.loop-entry.disk) (g.D.Disk.history c.read_file.new.disk) c.loop-entry.invariant.rests c.read_file.ensures.rests

pub returns-in-Err-push-clause-rests : goal.returns-in-Err-push-clause-rests
returns-in-Err-push-clause-rests g c =
    rests_join (g.D.Disk.history c.args.disk.now) (g.D.Disk.history c.loop-entry.disk) (g.D.Disk.history c.read_file.new.disk) c.loop-entry.invariant.rests c.read_file.ensures.rests

pub returns-clause-files : goal.returns-clause-files
returns-clause-files g c honest files are stand =
    let count : length c.args.entries.now ≡ length files = ap length are ∙ as_many files in
    c.loop-entry.invariant.runs honest files are stand ∙ take_all c.loop-entry.entry-index files (omega (arith, count, c.loop-entry-test.false))
