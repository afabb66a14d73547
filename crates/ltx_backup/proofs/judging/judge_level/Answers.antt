use Rattle.std.proofs.Common.{◌≡◌, ◌∙◌, List, refl, sym, subst, take, get_or}
use Rattle.std.proofs.lemmas.List.{take_all, take_more}
use Rattle.lf_disk.specs.History.{now}
use Rattle.ltx_backup.specs.Making.{JudgingInto}
use Rattle.ltx_backup.specs.declared.entry.Entry.{Entry}
use Rattle.ltx_backup.proofs.Judges.{broken}
use Rattle.ltx_backup.proofs.Lists.{no_entry}
use Rattle.ltx_backup.proofs.Makings.{into_begins, into_all, into_alike}
use Rattle.ltx_backup.proofs.Stills.{rests_now, rests_stay, rests_join, refused_alike}
use Rattle.ltx_backup.proofs.judging.judge_level.Goals as goal

pub loop-name-init : goal.loop-name-init
loop-name-init g c = record {
  honest = refl;
  faults = refl;
  rests = rests_stay (g.D.Disk.history c.args.disk.now);
  runs = λ honest. into_begins (now (g.D.Disk.history c.args.disk.now)) c.args.level c.args.here c.args.target _ c.new.ensures.items refl refl;
}

pub loop-name-preserved : goal.loop-name-preserved
loop-name-preserved g c =
    let names = c.args.names.now in
    let i = c.loop-name.name-index in
    let h = g.D.Disk.history c.args.disk.now in
    let mid = g.D.Disk.history c.loop-name.disk in
    let new = g.D.Disk.history c.judge_next.new.disk in
    record {
      honest = c.judge_next.ensures.honest ∙ c.loop-name.invariant.honest;
      faults = c.in-Ok.ensures.cause ∙ c.loop-name.invariant.faults;
      rests = rests_join h mid new c.loop-name.invariant.rests c.judge_next.ensures.rests;
      runs = λ honest.
          let so_far = into_alike (now h) (now mid) c.args.level c.args.here (take i names) c.args.target c.loop-name.found (rests_now h mid c.loop-name.invariant.rests) (c.loop-name.invariant.runs honest) in
          let more = c.in-Ok.ensures.goes_on (c.loop-name.invariant.honest ∙ honest) c.args.here (take i names) c.args.target refl so_far in
          let back = into_alike (now mid) (now h) c.args.level c.args.here _ c.args.target c.in-Ok.found (λ n. sym (rests_now h mid c.loop-name.invariant.rests n)) more in
          subst (λ (l : List Entry). JudgingInto (now h) c.args.level c.args.here l c.args.target c.in-Ok.found) (sym (take_more names i no_entry c.loop-name-test.true)) back;
    }

pub returns-in-Err-clause-broken : goal.returns-in-Err-clause-broken
returns-in-Err-clause-broken g c honest listed =
    let h = g.D.Disk.history c.args.disk.now in
    let mid = g.D.Disk.history c.loop-name.disk in
    let same = rests_now h mid c.loop-name.invariant.rests in
    broken (now h) c.args.here c.args.names.now c.loop-name.name-index c.args.level c.loop-name.found.entries.items c.loop-name.found.end listed c.loop-name-test.true (c.loop-name.invariant.runs honest).judging c.in-Err.why
    (refused_alike (now h) (now mid) c.args.level (get_or c.args.names.now c.loop-name.name-index no_entry) c.args.here.txid c.loop-name.found.end c.in-Err.why same (c.in-Err.ensures.refused (c.loop-name.invariant.honest ∙ honest)))

pub returns-in-Err-clause-rests : goal.returns-in-Err-clause-rests
returns-in-Err-clause-rests g c =
    rests_join (g.D.Disk.history c.args.disk.now) (g.D.Disk.history c.loop-name.disk) (g.D.Disk.history c.judge_next.new.disk) c.loop-name.invariant.rests c.judge_next.ensures.rests

pub returns-clause-judged : goal.returns-clause-judged
returns-clause-judged g c honest listed =
    let names = c.args.names.now in
    let all : take c.loop-name.name-index names ≡ names = take_all c.loop-name.name-index names c.loop-name-test.false in
    into_all (now (g.D.Disk.history c.args.disk.now)) c.args.level c.args.here names c.args.target c.loop-name.found listed
    (subst (λ (l : List Entry). JudgingInto (now (g.D.Disk.history c.args.disk.now)) c.args.level c.args.here l c.args.target c.loop-name.found) all (c.loop-name.invariant.runs honest))
