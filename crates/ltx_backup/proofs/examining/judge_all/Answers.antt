use Rattle.std.proofs.Common.{List, refl, sym, subst}
use Rattle.lf_disk.specs.History.{now}
use Rattle.ltx_backup.specs.Listing.{AreListed}
use Rattle.ltx_backup.specs.declared.entry.Entry.{Entry}
use Rattle.ltx_backup.proofs.Opens.{high_broken, middle_broken, low_broken}
use Rattle.ltx_backup.proofs.Makings.{found_into}
use Rattle.ltx_backup.proofs.examining.judge_all.Goals as goal

pub returns-in-Err-clause-why : goal.returns-in-Err-clause-why
returns-in-Err-clause-why g c honest listed none =
    let a = now (g.D.Disk.history c.args.low.now) in
    let b = now (g.D.Disk.history c.args.middle.now) in
    let d = now (g.D.Disk.history c.args.high.now) in
    high_broken a b d none c.in-Err.why (c.in-Err.ensures.broken honest.2 (subst (λ (es : List Entry). AreListed es d) (sym c.as_slice.ensures.value) listed.highs))

pub returns-in-Err-judge_level-clause-why : goal.returns-in-Err-judge_level-clause-why
returns-in-Err-judge_level-clause-why g c honest listed none =
    let a = now (g.D.Disk.history c.args.low.now) in
    let b = now (g.D.Disk.history c.args.middle.now) in
    let d = now (g.D.Disk.history c.args.high.now) in
    middle_broken a b d none c.in-Ok.highs.entries.items c.in-Ok.highs.end (c.in-Ok.ensures.judged honest.2 (subst (λ (es : List Entry). AreListed es d) (sym c.as_slice.ensures.value) listed.highs)).judged
    c.in-Err-judge_level.why (c.in-Err-judge_level.ensures.broken honest.1 (subst (λ (es : List Entry). AreListed es b) (sym c.as_slice-2.ensures.value) listed.middles))

pub returns-in-Err-judge_level-2-clause-why : goal.returns-in-Err-judge_level-2-clause-why
returns-in-Err-judge_level-2-clause-why g c honest listed none =
    let a = now (g.D.Disk.history c.args.low.now) in
    let b = now (g.D.Disk.history c.args.middle.now) in
    let d = now (g.D.Disk.history c.args.high.now) in
    low_broken a b d none c.in-Ok.highs.entries.items c.in-Ok.highs.end (c.in-Ok.ensures.judged honest.2 (subst (λ (es : List Entry). AreListed es d) (sym c.as_slice.ensures.value) listed.highs)).judged
    c.in-Ok-judge_level.middles.entries.items c.in-Ok-judge_level.middles.end
    (c.in-Ok-judge_level.ensures.judged honest.1 (subst (λ (es : List Entry). AreListed es b) (sym c.as_slice-2.ensures.value) listed.middles)).judged
    c.in-Err-judge_level-2.why (c.in-Err-judge_level-2.ensures.broken honest.0 (subst (λ (es : List Entry). AreListed es a) (sym c.as_slice-3.ensures.value) listed.lows))

pub returns-clause-finds : goal.returns-clause-finds
returns-clause-finds g c honest listed =
    let a = now (g.D.Disk.history c.args.low.now) in
    let b = now (g.D.Disk.history c.args.middle.now) in
    let d = now (g.D.Disk.history c.args.high.now) in
    found_into a b d c.in-Ok-judge_level-2.lows c.in-Ok-judge_level.middles c.in-Ok.highs c.args.target _ _
    (c.in-Ok.ensures.judged honest.2 (subst (λ (es : List Entry). AreListed es d) (sym c.as_slice.ensures.value) listed.highs))
    (c.in-Ok-judge_level.ensures.judged honest.1 (subst (λ (es : List Entry). AreListed es b) (sym c.as_slice-2.ensures.value) listed.middles))
    (c.in-Ok-judge_level-2.ensures.judged honest.0 (subst (λ (es : List Entry). AreListed es a) (sym c.as_slice-3.ensures.value) listed.lows))
    refl refl refl refl refl refl refl
