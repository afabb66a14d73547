use Rattle.std.proofs.Common.{refl, ap, subst, Err}
use Rattle.lf_base.specs.declared.pos.Pos.{Pos}
use Rattle.ltx_backup.specs.Restoring.{Restores}
use Rattle.ltx_backup.specs.declared.target.Made.{Made}
use Rattle.ltx_backup.proofs.Makings.{told, target_misfit, target_sums}
use Rattle.ltx_backup.proofs.Restorings.{any_ends, kept_ends}
use Rattle.ltx_backup.proofs.target.Target.finish.Goals as goal

pub returns-then-not-is_kept-clause-restores : goal.returns-then-not-is_kept-clause-restores
returns-then-not-is_kept-clause-restores c levels before is order blank all = (
  refl,
  ap (λ (p : Pos). p.txid) is.end,
  λ sum ends. c.is_kept.ensures.no c.if-not-is_kept.true (any_ends levels c.args.index.now is c.args.self.txid sum ends),
)

pub returns-in-Ok-clause-restores : goal.returns-in-Ok-clause-restores
returns-in-Ok-clause-restores c levels before is order blank all =
    let ends = kept_ends levels c.args.index.now is c.args.self.txid (c.is_kept.ensures.yes c.if-not-is_kept.false) in
    (target_sums levels is.joined order before c.args.self blank all c.in-Sound.restored c.in-Sound.is ends.0 ends.1).image c.in-Ok.image c.in-Ok.ensures.image c.in-Ok.ensures.sum

pub returns-in-Err-clause-restores : goal.returns-in-Err-clause-restores
returns-in-Err-clause-restores c levels before is order blank all =
    let ends = kept_ends levels c.args.index.now is c.args.self.txid (c.is_kept.ensures.yes c.if-not-is_kept.false) in
    (target_sums levels is.joined order before c.args.self blank all c.in-Sound.restored c.in-Sound.is ends.0 ends.1).other c.in-Err.why c.in-Err.ensures.other

pub returns-in-Misfit-clause-restores : goal.returns-in-Misfit-clause-restores
returns-in-Misfit-clause-restores c levels before is order blank all =
    subst (λ (m : Made). Restores levels c.args.self.txid (Err (told m))) c.in-Misfit.is (target_misfit levels is.joined order before c.args.self blank all)
