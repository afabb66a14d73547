use Rattle.std.proofs.Common.{◌∙◌, refl, ap}
use Rattle.lf_base.specs.declared.pos.Pos.{Pos}
use Rattle.ltx_backup.proofs.Restorings.{high_misfit, middle_misfit, low_misfit, gives_image, gives_sum, any_ends, kept_ends, kept_index, chain_ordered}
use Rattle.ltx_backup.proofs.backup.Backup.restore.Goals as goal

pub returns-then-not-is_kept-clause-restores : goal.returns-then-not-is_kept-clause-restores
returns-then-not-is_kept-clause-restores g c honest levels kept sound = (
  refl,
  ap (λ (p : Pos). p.txid) kept.end,
  λ sum ends. c.is_kept.ensures.no c.if-not-is_kept.true
      (any_ends levels c.args.self.now.index
      (kept_index levels c.args.self.now.index (g.D.Disk.history c.args.self.now.low) (g.D.Disk.history c.args.self.now.middle) (g.D.Disk.history c.args.self.now.high) kept) c.args.txid sum ends),
)

pub returns-in-Err-clause-restores : goal.returns-in-Err-clause-restores
returns-in-Err-clause-restores g c honest levels kept sound =
    let l = g.D.Disk.history c.args.self.now.low in
    let m = g.D.Disk.history c.args.self.now.middle in
    let h = g.D.Disk.history c.args.self.now.high in
    let order = chain_ordered levels c.args.self.now.index l m h kept in
    high_misfit levels c.args.txid kept.joined order c.nothing-none.result c.nothing-none.ensures c.in-Err.why
    (c.in-Err.ensures.misfit honest.2 levels.highs (c.as_slice-highs.ensures.value ∙ kept.highs.entries_are) kept.highs.has.stand)

pub returns-in-Err-restore_level-clause-restores : goal.returns-in-Err-restore_level-clause-restores
returns-in-Err-restore_level-clause-restores g c honest levels kept sound =
    let l = g.D.Disk.history c.args.self.now.low in
    let m = g.D.Disk.history c.args.self.now.middle in
    let h = g.D.Disk.history c.args.self.now.high in
    let order = chain_ordered levels c.args.self.now.index l m h kept in
    middle_misfit levels c.args.txid kept.joined order c.nothing-none.result c.nothing-none.ensures c.in-Ok.state
    (c.in-Ok.ensures.restores honest.2 levels.highs (c.as_slice-highs.ensures.value ∙ kept.highs.entries_are) kept.highs.has.stand) c.in-Err-restore_level.why
    (c.in-Err-restore_level.ensures.misfit honest.1 levels.middles (c.as_slice-middles.ensures.value ∙ kept.middles.entries_are) kept.middles.has.stand)

pub returns-in-Err-restore_level-2-clause-restores : goal.returns-in-Err-restore_level-2-clause-restores
returns-in-Err-restore_level-2-clause-restores g c honest levels kept sound =
    let l = g.D.Disk.history c.args.self.now.low in
    let m = g.D.Disk.history c.args.self.now.middle in
    let h = g.D.Disk.history c.args.self.now.high in
    let order = chain_ordered levels c.args.self.now.index l m h kept in
    low_misfit levels c.args.txid kept.joined order c.nothing-none.result c.nothing-none.ensures c.in-Ok.state
    (c.in-Ok.ensures.restores honest.2 levels.highs (c.as_slice-highs.ensures.value ∙ kept.highs.entries_are) kept.highs.has.stand) c.in-Ok-restore_level.state
    (c.in-Ok-restore_level.ensures.restores honest.1 levels.middles (c.as_slice-middles.ensures.value ∙ kept.middles.entries_are) kept.middles.has.stand) c.in-Err-restore_level-2.why
    (c.in-Err-restore_level-2.ensures.misfit honest.0 levels.lows (c.as_slice-lows.ensures.value ∙ kept.lows.entries_are) kept.lows.has.stand)

pub returns-in-Ok-finish-clause-restores : goal.returns-in-Ok-finish-clause-restores
returns-in-Ok-finish-clause-restores g c honest levels kept sound =
    let l = g.D.Disk.history c.args.self.now.low in
    let m = g.D.Disk.history c.args.self.now.middle in
    let h = g.D.Disk.history c.args.self.now.high in
    let order = chain_ordered levels c.args.self.now.index l m h kept in
    let ends = kept_ends levels c.args.self.now.index (kept_index levels c.args.self.now.index l m h kept) c.args.txid (c.is_kept.ensures.yes c.if-not-is_kept.false) in
    gives_image levels c.args.txid kept.joined order c.nothing-none.result c.nothing-none.ensures c.in-Ok.state
    (c.in-Ok.ensures.restores honest.2 levels.highs (c.as_slice-highs.ensures.value ∙ kept.highs.entries_are) kept.highs.has.stand) c.in-Ok-restore_level.state
    (c.in-Ok-restore_level.ensures.restores honest.1 levels.middles (c.as_slice-middles.ensures.value ∙ kept.middles.entries_are) kept.middles.has.stand) c.in-Ok-restore_level-2.state
    (c.in-Ok-restore_level-2.ensures.restores honest.0 levels.lows (c.as_slice-lows.ensures.value ∙ kept.lows.entries_are) kept.lows.has.stand)
    ends.0 ends.1 c.in-Ok-finish.image c.in-Ok-finish.ensures.image c.in-Ok-finish.ensures.sum

pub returns-in-Err-finish-clause-restores : goal.returns-in-Err-finish-clause-restores
returns-in-Err-finish-clause-restores g c honest levels kept sound =
    let l = g.D.Disk.history c.args.self.now.low in
    let m = g.D.Disk.history c.args.self.now.middle in
    let h = g.D.Disk.history c.args.self.now.high in
    let order = chain_ordered levels c.args.self.now.index l m h kept in
    let ends = kept_ends levels c.args.self.now.index (kept_index levels c.args.self.now.index l m h kept) c.args.txid (c.is_kept.ensures.yes c.if-not-is_kept.false) in
    gives_sum levels c.args.txid kept.joined order c.nothing-none.result c.nothing-none.ensures c.in-Ok.state
    (c.in-Ok.ensures.restores honest.2 levels.highs (c.as_slice-highs.ensures.value ∙ kept.highs.entries_are) kept.highs.has.stand) c.in-Ok-restore_level.state
    (c.in-Ok-restore_level.ensures.restores honest.1 levels.middles (c.as_slice-middles.ensures.value ∙ kept.middles.entries_are) kept.middles.has.stand) c.in-Ok-restore_level-2.state
    (c.in-Ok-restore_level-2.ensures.restores honest.0 levels.lows (c.as_slice-lows.ensures.value ∙ kept.lows.entries_are) kept.lows.has.stand)
    ends.0 ends.1 c.in-Err-finish.why c.in-Err-finish.ensures.other
