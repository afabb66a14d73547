use Rattle.std.proofs.Common.{Err, Ok, ◌∙◌, refl}
use Rattle.backup_link.specs.Keeping.{all_added}
use Rattle.backup_link.proofs.Backups.{comes_at, comes_unfetched}
use Rattle.backup_link.proofs.backing_up.fetch_and_settle.Goals as goal

pub returns-in-Ok-clause-fetched : goal.returns-in-Ok-clause-fetched
returns-in-Ok-clause-fetched g c =
    let f = c.in-Ok.ensures.fetches in
    let still = c.fetch.ensures.honest in
    record {
      files = f.files;
      fetched = Ok c.in-Ok.field-0;
      told = f.told;
      ends = c.settle-end.ensures.ends_as;
      comes = λ honest levels kept.
          comes_at g.D.Disk.history (all_added levels f.files) (Ok c.in-Ok.field-0) _ _ _ c.closed.result.low c.closed.result.middle c.closed.result.high c.settle-end.result
          c.closed.ensures.0 c.closed.ensures.1 c.closed.ensures.2
          (c.settle-end.ensures.ends (still.0 ∙ honest.0, still.1 ∙ honest.1, still.2 ∙ honest.2) (all_added levels f.files) (f.kept honest levels kept));
    }

pub returns-in-Err-clause-fetched : goal.returns-in-Err-clause-fetched
returns-in-Err-clause-fetched g c =
    let f = c.in-Err.ensures.fetches in
    record {
      files = f.files;
      fetched = Err c.in-Err.why;
      told = f.told;
      ends = refl;
      comes = λ honest levels kept.
          comes_at g.D.Disk.history (all_added levels f.files) (Err c.in-Err.why) _ _ _ c.closed-in-Err.result.low c.closed-in-Err.result.middle c.closed-in-Err.result.high (Err c.in-Err.why)
          c.closed-in-Err.ensures.0 c.closed-in-Err.ensures.1 c.closed-in-Err.ensures.2
          (comes_unfetched c.in-Err.why _ _ _ f.files levels (Err c.in-Err.why) f.kept honest kept);
    }
