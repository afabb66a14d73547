use Rattle.std.proofs.Common.{List, refl, sym, subst}
use Rattle.lf_disk.specs.History.{now}
use Rattle.lf_sqlite_pages.specs.Change.{empty_change}
use Rattle.lf_sqlite_pages.specs.Complete.{completed_page}
use Rattle.lf_sqlite_pages.specs.declared.page_write.PageWrite.{PageWrite}
use Rattle.txn_log.specs.Staging.{HoldsSoFar, front_encoding, IsStaging}
use Rattle.txn_log.proofs.Intakes.{no_writes}
use Rattle.txn_log.proofs.passing.begin_receiving.Goals as goal

pub returns-in-Ok-clause-staged : goal.returns-in-Ok-clause-staged
returns-in-Ok-clause-staged g c honest count =
    let header = c.args.header.now in
    subst (λ (ws : List PageWrite). HoldsSoFar (now (g.D.Disk.history c.args.disk.now)) (front_encoding header ws) (g.D.Disk.history c.stage_header.new.disk))
    (sym (no_writes (completed_page (empty_change header.page_size header.commit) count))) (c.in-Ok.ensures.staged honest)

pub returns-in-Ok-clause-begun : goal.returns-in-Ok-clause-begun
returns-in-Ok-clause-begun g c sums count =
    let header = c.args.header.now in
    record {
      passed = record {
        staging = subst (λ (ws : List PageWrite). IsStaging c.in-Ok.staging header ws) (sym (no_writes (completed_page (empty_change header.page_size header.commit) count))) c.in-Ok.ensures.counts;
        total = refl;
      };
      last = refl;
      size = refl;
    }
