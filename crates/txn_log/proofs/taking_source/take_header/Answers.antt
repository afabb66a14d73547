use Rattle.std.proofs.Common.{sym, ap, refl}
use Rattle.ltx_codec.specs.declared.header.Header.{Header}
use Rattle.txn_log.proofs.Takings.{no_pages, first_mode}
use Rattle.txn_log.proofs.taking_source.take_header.Goals as goal

pub returns-in-Ok-clause-taken : goal.returns-in-Ok-clause-taken
returns-in-Ok-clause-taken g c =
    let header = c.args.header.now in
    record {
      valid = no_pages header.page_size header.commit c.requires.sized;
      up = c.in-Ok.ensures.begun c.args.old.now.sums c.args.count;
      commit_is = sym (ap (λ (h : Header). h.commit) c.in-Ok.ensures.header);
      table_is = c.begin_table.ensures.sums;
      held_is = refl;
      wal_is = first_mode header.page_size header.commit c.args.count c.requires.sized c.args.wal c.first_wal.result c.first_wal.ensures;
    }

pub returns-in-Ok-clause-staged : goal.returns-in-Ok-clause-staged
returns-in-Ok-clause-staged g c honest = c.in-Ok.ensures.staged honest c.args.count
