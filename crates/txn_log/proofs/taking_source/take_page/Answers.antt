use Rattle.std.proofs.Common.{◌≡◌, ◌∙◌, ◌+◌, ◌-◌, ℕ, List, length, sym, ap, subst, arith}
use Rattle.std.specs.Prelude.{slice_set}
use Rattle.std.proofs.lemmas.List.{length-set}
use Rattle.std.proofs.lemmas.List.FromFn.{length-map-range_with_len}
use Rattle.lf_sqlite_pages.specs.LockPage.{IsDataPage}
use Rattle.lf_sqlite_pages.specs.Complete.{completed}
use Rattle.ltx_codec.specs.declared.header.Header.{Header}
use Rattle.page_checksum.specs.Sums.{page_sum_of}
use Rattle.page_checksum.specs.Table.{PageSums}
use Rattle.txn_log.specs.Draft.{sum_after}
use Rattle.txn_log.proofs.Comings.{no_more}
use Rattle.txn_log.proofs.Takings.{next_first, next_above, next_last, next_data, next_whole, next_count, next_table, next_wal}
use Rattle.txn_log.proofs.taking_source.take_page.Goals as goal

pub take_next-requires-clause-next : goal.take_next-requires-clause-next
take_next-requires-clause-next g c =
    let t = c.requires.taken in
    omega (arith, t.2.up.last, next_above t.1 c.args.number c.args.page.now t.3)

pub take_next-requires-clause-holds_data : goal.take_next-requires-clause-holds_data
take_next-requires-clause-holds_data g c =
    let t = c.requires.taken in
    subst (λ (s : ℕ). IsDataPage s c.args.number) (sym t.2.up.size) (next_data t.1 c.args.number c.args.page.now t.3)

pub take_next-requires-clause-whole : goal.take_next-requires-clause-whole
take_next-requires-clause-whole g c =
    let t = c.requires.taken in
    next_whole t.1 c.args.number c.args.page.now t.3 ∙ sym t.2.up.size

pub returns-in-Err-clause-moments : goal.returns-in-Err-clause-moments
returns-in-Err-clause-moments g c honest before wal change taken holds = c.take_next.ensures.moments honest before change taken.valid taken.up holds

pub set-requires-clause-first : goal.set-requires-clause-first
set-requires-clause-first g c = let t = c.requires.taken in next_first t.1 c.args.number c.args.page.now t.3

pub set-requires-clause-last : goal.set-requires-clause-last
set-requires-clause-last g c =
    let t = c.requires.taken in
    let long : length c.args.table.now.sums ≡ t.1.commit = ap length t.2.table_is ∙ length-map-range_with_len (sum_after c.args.old.now.sums (completed t.1 c.args.count)) 1 t.1.commit in
    omega (arith, long, next_last t.1 c.args.number c.args.page.now t.3)

pub overflow_add-result : goal.overflow_add-result
overflow_add-result g c =
    let t = c.requires.taken in
    omega (arith, t.2.held_is, next_count t.1 c.args.number c.args.page.now t.3, t.2.commit_is, no_more _ t.1.commit t.3.ascending t.3.within)

pub returns-clause-moments : goal.returns-clause-moments
returns-clause-moments g c honest before wal change taken holds = c.take_next.ensures.moments honest before change taken.valid taken.up holds

pub returns-clause-staged : goal.returns-clause-staged
returns-clause-staged g c honest before wal change taken holds = c.in-Ok.ensures.staged honest before change taken.valid taken.up holds

pub returns-clause-taken : goal.returns-clause-taken
returns-clause-taken g c wal change taken valid = record {
  valid = valid;
  up = c.in-Ok.ensures.passed change taken.valid taken.up;
  commit_is = taken.commit_is ∙ sym (ap (λ (h : Header). h.commit) c.in-Ok.ensures.header);
  table_is =
      ap (λ (t : PageSums). t.sums) c.set.ensures
      ∙ ap (λ (s : ℕ). slice_set c.args.table.now.sums (c.args.number - 1) s) c.page_sum.ensures
      ∙ ap (λ (l : List ℕ). slice_set l (c.args.number - 1) (page_sum_of c.args.number c.args.page.now)) taken.table_is
      ∙ next_table c.args.old.now.sums c.args.count change taken.valid c.args.number c.args.page.now valid;
  held_is = ap (λ (n : ℕ). n + 1) taken.held_is ∙ sym (next_count change c.args.number c.args.page.now valid);
  wal_is = next_wal c.args.old.now.sums c.args.count change taken.valid c.args.number c.args.page.now valid wal c.args.intake.wal c.next_wal.result taken.wal_is c.next_wal.ensures;
}

pub returns-clause-spare : goal.returns-clause-spare
returns-clause-spare g c =
    let sums = ap (λ (t : PageSums). t.sums) c.set.ensures in
    let spare = ap (λ (t : PageSums). t.spare) c.set.ensures in
    omega (arith, spare, ap length sums, length-set c.args.table.now.sums (c.args.number - 1) c.page_sum.result)
