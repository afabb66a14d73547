use Rattle.std.proofs.Common.{◌≡◌, ◌∙◌, ℕ, List, length, take, ap, arith}
use Rattle.std.proofs.lemmas.List.{length-replicate, take-replicate, length-set}
use Rattle.lf_sqlite_pages.specs.Change.{empty_change}
use Rattle.lf_sqlite_pages.specs.Complete.{completed}
use Rattle.page_checksum.specs.Table.{PageSums}
use Rattle.txn_log.specs.Draft.{sum_after}
use Rattle.txn_log.specs.Reserve.{spare_of}
use Rattle.txn_log.proofs.Modes.{page_size-most}
use Rattle.txn_log.proofs.Takings.{length-with_pages, spare-with_pages, next_sum, all_sums}
use Rattle.txn_log.proofs.taking_source.begin_table.Goals as goal

pub split_at-requires : goal.split_at-requires
split_at-requires c =
    let long : length c.zeros-zeros.result ≡ 65536 = ap (λ (z : List ℕ). length z) c.zeros-zeros.ensures ∙ length-replicate {A = ℕ} 65536 0 in
    omega (arith, long, page_size-most c.args.header.now.page_size c.requires.sized)

pub resize-requires-2 : goal.resize-requires-2
resize-requires-2 c =
    let room : spare_of c.resize.new.self ≡ spare_of c.args.table.now = ap spare_of c.resize.ensures ∙ spare-with_pages c.args.table.now 0 (omega arith) in
    omega (arith, room, c.requires.room)

pub loop-before-init : goal.loop-before-init
loop-before-init c =
    let room : spare_of c.resize.new.self ≡ spare_of c.args.table.now = ap spare_of c.resize.ensures ∙ spare-with_pages c.args.table.now 0 (omega arith) in
    record {
      long = ap (λ (t : PageSums). length t.sums) c.resize-2.ensures ∙ length-with_pages c.resize.new.self c.args.header.now.commit;
      each = λ k low. absurd (omega (arith, low));
      spare = ap spare_of c.resize-2.ensures ∙ spare-with_pages c.resize.new.self c.args.header.now.commit (omega (arith, room, c.requires.room)) ∙ room;
    }

pub first_sum-requires-clause-zeros : goal.first_sum-requires-clause-zeros
first_sum-requires-clause-zeros c =
    c.split_at.ensures.front ∙ ap (take c.args.header.now.page_size) c.zeros-zeros.ensures
    ∙ take-replicate c.args.header.now.page_size 65536 0 (page_size-most c.args.header.now.page_size c.requires.sized)

pub loop-before-preserved : goal.loop-before-preserved
loop-before-preserved c =
    let inv = c.loop-before.invariant in
    let sum : ℕ → ℕ = sum_after c.args.old.now.sums (completed (empty_change c.args.header.now.page_size c.args.header.now.commit) c.args.count) in
    let set = ap (λ (t : PageSums). t.sums) c.set.ensures in
    let spare = ap (λ (t : PageSums). t.spare) c.set.ensures in
    let size : length c.set.new.self.sums ≡ length c.loop-before.table.sums = ap length set ∙ length-set c.loop-before.table.sums _ _ in
    record {
      long = size ∙ inv.long;
      each = λ k low.
          ap (λ (l : List ℕ). Rattle.std.proofs.Common.get_or l k 0) set
          ∙ next_sum sum c.loop-before.table.sums c.loop-before.before c.args.header.now.commit c.first_sum.result inv.long c.loop-before-test.true inv.each
          (c.first_sum.ensures c.args.header.now.commit (omega (arith, c.loop-before-test.true))) k low;
      spare = omega (arith, size, spare, inv.spare);
    }

pub returns-clause-sums : goal.returns-clause-sums
returns-clause-sums c =
    let inv = c.loop-before.invariant in
    all_sums (sum_after c.args.old.now.sums (completed (empty_change c.args.header.now.page_size c.args.header.now.commit) c.args.count)) c.loop-before.table.sums c.args.header.now.commit inv.long
    (λ k low. inv.each k (omega (arith, low, c.loop-before-test.false)))
