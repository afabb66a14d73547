use Rattle.std.proofs.Common.{◌≡◌, ◌∙◌, false, [], sym, ap, arith}
use Rattle.lf_disk.specs.History.{now}
use Rattle.page_checksum.specs.Table.{PageSums}
use Rattle.txn_log.specs.declared.publishing.Placed.TheVariants as placed
use Rattle.txn_log.proofs.BringingsAnew.{it, staged, given, back, tells, placed_snapshot}
use Rattle.txn_log.proofs.installing.bring_anew.Goals as goal

pub place_anew_from-requires-clause-known : goal.place_anew_from-requires-clause-known
place_anew_from-requires-clause-known g c =
    let start = g.D.Disk.history c.args.disk.now in
    let mid = g.D.Disk.history c.take_source.new.disk in
    let honest = g.D.Disk.honest c.args.disk.now in
    let left = g.S.Source.left c.args.source.now in
    let left_now = g.S.Source.left c.take_source.new.source in
    let sums = c.new-nothing.result.sums in
    let none : sums ≡ [] = ap (λ (s : PageSums). s.sums) c.new-nothing.ensures in
    let table = c.take_source.new.table.sums in
    let gave = c.in-Ok.ensures.takes in
    let intake = c.in-Ok-judge_snapshot.intake in
    let judged = c.in-Ok-judge_snapshot.ensures.judges gave.encoding gave.change table sums 4294967295 false gave.octets gave.is gave.taken_in in
    let was = it honest left left_now start mid c.args.room c.args.entries.now sums table 4294967295 c.in-Ok.it.0 c.in-Ok.it.1 intake none (omega arith) gave judged in (
      now start,
      gave.change,
      was.3.valid,
      was.3.up,
      was.3.commit_is,
      λ is. staged honest left left_now start mid c.args.room c.args.entries.now sums table 4294967295 c.in-Ok.it.0 c.in-Ok.it.1 intake none (omega arith) gave judged (sym c.take_source.ensures.honest ∙ is),
    )

pub returns-in-Whole-clause-brings : goal.returns-in-Whole-clause-brings
returns-in-Whole-clause-brings g c =
    let start = g.D.Disk.history c.args.disk.now in
    let mid = g.D.Disk.history c.take_source.new.disk in
    let honest = g.D.Disk.honest c.args.disk.now in
    let left = g.S.Source.left c.args.source.now in
    let left_now = g.S.Source.left c.take_source.new.source in
    let sums = c.new-nothing.result.sums in
    let none : sums ≡ [] = ap (λ (s : PageSums). s.sums) c.new-nothing.ensures in
    let table = c.take_source.new.table.sums in
    let gave = c.in-Ok.ensures.takes in
    let intake = c.in-Ok-judge_snapshot.intake in
    let judged = c.in-Ok-judge_snapshot.ensures.judges gave.encoding gave.change table sums 4294967295 false gave.octets gave.is gave.taken_in in (
      gave.change,
      given honest left left_now start mid c.args.room c.args.entries.now sums table 4294967295 c.in-Ok.it.0 c.in-Ok.it.1 intake none (omega arith) gave judged,
      back honest left left_now start mid c.args.room c.args.entries.now sums table 4294967295 c.in-Ok.it.0 c.in-Ok.it.1 intake none (omega arith) gave judged,
      tells honest left left_now start mid c.args.room c.args.entries.now sums table 4294967295 c.in-Ok.it.0 c.in-Ok.it.1 intake none (omega arith) gave judged,
      placed_snapshot honest left left_now start mid c.args.room c.args.entries.now sums table 4294967295 c.in-Ok.it.0 c.in-Ok.it.1 intake none (omega arith) gave judged (g.D.Disk.history c.place_anew_from.new.disk) placed.Whole
          c.take_source.ensures.moments (λ is. c.in-Whole.ensures.places (c.take_source.ensures.honest ∙ is)),
    )

pub returns-in-Unpublished-clause-brings : goal.returns-in-Unpublished-clause-brings
returns-in-Unpublished-clause-brings g c =
    let start = g.D.Disk.history c.args.disk.now in
    let mid = g.D.Disk.history c.take_source.new.disk in
    let honest = g.D.Disk.honest c.args.disk.now in
    let left = g.S.Source.left c.args.source.now in
    let left_now = g.S.Source.left c.take_source.new.source in
    let sums = c.new-nothing.result.sums in
    let none : sums ≡ [] = ap (λ (s : PageSums). s.sums) c.new-nothing.ensures in
    let table = c.take_source.new.table.sums in
    let gave = c.in-Ok.ensures.takes in
    let intake = c.in-Ok-judge_snapshot.intake in
    let judged = c.in-Ok-judge_snapshot.ensures.judges gave.encoding gave.change table sums 4294967295 false gave.octets gave.is gave.taken_in in
    placed_snapshot honest left left_now start mid c.args.room c.args.entries.now sums table 4294967295 c.in-Ok.it.0 c.in-Ok.it.1 intake none (omega arith) gave judged (g.D.Disk.history c.place_anew_from.new.disk) placed.Unpublished
    c.take_source.ensures.moments (λ is. c.in-Unpublished.ensures.places (c.take_source.ensures.honest ∙ is))

pub returns-clause-brings : goal.returns-clause-brings
returns-clause-brings g c =
    let start = g.D.Disk.history c.args.disk.now in
    let mid = g.D.Disk.history c.take_source.new.disk in
    let honest = g.D.Disk.honest c.args.disk.now in
    let left = g.S.Source.left c.args.source.now in
    let left_now = g.S.Source.left c.take_source.new.source in
    let sums = c.new-nothing.result.sums in
    let none : sums ≡ [] = ap (λ (s : PageSums). s.sums) c.new-nothing.ensures in
    let table = c.take_source.new.table.sums in
    let gave = c.in-Ok.ensures.takes in
    let intake = c.in-Ok-judge_snapshot.intake in
    let judged = c.in-Ok-judge_snapshot.ensures.judges gave.encoding gave.change table sums 4294967295 false gave.octets gave.is gave.taken_in in (
      record { header = c.in-Ok.it.0.header; change = gave.change; post = c.in-Ok.it.0.post },
      given honest left left_now start mid c.args.room c.args.entries.now sums table 4294967295 c.in-Ok.it.0 c.in-Ok.it.1 intake none (omega arith) gave judged,
      back honest left left_now start mid c.args.room c.args.entries.now sums table 4294967295 c.in-Ok.it.0 c.in-Ok.it.1 intake none (omega arith) gave judged,
      placed_snapshot honest left left_now start mid c.args.room c.args.entries.now sums table 4294967295 c.in-Ok.it.0 c.in-Ok.it.1 intake none (omega arith) gave judged (g.D.Disk.history c.place_anew_from.new.disk) (placed.From c.in-From.tried)
          c.take_source.ensures.moments (λ is. c.in-From.ensures.places (c.take_source.ensures.honest ∙ is)),
    )
