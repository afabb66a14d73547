use Rattle.std.proofs.Common.{◌∙◌, sym}
use Rattle.lf_disk.specs.History.{now}
use Rattle.txn_log.specs.declared.publishing.Placed.TheVariants as placed
use Rattle.txn_log.proofs.Bringings.{it, staged, brought, back, tells, placed_whole}
use Rattle.txn_log.proofs.bringing.bring.Goals as goal

pub place_from-requires-clause-known : goal.place_from-requires-clause-known
place_from-requires-clause-known g c =
    let start = g.D.Disk.history c.args.disk.now in
    let mid = g.D.Disk.history c.take_source.new.disk in
    let honest = g.D.Disk.honest c.args.disk.now in
    let left = g.S.Source.left c.args.source.now in
    let left_now = g.S.Source.left c.take_source.new.source in
    let gave = c.in-Ok.ensures.takes in
    let judged = c.in-Ok-judge_taken.ensures.judges gave.encoding gave.change c.args.sums.now.sums gave.octets gave.is gave.taken_in in
    let was = it honest left left_now start mid c.args.ground.now c.args.sums.now.sums c.take_source.new.table.sums c.in-Ok.it.0 c.in-Ok.it.1 c.in-Ok-judge_taken.intake gave judged in (
      now start,
      gave.change,
      was.3.valid,
      was.3.up,
      was.3.commit_is,
      λ is. staged honest left left_now start mid c.args.ground.now c.args.sums.now.sums c.take_source.new.table.sums c.in-Ok.it.0 c.in-Ok.it.1 c.in-Ok-judge_taken.intake gave judged (sym c.take_source.ensures.honest ∙ is),
    )

pub returns-in-Whole-clause-brings : goal.returns-in-Whole-clause-brings
returns-in-Whole-clause-brings g c =
    let start = g.D.Disk.history c.args.disk.now in
    let mid = g.D.Disk.history c.take_source.new.disk in
    let honest = g.D.Disk.honest c.args.disk.now in
    let left = g.S.Source.left c.args.source.now in
    let left_now = g.S.Source.left c.take_source.new.source in
    let ground = c.args.ground.now in
    let sums = c.args.sums.now.sums in
    let table = c.take_source.new.table.sums in
    let gave = c.in-Ok.ensures.takes in
    let judged = c.in-Ok-judge_taken.ensures.judges gave.encoding gave.change sums gave.octets gave.is gave.taken_in in
    let intake = c.in-Ok-judge_taken.intake in (
      gave.change,
      brought honest left left_now start mid ground sums table c.in-Ok.it.0 c.in-Ok.it.1 intake gave judged,
      back honest left left_now start mid ground sums table c.in-Ok.it.0 c.in-Ok.it.1 intake gave judged,
      tells honest left left_now start mid ground sums table c.in-Ok.it.0 c.in-Ok.it.1 intake gave judged,
      placed_whole honest left left_now start mid ground sums table c.in-Ok.it.0 c.in-Ok.it.1 intake gave judged (g.D.Disk.history c.place_from.new.disk) placed.Whole
          c.take_source.ensures.moments (λ is. c.in-Whole.ensures.places (c.take_source.ensures.honest ∙ is)),
    )

pub returns-in-Unpublished-clause-brings : goal.returns-in-Unpublished-clause-brings
returns-in-Unpublished-clause-brings g c =
    let start = g.D.Disk.history c.args.disk.now in
    let mid = g.D.Disk.history c.take_source.new.disk in
    let honest = g.D.Disk.honest c.args.disk.now in
    let left = g.S.Source.left c.args.source.now in
    let left_now = g.S.Source.left c.take_source.new.source in
    let ground = c.args.ground.now in
    let sums = c.args.sums.now.sums in
    let table = c.take_source.new.table.sums in
    let gave = c.in-Ok.ensures.takes in
    let judged = c.in-Ok-judge_taken.ensures.judges gave.encoding gave.change sums gave.octets gave.is gave.taken_in in
    let intake = c.in-Ok-judge_taken.intake in
    placed_whole honest left left_now start mid ground sums table c.in-Ok.it.0 c.in-Ok.it.1 intake gave judged (g.D.Disk.history c.place_from.new.disk) placed.Unpublished
    c.take_source.ensures.moments (λ is. c.in-Unpublished.ensures.places (c.take_source.ensures.honest ∙ is))

pub returns-in-From-clause-brings : goal.returns-in-From-clause-brings
returns-in-From-clause-brings g c =
    let start = g.D.Disk.history c.args.disk.now in
    let mid = g.D.Disk.history c.take_source.new.disk in
    let honest = g.D.Disk.honest c.args.disk.now in
    let left = g.S.Source.left c.args.source.now in
    let left_now = g.S.Source.left c.take_source.new.source in
    let ground = c.args.ground.now in
    let sums = c.args.sums.now.sums in
    let table = c.take_source.new.table.sums in
    let gave = c.in-Ok.ensures.takes in
    let judged = c.in-Ok-judge_taken.ensures.judges gave.encoding gave.change sums gave.octets gave.is gave.taken_in in
    let intake = c.in-Ok-judge_taken.intake in (
      record { header = c.in-Ok.it.0.header; change = gave.change; post = c.in-Ok.it.0.post },
      brought honest left left_now start mid ground sums table c.in-Ok.it.0 c.in-Ok.it.1 intake gave judged,
      back honest left left_now start mid ground sums table c.in-Ok.it.0 c.in-Ok.it.1 intake gave judged,
      placed_whole honest left left_now start mid ground sums table c.in-Ok.it.0 c.in-Ok.it.1 intake gave judged (g.D.Disk.history c.place_from.new.disk) (placed.From c.in-From.tried)
          c.take_source.ensures.moments (λ is. c.in-From.ensures.places (c.take_source.ensures.honest ∙ is)),
    )
