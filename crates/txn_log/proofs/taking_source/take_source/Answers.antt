use Rattle.std.proofs.Common.{◌≡◌, ◌∙◌, ◌++◌, ◌+◌, inr, List, ℕ, take, drop, sym, ap, subst, arith}
use Rattle.std.proofs.lemmas.List.{take-append-drop, drop-drop}
use Rattle.std.specs.Io.KnownBytes.{Consumes}
use Rattle.lf_disk.specs.History.{now}
use Rattle.txn_log.proofs.TakingSources.{Going, going_read, going_step, going_failed, came, quiet, none_left, read_all}
use Rattle.txn_log.proofs.taking_source.take_source.Goals as goal

pub take_part-requires-clause-came : goal.take_part-requires-clause-came
take_part-requires-clause-came g c =
    let h = g.D.Disk.history c.args.disk.now in
    let mid = g.D.Disk.history c.parts.disk in
    let inv = c.parts.invariant in
    let left = g.S.Source.left c.args.source.now in
    let left_now = g.S.Source.left c.refill.new.source in
    let rest : List ℕ = c.split_at-in-parts.result.1.now in
    let rest_is : rest ≡ drop c.in-Ok.it.0 (take c.in-Ok.it.1 c.refill.new.page) = c.split_at-in-parts.ensures.back ∙ ap (drop c.in-Ok.it.0) c.split_at.ensures.front in
    let on : Going (g.D.Disk.honest c.args.disk.now) left left_now c.parts.coming c.parts.taken c.parts.table.sums c.args.old.now.sums c.args.count c.args.wal c.args.room rest h mid =
    going_read (g.D.Disk.honest c.args.disk.now) left _ c.parts.coming c.parts.taken c.parts.table.sums c.args.old.now.sums c.args.count c.args.wal c.args.room _ h mid inv.going left_now rest
    (λ encoding read. subst (λ (l : List ℕ). Consumes left left_now (encoding ++ l)) (sym rest_is) (c.in-Ok.ensures.more left encoding read)) in (
      now h,
      on.encoding,
      on.encoding ++ take c.in-Ok-step.came.1 rest,
      on.change,
      came (g.D.Disk.honest c.args.disk.now) left left_now c.parts.coming c.parts.taken c.parts.table.sums c.args.old.now.sums c.args.count c.args.wal c.args.room rest h mid on c.step.new.self c.in-Ok-step.came.0 c.in-Ok-step.came.1 c.in-Ok-step.ensures.comes,
      on.taken_in,
      λ is. on.staged (sym inv.honest ∙ is),
    )

pub returns-in-Err-take_part-clause-moments : goal.returns-in-Err-take_part-clause-moments
returns-in-Err-take_part-clause-moments g c =
    let h = g.D.Disk.history c.args.disk.now in
    let mid = g.D.Disk.history c.parts.disk in
    let inv = c.parts.invariant in
    let left = g.S.Source.left c.args.source.now in
    let left_now = g.S.Source.left c.refill.new.source in
    let rest : List ℕ = c.split_at-in-parts.result.1.now in
    let rest_is : rest ≡ drop c.in-Ok.it.0 (take c.in-Ok.it.1 c.refill.new.page) = c.split_at-in-parts.ensures.back ∙ ap (drop c.in-Ok.it.0) c.split_at.ensures.front in
    let on : Going (g.D.Disk.honest c.args.disk.now) left left_now c.parts.coming c.parts.taken c.parts.table.sums c.args.old.now.sums c.args.count c.args.wal c.args.room rest h mid =
    going_read (g.D.Disk.honest c.args.disk.now) left _ c.parts.coming c.parts.taken c.parts.table.sums c.args.old.now.sums c.args.count c.args.wal c.args.room _ h mid inv.going left_now rest
    (λ encoding read. subst (λ (l : List ℕ). Consumes left left_now (encoding ++ l)) (sym rest_is) (c.in-Ok.ensures.more left encoding read)) in
    going_failed (g.D.Disk.honest c.args.disk.now) left left_now c.parts.coming c.parts.taken c.parts.table.sums c.args.old.now.sums c.args.count c.args.wal c.args.room rest h mid on
    c.step.new.self c.in-Ok-step.came.0 c.in-Ok-step.came.1 (g.D.Disk.history c.take_part.new.disk) c.in-Ok-step.ensures.comes (λ is. c.take_part.ensures.moments (inv.honest ∙ is))

pub parts-preserved : goal.parts-preserved
parts-preserved g c =
    let h = g.D.Disk.history c.args.disk.now in
    let mid = g.D.Disk.history c.parts.disk in
    let inv = c.parts.invariant in
    let left = g.S.Source.left c.args.source.now in
    let left_now = g.S.Source.left c.refill.new.source in
    let page : List ℕ = c.refill.new.page in
    let rest : List ℕ = c.split_at-in-parts.result.1.now in
    let rest_is : rest ≡ drop c.in-Ok.it.0 (take c.in-Ok.it.1 page) = c.split_at-in-parts.ensures.back ∙ ap (drop c.in-Ok.it.0) c.split_at.ensures.front in
    let on : Going (g.D.Disk.honest c.args.disk.now) left left_now c.parts.coming c.parts.taken c.parts.table.sums c.args.old.now.sums c.args.count c.args.wal c.args.room rest h mid =
    going_read (g.D.Disk.honest c.args.disk.now) left _ c.parts.coming c.parts.taken c.parts.table.sums c.args.old.now.sums c.args.count c.args.wal c.args.room _ h mid inv.going left_now rest
    (λ encoding read. subst (λ (l : List ℕ). Consumes left left_now (encoding ++ l)) (sym rest_is) (c.in-Ok.ensures.more left encoding read)) in
    let used : ℕ = c.in-Ok-step.came.1 in
    let splits : rest ≡ take used rest ++ drop (c.in-Ok.it.0 + used) (take c.in-Ok.it.1 page) =
    sym (take-append-drop used rest) ∙ ap (λ (l : List ℕ). take used rest ++ l) (ap (drop used) rest_is ∙ drop-drop used c.in-Ok.it.0 (take c.in-Ok.it.1 page)) in
    record {
      going = going_step (g.D.Disk.honest c.args.disk.now) left left_now c.parts.coming c.parts.taken c.parts.table.sums c.args.old.now.sums c.args.count c.args.wal c.args.room rest h mid on
          c.step.new.self c.in-Ok-step.came.0 used c.in-Ok-step.ensures.comes c.in-Ok-take_part.next c.take_part.new.table.sums (g.D.Disk.history c.take_part.new.disk) (drop (c.in-Ok.it.0 + used) (take c.in-Ok.it.1 page)) splits
          c.in-Ok-take_part.ensures.taken (λ is. c.in-Ok-take_part.ensures.staged (inv.honest ∙ is)) (λ is. c.take_part.ensures.moments (inv.honest ∙ is));
      order = omega (arith, c.in-Ok-step.ensures.more.1, c.split_at-in-parts.ensures.back_len, c.split_at.ensures.front_len, c.in-Ok.ensures.order.0);
      within = omega (arith, c.in-Ok.ensures.order.1, c.in-Ok.ensures.long, inv.page);
      page = c.in-Ok.ensures.long ∙ inv.page;
      spare = c.take_part.ensures.spare ∙ inv.spare;
      honest = c.take_part.ensures.honest ∙ inv.honest;
      source_faults = c.in-Ok.ensures.cause ∙ inv.source_faults;
      disk_faults = c.in-Ok-take_part.ensures.cause ∙ inv.disk_faults;
    }

pub returns-in-Ok-finish-clause-takes : goal.returns-in-Ok-finish-clause-takes
returns-in-Ok-finish-clause-takes g c =
    let going = c.parts.invariant.going in
    let left = g.S.Source.left c.args.source.now in
    let left_now = g.S.Source.left c.refill.new.source in
    record {
      encoding = going.encoding;
      change = going.change;
      read = read_all left left_now going.encoding _ (none_left c.in-Ok.it.0 c.in-Ok.it.1 c.refill.new.page c.if-from-to.true) (c.in-Ok.ensures.more left going.encoding going.read);
      end = c.in-Ok.ensures.ended c.if-from-to.true;
      octets = going.come.octets;
      is = c.in-Ok-finish.ensures going.encoding going.change going.come;
      taken_in = going.taken_in;
      staged = going.staged;
    }

pub returns-in-Err-finish-clause-takes : goal.returns-in-Err-finish-clause-takes
returns-in-Err-finish-clause-takes g c =
    let going = c.parts.invariant.going in
    let left = g.S.Source.left c.args.source.now in
    let left_now = g.S.Source.left c.refill.new.source in (
      record {
        encoding = going.encoding;
        read = read_all left left_now going.encoding _ (none_left c.in-Ok.it.0 c.in-Ok.it.1 c.refill.new.page c.if-from-to.true) (c.in-Ok.ensures.more left going.encoding going.read);
        stands = inr (c.in-Ok.ensures.ended c.if-from-to.true, c.in-Err-finish.ensures going.encoding going.change going.come);
      },
      quiet (g.D.Disk.honest c.args.disk.now) left _ c.parts.coming c.parts.taken c.parts.table.sums c.args.old.now.sums c.args.count c.args.wal c.args.room _ (g.D.Disk.history c.args.disk.now) (g.D.Disk.history c.parts.disk) going,
    )
