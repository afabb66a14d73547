-- The page is over the one that stands at its place, or behind those that stand.
use Rattle.std.proofs.Common.{◌≡◌, ◌-◌, ◌≤◌, ◌∙◌, ap, length, arith}
use Rattle.lf_sqlite_pages.specs.Steps.{filled}
use Rattle.lf_sqlite_pages.proofs.PlacingLemmas.{placed-at_end, length-filled}
use Rattle.lf_sqlite_pages.proofs.placing.place.Goals as goal

pub returns-in_ok-push : goal.returns-in_ok-push
returns-in_ok-push c =
    let filled_is : c.fill.new.pages.items ≡ filled c.args.pages.now.items c.args.size (c.args.write.number - 1) = c.in_ok-fill.ensures in
    let short : length c.args.pages.now.items ≤ c.args.write.number - 1 =
    omega (arith, ap length filled_is, length-filled c.args.pages.now.items c.args.size (c.args.write.number - 1), c.if-at-len.false, c.len.ensures)
    in
    c.in_ok-push.ensures.items ∙ rw (c.of-else-at-len.ensures, filled_is) (placed-at_end c.args.pages.now.items c.args.size c.args.write c.requires short)
