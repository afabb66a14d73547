-- The size by what the database file ensures; all else by the rules.
use Rattle.std.proofs.Common.{◌≡◌, ◌/◌, true, arith, rules}
use Rattle.file_view.specs.DatabaseRules.{resizes}
use Rattle.file_view.proofs.DatabaseLemmas.{size-some}
use Rattle.file_view.proofs.SoundLemmas.{changed-kept}
use Rattle.file_view.proofs.view.View.resize_pages.Goals as goal

pub nonzero_div-count : goal.nonzero_div-count
nonzero_div-count g c = let some = size-some c.args.size c.requires.may.takes.sqlite in omega (arith, some, c.from.ensures)

pub invariant_of-self-2 : goal.invariant_of-self-2
invariant_of-self-2 g c =
    changed-kept c.self.inside c.resize.new.self c.writer_after-writer.result (rw (← c.self.view_is) at c.writer_after-writer.ensures)
    (rw (← c.self.view_is) at (c.requires.may.owned (search rules))) c.resize.ensures.held c.self.invariant

pub returns-clause-done : goal.returns-clause-done
returns-clause-done g c =
    let changes : resizes c.args.self.now c.args.scene.now (c.args.len / c.args.size) ≡ true = search rules in
    let again = rw (← c.self.view_is) at changes in
    rw (← c.self.view_is)
    (record {
      resized = λ is. record { pages = search rules; all = record { fits = rw (c.requires.over.0, c.requires.over.1) (search rules); differs = search rules; rest = search rules } };
      same = λ unchanged. absurd (cc (again, unchanged));
    })
