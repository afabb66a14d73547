-- The pages by what the database file ensures; all else by the rules.
use Rattle.std.proofs.Common.{rules}
use Rattle.file_view.proofs.DatabaseLemmas.{for-size}
use Rattle.file_view.proofs.SoundLemmas.{changed-kept}
use Rattle.file_view.proofs.view.View.write_database.Goals as goal

pub invariant_of-self-2 : goal.invariant_of-self-2
invariant_of-self-2 g c =
    changed-kept c.self.inside c.write_pages.new.self c.writer_after-writer.result (rw (← c.self.view_is) at c.writer_after-writer.ensures)
    (rw (← c.self.view_is) at c.in_ok-size.ensures.may.owned) c.write_pages.ensures.held c.self.invariant

pub returns-clause-done : goal.returns-clause-done
returns-clause-done g c =
    for-size _ _ c.in_ok-size.size c.in_ok-size.ensures.size
    (rw (← c.self.view_is) (record { pages = search rules; all = record { fits = rw (c.requires.over.0, c.requires.over.1) (search rules); differs = search rules; rest = search rules } }))
