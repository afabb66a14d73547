-- Each part by what settles it.
use Rattle.std.proofs.Common.{refl}
use Rattle.file_view.proofs.SoundLemmas.{locked-kept}
use Rattle.file_view.proofs.view.View.release_session.Goals as goal

pub returns : goal.returns
returns c =
    rw (
      ← c.self.view_is,
      c.settle_database.ensures.database,
      c.settle_database.ensures.held,
      c.settle_database.ensures.writer,
      c.settle_torn.ensures,
      c.settle_index.ensures,
      c.writer-before.ensures.value,
      c.release_session.ensures.entries,
    ) refl

pub invariant_of-self : goal.invariant_of-self
invariant_of-self c =
    locked-kept c.self.inside c.release_session.new.self c.settle_database.new.database c.settle_database.new.writer c.settle_torn.new.torn c.settle_index.new.shared
    c.settle_database.ensures.database c.settle_database.ensures.held c.settle_database.ensures.writer c.settle_torn.ensures c.self.invariant
