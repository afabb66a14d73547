-- By the rows.
use Rattle.std.proofs.Common.{sym}
use Rattle.file_view.proofs.DatabaseLemmas.{size-some, resize-fits, resize-owned}
use Rattle.file_view.proofs.view.View.size_allowed.Goals as goal

pub bytes_refusal-requires : goal.bytes_refusal-requires
bytes_refusal-requires c = size-some c.in-Some.size c.in-Some.ensures.takes.sqlite

pub returns-in-None-clause-may : goal.returns-in-None-clause-may
returns-in-None-clause-may c = record {
  takes = c.in-Some.ensures.takes;
  small = resize-fits c.args.self.now c.args.scene.now c.args.given c.args.len c.in-Some.size (sym c.in-None.ensures);
  owned = resize-owned c.args.self.now c.args.scene.now c.args.given c.args.len c.in-Some.size (sym c.in-None.ensures);
}
