-- By the rows.
use Rattle.std.proofs.Common.{sym}
use Rattle.file_view.proofs.DatabaseLemmas.{size-some, write-pages, write-owned}
use Rattle.file_view.proofs.view.View.write_allowed.Goals as goal

pub pages_refusal-requires : goal.pages_refusal-requires
pages_refusal-requires c = record { some = size-some c.in-Some.size c.in-Some.ensures.takes.sqlite }

pub returns-in-None-clause-may : goal.returns-in-None-clause-may
returns-in-None-clause-may c = record {
  takes = c.in-Some.ensures.takes;
  pages = write-pages c.args.self.now c.args.scene.now c.args.write.now.given c.args.write.now.at c.args.write.now.bytes.now c.in-Some.size (sym c.in-None.ensures);
  owned = write-owned c.args.self.now c.args.scene.now c.args.write.now.given c.args.write.now.at c.args.write.now.bytes.now c.in-Some.size (sym c.in-None.ensures);
}
