use Rattle.std.proofs.Common.{refl}
use Rattle.wal_watch.specs.Frames.{committed_count}
use Rattle.wal_watch.proofs.CommitLemmas.{has_committed}
use Rattle.wal_watch.proofs.FrontLemmas.{short_none}
use Rattle.wal_watch.proofs.LawLemmas.{last_some}
use Rattle.wal_watch.proofs.laws.committed_frames_say.Goals as goal

pub returns-clause-size : goal.returns-clause-size
returns-clause-size c = last_some

pub returns-clause-page_size : goal.returns-clause-page_size
returns-clause-page_size c = λ contents some. (has_committed contents (committed_count contents) refl some).header.page_size

pub returns-clause-short : goal.returns-clause-short
returns-clause-short c = short_none
