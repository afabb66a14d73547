use Rattle.wal_watch.proofs.LawLemmas.{keeps_count, keeps_frames, keeps_size}
use Rattle.wal_watch.proofs.laws.keep_committed_frames.Goals as goal

pub returns-clause-count : goal.returns-clause-count
returns-clause-count c = keeps_count

pub returns-clause-frames : goal.returns-clause-frames
returns-clause-frames c = keeps_frames

pub returns-clause-page_size : goal.returns-clause-page_size
returns-clause-page_size c = keeps_size
