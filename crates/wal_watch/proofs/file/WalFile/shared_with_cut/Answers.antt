use Rattle.std.proofs.Common.{◌≤◌, inl, inr, arith}
use Rattle.std.proofs.lemmas.Bool.{cases_lt}
use Rattle.lf_base.specs.FileBytes.{resized}
use Rattle.wal_watch.specs.File.{contents_of}
use Rattle.wal_watch.specs.Frames.{committed_end}
use Rattle.wal_watch.proofs.IndexLemmas.{shared-front}
use Rattle.wal_watch.proofs.StayLemmas.{take-resized}
use Rattle.wal_watch.proofs.WriteLemmas.{end_there}
use Rattle.wal_watch.proofs.file.WalFile.shared_with_cut.Goals as goal

pub returns-else-len-eq0 : goal.returns-else-len-eq0
returns-else-len-eq0 c =
    let contents = contents_of c.args.self.now in
    let behind : committed_end (contents_of c.args.self.now) ≤ c.args.len = elim (cases_lt c.args.len (committed_end (contents_of c.args.self.now))) [
      | inl below ↦ absurd (c.requires.part (inl (c.if-len-eq0.false, below)))
      | inr at ↦ at
    ] in
    shared-front contents (resized c.args.len contents) c.committed.result (take-resized contents (committed_end contents) c.args.len behind (end_there contents)) (omega (arith, c.committed.ensures))
