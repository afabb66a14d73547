use Rattle.wal_watch.proofs.file.WalFile.make_room.Goals as goal

pub invariant_of-self-2 : goal.invariant_of-self-2
invariant_of-self-2 c =
    let kept = c.self.invariant in
    rw c.in_ok-reserve.ensures.ok record {
      absent = kept.absent;
      gone = kept.gone;
      marks = kept.marks;
      saved = kept.saved;
      index = kept.index;
      few = kept.few;
      shared = kept.shared;
    }
