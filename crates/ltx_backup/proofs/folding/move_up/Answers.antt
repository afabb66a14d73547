use Rattle.std.proofs.Common.{inl, inr, List, refl, subst}
use Rattle.lf_disk.specs.History.{now}
use Rattle.ltx_backup.specs.Trimming.{HasTrimmed}
use Rattle.ltx_backup.specs.declared.entry.Entry.{Entry}
use Rattle.ltx_backup.proofs.Trims.{untouched}
use Rattle.ltx_backup.proofs.folding.move_up.Goals as goal

pub returns-in-Err-clause-same : goal.returns-in-Err-clause-same
returns-in-Err-clause-same g c not = let same = c.in-Err.ensures.same not in (refl, same.0, refl, same.1)

pub returns-in-Err-clause-moves : goal.returns-in-Err-clause-moves
returns-in-Err-clause-moves g c from to = record {
  publishes = c.append.ensures.moments to;
  removes = untouched c.args.file.now.header.max (g.D.Disk.history c.args.from.now) (c.requires.from_settled from);
  first = inl refl;
}

pub returns-in-Err-trim-clause-same : goal.returns-in-Err-trim-clause-same
returns-in-Err-trim-clause-same g c not = absurd (not refl)

pub returns-in-Err-trim-clause-moves : goal.returns-in-Err-trim-clause-moves
returns-in-Err-trim-clause-moves g c from to = record {
  publishes = c.append.ensures.moments to;
  removes = c.trim.ensures.moments from;
  first = inr (c.in-Ok.ensures.published to);
}

pub returns-in-Ok-trim-clause-moves : goal.returns-in-Ok-trim-clause-moves
returns-in-Ok-trim-clause-moves g c from to = record {
  publishes = c.append.ensures.moments to;
  removes = c.trim.ensures.moments from;
  first = inr (c.in-Ok.ensures.published to);
}

pub returns-in-Ok-trim-clause-done : goal.returns-in-Ok-trim-clause-done
returns-in-Ok-trim-clause-done g c from to = record {
  there = c.in-Ok.ensures.published to;
  gone = subst (λ (es : List Entry). HasTrimmed c.args.file.now.header.max es (now (g.D.Disk.history c.args.from.now)) (g.D.Disk.history c.trim.new.disk)) c.as_slice.ensures.value
      (c.in-Ok-trim.ensures.done from);
}

pub returns-in-Ok-trim-clause-settled : goal.returns-in-Ok-trim-clause-settled
returns-in-Ok-trim-clause-settled g c = (λ honest. (c.in-Ok-trim.ensures.done honest).settled, λ honest. (c.in-Ok.ensures.published honest).settled)
