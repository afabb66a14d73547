-- A contents that is cut has no more committed frames.
use Rattle.std.proofs.Common.{◌≡◌, ℕ, ◌-◌, ◌≤◌, List, length, take, replicate, arith, ◌∙◌}
use Rattle.std.proofs.lemmas.List.{take-append-le, take-take, length-take}
use Rattle.lf_base.specs.FileBytes.{resized}
use Rattle.wal_watch.specs.Frames.{committed_count}
use Rattle.lf_base.proofs.FileLemmas.{length-resized}
use Rattle.wal_watch.proofs.AgreeLemmas.{front_counts}

pub cut_counts : (contents : List ℕ) (len : ℕ) → len ≤ length contents → committed_count (resized len contents) ≤ committed_count contents
cut_counts contents len le =
    let front : take len (resized len contents) ≡ take len contents =
    take-append-le len (take len contents) (replicate (len - length contents) 0) (omega (arith, length-take len contents)) ∙ take-take len len contents (omega arith) in
    front_counts (resized len contents) contents len front (length-resized len contents) le
