-- A log with committed frames has a header.
use Rattle.std.proofs.Common.{◌≤◌, length, arith, refl, ⊎_elim}
use Rattle.std.proofs.lemmas.Bool.{cases_lt}
use Rattle.wal_watch.specs.File.{contents_of}
use Rattle.file_view.proofs.ReadLemmas.{salts_read}
use Rattle.file_view.proofs.locks.salts_of.Goals as goal

pub returns : goal.returns
returns c =
    let long : 32 ≤ length (contents_of c.args.log.now) =
    ⊎_elim
    (λ less. absurd (let none = c.committed_frames_say.ensures.short (contents_of c.args.log.now) less in omega (arith, none, c.requires)))
    (λ more. more)
    (cases_lt (length (contents_of c.args.log.now)) 32) in
    salts_read _ _ _ _ refl long c.read.ensures
