use Rattle.std.proofs.Common.{List, ℕ, Some, subst}
use Rattle.std.specs.Io.KnownBytes.{Appends}
use Rattle.txn_log.proofs.Moves.{moved-none}
use Rattle.txn_log.specs.Store.{state_of, failed_of}
use Rattle.ltx_codec.specs.Format.{file_encoding, no_meaning}
use Rattle.world_laws.specs.Answers.{snapshot_of}
use Rattle.snapshot.proofs.whole.make.Goals as goal

pub returns-then-store-clause-went : goal.returns-then-store-clause-went
returns-then-store-clause-went g c honest =
    let s = c.args.store.now in
    let h = g.D.Disk.history s.disk in
    moved-none (state_of h s.page_size s.commit s.entries.items s.dropped s.broken s.whole) (failed_of h s.broken s.attempt s.tried) h (s.left honest)

pub returns-in-Err-clause-went : goal.returns-in-Err-clause-went
returns-in-Err-clause-went g c honest =
    let s = c.args.store.now in
    let h = g.D.Disk.history s.disk in
    moved-none (state_of h s.page_size s.commit s.entries.items s.dropped s.broken s.whole) (failed_of h s.broken s.attempt s.tried) h (s.left honest)

pub returns-in-Ok-make_into-clause-bytes : goal.returns-in-Ok-make_into-clause-bytes
returns-in-Ok-make_into-clause-bytes g c honest =
    let s = c.args.store.now in
    let encoding : List ℕ = file_encoding (snapshot_of (state_of (g.D.Disk.history s.disk) s.page_size s.commit s.entries.items s.dropped s.broken s.whole)) no_meaning in
    subst (λ v. Appends (Some v.items) (Some c.make_into.new.sink.bytes.items) encoding) c.replace-bytes.ensures.value (c.in-Ok-make_into.ensures.whole honest)
