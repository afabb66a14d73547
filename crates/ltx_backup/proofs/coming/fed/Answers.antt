use Rattle.std.proofs.Common.{◌++◌, arith}
use Rattle.ltx_codec.proofs.FeedLemmas.{AreBytes-append}
use Rattle.ltx_backup.proofs.Comings.{found_stays}
use Rattle.ltx_backup.proofs.coming.fed.Goals as goal

pub returns-in-Ok-Some : goal.returns-in-Ok-Some
returns-in-Ok-Some c bytes begun =
    let reads = rw c.in-Ok-Some.field-0-is at (c.in-Ok-Some.ensures.gives bytes begun) in
    c.ended.ensures bytes begun.fed.octets reads.1 reads.2

pub returns-in-Err : goal.returns-in-Err
returns-in-Err c bytes begun = record {
  octets = AreBytes-append bytes c.args.piece.now begun.fed.octets (λ i. omega (arith, c.type_inv.piece i));
  so_far = found_stays (bytes ++ c.args.piece.now) c.in-Err.fault (c.in-Err.ensures.gives bytes begun);
}
