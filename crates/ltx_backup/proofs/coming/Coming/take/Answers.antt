use Rattle.std.proofs.Common.{subst, arith}
use Rattle.ltx_codec.proofs.FeedLemmas.{AreBytes-append}
use Rattle.ltx_backup.specs.Coming.{IsSoFar}
use Rattle.ltx_backup.specs.declared.coming.Coming.{Coming}
use Rattle.ltx_backup.proofs.Comings.{stays_on, tail_stays}
use Rattle.ltx_backup.proofs.coming.Coming.take.Goals as goal

pub returns-in-Whole : goal.returns-in-Whole
returns-in-Whole c bytes come = record {
  octets = AreBytes-append bytes c.args.piece.now come.octets (λ i. omega (arith, c.type_inv.piece i));
  so_far = tail_stays bytes c.args.piece.now c.in-Whole.field-0 (subst (λ (s : Coming). IsSoFar s bytes) c.in-Whole.is come.so_far) c.requires;
}

pub returns : goal.returns
returns c bytes come = record {
  octets = AreBytes-append bytes c.args.piece.now come.octets (λ i. omega (arith, c.type_inv.piece i));
  so_far = stays_on bytes c.args.piece.now c.in-Faulty.fault (subst (λ (s : Coming). IsSoFar s bytes) c.in-Faulty.is come.so_far);
}
