use Rattle.std.proofs.Common.{List, ℕ, ◌++◌, subst, arith}
use Rattle.std.proofs.lemmas.List.{take_all}
use Rattle.ltx_codec.specs.Format.{IsLtx}
use Rattle.ltx_codec.proofs.FeedLemmas.{AreBytes-append}
use Rattle.ltx_backup.proofs.Comings.{cut_stays}
use Rattle.ltx_backup.proofs.coming.ended.Goals as goal

pub returns-then-used-piece : goal.returns-then-used-piece
returns-then-used-piece c bytes octets within is = record {
  octets = AreBytes-append bytes c.args.piece.now octets (λ i. omega (arith, c.type_inv.piece i));
  so_far = cut_stays bytes c.args.piece.now c.args.used c.args.file (omega (arith, c.if-used-piece.true)) is;
}

pub returns : goal.returns
returns c bytes octets within is = record {
  octets = AreBytes-append bytes c.args.piece.now octets (λ i. omega (arith, c.type_inv.piece i));
  so_far = subst (λ (l : List ℕ). IsLtx (bytes ++ l) c.args.file) (take_all c.args.used c.args.piece.now (omega (arith, c.if-used-piece.false))) is;
}
