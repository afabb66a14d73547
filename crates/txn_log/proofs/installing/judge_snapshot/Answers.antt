use Rattle.std.proofs.Common.{Option, refl, subst}
use Rattle.ltx_codec.specs.declared.file.Ltx.{Ltx}
use Rattle.txn_log.specs.Taking.{TakenIn}
use Rattle.txn_log.specs.declared.taking_source.Intake.{Intake}
use Rattle.txn_log.proofs.Bringings.{none_room, some_room}
use Rattle.txn_log.proofs.installing.judge_snapshot.Goals as goal

pub returns-in_default : goal.returns-in_default
returns-in_default c = record {
  judges = λ encoding change table sums count wal octets is taken.
      let file : Ltx = record { header = c.args.outline.now.header; change = change; post = c.args.outline.now.post } in (
        c.if-outline-ne1.false,
        none_room table sums count wal c.args.room encoding file octets is (subst (λ (o : Option Intake). TakenIn o table sums count wal c.args.room encoding change) c.in_default.is taken),
        refl,
      );
}

pub returns : goal.returns
returns c = record {
  judges = λ encoding change table sums count wal octets is taken.
      let file : Ltx = record { header = c.args.outline.now.header; change = change; post = c.args.outline.now.post } in (
        c.in-Some.is,
        c.if-outline-ne1.false,
        some_room table sums count wal c.args.room encoding file octets is c.in-Some.intake (subst (λ (o : Option Intake). TakenIn o table sums count wal c.args.room encoding change) c.in-Some.is taken),
      );
}
