use Rattle.std.proofs.Common.{sym, subst}
use Rattle.lf_base.specs.Name.{IsName}
use Rattle.litefs_tool.specs.Words.{IsAddressIn, IsNameRead, SaysValues}
use Rattle.litefs_tool.proofs.remote.read_remote.Goals as goal

pub returns-in_default : goal.returns-in_default
returns-in_default c remote says = c.in_default.ensures _ _ says.values

pub returns : goal.returns
returns c =
    let read = subst (IsNameRead c.in-Some.name.now) c.in-Some-2.is c.in_ok-name.ensures in
    record {
      given = c.in-Some.given.now;
      values = subst (λ n. SaysValues n c.in-Some.given.now c.args.words.now) (sym read.0) c.in-Some.ensures;
      name = subst IsName (sym read.0) read.1;
      address = subst (IsAddressIn c.in-Some.given.now) (sym c.in_ok-address.ensures) c.address_in.ensures;
    }
