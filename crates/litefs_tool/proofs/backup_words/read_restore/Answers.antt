use Rattle.std.proofs.Common.{◌≡◌, ◌∙◌, sym, subst, codes, arith}
use Rattle.lf_base.specs.Hex.{hex_digits}
use Rattle.lf_base.specs.Name.{IsName}
use Rattle.litefs_tool.specs.Words.{IsNameRead, SaysBoth}
use Rattle.litefs_tool.proofs.BothLemmas.{name_or_txid}
use Rattle.litefs_tool.proofs.backup_words.read_restore.Goals as goal

pub both_options-requires : goal.both_options-requires
both_options-requires c = name_or_txid

pub returns-in_default : goal.returns-in_default
returns-in_default c name txid says = c.in_default.ensures name (hex_digits 16 txid) says.values

pub returns-then-has_room : goal.returns-then-has_room
returns-then-has_room c =
    let read = subst (IsNameRead c.in-Some.name.now) c.in-Some-2.is c.in_ok-name.ensures in
    let digits : c.in-Some.digits.now ≡ hex_digits 16 c.in-Some-read_hex16.txid = sym c.as_bytes.ensures.value ∙ c.in-Some-read_hex16.ensures.found in
    record {
      values = subst (λ n. SaysBoth (codes "--name") (codes "--txid") n (hex_digits 16 c.in-Some-read_hex16.txid) c.args.words.now) (sym read.0)
          (subst (λ d. SaysBoth (codes "--name") (codes "--txid") c.in-Some.name.now d c.args.words.now) digits c.in-Some.ensures);
      is_name = subst IsName (sym read.0) read.1;
      room = c.if-has_room.ensures;
      within = omega arith;
    }
