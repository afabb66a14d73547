use Rattle.std.proofs.Common.{◌∷◌, ◌++◌}
use Rattle.lf_base.specs.Hex.{hex_digits}
use Rattle.stream_wire.proofs.NumberParts.{same_rest}
use Rattle.stream_wire.proofs.LastFields.{no_last_file}
use Rattle.stream_wire.proofs.last_file.read_last_file.Goals as goal

pub returns-in_default : goal.returns-in_default
returns-in_default c = no_last_file c.args.bytes.now
    (λ e. let no = c.if-is_same.ensures.1 e in absurd cc)
    (λ min max sum a b d e. c.in_default.ensures.none min (hex_digits 16 max ++ 47 ∷ hex_digits 16 sum) a e)

pub returns-in_default-number_then : goal.returns-in_default-number_then
returns-in_default-number_then c = no_last_file c.args.bytes.now
    (λ e. let no = c.if-is_same.ensures.1 e in absurd cc)
    (λ min max sum a b d e.
    let behind = same_rest c.args.bytes.now c.in-Some.min min 45 c.in-Some.rest.now (hex_digits 16 max ++ 47 ∷ hex_digits 16 sum) c.in-Some.ensures.found e in
    c.in_default-number_then.ensures.none max (hex_digits 16 sum) b behind)

pub returns-in_default-read_hex16 : goal.returns-in_default-read_hex16
returns-in_default-read_hex16 c = no_last_file c.args.bytes.now
    (λ e. let no = c.if-is_same.ensures.1 e in absurd cc)
    (λ min max sum a b d e.
    let behind = same_rest c.args.bytes.now c.in-Some.min min 45 c.in-Some.rest.now (hex_digits 16 max ++ 47 ∷ hex_digits 16 sum) c.in-Some.ensures.found e in
    c.in_default-read_hex16.ensures.none sum d
    (same_rest c.in-Some.rest.now c.in-Some-number_then.max max 47 c.in-Some-number_then.rest.now (hex_digits 16 sum) c.in-Some-number_then.ensures.found behind))
