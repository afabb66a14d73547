use Rattle.std.proofs.Common.{[], ◌∷◌, ◌++◌}
use Rattle.lf_base.specs.Hex.{hex_digits}
use Rattle.lf_base.specs.Position.{position_text}
use Rattle.stream_wire.proofs.NumberParts.{same_rest}
use Rattle.stream_wire.proofs.pass_line.read_pass_line.Goals as goal

pub returns-in_default-number_then : goal.returns-in_default-number_then
returns-in_default-number_then c = λ pass fits e.
    let end = position_text pass.pos ++ 10 ∷ [] in
    let behind = same_rest c.args.line.now c.in-Some.number pass.number 32 c.in-Some.rest.now (hex_digits 16 pass.until ++ 32 ∷ end) c.in-Some.ensures.found e in
    c.in_default-number_then.ensures.none pass.until end fits.1 behind

pub returns-in-None : goal.returns-in-None
returns-in-None c = λ pass fits e.
    let end = position_text pass.pos ++ 10 ∷ [] in
    let behind = same_rest c.args.line.now c.in-Some.number pass.number 32 c.in-Some.rest.now (hex_digits 16 pass.until ++ 32 ∷ end) c.in-Some.ensures.found e in
    c.in-None.ensures pass.pos fits.2 (same_rest c.in-Some.rest.now c.in-Some-number_then.until pass.until 32 c.in-Some-number_then.rest.now end c.in-Some-number_then.ensures.found behind)
