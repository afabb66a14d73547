use Rattle.ltx_codec.proofs.SoundLemmas.{encoding_sound}
use Rattle.ltx_codec.proofs.laws.encoding_breaks_no_rule.Goals as goal

pub returns : goal.returns
returns c = encoding_sound
