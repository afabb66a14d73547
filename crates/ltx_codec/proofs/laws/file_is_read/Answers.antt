use Rattle.ltx_codec.proofs.PartLaws.{file_read}
use Rattle.ltx_codec.proofs.laws.file_is_read.Goals as goal

pub returns : goal.returns
returns c = file_read
