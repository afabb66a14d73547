use Rattle.std.proofs.Common.{[], arith}
use Rattle.std.proofs.Math.Logic.{∥∥₁_map}
use Rattle.ltx_codec.proofs.file_reader.FileReader.take_file.Goals as goal

-- before a file there are no pages, whatever the change
pub invariant_of-self : goal.invariant_of-self
invariant_of-self c = record { begun = λ _. ∥∥₁_map c.requires (λ fed. ([], record { fed = fed; pages = λ long. absurd (omega (arith, long)) })) }
