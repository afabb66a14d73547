use Rattle.std.proofs.Common.{◌∙◌, ap, List, ℕ, ◌++◌}
use Rattle.ltx_codec.specs.Format.{file_encoding, no_meaning}
use Rattle.ltx_backup.specs.Stored.{stored}
use Rattle.ltx_backup.proofs.encoding.encoded.Goals as goal

pub returns-in-Ok-clause-bytes : goal.returns-in-Ok-clause-bytes
unfolding stored
returns-in-Ok-clause-bytes c = c.in-Ok.ensures.ok ∙ ap (λ (l : List ℕ). l ++ file_encoding c.args.file.now no_meaning) c.new-bytes.ensures.items

pub returns-in-Ok-clause-reads_back : goal.returns-in-Ok-clause-reads_back
unfolding stored
returns-in-Ok-clause-reads_back c = c.encode.ensures.reads_back

pub returns-in-Err-clause-reads_back : goal.returns-in-Err-clause-reads_back
unfolding stored
returns-in-Err-clause-reads_back c = c.encode.ensures.reads_back
