use Rattle.ltx_codec.proofs.WriteLemmas.{encoding_is}
use Rattle.ltx_codec.proofs.writing.encode.Goals as goal

pub returns-in-Err-clause-reads_back : goal.returns-in-Err-clause-reads_back
returns-in-Err-clause-reads_back c = encoding_is c.args.ltx.now c.requires

pub returns-clause-reads_back : goal.returns-clause-reads_back
returns-clause-reads_back c = encoding_is c.args.ltx.now c.requires
