use Rattle.ltx_codec.specs.WholePages.{largest_page}
use Rattle.txn_log.proofs.file_decoder.FileDecoder.feed.Goals as goal

pub returns : goal.returns
returns c encoding fed = c.feed.ensures.gives largest_page encoding fed
