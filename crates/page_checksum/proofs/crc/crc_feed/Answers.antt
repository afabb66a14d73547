use Rattle.page_checksum.proofs.PieceLemmas.{chunks_join}
use Rattle.page_checksum.proofs.crc.crc_feed.Goals as goal

pub returns : goal.returns
returns c =
    rw (c.feed_by_words.ensures, c.feed_blocks.ensures, c.as_chunks.ensures.front, c.as_chunks.ensures.back)
    (chunks_join c.args.register 256 c.args.bytes.now)
