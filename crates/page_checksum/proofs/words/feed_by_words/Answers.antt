use Rattle.page_checksum.proofs.PieceLemmas.{chunks_join}
use Rattle.page_checksum.proofs.words.feed_by_words.Goals as goal

pub returns : goal.returns
returns c =
    rw (c.feed_bytes.ensures, c.feed_words.ensures, c.as_chunks.ensures.front, c.as_chunks.ensures.back)
    (chunks_join c.args.register 8 c.args.bytes.now)
