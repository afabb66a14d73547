use Rattle.std.proofs.Common.{◌∙◌, ap}
use Rattle.page_checksum.specs.Crc.{after_bytes, all_ones}
use Rattle.ltx_codec.proofs.encoder.Encoder.start.Goals as goal

pub returns-clause-register : goal.returns-clause-register
returns-clause-register c = c.crc_feed.ensures ∙ ap (after_bytes all_ones) c.header_bytes-bytes.ensures
