use Rattle.std.proofs.Common.{◌≡◌, ◌++◌, drop}
use Rattle.std.specs.Io.{StartsWith}
use Rattle.page_checksum.specs.Crc.{after_bytes}
use Rattle.ltx_codec.specs.Format.{pages_encoding}
use Rattle.ltx_codec.proofs.writing.append_pages.Given as goal

-- what is written and the encoding of the pages left are the encoding of all pages
abbrev pub invariant-loop-page : goal.invariant-loop-page
invariant-loop-page l =
    (l.out.items ++ pages_encoding (drop l.page-index l.pages) ≡ l.fn.out.items ++ pages_encoding l.pages)
    × (after_bytes l.encoder (pages_encoding (drop l.page-index l.pages)) ≡ after_bytes l.fn.encoder (pages_encoding l.pages))
    × StartsWith l.out.items l.fn.out.items
