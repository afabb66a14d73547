use Rattle.std.proofs.Common.{◌++◌, List, ◌∙◌, ap}
use Rattle.page_checksum.specs.Crc.{after_bytes}
use Rattle.lf_sqlite_pages.specs.declared.page_write.PageWrite.{PageWrite}
use Rattle.ltx_codec.specs.Format.{pages_encoding}
use Rattle.ltx_codec.proofs.WriteLemmas.{file_written}
use Rattle.ltx_codec.proofs.writing.append_file.Goals as goal

pub returns-in-Ok-clause-ok : goal.returns-in-Ok-clause-ok
returns-in-Ok-clause-ok c =
    let pages = c.pages.ensures.value in
    file_written c.args.ltx.now c.args.out.now.items c.start.new.out.items c.append_pages.new.out.items c.finish.new.out.items c.in_ok-encoder.encoder c.append_pages.new.encoder
    c.in_ok-encoder.ensures.ok c.in_ok-encoder.ensures.register
    (c.in_ok-append_pages.ensures.ok ∙ ap (λ (l : List PageWrite). c.start.new.out.items ++ pages_encoding l) pages)
    (c.in_ok-append_pages.ensures.register ∙ ap (λ (l : List PageWrite). after_bytes c.in_ok-encoder.encoder (pages_encoding l)) pages)
    c.in-Ok.ensures.ok
