-- The buffer had room for just the bytes that there are.
use Rattle.std.proofs.Common.{◌≡◌, length, refl, ap, ◌∙◌, rules}
use Rattle.file_view.proofs.ReadLemmas.{read_all, filled}
use Rattle.file_view.proofs.reading.read_log.Goals as goal

pub returns : goal.returns
returns c =
    let kept : length c.read.new.out ≡ length c.in_ok-bytes.bytes.items = c.read.auto.out ∙ ap length c.as_mut_slice.ensures.value in
    let whole : c.in_ok-bytes.bytes.len ≡ length c.in_ok-bytes.bytes.items = search rules in
    rw (filled c.in_ok-bytes.bytes.items c.read.new.out c.in_ok-bytes.bytes.len whole kept)
    (read_all c.args.file.now.contents _ _ _ _ _ _ _ (rw (c.unwrap_or.ensures, c.len.ensures) refl) c.in_ok-bytes.ensures c.as_mut_slice.ensures.value
    c.read.ensures)
