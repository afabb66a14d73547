-- The parts that the code makes are those of the one file, and the rest follows from that.
use Rattle.std.proofs.Common.{◌∙◌, sym, ap, refl, arith, length}
use Rattle.std.proofs.lemmas.Option.{slice_get_read}
use Rattle.ltx_codec.specs.declared.header.Header.{Header}
use Rattle.ltx_compact.specs.Compaction.{Compacts}
use Rattle.ltx_compact.proofs.Made.{Compacts-made, sizes, holds, does, encodes}
use Rattle.ltx_compact.proofs.compacting.compact.Goals as goal

pub change_of-requires-clause-sizes : goal.change_of-requires-clause-sizes
change_of-requires-clause-sizes c =
    let files = c.args.files.now in
    let joined = c.in_ok-check_all.ensures.ok in
    λ k d within.
    sizes files joined c.requires c.index-files-files.result
    (slice_get_read files (length files) _ c.index-files-files.result refl (omega (arith, joined.some)) c.index-files-files.is) k d within
    ∙ sym (ap (λ (h : Header). h.page_size) c.header_of-header.ensures)

made : (c : goal.In_ok-change) → Compacts c.args.files.now
    (record { header = c.header_of-header.result; change = c.in_ok-change.change; post = c.index-files-files.result.post })
made c =
    Compacts-made c.args.files.now c.index-files-0.result c.index-files-files.result c.header_of-header.result c.in_ok-change.change
    c.in_ok-check_all.ensures.ok.some c.index-files-0.is c.index-files-files.is c.header_of-header.ensures c.in_ok-change.ensures.value

pub returns-clause-ok : goal.returns-clause-ok
returns-clause-ok c = made c

pub returns-clause-pages : goal.returns-clause-pages
returns-clause-pages c = holds c.args.files.now c.in_ok-check_all.ensures.ok c.requires _ (made c)

pub returns-clause-same : goal.returns-clause-same
returns-clause-same c = does c.args.files.now c.in_ok-check_all.ensures.ok c.requires _ (made c)

pub returns-clause-encodes : goal.returns-clause-encodes
returns-clause-encodes c = encodes c.args.files.now c.in_ok-check_all.ensures.ok c.requires _ (made c) c.in_ok-change.ensures.valid
