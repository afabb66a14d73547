-- The parts that the code makes are those of the one file, and the rest follows from that.
use Rattle.std.proofs.Common.{◌≡◌, ◌-◌, ◌∙◌, List, sym, ap, subst, refl, arith, length, get_or}
use Rattle.std.proofs.lemmas.Option.{slice_get_read}
use Rattle.ltx_codec.specs.declared.file.Ltx.{Ltx}
use Rattle.ltx_codec.specs.declared.header.Header.{Header}
use Rattle.ltx_compact.specs.Compaction.{Compacts}
use Rattle.ltx_compact.specs.Joining.{AllJoin}
use Rattle.ltx_compact.proofs.Made.{Compacts-made, sizes, holds, does, encodes}
use Rattle.ltx_compact.proofs.compacting.compact_owned.Goals as goal

-- what is read at the end of a list is read at the end of the same list
end_of : (list files : List Ltx) (last : Ltx) → list ≡ files → last ≡ get_or list (length list - 1) last → last ≡ get_or files (length files - 1) last
end_of list files last same read = subst (λ (fs : List Ltx). last ≡ get_or fs (length fs - 1) last) same read

pub change_of_owned-requires-clause-sizes : goal.change_of_owned-requires-clause-sizes
change_of_owned-requires-clause-sizes c =
    let files = c.args.files.items in
    let joined : AllJoin files = subst AllJoin c.as_slice-list.ensures.value c.in_ok-check_all.ensures.ok in
    let last = c.index-list-list.result in
    let last_read = end_of c.as_slice-list.result.now files last c.as_slice-list.ensures.value c.index-list-list.is in
    λ k d within.
    sizes files joined c.requires last (slice_get_read files (length files) _ last refl (omega (arith, joined.some)) last_read) k d within
    ∙ sym (ap (λ (h : Header). h.page_size) c.header_of-header.ensures)

joined : (c : goal.In_ok-change) → AllJoin c.args.files.items
joined c = subst AllJoin c.as_slice-list.ensures.value c.in_ok-check_all.ensures.ok

made : (c : goal.In_ok-change) → Compacts c.args.files.items
    (record { header = c.header_of-header.result; change = c.in_ok-change.change; post = c.index-list-list.result.post })
made c =
    let files = c.args.files.items in
    let first = c.index-list-0.result in
    let last = c.index-list-list.result in
    let first_read = subst (λ (fs : List Ltx). first ≡ get_or fs 0 first) c.as_slice-list.ensures.value c.index-list-0.is in
    let last_read = end_of c.as_slice-list.result.now files last c.as_slice-list.ensures.value c.index-list-list.is in
    Compacts-made files first last c.header_of-header.result c.in_ok-change.change (joined c).some first_read last_read c.header_of-header.ensures c.in_ok-change.ensures.value

pub returns-clause-ok : goal.returns-clause-ok
returns-clause-ok c = made c

pub returns-clause-pages : goal.returns-clause-pages
returns-clause-pages c = holds c.args.files.items (joined c) c.requires _ (made c)

pub returns-clause-same : goal.returns-clause-same
returns-clause-same c = does c.args.files.items (joined c) c.requires _ (made c)

pub returns-clause-encodes : goal.returns-clause-encodes
returns-clause-encodes c = encodes c.args.files.items (joined c) c.requires _ (made c) c.in_ok-change.ensures.valid
