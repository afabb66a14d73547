use Rattle.std.proofs.Common.{◌≡◌, List, ℕ, Option, Some, [], refl, sym, subst}
use Rattle.lf_sqlite_pages.specs.Change.{empty_change}
use Rattle.ltx_codec.specs.Format.{IsLtx}
use Rattle.ltx_codec.specs.declared.file.Ltx.{Ltx}
use Rattle.txn_log.specs.Kept.{file_of}
use Rattle.snapshot.proofs.FileBytes.{encoded, file_is, read_file, read_is}
use Rattle.snapshot.proofs.encoded.EncodedFile.read.Goals as goal

pub read_source-requires-clause-begun : goal.read_source-requires-clause-begun
read_source-requires-clause-begun c = (empty_change 0 0, c.new-coming.ensures (empty_change 0 0))

pub invariant_of-result : goal.invariant_of-result
invariant_of-result c =
    let bytes = c.args.bytes.now in
    let left = c.in_ok-source.source.left in
    let left_now : Option (List ℕ) = Some c.read_source.new.source.left in
    let file = read_file left left_now c.in-Ok.outline c.in-Ok.ensures.reads in
    let is : IsLtx bytes file = read_is bytes left left_now c.in-Ok.outline c.in-Ok.ensures.reads c.in_ok-source.ensures in
    encoded bytes file c.in-Ok.outline.header c.in-Ok.outline.post (file_is c.file_is_read.ensures bytes file c.are_bytes.ensures is) is refl refl

pub returns-in-Ok-clause-ok : goal.returns-in-Ok-clause-ok
returns-in-Ok-clause-ok c =
    let bytes = c.args.bytes.now in
    let left = c.in_ok-source.source.left in
    let left_now : Option (List ℕ) = Some c.read_source.new.source.left in
    let file = read_file left left_now c.in-Ok.outline c.in-Ok.ensures.reads in
    let is : IsLtx bytes file = read_is bytes left left_now c.in-Ok.outline c.in-Ok.ensures.reads c.in_ok-source.ensures in
    subst (λ (f : Ltx). IsLtx bytes f) (sym (file_is c.file_is_read.ensures bytes file c.are_bytes.ensures is)) is
