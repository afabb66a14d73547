use Rattle.std.proofs.Common.{refl}
use Rattle.snapshot.proofs.FileBytes.{encoded, file_is}
use Rattle.snapshot.proofs.encoded.EncodedFile.of.Goals as goal

pub invariant_of-result : goal.invariant_of-result
invariant_of-result c =
    let bytes = c.args.bytes.now in
    let file = c.args.file.now in
    encoded bytes file file.header file.post (file_is c.file_is_read.ensures bytes file c.are_bytes.ensures c.requires) c.requires refl refl

pub returns : goal.returns
returns c = file_is c.file_is_read.ensures c.args.bytes.now c.args.file.now c.are_bytes.ensures c.requires
