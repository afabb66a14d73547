use Rattle.std.proofs.Common.{◌≡◌, ◌≤◌, ◌+◌, length, vec_len, refl, ◌∙◌, arith}
use Rattle.std.specs.Prelude.{IsOk}
use Rattle.std.proofs.lemmas.List.{with_items_is}
use Rattle.lf_disk.specs.Folder.{bytes_of}
use Rattle.lf_disk.specs.History.{now}
use Rattle.node_recovery.proofs.PieceReaders.{refilled}
use Rattle.node_recovery.proofs.piece_reader.PieceReader.refill.Goals as goal

pub returns-clause-here : goal.returns-clause-here
returns-clause-here g c honest encoding here =
    let r = c.args.self.now in
    let bytes = bytes_of (now (g.D.Disk.history c.args.disk.now) c.args.name) in
    let buffer = c.as_mut_slice.result.now in
    let len = c.min-len.result in
    let ok : IsOk c.resize.result = c.resize.ensures.succeeds (omega (arith, c.min-len.ensures, c.clear.ensures.capacity, r.room)) in
    let resized : vec_len c.resize.new.self ≡ len = rw ok at c.resize.ensures.len in
    let long : length buffer ≡ len = omega (arith, c.as_mut_slice.ensures.len, resized) in
    let none : length r.buffer.items ≤ r.taken = omega (arith, c.if-self-len.false, c.len.ensures) in
    let room : r.read + len ≤ r.size = omega (arith, c.min-len.ensures, r.order.1) in
    refilled r _ encoding bytes buffer len none refl refl refl room long
    (with_items_is c.resize.new.self c.read.new.out (omega (arith, c.read.auto.out, c.as_mut_slice.ensures.len)) ∙ (c.in_ok-read.ensures.read honest).front) here
