use Rattle.std.proofs.Common.{◌≡◌, ◌+◌, ◌<◌, ℕ, List, length, drop, ◌∙◌, ap, refl, arith}
use Rattle.ltx_codec.specs.WholePages.{largest_page}
use Rattle.node_recovery.specs.Reading.{left_over}
use Rattle.node_recovery.proofs.PieceReaders.{taken_of, sees, fault_comes, used_some}
use Rattle.node_recovery.proofs.piece_reader.PieceReader.feed.Goals as goal

pub overflow_add-self : goal.overflow_add-self
overflow_add-self c =
    let o = c.requires.open_ in
    let left = c.split_at.result.1.now in
    let some : 0 < length left = omega (arith, c.requires.more, c.split_at.ensures.back_len, c.as_slice.ensures.len) in
    let used = used_some c.feed.new.self o.0 left c.in-Ok.seen (c.in-Ok.ensures.gives largest_page o.0 (taken_of c.args.self.now o.0 o.1 c.requires.begun o.2).fed) some in
    omega (arith, used.1, c.used_in.ensures, c.split_at.ensures.back_len, c.as_slice.ensures.len)

pub invariant_of-self : goal.invariant_of-self
invariant_of-self c =
    let o = c.requires.open_ in
    let left = c.split_at.result.1.now in
    let some : 0 < length left = omega (arith, c.requires.more, c.split_at.ensures.back_len, c.as_slice.ensures.len) in
    let used = used_some c.feed.new.self o.0 left c.in-Ok.seen (c.in-Ok.ensures.gives largest_page o.0 (taken_of c.args.self.now o.0 o.1 c.requires.begun o.2).fed) some in
    record {
      room = c.args.self.now.room;
      order = (omega (arith, used.1, c.used_in.ensures, c.split_at.ensures.back_len, c.as_slice.ensures.len, c.requires.more), c.args.self.now.order.1);
      widest = c.feed.ensures.same_limit ∙ c.args.self.now.widest;
    }

pub returns-in-Ok-clause-comes : goal.returns-in-Ok-clause-comes
returns-in-Ok-clause-comes c encoding change come =
    let left = c.split_at.result.1.now in
    let is : left ≡ left_over c.args.self.now = c.split_at.ensures.back ∙ ap (λ (l : List ℕ). drop c.args.self.now.taken l) c.as_slice.ensures.value in
    let gives = c.in-Ok.ensures.gives largest_page encoding (taken_of c.args.self.now encoding change c.requires.begun come).fed in
    sees c.args.self.now encoding change c.requires.begun come _ left c.are_bytes.ensures is refl c.in-Ok.seen c.part_of.result gives
    (ap (λ (n : ℕ). c.args.self.now.taken + n) c.used_in.ensures) c.ends_file-self.ensures c.requires.begun.1 c.part_of.ensures

pub returns-in-Ok-clause-fewer : goal.returns-in-Ok-clause-fewer
returns-in-Ok-clause-fewer c =
    let o = c.requires.open_ in
    let left = c.split_at.result.1.now in
    let some : 0 < length left = omega (arith, c.requires.more, c.split_at.ensures.back_len, c.as_slice.ensures.len) in
    let used = used_some c.feed.new.self o.0 left c.in-Ok.seen (c.in-Ok.ensures.gives largest_page o.0 (taken_of c.args.self.now o.0 o.1 c.requires.begun o.2).fed) some in
    omega (arith, used.0, c.used_in.ensures, c.split_at.ensures.back_len, c.as_slice.ensures.len, c.requires.more)

pub returns-in-Err-clause-comes : goal.returns-in-Err-clause-comes
returns-in-Err-clause-comes c encoding change come =
    let left = c.split_at.result.1.now in
    let is : left ≡ left_over c.args.self.now = c.split_at.ensures.back ∙ ap (λ (l : List ℕ). drop c.args.self.now.taken l) c.as_slice.ensures.value in
    let gives = c.in-Err.ensures.gives largest_page encoding (taken_of c.args.self.now encoding change c.requires.begun come).fed in
    fault_comes c.args.self.now encoding change c.requires.begun come _ left c.are_bytes.ensures is refl c.in-Err.fault gives
    (omega (arith, c.len-self.ensures)) refl
