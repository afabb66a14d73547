use Rattle.std.proofs.Common.{rules, ◌≡◌, ◌++◌, length, take, ap, ◌∙◌, arith, subst, List, ℕ}
use Rattle.stream_wire.specs.Front.{BeginsWith, whole, GivesName}
use Rattle.stream_wire.proofs.Fronts.{front_is_whole, front_name, ends_behind, ends_frame}
use Rattle.stream_wire.proofs.feed.feed_into.Goals as goal

pub overflow_sub-used : goal.overflow_sub-used
overflow_sub-used c =
    let w = rw c.in-Ok-Some.field-0-is at c.in-Ok-Some.ensures in
    let x : c.extend_from_slice.new.self.items ≡ c.args.held.now.items ++ c.args.piece.now = search rules in
    let b : BeginsWith c.args.limit (c.args.held.now.items ++ c.args.piece.now) (whole c.in-Ok-Some.found.len) =
    subst (λ (l : List ℕ). BeginsWith c.args.limit l (whole c.in-Ok-Some.found.len)) (c.as_slice.ensures.value ∙ x) w.whole.0 in
    omega (arith, ends_behind c.args.held.now.items c.args.piece.now c.requires b.2, b.4, c.len-before.ensures)

pub take_frame-requires-clause-frame : goal.take_frame-requires-clause-frame
take_frame-requires-clause-frame c =
    let w = rw c.in-Ok-Some.field-0-is at c.in-Ok-Some.ensures in
    front_is_whole c.args.limit c.in-Ok-Some.found.len c.extend_from_slice.new.self.items
    (subst (λ (l : List ℕ). BeginsWith c.args.limit l (whole c.in-Ok-Some.found.len)) c.as_slice.ensures.value w.whole.0)

pub take_frame-requires-clause-name : goal.take_frame-requires-clause-name
take_frame-requires-clause-name c =
    let w = rw c.in-Ok-Some.field-0-is at c.in-Ok-Some.ensures in
    front_name c.args.limit c.in-Ok-Some.found.len c.extend_from_slice.new.self.items c.in-Ok-Some.found.name
    (subst (λ (l : List ℕ). BeginsWith c.args.limit l (whole c.in-Ok-Some.found.len)) c.as_slice.ensures.value w.whole.0)
    (subst (λ (l : List ℕ). GivesName l c.in-Ok-Some.found.name) c.as_slice.ensures.value w.whole.1)

pub returns-in-Ok-Some-clause-whole : goal.returns-in-Ok-Some-clause-whole
returns-in-Ok-Some-clause-whole c =
    let w = rw c.in-Ok-Some.field-0-is at c.in-Ok-Some.ensures in
    let x : c.extend_from_slice.new.self.items ≡ c.args.held.now.items ++ c.args.piece.now = search rules in
    let b : BeginsWith c.args.limit (c.args.held.now.items ++ c.args.piece.now) (whole c.in-Ok-Some.found.len) =
    subst (λ (l : List ℕ). BeginsWith c.args.limit l (whole c.in-Ok-Some.found.len)) (c.as_slice.ensures.value ∙ x) w.whole.0 in
    let n : c.len-before.result ≡ length c.args.held.now.items = omega (arith, c.len-before.ensures) in
    rw n (
      ends_frame c.args.limit c.in-Ok-Some.found.len c.args.held.now.items c.args.piece.now c.take_frame.result c.requires b
          (c.take_frame.ensures.text ∙ ap (λ (l : List ℕ). take c.in-Ok-Some.found.len l) x),
      c.take_frame.ensures.none,
    )
