use Rattle.std.proofs.Common.{rules, ℕ, List, ◌≡◌, ◌++◌, ◌-◌, ◌≤◌, length, take, ap, sym, subst, ◌∙◌, arith, length-append}
use Rattle.stream_wire.specs.Head.{IsResponse, NeverTakesResponse}
use Rattle.replica_apply.specs.Heads.{IsHead}
use Rattle.replica_apply.proofs.Heads.{cut_to_head, end_of_piece, reaches, refused, within}
use Rattle.replica_apply.proofs.head_feed.take_head.Goals as goal

pub overflow_sub-result : goal.overflow_sub-result
overflow_sub-result c =
    let x : c.extend_from_slice.new.self.items ≡ c.args.bytes.now.items ++ c.args.piece.now = search rules in
    let r : IsResponse (c.args.bytes.now.items ++ c.args.piece.now) c.in-Ok-Whole.used c.in-Ok-Whole.status c.in-Ok-Whole.field-0-2 =
    subst (λ (l : List ℕ). IsResponse l c.in-Ok-Whole.used c.in-Ok-Whole.status c.in-Ok-Whole.field-0-2) (c.as_slice.ensures.value ∙ x) (rw c.in-Ok-Whole.field-0-is at c.in-Ok-Whole.ensures) in
    omega (arith, c.len-before.ensures, reaches c.args.bytes.now.items c.args.piece.now c.in-Ok-Whole.used c.in-Ok-Whole.status c.in-Ok-Whole.field-0-2 c.requires r)

pub returns-in-Ok-Whole-clause-whole : goal.returns-in-Ok-Whole-clause-whole
returns-in-Ok-Whole-clause-whole c =
    let x : c.extend_from_slice.new.self.items ≡ c.args.bytes.now.items ++ c.args.piece.now = search rules in
    let r : IsResponse (c.args.bytes.now.items ++ c.args.piece.now) c.in-Ok-Whole.used c.in-Ok-Whole.status c.in-Ok-Whole.field-0-2 =
    subst (λ (l : List ℕ). IsResponse l c.in-Ok-Whole.used c.in-Ok-Whole.status c.in-Ok-Whole.field-0-2) (c.as_slice.ensures.value ∙ x) (rw c.in-Ok-Whole.field-0-is at c.in-Ok-Whole.ensures) in
    let n : length c.args.bytes.now.items ≡ c.len-before.result = omega (arith, c.len-before.ensures) in
    let far : length c.args.bytes.now.items ≤ c.in-Ok-Whole.used =
    reaches c.args.bytes.now.items c.args.piece.now c.in-Ok-Whole.used c.in-Ok-Whole.status c.in-Ok-Whole.field-0-2 c.requires r in
    let all : c.in-Ok-Whole.used ≤ length (c.args.bytes.now.items ++ c.args.piece.now) =
    within (c.args.bytes.now.items ++ c.args.piece.now) c.in-Ok-Whole.used c.in-Ok-Whole.status c.in-Ok-Whole.field-0-2 r in
    let cut : c.truncate.new.self.items ≡ take c.in-Ok-Whole.used (c.args.bytes.now.items ++ c.args.piece.now) =
    c.truncate.ensures.items ∙ ap (λ (l : List ℕ). take c.in-Ok-Whole.used l) x in (
      omega (arith, n, all, length-append c.args.bytes.now.items c.args.piece.now),
      cut ∙ end_of_piece c.args.bytes.now.items c.args.piece.now c.in-Ok-Whole.used far
          ∙ ap (λ (m : ℕ). c.args.bytes.now.items ++ take (c.in-Ok-Whole.used - m) c.args.piece.now) n,
      subst (λ (l : List ℕ). IsHead c.in-Ok-Whole.status l) (sym cut)
          (cut_to_head (c.args.bytes.now.items ++ c.args.piece.now) c.in-Ok-Whole.used c.in-Ok-Whole.status c.in-Ok-Whole.field-0-2 r),
    )

pub returns-in-Err-read_response-clause-fault : goal.returns-in-Err-read_response-clause-fault
returns-in-Err-read_response-clause-fault c =
    let x : c.extend_from_slice.new.self.items ≡ c.args.bytes.now.items ++ c.args.piece.now = search rules in
    subst NeverTakesResponse (c.as_slice.ensures.value ∙ x) (refused c.as_slice.result.now c.in-Err-read_response.field-0 c.in-Err-read_response.ensures)
