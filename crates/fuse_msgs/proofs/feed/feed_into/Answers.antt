use Rattle.std.proofs.Common.{ℕ, List, ◌++◌, take, sym, ap, ◌∙◌, arith}
use Rattle.fuse_msgs.specs.Message.{len_of}
use Rattle.fuse_msgs.proofs.Feeding.{Completes, ends_short, ends_broken, ends_more, ends_whole}
use Rattle.fuse_msgs.proofs.feed.feed_into.Goals as goal

pub returns-then-len-lt-LEN_FIELD-clause-answer : goal.returns-then-len-lt-LEN_FIELD-clause-answer
returns-then-len-lt-LEN_FIELD-clause-answer c =
    (ends_short c.args.held.now.items c.args.piece.now c.fill-first.result (omega arith) (omega arith)).0

pub returns-then-len-lt-LEN_FIELD-clause-held : goal.returns-then-len-lt-LEN_FIELD-clause-held
returns-then-len-lt-LEN_FIELD-clause-held c =
    c.fill-first.ensures.items ∙ (ends_short c.args.held.now.items c.args.piece.now c.fill-first.result
    (omega arith) (omega arith)).1

pub returns-then-not-is_length-clause-answer : goal.returns-then-not-is_length-clause-answer
returns-then-not-is_length-clause-answer c =
    let k : Completes c.args.held.now.items c.args.piece.now c.fill-first.result c.le32_at-len.result
    = record {
      count = omega arith;
      enough = omega arith;
      len_is = c.le32_at-len.ensures
          ∙ ap len_of (c.as_slice.ensures.value ∙ c.fill-first.ensures.items);
    } in
    (ends_broken c.args.held.now.items c.args.piece.now c.fill-first.result c.le32_at-len.result k
    (sym c.is_length.ensures ∙ c.if-not-is_length.true)).0

pub returns-then-not-is_length-clause-held : goal.returns-then-not-is_length-clause-held
returns-then-not-is_length-clause-held c =
    let k : Completes c.args.held.now.items c.args.piece.now c.fill-first.result c.le32_at-len.result
    = record {
      count = omega arith;
      enough = omega arith;
      len_is = c.le32_at-len.ensures
          ∙ ap len_of (c.as_slice.ensures.value ∙ c.fill-first.ensures.items);
    } in
    c.fill-first.ensures.items ∙ (ends_broken c.args.held.now.items c.args.piece.now c.fill-first.result
    c.le32_at-len.result k (sym c.is_length.ensures ∙ c.if-not-is_length.true)).1

pub returns-then-len-clause-answer : goal.returns-then-len-clause-answer
returns-then-len-clause-answer c =
    let k : Completes c.args.held.now.items c.args.piece.now c.fill-first.result c.le32_at-len.result
    = record {
      count = omega arith;
      enough = omega arith;
      len_is = c.le32_at-len.ensures
          ∙ ap len_of (c.as_slice.ensures.value ∙ c.fill-first.ensures.items);
    } in
    (ends_more c.args.held.now.items c.args.piece.now c.fill-first.result c.le32_at-len.result c.fill.result
    k (sym c.is_length.ensures ∙ c.if-not-is_length.false) (omega arith) (omega arith)).0

pub returns-then-len-clause-held : goal.returns-then-len-clause-held
returns-then-len-clause-held c =
    let k : Completes c.args.held.now.items c.args.piece.now c.fill-first.result c.le32_at-len.result
    = record {
      count = omega arith;
      enough = omega arith;
      len_is = c.le32_at-len.ensures
          ∙ ap len_of (c.as_slice.ensures.value ∙ c.fill-first.ensures.items);
    } in
    c.fill.ensures.items ∙ ap (λ (x : List ℕ). x ++ take c.fill.result c.split_at.result.1.now)
    c.fill-first.ensures.items ∙ ap (λ (x : List ℕ).
    (c.args.held.now.items ++ take c.fill-first.result c.args.piece.now) ++ take c.fill.result x)
    c.split_at.ensures.back ∙ (ends_more c.args.held.now.items c.args.piece.now c.fill-first.result
    c.le32_at-len.result c.fill.result k (sym c.is_length.ensures ∙ c.if-not-is_length.false)
    (omega arith) (omega arith)).1

pub returns-clause-answer : goal.returns-clause-answer
returns-clause-answer c =
    let k : Completes c.args.held.now.items c.args.piece.now c.fill-first.result c.le32_at-len.result
    = record {
      count = omega arith;
      enough = omega arith;
      len_is = c.le32_at-len.ensures
          ∙ ap len_of (c.as_slice.ensures.value ∙ c.fill-first.ensures.items);
    } in
    (ends_whole c.args.held.now.items c.args.piece.now c.fill-first.result c.le32_at-len.result c.fill.result
    k (sym c.is_length.ensures ∙ c.if-not-is_length.false) c.requires.unfinished (omega arith)
    (omega arith)).0

pub returns-clause-held : goal.returns-clause-held
returns-clause-held c =
    let k : Completes c.args.held.now.items c.args.piece.now c.fill-first.result c.le32_at-len.result
    = record {
      count = omega arith;
      enough = omega arith;
      len_is = c.le32_at-len.ensures
          ∙ ap len_of (c.as_slice.ensures.value ∙ c.fill-first.ensures.items);
    } in
    c.fill.ensures.items ∙ ap (λ (x : List ℕ). x ++ take c.fill.result c.split_at.result.1.now)
    c.fill-first.ensures.items ∙ ap (λ (x : List ℕ).
    (c.args.held.now.items ++ take c.fill-first.result c.args.piece.now) ++ take c.fill.result x)
    c.split_at.ensures.back ∙ (ends_whole c.args.held.now.items c.args.piece.now c.fill-first.result
    c.le32_at-len.result c.fill.result k (sym c.is_length.ensures ∙ c.if-not-is_length.false)
    c.requires.unfinished (omega arith) (omega arith)).1
