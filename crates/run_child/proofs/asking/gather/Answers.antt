use Rattle.std.proofs.Common.{◌+◌, ℕ, sym, ap, ◌∙◌}
use Rattle.run_child.specs.Talk.{place}
use Rattle.run_child.proofs.Gathering.{gathered_both_of, gathered_head, part_of_body}
use Rattle.run_child.proofs.asking.gather.Goals as goal

pub returns-then-le32_at-size-clause-whole : goal.returns-then-le32_at-size-clause-whole
returns-then-le32_at-size-clause-whole g c = gathered_head c.args.asked.now c.fill.new.out c.split_at_mut-head.result.1.now
    (place g.L.Link c.args.link.now c.args.room.now) (place g.L.Link c.fill.new.link c.fill.new.room)
    (c.fill.ensures.size ∙ c.split_at_mut-head.ensures.front_len)
    (λ e. c.if-le32_at-size.true (c.le32_at.ensures ∙ e ∙ sym (ap (λ (n : ℕ). 16 + n) c.body_size-size.ensures)))
    c.in_ok-fill.ensures.whole.0 c.in_ok-fill.ensures.whole.1

pub returns-in-Ok-clause-whole : goal.returns-in-Ok-clause-whole
returns-in-Ok-clause-whole g c = gathered_both_of c.args.asked.now c.body_size-size.result c.fill.new.out c.fill-2.new.out c.split_at_mut-body.result.1.now
    (place g.L.Link c.args.link.now c.args.room.now) (place g.L.Link c.fill.new.link c.fill.new.room)
    (place g.L.Link c.fill-2.new.link c.fill-2.new.room) c.body_size-size.ensures
    (c.fill.ensures.size ∙ c.split_at_mut-head.ensures.front_len) (sym c.le32_at.ensures ∙ c.if-le32_at-size.false)
    (c.fill-2.ensures.size ∙ c.split_at_mut-body.ensures.front_len)
    c.in_ok-fill.ensures.whole.0 c.in_ok-fill.ensures.whole.1 c.in-Ok.ensures.whole.0 c.in-Ok.ensures.whole.1

pub returns-in-Err-clause-part : goal.returns-in-Err-clause-part
returns-in-Err-clause-part g c = part_of_body c.args.asked.now c.fill.new.out c.fill-2.new.out c.in-Err.why
    (place g.L.Link c.args.link.now c.args.room.now) (place g.L.Link c.fill.new.link c.fill.new.room)
    (place g.L.Link c.fill-2.new.link c.fill-2.new.room)
    (c.fill.ensures.size ∙ c.split_at_mut-head.ensures.front_len)
    (sym c.le32_at.ensures ∙ c.if-le32_at-size.false ∙ ap (λ (n : ℕ). 16 + n) c.body_size-size.ensures)
    (c.fill-2.ensures.size ∙ c.split_at_mut-body.ensures.front_len ∙ c.body_size-size.ensures)
    c.in_ok-fill.ensures.whole.0 c.in_ok-fill.ensures.whole.1 c.in-Err.ensures.part
