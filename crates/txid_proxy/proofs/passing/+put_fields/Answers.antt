use Rattle.txid_proxy.proofs.FieldLines.{at_field, at_last, field_put, last_put, then_ok}
use Rattle.txid_proxy.proofs.passing.+put_fields.Goals as goal

pub returns-then-is_last : goal.returns-then-is_last
returns-then-is_last t c = then_ok c.put-then-is_last.result _ _
    (λ put. λ fields last all e.
    let is = at_last c.args.section.now c.split_at.result.0.now fields last c.line_length.result all e c.line_length.ensures.first c.split_at.ensures.front
    c.if-is_last.ensures in
    last_put fields last c.split_at.result.0.now c.args.out.now.items c.put.new.out.items c.put-then-is_last.new.out.items is.0 is.1 c.in_ok-put.ensures put)
    c.put-then-is_last.ensures

pub returns : goal.returns
returns t c = then_ok c.put_fields.result _ _
    (λ more. λ fields last all e.
    let at = at_field c.args.section.now c.split_at.result.0.now c.split_at.result.1.now fields last c.line_length.result all e c.line_length.ensures.first
    c.split_at.ensures.front
    c.split_at.ensures.back c.if-is_last.ensures in
    field_put fields last c.split_at.result.0.now c.split_at.result.1.now c.args.out.now.items c.put_field.new.out.items c.put_fields.new.out.items at
    (c.in_ok-put_field.ensures at.field at.is at.line_is) (more at.more last at.all at.rest_is))
    c.put_fields.ensures
