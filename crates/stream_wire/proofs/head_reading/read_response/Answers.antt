use Rattle.stream_wire.proofs.head_reading.read_response.Goals as goal

pub returns-else-may_come : goal.returns-else-may_come
returns-else-may_come c =
    let none = rw c.in-Ok-Partial.field-0-is at c.in-Ok-Partial.ensures in
    c.may_come.ensures.never c.if-may_come.false none.partial
