use Rattle.std.proofs.Common.{refl}
use Rattle.link_session.specs.Sessions.{stand_of}
use Rattle.link_session.specs.Stands.{stand}
use Rattle.file_session.proofs.Messages.{refused_as, unasked}
use Rattle.file_session.proofs.serving.serve_message.Goals as goal

pub returns-in-Err-Opcode-clause-end : goal.returns-in-Err-Opcode-clause-end
returns-in-Err-Opcode-clause-end g c =
    unasked _ _ _ c.in-Err-Opcode.unique
    (stand_of g.S.Steps g.L.Link c.args.session.now c.args.steps.now) (stand g.L.Link c.refuse_opcode.new.link (g.S.Steps.entries c.args.steps.now)) _
    c.refuse_opcode.result
    (refused_as _ c.in-Err-Opcode.field-0 c.in-Err-Opcode.field-0-0 c.in-Err-Opcode.unique c.in-Err-Opcode.field-0-is c.in-Err-Opcode.ensures.fault) refl
    c.refuse_opcode.ensures.end
