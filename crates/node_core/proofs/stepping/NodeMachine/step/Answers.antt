use Rattle.node_core.proofs.stepping.NodeMachine.step.Goals as goal

pub returns-in-Where : goal.returns-in-Where
returns-in-Where g c = rw c.in-Where.is (c.tell_position.ensures.step c.args.caller)

pub returns-in-Hello : goal.returns-in-Hello
returns-in-Hello g c = rw c.in-Hello.is (c.answer_hello.ensures.step c.args.caller)

pub returns-in-Frame : goal.returns-in-Frame
returns-in-Frame g c = rw c.in-Frame.is (c.answer_frame.ensures.step c.args.caller)

pub returns-in-Drop : goal.returns-in-Drop
returns-in-Drop g c = rw c.in-Drop.is (c.answer_drop.ensures.step c.args.caller)

pub returns-in-Prune : goal.returns-in-Prune
returns-in-Prune g c = rw c.in-Prune.is (c.prune.ensures.step c.args.caller)

pub returns-in-Lease : goal.returns-in-Lease
returns-in-Lease g c = rw c.in-Lease.is (c.answer_lease.ensures.step c.args.caller)

pub returns-in-Info : goal.returns-in-Info
returns-in-Info g c = rw c.in-Info.is (c.answer_info.ensures.step c.args.caller)

pub returns-in-Watch : goal.returns-in-Watch
returns-in-Watch g c = rw c.in-Watch.is (c.answer_watch.ensures.step c.args.caller)

pub returns-in-Export : goal.returns-in-Export
returns-in-Export g c = rw c.in-Export.is (c.export.ensures.step c.args.caller)

pub returns-in-Import : goal.returns-in-Import
returns-in-Import g c = rw c.in-Import.is (c.answer_import.ensures.step c.args.caller)

pub returns-in-HaltAsk : goal.returns-in-HaltAsk
returns-in-HaltAsk g c = rw c.in-HaltAsk.is (c.answer_halt_ask.ensures.step c.args.caller)

pub returns-in-HaltBack : goal.returns-in-HaltBack
returns-in-HaltBack g c = rw c.in-HaltBack.is (c.answer_halt_back.ensures.step c.args.caller)

pub returns-in-Forward : goal.returns-in-Forward
returns-in-Forward g c = rw c.in-Forward.is (c.answer_forward.ensures.step c.args.caller)

pub returns-in-HaltGot : goal.returns-in-HaltGot
returns-in-HaltGot g c = rw c.in-HaltGot.is (c.answer_halt_got.ensures.step c.args.caller)

pub returns-in-HaltLost : goal.returns-in-HaltLost
returns-in-HaltLost g c = rw c.in-HaltLost.is (c.lose_permit.ensures.step c.args.caller)

pub returns-in-Forwarded : goal.returns-in-Forwarded
returns-in-Forwarded g c = rw c.in-Forwarded.is (c.answer_forwarded.ensures.step c.args.caller)
