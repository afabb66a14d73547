-- By what the file and the log do.
use Rattle.std.proofs.Common.{◌≡◌, ◌∙◌, sym, false}
use Rattle.file_view.specs.Served.{waits}
use Rattle.file_view.specs.ServedParts.{served_of}
use Rattle.file_view.proofs.WroteLemmas.{follows-log, wrote-done, wrote-kept}
use Rattle.file_view.proofs.view.View.write_log.Goals as goal

pub write_log-requires-clause-follows : goal.write_log-requires-clause-follows
write_log-requires-clause-follows g c =
    follows-log (served_of c.self.inside) (g.S.PageStore.page_size c.args.base.now) (g.S.PageStore.commit c.args.base.now) c.self.invariant.sound
    (rw (← c.self.view_is) at c.in_default.ensures.writer) (rw (← c.self.view_is) at c.requires.follows)

pub invariant_of-self-2 : goal.invariant_of-self-2
invariant_of-self-2 g c =
    let free : waits c.args.self.now ≡ false = sym c.waits.ensures ∙ c.if-waits.false in
    wrote-kept (g.S.PageStore.image c.args.base.now) (g.S.PageStore.page_size c.args.base.now) (g.S.PageStore.commit c.args.base.now) c.args.scene.now c.self.inside
    c.write_log.new.self c.write_log.new.log c.args.write.now.at c.args.write.now.bytes.now c.in_ok-change.change (rw (← c.self.view_is) at c.in_default.ensures.sound)
    (rw (← c.self.view_is) at c.in_default.ensures.header) (rw (← c.self.view_is) at c.in_default.ensures.writer) (rw (← c.self.view_is) at free) (rw (← c.self.view_is) at c.requires.there)
    c.in_ok-change.ensures.done c.self.invariant

pub returns-clause-done : goal.returns-clause-done
returns-clause-done g c =
    rw (← c.self.view_is)
    (wrote-done (g.S.PageStore.image c.args.base.now) (g.S.PageStore.page_size c.args.base.now) (g.S.PageStore.commit c.args.base.now) c.args.scene.now c.self.inside
    c.write_log.new.self c.write_log.new.log c.args.write.now.at c.args.write.now.bytes.now c.in_ok-change.change c.requires.over.0 c.requires.over.1 c.in_ok-change.ensures.done)
