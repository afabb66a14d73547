use Rattle.std.proofs.Common.{◌≡◌, false, IfOk, IfErr, ◌++◌, sym, ap, subst, ◌∙◌}
use Rattle.fuse_msgs.specs.Feed.{is_whole, says_whole, TakesAll, BeginsRefused}
use Rattle.fuse_msgs.proofs.Run.{whole_as_answered, some_used}
use Rattle.fuse_msgs.proofs.Loops.{answer_keeps_all, answer_refuses}
use Rattle.fuse_msgs.proofs.feed.MessageFeed.feed.Goals as goal

pub returns-clause-whole : goal.returns-clause-whole
returns-clause-whole c =
    let u : is_whole c.self.inside.bytes.items ≡ false = ap is_whole c.self.view_is ∙ c.requires in
    ap is_whole c.feed_into.ensures.held
    ∙ whole_as_answered c.self.inside.bytes.items c.args.piece.now u
    ∙ ap says_whole (sym c.feed_into.ensures.answer)

pub returns-clause-used : goal.returns-clause-used
returns-clause-used c =
    let u : is_whole c.self.inside.bytes.items ≡ false = ap is_whole c.self.view_is ∙ c.requires in
    rw c.feed_into.ensures.answer (some_used c.self.inside.bytes.items c.args.piece.now u)

pub returns-clause-all : goal.returns-clause-all
returns-clause-all c =
    subst (λ h. IfOk c.feed_into.result (TakesAll h c.args.piece.now c.feed_into.new.held.items)) c.self.view_is
    (subst (λ h. IfOk c.feed_into.result (TakesAll c.self.inside.bytes.items c.args.piece.now h)) (sym c.feed_into.ensures.held)
    (answer_keeps_all c.self.inside.bytes.items c.args.piece.now c.feed_into.result c.feed_into.ensures.answer))

pub returns-clause-refused : goal.returns-clause-refused
returns-clause-refused c =
    subst (λ t. IfErr c.feed_into.result (λ fault. BeginsRefused (t ++ c.args.piece.now) fault × BeginsRefused c.feed_into.new.held.items fault)) c.self.view_is
    (subst (λ h. IfErr c.feed_into.result (λ fault. BeginsRefused (c.self.inside.bytes.items ++ c.args.piece.now) fault × BeginsRefused h fault)) (sym c.feed_into.ensures.held)
    (answer_refuses c.self.inside.bytes.items c.args.piece.now c.feed_into.result c.feed_into.ensures.answer))
