use Rattle.std.proofs.Common.{◌≡◌, ◌∙◌, ◌++◌, Ok, ap, sym, subst, length, List, ℕ, true}
use Rattle.std.specs.Prelude.{◌==◌}
use Rattle.backup_link.proofs.Streams.{ended_inside, no_bytes}
use Rattle.backup_link.proofs.frames.Frames.next.Goals as goal

pub returns-then-is_empty-clause-none : goal.returns-then-is_empty-clause-none
returns-then-is_empty-clause-none g c =
    let fed = c.feed_some.ensures.part (c.in-Ok-None.is ∙ ap Ok c.in-Ok-None.field-0-is) in
    let none = no_bytes c.refill.new.piece (subst (λ (l : List ℕ). (length l == 0) ≡ true) c.unread.ensures (sym c.is_empty.ensures ∙ c.if-is_empty.true)) in
    ended_inside g.L.Link c.args.link.now c.pieces.link c.refill.new.link c.args.self.now.piece (c.pieces.self.feed.held ++ c.pieces.self.piece) c.refill.new.piece
    c.pieces.invariant.gave c.in-Ok.ensures.gave none fed.0 (c.in-Ok.ensures.end none)
