use Rattle.std.proofs.Common.{List, ℕ, [], ◌++◌, sym, subst}
use Rattle.http_exchange.proofs.Giving.{gave_none}
use Rattle.backup_link.specs.Heads.{GaveHead}
use Rattle.backup_link.proofs.Keeps.{keeps_none}
use Rattle.backup_link.proofs.Talking.{frames_came, no_memory, none_came, other_status}
use Rattle.backup_link.proofs.streaming.read_reply.Goals as goal

pub returns-in-Err-clause-replies : goal.returns-in-Err-clause-replies
returns-in-Err-clause-replies g c = no_memory g.L.Link c.args.name.now c.args.link.now c.args.link.now [] _ (gave_none g.L.Link c.args.link.now) (keeps_none _ _)

pub returns-in-Err-read_head-clause-replies : goal.returns-in-Err-read_head-clause-replies
returns-in-Err-read_head-clause-replies g c =
    none_came g.L.Link c.args.name.now c.args.link.now c.read_head.new.link c.in-Err-read_head.why _ c.in-Err-read_head.ensures.none (keeps_none _ _)

pub returns-then-status-ne-OK-clause-replies : goal.returns-then-status-ne-OK-clause-replies
returns-then-status-ne-OK-clause-replies g c =
    other_status g.L.Link c.args.name.now c.args.link.now c.read_head.new.link c.read_head.new.piece c.in-Ok-read_head.status _ c.in-Ok-read_head.ensures.head
    c.if-status-ne-OK.true (keeps_none _ _)

pub returns-in-Err-from_piece-clause-replies : goal.returns-in-Err-from_piece-clause-replies
returns-in-Err-from_piece-clause-replies g c =
    no_memory g.L.Link c.args.name.now c.args.link.now c.read_head.new.link (c.in-Ok-read_head.ensures.head.head ++ c.read_head.new.piece) _
    c.in-Ok-read_head.ensures.head.gave (keeps_none _ _)

pub returns-clause-replies : goal.returns-clause-replies
returns-clause-replies g c =
    let head = subst (λ (p : List ℕ). GaveHead g.L.Link c.args.link.now c.read_head.new.link p c.in-Ok-read_head.status) (sym c.in-Ok-from_piece.ensures.1) c.in-Ok-read_head.ensures.head in
    frames_came g.L.Link c.args.name.now c.args.link.now c.read_head.new.link c.follow.new.link c.in-Ok-from_piece.frames.piece c.in-Ok-read_head.status _ c.follow.result
    head c.if-status-ne-OK.false c.follow.ensures.follows
