use Rattle.std.proofs.Common.{ℕ, List, Err, ap, drop, refl, subst, sym}
use Rattle.std.specs.Io.KnownBytes.{Consumes}
use Rattle.link_session.specs.Stands.{stand}
use Rattle.txid_proxy.specs.Requests.{head_size, IsWhole}
use Rattle.txid_proxy.specs.Session.{post, served, too_long}
use Rattle.txid_proxy.proofs.Served.{has_read, has_request, spends_reading, the_request, unread_ends}
use Rattle.txid_proxy.proofs.session.converse.Goals as goal

pub returns-in-Err-clause-ends : goal.returns-in-Err-clause-ends
returns-in-Err-clause-ends g c =
    unread_ends g.L.Link _ _ c.args.turns.now c.read_asked.new.turns c.end_unread.new.turns c.args.link.now c.read_asked.new.link c.end_unread.new.link
    (g.S.Steps.entries c.args.steps.now)
    (g.T.Dialer.dials c.args.passage.now.dialer)
    (g.T.Dialer.faults c.args.passage.now.dialer) c.in-Err.why c.end_unread.result c.in-Err.ensures.cause c.in-Err.ensures.taken c.in-Err.ensures.spent
    (λ is. c.in-Err.ensures.broken (ap Err is)) c.end_unread.ensures

pub serve-requires : goal.serve-requires
serve-requires g c = subst (λ (xs : List ℕ). IsWhole xs c.in-Whole.size c.in-Whole.length) (sym c.as_slice-bytes.ensures.value)
    (rw c.in-Whole.is at c.in-Ok.ensures.heard)

pub returns-in-Whole-clause-ends : goal.returns-in-Whole-clause-ends
returns-in-Whole-clause-ends g c =
    let bytes = c.as_slice-bytes.result.now in
    let whole : IsWhole bytes c.in-Whole.size c.in-Whole.length =
    subst (λ (xs : List ℕ). IsWhole xs c.in-Whole.size c.in-Whole.length) (sym c.as_slice-bytes.ensures.value) (rw c.in-Whole.is at c.in-Ok.ensures.heard) in
    let request = the_request bytes c.in-Whole.size c.in-Whole.length whole in
    let has = has_request bytes c.in-Whole.size c.in-Whole.length whole in
    let old = post g.L.Link c.args.link.now (g.S.Steps.entries c.args.steps.now) (g.T.Dialer.dials c.args.passage.now.dialer)
    (g.T.Dialer.faults c.args.passage.now.dialer) in
    let mid = post g.L.Link c.read_asked.new.link (g.S.Steps.entries c.args.steps.now) (g.T.Dialer.dials c.args.passage.now.dialer)
    (g.T.Dialer.faults c.args.passage.now.dialer) in
    served request mid c.read_asked.new.turns
    (record {
      bytes = bytes;
      len = c.in-Whole.length;
      has = has;
      read = subst (λ (xs : List ℕ). Consumes (g.L.Link.left c.args.link.now) (g.L.Link.left c.read_asked.new.link) xs)
          (sym c.as_slice-bytes.ensures.value) c.in-Ok.ensures.read;
    })
    (has_read c.args.turns.now c.read_asked.new.turns old mid c.in-Ok.ensures.taken refl c.in-Ok.ensures.cause refl refl c.in-Ok.ensures.spent.1)
    (c.serve.ensures.serves request has
    (c.wish_of-wish.ensures request.head (drop (head_size request.head) bytes) has.begins.says.reads has.begins.says.taken.count))

pub returns-in-TooLong-clause-ends : goal.returns-in-TooLong-clause-ends
returns-in-TooLong-clause-ends g c =
    let old = post g.L.Link c.args.link.now (g.S.Steps.entries c.args.steps.now) (g.T.Dialer.dials c.args.passage.now.dialer)
    (g.T.Dialer.faults c.args.passage.now.dialer) in
    let mid = post g.L.Link c.read_asked.new.link (g.S.Steps.entries c.args.steps.now) (g.T.Dialer.dials c.args.passage.now.dialer)
    (g.T.Dialer.faults c.args.passage.now.dialer) in
    too_long mid c.read_asked.new.turns
    (record { bytes = c.read_asked.new.held.items; long = rw c.in-TooLong.is at c.in-Ok.ensures.heard; read = c.in-Ok.ensures.read })
    (has_read c.args.turns.now c.read_asked.new.turns old mid c.in-Ok.ensures.taken refl c.in-Ok.ensures.cause refl refl c.in-Ok.ensures.spent.1)
    (record {
      says = c.refuse.ensures.end;
      unasked = refl;
      undialed = record { dials = refl; faults = refl };
      spent = spends_reading c.read_asked.new.turns c.refuse.new.turns mid.client (stand g.L.Link c.refuse.new.link
          (g.S.Steps.entries c.args.steps.now)) c.refuse.result refl c.refuse.ensures.spent;
    })
