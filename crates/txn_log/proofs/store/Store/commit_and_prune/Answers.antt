use Rattle.std.proofs.Common.{◌≡◌, ◌∙◌, Bool, false, None, ap, length}
use Rattle.txn_log.specs.Store.{failed_of}
use Rattle.txn_log.proofs.Composing.{then-pruned}
use Rattle.txn_log.proofs.store.Store.commit_and_prune.Goals as goal

pub returns-in-Ok-clause-went : goal.returns-in-Ok-clause-went
returns-in-Ok-clause-went g c honest =
    let s = c.args.self.now in
    let m = c.commit.new.self in
    let open_ : s.broken ≡ false = c.in-Ok.ensures.commits.0 in
    let whole : failed_of (g.D.Disk.history s.disk) s.broken s.attempt s.tried ≡ None = ap (λ (b : Bool). failed_of (g.D.Disk.history s.disk) b s.attempt s.tried) open_ in
    then-pruned _ _ _ _ _ _ _ _ _ _ m.broken (length m.entries.items) c.args.keep c.prune.result whole (c.in-Ok.ensures.cause.0 ∙ open_) c.prune.ensures.prunes
    (c.in-Ok.ensures.went honest) (c.prune.ensures.went (c.commit.ensures.honest ∙ honest))
