use Rattle.std.proofs.Common.{◌≡◌, ◌∙◌, IsTrue, sym}
use Rattle.lf_disk.specs.History.{now}
use Rattle.txn_log.specs.LastFile.{seal_under}
use Rattle.txn_log.proofs.Stores.{no_entry}
use Rattle.txn_log.proofs.store.Store.differs.Goals as goal

pub returns-in-Ok-clause-compared : goal.returns-in-Ok-clause-compared
returns-in-Ok-clause-compared g c =
    let s = c.args.self.now in
    let f = now (g.D.Disk.history s.disk) in
    let is = c.requires.1 no_entry in
    let sealed : IsTrue (g.D.Disk.honest s.disk) → c.in-Ok.seal ≡ seal_under f c.args.min c.args.max =
    λ honest. c.in-Ok.ensures.seal honest no_entry ∙ (λ i. seal_under f (is.0 i) (is.1 i)) in
    record {
      there = λ doubted. (c.args.at, c.requires);
      other = λ honest doubted same. c.is_other.ensures.yes doubted (sealed honest ∙ same);
      same = λ honest doubted has. sym (sealed honest) ∙ c.is_other.ensures.no doubted;
    }
