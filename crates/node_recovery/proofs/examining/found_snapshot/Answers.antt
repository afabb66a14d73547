use Rattle.std.proofs.Common.{◌≡◌, ◌∙◌, ◌∷◌, ◌++◌, [], List, Some, sym, ap, subst}
use Rattle.txn_log.specs.declared.entry.Entry.{Entry}
use Rattle.node_recovery.specs.Finding.{AreEnded}
use Rattle.node_recovery.specs.Outline.{entry_of}
use Rattle.node_recovery.proofs.Judgings.{ended_more}
use Rattle.node_recovery.proofs.examining.found_snapshot.Goals as goal

pub returns-clause-shaped : goal.returns-clause-shaped
returns-clause-shaped c =
    let outline = c.args.read.outline in
    let items : c.push.new.self.items ≡ [] ++ entry_of outline ∷ [] =
    c.in-Ok.ensures.items ∙ ap (λ (l : List Entry). l ++ c.entry.result ∷ []) c.new-entries.ensures.items ∙ ap (λ (e : Entry). [] ++ e ∷ []) c.entry.ensures in
    (subst (λ (l : List Entry). AreEnded l (Some outline)) (sym items) (ended_more [] outline c.requires.valid), c.requires.total)
