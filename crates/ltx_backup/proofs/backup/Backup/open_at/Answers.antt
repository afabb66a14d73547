use Rattle.std.proofs.Common.{◌≡◌, ◌∙◌, ℕ, sym, subst}
use Rattle.ltx_backup.specs.Levels.{Levels}
use Rattle.ltx_backup.specs.Restoring.{Restores}
use Rattle.ltx_backup.proofs.Makings.{txid_stays}
use Rattle.ltx_backup.proofs.Restorings.{kept_index, chain_ordered}
use Rattle.ltx_backup.proofs.backup.Backup.open_at.Goals as goal

pub returns-in-Ok-clause-restores : goal.returns-in-Ok-clause-restores
returns-in-Ok-clause-restores g c honest levels held =
    let opened = c.in-Ok.ensures.opened honest in
    let all = c.in-Ok.ensures.makes honest opened.levels opened.held in
    let index = kept_index opened.levels c.in-Ok.opened.index _ _ _ opened.kept in
    let order = chain_ordered opened.levels c.in-Ok.opened.index _ _ _ opened.kept in
    let at : c.in-Ok.opened.target.txid ≡ c.args.txid = txid_stays opened.levels index.joined order c.new-target.result c.in-Ok.opened.target c.new-target.ensures.blank all ∙ c.new-target.ensures.txid in
    let it = c.finish-restored.ensures.restores opened.levels c.new-target.result index order c.new-target.ensures.blank all in
    subst (λ (ls : Levels). Restores ls c.args.txid c.finish-restored.result) (sym (opened.alone levels held)) (subst (λ (n : ℕ). Restores opened.levels n c.finish-restored.result) at it)
