use Rattle.std.proofs.Common.{◌∙◌, sym, ap, ℕ, refl}
use Rattle.lf_sqlite_pages.specs.LockPage.{data_pages_to}
use Rattle.lf_sqlite_pages.proofs.LockPages.{page_size-positive}
use Rattle.lf_sqlite_pages.proofs.WholeChange.{holds_by_count}
use Rattle.txn_log.proofs.bringing.holds_every.Goals as goal

pub data_pages_to-requires : goal.data_pages_to-requires
data_pages_to-requires c = page_size-positive c.args.header.now.page_size c.requires

pub returns : goal.returns
returns c change valid size commit held =
    holds_by_count change change c.args.held c.data_pages_to.result valid refl held
    (c.data_pages_to.ensures ∙ ap (λ (s : ℕ). data_pages_to s c.args.header.now.commit) (sym size) ∙ ap (data_pages_to change.page_size) (sym commit))
