use Rattle.std.proofs.Common.{◌≡◌, ◌<◌, ◌^◌, ◌∙◌, sym, subst, ap}
use Rattle.ltx_codec.specs.Format.{IsFile, FitsWidths}
use Rattle.ltx_codec.specs.declared.file.Ltx.{Ltx}
use Rattle.lf_base.specs.declared.pos.Pos.{Pos}
use Rattle.lf_sqlite_pages.specs.Change.{PageChange}
use Rattle.lf_sqlite_pages.specs.Complete.{completed}
use Rattle.txn_log.specs.Draft.{drafted, file_with, IsWithin}
use Rattle.txn_log.specs.Store.{end_of_entries}
use Rattle.txn_log.proofs.Drafts.{is_file}
use Rattle.txn_log.proofs.store.Store.draft_summed.Goals as goal

pub returns-clause-valid : goal.returns-clause-valid
returns-clause-valid g c =
    let s = c.args.self.now in
    let end : c.pos-position.result ≡ end_of_entries s.entries.items = c.pos-position.ensures.value in
    let change : c.complete.new.self ≡ completed c.args.change s.commit = c.in-Ok.ensures.ok in
    let is : c.file_behind-file.result ≡ drafted (end_of_entries s.entries.items) s.commit s.sums.sums c.args.change c.args.stamp c.args.node =
    c.file_behind-file.ensures.value
    ∙ ap (λ (p : Pos). file_with p s.sums.sums c.complete.new.self c.args.stamp c.args.node) end
    ∙ ap (λ (x : PageChange). file_with (end_of_entries s.entries.items) s.sums.sums x c.args.stamp c.args.node) change in
    let within : IsWithin (end_of_entries s.entries.items) c.args.change =
    subst (λ (p : Pos). IsWithin p c.args.change) end (c.is_within.ensures.within.0 c.if-not-is_within.false) in
    let widths : FitsWidths c.file_behind-file.result.header = c.file_behind-file.ensures.widths.0 in
    let width : c.file_behind-file.result.post < 2 ^ 64 = c.file_behind-file.ensures.widths.1 in
    subst (λ (f : Ltx). IsFile f) (sym is)
    (is_file s.commit s.entries.items s.dropped s.sums.sums c.args.change c.args.stamp c.args.node s.shaped c.is_within.ensures.valid within
    (subst (λ (f : Ltx). FitsWidths f.header) is widths) (subst (λ (f : Ltx). f.post < 2 ^ 64) is width))
