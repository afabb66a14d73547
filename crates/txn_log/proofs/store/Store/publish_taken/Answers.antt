use Rattle.std.proofs.Common.{◌≡◌, ◌∙◌, Bool, false, ap, sym, subst}
use Rattle.lf_disk.specs.History.{now}
use Rattle.lf_sqlite_pages.specs.Change.{PageChange}
use Rattle.ltx_codec.specs.Format.{IsFile}
use Rattle.ltx_codec.specs.declared.file.Ltx.{Ltx}
use Rattle.txn_log.specs.Apply.{whole_file}
use Rattle.txn_log.specs.Publishing.{CanTake}
use Rattle.txn_log.specs.Store.{IsStore, state_in, state_of}
use Rattle.txn_log.proofs.Applyings.{is_whole}
use Rattle.txn_log.proofs.Moves.{moved-none}
use Rattle.txn_log.proofs.Taking.{can_take-whole}
use Rattle.txn_log.proofs.store.Store.publish_taken.Goals as goal

pub publish-requires-clause-can : goal.publish-requires-clause-can
publish-requires-clause-can g c honest =
    let s = c.args.self.now in
    let h = g.D.Disk.history s.disk in
    let file = c.args.file.now in
    let kept : IsStore h s.page_size s.commit s.entries.items s.dropped s.sums.sums false s.whole s.tried =
    subst (λ (b : Bool). IsStore h s.page_size s.commit s.entries.items s.dropped s.sums.sums b s.whole s.tried) c.requires.open_ (s.kept honest) in
    let whole : whole_file s.commit file ≡ file = ap (λ (x : PageChange). record file { change = x }) (c.is_complete.ensures c.if-is_complete.true) in
    let is = is_whole s.page_size s.commit s.entries.items s.dropped s.sums.sums file s.shaped c.requires.valid c.requires.taken in
    subst (λ (f : Ltx). CanTake (state_of h s.page_size s.commit s.entries.items s.dropped s.broken s.whole) f) whole
    (subst (λ (b : Bool). CanTake (state_of h s.page_size s.commit s.entries.items s.dropped b s.whole) (whole_file s.commit file)) (sym c.requires.open_)
    (can_take-whole h s.page_size s.commit s.entries.items s.dropped s.sums.sums s.whole s.tried kept file c.requires.valid c.requires.taken is))

pub publish-requires-in-Ok-clause-valid : goal.publish-requires-in-Ok-clause-valid
publish-requires-in-Ok-clause-valid g c =
    let s = c.args.self.now in
    subst (λ (f : Ltx). IsFile f) (sym c.in-Ok.ensures) (is_whole s.page_size s.commit s.entries.items s.dropped s.sums.sums c.args.file.now s.shaped c.requires.valid c.requires.taken)

pub publish-requires-in-Ok-clause-can : goal.publish-requires-in-Ok-clause-can
publish-requires-in-Ok-clause-can g c honest =
    let s = c.args.self.now in
    let h = g.D.Disk.history s.disk in
    let file = c.args.file.now in
    let kept : IsStore h s.page_size s.commit s.entries.items s.dropped s.sums.sums false s.whole s.tried =
    subst (λ (b : Bool). IsStore h s.page_size s.commit s.entries.items s.dropped s.sums.sums b s.whole s.tried) c.requires.open_ (s.kept honest) in
    let is = is_whole s.page_size s.commit s.entries.items s.dropped s.sums.sums file s.shaped c.requires.valid c.requires.taken in
    subst (λ (f : Ltx). CanTake (state_of h s.page_size s.commit s.entries.items s.dropped s.broken s.whole) f) (sym c.in-Ok.ensures)
    (subst (λ (b : Bool). CanTake (state_of h s.page_size s.commit s.entries.items s.dropped b s.whole) (whole_file s.commit file)) (sym c.requires.open_)
    (can_take-whole h s.page_size s.commit s.entries.items s.dropped s.sums.sums s.whole s.tried kept file c.requires.valid c.requires.taken is))

pub returns-in-Err-clause-went : goal.returns-in-Err-clause-went
returns-in-Err-clause-went g c honest = moved-none _ _ _ (c.args.self.now.left honest)
