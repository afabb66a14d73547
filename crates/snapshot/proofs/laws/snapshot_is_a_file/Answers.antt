use Rattle.std.proofs.Common.{◌≤◌, sym, ◌∙◌, ap, subst}
use Rattle.lf_base.specs.declared.pos.Pos.{Pos}
use Rattle.txn_log.specs.Store.{state_of}
use Rattle.world_laws.specs.SnapshotLaw.{IsFullStore}
use Rattle.snapshot.proofs.SoundLemmas.{full, made, some_entries, small_size}
use Rattle.snapshot.proofs.laws.snapshot_is_a_file.Goals as goal

pub returns-clause-sound : goal.returns-clause-sound
returns-clause-sound g c honest =
    let s = c.args.store.now in
    let h = g.D.Disk.history s.disk in
    let at_end = c.pos-position.ensures.told honest in
    let some = subst (λ (p : Pos). 1 ≤ p.txid) (sym c.pos-position.ensures.value ∙ at_end) c.requires.written in
    let sum = ap (λ (p : Pos). p.sum) (sym at_end) ∙ c.pos-position.ensures.summed (some_entries s.entries.items c.requires.written) in
    c.snapshot_is_sound.ensures (state_of h s.page_size s.commit s.entries.items s.dropped s.broken s.whole)
    (full h s.page_size s.commit s.entries.items s.dropped s.broken s.sums.sums s.whole s.tried (s.kept honest) s.sized (small_size s.page_size s.commit s.sized) s.shaped.limit some sum c.sums_page_by_page.ensures.table)

pub returns-clause-leads : goal.returns-clause-leads
returns-clause-leads g c honest =
    let s = c.args.store.now in
    let h = g.D.Disk.history s.disk in
    let at_end = c.pos-position.ensures.told honest in
    let some = subst (λ (p : Pos). 1 ≤ p.txid) (sym c.pos-position.ensures.value ∙ at_end) c.requires.written in
    let sum = ap (λ (p : Pos). p.sum) (sym at_end) ∙ c.pos-position.ensures.summed (some_entries s.entries.items c.requires.written) in
    let whole : IsFullStore (state_of h s.page_size s.commit s.entries.items s.dropped s.broken s.whole) =
    full h s.page_size s.commit s.entries.items s.dropped s.broken s.sums.sums s.whole s.tried (s.kept honest) s.sized (small_size s.page_size s.commit s.sized) s.shaped.limit some sum c.sums_page_by_page.ensures.table in
    made (state_of h s.page_size s.commit s.entries.items s.dropped s.broken s.whole) whole.image
