use Rattle.std.proofs.Common.{◌≡◌, ◌∙◌, ℕ, List, [], None, Option, Some, Ok, Err, Result, refl, sym, ap, subst}
use Rattle.lf_base.specs.declared.pos.Pos.{Pos}
use Rattle.lf_disk.specs.History.{History}
use Rattle.ltx_codec.specs.Positions.{after}
use Rattle.world_laws.specs.Store.{StoreState, Failure, Install}
use Rattle.txn_log.specs.Calls.{Moved, Went}
use Rattle.txn_log.specs.Fields.{failed, fields_of, history_of, state}
use Rattle.txn_log.specs.declared.fault.StoreFault.{StoreFault}
use Rattle.txn_log.proofs.Moves.{moved-none}
use Rattle.snapshot.specs.Installing.{store_fault}
use Rattle.snapshot.proofs.InstallLemmas.{began, ended, told_is, went_err, went_ok}
use Rattle.snapshot.proofs.installing.install.Goals as goal

pub returns-then-store-clause-went : goal.returns-then-store-clause-went
returns-then-store-clause-went g c honest = moved-none _ _ _ (c.args.store.now.left honest)

pub returns-in_default-clause-went : goal.returns-in_default-clause-went
returns-in_default-clause-went g c honest =
    let s = c.args.store.now in
    let m = c.make_room.new.store in
    let h = history_of s in
    let f = fields_of s in
    ended h (history_of m) f (fields_of m) (ap (λ d. g.D.Disk.history d) c.make_room.ensures.disk) c.make_room.ensures.fields
    (λ (new : StoreState) (now : Option Failure) (end : History). Moved (state h f) (failed h f) h [] None new now end) (moved-none _ _ _ (s.left honest))

pub returns-in_default-source_of-clause-went : goal.returns-in_default-source_of-clause-went
returns-in_default-source_of-clause-went g c honest =
    let s = c.args.store.now in
    let m = c.make_room.new.store in
    let h = history_of s in
    let f = fields_of s in
    ended h (history_of m) f (fields_of m) (ap (λ d. g.D.Disk.history d) c.make_room.ensures.disk) c.make_room.ensures.fields
    (λ (new : StoreState) (now : Option Failure) (end : History). Moved (state h f) (failed h f) h [] None new now end) (moved-none _ _ _ (s.left honest))

pub returns-in-Ok-install_from-clause-installs : goal.returns-in-Ok-install_from-clause-installs
returns-in-Ok-install_from-clause-installs g c =
    let installs = c.in-Ok-install_from.ensures.installs in (
      ap (λ f. f.broken) (sym c.make_room.ensures.fields) ∙ installs.0,
      told_is c.bytes.result.now c.in-Ok-source_of.source.left (Some c.install_from.new.source.left) c.args.ltx.now c.in-Ok-source_of.ensures c.bytes.ensures _ _ c.in-Ok-install_from.position installs,
    )

pub returns-in-Ok-install_from-clause-position : goal.returns-in-Ok-install_from-clause-position
returns-in-Ok-install_from-clause-position g c =
    c.in-Ok-install_from.ensures.position
    ∙ told_is c.bytes.result.now c.in-Ok-source_of.source.left (Some c.install_from.new.source.left) c.args.ltx.now c.in-Ok-source_of.ensures c.bytes.ensures _ _ c.in-Ok-install_from.position c.in-Ok-install_from.ensures.installs

pub returns-in-Ok-install_from-clause-went : goal.returns-in-Ok-install_from-clause-went
returns-in-Ok-install_from-clause-went g c honest =
    let s = c.args.store.now in
    let m = c.make_room.new.store in
    let e = c.install_from.new.store in
    let h = history_of s in
    let f = fields_of s in
    let end = history_of e in
    let file = c.args.ltx.now in
    let told = c.in-Ok-install_from.position in
    began h (history_of m) f (fields_of m) (ap (λ d. g.D.Disk.history d) c.make_room.ensures.disk) c.make_room.ensures.fields
    (λ (old : StoreState) (was : Option Failure) (start : History). Went {T = Pos} old was start (Install file) (Ok told) (state end (fields_of e)) (failed end (fields_of e)) end)
    (went_ok c.bytes.result.now c.in-Ok-source_of.source.left (Some c.install_from.new.source.left) file c.in-Ok-source_of.ensures c.bytes.ensures _ _ _ told _ _ _
    (c.in-Ok-install_from.ensures.went (ap (λ d. g.D.Disk.honest d) c.make_room.ensures.disk ∙ honest)))

pub returns-clause-went : goal.returns-clause-went
returns-clause-went g c honest =
    let s = c.args.store.now in
    let m = c.make_room.new.store in
    let e = c.install_from.new.store in
    let h = history_of s in
    let f = fields_of s in
    let end = history_of e in
    let file = c.args.ltx.now in
    let why = c.in-Err.fault in
    subst (λ (w : StoreFault). Went {T = Pos} (state h f) (failed h f) h (Install file) (Err w) (state end (fields_of e)) (failed end (fields_of e)) end) (sym c.fault_of.ensures)
    (began h (history_of m) f (fields_of m) (ap (λ d. g.D.Disk.history d) c.make_room.ensures.disk) c.make_room.ensures.fields
    (λ (old : StoreState) (was : Option Failure) (start : History). Went {T = Pos} old was start (Install file) (Err (store_fault why)) (state end (fields_of e)) (failed end (fields_of e)) end)
    (went_err c.bytes.result.now c.in-Ok-source_of.source.left (Some c.install_from.new.source.left) file c.in-Ok-source_of.ensures c.bytes.ensures _ _ _ why _ _ _
    (c.in-Err.ensures.went (ap (λ d. g.D.Disk.honest d) c.make_room.ensures.disk ∙ honest))))
