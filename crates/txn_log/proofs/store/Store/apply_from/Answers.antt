use Rattle.std.proofs.Common.{◌≡◌, ◌∙◌, inl, inr, ℕ, Bool, true, false, Some, sym, ap, subst, refl, arith}
use Rattle.lf_base.specs.declared.pos.Pos.{Pos}
use Rattle.lf_disk.specs.History.{now}
use Rattle.lf_sqlite_pages.specs.Header.{image_is_wal}
use Rattle.world_laws.specs.Store.{StoreState, MayBeFound}
use Rattle.txn_log.specs.Bringing.{Brings, as_file}
use Rattle.txn_log.specs.Calls.{RestsAs}
use Rattle.txn_log.specs.From.{RefusesFrom}
use Rattle.txn_log.specs.Renewing.{spare_in}
use Rattle.txn_log.specs.Store.{IsStore, end_of_entries, image_in, state_of, failure_of}
use Rattle.txn_log.specs.declared.entry.Attempt.TheVariants as attempt
use Rattle.txn_log.specs.declared.bringing.Brought.{Brought}
use Rattle.txn_log.specs.declared.bringing.Brought.TheVariants as brought
use Rattle.txn_log.proofs.FromMoves.{over_ground, made, encoding, valid, is, read, can, still_kept, still_left, still_mode, went_nowhere, refused_went, refused_breaks, not_disk}
use Rattle.txn_log.proofs.Modes.{mode_after}
use Rattle.txn_log.proofs.Moves.{moved-none, image, files, is_done, stands, left_done, went_done, left_in, went_in, left_before, went_before, shaped-after}
use Rattle.txn_log.proofs.Stores.{broken, mode_before}
use Rattle.txn_log.proofs.store.Store.apply_from.Goals as goal

pub returns-then-self-clause-applies : goal.returns-then-self-clause-applies
returns-then-self-clause-applies g c =
    let s = c.args.self.now in
    let left = g.S.Source.left c.args.source.now in
    let left_now = g.S.Source.left c.refuse-why.new.source in
    let same : spare_in s.decoder ≡ c.in-Some.reserved.pages = ap spare_in (sym c.take.ensures.value ∙ c.in-Some.is) in
    subst (λ (n : ℕ). RefusesFrom left left_now n s.broken (end_of_entries s.entries.items) s.page_size s.commit s.sums.sums c.refuse-why.result.0) (sym same)
    (subst (λ (x : Bool). RefusesFrom left left_now c.in-Some.reserved.pages x (end_of_entries s.entries.items) s.page_size s.commit s.sums.sums c.refuse-why.result.0) (sym c.if-self.true)
    (c.refuse-why.ensures.refuses (end_of_entries s.entries.items) s.page_size s.commit s.sums.sums))

pub returns-then-self-clause-cause : goal.returns-then-self-clause-cause
returns-then-self-clause-cause g c =
    let s = c.args.self.now in
    refused_breaks s.broken s.broken _ _ _ _ c.refuse-why.result.0 refl
    (not_disk _ _ _ (end_of_entries s.entries.items) s.page_size s.commit s.sums.sums c.refuse-why.result.0 (c.refuse-why.ensures.refuses (end_of_entries s.entries.items) s.page_size s.commit s.sums.sums))
    c.refuse-why.ensures.cause refl

pub returns-then-self-clause-went : goal.returns-then-self-clause-went
returns-then-self-clause-went g c honest =
    let s = c.args.self.now in
    refused_went _ _ _ _ _ _ c.refuse-why.result.0 _ _ _
    (not_disk _ _ _ (end_of_entries s.entries.items) s.page_size s.commit s.sums.sums c.refuse-why.result.0 (c.refuse-why.ensures.refuses (end_of_entries s.entries.items) s.page_size s.commit s.sums.sums))
    (moved-none _ _ _ (s.left honest))

pub invariant_of-self-in-Whole : goal.invariant_of-self-in-Whole
invariant_of-self-in-Whole g c =
    let s = c.args.self.now in
    let h = g.D.Disk.history s.disk in
    let new = g.D.Disk.history c.bring_with-brought.new.disk in
    let left = g.S.Source.left c.args.source.now in
    let left_now = g.S.Source.left c.bring_with-brought.new.source in
    let room = c.in-Some.reserved.pages in
    let table = c.bring_with-brought.result.1.sums.sums in
    let b : Brings (g.D.Disk.honest s.disk) left left_now h (record { position = end_of_entries s.entries.items; page_size = s.page_size; commit = s.commit; wal = s.wal; dropped = s.dropped; room = room }) s.sums.sums table (brought.Whole c.in-Whole.outline c.in-Whole.wal) new =
    subst (λ (p : Pos). Brings (g.D.Disk.honest s.disk) left left_now h (record { position = p; page_size = s.page_size; commit = s.commit; wal = s.wal; dropped = s.dropped; room = room }) s.sums.sums table (brought.Whole c.in-Whole.outline c.in-Whole.wal) new) c.pos.ensures.value
    (subst (λ (x : Brought). Brings (g.D.Disk.honest s.disk) left left_now h (record { position = c.pos.result; page_size = s.page_size; commit = s.commit; wal = s.wal; dropped = s.dropped; room = room }) s.sums.sums table x new) c.in-Whole.is c.bring_with-brought.ensures.brings) in
    let file = as_file c.in-Whole.outline b.0 in
    let valid_file = valid h s.page_size s.commit s.entries.items s.dropped s.sums.sums s.whole s.tried s.shaped s.wal room left left_now file b.1 b.2 in
    record {
      sized = record { sized = λ _. valid_file.header.page_size; pages = λ _. valid_file.header.page_size };
      shaped = rw (c.push_reserved.ensures.items, c.before-in-Whole.ensures b.0, c.exchange.ensures, b.3.table_is)
          (shaped-after s.commit s.entries.items s.sums.sums (made h s.page_size s.commit s.entries.items s.dropped s.sums.sums s.whole s.tried s.shaped s.wal room left left_now file b.1 b.2) (sym valid_file.block.commit) valid_file.header.widths.commit
          (omega (arith, valid_file.header.min, valid_file.header.max)) b.1.taken.sum);
      kept = λ still.
          let honest = sym c.bring_with-brought.ensures.honest ∙ still in
          let kept : IsStore h s.page_size s.commit s.entries.items s.dropped s.sums.sums false s.whole s.tried =
          subst (λ (x : Bool). IsStore h s.page_size s.commit s.entries.items s.dropped s.sums.sums x s.whole s.tried) c.if-self.false (s.kept honest) in
          let places = b.4 honest (image h s.page_size s.commit s.entries.items s.dropped s.sums.sums s.whole s.tried s.shaped kept) (files h s.page_size s.commit s.entries.items s.dropped s.sums.sums s.whole s.tried s.shaped kept) (over_ground h s.page_size s.commit s.entries.items s.dropped s.sums.sums s.whole s.tried s.shaped s.wal room kept) in
          rw (c.push_reserved.ensures.items, c.before-in-Whole.ensures b.0, c.exchange.ensures, b.3.table_is, c.if-self.false) (stands h s.page_size s.commit s.entries.items s.dropped s.sums.sums s.whole s.tried s.shaped kept attempt.Apply (made h s.page_size s.commit s.entries.items s.dropped s.sums.sums s.whole s.tried s.shaped s.wal room left left_now file b.1 b.2) (encoding h s.page_size s.commit s.entries.items s.dropped s.sums.sums s.whole s.tried s.shaped s.wal room left left_now file b.1 b.2) tt (can h s.page_size s.commit s.entries.items s.dropped s.sums.sums s.whole s.tried s.shaped s.wal room left left_now file b.1 b.2 kept) (is h s.page_size s.commit s.entries.items s.dropped s.sums.sums s.whole s.tried s.shaped s.wal room left left_now file b.1 b.2) (read h s.page_size s.commit s.entries.items s.dropped s.sums.sums s.whole s.tried s.shaped s.wal room left left_now file b.1 b.2) new places.0 places.1 s.whole s.tried);
      left = λ still.
          let honest = sym c.bring_with-brought.ensures.honest ∙ still in
          let kept : IsStore h s.page_size s.commit s.entries.items s.dropped s.sums.sums false s.whole s.tried =
          subst (λ (x : Bool). IsStore h s.page_size s.commit s.entries.items s.dropped s.sums.sums x s.whole s.tried) c.if-self.false (s.kept honest) in
          let places = b.4 honest (image h s.page_size s.commit s.entries.items s.dropped s.sums.sums s.whole s.tried s.shaped kept) (files h s.page_size s.commit s.entries.items s.dropped s.sums.sums s.whole s.tried s.shaped kept) (over_ground h s.page_size s.commit s.entries.items s.dropped s.sums.sums s.whole s.tried s.shaped s.wal room kept) in
          rw (c.push_reserved.ensures.items, c.before-in-Whole.ensures b.0, c.if-self.false) (left_done h s.page_size s.commit s.entries.items s.dropped s.sums.sums s.whole s.tried s.shaped kept attempt.Apply (made h s.page_size s.commit s.entries.items s.dropped s.sums.sums s.whole s.tried s.shaped s.wal room left left_now file b.1 b.2) (encoding h s.page_size s.commit s.entries.items s.dropped s.sums.sums s.whole s.tried s.shaped s.wal room left left_now file b.1 b.2) tt (can h s.page_size s.commit s.entries.items s.dropped s.sums.sums s.whole s.tried s.shaped s.wal room left left_now file b.1 b.2 kept) (is h s.page_size s.commit s.entries.items s.dropped s.sums.sums s.whole s.tried s.shaped s.wal room left left_now file b.1 b.2) (read h s.page_size s.commit s.entries.items s.dropped s.sums.sums s.whole s.tried s.shaped s.wal room left left_now file b.1 b.2) new places.0 places.1);
      mode = λ still.
          let honest = sym c.bring_with-brought.ensures.honest ∙ still in
          let kept : IsStore h s.page_size s.commit s.entries.items s.dropped s.sums.sums false s.whole s.tried =
          subst (λ (x : Bool). IsStore h s.page_size s.commit s.entries.items s.dropped s.sums.sums x s.whole s.tried) c.if-self.false (s.kept honest) in
          let places = b.4 honest (image h s.page_size s.commit s.entries.items s.dropped s.sums.sums s.whole s.tried s.shaped kept) (files h s.page_size s.commit s.entries.items s.dropped s.sums.sums s.whole s.tried s.shaped kept) (over_ground h s.page_size s.commit s.entries.items s.dropped s.sums.sums s.whole s.tried s.shaped s.wal room kept) in
          let mode : s.wal ≡ image_is_wal (image_in s.page_size s.commit (now h)) =
          subst (λ (x : Bool). s.wal ≡ image_is_wal (state_of h s.page_size s.commit s.entries.items s.dropped x s.whole).image) c.if-self.false (s.mode honest) in
          rw (c.if-self.false)
          (b.3.wal_is ∙ mode_after (image h s.page_size s.commit s.entries.items s.dropped s.sums.sums s.whole s.tried s.shaped kept) s.wal (made h s.page_size s.commit s.entries.items s.dropped s.sums.sums s.whole s.tried s.shaped s.wal room left left_now file b.1 b.2).change valid_file.block.pages.of_a_page_size (can h s.page_size s.commit s.entries.items s.dropped s.sums.sums s.whole s.tried s.shaped s.wal room left left_now file b.1 b.2 kept).complete mode
          ∙ ap (λ (st : StoreState). image_is_wal st.image) (sym (is_done h s.page_size s.commit s.entries.items s.dropped s.sums.sums s.whole s.tried s.shaped kept attempt.Apply (made h s.page_size s.commit s.entries.items s.dropped s.sums.sums s.whole s.tried s.shaped s.wal room left left_now file b.1 b.2) (encoding h s.page_size s.commit s.entries.items s.dropped s.sums.sums s.whole s.tried s.shaped s.wal room left left_now file b.1 b.2) tt (can h s.page_size s.commit s.entries.items s.dropped s.sums.sums s.whole s.tried s.shaped s.wal room left left_now file b.1 b.2 kept) (is h s.page_size s.commit s.entries.items s.dropped s.sums.sums s.whole s.tried s.shaped s.wal room left left_now file b.1 b.2) (read h s.page_size s.commit s.entries.items s.dropped s.sums.sums s.whole s.tried s.shaped s.wal room left left_now file b.1 b.2) new places.0 places.1)));
    }

pub returns-in-Whole-clause-went : goal.returns-in-Whole-clause-went
returns-in-Whole-clause-went g c honest =
    let s = c.args.self.now in
    let h = g.D.Disk.history s.disk in
    let new = g.D.Disk.history c.bring_with-brought.new.disk in
    let left = g.S.Source.left c.args.source.now in
    let left_now = g.S.Source.left c.bring_with-brought.new.source in
    let room = c.in-Some.reserved.pages in
    let table = c.bring_with-brought.result.1.sums.sums in
    let b : Brings (g.D.Disk.honest s.disk) left left_now h (record { position = end_of_entries s.entries.items; page_size = s.page_size; commit = s.commit; wal = s.wal; dropped = s.dropped; room = room }) s.sums.sums table (brought.Whole c.in-Whole.outline c.in-Whole.wal) new =
    subst (λ (p : Pos). Brings (g.D.Disk.honest s.disk) left left_now h (record { position = p; page_size = s.page_size; commit = s.commit; wal = s.wal; dropped = s.dropped; room = room }) s.sums.sums table (brought.Whole c.in-Whole.outline c.in-Whole.wal) new) c.pos.ensures.value
    (subst (λ (x : Brought). Brings (g.D.Disk.honest s.disk) left left_now h (record { position = c.pos.result; page_size = s.page_size; commit = s.commit; wal = s.wal; dropped = s.dropped; room = room }) s.sums.sums table x new) c.in-Whole.is c.bring_with-brought.ensures.brings) in
    let file = as_file c.in-Whole.outline b.0 in
    let kept : IsStore h s.page_size s.commit s.entries.items s.dropped s.sums.sums false s.whole s.tried =
    subst (λ (x : Bool). IsStore h s.page_size s.commit s.entries.items s.dropped s.sums.sums x s.whole s.tried) c.if-self.false (s.kept honest) in
    let places = b.4 honest (image h s.page_size s.commit s.entries.items s.dropped s.sums.sums s.whole s.tried s.shaped kept) (files h s.page_size s.commit s.entries.items s.dropped s.sums.sums s.whole s.tried s.shaped kept) (over_ground h s.page_size s.commit s.entries.items s.dropped s.sums.sums s.whole s.tried s.shaped s.wal room kept) in
    (file, b.1.gave, refl, rw (c.push_reserved.ensures.items, c.before-in-Whole.ensures b.0, c.if-self.false) (went_done h s.page_size s.commit s.entries.items s.dropped s.sums.sums s.whole s.tried s.shaped kept attempt.Apply (made h s.page_size s.commit s.entries.items s.dropped s.sums.sums s.whole s.tried s.shaped s.wal room left left_now file b.1 b.2) (encoding h s.page_size s.commit s.entries.items s.dropped s.sums.sums s.whole s.tried s.shaped s.wal room left left_now file b.1 b.2) tt (can h s.page_size s.commit s.entries.items s.dropped s.sums.sums s.whole s.tried s.shaped s.wal room left left_now file b.1 b.2 kept) (is h s.page_size s.commit s.entries.items s.dropped s.sums.sums s.whole s.tried s.shaped s.wal room left left_now file b.1 b.2) (read h s.page_size s.commit s.entries.items s.dropped s.sums.sums s.whole s.tried s.shaped s.wal room left left_now file b.1 b.2) new places.0 places.1))

pub invariant_of-self-in-Refused : goal.invariant_of-self-in-Refused
invariant_of-self-in-Refused g c =
    let s = c.args.self.now in
    let h = g.D.Disk.history s.disk in
    let new = g.D.Disk.history c.bring_with-brought.new.disk in
    let left = g.S.Source.left c.args.source.now in
    let left_now = g.S.Source.left c.bring_with-brought.new.source in
    let room = c.in-Some.reserved.pages in
    let table = c.bring_with-brought.result.1.sums.sums in
    let b : Brings (g.D.Disk.honest s.disk) left left_now h (record { position = end_of_entries s.entries.items; page_size = s.page_size; commit = s.commit; wal = s.wal; dropped = s.dropped; room = room }) s.sums.sums table (brought.Refused c.in-Refused.fault) new =
    subst (λ (p : Pos). Brings (g.D.Disk.honest s.disk) left left_now h (record { position = p; page_size = s.page_size; commit = s.commit; wal = s.wal; dropped = s.dropped; room = room }) s.sums.sums table (brought.Refused c.in-Refused.fault) new) c.pos.ensures.value
    (subst (λ (x : Brought). Brings (g.D.Disk.honest s.disk) left left_now h (record { position = c.pos.result; page_size = s.page_size; commit = s.commit; wal = s.wal; dropped = s.dropped; room = room }) s.sums.sums table x new) c.in-Refused.is c.bring_with-brought.ensures.brings) in
    record {
      sized = s.sized;
      shaped = s.shaped;
      kept = λ still.
          let honest = sym c.bring_with-brought.ensures.honest ∙ still in
          let kept : IsStore h s.page_size s.commit s.entries.items s.dropped s.sums.sums false s.whole s.tried =
          subst (λ (x : Bool). IsStore h s.page_size s.commit s.entries.items s.dropped s.sums.sums x s.whole s.tried) c.if-self.false (s.kept honest) in
          let quiet = b.2 honest in
          rw (c.if-self.false) (still_kept h new s.page_size s.commit s.entries.items s.dropped s.sums.sums s.whole s.tried s.shaped kept quiet.0 quiet.1 s.whole s.tried);
      left = λ still.
          let honest = sym c.bring_with-brought.ensures.honest ∙ still in
          let kept : IsStore h s.page_size s.commit s.entries.items s.dropped s.sums.sums false s.whole s.tried =
          subst (λ (x : Bool). IsStore h s.page_size s.commit s.entries.items s.dropped s.sums.sums x s.whole s.tried) c.if-self.false (s.kept honest) in
          let quiet = b.2 honest in
          rw (c.if-self.false) (still_left h new s.page_size s.commit s.entries.items s.dropped s.sums.sums s.whole s.tried s.shaped kept quiet.0 quiet.1);
      mode = λ still.
          let honest = sym c.bring_with-brought.ensures.honest ∙ still in
          let kept : IsStore h s.page_size s.commit s.entries.items s.dropped s.sums.sums false s.whole s.tried =
          subst (λ (x : Bool). IsStore h s.page_size s.commit s.entries.items s.dropped s.sums.sums x s.whole s.tried) c.if-self.false (s.kept honest) in
          let quiet = b.2 honest in
          let mode : s.wal ≡ image_is_wal (image_in s.page_size s.commit (now h)) =
          subst (λ (x : Bool). s.wal ≡ image_is_wal (state_of h s.page_size s.commit s.entries.items s.dropped x s.whole).image) c.if-self.false (s.mode honest) in
          rw (c.if-self.false) (still_mode h new s.page_size s.commit s.entries.items s.dropped s.sums.sums s.whole s.tried s.shaped kept quiet.0 quiet.1 s.wal mode);
    }

pub returns-in-Refused-clause-applies : goal.returns-in-Refused-clause-applies
returns-in-Refused-clause-applies g c =
    let s = c.args.self.now in
    let h = g.D.Disk.history s.disk in
    let new = g.D.Disk.history c.bring_with-brought.new.disk in
    let left = g.S.Source.left c.args.source.now in
    let left_now = g.S.Source.left c.bring_with-brought.new.source in
    let room = c.in-Some.reserved.pages in
    let table = c.bring_with-brought.result.1.sums.sums in
    let b : Brings (g.D.Disk.honest s.disk) left left_now h (record { position = end_of_entries s.entries.items; page_size = s.page_size; commit = s.commit; wal = s.wal; dropped = s.dropped; room = room }) s.sums.sums table (brought.Refused c.in-Refused.fault) new =
    subst (λ (p : Pos). Brings (g.D.Disk.honest s.disk) left left_now h (record { position = p; page_size = s.page_size; commit = s.commit; wal = s.wal; dropped = s.dropped; room = room }) s.sums.sums table (brought.Refused c.in-Refused.fault) new) c.pos.ensures.value
    (subst (λ (x : Brought). Brings (g.D.Disk.honest s.disk) left left_now h (record { position = c.pos.result; page_size = s.page_size; commit = s.commit; wal = s.wal; dropped = s.dropped; room = room }) s.sums.sums table x new) c.in-Refused.is c.bring_with-brought.ensures.brings) in
    let same : spare_in s.decoder ≡ room = ap spare_in (sym c.take.ensures.value ∙ c.in-Some.is) in
    subst (λ (n : ℕ). RefusesFrom left left_now n s.broken (end_of_entries s.entries.items) s.page_size s.commit s.sums.sums c.in-Refused.fault) (sym same)
    (subst (λ (x : Bool). RefusesFrom left left_now room x (end_of_entries s.entries.items) s.page_size s.commit s.sums.sums c.in-Refused.fault) (sym c.if-self.false) b.1)

pub returns-in-Refused-clause-went : goal.returns-in-Refused-clause-went
returns-in-Refused-clause-went g c honest =
    let s = c.args.self.now in
    let h = g.D.Disk.history s.disk in
    let new = g.D.Disk.history c.bring_with-brought.new.disk in
    let left = g.S.Source.left c.args.source.now in
    let left_now = g.S.Source.left c.bring_with-brought.new.source in
    let room = c.in-Some.reserved.pages in
    let table = c.bring_with-brought.result.1.sums.sums in
    let b : Brings (g.D.Disk.honest s.disk) left left_now h (record { position = end_of_entries s.entries.items; page_size = s.page_size; commit = s.commit; wal = s.wal; dropped = s.dropped; room = room }) s.sums.sums table (brought.Refused c.in-Refused.fault) new =
    subst (λ (p : Pos). Brings (g.D.Disk.honest s.disk) left left_now h (record { position = p; page_size = s.page_size; commit = s.commit; wal = s.wal; dropped = s.dropped; room = room }) s.sums.sums table (brought.Refused c.in-Refused.fault) new) c.pos.ensures.value
    (subst (λ (x : Brought). Brings (g.D.Disk.honest s.disk) left left_now h (record { position = c.pos.result; page_size = s.page_size; commit = s.commit; wal = s.wal; dropped = s.dropped; room = room }) s.sums.sums table x new) c.in-Refused.is c.bring_with-brought.ensures.brings) in
    let kept : IsStore h s.page_size s.commit s.entries.items s.dropped s.sums.sums false s.whole s.tried =
    subst (λ (x : Bool). IsStore h s.page_size s.commit s.entries.items s.dropped s.sums.sums x s.whole s.tried) c.if-self.false (s.kept honest) in
    let quiet = b.2 honest in
    refused_went left left_now s.commit _ _ h c.in-Refused.fault _ _ new b.0 (rw (c.if-self.false) (went_nowhere h new s.page_size s.commit s.entries.items s.dropped s.sums.sums s.whole s.tried s.shaped kept quiet.0 quiet.1))

pub invariant_of-self-in-Unpublished : goal.invariant_of-self-in-Unpublished
invariant_of-self-in-Unpublished g c =
    let s = c.args.self.now in
    let h = g.D.Disk.history s.disk in
    let new = g.D.Disk.history c.bring_with-brought.new.disk in
    let left = g.S.Source.left c.args.source.now in
    let left_now = g.S.Source.left c.bring_with-brought.new.source in
    let room = c.in-Some.reserved.pages in
    let table = c.bring_with-brought.result.1.sums.sums in
    let b : Brings (g.D.Disk.honest s.disk) left left_now h (record { position = end_of_entries s.entries.items; page_size = s.page_size; commit = s.commit; wal = s.wal; dropped = s.dropped; room = room }) s.sums.sums table (brought.Unpublished) new =
    subst (λ (p : Pos). Brings (g.D.Disk.honest s.disk) left left_now h (record { position = p; page_size = s.page_size; commit = s.commit; wal = s.wal; dropped = s.dropped; room = room }) s.sums.sums table (brought.Unpublished) new) c.pos.ensures.value
    (subst (λ (x : Brought). Brings (g.D.Disk.honest s.disk) left left_now h (record { position = c.pos.result; page_size = s.page_size; commit = s.commit; wal = s.wal; dropped = s.dropped; room = room }) s.sums.sums table x new) c.in-Unpublished.is c.bring_with-brought.ensures.brings) in
    record {
      sized = s.sized;
      shaped = s.shaped;
      kept = λ still.
          let honest = sym c.bring_with-brought.ensures.honest ∙ still in
          let kept : IsStore h s.page_size s.commit s.entries.items s.dropped s.sums.sums false s.whole s.tried =
          subst (λ (x : Bool). IsStore h s.page_size s.commit s.entries.items s.dropped s.sums.sums x s.whole s.tried) c.if-self.false (s.kept honest) in
          let places = b honest (image h s.page_size s.commit s.entries.items s.dropped s.sums.sums s.whole s.tried s.shaped kept) (files h s.page_size s.commit s.entries.items s.dropped s.sums.sums s.whole s.tried s.shaped kept) (over_ground h s.page_size s.commit s.entries.items s.dropped s.sums.sums s.whole s.tried s.shaped s.wal room kept) in
          rw (c.moment-start.ensures) (broken s.page_size s.commit s.entries.items s.dropped s.sums.sums h new places.past s.whole s.tried h.moment places.later places.later kept);
      left = λ still.
          let honest = sym c.bring_with-brought.ensures.honest ∙ still in
          let kept : IsStore h s.page_size s.commit s.entries.items s.dropped s.sums.sums false s.whole s.tried =
          subst (λ (x : Bool). IsStore h s.page_size s.commit s.entries.items s.dropped s.sums.sums x s.whole s.tried) c.if-self.false (s.kept honest) in
          let places = b honest (image h s.page_size s.commit s.entries.items s.dropped s.sums.sums s.whole s.tried s.shaped kept) (files h s.page_size s.commit s.entries.items s.dropped s.sums.sums s.whole s.tried s.shaped kept) (over_ground h s.page_size s.commit s.entries.items s.dropped s.sums.sums s.whole s.tried s.shaped s.wal room kept) in
          rw (c.moment-start.ensures) (left_before h s.page_size s.commit s.entries.items s.dropped s.sums.sums s.whole s.tried s.shaped kept new places);
      mode = λ still.
          let honest = sym c.bring_with-brought.ensures.honest ∙ still in
          let kept : IsStore h s.page_size s.commit s.entries.items s.dropped s.sums.sums false s.whole s.tried =
          subst (λ (x : Bool). IsStore h s.page_size s.commit s.entries.items s.dropped s.sums.sums x s.whole s.tried) c.if-self.false (s.kept honest) in
          let places = b honest (image h s.page_size s.commit s.entries.items s.dropped s.sums.sums s.whole s.tried s.shaped kept) (files h s.page_size s.commit s.entries.items s.dropped s.sums.sums s.whole s.tried s.shaped kept) (over_ground h s.page_size s.commit s.entries.items s.dropped s.sums.sums s.whole s.tried s.shaped s.wal room kept) in
          let mode : s.wal ≡ image_is_wal (image_in s.page_size s.commit (now h)) =
          subst (λ (x : Bool). s.wal ≡ image_is_wal (state_of h s.page_size s.commit s.entries.items s.dropped x s.whole).image) c.if-self.false (s.mode honest) in
          rw (c.moment-start.ensures) (mode_before s.page_size s.commit s.entries.items s.dropped s.sums.sums h new places.past s.wal mode);
    }

pub returns-in-Unpublished-clause-went : goal.returns-in-Unpublished-clause-went
returns-in-Unpublished-clause-went g c honest =
    let s = c.args.self.now in
    let h = g.D.Disk.history s.disk in
    let new = g.D.Disk.history c.bring_with-brought.new.disk in
    let left = g.S.Source.left c.args.source.now in
    let left_now = g.S.Source.left c.bring_with-brought.new.source in
    let room = c.in-Some.reserved.pages in
    let table = c.bring_with-brought.result.1.sums.sums in
    let b : Brings (g.D.Disk.honest s.disk) left left_now h (record { position = end_of_entries s.entries.items; page_size = s.page_size; commit = s.commit; wal = s.wal; dropped = s.dropped; room = room }) s.sums.sums table (brought.Unpublished) new =
    subst (λ (p : Pos). Brings (g.D.Disk.honest s.disk) left left_now h (record { position = p; page_size = s.page_size; commit = s.commit; wal = s.wal; dropped = s.dropped; room = room }) s.sums.sums table (brought.Unpublished) new) c.pos.ensures.value
    (subst (λ (x : Brought). Brings (g.D.Disk.honest s.disk) left left_now h (record { position = c.pos.result; page_size = s.page_size; commit = s.commit; wal = s.wal; dropped = s.dropped; room = room }) s.sums.sums table x new) c.in-Unpublished.is c.bring_with-brought.ensures.brings) in
    let kept : IsStore h s.page_size s.commit s.entries.items s.dropped s.sums.sums false s.whole s.tried =
    subst (λ (x : Bool). IsStore h s.page_size s.commit s.entries.items s.dropped s.sums.sums x s.whole s.tried) c.if-self.false (s.kept honest) in
    let places = b honest (image h s.page_size s.commit s.entries.items s.dropped s.sums.sums s.whole s.tried s.shaped kept) (files h s.page_size s.commit s.entries.items s.dropped s.sums.sums s.whole s.tried s.shaped kept) (over_ground h s.page_size s.commit s.entries.items s.dropped s.sums.sums s.whole s.tried s.shaped s.wal room kept) in
    rw (c.moment-start.ensures, c.if-self.false) (inl (went_before h s.page_size s.commit s.entries.items s.dropped s.sums.sums s.whole s.tried s.shaped kept new places))

pub invariant_of-self-in-From : goal.invariant_of-self-in-From
invariant_of-self-in-From g c =
    let s = c.args.self.now in
    let h = g.D.Disk.history s.disk in
    let new = g.D.Disk.history c.bring_with-brought.new.disk in
    let left = g.S.Source.left c.args.source.now in
    let left_now = g.S.Source.left c.bring_with-brought.new.source in
    let room = c.in-Some.reserved.pages in
    let table = c.bring_with-brought.result.1.sums.sums in
    let b : Brings (g.D.Disk.honest s.disk) left left_now h (record { position = end_of_entries s.entries.items; page_size = s.page_size; commit = s.commit; wal = s.wal; dropped = s.dropped; room = room }) s.sums.sums table (brought.From c.in-From.tried) new =
    subst (λ (p : Pos). Brings (g.D.Disk.honest s.disk) left left_now h (record { position = p; page_size = s.page_size; commit = s.commit; wal = s.wal; dropped = s.dropped; room = room }) s.sums.sums table (brought.From c.in-From.tried) new) c.pos.ensures.value
    (subst (λ (x : Brought). Brings (g.D.Disk.honest s.disk) left left_now h (record { position = c.pos.result; page_size = s.page_size; commit = s.commit; wal = s.wal; dropped = s.dropped; room = room }) s.sums.sums table x new) c.in-From.is c.bring_with-brought.ensures.brings) in
    let file = b.0 in
    record {
      sized = s.sized;
      shaped = s.shaped;
      kept = λ still.
          let honest = sym c.bring_with-brought.ensures.honest ∙ still in
          let kept : IsStore h s.page_size s.commit s.entries.items s.dropped s.sums.sums false s.whole s.tried =
          subst (λ (x : Bool). IsStore h s.page_size s.commit s.entries.items s.dropped s.sums.sums x s.whole s.tried) c.if-self.false (s.kept honest) in
          let places = b.3 honest (image h s.page_size s.commit s.entries.items s.dropped s.sums.sums s.whole s.tried s.shaped kept) (files h s.page_size s.commit s.entries.items s.dropped s.sums.sums s.whole s.tried s.shaped kept) (over_ground h s.page_size s.commit s.entries.items s.dropped s.sums.sums s.whole s.tried s.shaped s.wal room kept) in
          rw (c.moment-start.ensures) (broken s.page_size s.commit s.entries.items s.dropped s.sums.sums h new places.0.past s.whole s.tried c.in-From.tried places.0.later places.1.past kept);
      left = λ still.
          let honest = sym c.bring_with-brought.ensures.honest ∙ still in
          let kept : IsStore h s.page_size s.commit s.entries.items s.dropped s.sums.sums false s.whole s.tried =
          subst (λ (x : Bool). IsStore h s.page_size s.commit s.entries.items s.dropped s.sums.sums x s.whole s.tried) c.if-self.false (s.kept honest) in
          let places = b.3 honest (image h s.page_size s.commit s.entries.items s.dropped s.sums.sums s.whole s.tried s.shaped kept) (files h s.page_size s.commit s.entries.items s.dropped s.sums.sums s.whole s.tried s.shaped kept) (over_ground h s.page_size s.commit s.entries.items s.dropped s.sums.sums s.whole s.tried s.shaped s.wal room kept) in
          let P : ℕ → Type 0 = λ w. RestsAs (MayBeFound (state_of new s.page_size s.commit s.entries.items s.dropped true w) (Some (failure_of new c.in-From.tried attempt.Apply))) new in
          subst (λ (w : ℕ). P w) (sym c.moment-start.ensures) (left_in h s.page_size s.commit s.entries.items s.dropped s.sums.sums s.whole s.tried s.shaped kept attempt.Apply (made h s.page_size s.commit s.entries.items s.dropped s.sums.sums s.whole s.tried s.shaped s.wal room left left_now file b.1 b.2) (encoding h s.page_size s.commit s.entries.items s.dropped s.sums.sums s.whole s.tried s.shaped s.wal room left left_now file b.1 b.2) tt (can h s.page_size s.commit s.entries.items s.dropped s.sums.sums s.whole s.tried s.shaped s.wal room left left_now file b.1 b.2 kept) (is h s.page_size s.commit s.entries.items s.dropped s.sums.sums s.whole s.tried s.shaped s.wal room left left_now file b.1 b.2) (read h s.page_size s.commit s.entries.items s.dropped s.sums.sums s.whole s.tried s.shaped s.wal room left left_now file b.1 b.2) new c.in-From.tried places.0 places.1);
      mode = λ still.
          let honest = sym c.bring_with-brought.ensures.honest ∙ still in
          let kept : IsStore h s.page_size s.commit s.entries.items s.dropped s.sums.sums false s.whole s.tried =
          subst (λ (x : Bool). IsStore h s.page_size s.commit s.entries.items s.dropped s.sums.sums x s.whole s.tried) c.if-self.false (s.kept honest) in
          let places = b.3 honest (image h s.page_size s.commit s.entries.items s.dropped s.sums.sums s.whole s.tried s.shaped kept) (files h s.page_size s.commit s.entries.items s.dropped s.sums.sums s.whole s.tried s.shaped kept) (over_ground h s.page_size s.commit s.entries.items s.dropped s.sums.sums s.whole s.tried s.shaped s.wal room kept) in
          let mode : s.wal ≡ image_is_wal (image_in s.page_size s.commit (now h)) =
          subst (λ (x : Bool). s.wal ≡ image_is_wal (state_of h s.page_size s.commit s.entries.items s.dropped x s.whole).image) c.if-self.false (s.mode honest) in
          rw (c.moment-start.ensures) (mode_before s.page_size s.commit s.entries.items s.dropped s.sums.sums h new places.0.past s.wal mode);
    }

pub returns-in-From-clause-went : goal.returns-in-From-clause-went
returns-in-From-clause-went g c honest =
    let s = c.args.self.now in
    let h = g.D.Disk.history s.disk in
    let new = g.D.Disk.history c.bring_with-brought.new.disk in
    let left = g.S.Source.left c.args.source.now in
    let left_now = g.S.Source.left c.bring_with-brought.new.source in
    let room = c.in-Some.reserved.pages in
    let table = c.bring_with-brought.result.1.sums.sums in
    let b : Brings (g.D.Disk.honest s.disk) left left_now h (record { position = end_of_entries s.entries.items; page_size = s.page_size; commit = s.commit; wal = s.wal; dropped = s.dropped; room = room }) s.sums.sums table (brought.From c.in-From.tried) new =
    subst (λ (p : Pos). Brings (g.D.Disk.honest s.disk) left left_now h (record { position = p; page_size = s.page_size; commit = s.commit; wal = s.wal; dropped = s.dropped; room = room }) s.sums.sums table (brought.From c.in-From.tried) new) c.pos.ensures.value
    (subst (λ (x : Brought). Brings (g.D.Disk.honest s.disk) left left_now h (record { position = c.pos.result; page_size = s.page_size; commit = s.commit; wal = s.wal; dropped = s.dropped; room = room }) s.sums.sums table x new) c.in-From.is c.bring_with-brought.ensures.brings) in
    let file = b.0 in
    let kept : IsStore h s.page_size s.commit s.entries.items s.dropped s.sums.sums false s.whole s.tried =
    subst (λ (x : Bool). IsStore h s.page_size s.commit s.entries.items s.dropped s.sums.sums x s.whole s.tried) c.if-self.false (s.kept honest) in
    let places = b.3 honest (image h s.page_size s.commit s.entries.items s.dropped s.sums.sums s.whole s.tried s.shaped kept) (files h s.page_size s.commit s.entries.items s.dropped s.sums.sums s.whole s.tried s.shaped kept) (over_ground h s.page_size s.commit s.entries.items s.dropped s.sums.sums s.whole s.tried s.shaped s.wal room kept) in
    rw (c.moment-start.ensures, c.if-self.false) (inr (file, b.1.gave, went_in h s.page_size s.commit s.entries.items s.dropped s.sums.sums s.whole s.tried s.shaped kept attempt.Apply (made h s.page_size s.commit s.entries.items s.dropped s.sums.sums s.whole s.tried s.shaped s.wal room left left_now file b.1 b.2) (encoding h s.page_size s.commit s.entries.items s.dropped s.sums.sums s.whole s.tried s.shaped s.wal room left left_now file b.1 b.2) tt (can h s.page_size s.commit s.entries.items s.dropped s.sums.sums s.whole s.tried s.shaped s.wal room left left_now file b.1 b.2 kept) (is h s.page_size s.commit s.entries.items s.dropped s.sums.sums s.whole s.tried s.shaped s.wal room left left_now file b.1 b.2) (read h s.page_size s.commit s.entries.items s.dropped s.sums.sums s.whole s.tried s.shaped s.wal room left left_now file b.1 b.2) new c.in-From.tried places.0 places.1))
