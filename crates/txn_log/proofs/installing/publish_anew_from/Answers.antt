-- The snapshot is published, or refused, or a call failed before its rename or from there on.
use Rattle.std.proofs.Common.{◌≡◌, ◌∙◌, inl, inr, ℕ, List, Bool, true, false, Some, refl, sym, ap, subst}
use Rattle.lf_disk.specs.History.{now}
use Rattle.lf_sqlite_pages.specs.Header.{image_is_wal}
use Rattle.lf_sqlite_pages.specs.Image.{empty_image}
use Rattle.world_laws.specs.Store.{StoreState, MayBeFound}
use Rattle.txn_log.specs.Bringing.{as_file}
use Rattle.txn_log.specs.BringingAnew.{BringsAnew}
use Rattle.txn_log.specs.Calls.{RestsAs}
use Rattle.txn_log.specs.FromSnapshot.{RefusesInstall}
use Rattle.txn_log.specs.Renewing.{spare_in}
use Rattle.txn_log.specs.Store.{IsStore, image_in, state_of, failure_of}
use Rattle.txn_log.specs.declared.entry.Attempt.TheVariants as attempt
use Rattle.txn_log.specs.declared.bringing.Brought.{Brought}
use Rattle.txn_log.specs.declared.bringing.Brought.TheVariants as brought
use Rattle.txn_log.specs.declared.entry.Entry.{Entry}
use Rattle.txn_log.proofs.Entries.{end-push}
use Rattle.txn_log.proofs.FromMoves.{still_kept, still_left, still_mode, went_nowhere, refused_breaks}
use Rattle.txn_log.proofs.FromMovesAnew.{over_log, done_from, stands_from, left_from, went_from, all_in, left_in_from, went_in_from, refused_went, not_disk}
use Rattle.txn_log.proofs.Installings.{complete, shaped-installed}
use Rattle.txn_log.proofs.Modes.{mode_after}
use Rattle.txn_log.proofs.Moves.{moved-none, image, files, left_before, went_before}
use Rattle.txn_log.proofs.Stores.{broken, mode_before}
use Rattle.txn_log.proofs.installing.publish_anew_from.Goals as goal

pub returns-then-store-clause-installs : goal.returns-then-store-clause-installs
returns-then-store-clause-installs g c =
    let s = c.args.store.now in
    let left = g.S.Source.left c.args.source.now in
    let left_now = g.S.Source.left c.refuse_snapshot-why.new.source in
    let same : spare_in s.decoder ≡ c.in-Some.reserved.pages = ap spare_in (sym c.take.ensures.value ∙ c.in-Some.is) in
    subst (λ (n : ℕ). RefusesInstall left left_now n s.broken c.refuse_snapshot-why.result.0) (sym same)
    (subst (λ (x : Bool). RefusesInstall left left_now c.in-Some.reserved.pages x c.refuse_snapshot-why.result.0) (sym c.if-store.true) c.refuse_snapshot-why.ensures.refuses)

pub returns-then-store-clause-cause : goal.returns-then-store-clause-cause
returns-then-store-clause-cause g c =
    let s = c.args.store.now in
    refused_breaks s.broken s.broken _ _ _ _ c.refuse_snapshot-why.result.0 refl (not_disk _ _ _ c.refuse_snapshot-why.result.0 c.refuse_snapshot-why.ensures.refuses)
    c.refuse_snapshot-why.ensures.cause refl

pub returns-then-store-clause-went : goal.returns-then-store-clause-went
returns-then-store-clause-went g c honest =
    let s = c.args.store.now in
    refused_went _ _ _ _ _ c.refuse_snapshot-why.result.0 _ _ _ (not_disk _ _ _ c.refuse_snapshot-why.result.0 c.refuse_snapshot-why.ensures.refuses) (moved-none _ _ _ (s.left honest))

pub invariant_of-store-in-Whole : goal.invariant_of-store-in-Whole
invariant_of-store-in-Whole g c =
    let s = c.args.store.now in
    let h = g.D.Disk.history s.disk in
    let new = g.D.Disk.history c.bring_anew_with-brought.new.disk in
    let left = g.S.Source.left c.args.source.now in
    let left_now = g.S.Source.left c.bring_anew_with-brought.new.source in
    let room = c.in-Some.reserved.pages in
    let table = c.bring_anew_with-brought.result.1.sums.sums in
    let b : BringsAnew (g.D.Disk.honest s.disk) left left_now h room s.entries.items table (brought.Whole c.in-Whole.outline c.in-Whole.wal) new =
    subst (λ (es : List Entry). BringsAnew (g.D.Disk.honest s.disk) left left_now h room es table (brought.Whole c.in-Whole.outline c.in-Whole.wal) new) c.as_slice.ensures.value
    (subst (λ (x : Brought). BringsAnew (g.D.Disk.honest s.disk) left left_now h room c.as_slice.result.now table x new) c.in-Whole.is c.bring_anew_with-brought.ensures.brings) in
    let file = as_file c.in-Whole.outline b.0 in
    let valid = b.1.gave.is.valid in
    record {
      sized = record { sized = λ _. valid.header.page_size; pages = λ _. valid.header.page_size };
      shaped = rw (c.push_reserved.ensures.items, c.before-in-Whole.ensures b.0, c.clear.ensures.items, c.exchange.ensures, b.3.table_is) (shaped-installed file valid b.1.first);
      kept = λ still.
          let honest = sym c.bring_anew_with-brought.ensures.honest ∙ still in
          let kept : IsStore h s.page_size s.commit s.entries.items s.dropped s.sums.sums false s.whole s.tried =
          subst (λ (x : Bool). IsStore h s.page_size s.commit s.entries.items s.dropped s.sums.sums x s.whole s.tried) c.if-store.false (s.kept honest) in
          rw (c.push_reserved.ensures.items, c.before-in-Whole.ensures b.0, c.clear.ensures.items, c.exchange.ensures, b.3.table_is, c.if-store.false) (stands_from h s.page_size s.commit s.entries.items s.dropped s.sums.sums s.whole s.tried s.shaped kept left left_now room file b.1 b.2 (g.D.Disk.honest s.disk) honest new b.4 s.whole s.tried);
      left = λ still.
          let honest = sym c.bring_anew_with-brought.ensures.honest ∙ still in
          let kept : IsStore h s.page_size s.commit s.entries.items s.dropped s.sums.sums false s.whole s.tried =
          subst (λ (x : Bool). IsStore h s.page_size s.commit s.entries.items s.dropped s.sums.sums x s.whole s.tried) c.if-store.false (s.kept honest) in
          rw (c.push_reserved.ensures.items, c.before-in-Whole.ensures b.0, c.clear.ensures.items, c.if-store.false) (left_from h s.page_size s.commit s.entries.items s.dropped s.sums.sums s.whole s.tried s.shaped kept left left_now room file b.1 b.2 (g.D.Disk.honest s.disk) honest new b.4);
      mode = λ still.
          let honest = sym c.bring_anew_with-brought.ensures.honest ∙ still in
          let kept : IsStore h s.page_size s.commit s.entries.items s.dropped s.sums.sums false s.whole s.tried =
          subst (λ (x : Bool). IsStore h s.page_size s.commit s.entries.items s.dropped s.sums.sums x s.whole s.tried) c.if-store.false (s.kept honest) in
          rw (c.if-store.false)
          (b.3.wal_is ∙ mode_after empty_image false file.change valid.block.pages.of_a_page_size (complete file valid b.1.first) refl
          ∙ ap (λ (st : StoreState). image_is_wal st.image) (sym (done_from h s.page_size s.commit s.entries.items s.dropped s.sums.sums s.whole s.tried s.shaped kept left left_now room file b.1 b.2 (g.D.Disk.honest s.disk) honest new b.4)));
    }

pub returns-in-Whole-clause-went : goal.returns-in-Whole-clause-went
returns-in-Whole-clause-went g c honest =
    let s = c.args.store.now in
    let h = g.D.Disk.history s.disk in
    let new = g.D.Disk.history c.bring_anew_with-brought.new.disk in
    let left = g.S.Source.left c.args.source.now in
    let left_now = g.S.Source.left c.bring_anew_with-brought.new.source in
    let room = c.in-Some.reserved.pages in
    let table = c.bring_anew_with-brought.result.1.sums.sums in
    let b : BringsAnew (g.D.Disk.honest s.disk) left left_now h room s.entries.items table (brought.Whole c.in-Whole.outline c.in-Whole.wal) new =
    subst (λ (es : List Entry). BringsAnew (g.D.Disk.honest s.disk) left left_now h room es table (brought.Whole c.in-Whole.outline c.in-Whole.wal) new) c.as_slice.ensures.value
    (subst (λ (x : Brought). BringsAnew (g.D.Disk.honest s.disk) left left_now h room c.as_slice.result.now table x new) c.in-Whole.is c.bring_anew_with-brought.ensures.brings) in
    let file = as_file c.in-Whole.outline b.0 in
    let kept : IsStore h s.page_size s.commit s.entries.items s.dropped s.sums.sums false s.whole s.tried =
    subst (λ (x : Bool). IsStore h s.page_size s.commit s.entries.items s.dropped s.sums.sums x s.whole s.tried) c.if-store.false (s.kept honest) in
    (file, b.1.gave, refl, rw (c.push_reserved.ensures.items, c.before-in-Whole.ensures b.0, c.clear.ensures.items, c.if-store.false) (went_from h s.page_size s.commit s.entries.items s.dropped s.sums.sums s.whole s.tried s.shaped kept left left_now room file b.1 b.2 (g.D.Disk.honest s.disk) honest new b.4))

pub invariant_of-store-in-Refused : goal.invariant_of-store-in-Refused
invariant_of-store-in-Refused g c =
    let s = c.args.store.now in
    let h = g.D.Disk.history s.disk in
    let new = g.D.Disk.history c.bring_anew_with-brought.new.disk in
    let left = g.S.Source.left c.args.source.now in
    let left_now = g.S.Source.left c.bring_anew_with-brought.new.source in
    let room = c.in-Some.reserved.pages in
    let table = c.bring_anew_with-brought.result.1.sums.sums in
    let b : BringsAnew (g.D.Disk.honest s.disk) left left_now h room s.entries.items table (brought.Refused c.in-Refused.fault) new =
    subst (λ (es : List Entry). BringsAnew (g.D.Disk.honest s.disk) left left_now h room es table (brought.Refused c.in-Refused.fault) new) c.as_slice.ensures.value
    (subst (λ (x : Brought). BringsAnew (g.D.Disk.honest s.disk) left left_now h room c.as_slice.result.now table x new) c.in-Refused.is c.bring_anew_with-brought.ensures.brings) in
    record {
      sized = s.sized;
      shaped = s.shaped;
      kept = λ still.
          let honest = sym c.bring_anew_with-brought.ensures.honest ∙ still in
          let kept : IsStore h s.page_size s.commit s.entries.items s.dropped s.sums.sums false s.whole s.tried =
          subst (λ (x : Bool). IsStore h s.page_size s.commit s.entries.items s.dropped s.sums.sums x s.whole s.tried) c.if-store.false (s.kept honest) in
          let quiet = b.2 honest in
          rw (c.if-store.false) (still_kept h new s.page_size s.commit s.entries.items s.dropped s.sums.sums s.whole s.tried s.shaped kept quiet.0 quiet.1 s.whole s.tried);
      left = λ still.
          let honest = sym c.bring_anew_with-brought.ensures.honest ∙ still in
          let kept : IsStore h s.page_size s.commit s.entries.items s.dropped s.sums.sums false s.whole s.tried =
          subst (λ (x : Bool). IsStore h s.page_size s.commit s.entries.items s.dropped s.sums.sums x s.whole s.tried) c.if-store.false (s.kept honest) in
          let quiet = b.2 honest in
          rw (c.if-store.false) (still_left h new s.page_size s.commit s.entries.items s.dropped s.sums.sums s.whole s.tried s.shaped kept quiet.0 quiet.1);
      mode = λ still.
          let honest = sym c.bring_anew_with-brought.ensures.honest ∙ still in
          let kept : IsStore h s.page_size s.commit s.entries.items s.dropped s.sums.sums false s.whole s.tried =
          subst (λ (x : Bool). IsStore h s.page_size s.commit s.entries.items s.dropped s.sums.sums x s.whole s.tried) c.if-store.false (s.kept honest) in
          let quiet = b.2 honest in
          let mode : s.wal ≡ image_is_wal (image_in s.page_size s.commit (now h)) =
          subst (λ (x : Bool). s.wal ≡ image_is_wal (state_of h s.page_size s.commit s.entries.items s.dropped x s.whole).image) c.if-store.false (s.mode honest) in
          rw (c.if-store.false) (still_mode h new s.page_size s.commit s.entries.items s.dropped s.sums.sums s.whole s.tried s.shaped kept quiet.0 quiet.1 s.wal mode);
    }

pub returns-in-Refused-clause-installs : goal.returns-in-Refused-clause-installs
returns-in-Refused-clause-installs g c =
    let s = c.args.store.now in
    let h = g.D.Disk.history s.disk in
    let new = g.D.Disk.history c.bring_anew_with-brought.new.disk in
    let left = g.S.Source.left c.args.source.now in
    let left_now = g.S.Source.left c.bring_anew_with-brought.new.source in
    let room = c.in-Some.reserved.pages in
    let table = c.bring_anew_with-brought.result.1.sums.sums in
    let b : BringsAnew (g.D.Disk.honest s.disk) left left_now h room s.entries.items table (brought.Refused c.in-Refused.fault) new =
    subst (λ (es : List Entry). BringsAnew (g.D.Disk.honest s.disk) left left_now h room es table (brought.Refused c.in-Refused.fault) new) c.as_slice.ensures.value
    (subst (λ (x : Brought). BringsAnew (g.D.Disk.honest s.disk) left left_now h room c.as_slice.result.now table x new) c.in-Refused.is c.bring_anew_with-brought.ensures.brings) in
    let same : spare_in s.decoder ≡ room = ap spare_in (sym c.take.ensures.value ∙ c.in-Some.is) in
    subst (λ (n : ℕ). RefusesInstall left left_now n s.broken c.in-Refused.fault) (sym same)
    (subst (λ (x : Bool). RefusesInstall left left_now room x c.in-Refused.fault) (sym c.if-store.false) b.1)

pub returns-in-Refused-clause-went : goal.returns-in-Refused-clause-went
returns-in-Refused-clause-went g c honest =
    let s = c.args.store.now in
    let h = g.D.Disk.history s.disk in
    let new = g.D.Disk.history c.bring_anew_with-brought.new.disk in
    let left = g.S.Source.left c.args.source.now in
    let left_now = g.S.Source.left c.bring_anew_with-brought.new.source in
    let room = c.in-Some.reserved.pages in
    let table = c.bring_anew_with-brought.result.1.sums.sums in
    let b : BringsAnew (g.D.Disk.honest s.disk) left left_now h room s.entries.items table (brought.Refused c.in-Refused.fault) new =
    subst (λ (es : List Entry). BringsAnew (g.D.Disk.honest s.disk) left left_now h room es table (brought.Refused c.in-Refused.fault) new) c.as_slice.ensures.value
    (subst (λ (x : Brought). BringsAnew (g.D.Disk.honest s.disk) left left_now h room c.as_slice.result.now table x new) c.in-Refused.is c.bring_anew_with-brought.ensures.brings) in
    let kept : IsStore h s.page_size s.commit s.entries.items s.dropped s.sums.sums false s.whole s.tried =
    subst (λ (x : Bool). IsStore h s.page_size s.commit s.entries.items s.dropped s.sums.sums x s.whole s.tried) c.if-store.false (s.kept honest) in
    let quiet = b.2 honest in
    refused_went left left_now _ _ h c.in-Refused.fault _ _ new b.0 (rw (c.if-store.false) (went_nowhere h new s.page_size s.commit s.entries.items s.dropped s.sums.sums s.whole s.tried s.shaped kept quiet.0 quiet.1))

pub invariant_of-store-in-Unpublished : goal.invariant_of-store-in-Unpublished
invariant_of-store-in-Unpublished g c =
    let s = c.args.store.now in
    let h = g.D.Disk.history s.disk in
    let new = g.D.Disk.history c.bring_anew_with-brought.new.disk in
    let left = g.S.Source.left c.args.source.now in
    let left_now = g.S.Source.left c.bring_anew_with-brought.new.source in
    let room = c.in-Some.reserved.pages in
    let table = c.bring_anew_with-brought.result.1.sums.sums in
    let b : BringsAnew (g.D.Disk.honest s.disk) left left_now h room s.entries.items table (brought.Unpublished) new =
    subst (λ (es : List Entry). BringsAnew (g.D.Disk.honest s.disk) left left_now h room es table (brought.Unpublished) new) c.as_slice.ensures.value
    (subst (λ (x : Brought). BringsAnew (g.D.Disk.honest s.disk) left left_now h room c.as_slice.result.now table x new) c.in-Unpublished.is c.bring_anew_with-brought.ensures.brings) in
    record {
      sized = s.sized;
      shaped = s.shaped;
      kept = λ still.
          let honest = sym c.bring_anew_with-brought.ensures.honest ∙ still in
          let kept : IsStore h s.page_size s.commit s.entries.items s.dropped s.sums.sums false s.whole s.tried =
          subst (λ (x : Bool). IsStore h s.page_size s.commit s.entries.items s.dropped s.sums.sums x s.whole s.tried) c.if-store.false (s.kept honest) in
          let places = b honest (image h s.page_size s.commit s.entries.items s.dropped s.sums.sums s.whole s.tried s.shaped kept) (files h s.page_size s.commit s.entries.items s.dropped s.sums.sums s.whole s.tried s.shaped kept) s.dropped (over_log h s.page_size s.commit s.entries.items s.dropped s.sums.sums s.whole s.tried s.shaped kept) in
          rw (c.moment-start.ensures) (broken s.page_size s.commit s.entries.items s.dropped s.sums.sums h new places.past s.whole s.tried h.moment places.later places.later kept);
      left = λ still.
          let honest = sym c.bring_anew_with-brought.ensures.honest ∙ still in
          let kept : IsStore h s.page_size s.commit s.entries.items s.dropped s.sums.sums false s.whole s.tried =
          subst (λ (x : Bool). IsStore h s.page_size s.commit s.entries.items s.dropped s.sums.sums x s.whole s.tried) c.if-store.false (s.kept honest) in
          let places = b honest (image h s.page_size s.commit s.entries.items s.dropped s.sums.sums s.whole s.tried s.shaped kept) (files h s.page_size s.commit s.entries.items s.dropped s.sums.sums s.whole s.tried s.shaped kept) s.dropped (over_log h s.page_size s.commit s.entries.items s.dropped s.sums.sums s.whole s.tried s.shaped kept) in
          rw (c.moment-start.ensures) (left_before h s.page_size s.commit s.entries.items s.dropped s.sums.sums s.whole s.tried s.shaped kept new places);
      mode = λ still.
          let honest = sym c.bring_anew_with-brought.ensures.honest ∙ still in
          let kept : IsStore h s.page_size s.commit s.entries.items s.dropped s.sums.sums false s.whole s.tried =
          subst (λ (x : Bool). IsStore h s.page_size s.commit s.entries.items s.dropped s.sums.sums x s.whole s.tried) c.if-store.false (s.kept honest) in
          let places = b honest (image h s.page_size s.commit s.entries.items s.dropped s.sums.sums s.whole s.tried s.shaped kept) (files h s.page_size s.commit s.entries.items s.dropped s.sums.sums s.whole s.tried s.shaped kept) s.dropped (over_log h s.page_size s.commit s.entries.items s.dropped s.sums.sums s.whole s.tried s.shaped kept) in
          let mode : s.wal ≡ image_is_wal (image_in s.page_size s.commit (now h)) =
          subst (λ (x : Bool). s.wal ≡ image_is_wal (state_of h s.page_size s.commit s.entries.items s.dropped x s.whole).image) c.if-store.false (s.mode honest) in
          rw (c.moment-start.ensures) (mode_before s.page_size s.commit s.entries.items s.dropped s.sums.sums h new places.past s.wal mode);
    }

pub returns-in-Unpublished-clause-went : goal.returns-in-Unpublished-clause-went
returns-in-Unpublished-clause-went g c honest =
    let s = c.args.store.now in
    let h = g.D.Disk.history s.disk in
    let new = g.D.Disk.history c.bring_anew_with-brought.new.disk in
    let left = g.S.Source.left c.args.source.now in
    let left_now = g.S.Source.left c.bring_anew_with-brought.new.source in
    let room = c.in-Some.reserved.pages in
    let table = c.bring_anew_with-brought.result.1.sums.sums in
    let b : BringsAnew (g.D.Disk.honest s.disk) left left_now h room s.entries.items table (brought.Unpublished) new =
    subst (λ (es : List Entry). BringsAnew (g.D.Disk.honest s.disk) left left_now h room es table (brought.Unpublished) new) c.as_slice.ensures.value
    (subst (λ (x : Brought). BringsAnew (g.D.Disk.honest s.disk) left left_now h room c.as_slice.result.now table x new) c.in-Unpublished.is c.bring_anew_with-brought.ensures.brings) in
    let kept : IsStore h s.page_size s.commit s.entries.items s.dropped s.sums.sums false s.whole s.tried =
    subst (λ (x : Bool). IsStore h s.page_size s.commit s.entries.items s.dropped s.sums.sums x s.whole s.tried) c.if-store.false (s.kept honest) in
    let places = b honest (image h s.page_size s.commit s.entries.items s.dropped s.sums.sums s.whole s.tried s.shaped kept) (files h s.page_size s.commit s.entries.items s.dropped s.sums.sums s.whole s.tried s.shaped kept) s.dropped (over_log h s.page_size s.commit s.entries.items s.dropped s.sums.sums s.whole s.tried s.shaped kept) in
    rw (c.moment-start.ensures, c.if-store.false) (inl (went_before h s.page_size s.commit s.entries.items s.dropped s.sums.sums s.whole s.tried s.shaped kept new places))

pub invariant_of-store-in-From : goal.invariant_of-store-in-From
invariant_of-store-in-From g c =
    let s = c.args.store.now in
    let h = g.D.Disk.history s.disk in
    let new = g.D.Disk.history c.bring_anew_with-brought.new.disk in
    let left = g.S.Source.left c.args.source.now in
    let left_now = g.S.Source.left c.bring_anew_with-brought.new.source in
    let room = c.in-Some.reserved.pages in
    let table = c.bring_anew_with-brought.result.1.sums.sums in
    let b : BringsAnew (g.D.Disk.honest s.disk) left left_now h room s.entries.items table (brought.From c.in-From.tried) new =
    subst (λ (es : List Entry). BringsAnew (g.D.Disk.honest s.disk) left left_now h room es table (brought.From c.in-From.tried) new) c.as_slice.ensures.value
    (subst (λ (x : Brought). BringsAnew (g.D.Disk.honest s.disk) left left_now h room c.as_slice.result.now table x new) c.in-From.is c.bring_anew_with-brought.ensures.brings) in
    record {
      sized = s.sized;
      shaped = s.shaped;
      kept = λ still.
          let honest = sym c.bring_anew_with-brought.ensures.honest ∙ still in
          let kept : IsStore h s.page_size s.commit s.entries.items s.dropped s.sums.sums false s.whole s.tried =
          subst (λ (x : Bool). IsStore h s.page_size s.commit s.entries.items s.dropped s.sums.sums x s.whole s.tried) c.if-store.false (s.kept honest) in
          let places = all_in h s.page_size s.commit s.entries.items s.dropped s.sums.sums s.whole s.tried s.shaped kept left left_now room b.0 b.1 b.2 (g.D.Disk.honest s.disk) honest new c.in-From.tried b.3 in
          rw (c.moment-start.ensures) (broken s.page_size s.commit s.entries.items s.dropped s.sums.sums h new places.0.past s.whole s.tried c.in-From.tried places.0.later places.1.past kept);
      left = λ still.
          let honest = sym c.bring_anew_with-brought.ensures.honest ∙ still in
          let kept : IsStore h s.page_size s.commit s.entries.items s.dropped s.sums.sums false s.whole s.tried =
          subst (λ (x : Bool). IsStore h s.page_size s.commit s.entries.items s.dropped s.sums.sums x s.whole s.tried) c.if-store.false (s.kept honest) in
          let P : ℕ → Type 0 = λ w. RestsAs (MayBeFound (state_of new s.page_size s.commit s.entries.items s.dropped true w) (Some (failure_of new c.in-From.tried attempt.Install))) new in
          subst (λ (w : ℕ). P w) (sym c.moment-start.ensures) (left_in_from h s.page_size s.commit s.entries.items s.dropped s.sums.sums s.whole s.tried s.shaped kept left left_now room b.0 b.1 b.2 (g.D.Disk.honest s.disk) honest new c.in-From.tried b.3);
      mode = λ still.
          let honest = sym c.bring_anew_with-brought.ensures.honest ∙ still in
          let kept : IsStore h s.page_size s.commit s.entries.items s.dropped s.sums.sums false s.whole s.tried =
          subst (λ (x : Bool). IsStore h s.page_size s.commit s.entries.items s.dropped s.sums.sums x s.whole s.tried) c.if-store.false (s.kept honest) in
          let places = all_in h s.page_size s.commit s.entries.items s.dropped s.sums.sums s.whole s.tried s.shaped kept left left_now room b.0 b.1 b.2 (g.D.Disk.honest s.disk) honest new c.in-From.tried b.3 in
          let mode : s.wal ≡ image_is_wal (image_in s.page_size s.commit (now h)) =
          subst (λ (x : Bool). s.wal ≡ image_is_wal (state_of h s.page_size s.commit s.entries.items s.dropped x s.whole).image) c.if-store.false (s.mode honest) in
          rw (c.moment-start.ensures) (mode_before s.page_size s.commit s.entries.items s.dropped s.sums.sums h new places.0.past s.wal mode);
    }

pub returns-in-From-clause-went : goal.returns-in-From-clause-went
returns-in-From-clause-went g c honest =
    let s = c.args.store.now in
    let h = g.D.Disk.history s.disk in
    let new = g.D.Disk.history c.bring_anew_with-brought.new.disk in
    let left = g.S.Source.left c.args.source.now in
    let left_now = g.S.Source.left c.bring_anew_with-brought.new.source in
    let room = c.in-Some.reserved.pages in
    let table = c.bring_anew_with-brought.result.1.sums.sums in
    let b : BringsAnew (g.D.Disk.honest s.disk) left left_now h room s.entries.items table (brought.From c.in-From.tried) new =
    subst (λ (es : List Entry). BringsAnew (g.D.Disk.honest s.disk) left left_now h room es table (brought.From c.in-From.tried) new) c.as_slice.ensures.value
    (subst (λ (x : Brought). BringsAnew (g.D.Disk.honest s.disk) left left_now h room c.as_slice.result.now table x new) c.in-From.is c.bring_anew_with-brought.ensures.brings) in
    let kept : IsStore h s.page_size s.commit s.entries.items s.dropped s.sums.sums false s.whole s.tried =
    subst (λ (x : Bool). IsStore h s.page_size s.commit s.entries.items s.dropped s.sums.sums x s.whole s.tried) c.if-store.false (s.kept honest) in
    rw (c.moment-start.ensures, c.if-store.false) (inr (b.0, b.1.gave, went_in_from h s.page_size s.commit s.entries.items s.dropped s.sums.sums s.whole s.tried s.shaped kept left left_now room b.0 b.1 b.2 (g.D.Disk.honest s.disk) honest new c.in-From.tried b.3))

pub returns-in-Whole-clause-shape : goal.returns-in-Whole-clause-shape
returns-in-Whole-clause-shape g c =
    let s = c.args.store.now in
    let h = g.D.Disk.history s.disk in
    let new = g.D.Disk.history c.bring_anew_with-brought.new.disk in
    let left = g.S.Source.left c.args.source.now in
    let left_now = g.S.Source.left c.bring_anew_with-brought.new.source in
    let room = c.in-Some.reserved.pages in
    let table = c.bring_anew_with-brought.result.1.sums.sums in
    let b : BringsAnew (g.D.Disk.honest s.disk) left left_now h room s.entries.items table (brought.Whole c.in-Whole.outline c.in-Whole.wal) new =
    subst (λ (es : List Entry). BringsAnew (g.D.Disk.honest s.disk) left left_now h room es table (brought.Whole c.in-Whole.outline c.in-Whole.wal) new) c.as_slice.ensures.value
    (subst (λ (x : Brought). BringsAnew (g.D.Disk.honest s.disk) left left_now h room c.as_slice.result.now table x new) c.in-Whole.is c.bring_anew_with-brought.ensures.brings) in
    (as_file c.in-Whole.outline b.0, b.1.gave, (refl, refl))

pub returns-in-Whole-clause-position : goal.returns-in-Whole-clause-position
returns-in-Whole-clause-position g c = rw (c.push_reserved.ensures.items) (end-push c.clear.new.self.items _)
