use Rattle.std.proofs.Common.{◌≡◌, ◌∙◌, ℕ, List, Bool, true, false, Some, inl, inr, refl, sym, ap, subst, arith}
use Rattle.lf_disk.specs.History.{now}
use Rattle.ltx_codec.specs.Format.{IsLtx, file_encoding, no_meaning}
use Rattle.txn_log.specs.Kept.{file_of}
use Rattle.txn_log.specs.Publishing.{CanTake}
use Rattle.lf_sqlite_pages.specs.Header.{image_is_wal}
use Rattle.world_laws.specs.Store.{StoreState, MayBeFound}
use Rattle.txn_log.specs.Calls.{RestsAs}
use Rattle.txn_log.specs.declared.entry.Entry.{Entry}
use Rattle.txn_log.specs.Store.{IsStore, IsSized, image_in, state_in, state_of, failure_of, failed_of}
use Rattle.txn_log.specs.Store.{entry_of as entry}
use Rattle.txn_log.proofs.Moves.{moved-none, is_done, image, files, over, stands, left_done, went_done, left_before, went_before, left_in, went_in, shaped-after}
use Rattle.txn_log.proofs.Entries.{end-push}
use Rattle.txn_log.proofs.Modes.{mode_after}
use Rattle.txn_log.proofs.Stores.{broken, mode_before}
use Rattle.txn_log.proofs.publishing.publish.Goals as goal

pub invariant_of-store-clause-shaped : goal.invariant_of-store-clause-shaped
invariant_of-store-clause-shaped g c = rw (c.reserve.ensures.items) c.args.store.now.shaped

pub invariant_of-store-clause-kept : goal.invariant_of-store-clause-kept
invariant_of-store-clause-kept g c = rw (c.reserve.ensures.items) c.args.store.now.kept

pub invariant_of-store-clause-left : goal.invariant_of-store-clause-left
invariant_of-store-clause-left g c honest =
    let s = c.args.store.now in
    let h = g.D.Disk.history s.disk in
    subst (λ (es : List Entry). RestsAs (MayBeFound (state_of h s.page_size s.commit es s.dropped s.broken s.whole) (failed_of h s.broken s.attempt s.tried)) h)
    (sym c.reserve.ensures.items) (s.left honest)

pub invariant_of-store-clause-mode : goal.invariant_of-store-clause-mode
invariant_of-store-clause-mode g c = c.args.store.now.mode

pub returns-then-is_err-clause-went : goal.returns-then-is_err-clause-went
returns-then-is_err-clause-went g c honest = rw (c.reserve.ensures.items) (moved-none _ _ _ (c.args.store.now.left honest))

pub invariant_of-store-in-Err-clause-shaped : goal.invariant_of-store-in-Err-clause-shaped
invariant_of-store-in-Err-clause-shaped g c = rw (c.reserve.ensures.items, c.in-Err.ensures.err) c.args.store.now.shaped

pub invariant_of-store-in-Err-clause-kept : goal.invariant_of-store-in-Err-clause-kept
invariant_of-store-in-Err-clause-kept g c = rw (c.reserve.ensures.items, c.in-Err.ensures.err) c.args.store.now.kept

pub invariant_of-store-in-Err-clause-left : goal.invariant_of-store-in-Err-clause-left
invariant_of-store-in-Err-clause-left g c honest =
    let s = c.args.store.now in
    let h = g.D.Disk.history s.disk in
    subst (λ (es : List Entry). RestsAs (MayBeFound (state_of h s.page_size s.commit es s.dropped s.broken s.whole) (failed_of h s.broken s.attempt s.tried)) h)
    (sym c.reserve.ensures.items) (s.left honest)

pub invariant_of-store-in-Err-clause-mode : goal.invariant_of-store-in-Err-clause-mode
invariant_of-store-in-Err-clause-mode g c = c.args.store.now.mode

pub returns-in-Err-clause-went : goal.returns-in-Err-clause-went
returns-in-Err-clause-went g c honest = rw (c.reserve.ensures.items) (moved-none _ _ _ (c.args.store.now.left honest))

pub place-requires-clause-settled : goal.place-requires-clause-settled
place-requires-clause-settled g c honest =
    let s = c.args.store.now in
    let h = g.D.Disk.history s.disk in
    (subst (λ (b : Bool). IsStore h s.page_size s.commit s.entries.items s.dropped s.sums.sums b s.whole s.tried) c.requires.open_ (s.kept honest)).rest.settled

pub invariant_of-store-in-Whole : goal.invariant_of-store-in-Whole
invariant_of-store-in-Whole g c = record {
  sized = subst (λ (s : ℕ). IsSized s c.args.file.now.header.commit) c.requires.valid.block.page_size (record { sized = λ _. c.requires.valid.block.pages.of_a_page_size; pages = λ _. c.requires.valid.block.pages.of_a_page_size });
  shaped =
      let s = c.args.store.now in
      let file = c.args.file.now in
      rw (c.push_reserved.ensures.items, c.entry_of.ensures, c.reserve.ensures.items, c.update.ensures, c.in-Ok.ensures.ok)
      (shaped-after s.commit s.entries.items s.sums.sums file (sym c.requires.valid.block.commit) c.requires.valid.header.widths.commit
      (omega (arith, c.requires.valid.header.min, c.requires.valid.header.max)) c.requires.sum);
  kept = λ still.
      let honest = sym c.place.ensures.honest ∙ still in
      let s = c.args.store.now in
      let h = g.D.Disk.history s.disk in
      let new = g.D.Disk.history c.place.new.disk in
      let file = c.args.file.now in
      let encoding : List ℕ = file_encoding file no_meaning in
      let kept : IsStore h s.page_size s.commit s.entries.items s.dropped s.sums.sums false s.whole s.tried =
      subst (λ (b : Bool). IsStore h s.page_size s.commit s.entries.items s.dropped s.sums.sums b s.whole s.tried) c.requires.open_ (s.kept honest) in
      let can : CanTake (state_in s.page_size s.commit s.entries.items s.dropped (now h)) file =
      subst (λ (b : Bool). CanTake (state_of h s.page_size s.commit s.entries.items s.dropped b s.whole) file) c.requires.open_ (c.requires.can honest) in
      let is : IsLtx encoding file = record { valid = c.requires.valid; reserved = no_meaning; room = refl; encoding = refl } in
      let read : file_of encoding ≡ file = c.file_reads_back.ensures in
      let places = c.in-Whole.ensures.places honest (image h s.page_size s.commit s.entries.items s.dropped s.sums.sums s.whole s.tried s.shaped kept) (files h s.page_size s.commit s.entries.items s.dropped s.sums.sums s.whole s.tried s.shaped kept) (over h s.page_size s.commit s.entries.items s.dropped s.sums.sums s.whole s.tried s.shaped kept c.args.attempt file encoding c.requires.publishes can is read) in
      rw (c.push_reserved.ensures.items, c.entry_of.ensures, c.reserve.ensures.items, c.update.ensures, c.in-Ok.ensures.ok, c.requires.open_) (stands h s.page_size s.commit s.entries.items s.dropped s.sums.sums s.whole s.tried s.shaped kept c.args.attempt file encoding c.requires.publishes can is read new places.0 places.1 c.moment-store.result s.tried);
  left = λ still.
      let honest = sym c.place.ensures.honest ∙ still in
      let s = c.args.store.now in
      let h = g.D.Disk.history s.disk in
      let new = g.D.Disk.history c.place.new.disk in
      let file = c.args.file.now in
      let encoding : List ℕ = file_encoding file no_meaning in
      let kept : IsStore h s.page_size s.commit s.entries.items s.dropped s.sums.sums false s.whole s.tried =
      subst (λ (b : Bool). IsStore h s.page_size s.commit s.entries.items s.dropped s.sums.sums b s.whole s.tried) c.requires.open_ (s.kept honest) in
      let can : CanTake (state_in s.page_size s.commit s.entries.items s.dropped (now h)) file =
      subst (λ (b : Bool). CanTake (state_of h s.page_size s.commit s.entries.items s.dropped b s.whole) file) c.requires.open_ (c.requires.can honest) in
      let is : IsLtx encoding file = record { valid = c.requires.valid; reserved = no_meaning; room = refl; encoding = refl } in
      let read : file_of encoding ≡ file = c.file_reads_back.ensures in
      let places = c.in-Whole.ensures.places honest (image h s.page_size s.commit s.entries.items s.dropped s.sums.sums s.whole s.tried s.shaped kept) (files h s.page_size s.commit s.entries.items s.dropped s.sums.sums s.whole s.tried s.shaped kept) (over h s.page_size s.commit s.entries.items s.dropped s.sums.sums s.whole s.tried s.shaped kept c.args.attempt file encoding c.requires.publishes can is read) in
      rw (c.push_reserved.ensures.items, c.entry_of.ensures, c.reserve.ensures.items, c.requires.open_) (left_done h s.page_size s.commit s.entries.items s.dropped s.sums.sums s.whole s.tried s.shaped kept c.args.attempt file encoding c.requires.publishes can is read new places.0 places.1);
  mode = λ still.
      let honest = sym c.place.ensures.honest ∙ still in
      let s = c.args.store.now in
      let h = g.D.Disk.history s.disk in
      let new = g.D.Disk.history c.place.new.disk in
      let file = c.args.file.now in
      let encoding : List ℕ = file_encoding file no_meaning in
      let kept : IsStore h s.page_size s.commit s.entries.items s.dropped s.sums.sums false s.whole s.tried =
      subst (λ (b : Bool). IsStore h s.page_size s.commit s.entries.items s.dropped s.sums.sums b s.whole s.tried) c.requires.open_ (s.kept honest) in
      let can : CanTake (state_in s.page_size s.commit s.entries.items s.dropped (now h)) file =
      subst (λ (b : Bool). CanTake (state_of h s.page_size s.commit s.entries.items s.dropped b s.whole) file) c.requires.open_ (c.requires.can honest) in
      let is : IsLtx encoding file = record { valid = c.requires.valid; reserved = no_meaning; room = refl; encoding = refl } in
      let read : file_of encoding ≡ file = c.file_reads_back.ensures in
      let places = c.in-Whole.ensures.places honest (image h s.page_size s.commit s.entries.items s.dropped s.sums.sums s.whole s.tried s.shaped kept) (files h s.page_size s.commit s.entries.items s.dropped s.sums.sums s.whole s.tried s.shaped kept) (over h s.page_size s.commit s.entries.items s.dropped s.sums.sums s.whole s.tried s.shaped kept c.args.attempt file encoding c.requires.publishes can is read) in
      let mode : s.wal ≡ image_is_wal (image_in s.page_size s.commit (now h)) =
      subst (λ (b : Bool). s.wal ≡ image_is_wal (state_of h s.page_size s.commit s.entries.items s.dropped b s.whole).image) c.requires.open_ (s.mode honest) in
      rw (c.wal_after-store.ensures, c.requires.open_)
      (mode_after (image h s.page_size s.commit s.entries.items s.dropped s.sums.sums s.whole s.tried s.shaped kept) s.wal file.change c.requires.valid.block.pages.of_a_page_size can.complete mode
      ∙ ap (λ (st : StoreState). image_is_wal st.image) (sym (is_done h s.page_size s.commit s.entries.items s.dropped s.sums.sums s.whole s.tried s.shaped kept c.args.attempt file encoding c.requires.publishes can is read new places.0 places.1)));
}

pub returns-in-Whole-clause-went : goal.returns-in-Whole-clause-went
returns-in-Whole-clause-went g c honest =
    let s = c.args.store.now in
    let h = g.D.Disk.history s.disk in
    let new = g.D.Disk.history c.place.new.disk in
    let file = c.args.file.now in
    let encoding : List ℕ = file_encoding file no_meaning in
    let kept : IsStore h s.page_size s.commit s.entries.items s.dropped s.sums.sums false s.whole s.tried =
    subst (λ (b : Bool). IsStore h s.page_size s.commit s.entries.items s.dropped s.sums.sums b s.whole s.tried) c.requires.open_ (s.kept honest) in
    let can : CanTake (state_in s.page_size s.commit s.entries.items s.dropped (now h)) file =
    subst (λ (b : Bool). CanTake (state_of h s.page_size s.commit s.entries.items s.dropped b s.whole) file) c.requires.open_ (c.requires.can honest) in
    let is : IsLtx encoding file = record { valid = c.requires.valid; reserved = no_meaning; room = refl; encoding = refl } in
    let read : file_of encoding ≡ file = c.file_reads_back.ensures in
    let places = c.in-Whole.ensures.places honest (image h s.page_size s.commit s.entries.items s.dropped s.sums.sums s.whole s.tried s.shaped kept) (files h s.page_size s.commit s.entries.items s.dropped s.sums.sums s.whole s.tried s.shaped kept) (over h s.page_size s.commit s.entries.items s.dropped s.sums.sums s.whole s.tried s.shaped kept c.args.attempt file encoding c.requires.publishes can is read) in
    rw (c.push_reserved.ensures.items, c.entry_of.ensures, c.reserve.ensures.items, c.requires.open_) (went_done h s.page_size s.commit s.entries.items s.dropped s.sums.sums s.whole s.tried s.shaped kept c.args.attempt file encoding c.requires.publishes can is read new places.0 places.1)

pub invariant_of-store-in-Unpublished : goal.invariant_of-store-in-Unpublished
invariant_of-store-in-Unpublished g c = record {
  sized = c.args.store.now.sized;
  shaped = rw (c.reserve.ensures.items, c.in-Ok.ensures.ok) c.args.store.now.shaped;
  kept = λ still.
      let honest = sym c.place.ensures.honest ∙ still in
      let s = c.args.store.now in
      let h = g.D.Disk.history s.disk in
      let new = g.D.Disk.history c.place.new.disk in
      let file = c.args.file.now in
      let encoding : List ℕ = file_encoding file no_meaning in
      let kept : IsStore h s.page_size s.commit s.entries.items s.dropped s.sums.sums false s.whole s.tried =
      subst (λ (b : Bool). IsStore h s.page_size s.commit s.entries.items s.dropped s.sums.sums b s.whole s.tried) c.requires.open_ (s.kept honest) in
      let can : CanTake (state_in s.page_size s.commit s.entries.items s.dropped (now h)) file =
      subst (λ (b : Bool). CanTake (state_of h s.page_size s.commit s.entries.items s.dropped b s.whole) file) c.requires.open_ (c.requires.can honest) in
      let is : IsLtx encoding file = record { valid = c.requires.valid; reserved = no_meaning; room = refl; encoding = refl } in
      let read : file_of encoding ≡ file = c.file_reads_back.ensures in
      let places = c.in-Unpublished.ensures.places honest (image h s.page_size s.commit s.entries.items s.dropped s.sums.sums s.whole s.tried s.shaped kept) (files h s.page_size s.commit s.entries.items s.dropped s.sums.sums s.whole s.tried s.shaped kept) (over h s.page_size s.commit s.entries.items s.dropped s.sums.sums s.whole s.tried s.shaped kept c.args.attempt file encoding c.requires.publishes can is read) in
      rw (c.reserve.ensures.items, c.in-Ok.ensures.ok, c.moment-store.ensures)
      (broken s.page_size s.commit s.entries.items s.dropped s.sums.sums h new places.past s.whole s.tried h.moment places.later places.later kept);
  left = λ still.
      let honest = sym c.place.ensures.honest ∙ still in
      let s = c.args.store.now in
      let h = g.D.Disk.history s.disk in
      let new = g.D.Disk.history c.place.new.disk in
      let file = c.args.file.now in
      let encoding : List ℕ = file_encoding file no_meaning in
      let kept : IsStore h s.page_size s.commit s.entries.items s.dropped s.sums.sums false s.whole s.tried =
      subst (λ (b : Bool). IsStore h s.page_size s.commit s.entries.items s.dropped s.sums.sums b s.whole s.tried) c.requires.open_ (s.kept honest) in
      let can : CanTake (state_in s.page_size s.commit s.entries.items s.dropped (now h)) file =
      subst (λ (b : Bool). CanTake (state_of h s.page_size s.commit s.entries.items s.dropped b s.whole) file) c.requires.open_ (c.requires.can honest) in
      let is : IsLtx encoding file = record { valid = c.requires.valid; reserved = no_meaning; room = refl; encoding = refl } in
      let read : file_of encoding ≡ file = c.file_reads_back.ensures in
      let places = c.in-Unpublished.ensures.places honest (image h s.page_size s.commit s.entries.items s.dropped s.sums.sums s.whole s.tried s.shaped kept) (files h s.page_size s.commit s.entries.items s.dropped s.sums.sums s.whole s.tried s.shaped kept) (over h s.page_size s.commit s.entries.items s.dropped s.sums.sums s.whole s.tried s.shaped kept c.args.attempt file encoding c.requires.publishes can is read) in
      rw (c.reserve.ensures.items, c.moment-store.ensures) (left_before h s.page_size s.commit s.entries.items s.dropped s.sums.sums s.whole s.tried s.shaped kept new places);
  mode = λ still.
      let honest = sym c.place.ensures.honest ∙ still in
      let s = c.args.store.now in
      let h = g.D.Disk.history s.disk in
      let new = g.D.Disk.history c.place.new.disk in
      let file = c.args.file.now in
      let encoding : List ℕ = file_encoding file no_meaning in
      let kept : IsStore h s.page_size s.commit s.entries.items s.dropped s.sums.sums false s.whole s.tried =
      subst (λ (b : Bool). IsStore h s.page_size s.commit s.entries.items s.dropped s.sums.sums b s.whole s.tried) c.requires.open_ (s.kept honest) in
      let can : CanTake (state_in s.page_size s.commit s.entries.items s.dropped (now h)) file =
      subst (λ (b : Bool). CanTake (state_of h s.page_size s.commit s.entries.items s.dropped b s.whole) file) c.requires.open_ (c.requires.can honest) in
      let is : IsLtx encoding file = record { valid = c.requires.valid; reserved = no_meaning; room = refl; encoding = refl } in
      let read : file_of encoding ≡ file = c.file_reads_back.ensures in
      let places = c.in-Unpublished.ensures.places honest (image h s.page_size s.commit s.entries.items s.dropped s.sums.sums s.whole s.tried s.shaped kept) (files h s.page_size s.commit s.entries.items s.dropped s.sums.sums s.whole s.tried s.shaped kept) (over h s.page_size s.commit s.entries.items s.dropped s.sums.sums s.whole s.tried s.shaped kept c.args.attempt file encoding c.requires.publishes can is read) in
      let mode : s.wal ≡ image_is_wal (image_in s.page_size s.commit (now h)) =
      subst (λ (b : Bool). s.wal ≡ image_is_wal (state_of h s.page_size s.commit s.entries.items s.dropped b s.whole).image) c.requires.open_ (s.mode honest) in
      rw (c.moment-store.ensures) (mode_before s.page_size s.commit s.entries.items s.dropped s.sums.sums h new places.past s.wal mode);
}

pub returns-in-Unpublished-clause-went : goal.returns-in-Unpublished-clause-went
returns-in-Unpublished-clause-went g c honest =
    let s = c.args.store.now in
    let h = g.D.Disk.history s.disk in
    let new = g.D.Disk.history c.place.new.disk in
    let file = c.args.file.now in
    let encoding : List ℕ = file_encoding file no_meaning in
    let kept : IsStore h s.page_size s.commit s.entries.items s.dropped s.sums.sums false s.whole s.tried =
    subst (λ (b : Bool). IsStore h s.page_size s.commit s.entries.items s.dropped s.sums.sums b s.whole s.tried) c.requires.open_ (s.kept honest) in
    let can : CanTake (state_in s.page_size s.commit s.entries.items s.dropped (now h)) file =
    subst (λ (b : Bool). CanTake (state_of h s.page_size s.commit s.entries.items s.dropped b s.whole) file) c.requires.open_ (c.requires.can honest) in
    let is : IsLtx encoding file = record { valid = c.requires.valid; reserved = no_meaning; room = refl; encoding = refl } in
    let read : file_of encoding ≡ file = c.file_reads_back.ensures in
    let places = c.in-Unpublished.ensures.places honest (image h s.page_size s.commit s.entries.items s.dropped s.sums.sums s.whole s.tried s.shaped kept) (files h s.page_size s.commit s.entries.items s.dropped s.sums.sums s.whole s.tried s.shaped kept) (over h s.page_size s.commit s.entries.items s.dropped s.sums.sums s.whole s.tried s.shaped kept c.args.attempt file encoding c.requires.publishes can is read) in
    rw (c.reserve.ensures.items, c.moment-store.ensures, c.requires.open_) (inl (went_before h s.page_size s.commit s.entries.items s.dropped s.sums.sums s.whole s.tried s.shaped kept new places))

pub invariant_of-store-in-From : goal.invariant_of-store-in-From
invariant_of-store-in-From g c = record {
  sized = c.args.store.now.sized;
  shaped = rw (c.reserve.ensures.items, c.in-Ok.ensures.ok) c.args.store.now.shaped;
  kept = λ still.
      let honest = sym c.place.ensures.honest ∙ still in
      let s = c.args.store.now in
      let h = g.D.Disk.history s.disk in
      let new = g.D.Disk.history c.place.new.disk in
      let file = c.args.file.now in
      let encoding : List ℕ = file_encoding file no_meaning in
      let kept : IsStore h s.page_size s.commit s.entries.items s.dropped s.sums.sums false s.whole s.tried =
      subst (λ (b : Bool). IsStore h s.page_size s.commit s.entries.items s.dropped s.sums.sums b s.whole s.tried) c.requires.open_ (s.kept honest) in
      let can : CanTake (state_in s.page_size s.commit s.entries.items s.dropped (now h)) file =
      subst (λ (b : Bool). CanTake (state_of h s.page_size s.commit s.entries.items s.dropped b s.whole) file) c.requires.open_ (c.requires.can honest) in
      let is : IsLtx encoding file = record { valid = c.requires.valid; reserved = no_meaning; room = refl; encoding = refl } in
      let read : file_of encoding ≡ file = c.file_reads_back.ensures in
      let places = c.in-From.ensures.places honest (image h s.page_size s.commit s.entries.items s.dropped s.sums.sums s.whole s.tried s.shaped kept) (files h s.page_size s.commit s.entries.items s.dropped s.sums.sums s.whole s.tried s.shaped kept) (over h s.page_size s.commit s.entries.items s.dropped s.sums.sums s.whole s.tried s.shaped kept c.args.attempt file encoding c.requires.publishes can is read) in
      rw (c.reserve.ensures.items, c.in-Ok.ensures.ok, c.moment-store.ensures)
      (broken s.page_size s.commit s.entries.items s.dropped s.sums.sums h new places.0.past s.whole s.tried c.in-From.tried places.0.later places.1.past kept);
  left = λ still.
      let honest = sym c.place.ensures.honest ∙ still in
      let s = c.args.store.now in
      let h = g.D.Disk.history s.disk in
      let new = g.D.Disk.history c.place.new.disk in
      let file = c.args.file.now in
      let encoding : List ℕ = file_encoding file no_meaning in
      let kept : IsStore h s.page_size s.commit s.entries.items s.dropped s.sums.sums false s.whole s.tried =
      subst (λ (b : Bool). IsStore h s.page_size s.commit s.entries.items s.dropped s.sums.sums b s.whole s.tried) c.requires.open_ (s.kept honest) in
      let can : CanTake (state_in s.page_size s.commit s.entries.items s.dropped (now h)) file =
      subst (λ (b : Bool). CanTake (state_of h s.page_size s.commit s.entries.items s.dropped b s.whole) file) c.requires.open_ (c.requires.can honest) in
      let is : IsLtx encoding file = record { valid = c.requires.valid; reserved = no_meaning; room = refl; encoding = refl } in
      let read : file_of encoding ≡ file = c.file_reads_back.ensures in
      let places = c.in-From.ensures.places honest (image h s.page_size s.commit s.entries.items s.dropped s.sums.sums s.whole s.tried s.shaped kept) (files h s.page_size s.commit s.entries.items s.dropped s.sums.sums s.whole s.tried s.shaped kept) (over h s.page_size s.commit s.entries.items s.dropped s.sums.sums s.whole s.tried s.shaped kept c.args.attempt file encoding c.requires.publishes can is read) in
      let P : List Entry → ℕ → Type 0 = λ es w. RestsAs (MayBeFound (state_of new s.page_size s.commit es s.dropped true w) (Some (failure_of new c.in-From.tried c.args.attempt))) new in
      subst (λ (es : List Entry). P es c.moment-store.result) (sym c.reserve.ensures.items) (subst (λ (w : ℕ). P s.entries.items w) (sym c.moment-store.ensures)
      (left_in h s.page_size s.commit s.entries.items s.dropped s.sums.sums s.whole s.tried s.shaped kept c.args.attempt file encoding c.requires.publishes can is read new c.in-From.tried places.0 places.1));
  mode = λ still.
      let honest = sym c.place.ensures.honest ∙ still in
      let s = c.args.store.now in
      let h = g.D.Disk.history s.disk in
      let new = g.D.Disk.history c.place.new.disk in
      let file = c.args.file.now in
      let encoding : List ℕ = file_encoding file no_meaning in
      let kept : IsStore h s.page_size s.commit s.entries.items s.dropped s.sums.sums false s.whole s.tried =
      subst (λ (b : Bool). IsStore h s.page_size s.commit s.entries.items s.dropped s.sums.sums b s.whole s.tried) c.requires.open_ (s.kept honest) in
      let can : CanTake (state_in s.page_size s.commit s.entries.items s.dropped (now h)) file =
      subst (λ (b : Bool). CanTake (state_of h s.page_size s.commit s.entries.items s.dropped b s.whole) file) c.requires.open_ (c.requires.can honest) in
      let is : IsLtx encoding file = record { valid = c.requires.valid; reserved = no_meaning; room = refl; encoding = refl } in
      let read : file_of encoding ≡ file = c.file_reads_back.ensures in
      let places = c.in-From.ensures.places honest (image h s.page_size s.commit s.entries.items s.dropped s.sums.sums s.whole s.tried s.shaped kept) (files h s.page_size s.commit s.entries.items s.dropped s.sums.sums s.whole s.tried s.shaped kept) (over h s.page_size s.commit s.entries.items s.dropped s.sums.sums s.whole s.tried s.shaped kept c.args.attempt file encoding c.requires.publishes can is read) in
      let mode : s.wal ≡ image_is_wal (image_in s.page_size s.commit (now h)) =
      subst (λ (b : Bool). s.wal ≡ image_is_wal (state_of h s.page_size s.commit s.entries.items s.dropped b s.whole).image) c.requires.open_ (s.mode honest) in
      rw (c.moment-store.ensures) (mode_before s.page_size s.commit s.entries.items s.dropped s.sums.sums h new places.0.past s.wal mode);
}

pub returns-in-From-clause-went : goal.returns-in-From-clause-went
returns-in-From-clause-went g c honest =
    let s = c.args.store.now in
    let h = g.D.Disk.history s.disk in
    let new = g.D.Disk.history c.place.new.disk in
    let file = c.args.file.now in
    let encoding : List ℕ = file_encoding file no_meaning in
    let kept : IsStore h s.page_size s.commit s.entries.items s.dropped s.sums.sums false s.whole s.tried =
    subst (λ (b : Bool). IsStore h s.page_size s.commit s.entries.items s.dropped s.sums.sums b s.whole s.tried) c.requires.open_ (s.kept honest) in
    let can : CanTake (state_in s.page_size s.commit s.entries.items s.dropped (now h)) file =
    subst (λ (b : Bool). CanTake (state_of h s.page_size s.commit s.entries.items s.dropped b s.whole) file) c.requires.open_ (c.requires.can honest) in
    let is : IsLtx encoding file = record { valid = c.requires.valid; reserved = no_meaning; room = refl; encoding = refl } in
    let read : file_of encoding ≡ file = c.file_reads_back.ensures in
    let places = c.in-From.ensures.places honest (image h s.page_size s.commit s.entries.items s.dropped s.sums.sums s.whole s.tried s.shaped kept) (files h s.page_size s.commit s.entries.items s.dropped s.sums.sums s.whole s.tried s.shaped kept) (over h s.page_size s.commit s.entries.items s.dropped s.sums.sums s.whole s.tried s.shaped kept c.args.attempt file encoding c.requires.publishes can is read) in
    rw (c.reserve.ensures.items, c.moment-store.ensures, c.requires.open_) (inr (went_in h s.page_size s.commit s.entries.items s.dropped s.sums.sums s.whole s.tried s.shaped kept c.args.attempt file encoding c.requires.publishes can is read new c.in-From.tried places.0 places.1))

pub returns-in-Whole-clause-position : goal.returns-in-Whole-clause-position
returns-in-Whole-clause-position g c =
    rw (c.push_reserved.ensures.items, c.entry_of.ensures) (end-push c.reserve.new.self.items (entry c.args.file.now))
