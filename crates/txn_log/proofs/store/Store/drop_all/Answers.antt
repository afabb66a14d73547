use Rattle.std.proofs.Common.{◌≡◌, ◌∙◌, [], Bool, true, false, List, inl, inr, refl, sym, subst}
use Rattle.lf_disk.specs.History.{now}
use Rattle.lf_sqlite_pages.specs.Header.{image_is_wal}
use Rattle.txn_log.specs.declared.entry.Entry.{Entry}
use Rattle.world_laws.specs.Store.{MayBeFound}
use Rattle.txn_log.specs.Calls.{RestsAs}
use Rattle.txn_log.specs.Dropping.{NameAll}
use Rattle.txn_log.specs.Store.{IsStore, IsShaped, image_in, files_in, state_of, failed_of}
use Rattle.txn_log.proofs.Cleanings.{unmarked}
use Rattle.txn_log.proofs.Droppings.{some_entries, no_sums, shaped_dropped, sized_dropped, name_all, old_image, left_dropped, stands, went_done, left_in, went_in}
use Rattle.txn_log.proofs.Moves.{moved-none, left_before, went_before}
use Rattle.txn_log.proofs.Stores.{broken, mode_before}
use Rattle.txn_log.proofs.store.Store.drop_all.Goals as goal

pub returns-then-self-clause-went : goal.returns-then-self-clause-went
returns-then-self-clause-went g c honest = moved-none _ _ _ (c.args.self.now.left honest)

pub invariant_of-self-clause-shaped : goal.invariant_of-self-clause-shaped
invariant_of-self-clause-shaped g c = rw (c.clear.ensures.items, c.resize.ensures, no_sums c.args.self.now.sums.sums) shaped_dropped

pub invariant_of-self-clause-sized : goal.invariant_of-self-clause-sized
invariant_of-self-clause-sized g c = sized_dropped

pub invariant_of-self-clause-kept : goal.invariant_of-self-clause-kept
invariant_of-self-clause-kept g c still =
    let honest = sym c.drop_files.ensures.honest ∙ still in
    let s = c.args.self.now in
    let h = g.D.Disk.history s.disk in
    let new = g.D.Disk.history c.drop_files.new.disk in
    let isnt : s.dropped ≡ false = unmarked s.commit s.entries.items s.dropped s.sums.sums s.shaped (some_entries s.entries.items c.requires) in
    let shaped : IsShaped s.commit s.entries.items false s.sums.sums = subst (λ (d : Bool). IsShaped s.commit s.entries.items d s.sums.sums) isnt s.shaped in
    let kept : IsStore h s.page_size s.commit s.entries.items false s.sums.sums false s.whole s.tried =
    subst (λ (d : Bool). IsStore h s.page_size s.commit s.entries.items d s.sums.sums false s.whole s.tried) isnt
    (subst (λ (b : Bool). IsStore h s.page_size s.commit s.entries.items s.dropped s.sums.sums b s.whole s.tried) c.if-self.false (s.kept honest)) in
    let all : NameAll c.as_slice.result.now (files_in s.entries.items (now h)) =
    subst (λ (es : List Entry). NameAll es (files_in s.entries.items (now h))) (sym c.as_slice.ensures.value)
    (name_all h s.page_size s.commit s.entries.items s.sums.sums s.whole s.tried shaped kept c.requires) in
    let drops = c.in-Whole.ensures.drops honest (old_image h s.page_size s.commit s.entries.items s.sums.sums s.whole s.tried shaped kept c.requires) (files_in s.entries.items (now h)) kept.rest all in
    rw (c.clear.ensures.items, c.resize.ensures, no_sums s.sums.sums, c.if-self.false) (stands new drops.1 c.moment-self.result s.tried)

pub invariant_of-self-clause-left : goal.invariant_of-self-clause-left
invariant_of-self-clause-left g c still =
    let honest = sym c.drop_files.ensures.honest ∙ still in
    let s = c.args.self.now in
    let h = g.D.Disk.history s.disk in
    let new = g.D.Disk.history c.drop_files.new.disk in
    let isnt : s.dropped ≡ false = unmarked s.commit s.entries.items s.dropped s.sums.sums s.shaped (some_entries s.entries.items c.requires) in
    let shaped : IsShaped s.commit s.entries.items false s.sums.sums = subst (λ (d : Bool). IsShaped s.commit s.entries.items d s.sums.sums) isnt s.shaped in
    let kept : IsStore h s.page_size s.commit s.entries.items false s.sums.sums false s.whole s.tried =
    subst (λ (d : Bool). IsStore h s.page_size s.commit s.entries.items d s.sums.sums false s.whole s.tried) isnt
    (subst (λ (b : Bool). IsStore h s.page_size s.commit s.entries.items s.dropped s.sums.sums b s.whole s.tried) c.if-self.false (s.kept honest)) in
    let all : NameAll c.as_slice.result.now (files_in s.entries.items (now h)) =
    subst (λ (es : List Entry). NameAll es (files_in s.entries.items (now h))) (sym c.as_slice.ensures.value)
    (name_all h s.page_size s.commit s.entries.items s.sums.sums s.whole s.tried shaped kept c.requires) in
    let drops = c.in-Whole.ensures.drops honest (old_image h s.page_size s.commit s.entries.items s.sums.sums s.whole s.tried shaped kept c.requires) (files_in s.entries.items (now h)) kept.rest all in
    subst (λ (es : List Entry). RestsAs (MayBeFound (state_of new 0 0 es true s.broken c.moment-self.result) (failed_of new s.broken s.attempt s.tried)) new) (sym c.clear.ensures.items)
    (subst (λ (b : Bool). RestsAs (MayBeFound (state_of new 0 0 [] true b c.moment-self.result) (failed_of new b s.attempt s.tried)) new) (sym c.if-self.false) (left_dropped new drops.1))

pub invariant_of-self-clause-mode : goal.invariant_of-self-clause-mode
invariant_of-self-clause-mode g c still = refl

pub invariant_of-self-in-Unpublished : goal.invariant_of-self-in-Unpublished
invariant_of-self-in-Unpublished g c = record {
  shaped = c.args.self.now.shaped;
  sized = c.args.self.now.sized;
  kept = λ still.
      let honest = sym c.drop_files.ensures.honest ∙ still in
      let s = c.args.self.now in
      let h = g.D.Disk.history s.disk in
      let new = g.D.Disk.history c.drop_files.new.disk in
      let isnt : s.dropped ≡ false = unmarked s.commit s.entries.items s.dropped s.sums.sums s.shaped (some_entries s.entries.items c.requires) in
      let shaped : IsShaped s.commit s.entries.items false s.sums.sums = subst (λ (d : Bool). IsShaped s.commit s.entries.items d s.sums.sums) isnt s.shaped in
      let kept : IsStore h s.page_size s.commit s.entries.items false s.sums.sums false s.whole s.tried =
      subst (λ (d : Bool). IsStore h s.page_size s.commit s.entries.items d s.sums.sums false s.whole s.tried) isnt
      (subst (λ (b : Bool). IsStore h s.page_size s.commit s.entries.items s.dropped s.sums.sums b s.whole s.tried) c.if-self.false (s.kept honest)) in
      let all : NameAll c.as_slice.result.now (files_in s.entries.items (now h)) =
      subst (λ (es : List Entry). NameAll es (files_in s.entries.items (now h))) (sym c.as_slice.ensures.value)
      (name_all h s.page_size s.commit s.entries.items s.sums.sums s.whole s.tried shaped kept c.requires) in
      let drops = c.in-Unpublished.ensures.drops honest (old_image h s.page_size s.commit s.entries.items s.sums.sums s.whole s.tried shaped kept c.requires) (files_in s.entries.items (now h)) kept.rest all in
      rw (c.moment-self.ensures, isnt) (broken s.page_size s.commit s.entries.items false s.sums.sums h new drops.past s.whole s.tried h.moment drops.later drops.later kept);
  left = λ still.
      let honest = sym c.drop_files.ensures.honest ∙ still in
      let s = c.args.self.now in
      let h = g.D.Disk.history s.disk in
      let new = g.D.Disk.history c.drop_files.new.disk in
      let isnt : s.dropped ≡ false = unmarked s.commit s.entries.items s.dropped s.sums.sums s.shaped (some_entries s.entries.items c.requires) in
      let shaped : IsShaped s.commit s.entries.items false s.sums.sums = subst (λ (d : Bool). IsShaped s.commit s.entries.items d s.sums.sums) isnt s.shaped in
      let kept : IsStore h s.page_size s.commit s.entries.items false s.sums.sums false s.whole s.tried =
      subst (λ (d : Bool). IsStore h s.page_size s.commit s.entries.items d s.sums.sums false s.whole s.tried) isnt
      (subst (λ (b : Bool). IsStore h s.page_size s.commit s.entries.items s.dropped s.sums.sums b s.whole s.tried) c.if-self.false (s.kept honest)) in
      let all : NameAll c.as_slice.result.now (files_in s.entries.items (now h)) =
      subst (λ (es : List Entry). NameAll es (files_in s.entries.items (now h))) (sym c.as_slice.ensures.value)
      (name_all h s.page_size s.commit s.entries.items s.sums.sums s.whole s.tried shaped kept c.requires) in
      let drops = c.in-Unpublished.ensures.drops honest (old_image h s.page_size s.commit s.entries.items s.sums.sums s.whole s.tried shaped kept c.requires) (files_in s.entries.items (now h)) kept.rest all in
      rw (c.moment-self.ensures, isnt) (left_before h s.page_size s.commit s.entries.items false s.sums.sums s.whole s.tried shaped kept new drops);
  mode = λ still.
      let honest = sym c.drop_files.ensures.honest ∙ still in
      let s = c.args.self.now in
      let h = g.D.Disk.history s.disk in
      let new = g.D.Disk.history c.drop_files.new.disk in
      let isnt : s.dropped ≡ false = unmarked s.commit s.entries.items s.dropped s.sums.sums s.shaped (some_entries s.entries.items c.requires) in
      let shaped : IsShaped s.commit s.entries.items false s.sums.sums = subst (λ (d : Bool). IsShaped s.commit s.entries.items d s.sums.sums) isnt s.shaped in
      let kept : IsStore h s.page_size s.commit s.entries.items false s.sums.sums false s.whole s.tried =
      subst (λ (d : Bool). IsStore h s.page_size s.commit s.entries.items d s.sums.sums false s.whole s.tried) isnt
      (subst (λ (b : Bool). IsStore h s.page_size s.commit s.entries.items s.dropped s.sums.sums b s.whole s.tried) c.if-self.false (s.kept honest)) in
      let all : NameAll c.as_slice.result.now (files_in s.entries.items (now h)) =
      subst (λ (es : List Entry). NameAll es (files_in s.entries.items (now h))) (sym c.as_slice.ensures.value)
      (name_all h s.page_size s.commit s.entries.items s.sums.sums s.whole s.tried shaped kept c.requires) in
      let drops = c.in-Unpublished.ensures.drops honest (old_image h s.page_size s.commit s.entries.items s.sums.sums s.whole s.tried shaped kept c.requires) (files_in s.entries.items (now h)) kept.rest all in
      let mode : s.wal ≡ image_is_wal (image_in s.page_size s.commit (now h)) =
      subst (λ (b : Bool). s.wal ≡ image_is_wal (state_of h s.page_size s.commit s.entries.items s.dropped b s.whole).image) c.if-self.false (s.mode honest) in
      rw (c.moment-self.ensures) (mode_before s.page_size s.commit s.entries.items false s.sums.sums h new drops.past s.wal mode);
}

pub invariant_of-self-in-From : goal.invariant_of-self-in-From
invariant_of-self-in-From g c = record {
  shaped = c.args.self.now.shaped;
  sized = c.args.self.now.sized;
  kept = λ still.
      let honest = sym c.drop_files.ensures.honest ∙ still in
      let s = c.args.self.now in
      let h = g.D.Disk.history s.disk in
      let new = g.D.Disk.history c.drop_files.new.disk in
      let isnt : s.dropped ≡ false = unmarked s.commit s.entries.items s.dropped s.sums.sums s.shaped (some_entries s.entries.items c.requires) in
      let shaped : IsShaped s.commit s.entries.items false s.sums.sums = subst (λ (d : Bool). IsShaped s.commit s.entries.items d s.sums.sums) isnt s.shaped in
      let kept : IsStore h s.page_size s.commit s.entries.items false s.sums.sums false s.whole s.tried =
      subst (λ (d : Bool). IsStore h s.page_size s.commit s.entries.items d s.sums.sums false s.whole s.tried) isnt
      (subst (λ (b : Bool). IsStore h s.page_size s.commit s.entries.items s.dropped s.sums.sums b s.whole s.tried) c.if-self.false (s.kept honest)) in
      let all : NameAll c.as_slice.result.now (files_in s.entries.items (now h)) =
      subst (λ (es : List Entry). NameAll es (files_in s.entries.items (now h))) (sym c.as_slice.ensures.value)
      (name_all h s.page_size s.commit s.entries.items s.sums.sums s.whole s.tried shaped kept c.requires) in
      let drops = c.in-From.ensures.drops honest (old_image h s.page_size s.commit s.entries.items s.sums.sums s.whole s.tried shaped kept c.requires) (files_in s.entries.items (now h)) kept.rest all in
      rw (c.moment-self.ensures, isnt) (broken s.page_size s.commit s.entries.items false s.sums.sums h new drops.0.past s.whole s.tried c.in-From.tried drops.0.later drops.1 kept);
  left = λ still.
      let honest = sym c.drop_files.ensures.honest ∙ still in
      let s = c.args.self.now in
      let h = g.D.Disk.history s.disk in
      let new = g.D.Disk.history c.drop_files.new.disk in
      let isnt : s.dropped ≡ false = unmarked s.commit s.entries.items s.dropped s.sums.sums s.shaped (some_entries s.entries.items c.requires) in
      let shaped : IsShaped s.commit s.entries.items false s.sums.sums = subst (λ (d : Bool). IsShaped s.commit s.entries.items d s.sums.sums) isnt s.shaped in
      let kept : IsStore h s.page_size s.commit s.entries.items false s.sums.sums false s.whole s.tried =
      subst (λ (d : Bool). IsStore h s.page_size s.commit s.entries.items d s.sums.sums false s.whole s.tried) isnt
      (subst (λ (b : Bool). IsStore h s.page_size s.commit s.entries.items s.dropped s.sums.sums b s.whole s.tried) c.if-self.false (s.kept honest)) in
      let all : NameAll c.as_slice.result.now (files_in s.entries.items (now h)) =
      subst (λ (es : List Entry). NameAll es (files_in s.entries.items (now h))) (sym c.as_slice.ensures.value)
      (name_all h s.page_size s.commit s.entries.items s.sums.sums s.whole s.tried shaped kept c.requires) in
      let drops = c.in-From.ensures.drops honest (old_image h s.page_size s.commit s.entries.items s.sums.sums s.whole s.tried shaped kept c.requires) (files_in s.entries.items (now h)) kept.rest all in
      rw (c.moment-self.ensures, isnt) (left_in h s.page_size s.commit s.entries.items s.sums.sums s.whole s.tried shaped kept c.requires new drops.0);
  mode = λ still.
      let honest = sym c.drop_files.ensures.honest ∙ still in
      let s = c.args.self.now in
      let h = g.D.Disk.history s.disk in
      let new = g.D.Disk.history c.drop_files.new.disk in
      let isnt : s.dropped ≡ false = unmarked s.commit s.entries.items s.dropped s.sums.sums s.shaped (some_entries s.entries.items c.requires) in
      let shaped : IsShaped s.commit s.entries.items false s.sums.sums = subst (λ (d : Bool). IsShaped s.commit s.entries.items d s.sums.sums) isnt s.shaped in
      let kept : IsStore h s.page_size s.commit s.entries.items false s.sums.sums false s.whole s.tried =
      subst (λ (d : Bool). IsStore h s.page_size s.commit s.entries.items d s.sums.sums false s.whole s.tried) isnt
      (subst (λ (b : Bool). IsStore h s.page_size s.commit s.entries.items s.dropped s.sums.sums b s.whole s.tried) c.if-self.false (s.kept honest)) in
      let all : NameAll c.as_slice.result.now (files_in s.entries.items (now h)) =
      subst (λ (es : List Entry). NameAll es (files_in s.entries.items (now h))) (sym c.as_slice.ensures.value)
      (name_all h s.page_size s.commit s.entries.items s.sums.sums s.whole s.tried shaped kept c.requires) in
      let drops = c.in-From.ensures.drops honest (old_image h s.page_size s.commit s.entries.items s.sums.sums s.whole s.tried shaped kept c.requires) (files_in s.entries.items (now h)) kept.rest all in
      let mode : s.wal ≡ image_is_wal (image_in s.page_size s.commit (now h)) =
      subst (λ (b : Bool). s.wal ≡ image_is_wal (state_of h s.page_size s.commit s.entries.items s.dropped b s.whole).image) c.if-self.false (s.mode honest) in
      rw (c.moment-self.ensures) (mode_before s.page_size s.commit s.entries.items false s.sums.sums h new drops.0.past s.wal mode);
}

pub returns-in-Whole-clause-went : goal.returns-in-Whole-clause-went
returns-in-Whole-clause-went g c honest =
    let s = c.args.self.now in
    let h = g.D.Disk.history s.disk in
    let new = g.D.Disk.history c.drop_files.new.disk in
    let isnt : s.dropped ≡ false = unmarked s.commit s.entries.items s.dropped s.sums.sums s.shaped (some_entries s.entries.items c.requires) in
    let shaped : IsShaped s.commit s.entries.items false s.sums.sums = subst (λ (d : Bool). IsShaped s.commit s.entries.items d s.sums.sums) isnt s.shaped in
    let kept : IsStore h s.page_size s.commit s.entries.items false s.sums.sums false s.whole s.tried =
    subst (λ (d : Bool). IsStore h s.page_size s.commit s.entries.items d s.sums.sums false s.whole s.tried) isnt
    (subst (λ (b : Bool). IsStore h s.page_size s.commit s.entries.items s.dropped s.sums.sums b s.whole s.tried) c.if-self.false (s.kept honest)) in
    let all : NameAll c.as_slice.result.now (files_in s.entries.items (now h)) =
    subst (λ (es : List Entry). NameAll es (files_in s.entries.items (now h))) (sym c.as_slice.ensures.value)
    (name_all h s.page_size s.commit s.entries.items s.sums.sums s.whole s.tried shaped kept c.requires) in
    let drops = c.in-Whole.ensures.drops honest (old_image h s.page_size s.commit s.entries.items s.sums.sums s.whole s.tried shaped kept c.requires) (files_in s.entries.items (now h)) kept.rest all in
    rw (c.clear.ensures.items, c.if-self.false, isnt) (went_done h s.page_size s.commit s.entries.items s.sums.sums s.whole s.tried shaped kept c.requires new drops.0 drops.1)

pub returns-in-Unpublished-clause-went : goal.returns-in-Unpublished-clause-went
returns-in-Unpublished-clause-went g c honest =
    let s = c.args.self.now in
    let h = g.D.Disk.history s.disk in
    let new = g.D.Disk.history c.drop_files.new.disk in
    let isnt : s.dropped ≡ false = unmarked s.commit s.entries.items s.dropped s.sums.sums s.shaped (some_entries s.entries.items c.requires) in
    let shaped : IsShaped s.commit s.entries.items false s.sums.sums = subst (λ (d : Bool). IsShaped s.commit s.entries.items d s.sums.sums) isnt s.shaped in
    let kept : IsStore h s.page_size s.commit s.entries.items false s.sums.sums false s.whole s.tried =
    subst (λ (d : Bool). IsStore h s.page_size s.commit s.entries.items d s.sums.sums false s.whole s.tried) isnt
    (subst (λ (b : Bool). IsStore h s.page_size s.commit s.entries.items s.dropped s.sums.sums b s.whole s.tried) c.if-self.false (s.kept honest)) in
    let all : NameAll c.as_slice.result.now (files_in s.entries.items (now h)) =
    subst (λ (es : List Entry). NameAll es (files_in s.entries.items (now h))) (sym c.as_slice.ensures.value)
    (name_all h s.page_size s.commit s.entries.items s.sums.sums s.whole s.tried shaped kept c.requires) in
    let drops = c.in-Unpublished.ensures.drops honest (old_image h s.page_size s.commit s.entries.items s.sums.sums s.whole s.tried shaped kept c.requires) (files_in s.entries.items (now h)) kept.rest all in
    rw (c.moment-self.ensures, c.if-self.false, isnt) (inl (went_before h s.page_size s.commit s.entries.items false s.sums.sums s.whole s.tried shaped kept new drops))

pub returns-in-From-clause-went : goal.returns-in-From-clause-went
returns-in-From-clause-went g c honest =
    let s = c.args.self.now in
    let h = g.D.Disk.history s.disk in
    let new = g.D.Disk.history c.drop_files.new.disk in
    let isnt : s.dropped ≡ false = unmarked s.commit s.entries.items s.dropped s.sums.sums s.shaped (some_entries s.entries.items c.requires) in
    let shaped : IsShaped s.commit s.entries.items false s.sums.sums = subst (λ (d : Bool). IsShaped s.commit s.entries.items d s.sums.sums) isnt s.shaped in
    let kept : IsStore h s.page_size s.commit s.entries.items false s.sums.sums false s.whole s.tried =
    subst (λ (d : Bool). IsStore h s.page_size s.commit s.entries.items d s.sums.sums false s.whole s.tried) isnt
    (subst (λ (b : Bool). IsStore h s.page_size s.commit s.entries.items s.dropped s.sums.sums b s.whole s.tried) c.if-self.false (s.kept honest)) in
    let all : NameAll c.as_slice.result.now (files_in s.entries.items (now h)) =
    subst (λ (es : List Entry). NameAll es (files_in s.entries.items (now h))) (sym c.as_slice.ensures.value)
    (name_all h s.page_size s.commit s.entries.items s.sums.sums s.whole s.tried shaped kept c.requires) in
    let drops = c.in-From.ensures.drops honest (old_image h s.page_size s.commit s.entries.items s.sums.sums s.whole s.tried shaped kept c.requires) (files_in s.entries.items (now h)) kept.rest all in
    rw (c.moment-self.ensures, c.if-self.false, isnt) (inr (went_in h s.page_size s.commit s.entries.items s.sums.sums s.whole s.tried shaped kept c.requires new drops.0))

pub returns-in-Whole-clause-mark : goal.returns-in-Whole-clause-mark
returns-in-Whole-clause-mark g c honest =
    let s = c.args.self.now in
    let h = g.D.Disk.history s.disk in
    let isnt : s.dropped ≡ false = unmarked s.commit s.entries.items s.dropped s.sums.sums s.shaped (some_entries s.entries.items c.requires) in
    let shaped : IsShaped s.commit s.entries.items false s.sums.sums = subst (λ (d : Bool). IsShaped s.commit s.entries.items d s.sums.sums) isnt s.shaped in
    let kept : IsStore h s.page_size s.commit s.entries.items false s.sums.sums false s.whole s.tried =
    subst (λ (d : Bool). IsStore h s.page_size s.commit s.entries.items d s.sums.sums false s.whole s.tried) isnt
    (subst (λ (b : Bool). IsStore h s.page_size s.commit s.entries.items s.dropped s.sums.sums b s.whole s.tried) c.if-self.false (s.kept honest)) in
    let all : NameAll c.as_slice.result.now (files_in s.entries.items (now h)) =
    subst (λ (es : List Entry). NameAll es (files_in s.entries.items (now h))) (sym c.as_slice.ensures.value)
    (name_all h s.page_size s.commit s.entries.items s.sums.sums s.whole s.tried shaped kept c.requires) in
    let drops = c.in-Whole.ensures.drops honest (old_image h s.page_size s.commit s.entries.items s.sums.sums s.whole s.tried shaped kept c.requires) (files_in s.entries.items (now h)) kept.rest all in
    drops.2
