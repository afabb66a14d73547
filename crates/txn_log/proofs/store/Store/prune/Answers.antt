use Rattle.std.proofs.Common.{◌≡◌, ◌-◌, ◌<◌, ◌∙◌, ℕ, Bool, false, None, List, length, take, inr, sym, ap, subst, arith}
use Rattle.lf_disk.specs.History.{now}
use Rattle.lf_sqlite_pages.specs.Header.{image_is_wal}
use Rattle.txn_log.specs.declared.entry.Entry.{Entry}
use Rattle.world_laws.specs.Store.{MayBeFound}
use Rattle.txn_log.specs.Calls.{RestsAs}
use Rattle.txn_log.specs.Store.{IsStore, IsShaped, image_in, state_in, state_of, failed_of}
use Rattle.txn_log.proofs.Cleanings.{entries-drop, old_image, old_files, first, left_done, went_done, stands, left_in, went_in, went_idle, shaped-drop, unmarked, log_count, mode_after}
use Rattle.txn_log.proofs.Moves.{moved-none}
use Rattle.txn_log.proofs.Stores.{broken, mode_before}
use Rattle.txn_log.proofs.store.Store.prune.Goals as goal

pub returns-then-self-clause-went : goal.returns-then-self-clause-went
returns-then-self-clause-went g c honest = moved-none _ _ _ (c.args.self.now.left honest)

pub returns-then-gone-eq0-clause-went : goal.returns-then-gone-eq0-clause-went
returns-then-gone-eq0-clause-went g c honest =
    let s = c.args.self.now in
    let h = g.D.Disk.history s.disk in
    let left : RestsAs (MayBeFound (state_in s.page_size s.commit s.entries.items s.dropped (now h)) None) h =
    subst (λ (b : Bool). RestsAs (MayBeFound (state_of h s.page_size s.commit s.entries.items s.dropped b s.whole) (failed_of h b s.attempt s.tried)) h) c.if-self.false (s.left honest) in
    let none : length (state_in s.page_size s.commit s.entries.items s.dropped (now h)).log - c.args.keep ≡ 0 =
    omega (arith, log_count s.entries.items (now h), c.saturating_sub-gone.ensures, c.len.ensures, c.if-gone-eq0.true) in
    rw (c.if-self.false) (went_idle (state_in s.page_size s.commit s.entries.items s.dropped (now h)) c.args.keep h c.requires none left)

pub invariant_of-self-in-Ok : goal.invariant_of-self-in-Ok
invariant_of-self-in-Ok g c = record {
  sized = c.args.self.now.sized;
  shaped =
      let s = c.args.self.now in
      let gone : ℕ = c.saturating_sub-gone.result in
      let amount : gone ≡ length s.entries.items - c.args.keep = omega (arith, c.saturating_sub-gone.ensures, c.len.ensures) in
      let fits : gone < length s.entries.items = omega (arith, amount, c.if-gone-eq0.false, c.requires) in
      rw (c.forget_front.ensures) (shaped-drop s.commit s.entries.items s.dropped s.sums.sums gone fits s.shaped);
  kept = λ still.
      let honest = sym c.remove_files.ensures.honest ∙ still in
      let s = c.args.self.now in
      let h = g.D.Disk.history s.disk in
      let new = g.D.Disk.history c.remove_files.new.disk in
      let isnt : s.dropped ≡ false = unmarked s.commit s.entries.items s.dropped s.sums.sums s.shaped (omega (arith, c.saturating_sub-gone.ensures, c.len.ensures, c.if-gone-eq0.false)) in
      let shaped : IsShaped s.commit s.entries.items false s.sums.sums = subst (λ (d : Bool). IsShaped s.commit s.entries.items d s.sums.sums) isnt s.shaped in
      let kept : IsStore h s.page_size s.commit s.entries.items false s.sums.sums false s.whole s.tried =
      subst (λ (d : Bool). IsStore h s.page_size s.commit s.entries.items d s.sums.sums false s.whole s.tried) isnt
      (subst (λ (b : Bool). IsStore h s.page_size s.commit s.entries.items s.dropped s.sums.sums b s.whole s.tried) c.if-self.false (s.kept honest)) in
      let gone : ℕ = c.saturating_sub-gone.result in
      let front : List Entry = c.split_at.result.0.now in
      let taken : front ≡ take gone s.entries.items = c.split_at.ensures.front ∙ ap (λ (es : List Entry). take gone es) c.as_slice.ensures.value in
      let amount : gone ≡ length s.entries.items - c.args.keep = omega (arith, c.saturating_sub-gone.ensures, c.len.ensures) in
      let fits : gone < length s.entries.items = omega (arith, amount, c.if-gone-eq0.false, c.requires) in
      let runs = c.remove_files.ensures.moments honest (old_image h s.page_size s.commit s.entries.items s.sums.sums s.whole s.tried shaped kept front gone c.args.keep taken fits c.requires amount) (old_files h s.page_size s.commit s.entries.items s.sums.sums s.whole s.tried shaped kept front gone c.args.keep taken fits c.requires amount) (first h s.page_size s.commit s.entries.items s.sums.sums s.whole s.tried shaped kept front gone c.args.keep taken fits c.requires amount) in
      let done = c.in-Ok.ensures.done honest (old_image h s.page_size s.commit s.entries.items s.sums.sums s.whole s.tried shaped kept front gone c.args.keep taken fits c.requires amount) (old_files h s.page_size s.commit s.entries.items s.sums.sums s.whole s.tried shaped kept front gone c.args.keep taken fits c.requires amount) (first h s.page_size s.commit s.entries.items s.sums.sums s.whole s.tried shaped kept front gone c.args.keep taken fits c.requires amount) in
      rw (c.forget_front.ensures, c.if-self.false, isnt) (stands h s.page_size s.commit s.entries.items s.sums.sums s.whole s.tried shaped kept front gone c.args.keep taken fits c.requires amount new runs done c.moment-self.result s.tried);
  left = λ still.
      let honest = sym c.remove_files.ensures.honest ∙ still in
      let s = c.args.self.now in
      let h = g.D.Disk.history s.disk in
      let new = g.D.Disk.history c.remove_files.new.disk in
      let isnt : s.dropped ≡ false = unmarked s.commit s.entries.items s.dropped s.sums.sums s.shaped (omega (arith, c.saturating_sub-gone.ensures, c.len.ensures, c.if-gone-eq0.false)) in
      let shaped : IsShaped s.commit s.entries.items false s.sums.sums = subst (λ (d : Bool). IsShaped s.commit s.entries.items d s.sums.sums) isnt s.shaped in
      let kept : IsStore h s.page_size s.commit s.entries.items false s.sums.sums false s.whole s.tried =
      subst (λ (d : Bool). IsStore h s.page_size s.commit s.entries.items d s.sums.sums false s.whole s.tried) isnt
      (subst (λ (b : Bool). IsStore h s.page_size s.commit s.entries.items s.dropped s.sums.sums b s.whole s.tried) c.if-self.false (s.kept honest)) in
      let gone : ℕ = c.saturating_sub-gone.result in
      let front : List Entry = c.split_at.result.0.now in
      let taken : front ≡ take gone s.entries.items = c.split_at.ensures.front ∙ ap (λ (es : List Entry). take gone es) c.as_slice.ensures.value in
      let amount : gone ≡ length s.entries.items - c.args.keep = omega (arith, c.saturating_sub-gone.ensures, c.len.ensures) in
      let fits : gone < length s.entries.items = omega (arith, amount, c.if-gone-eq0.false, c.requires) in
      let runs = c.remove_files.ensures.moments honest (old_image h s.page_size s.commit s.entries.items s.sums.sums s.whole s.tried shaped kept front gone c.args.keep taken fits c.requires amount) (old_files h s.page_size s.commit s.entries.items s.sums.sums s.whole s.tried shaped kept front gone c.args.keep taken fits c.requires amount) (first h s.page_size s.commit s.entries.items s.sums.sums s.whole s.tried shaped kept front gone c.args.keep taken fits c.requires amount) in
      let done = c.in-Ok.ensures.done honest (old_image h s.page_size s.commit s.entries.items s.sums.sums s.whole s.tried shaped kept front gone c.args.keep taken fits c.requires amount) (old_files h s.page_size s.commit s.entries.items s.sums.sums s.whole s.tried shaped kept front gone c.args.keep taken fits c.requires amount) (first h s.page_size s.commit s.entries.items s.sums.sums s.whole s.tried shaped kept front gone c.args.keep taken fits c.requires amount) in
      rw (c.forget_front.ensures, c.if-self.false, isnt) (left_done h s.page_size s.commit s.entries.items s.sums.sums s.whole s.tried shaped kept front gone c.args.keep taken fits c.requires amount new runs done);
  mode = λ still.
      let honest = sym c.remove_files.ensures.honest ∙ still in
      let s = c.args.self.now in
      let h = g.D.Disk.history s.disk in
      let new = g.D.Disk.history c.remove_files.new.disk in
      let isnt : s.dropped ≡ false = unmarked s.commit s.entries.items s.dropped s.sums.sums s.shaped (omega (arith, c.saturating_sub-gone.ensures, c.len.ensures, c.if-gone-eq0.false)) in
      let shaped : IsShaped s.commit s.entries.items false s.sums.sums = subst (λ (d : Bool). IsShaped s.commit s.entries.items d s.sums.sums) isnt s.shaped in
      let kept : IsStore h s.page_size s.commit s.entries.items false s.sums.sums false s.whole s.tried =
      subst (λ (d : Bool). IsStore h s.page_size s.commit s.entries.items d s.sums.sums false s.whole s.tried) isnt
      (subst (λ (b : Bool). IsStore h s.page_size s.commit s.entries.items s.dropped s.sums.sums b s.whole s.tried) c.if-self.false (s.kept honest)) in
      let mode : s.wal ≡ image_is_wal (image_in s.page_size s.commit (now h)) =
      subst (λ (b : Bool). s.wal ≡ image_is_wal (state_of h s.page_size s.commit s.entries.items s.dropped b s.whole).image) c.if-self.false (s.mode honest) in
      let gone : ℕ = c.saturating_sub-gone.result in
      let front : List Entry = c.split_at.result.0.now in
      let taken : front ≡ take gone s.entries.items = c.split_at.ensures.front ∙ ap (λ (es : List Entry). take gone es) c.as_slice.ensures.value in
      let amount : gone ≡ length s.entries.items - c.args.keep = omega (arith, c.saturating_sub-gone.ensures, c.len.ensures) in
      let fits : gone < length s.entries.items = omega (arith, amount, c.if-gone-eq0.false, c.requires) in
      let runs = c.remove_files.ensures.moments honest (old_image h s.page_size s.commit s.entries.items s.sums.sums s.whole s.tried shaped kept front gone c.args.keep taken fits c.requires amount) (old_files h s.page_size s.commit s.entries.items s.sums.sums s.whole s.tried shaped kept front gone c.args.keep taken fits c.requires amount) (first h s.page_size s.commit s.entries.items s.sums.sums s.whole s.tried shaped kept front gone c.args.keep taken fits c.requires amount) in
      let done = c.in-Ok.ensures.done honest (old_image h s.page_size s.commit s.entries.items s.sums.sums s.whole s.tried shaped kept front gone c.args.keep taken fits c.requires amount) (old_files h s.page_size s.commit s.entries.items s.sums.sums s.whole s.tried shaped kept front gone c.args.keep taken fits c.requires amount) (first h s.page_size s.commit s.entries.items s.sums.sums s.whole s.tried shaped kept front gone c.args.keep taken fits c.requires amount) in
      rw (c.if-self.false) (mode_after h s.page_size s.commit s.entries.items s.sums.sums s.whole s.tried shaped kept front gone c.args.keep taken fits c.requires amount new runs done s.wal mode);
}

pub invariant_of-self-in-Err : goal.invariant_of-self-in-Err
invariant_of-self-in-Err g c = record {
  sized = c.args.self.now.sized;
  shaped = c.args.self.now.shaped;
  kept = λ still.
      let honest = sym c.remove_files.ensures.honest ∙ still in
      let s = c.args.self.now in
      let h = g.D.Disk.history s.disk in
      let new = g.D.Disk.history c.remove_files.new.disk in
      let isnt : s.dropped ≡ false = unmarked s.commit s.entries.items s.dropped s.sums.sums s.shaped (omega (arith, c.saturating_sub-gone.ensures, c.len.ensures, c.if-gone-eq0.false)) in
      let shaped : IsShaped s.commit s.entries.items false s.sums.sums = subst (λ (d : Bool). IsShaped s.commit s.entries.items d s.sums.sums) isnt s.shaped in
      let kept : IsStore h s.page_size s.commit s.entries.items false s.sums.sums false s.whole s.tried =
      subst (λ (d : Bool). IsStore h s.page_size s.commit s.entries.items d s.sums.sums false s.whole s.tried) isnt
      (subst (λ (b : Bool). IsStore h s.page_size s.commit s.entries.items s.dropped s.sums.sums b s.whole s.tried) c.if-self.false (s.kept honest)) in
      let gone : ℕ = c.saturating_sub-gone.result in
      let front : List Entry = c.split_at.result.0.now in
      let taken : front ≡ take gone s.entries.items = c.split_at.ensures.front ∙ ap (λ (es : List Entry). take gone es) c.as_slice.ensures.value in
      let amount : gone ≡ length s.entries.items - c.args.keep = omega (arith, c.saturating_sub-gone.ensures, c.len.ensures) in
      let fits : gone < length s.entries.items = omega (arith, amount, c.if-gone-eq0.false, c.requires) in
      let runs = c.remove_files.ensures.moments honest (old_image h s.page_size s.commit s.entries.items s.sums.sums s.whole s.tried shaped kept front gone c.args.keep taken fits c.requires amount) (old_files h s.page_size s.commit s.entries.items s.sums.sums s.whole s.tried shaped kept front gone c.args.keep taken fits c.requires amount) (first h s.page_size s.commit s.entries.items s.sums.sums s.whole s.tried shaped kept front gone c.args.keep taken fits c.requires amount) in
      rw (c.moment-self.ensures, isnt) (broken s.page_size s.commit s.entries.items false s.sums.sums h new runs.past s.whole s.tried h.moment runs.later runs.later kept);
  left = λ still.
      let honest = sym c.remove_files.ensures.honest ∙ still in
      let s = c.args.self.now in
      let h = g.D.Disk.history s.disk in
      let new = g.D.Disk.history c.remove_files.new.disk in
      let isnt : s.dropped ≡ false = unmarked s.commit s.entries.items s.dropped s.sums.sums s.shaped (omega (arith, c.saturating_sub-gone.ensures, c.len.ensures, c.if-gone-eq0.false)) in
      let shaped : IsShaped s.commit s.entries.items false s.sums.sums = subst (λ (d : Bool). IsShaped s.commit s.entries.items d s.sums.sums) isnt s.shaped in
      let kept : IsStore h s.page_size s.commit s.entries.items false s.sums.sums false s.whole s.tried =
      subst (λ (d : Bool). IsStore h s.page_size s.commit s.entries.items d s.sums.sums false s.whole s.tried) isnt
      (subst (λ (b : Bool). IsStore h s.page_size s.commit s.entries.items s.dropped s.sums.sums b s.whole s.tried) c.if-self.false (s.kept honest)) in
      let gone : ℕ = c.saturating_sub-gone.result in
      let front : List Entry = c.split_at.result.0.now in
      let taken : front ≡ take gone s.entries.items = c.split_at.ensures.front ∙ ap (λ (es : List Entry). take gone es) c.as_slice.ensures.value in
      let amount : gone ≡ length s.entries.items - c.args.keep = omega (arith, c.saturating_sub-gone.ensures, c.len.ensures) in
      let fits : gone < length s.entries.items = omega (arith, amount, c.if-gone-eq0.false, c.requires) in
      let runs = c.remove_files.ensures.moments honest (old_image h s.page_size s.commit s.entries.items s.sums.sums s.whole s.tried shaped kept front gone c.args.keep taken fits c.requires amount) (old_files h s.page_size s.commit s.entries.items s.sums.sums s.whole s.tried shaped kept front gone c.args.keep taken fits c.requires amount) (first h s.page_size s.commit s.entries.items s.sums.sums s.whole s.tried shaped kept front gone c.args.keep taken fits c.requires amount) in
      rw (c.moment-self.ensures, isnt) (left_in h s.page_size s.commit s.entries.items s.sums.sums s.whole s.tried shaped kept front gone c.args.keep taken fits c.requires amount new runs);
  mode = λ still.
      let honest = sym c.remove_files.ensures.honest ∙ still in
      let s = c.args.self.now in
      let h = g.D.Disk.history s.disk in
      let new = g.D.Disk.history c.remove_files.new.disk in
      let isnt : s.dropped ≡ false = unmarked s.commit s.entries.items s.dropped s.sums.sums s.shaped (omega (arith, c.saturating_sub-gone.ensures, c.len.ensures, c.if-gone-eq0.false)) in
      let shaped : IsShaped s.commit s.entries.items false s.sums.sums = subst (λ (d : Bool). IsShaped s.commit s.entries.items d s.sums.sums) isnt s.shaped in
      let kept : IsStore h s.page_size s.commit s.entries.items false s.sums.sums false s.whole s.tried =
      subst (λ (d : Bool). IsStore h s.page_size s.commit s.entries.items d s.sums.sums false s.whole s.tried) isnt
      (subst (λ (b : Bool). IsStore h s.page_size s.commit s.entries.items s.dropped s.sums.sums b s.whole s.tried) c.if-self.false (s.kept honest)) in
      let mode : s.wal ≡ image_is_wal (image_in s.page_size s.commit (now h)) =
      subst (λ (b : Bool). s.wal ≡ image_is_wal (state_of h s.page_size s.commit s.entries.items s.dropped b s.whole).image) c.if-self.false (s.mode honest) in
      let gone : ℕ = c.saturating_sub-gone.result in
      let front : List Entry = c.split_at.result.0.now in
      let taken : front ≡ take gone s.entries.items = c.split_at.ensures.front ∙ ap (λ (es : List Entry). take gone es) c.as_slice.ensures.value in
      let amount : gone ≡ length s.entries.items - c.args.keep = omega (arith, c.saturating_sub-gone.ensures, c.len.ensures) in
      let fits : gone < length s.entries.items = omega (arith, amount, c.if-gone-eq0.false, c.requires) in
      let runs = c.remove_files.ensures.moments honest (old_image h s.page_size s.commit s.entries.items s.sums.sums s.whole s.tried shaped kept front gone c.args.keep taken fits c.requires amount) (old_files h s.page_size s.commit s.entries.items s.sums.sums s.whole s.tried shaped kept front gone c.args.keep taken fits c.requires amount) (first h s.page_size s.commit s.entries.items s.sums.sums s.whole s.tried shaped kept front gone c.args.keep taken fits c.requires amount) in
      rw (c.moment-self.ensures) (mode_before s.page_size s.commit s.entries.items false s.sums.sums h new runs.past s.wal mode);
}

pub returns-in-Ok-clause-went : goal.returns-in-Ok-clause-went
returns-in-Ok-clause-went g c honest =
    let s = c.args.self.now in
    let h = g.D.Disk.history s.disk in
    let new = g.D.Disk.history c.remove_files.new.disk in
    let isnt : s.dropped ≡ false = unmarked s.commit s.entries.items s.dropped s.sums.sums s.shaped (omega (arith, c.saturating_sub-gone.ensures, c.len.ensures, c.if-gone-eq0.false)) in
    let shaped : IsShaped s.commit s.entries.items false s.sums.sums = subst (λ (d : Bool). IsShaped s.commit s.entries.items d s.sums.sums) isnt s.shaped in
    let kept : IsStore h s.page_size s.commit s.entries.items false s.sums.sums false s.whole s.tried =
    subst (λ (d : Bool). IsStore h s.page_size s.commit s.entries.items d s.sums.sums false s.whole s.tried) isnt
    (subst (λ (b : Bool). IsStore h s.page_size s.commit s.entries.items s.dropped s.sums.sums b s.whole s.tried) c.if-self.false (s.kept honest)) in
    let gone : ℕ = c.saturating_sub-gone.result in
    let front : List Entry = c.split_at.result.0.now in
    let taken : front ≡ take gone s.entries.items = c.split_at.ensures.front ∙ ap (λ (es : List Entry). take gone es) c.as_slice.ensures.value in
    let amount : gone ≡ length s.entries.items - c.args.keep = omega (arith, c.saturating_sub-gone.ensures, c.len.ensures) in
    let fits : gone < length s.entries.items = omega (arith, amount, c.if-gone-eq0.false, c.requires) in
    let runs = c.remove_files.ensures.moments honest (old_image h s.page_size s.commit s.entries.items s.sums.sums s.whole s.tried shaped kept front gone c.args.keep taken fits c.requires amount) (old_files h s.page_size s.commit s.entries.items s.sums.sums s.whole s.tried shaped kept front gone c.args.keep taken fits c.requires amount) (first h s.page_size s.commit s.entries.items s.sums.sums s.whole s.tried shaped kept front gone c.args.keep taken fits c.requires amount) in
    let done = c.in-Ok.ensures.done honest (old_image h s.page_size s.commit s.entries.items s.sums.sums s.whole s.tried shaped kept front gone c.args.keep taken fits c.requires amount) (old_files h s.page_size s.commit s.entries.items s.sums.sums s.whole s.tried shaped kept front gone c.args.keep taken fits c.requires amount) (first h s.page_size s.commit s.entries.items s.sums.sums s.whole s.tried shaped kept front gone c.args.keep taken fits c.requires amount) in
    rw (c.forget_front.ensures, c.if-self.false, isnt) (went_done h s.page_size s.commit s.entries.items s.sums.sums s.whole s.tried shaped kept front gone c.args.keep taken fits c.requires amount new runs done)

pub returns-in-Err-clause-went : goal.returns-in-Err-clause-went
returns-in-Err-clause-went g c honest =
    let s = c.args.self.now in
    let h = g.D.Disk.history s.disk in
    let new = g.D.Disk.history c.remove_files.new.disk in
    let isnt : s.dropped ≡ false = unmarked s.commit s.entries.items s.dropped s.sums.sums s.shaped (omega (arith, c.saturating_sub-gone.ensures, c.len.ensures, c.if-gone-eq0.false)) in
    let shaped : IsShaped s.commit s.entries.items false s.sums.sums = subst (λ (d : Bool). IsShaped s.commit s.entries.items d s.sums.sums) isnt s.shaped in
    let kept : IsStore h s.page_size s.commit s.entries.items false s.sums.sums false s.whole s.tried =
    subst (λ (d : Bool). IsStore h s.page_size s.commit s.entries.items d s.sums.sums false s.whole s.tried) isnt
    (subst (λ (b : Bool). IsStore h s.page_size s.commit s.entries.items s.dropped s.sums.sums b s.whole s.tried) c.if-self.false (s.kept honest)) in
    let gone : ℕ = c.saturating_sub-gone.result in
    let front : List Entry = c.split_at.result.0.now in
    let taken : front ≡ take gone s.entries.items = c.split_at.ensures.front ∙ ap (λ (es : List Entry). take gone es) c.as_slice.ensures.value in
    let amount : gone ≡ length s.entries.items - c.args.keep = omega (arith, c.saturating_sub-gone.ensures, c.len.ensures) in
    let fits : gone < length s.entries.items = omega (arith, amount, c.if-gone-eq0.false, c.requires) in
    let runs = c.remove_files.ensures.moments honest (old_image h s.page_size s.commit s.entries.items s.sums.sums s.whole s.tried shaped kept front gone c.args.keep taken fits c.requires amount) (old_files h s.page_size s.commit s.entries.items s.sums.sums s.whole s.tried shaped kept front gone c.args.keep taken fits c.requires amount) (first h s.page_size s.commit s.entries.items s.sums.sums s.whole s.tried shaped kept front gone c.args.keep taken fits c.requires amount) in
    rw (c.moment-self.ensures, c.if-self.false, isnt) (inr (went_in h s.page_size s.commit s.entries.items s.sums.sums s.whole s.tried shaped kept front gone c.args.keep taken fits c.requires amount new runs))

pub returns-in-Ok-clause-position : goal.returns-in-Ok-clause-position
returns-in-Ok-clause-position g c =
    let s = c.args.self.now in
    let gone : ℕ = c.saturating_sub-gone.result in
    let fits : gone < length s.entries.items = omega (arith, c.saturating_sub-gone.ensures, c.len.ensures, c.if-gone-eq0.false, c.requires) in
    rw (c.forget_front.ensures) (entries-drop gone s.entries.items fits)
