-- Two files are synced, one after the other.
use Rattle.std.proofs.Common.{inl, inr, List, ℕ, Option, Result, Ok, Err, OnOk, OnErr, refl, subst}
use Rattle.lf_disk.specs.declared.name.FileName.{FileName}
use Rattle.lf_disk.specs.Folder.{Folder, Same}
use Rattle.lf_disk.specs.Change.{Step, Both, Perhaps, SetsFile}
use Rattle.lf_disk.specs.History.{History, now, may_leave, Ticks, Moves, EachMoment, Keeps, MayLeave}
use Rattle.lf_disk.proofs.Moments.{started, goes_on}

module _ (one other : FileName) (h : History) where
  abbrev Way : Step
  Way = Both (Perhaps (Keeps one h)) (Perhaps (Keeps other h))

  -- nothing was done
  pub neither : (c : Folder) → may_leave h c → MayLeave Way h c
  neither c may = (c, may, (c, inl (λ n. refl), inl (λ n. refl)))

  -- the first was synced perhaps
  pub first_only : (mid : History) → Moves Same (Perhaps (Keeps one h)) h mid → Moves Same Way h mid
  first_only mid moved = record {
    seen = moved.seen;
    left = λ c may. let l = moved.left c may in (l.0, l.1, (c, l.2, inl (λ n. refl)));
  }

  pub first_stretch : {T E : Type 0} (result : Result T E) (mid : History) → Ticks result h mid → Moves Same (Perhaps (Keeps one h)) h mid → EachMoment h mid (MayLeave Way h)
  first_stretch result mid ticks moved = goes_on result h h mid (MayLeave Way h) (started h (MayLeave Way h) neither) ticks (first_only mid moved).left

  -- what the second keeps is what was read before the first
  pub second_keeps : (mid : History) (d c : Folder) → Same (now h) (now mid) → Perhaps (Keeps other mid) d c → Perhaps (Keeps other h) d c
  second_keeps mid d c same step = subst (λ (file : Option (List ℕ)). Perhaps (SetsFile other file) d c) (same other) step

  pub second : (mid new : History) → Moves Same (Perhaps (Keeps one h)) h mid → Moves Same (Perhaps (Keeps other mid)) mid new → (c : Folder) → may_leave new c → MayLeave Way h c
  second mid new m1 m2 c may =
      let b = m2.left c may in
      let a = m1.left b.0 b.1 in
      (a.0, a.1, (b.0, a.2, second_keeps mid b.0 c m1.seen b.2))

  pub both_stretches : {T E S F : Type 0} (first : Result T E) (then : Result S F) (mid new : History) → Ticks first h mid → Moves Same (Perhaps (Keeps one h)) h mid
      → Ticks then mid new → Moves Same (Perhaps (Keeps other mid)) mid new → EachMoment h new (MayLeave Way h)
  both_stretches first then mid new t1 m1 t2 m2 = goes_on then h mid new (MayLeave Way h) (first_stretch first mid t1 m1) t2 (second mid new m1 m2)

-- a sync that was done, or failed, was perhaps done
pub perhaps : (step : Step) (old new : History) → Moves Same step old new → Moves Same (Perhaps step) old new
perhaps step old new moved = record { seen = moved.seen; left = λ c may. let l = moved.left c may in (l.0, l.1, inr l.2) }

pub either : {T E : Type 0} (result : Result T E) (step : Step) (old new : History) → OnOk result (Moves Same step old new) → OnErr result (Moves Same (Perhaps step) old new)
    → Moves Same (Perhaps step) old new
either (Ok _) step old new done failed = perhaps step old new done
either (Err _) step old new done failed = failed
