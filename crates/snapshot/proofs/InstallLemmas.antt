-- A snapshot in memory is installed as its source is.
use Rattle.std.proofs.Common.{◌≡◌, ◌∙◌, ℕ, Bool, false, Option, Some, None, Result, Ok, Err, List, [], ◌∷◌, inl, inr, refl, sym, ap, subst}
use Rattle.lf_base.specs.declared.pos.Pos.{Pos}
use Rattle.lf_disk.specs.History.{History}
use Rattle.ltx_codec.specs.Format.{IsLtx}
use Rattle.ltx_codec.specs.Positions.{after}
use Rattle.ltx_codec.specs.declared.file.Ltx.{Ltx}
use Rattle.world_laws.specs.Store.{StoreState, Failure, FailedIn, Install}
use Rattle.txn_log.specs.Calls.{Moved, Went}
use Rattle.txn_log.specs.Fields.{StoreFields, failed, state}
use Rattle.txn_log.specs.From.{Gave}
use Rattle.txn_log.specs.FromSnapshot.{InstallsFrom, WentInstalled}
use Rattle.txn_log.specs.declared.fault.StoreFault.{StoreFault}
use Rattle.txn_log.specs.declared.fault.StoreFault.TheVariants as fault
use Rattle.txn_log.specs.declared.fault.FromFault.{FromFault}
use Rattle.txn_log.specs.declared.fault.FromFault.TheVariants as from
use Rattle.txn_log.proofs.Sourced.{one_given}
use Rattle.snapshot.specs.Installing.{Installs, store_fault}

module _ (bytes left : List ℕ) (left_now : Option (List ℕ)) (file : Ltx) (same : left ≡ bytes) (is : IsLtx bytes file) where
  -- the file that a source of a file's bytes gave is that one
  given : (other : Ltx) → Gave (Some left) left_now other → other ≡ file
  given other gave = one_given left file other left_now (subst (λ (l : List ℕ). IsLtx l file) (sym same) is) gave

  -- the position that it leads to
  pub told_is : (room : ℕ) (broken : Bool) (told : Pos) → InstallsFrom (Some left) left_now room broken (Ok told) → told ≡ after file
  told_is room broken told installs =
      let it = installs.1 in
      it.2 ∙ ap after (given it.0 it.1.gave)

  -- it was done, or why not
  pub went_ok : (old : StoreState) (was : Option Failure) (start : History) (told : Pos) (new : StoreState) (now : Option Failure) (end : History)
      → WentInstalled (Some left) left_now old was start (Ok told) new now end → Went {T = Pos} old was start (Install file) (Ok told) new now end
  went_ok old was start told new now end went =
      subst (λ (f : Ltx). Moved old was start (Install f ∷ []) None new now end) (given went.0 went.1) went.3

  pub went_err : (old : StoreState) (was : Option Failure) (start : History) (why : FromFault) (new : StoreState) (now : Option Failure) (end : History)
      → WentInstalled (Some left) left_now old was start (Err why) new now end → Went {T = Pos} old was start (Install file) (Err (store_fault why)) new now end
  went_err old was start from.Source new now end went = went
  went_err old was start (from.Ltx f) new now end went = went
  went_err old was start from.NotSnapshot new now end went = went
  went_err old was start (from.Room pages) new now end went = went
  went_err old was start (from.Store fault.Disk) new now end went = elim went [
    | inl before ↦ inl before
    | inr inside ↦ inr (subst (λ (f : Ltx). Moved old was start [] (Some (FailedIn (Install f))) new now end) (given inside.0 inside.1) inside.2)
  ]
  went_err old was start (from.Store fault.NoMemory) new now end went = went
  went_err old was start (from.Store fault.Broken) new now end went = went
  went_err old was start (from.Store (fault.NotNext have want)) new now end went = went
  went_err old was start (from.Store (fault.SumDiffers want got)) new now end went = went
  went_err old was start (from.Store fault.Limit) new now end went = went
  went_err old was start (from.Store (fault.PageSize have want)) new now end went = went

module _ (start mid : History) (old made : StoreFields) (disk : mid ≡ start) (same : made ≡ old) where
  -- what began behind the room that was made began before it
  pub began : (P : StoreState → Option Failure → History → Type 0) → P (state mid made) (failed mid made) mid → P (state start old) (failed start old) start
  began P holds =
      subst (λ (h : History). P (state h old) (failed h old) h) disk (subst (λ (f : StoreFields). P (state mid f) (failed mid f) mid) same holds)

  pub ended : (P : StoreState → Option Failure → History → Type 0) → P (state start old) (failed start old) start → P (state mid made) (failed mid made) mid
  ended P holds =
      subst (λ (f : StoreFields). P (state mid f) (failed mid f) mid) (sym same) (subst (λ (h : History). P (state h old) (failed h old) h) (sym disk) holds)
