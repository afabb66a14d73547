-- A file of another node: the call that it asks for, and why it is refused.
use Rattle.std.proofs.Common.{◌≡◌, ◌≢◌, ◌∙◌, ℕ, Bool, true, false, eqb, List, length, Option, IsSome, Err, inl, inr, refl, sym, ap, subst, arith}
use Rattle.std.proofs.lemmas.Bool.Decides.{nat_tests}
use Rattle.lf_base.specs.declared.pos.Pos.{Pos}
use Rattle.lf_disk.specs.History.{History}
use Rattle.lf_sqlite_pages.specs.Apply.{Fits, apply}
use Rattle.lf_sqlite_pages.specs.Change.{FitsOver}
use Rattle.lf_sqlite_pages.specs.Complete.{completed}
use Rattle.lf_sqlite_pages.specs.Image.{DatabaseImage}
use Rattle.lf_sqlite_pages.proofs.Completing.{apply-complete}
use Rattle.ltx_codec.specs.Format.{IsFile}
use Rattle.ltx_codec.specs.Positions.{sum_after}
use Rattle.ltx_codec.specs.Sums.{image_sum}
use Rattle.ltx_codec.specs.declared.file.Ltx.{Ltx}
use Rattle.txn_log.specs.declared.fault.StoreFault.{StoreFault}
use Rattle.txn_log.specs.declared.fault.StoreFault.TheVariants as fault
use Rattle.txn_log.specs.Apply.{sum_behind, whole_file}
use Rattle.txn_log.specs.Store.{IsStore, meant}
use Rattle.txn_log.proofs.PagesRead.{count}
use Rattle.txn_log.proofs.Taking.{sum_is}
use Rattle.world_laws.specs.Answers.{RefusesFrame, call_of}
use Rattle.world_laws.specs.Node.{NodeState, Role}
use Rattle.world_laws.specs.Store.{Apply, Failure, Install, StoreCall, StoreState, at}
use Rattle.node_core.specs.Framing.{Takes}
use Rattle.node_core.specs.Safely.{law_store_fault}
use Rattle.node_core.specs.Stores.{StoreFields, failed, state}
use Rattle.node_core.proofs.Asking.{Ran, failed-some}
use Rattle.node_core.proofs.Owing.{at-position}

-- a snapshot asks to be installed
pub call-install : (store : StoreState) (file : Ltx) → file.header.min ≡ 1 → Install file ≡ call_of store file
call-install store file first =
    let test : eqb file.header.min 1 ≡ true = grind (arith, nat_tests) in
    rw test refl

-- any other file to be applied, made complete
pub call-apply : (h : History) (s : StoreFields) (file : Ltx) → file.header.min ≢ 1 → Apply (whole_file s.commit file) ≡ call_of (state h s) file
call-apply h s file later =
    let test : eqb file.header.min 1 ≡ false = grind (arith, nat_tests) in
    rw test (ap (λ (k : ℕ). Apply (record file { change = completed file.change k })) (sym (count s.page_size s.commit (h.seen (meant h s.broken s.whole)))))

module _ (h : History) (s : StoreFields) (is : IsStore h s.page_size s.commit s.entries s.dropped s.sums s.broken s.whole s.tried) (file : Ltx) (valid : IsFile file) where
  abbrev image : DatabaseImage
  image = (state h s).image

  -- it doesn't fit the image
  misfits : (FitsOver s.page_size s.commit file.change → ⊥) → Fits image file.change → ⊥
  misfits over (inl size) = over (inl size)
  misfits over (inr (inl none)) = over (inr (inl (sym (count s.page_size s.commit (h.seen (meant h s.broken s.whole))) ∙ ap (λ (pages : List (List ℕ)). length pages) none)))
  misfits over (inr (inr every)) = over (inr (inr every))

  -- the sum that the store finds is that of the image after the file
  sum-same : s.broken ≡ false → FitsOver s.page_size s.commit file.change → sum_behind s.commit s.sums file ≡ sum_after image file
  sum-same open_ fits =
      let open_is : IsStore h s.page_size s.commit s.entries s.dropped s.sums false s.whole s.tried =
      subst (λ (b : Bool). IsStore h s.page_size s.commit s.entries s.dropped s.sums b s.whole s.tried) open_ is in
      let now_is : image_sum (apply image (completed file.change s.commit)) ≡ sum_behind s.commit s.sums file =
      subst (λ (b : Bool). image_sum (apply (state h (record s { broken = b })).image (completed file.change s.commit)) ≡ sum_behind s.commit s.sums file) (sym open_)
      (sum_is h s.page_size s.commit s.entries s.dropped s.sums s.whole s.tried open_is file.change valid.block.pages fits) in
      sym now_is
      ∙ ap image_sum (ap (λ (k : ℕ). apply image (completed file.change k)) (sym (count s.page_size s.commit (h.seen (meant h s.broken s.whole)))) ∙ apply-complete image file.change)

  module _ (old : NodeState) (role : Role) (failed_is : old.failed ≡ failed h s) (same : old.store ≡ state h s) where
    broken-some : s.broken ≡ true → IsSome old.failed
    broken-some broken = subst (λ (f : Option Failure). IsSome f) (sym failed_is) (failed-some h s.broken s.attempt s.tried broken)

    -- why the store refuses it
    pub refuses : (why : StoreFault) (did : List StoreCall) (failure : Option Failure) → Takes s file (Err why) → Ran {T = Pos} (Err why) (call_of (state h s) file) did failure
        → RefusesFrame old role file failure (law_store_fault why)
    refuses fault.Disk did failure takes ran = ran.1
    refuses fault.Broken did failure (inl takes) ran = broken-some takes.1
    refuses fault.Broken did failure (inr takes) ran = broken-some takes.1
    refuses fault.NoMemory did failure takes ran = tt
    refuses fault.Limit did failure (inl takes) ran = absurd takes.1
    refuses fault.Limit did failure (inr takes) ran = absurd takes.1
    refuses (fault.NotNext have want) did failure (inl takes) ran = absurd takes.1
    refuses (fault.NotNext have want) did failure (inr takes) ran =
        (takes.0, λ here. takes.1.1.2 (takes.1.1.1 ∙ here ∙ ap (λ (t : StoreState). at t) same ∙ at-position h s is ∙ sym takes.1.1.0))
    refuses (fault.PageSize have want) did failure (inl takes) ran = absurd takes.1
    refuses (fault.PageSize have want) did failure (inr takes) ran =
        (takes.0, subst (λ (t : StoreState). Fits t.image file.change → ⊥) (sym same) (misfits takes.1.2))
    refuses (fault.SumDiffers want got) did failure (inl takes) ran = absurd takes.1
    refuses (fault.SumDiffers want got) did failure (inr takes) ran = (
      takes.0,
      subst (λ (t : StoreState). sum_after t.image file ≢ file.post) (sym same)
          (λ sum. takes.1.5 (takes.1.3 ∙ sym sum ∙ sym (sum-same takes.1.0 takes.1.2) ∙ sym takes.1.4)),
    )
