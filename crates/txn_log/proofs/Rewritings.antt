-- What a crash leaves while a change is written over the database file.
use Rattle.std.proofs.Common.{◌≡◌, inl, inr, ℕ, ◌*◌, Some, Result, refl, sym, ◌∙◌, ap, subst, arith}
use Rattle.std.proofs.lemmas.Bool.{cases_Bool}
use Rattle.lf_disk.specs.Names.{same_name-one}
use Rattle.lf_disk.specs.declared.name.FileName.{FileName}
use Rattle.lf_disk.specs.declared.name.FileName.TheVariants.{Database, Staged}
use Rattle.lf_base.specs.FileBytes.{resized}
use Rattle.lf_disk.specs.Folder.{Folder, bytes_of, Same, same_name}
use Rattle.lf_disk.specs.Change.{Step, OnFile, Perhaps, Cuts, CropsFile, SetsFile}
use Rattle.lf_disk.specs.History.{History, now, may_leave, Ticks, Moves, EachMoment, IsSettledBut}
use Rattle.lf_disk.proofs.Moments.{goes_on, joined}
use Rattle.lf_sqlite_pages.specs.Change.{PageChange}
use Rattle.lf_disk.specs.Stretch.{Stretch}
use Rattle.txn_log.specs.Pages.{Wears, Patches}
use Rattle.txn_log.specs.Rewriting.{IsWorn, IsRewritten}
use Rattle.lf_disk.proofs.Stretches.{each_moment}
use Rattle.txn_log.proofs.Wearing.{wears_none, wears_both, cut_wears}

module _ (change : PageChange) (h : History) where
  abbrev pub Runs : History → Type 0
  Runs new = EachMoment h new (IsWorn change (now h))

  worn_step : (d c : Folder) → IsWorn change (now h) d → OnFile Database (Wears change) d c → IsWorn change (now h) c
  worn_step d c worn step = record {
    database = wears_both change (now h Database) (d Database) (c Database) worn.database step.here;
    others = λ n one two. step.elsewhere n one ∙ worn.others n one two;
  }

  pub here : (new : History) → Runs new → (c : Folder) → may_leave new c → IsWorn change (now h) c
  here new runs c may = runs.each new.moment c runs.later (omega arith) may

  pub writes : (mid : History) → IsSettledBut Staged h → Stretch (OnFile Database (Wears change)) h mid → Runs mid
  writes mid settled run =
      each_moment h mid (OnFile Database (Wears change)) (IsWorn change (now h)) run
      (λ c may. record {
        database = subst (λ (f : _). Wears change (now h Database) f) (sym (settled c may Database refl)) (wears_none change (now h Database));
        others = λ n one two. settled c may n two;
      })
      (λ f g. worn_step f g)

  -- the length, whether it is given or not
  pub fits : (mid new : History) (len : ℕ) → len ≡ change.commit * change.page_size → Runs mid → Stretch (CropsFile Database len) mid new → Runs new
  fits mid new len size runs run =
      joined h mid new (IsWorn change (now h)) runs
      (each_moment mid new (CropsFile Database len) (IsWorn change (now h)) run (here mid runs)
      (λ d c worn crops. worn_step d c worn (cut_wears change d c (subst (λ (l : ℕ). CropsFile Database l d c) size crops))))

  set : (mid : History) → Runs mid → may_leave mid (now mid) → (d c : Folder) → may_leave mid d → SetsFile Database (now mid Database) d c → IsWorn change (now h) c
  set mid runs real d c may sets = record {
    database = subst (λ (f : _). Wears change (now h Database) f) (sym sets.here) (here mid runs (now mid) real).database;
    others = λ n one two. sets.elsewhere n one ∙ (here mid runs d may).others n one two;
  }

  pub syncs : {T E : Type 0} (result : Result T E) (mid new : History) (sees : Step) → Runs mid → may_leave mid (now mid) → Ticks result mid new
      → Moves sees (SetsFile Database (now mid Database)) mid new → Runs new
  syncs result mid new sees runs real ticks moves =
      goes_on result h mid new (IsWorn change (now h)) runs ticks
      (λ c may. let from = moves.left c may in set mid runs real from.0 c from.1 from.2)

  pub perhaps_syncs : {T E : Type 0} (result : Result T E) (mid new : History) (sees : Step) → Runs mid → may_leave mid (now mid) → Ticks result mid new
      → Moves sees (Perhaps (SetsFile Database (now mid Database))) mid new → Runs new
  perhaps_syncs result mid new sees runs real ticks moves =
      goes_on result h mid new (IsWorn change (now h)) runs ticks
      (λ c may.
      let from = moves.left c may in
      elim from.2 [
        | inl same ↦
            let worn = here mid runs from.0 from.1 in
            record {
              database = subst (λ (f : _). Wears change (now h Database) f) (sym (same Database)) worn.database;
              others = λ n one two. same n ∙ worn.others n one two;
            }
        | inr sets ↦ set mid runs real from.0 c from.1 sets
      ])

  -- what is there then
  pub rewritten : (wrote cut new : History) (len : ℕ) → len ≡ change.commit * change.page_size → IsSettledBut Staged h → Runs cut
      → OnFile Database (Patches change.page_size change.pages) (now h) (now wrote) → OnFile Database (Cuts len) (now wrote) (now cut)
      → Moves Same (SetsFile Database (now cut Database)) cut new → IsRewritten change (now h) new
  rewritten wrote cut new len size settled runs written cuts moves = record {
    database =
        moves.seen Database ∙ cuts.here
        ∙ ap (λ (l : ℕ). Some (resized l (bytes_of (now wrote Database)))) size
        ∙ ap (λ (b : _). Some (resized (change.commit * change.page_size) b)) written.here;
    others = λ n other. moves.seen n ∙ cuts.elsewhere n other ∙ written.elsewhere n other;
    settled = λ c may n staged.
        let from = moves.left c may in
        elim (cases_Bool (same_name n Database)) [
          | inl is ↦ subst (λ (m : FileName). c m ≡ now new m) (sym (same_name-one n Database is)) (from.2.here ∙ sym (moves.seen Database))
          | inr isnt ↦ from.2.elsewhere n isnt ∙ (here cut runs from.0 from.1).others n isnt staged ∙ sym (moves.seen n ∙ cuts.elsewhere n isnt ∙ written.elsewhere n isnt)
        ];
  }
