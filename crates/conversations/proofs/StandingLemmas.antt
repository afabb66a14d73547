-- The files stand over the image step by step.
use Rattle.std.proofs.Common.{◌≡◌, ◌∙◌, ℕ, ◌≤◌, Option, Some, Result, Ok, Err, IfOk, inl, inr, length, sym, ap, subst, arith}
use Rattle.std.specs.Prelude.{unwrap_or}
use Rattle.std.proofs.lemmas.Bool.{cases_lt}
use Rattle.std.proofs.lemmas.Bool.Decides.{nat_tests}
use Rattle.lf_sqlite_pages.specs.Apply.{apply}
use Rattle.lf_sqlite_pages.specs.Change.{PageChange}
use Rattle.lf_sqlite_pages.specs.Image.{DatabaseImage, IsImage}
use Rattle.lf_sqlite_pages.specs.PageSize.{IsPageSize, is_page_size}
use Rattle.lf_sqlite_pages.proofs.Laws.{length-apply}
use Rattle.file_view.specs.declared.fault.ViewFault.{ViewFault}
use Rattle.file_view.specs.declared.requests.Plan.{Plan}
use Rattle.file_view.specs.declared.requests.Plan.TheVariants as plan
use Rattle.file_view.specs.Endings.{applied, committed}
use Rattle.file_view.specs.Overlay.{StandsOver, AwaitsOver}
use Rattle.file_view.specs.Served.{Served}
use Rattle.conversations.specs.Standing.{Stand, Await, AwaitWhere}

-- the largest page
page_size-most : (size : ℕ) → IsPageSize size → size ≤ 65536
unfolding is_page_size
page_size-most size is = grind (arith, nat_tests)

pub image-page_size : (image : DatabaseImage) → IsImage image → image.page_size ≤ 65536
image-page_size image valid = elim (cases_lt 0 image.page_size) [
  | inl some ↦ page_size-most image.page_size (valid.sized some)
  | inr none ↦ omega (arith, none)
]

-- the same files
pub stand-same : (image : DatabaseImage) (old files : Served) → files ≡ old → StandsOver (Some image) image.page_size (length image.pages) old → Stand image files
stand-same image old files is stands = record { over = subst (λ (s : Served). StandsOver (Some image) image.page_size (length image.pages) s) (sym is) stands }

-- another image, of this page size and number of pages
pub stand-applied : (image : DatabaseImage) (page_size commit : ℕ) (old files : Served) → page_size ≡ image.page_size → commit ≡ length image.pages →
    files ≡ applied old page_size commit →
    StandsOver (Some image) image.page_size (length image.pages) (applied old image.page_size (length image.pages)) → Stand image files
stand-applied image page_size commit old files size_is commit_is is stands =
    let same : files ≡ applied old image.page_size (length image.pages) =
    is ∙ ap (λ (n : ℕ). applied old n commit) size_is ∙ ap (λ (n : ℕ). applied old image.page_size n) commit_is in
    stand-same image (applied old image.page_size (length image.pages)) files same stands

same-image : (image new : DatabaseImage) → Some new ≡ Some image → new ≡ image
same-image image new same = ap (λ (o : Option DatabaseImage). unwrap_or o image) same

-- over the same image, where it was told
pub stand-told : (image new : DatabaseImage) (files : Served) → Some new ≡ Some image →
    StandsOver (Some image) image.page_size (length image.pages) files → Stand new files
stand-told image new files same stands = record {
  over = subst (λ (i : DatabaseImage). StandsOver (Some i) i.page_size (length i.pages) files) (sym (same-image image new same)) stands;
}

-- what a request waits for, over the same image
await-plan : (image new : DatabaseImage) (files : Served) (p : Plan) → Some new ≡ Some image → AwaitsOver (Some image) files p → AwaitWhere new files p
unfolding Await
await-plan image new files (plan.Reply r) same awaits = tt
await-plan image new files plan.Silent same awaits = tt
await-plan image new files (plan.Commit r change) same awaits =
    subst (λ (i : DatabaseImage). StandsOver (Some (apply i change)) change.page_size change.commit (committed files)) (sym (same-image image new same)) awaits

pub await-told : (image new : DatabaseImage) (files : Served) (result : Result Plan ViewFault) → Some new ≡ Some image →
    IfOk result (AwaitsOver (Some image) files) → IfOk result (AwaitWhere new files)
await-told image new files (Ok p) same awaits = await-plan image new files p same awaits
await-told image new files (Err e) same awaits = tt

-- a change that is committed
pub stand-committed : (image new : DatabaseImage) (change : PageChange) (old files : Served) → new ≡ apply image change → files ≡ committed old →
    Await image old change → Stand new files
unfolding Await
stand-committed image new change old files after done await =
    let over : StandsOver (Some (apply image change)) change.page_size (length (apply image change).pages) (committed old) =
    subst (λ (n : ℕ). StandsOver (Some (apply image change)) change.page_size n (committed old)) (sym (length-apply image change)) await in
    let there : StandsOver (Some new) new.page_size (length new.pages) (committed old) =
    subst (λ (i : DatabaseImage). StandsOver (Some i) i.page_size (length i.pages) (committed old)) (sym after) over in
    record { over = subst (λ (s : Served). StandsOver (Some new) new.page_size (length new.pages) s) (sym done) there }
