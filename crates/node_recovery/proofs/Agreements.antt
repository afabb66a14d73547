-- The pages' sums, taken together.
use Rattle.std.proofs.Common.{◌≡◌, ℕ, List, sym, ◌∙◌, ap}
use Rattle.page_checksum.specs.Sums.{flagged, joined}
use Rattle.lf_sqlite_pages.specs.Change.{PageChange, IsChange}
use Rattle.ltx_codec.specs.Sums.{image_sum}
use Rattle.ltx_codec.proofs.SumLaws.{image_sum-table}
use Rattle.ltx_codec.specs.declared.file.Ltx.{Ltx}
use Rattle.node_recovery.specs.declared.tally.Tally.{Tally}
use Rattle.node_recovery.specs.Agreeing.{IsSummed}
use Rattle.node_recovery.specs.Summing.{sums_left, restored_image, KnowsPages}
use Rattle.node_recovery.proofs.Restored.{sums_restored, mode_restored}

pub total_is : (change : PageChange) (bytes sums : List ℕ) → IsChange change → sums ≡ sums_left change bytes → flagged (joined sums) ≡ image_sum (restored_image change bytes)
total_is change bytes sums valid is =
    ap (λ (s : List ℕ). flagged (joined s)) (is ∙ sums_restored change bytes valid) ∙ sym (image_sum-table (restored_image change bytes))

-- the tally is that of the pages that are left
pub is_summed : (file : Ltx) (bytes : List ℕ) (tally : Tally) → IsChange file.change → KnowsPages file.change bytes tally → flagged (joined tally.sums.sums) ≡ file.post → IsSummed file bytes tally
is_summed file bytes tally valid knows said = record {
  table = knows.sums ∙ sums_restored file.change bytes valid;
  total = sym (total_is file.change bytes tally.sums.sums valid knows.sums) ∙ said;
  mode = knows.wal ∙ mode_restored file.change bytes valid;
}
