use Rattle.std.proofs.Common.{length}
use Rattle.lf_sqlite_pages.proofs.Completing.{IsChange-completed, apply-complete, Fits-complete, HoldsEveryPage-completed, completed-whole_change}
use Rattle.lf_sqlite_pages.proofs.image_laws.complete_change_leads_to_the_same_image.Goals as goal

pub returns : goal.returns
returns c = record {
  valid = λ image change valid. IsChange-completed change (length image.pages) valid;
  same = apply-complete;
  fits = Fits-complete;
  first = λ image change none. HoldsEveryPage-completed change (length image.pages) none;
  whole = λ image change valid every. completed-whole_change change (length image.pages) valid every;
}
