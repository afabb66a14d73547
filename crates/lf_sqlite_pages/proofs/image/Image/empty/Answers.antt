-- An image without pages has no lock page.
use Rattle.lf_sqlite_pages.proofs.Images.{IsImage-no_pages}
use Rattle.lf_sqlite_pages.proofs.image.Image.empty.Goals as goal

pub invariant_of-result : goal.invariant_of-result
invariant_of-result c = IsImage-no_pages c.new.result.items c.new.ensures.items
