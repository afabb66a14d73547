-- Where the lock page lies.
use Rattle.std.proofs.Common.{ℕ, ◌*◌, ◌/◌, ◌<◌, ◌≤◌, arith}
use Rattle.std.proofs.lemmas.Nat.{le-div}
use Rattle.std.proofs.lemmas.Bool.Decides.{nat_tests}
use Rattle.std.proofs.lemmas.Grind.{common_steps}
use Rattle.lf_sqlite_pages.specs.PageSize.{IsPageSize, is_page_size}
use Rattle.lf_sqlite_pages.specs.LockPage.{lock_page_of, IsDataPage}

-- pages are counted from 1
pub lock_page-first : (page_size : ℕ) → 1 ≤ lock_page_of page_size
unfolding lock_page_of
lock_page-first page_size = omega arith

-- a page size is some bytes
pub page_size-positive : (page_size : ℕ) → IsPageSize page_size → 0 < page_size
unfolding is_page_size
page_size-positive page_size is = grind (arith, common_steps, nat_tests)

-- no page that ends within the first 2^30 bytes is the lock page
pub IsDataPage-below : (page_size n : ℕ) → 0 < page_size → n * page_size ≤ 1073741824 → IsDataPage page_size n
unfolding lock_page_of
IsDataPage-below page_size n some within same =
    let low : n ≤ 1073741824 / page_size = le-div n 1073741824 page_size some within in
    omega (arith, same)
