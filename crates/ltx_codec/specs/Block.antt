-- How far a page block was read.
use Rattle.std.specs.Prelude.{◌≡◌, ℕ, ◌+◌, ◌≤◌, List, ◌++◌, length, take, IsSome}
use Rattle.lf_sqlite_pages.specs.LockPage.{IsDataPage}
use Rattle.lf_sqlite_pages.specs.Change.{PageChange, last_number, written}
use Rattle.ltx_codec.specs.Fields.{AreBytes, stated_page_size, stated_commit, stated_min, header_in}
use Rattle.ltx_codec.specs.Format.{pages_encoding}
use Rattle.ltx_codec.specs.HeaderRules.{HasSoundFields}
use Rattle.ltx_codec.specs.Numbering.{MayFollow}
use Rattle.ltx_codec.specs.Places.{number_place, number_at, number_before, writes_in, HasPages, IsSoundBefore}

-- the header is whole and sound
pub record HasHeader (bytes : List ℕ) : Type 0 where
  pub fields : HasSoundFields bytes 103
  pub whole : 100 ≤ length bytes
  pub octets : AreBytes bytes

-- the change holds each data page up to its last
abbrev pub HoldsEachSoFar : PageChange → Type 0
HoldsEachSoFar change =
    (n : ℕ) → 1 ≤ n → n ≤ last_number change.pages → IsDataPage change.page_size n → IsSome (written change.pages n)

-- the change holds the first k pages of the block, as the bytes give them
pub record HoldsPages (bytes : List ℕ) (change : PageChange) (k : ℕ) : Type 0 where
  pub page_size : change.page_size ≡ stated_page_size bytes
  pub commit : change.commit ≡ stated_commit bytes
  pub last : last_number change.pages ≡ number_before bytes k
  pub writes : change.pages ≡ writes_in bytes k
  pub each : stated_min bytes ≡ 1 → HoldsEachSoFar change
  pub encoding : take (number_place bytes k) bytes ≡ take 100 bytes ++ pages_encoding change.pages

-- the block was read up to its k-th number, and no rule is broken before that
pub record IsRead (bytes : List ℕ) (change : PageChange) (k : ℕ) : Type 0 where
  pub header : HasHeader bytes
  pub there : number_place bytes k ≤ length bytes
  pub pages : HasPages bytes k
  pub holds : HoldsPages bytes change k
  pub sound : IsSoundBefore bytes (number_place bytes k + 1)

-- the k-th number meets the rules of page numbers
pub record IsNextNumber (bytes : List ℕ) (k : ℕ) : Type 0 where
  pub there : number_place bytes k + 4 ≤ length bytes
  pub may : MayFollow (header_in bytes) (number_before bytes k) (number_at bytes k)
