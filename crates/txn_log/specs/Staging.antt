-- A transaction file that is staged part by part.
use Rattle.std.specs.Prelude.{◌≡◌, ℕ, List, ◌++◌, length}
use Rattle.lf_disk.specs.declared.name.FileName.TheVariants.{Staged}
use Rattle.lf_disk.specs.Folder.{Folder, bytes_of, SameBut}
use Rattle.lf_disk.specs.History.{History, now, may_leave}
use Rattle.lf_sqlite_pages.specs.declared.page_write.PageWrite.{PageWrite}
use Rattle.ltx_codec.specs.Format.{header_encoding, no_meaning, pages_encoding}
use Rattle.ltx_codec.specs.Encoding.{HasWritten}
use Rattle.ltx_codec.specs.declared.header.Header.{Header}
use Rattle.txn_log.specs.declared.staging.Staging.{Staging}

-- the staged file has these bytes, and all others are as before, also in what a crash leaves
pub record HoldsSoFar (before : Folder) (encoding : List ℕ) (h : History) : Type 0 where
  pub seen : SameBut Staged before (now h)
  pub here : bytes_of (now h Staged) ≡ encoding
  pub left : (c : Folder) → may_leave h c → SameBut Staged before c

-- the encoding of a header and of the pages behind it
abbrev pub front_encoding : Header → List PageWrite → List ℕ
front_encoding header pages = header_encoding header no_meaning ++ pages_encoding pages

-- the header and these pages were staged
pub record IsStaging (staging : Staging) (header : Header) (pages : List PageWrite) : Type 0 where
  pub written : HasWritten staging.register header pages (front_encoding header pages)
  pub len : staging.len ≡ length (front_encoding header pages)

-- the front of an encoding is staged up to here, and the rest of it is gathered
pub record HasGathered (before : Folder) (at : ℕ) (gathered encoding : List ℕ) (h : History) : Type 0 where
  pub written : List ℕ
  pub len : at ≡ length written
  pub whole : written ++ gathered ≡ encoding
  pub held : HoldsSoFar before written h
