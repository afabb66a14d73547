-- The bodies of OPEN, RELEASE, FLUSH and FSYNC.
use Rattle.std.specs.Prelude.{◌≡◌, ℕ, List, length}
use Rattle.lf_base.specs.Endian.{le64_at}

-- a `fuse_open_in`: flags 4, unused 4
abbrev pub IsOpenIn : List ℕ → Type 0
IsOpenIn body = length body ≡ 8

-- a `fuse_release_in`: fh 8, flags 4, release_flags 4, lock_owner 8
pub record IsReleaseIn (body : List ℕ) (fh owner : ℕ) : Type 0 where
  pub whole : length body ≡ 24
  pub fh_is : fh ≡ le64_at 0 body
  pub owner_is : owner ≡ le64_at 16 body

-- a `fuse_flush_in`: fh 8, unused 4, padding 4, lock_owner 8
pub record IsFlushIn (body : List ℕ) (fh owner : ℕ) : Type 0 where
  pub whole : length body ≡ 24
  pub fh_is : fh ≡ le64_at 0 body
  pub owner_is : owner ≡ le64_at 16 body

-- a `fuse_fsync_in`: fh 8, fsync_flags 4, padding 4
pub record IsFsyncIn (body : List ℕ) (fh : ℕ) : Type 0 where
  pub whole : length body ≡ 16
  pub fh_is : fh ≡ le64_at 0 body
