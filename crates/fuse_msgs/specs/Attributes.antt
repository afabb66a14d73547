-- The bodies of GETATTR and SETATTR.
use Rattle.std.specs.Prelude.{◌≡◌, ℕ, List, length, Option}
use Rattle.fuse_msgs.specs.Fields.{is_set, given}
use Rattle.lf_base.specs.Endian.{le32_at, le64_at}

-- a `fuse_getattr_in`: getattr_flags 4, dummy 4, fh 8
abbrev pub IsGetattrIn : List ℕ → Type 0
IsGetattrIn body = length body ≡ 16

-- a `fuse_setattr_in`: valid 4, padding 4, fh 8, size 8, lock_owner 8, atime 8, mtime 8, ctime 8,
-- three nanosecond fields 4 each, mode 4, unused 4, uid 4, gid 4, unused 4.
-- `FATTR_SIZE` is bit 3 of valid, `FATTR_LOCKOWNER` bit 9.
pub record IsSetattrIn (body : List ℕ) (size owner : Option ℕ) : Type 0 where
  pub whole : length body ≡ 88
  pub size_is : size ≡ given (is_set (le32_at 0 body) 3) (le64_at 16 body)
  pub owner_is : owner ≡ given (is_set (le32_at 0 body) 9) (le64_at 24 body)
