-- The bodies of READ and WRITE.
use Rattle.std.specs.Prelude.{◌≡◌, ℕ, ◌≤◌, ◌==◌, ◌&&◌, nat_le, Bool, List, length, drop, Option}
use Rattle.fuse_msgs.specs.Fields.{is_set, given}
use Rattle.lf_base.specs.Endian.{le32_at, le64_at}

-- a `fuse_read_in`: fh 8, offset 8, size 4, read_flags 4, lock_owner 8, flags 4, padding 4.
-- `FUSE_READ_LOCKOWNER` is bit 1 of read_flags.
pub record IsReadIn (body : List ℕ) (fh at size : ℕ) (owner : Option ℕ) : Type 0 where
  pub whole : length body ≡ 40
  pub fh_is : fh ≡ le64_at 0 body
  pub at_is : at ≡ le64_at 8 body
  pub size_is : size ≡ le32_at 16 body
  pub owner_is : owner ≡ given (is_set (le32_at 20 body) 1) (le64_at 24 body)

-- a `fuse_write_in` and its data: fh 8, offset 8, size 4, write_flags 4, lock_owner 8, flags 4, padding 4.
-- `FUSE_WRITE_LOCKOWNER` is bit 1 of write_flags.
pub record IsWriteIn (body : List ℕ) (fh at : ℕ) (owner : Option ℕ) (bytes : List ℕ) : Type 0 where
  pub whole : 40 ≤ length body
  pub fh_is : fh ≡ le64_at 0 body
  pub at_is : at ≡ le64_at 8 body
  pub owner_is : owner ≡ given (is_set (le32_at 20 body) 1) (le64_at 24 body)
  pub data_is : bytes ≡ drop 40 body
  pub size_is : le32_at 16 body ≡ length bytes
  pub limit : length bytes ≤ 131072

-- whether the data has the size that the body says, and at most 131,072 bytes
abbrev pub has_data : List ℕ → Bool
has_data body = nat_le 40 (length body) && (le32_at 16 body == length (drop 40 body)) && nat_le (length (drop 40 body)) 131072
