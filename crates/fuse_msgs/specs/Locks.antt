-- The body of GETLK, SETLK and SETLKW.
use Rattle.std.specs.Prelude.{◌≡◌, ℕ, ◌==◌, ◌&&◌, nat_le, Bool, List, length}
use Rattle.fuse_msgs.specs.declared.request.LockWish.{LockWish}
use Rattle.fuse_msgs.specs.declared.request.LockWish.TheVariants as wish
use Rattle.lf_base.specs.Endian.{le32_at, le64_at}

-- the type of a lock: `F_RDLCK`, `F_WRLCK`, `F_UNLCK`
abbrev pub lock_type : LockWish → ℕ
lock_type wish.Read = 0
lock_type wish.Write = 1
lock_type wish.Unlock = 2

-- a `fuse_lk_in`: fh 8, owner 8, start 8, end 8 (the last byte), type 4, pid 4, lk_flags 4, padding 4
pub record IsLkIn (body : List ℕ) (fh owner start end : ℕ) (kind : LockWish) : Type 0 where
  pub whole : length body ≡ 48
  pub fh_is : fh ≡ le64_at 0 body
  pub owner_is : owner ≡ le64_at 8 body
  pub start_is : start ≡ le64_at 16 body
  pub end_is : end ≡ le64_at 24 body
  pub kind_is : le32_at 32 body ≡ lock_type kind

-- whether the body has its size, and a type that there is
abbrev pub has_lock : List ℕ → Bool
has_lock body = (length body == 48) && nat_le (le32_at 32 body) 2
