-- The bodies of INIT and FORGET; DESTROY may have any.
use Rattle.std.specs.Prelude.{◌≡◌, ℕ, ◌≤◌, List, length}
use Rattle.lf_base.specs.Endian.{le32_at}

-- a `fuse_init_in`, of which later versions have more: major 4, minor 4, max_readahead 4, flags 4
pub record IsInitIn (body : List ℕ) (major minor : ℕ) : Type 0 where
  pub whole : 16 ≤ length body
  pub major_is : major ≡ le32_at 0 body
  pub minor_is : minor ≡ le32_at 4 body

-- a `fuse_forget_in`: nlookup 8
abbrev pub IsForgetIn : List ℕ → Type 0
IsForgetIn body = length body ≡ 8
