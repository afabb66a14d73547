-- The bytes that end a session.
use Rattle.std.specs.Prelude.{◌≡◌, ℕ, List}
use Rattle.fuse_msgs.specs.Encoding.{request_bytes}
use Rattle.run_child.specs.declared.closing.Closing.{Closing}
use Rattle.run_child.specs.Requests.{destroy, release, unlock}

-- the last three requests, each as its bytes
pub record IsClosing (node fh : ℕ) (closing : Closing) : Type 0 where
  pub unlock_is : closing.unlock ≡ request_bytes (unlock node fh)
  pub release_is : closing.release ≡ request_bytes (release node fh)
  pub destroy_is : closing.destroy ≡ request_bytes destroy
