-- Whose uncommitted pages a request commits.
use Rattle.std.specs.Prelude.{◌≡◌, ℕ, Option, Some, None}
use Rattle.std.specs.Option.{option_map}
use Rattle.byte_locks.specs.declared.owner.Owner.{Owner}
use Rattle.fuse_msgs.specs.declared.request.Op.{Op}
use Rattle.fuse_msgs.specs.declared.request.Op.TheVariants as op
use Rattle.file_view.specs.declared.requests.Plan.{Plan}
use Rattle.file_view.specs.declared.requests.Plan.TheVariants as plan
use Rattle.file_view.specs.declared.view.Scene.{Scene}
use Rattle.file_view.specs.Requests.{owner_of}

-- the owner that a request to change a file names: WRITE and SETATTR may, by FUSE's lock_owner, and UNLINK can't
abbrev pub named_owner : Op → Option ℕ
named_owner (op.Setattr size given) = given
named_owner (op.Write fh place given bytes) = given
named_owner _ = None

-- a request that waits for its commit names this owner, of its own session
abbrev pub CommitsFor : Owner → Scene → Op → Plan → Type 0
CommitsFor owner scene asked (plan.Reply r) = Unit {0}
CommitsFor owner scene asked plan.Silent = Unit {0}
CommitsFor owner scene asked (plan.Commit r change) = option_map (owner_of scene) (named_owner asked) ≡ Some owner
