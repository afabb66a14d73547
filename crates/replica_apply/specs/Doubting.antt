-- What speaks against a follower's own log, from one stream to the next.
use Rattle.std.specs.Prelude.{◌≡◌, ◌⊎◌}
use Rattle.lf_base.specs.declared.pos.Pos.{Pos}
use Rattle.node_core.specs.declared.refusal.Refusal.TheVariants as refusals
use Rattle.txn_log.specs.declared.fault.StoreFault.TheVariants as fault
use Rattle.replica_apply.specs.declared.doubt.Doubt.{Doubt}
use Rattle.replica_apply.specs.declared.doubt.Doubt.TheVariants as doubt
use Rattle.replica_apply.specs.declared.follow_end.FollowEnd.{FollowEnd}
use Rattle.replica_apply.specs.declared.follow_end.FollowEnd.TheVariants as ends

-- a file did not lead on from this position: for the second time, or for the first
abbrev pub IsNotNext : Doubt → Pos → Doubt → Type 0
IsNotNext old have new = ((old ≡ doubt.NotNext have) × (new ≡ doubt.Unknown)) ⊎ ((old ≡ doubt.NotNext have → ⊥) × (new ≡ doubt.NotNext have))

-- that the position is unknown is said once
abbrev pub kept_doubt : Doubt → Doubt
kept_doubt doubt.Unknown = doubt.Nothing
kept_doubt old = old

-- BEHIND A STREAM that ended so: a file that leads to another sum makes the position unknown, and so does the second that doesn't lead
-- on from one and the same position
abbrev pub FollowsDoubt : Doubt → FollowEnd → Doubt → Type 0
FollowsDoubt old (ends.Refused (refusals.Store (fault.SumDiffers want got))) new = new ≡ doubt.Unknown
FollowsDoubt old (ends.Refused (refusals.Store (fault.NotNext have want))) new = IsNotNext old have new
FollowsDoubt old end new = new ≡ kept_doubt old
