-- FUSE messages as a feed.
use Rattle.std.specs.Prelude.{◌≡◌, ℕ, Bool, true, false, List}
use Rattle.fuse_msgs.specs.declared.fault.BadMessage.{BadMessage}
use Rattle.fuse_msgs.specs.Feed.{part, beginning_of, BeginsRefused}
use Rattle.link_session.specs.declared.stage.Stage.{Stage}
use Rattle.link_session.specs.declared.stage.Stage.TheVariants as stages

abbrev pub stage_of : Bool → Stage
stage_of true = stages.Whole
stage_of false = stages.Open

-- less than a message
abbrev pub IsPart : List ℕ → Type 0
IsPart text = beginning_of text ≡ part

-- the text begins with a length field that no message has
abbrev pub IsRefused : List ℕ → Type 0
IsRefused text = (fault : BadMessage) × BeginsRefused text fault
