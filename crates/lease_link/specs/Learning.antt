-- What a node learns of a reply of the lease service.
use Rattle.std.specs.Prelude.{◌≡◌, ℕ, ◌==◌, Bool, if◌then◌else◌, List}
use Rattle.serde_json.specs.Data.{object}
use Rattle.lease_core.specs.declared.grant.Grant.{Grant}
use Rattle.lease_core.specs.declared.lease_ask.LeaseAsk.{LeaseAsk}
use Rattle.lease_core.specs.declared.lease_ask.LeaseAsk.TheVariants as ask
use Rattle.lease_core.specs.declared.lease_reply.LeaseReply.{LeaseReply}
use Rattle.lease_core.specs.declared.lease_reply.LeaseReply.TheVariants as reply
use Rattle.lease_core.specs.Bodies.{FitsReply, IsJson, reply_members}
use Rattle.lease_link.specs.declared.learned.Learned.{Learned}
use Rattle.lease_link.specs.declared.learned.Learned.TheVariants as learned

-- WHAT A NODE ASKS in a round: a later end of the term that it has; without one, for a term where it may be primary, and else who is
abbrev pub round_ask : Grant → Bool → LeaseAsk
round_ask own candidate =
    if own.term == 0
    then (if candidate then ask.Acquire own.node own.url own.host else ask.Info)
    else ask.Renew own.node own.term

-- the body is JSON of this reply
pub record IsReply (body : List ℕ) (said : LeaseReply) : Type 0 where
  pub fits : FitsReply said
  pub json : IsJson body (object (reply_members said))

-- what a reply that grants tells: the term and how long it lasts, or who is primary, if anybody is. Another reply than to what was asked tells nothing
abbrev pub granted : LeaseAsk → LeaseReply → Learned
granted (ask.Acquire node url host) (reply.Grant its_host term ttl its_url) = learned.Granted term ttl
granted (ask.Renew node term) (reply.Renewed ttl) = learned.Granted term ttl
granted ask.Info (reply.Grant host term ttl url) = learned.Primary host url
granted ask.Info reply.Empty = learned.Nobody
granted _ _ = learned.Nothing

-- what a refusal tells: a term that is not renewed is lost
abbrev pub refused : LeaseAsk → Learned
refused (ask.Renew node term) = learned.Lost
refused _ = learned.Nothing

-- WHAT A WHOLE REPLY TELLS, by its status and its body
pub data Tells (asked : LeaseAsk) (status : ℕ) (body : List ℕ) (told : Learned) : Type 0 where
  grants : (said : LeaseReply) → status ≡ 200 → IsReply body said → told ≡ granted asked said → Tells asked status body told
  refuses : status ≡ 409 → told ≡ refused asked → Tells asked status body told
  no_reply : status ≡ 200 → ((said : LeaseReply) → IsReply body said → ⊥) → told ≡ learned.Nothing → Tells asked status body told
  other : (status ≡ 200 → ⊥) → (status ≡ 409 → ⊥) → told ≡ learned.Nothing → Tells asked status body told
