-- A conversation, turn by turn.
use Rattle.std.specs.Prelude.{◌≡◌, ℕ, zero, suc, ◌+◌, ◌-◌, ◌^◌, ◌==◌, ◌&&◌, not, min, ◌↔◌, ◌⊎◌, Option, Some, None, IfSome, bit_xor, codes, length, unwrap_or, [], if◌then◌else◌}
use Rattle.page_checksum.specs.Sums.{flagged, page_sum_of}
use Rattle.lf_base.specs.declared.pos.Pos.{Pos}
use Rattle.lf_sqlite_pages.specs.Apply.{apply}
use Rattle.lf_sqlite_pages.specs.Change.{empty_change}
use Rattle.lf_sqlite_pages.specs.Complete.{complete}
use Rattle.lf_sqlite_pages.specs.Image.{DatabaseImage, empty_image, page_at}
use Rattle.lf_sqlite_pages.specs.PageSize.{is_page_size}
use Rattle.fuse_msgs.specs.declared.fault.BadMessage.{BadMessage}
use Rattle.fuse_msgs.specs.declared.request.Request.{Request}
use Rattle.fuse_msgs.specs.Message.{IsMessage, refusal}
use Rattle.file_view.specs.declared.fault.ViewFault.{ViewFault}
use Rattle.file_view.specs.declared.requests.Plan.{Plan}
use Rattle.file_view.specs.declared.requests.Plan.TheVariants as plan
use Rattle.file_view.specs.Done.{IsDone}
use Rattle.file_view.specs.Endings.{applied, committed, dropped, ended}
use Rattle.file_view.specs.Needs.{needs_of}
use Rattle.file_view.specs.Refusal.{HasCause}
use Rattle.file_view.specs.Requests.{rows_of}
use Rattle.file_view.specs.Served.{Served}
use Rattle.file_view.specs.Views.{new_view}
use Rattle.conversations.specs.AsRecorded.{AsRecorded, OutcomeDiffers}
use Rattle.conversations.specs.declared.difference.Difference.{Difference}
use Rattle.conversations.specs.declared.difference.Difference.TheVariants as difference
use Rattle.conversations.specs.declared.outcome.Outcome.{Outcome}
use Rattle.conversations.specs.declared.replay.Replay.{Replay}
use Rattle.conversations.specs.declared.turn.Message.{Message}
use Rattle.conversations.specs.declared.turn.Start.{Start}
use Rattle.conversations.specs.declared.turn.Turn.{Turn}
use Rattle.conversations.specs.declared.turn.Turn.TheVariants as turn
use Rattle.conversations.specs.Outcomes.{refused, without_commit}
use Rattle.conversations.specs.Standing.{scene_over}

-- a count with one more, which stays at its end
abbrev pub one_more : ℕ → ℕ
one_more count = min (count + 1) (2 ^ 64 - 1)

-- the sums of the first pages of an image, so many, taken together by XOR
abbrev pub sum_to : DatabaseImage → ℕ → ℕ
sum_to image zero = 0
sum_to image (suc n) = bit_xor (sum_to image n) (page_sum_of (suc n) (unwrap_or (page_at image (suc n)) []))

-- where a database stands to which so many transactions led: the sum of all its pages, with bit 63
abbrev pub position_at : DatabaseImage → ℕ → Pos
position_at image transactions = record { txid = transactions; sum = flagged (sum_to image (length image.pages)) }

-- an image of pages of zeros: what a change that writes none makes of nothing. It has no page where the page size is none
abbrev pub zero_image : Start → DatabaseImage
zero_image start =
    if not (start.pages == 0) && is_page_size start.page_size then apply empty_image (complete empty_image (empty_change start.page_size start.pages))
    else empty_image

-- these served files, over an image to which so many transactions led
pub record IsAt (image : DatabaseImage) (files : Served) (transactions : ℕ) (replay : Replay) : Type 0 where
  pub image_is : replay.files.image ≡ image
  pub files_are : replay.files.view ≡ files
  pub transactions_are : replay.transactions ≡ transactions

-- the same, with the position there made known to the files
abbrev pub IsOver : DatabaseImage → Served → ℕ → Replay → Type 0
IsOver image files transactions replay = IsAt image (record files { position = position_at image transactions }) transactions replay

-- those of the database `app`, before any request
abbrev pub IsNew : DatabaseImage → ℕ → Replay → Type 0
IsNew image transactions replay = IsOver image (new_view (codes "app")) transactions replay

-- a request is done as planned, and the files are these; a change is committed, and comes out complete
abbrev pub Follows : Plan → Replay → Served → Outcome → Replay → Type 0
Follows (plan.Reply reply) old files outcome new = (outcome ≡ without_commit (Some reply)) × IsAt old.files.image files old.transactions new
Follows plan.Silent old files outcome new = (outcome ≡ without_commit None) × IsAt old.files.image files old.transactions new
Follows (plan.Commit reply change) old files outcome new =
    (outcome ≡ record { reply = Some reply; change = Some (complete old.files.image change) }) ×
    IsOver (apply old.files.image change) (committed files) (one_more old.transactions) new

-- a request of a message was refused, and nothing changed
pub record IsRefused (old : Replay) (message : Message) (request : Request) (fault : ViewFault) (outcome : Outcome) (new : Replay) : Type 0 where
  pub cause : HasCause (needs_of old.files.view request) (rows_of old.files.view (scene_over old.files.image message.link message.role) request) fault
  pub outcome_is : outcome ≡ refused fault
  pub same : IsAt old.files.image old.files.view old.transactions new

-- a request of a message went by this plan, after which the files were these
pub record IsPlanned (old : Replay) (message : Message) (request : Request) (p : Plan) (files : Served) (outcome : Outcome) (new : Replay) : Type 0 where
  pub done : IsDone (Some old.files.image) old.files.view (scene_over old.files.image message.link message.role) request p files
  pub follows : Follows p old files outcome new

-- what becomes of a request
abbrev pub IsAnswered : Replay → Message → Request → Outcome → Replay → Type 0
IsAnswered old message request outcome new =
    ((p : Plan) × (files : Served) × IsPlanned old message request p files outcome new)
    ⊎ ((fault : ViewFault) × IsRefused old message request fault outcome new)

-- the bytes of a message are a request, and what became of it was compared with the record
pub record IsCompared (old : Replay) (message : Message) (request : Request) (outcome : Outcome) (why : Option Difference) (new : Replay) : Type 0 where
  pub message_is : IsMessage message.request.items request
  pub answered : IsAnswered old message request outcome new
  pub same : (why ≡ None) ↔ AsRecorded outcome (position_at new.files.image new.transactions) request.unique message
  pub differs : IfSome why (OutcomeDiffers outcome (position_at new.files.image new.transactions) request.unique message)

-- the bytes of a message are no request
pub record IsUnread (old : Replay) (message : Message) (fault : BadMessage) (why : Option Difference) (new : Replay) : Type 0 where
  pub refused : refusal message.request.items ≡ Some fault
  pub why_is : why ≡ Some difference.Request
  pub same : new ≡ old

-- a message was taken, and this is how it differs from the record
abbrev pub Heard : Replay → Message → Option Difference → Replay → Type 0
Heard old message why new =
    ((request : Request) × (outcome : Outcome) × IsCompared old message request outcome why new)
    ⊎ ((fault : BadMessage) × IsUnread old message fault why new)

-- a turn was taken. Only a message is compared with anything
abbrev pub Taken : Replay → Turn → Option Difference → Replay → Type 0
Taken old (turn.Start start) why new = (why ≡ None) × IsNew (zero_image start) start.transactions new
Taken old (turn.Applied start) why new = (why ≡ None) ×
    IsOver (zero_image start) (applied old.files.view (zero_image start).page_size (length (zero_image start).pages)) start.transactions new
Taken old turn.Lost why new = (why ≡ None) × IsAt old.files.image (dropped old.files.view) old.transactions new
Taken old (turn.End link) why new = (why ≡ None) × IsAt old.files.image (ended old.files.view link) old.transactions new
Taken old (turn.Message message) why new = Heard old message why new
