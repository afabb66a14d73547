-- What became of a request, beside what was recorded of it.
use Rattle.std.specs.Prelude.{◌≡◌, ℕ, Option, Some, None, List, [], map, string_bytes}
use Rattle.std.specs.List.{flat_map}
use Rattle.hex.specs.Hex.{encode_lower}
use Rattle.sha2.specs.Sha256.{sha256}
use Rattle.fuse_msgs.specs.declared.reply.Reply.{Reply}
use Rattle.fuse_msgs.specs.Reply.{IsReply, reply_bytes}
use Rattle.lf_base.specs.declared.pos.Pos.{Pos}
use Rattle.lf_base.specs.Position.{position_text}
use Rattle.lf_sqlite_pages.specs.Change.{PageChange}
use Rattle.conversations.specs.declared.difference.Difference.{Difference}
use Rattle.conversations.specs.declared.difference.Difference.TheVariants as difference
use Rattle.conversations.specs.declared.outcome.Outcome.{Outcome}
use Rattle.conversations.specs.declared.turn.Commit.{Commit}
use Rattle.conversations.specs.declared.turn.Message.{Message}

-- the reply can be sent, and its bytes are recorded as hex; where there is no reply, nothing is
abbrev pub SameReply : Option Reply → ℕ → List ℕ → Type 0
SameReply None unique recorded = recorded ≡ []
SameReply (Some reply) unique recorded = IsReply reply × (recorded ≡ encode_lower (reply_bytes reply unique))

-- the change has the recorded page size and number of pages, and writes the pages of the recorded numbers
pub record SamePages (change : PageChange) (recorded : Commit) : Type 0 where
  pub page_size : change.page_size ≡ recorded.page_size
  pub count : change.commit ≡ recorded.pages
  pub numbers : map (λ w. w.number) change.pages ≡ recorded.numbers.items

-- the SHA-256 of the pages that it writes, one after another, is recorded as hex
abbrev pub SameBytes : PageChange → List ℕ → Type 0
SameBytes change recorded = recorded ≡ encode_lower (sha256 (flat_map (λ w. w.bytes) change.pages))

-- the position is recorded as it prints
abbrev pub SamePosition : Pos → List ℕ → Type 0
SamePosition position recorded = recorded ≡ position_text position

-- a change, and the position after it, are the recorded ones
pub record SameChange (change : PageChange) (position : Pos) (recorded : Commit) : Type 0 where
  pub pages : SamePages change recorded
  pub bytes : SameBytes change (string_bytes recorded.digest)
  pub stands : SamePosition position (string_bytes recorded.position)

-- what was committed is what was recorded, or nothing was of both
abbrev pub SameCommit : Option PageChange → Pos → Option Commit → Type 0
SameCommit None position None = Unit {0}
SameCommit None position (Some recorded) = ⊥
SameCommit (Some change) position None = ⊥
SameCommit (Some change) position (Some recorded) = SameChange change position recorded

-- what became of a request is what was recorded; the database stands at the position afterwards
pub record AsRecorded (outcome : Outcome) (position : Pos) (unique : ℕ) (recorded : Message) : Type 0 where
  pub commit : SameCommit outcome.change position recorded.commit
  pub reply : SameReply outcome.reply unique (string_bytes recorded.reply)

-- how a change differs: pages before bytes, and bytes before the position
abbrev pub ChangeDiffers : PageChange → Pos → Commit → Difference → Type 0
ChangeDiffers change position recorded difference.Pages = ¬ SamePages change recorded
ChangeDiffers change position recorded difference.Bytes = SamePages change recorded × ¬ SameBytes change (string_bytes recorded.digest)
ChangeDiffers change position recorded difference.Position =
    SamePages change recorded × SameBytes change (string_bytes recorded.digest) × ¬ SamePosition position (string_bytes recorded.position)
ChangeDiffers change position recorded _ = ⊥

-- how a commit differs: one of the two is missing, or the changes differ
abbrev pub CommitDiffers : Option PageChange → Pos → Option Commit → Difference → Type 0
CommitDiffers None position None why = ⊥
CommitDiffers None position (Some recorded) why = why ≡ difference.NoCommit
CommitDiffers (Some change) position None why = why ≡ difference.Commit
CommitDiffers (Some change) position (Some recorded) why = ChangeDiffers change position recorded why

-- how an outcome differs: the commit before the reply
abbrev pub OutcomeDiffers : Outcome → Pos → ℕ → Message → Difference → Type 0
OutcomeDiffers outcome position unique recorded difference.Reply =
    SameCommit outcome.change position recorded.commit × ¬ SameReply outcome.reply unique (string_bytes recorded.reply)
OutcomeDiffers outcome position unique recorded why = CommitDiffers outcome.change position recorded.commit why
