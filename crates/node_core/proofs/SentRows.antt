-- Worked rows of a commit that is sent, and of its reply. Permit 1 was got, and ends at 1,200.
use Rattle.std.proofs.Common.{◌≡◌, ◌≢◌, ◌∙◌, ℕ, Bool, true, false, None, Some, Option, inl, inr, refl, sym, ap}
use Rattle.lf_base.specs.declared.errno.Errno.{Errno}
use Rattle.lf_disk.specs.History.{History}
use Rattle.fuse_msgs.specs.declared.reply.Reply.{Reply}
use Rattle.ltx_codec.specs.Positions.{after, before}
use Rattle.file_view.specs.Endings.{abandoned, applied, committed}
use Rattle.file_view.specs.Errno.{EIO}
use Rattle.halt_forward.specs.declared.halt_pass.HaltPass.{HaltPass}
use Rattle.lease_core.specs.Belief.{LeaseBelief, lasting, no_belief}
use Rattle.node_core.specs.declared.answer.Answer.{Answer}
use Rattle.node_core.specs.declared.answer.Answer.TheVariants as answers
use Rattle.node_core.specs.declared.sent.Sent.{Sent}
use Rattle.node_core.specs.declared.standing.Standing.{Standing}
use Rattle.node_core.specs.Nodes.{NodeParts}
use Rattle.node_core.specs.Replying.{AnswersForwarded, IsDue, finished, given_up}
use Rattle.node_core.specs.Roles.{permit_out, write_permit}
use Rattle.node_core.specs.Stores.{position}
use Rattle.node_core.specs.Waiting.{has_sent, overtaken}

abbrev permit : HaltPass
permit = record { number = 1; until = 1200 }

-- a node that got it, at this moment
abbrev got : LeaseBelief → ℕ → Standing
got belief moment = record { belief = belief; moment = moment; pass = Some permit; permits = record { ttl = 1000; moment = 0; given = 0; last = None } }

-- it is written under until its end, and not behind a lease
writes : write_permit (got no_belief 1199) ≡ Some permit
writes = refl

ended : write_permit (got no_belief 1200) ≡ None
ended = refl

leads : write_permit (got lasting 1199) ≡ None
leads = refl

-- what is sent is its session's, and is overtaken where another image comes
module _ (reply : Reply) (sent : Sent) where
  own : has_sent (Some (record sent { caller = 3 })) 3 ≡ true
  own = refl

  another : has_sent (Some (record sent { caller = 3 })) 4 ≡ false
  another = refl

  nothing_sent : has_sent None 3 ≡ false
  nothing_sent = refl

  taken_over : overtaken (Some sent) ≡ Some (record sent { overtaken = true })
  taken_over = refl

-- the table of replies
module _ (start : History) (old : NodeParts) (end : History) (new : NodeParts) (said : Option Errno) where
  -- nothing sent: 5, and nothing is done
  nothing : (ok : Bool) (answer : Answer) → AnswersForwarded None ok start old answer end new said → (answer ≡ answers.Refuse EIO) × (new ≡ old)
  nothing ok answer is = (is.0, is.1.0)

  module _ (sent : Sent) where
    -- not ok: 5, and the request changes nothing
    refused : (answer : Answer) → AnswersForwarded (Some sent) false start old answer end new said → (answer ≡ answers.Refuse EIO) × (new ≡ given_up old)
    refused answer is = (is.0, is.1.0)

    -- ok, and it is due: the request is done over the image that the file leads to
    done : (reply : Reply) → IsDue old sent → sent.overtaken ≡ false → AnswersForwarded (Some sent) true start old (answers.Done reply) end new said →
        (reply ≡ sent.reply) × (new.files ≡ record (committed old.files) { position = after sent.file }) × (new.sent ≡ None)
    done reply due fresh (inl is) = (
      is.1.0,
      ap (λ (n : NodeParts). n.files) is.1.1.same
          ∙ (λ i. record (finished (fresh i) sent.file.header.page_size sent.file.header.commit old.files) { position = after sent.file }),
      ap (λ (n : NodeParts). n.sent) is.1.1.same,
    )
    done reply due fresh (inr other) = absurd (other.0 due)

    -- the same, overtaken: nothing of the request is done, and the files are the new image
    done_over : (reply : Reply) → IsDue old sent → sent.overtaken ≡ true → AnswersForwarded (Some sent) true start old (answers.Done reply) end new said →
        (reply ≡ sent.reply) × (new.files ≡ record (applied (abandoned old.files) sent.file.header.page_size sent.file.header.commit) { position = after sent.file }) × (new.sent ≡ None)
    done_over reply due over (inl is) = (
      is.1.0,
      ap (λ (n : NodeParts). n.files) is.1.1.same
          ∙ (λ i. record (finished (over i) sent.file.header.page_size sent.file.header.commit old.files) { position = after sent.file }),
      ap (λ (n : NodeParts). n.sent) is.1.1.same,
    )
    done_over reply due over (inr other) = absurd (other.0 due)

    -- ok, and the node stands where the file leads: done, and the request changes nothing more
    there : (answer : Answer) → (IsDue old sent → ⊥) → position old.store ≡ after sent.file → AnswersForwarded (Some sent) true start old answer end new said →
        (answer ≡ answers.Done sent.reply) × (new ≡ given_up old)
    there answer other here (inl is) = absurd (other is.0)
    there answer other here (inr (not, inl is, gives)) = (is.1, gives.0)
    there answer other here (inr (not, inr is, gives)) = absurd (is.0 here)

    -- ok, else: 5
    elsewhere : (answer : Answer) → before sent.file ≢ position old.store → position old.store ≢ after sent.file → AnswersForwarded (Some sent) true start old answer end new said →
        (answer ≡ answers.Refuse EIO) × (new ≡ given_up old)
    elsewhere answer apart far (inl is) = absurd (apart is.0.next)
    elsewhere answer apart far (inr (not, inl is, gives)) = absurd (far is.0)
    elsewhere answer apart far (inr (not, inr is, gives)) = (is.1, gives.0)

    -- a permit that is out holds it back
    barred : (pass : HaltPass) → permit_out old.standing ≡ Some pass → IsDue old sent → ⊥
    barred pass out due = let no : Some pass ≡ None = sym out ∙ due.free in cc
