-- A request and what comes of it.
use Rattle.std.proofs.Common.{◌≡◌, ℕ, ◌+◌, ◌<◌, ◌≤◌, List, [], ◌++◌, length, take, Option, Some, None, Result, Ok, Err, refl, sym, ap, ◌∙◌, subst, arith, append-nil}
use Rattle.std.specs.Prelude.{IfOk, IfErr}
use Rattle.std.specs.Io.KnownBytes.{Appends, Consumes, Keeps}
use Rattle.std.proofs.KnownBytes.{Consumes-nil, Consumes-trans}
use Rattle.lf_base.specs.Faults.{Rose}
use Rattle.fuse_msgs.specs.declared.reply.Reply.{Reply}
use Rattle.fuse_msgs.specs.declared.request.Request.{Request}
use Rattle.fuse_msgs.specs.Encoding.{request_bytes}
use Rattle.run_child.specs.declared.child_end.ChildEnd.{ChildEnd}
use Rattle.run_child.specs.declared.child_end.ChildEnd.TheVariants as ends
use Rattle.run_child.specs.declared.filling.Unfilled.{Unfilled}
use Rattle.run_child.specs.declared.filling.Unfilled.TheVariants as why
use Rattle.run_child.specs.Filling.{IsGathered, IsGatheredPart, LacksMore, end_of}
use Rattle.run_child.specs.Replies.{awaited}
use Rattle.run_child.specs.Talk.{AppendsPart, Asked, Heard, IsCutOff, IsJudged, IsMisread, IsStill, IsWaiting, Place, Says, Sent, Stopped, cut, unfit}

kept_here : (a : Option (List ℕ)) → Keeps a a
kept_here None = tt
kept_here (Some xs) = refl

-- nothing happens between a place and itself
pub still_here : (p : Place) → IsStill p p
still_here p = record { written = kept_here p.taken; heard = record { read = Consumes-nil p.left; counted = omega arith } }

kept : (a b : Option (List ℕ)) → Keeps a b → Consumes a b []
kept None b k = tt
kept (Some xs) None k = absurd k
kept (Some xs) (Some ys) k = sym k

appends_kept : (a b c : Option (List ℕ)) (xs : List ℕ) → Appends a b xs → Keeps b c → Appends a c xs
appends_kept None b c xs p k = tt
appends_kept (Some us) None c xs p k = absurd p
appends_kept (Some us) (Some vs) None xs p k = absurd k
appends_kept (Some us) (Some vs) (Some ws) xs p k = k ∙ p

-- a request was written between the first two places, and bytes were read between the last two
pub record IsBetween (request : Request) (a b c : Place) : Type 0 where
  pub written : Appends a.taken b.taken (request_bytes request)
  pub unread : Keeps a.left b.left
  pub room : b.room ≡ a.room
  pub faults : b.faults ≡ a.faults
  pub unwritten : Keeps b.taken c.taken

sent_from : (request : Request) (bytes : List ℕ) (a b c : Place) → IsBetween request a b c → Heard bytes b c → Sent request bytes a c
sent_from request bytes a b c i h = record {
  written = appends_kept a.taken b.taken c.taken (request_bytes request) i.written i.unwritten;
  heard = record {
    read = Consumes-trans a.left b.left c.left [] bytes (kept a.left b.left i.unread) h.read;
    counted = sym i.room ∙ h.counted;
  };
}

pub asked_from : (request : Request) (bytes : List ℕ) (answer : Reply) (a b c : Place) → IsBetween request a b c
    → IsGathered request.op bytes b c → Says request bytes answer → Asked request answer a c
asked_from request bytes answer a b c i g s = record {
  bytes = bytes;
  sent = sent_from request bytes a b c i g.heard;
  says = s;
  well = g.well ∙ i.faults;
}

-- a reply that is no answer ends the run
pub judged_from : (request : Request) (bytes : List ℕ) (end : ChildEnd) (a b c : Place) → IsBetween request a b c
    → IsGathered request.op bytes b c → IsJudged request bytes end → Stopped request a c end
judged_from request bytes (ends.Refused errno) a b c i g j = record {
  bytes = bytes;
  sent = sent_from request bytes a b c i g.heard;
  says = j;
  well = g.well ∙ i.faults;
}
judged_from request bytes ends.BadMessage a b c i g j = (unfit bytes (sent_from request bytes a b c i g.heard) j, g.well ∙ i.faults)
judged_from request bytes (ends.Ended status) a b c i g j = absurd j
judged_from request bytes ends.NotStarted a b c i g j = absurd j
judged_from request bytes ends.ReadFault a b c i g j = absurd j
judged_from request bytes ends.WriteFault a b c i g j = absurd j
judged_from request bytes ends.Turns a b c i g j = absurd j
judged_from request bytes ends.NoMemory a b c i g j = absurd j

waiting : (request : Request) (cause : Unfilled) (a b c : Place) → IsBetween request a b c → IsGatheredPart request.op b c cause → IsWaiting request a c
waiting request cause a b c i g = record { bytes = g.bytes; sent = sent_from request g.bytes a b c i g.heard; short = g.short }

-- a reply that did not come whole ends it
pub unfilled_from : (request : Request) (cause : Unfilled) (a b c : Place) → IsBetween request a b c → IsGatheredPart request.op b c cause
    → Stopped request a c (end_of cause)
unfilled_from request why.Ended a b c i g = (cut (waiting request why.Ended a b c i g) g.lacks.0, g.lacks.1 ∙ i.faults)
unfilled_from request why.Turns a b c i g = (waiting request why.Turns a b c i g, g.lacks.0, g.lacks.1 ∙ i.faults)
unfilled_from request why.ReadFault a b c i g =
    (waiting request why.ReadFault a b c i g, subst (λ n. Rose n c.faults) i.faults g.lacks)

-- a request that was not written whole
pub cut_off : (request : Request) (a b : Place) → AppendsPart a.taken b.taken (request_bytes request) → Keeps a.left b.left
    → b.room ≡ a.room → IsCutOff request a b
cut_off request a b p k r = record { written = p; heard = record { read = kept a.left b.left k; counted = omega (arith, r) } }

-- ---- what the judgement of a reply gives

pub asked_of : (request : Request) (bytes : List ℕ) (a b c : Place) (r : Result Reply ChildEnd) → IsBetween request a b c
    → IsGathered request.op bytes b c → IfOk r (Says request bytes) → IfOk r (λ answer. Asked request answer a c)
asked_of request bytes a b c (Ok answer) i g s = asked_from request bytes answer a b c i g s
asked_of request bytes a b c (Err end) i g s = tt

pub judged_of : (request : Request) (bytes : List ℕ) (a b c : Place) (r : Result Reply ChildEnd) → IsBetween request a b c
    → IsGathered request.op bytes b c → IfErr r (IsJudged request bytes) → IfErr r (Stopped request a c)
judged_of request bytes a b c (Ok answer) i g j = tt
judged_of request bytes a b c (Err end) i g j = judged_from request bytes end a b c i g j

-- memory ran out before anything was sent
pub out_of_memory : (request : Request) (p : Place) → Stopped request p p ends.NoMemory
out_of_memory request p = (still_here p, refl)

-- ---- the same request and answer, by another name

pub asked_same : (r s : Request) (x y : Reply) (a b : Place) → r ≡ s → x ≡ y → Asked r x a b → Asked s y a b
asked_same r s x y a b p q h = subst (λ (t : Request). Asked t y a b) p (subst (λ (z : Reply). Asked r z a b) q h)

pub stopped_same : (r s : Request) (a b : Place) (end : ChildEnd) → r ≡ s → Stopped r a b end → Stopped s a b end
stopped_same r s a b end p h = subst (λ (t : Request). Stopped t a b end) p h

pub memory_stops : (request : Request) (p : Place) (end : ChildEnd) → end ≡ ends.NoMemory → Stopped request p p end
memory_stops request p end e = subst (λ (x : ChildEnd). Stopped request p p x) (sym e) (out_of_memory request p)
