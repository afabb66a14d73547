-- What a run has written, and what it has started.
use Rattle.std.proofs.Common.{◌≡◌, ⊎_elim, inl, inr, ◌⊎◌, ℕ, ◌+◌, ◌<◌, ◌≤◌, List, [], ◌∷◌, ◌++◌, length, take, drop, Option, Some, None, refl, sym, ap, ◌∙◌, subst, append_assoc, append-nil, take-append-drop}
use Rattle.std.specs.Io.KnownBytes.{Appends, Keeps}
use Rattle.std.proofs.KnownBytes.{Appends-nil, Appends-trans, Consumes-nil}
use Rattle.lf_base.specs.Faults.{Rose}
use Rattle.fuse_msgs.specs.declared.reply.Reply.TheVariants as reply
use Rattle.fuse_msgs.specs.declared.request.Request.{Request}
use Rattle.fuse_msgs.specs.Encoding.{request_bytes}
use Rattle.run_child.specs.declared.child_end.ChildEnd.{ChildEnd}
use Rattle.run_child.specs.declared.closing.Closing.{Closing}
use Rattle.run_child.specs.declared.child_end.ChildEnd.TheVariants as ends
use Rattle.run_child.specs.Closing.{IsClosing}
use Rattle.run_child.specs.Course.{IsFound, IsOpened, IsGranted, StopsEarly, at_init, at_look_up, at_open, at_lock, Closes, RanUnderLock, FailedUnderLock, NoneStarted, Ends}
use Rattle.run_child.specs.Requests.{destroy, init, last_three, look_up, open_file, release, seven, take_lock, unlock}
use Rattle.run_child.specs.Started.{Started, TellsOne, TellsSame}
use Rattle.run_child.specs.Starts.{Book, Tries}
use Rattle.run_child.specs.Talk.{AppendsPart, Asked, IsCutOff, IsMisread, IsStill, IsWaiting, Place, Stopped, Wrote, Heard, cut, unfit}
use Rattle.run_child.specs.Whole.{StartsOnce, WritesFront, none, one}
use Rattle.run_child.proofs.Faults.{rose_later}
use Rattle.run_child.proofs.Lists.{part_behind, part_of_front}

kept_none : (a b : Option (List ℕ)) → Keeps a b → Appends a b []
kept_none None b k = tt
kept_none (Some xs) None k = absurd k
kept_none (Some xs) (Some ys) k = k ∙ sym (append-nil xs)

-- ---- a message behind another

pub first_failed : (text more : List ℕ) (a b : Place) → AppendsPart a.taken b.taken text → Rose a.faults b.faults → Wrote (text ++ more) a b
first_failed text more a b p r = inr (part_of_front a.taken b.taken text more p, r)

pub then_wrote : (text more : List ℕ) (a b c : Place) → Appends a.taken b.taken text → a.faults ≤ b.faults → Wrote more b c → Wrote (text ++ more) a c
then_wrote text more a b c w f l = elim l [
  | inl rest ↦ inl (Appends-trans a.taken b.taken c.taken text more w rest)
  | inr rest ↦ inr (part_behind a.taken b.taken c.taken text more w rest.0, rose_later a.faults b.faults c.faults f rest.1)
]

-- ---- a front of a text was written

record Front (all : List ℕ) (old new : Option (List ℕ)) : Type 0 where
  bytes : List ℕ
  more : List ℕ
  written : Appends old new bytes
  front : bytes ++ more ≡ all

front_of : (text more : List ℕ) (a b : Option (List ℕ)) → Front text a b → Front (text ++ more) a b
front_of text more a b f = record {
  bytes = f.bytes;
  more = f.more ++ more;
  written = f.written;
  front = sym (append_assoc f.bytes f.more more) ∙ ap (λ t. t ++ more) f.front;
}

behind : (text more : List ℕ) (a b c : Option (List ℕ)) → Appends a b text → Front more b c → Front (text ++ more) a c
behind text more a b c w f = record {
  bytes = text ++ f.bytes;
  more = f.more;
  written = Appends-trans a b c text f.bytes w f.written;
  front = append_assoc text f.bytes f.more ∙ ap (λ t. text ++ t) f.front;
}

all_of : (text : List ℕ) (a b : Option (List ℕ)) → Appends a b text → Front text a b
all_of text a b w = record { bytes = text; more = []; written = w; front = append-nil text }

part_of : (text : List ℕ) (a b : Option (List ℕ)) → AppendsPart a b text → Front text a b
part_of text a b p = record { bytes = take p.0 text; more = drop p.0 text; written = p.2; front = take-append-drop p.0 text }

none_of : (text : List ℕ) (a b : Option (List ℕ)) → Keeps a b → Front text a b
none_of text a b k = record { bytes = []; more = text; written = kept_none a b k; front = refl }

wrote_front : (text : List ℕ) (a b : Place) → Wrote text a b → Front text a.taken b.taken
wrote_front text a b w = elim w [
  | inl rest ↦ all_of text a.taken b.taken rest
  | inr rest ↦ part_of text a.taken b.taken rest.0
]

misread_front : (request : Request) (a b : Place) → IsMisread request a b → Front (request_bytes request) a.taken b.taken
misread_front request a b (cut w e) = all_of _ a.taken b.taken w.sent.written
misread_front request a b (unfit bytes s u) = all_of _ a.taken b.taken s.written

stopped_front : (request : Request) (a b : Place) (end : ChildEnd) → Stopped request a b end → Front (request_bytes request) a.taken b.taken
stopped_front request a b (ends.Refused errno) s = all_of _ a.taken b.taken s.sent.written
stopped_front request a b ends.BadMessage s = misread_front request a b s.0
stopped_front request a b ends.Turns s = all_of _ a.taken b.taken s.0.sent.written
stopped_front request a b ends.ReadFault s = all_of _ a.taken b.taken s.0.sent.written
stopped_front request a b ends.WriteFault s = part_of _ a.taken b.taken s.0.written
stopped_front request a b ends.NoMemory s = none_of _ a.taken b.taken s.0.written
stopped_front request a b (ends.Ended status) s = absurd s
stopped_front request a b ends.NotStarted s = absurd s

-- ---- the four, and then the rest

front_at : (name : List ℕ) (node fh : ℕ) (old new : Place) → Front (seven name node fh) old.taken new.taken → WritesFront name old new
front_at name node fh old new f = record { node = node; fh = fh; bytes = f.bytes; more = f.more; written = f.written; front = f.front }

-- the requests from the fourth on, from the third, from the second
abbrev from_lock : ℕ → ℕ → List ℕ
from_lock node fh = request_bytes (take_lock node fh) ++ last_three node fh

abbrev from_open : ℕ → ℕ → List ℕ
from_open node fh = request_bytes (open_file node) ++ from_lock node fh

abbrev from_look_up : List ℕ → ℕ → ℕ → List ℕ
from_look_up name node fh = request_bytes (look_up name) ++ from_open node fh

at_second : (name : List ℕ) (node fh : ℕ) (old p new : Place) → Asked init reply.Init old p
    → Front (from_look_up name node fh) p.taken new.taken → WritesFront name old new
at_second name node fh old p new a f = front_at name node fh old new
    (behind (request_bytes init) (from_look_up name node fh) old.taken p.taken new.taken a.sent.written f)

at_third : (name : List ℕ) (node fh : ℕ) (old p new : Place) → IsFound name node old p
    → Front (from_open node fh) p.taken new.taken → WritesFront name old new
at_third name node fh old p new i f = at_second name node fh old i.begun new i.first
    (behind (request_bytes (look_up name)) (from_open node fh) i.begun.taken p.taken new.taken i.second.sent.written f)

at_fourth : (name : List ℕ) (node fh : ℕ) (old p new : Place) → IsOpened name node fh old p
    → Front (from_lock node fh) p.taken new.taken → WritesFront name old new
at_fourth name node fh old p new o f = at_third name node fh old o.found new o.before
    (behind (request_bytes (open_file node)) (from_lock node fh) o.found.taken p.taken new.taken o.third.sent.written f)

early_front : (name : List ℕ) (old new : Place) (end : ChildEnd) → StopsEarly name old new end → WritesFront name old new
early_front name old new end (at_init s) = front_at name 0 0 old new
    (front_of (request_bytes init) (from_look_up name 0 0) old.taken new.taken (stopped_front init old new end s))
early_front name old new end (at_look_up p a s) = at_second name 0 0 old p new a
    (front_of (request_bytes (look_up name)) (from_open 0 0) p.taken new.taken (stopped_front (look_up name) p new end s))
early_front name old new end (at_open node p f s) = at_third name node 0 old p new f
    (front_of (request_bytes (open_file node)) (from_lock node 0) p.taken new.taken (stopped_front (open_file node) p new end s))
early_front name old new end (at_lock node fh p o s) = at_fourth name node fh old p new o
    (front_of (request_bytes (take_lock node fh)) (last_three node fh) p.taken new.taken (stopped_front (take_lock node fh) p new end s))

granted_front : (name : List ℕ) (node fh : ℕ) (old locked new : Place) → IsGranted name node fh old locked → Closes node fh locked new
    → WritesFront name old new
granted_front name node fh old locked new g c = at_fourth name node fh old g.opened new g.before
    (behind (request_bytes (take_lock node fh)) (last_three node fh) g.opened.taken locked.taken new.taken g.fourth.sent.written
    (wrote_front (last_three node fh) locked new c))

pub front_written : (name : List ℕ) (words : List (List ℕ)) (old new : Place) (book book_now : Book) (end : ChildEnd)
    → Ends name words old new book book_now end → WritesFront name old new
front_written name words old new book book_now (ends.Ended status) e = granted_front name e.node e.fh old e.locked new e.granted e.closed
front_written name words old new book book_now ends.NotStarted e = granted_front name e.node e.fh old e.locked new e.granted e.closed
front_written name words old new book book_now (ends.Refused errno) e = early_front name old new _ e.stopped
front_written name words old new book book_now ends.BadMessage e = early_front name old new _ e.stopped
front_written name words old new book book_now ends.Turns e = early_front name old new _ e.stopped
front_written name words old new book book_now ends.ReadFault e = early_front name old new _ e.stopped
front_written name words old new book book_now ends.WriteFault e = early_front name old new _ e.stopped
front_written name words old new book book_now ends.NoMemory e = early_front name old new _ e.stopped

-- ---- one start at most

same_starts : (a : Option (List Started)) → TellsSame a a
same_starts None = tt
same_starts (Some xs) = refl

same_book : (name : List ℕ) (words : List (List ℕ)) (old : Place) (book book_now : Book) → book_now ≡ book → StartsOnce name words old book book_now
same_book name words old book book_now e = none (subst (λ (b : Book). TellsSame book.starts b.starts) (sym e) (same_starts book.starts))

pub started_once : (name : List ℕ) (words : List (List ℕ)) (old new : Place) (book book_now : Book) (end : ChildEnd)
    → Ends name words old new book book_now end → StartsOnce name words old book book_now
started_once name words old new book book_now (ends.Ended status) e = one status e.node e.fh e.locked e.started e.granted
started_once name words old new book book_now ends.NotStarted e = none e.started
started_once name words old new book book_now (ends.Refused errno) e = same_book name words old book book_now e.same
started_once name words old new book book_now ends.BadMessage e = same_book name words old book book_now e.same
started_once name words old new book book_now ends.Turns e = same_book name words old book book_now e.same
started_once name words old new book book_now ends.ReadFault e = same_book name words old book book_now e.same
started_once name words old new book book_now ends.WriteFault e = same_book name words old book book_now e.same
started_once name words old new book book_now ends.NoMemory e = same_book name words old book book_now e.same

-- ---- how a run ends

no_end : (name : List ℕ) (old new : Place) (status : ℕ) → StopsEarly name old new (ends.Ended status) → ⊥
no_end name old new status (at_init s) = s
no_end name old new status (at_look_up p a s) = s
no_end name old new status (at_open node p f s) = s
no_end name old new status (at_lock node fh p o s) = s

no_start : (name : List ℕ) (old new : Place) → StopsEarly name old new ends.NotStarted → ⊥
no_start name old new (at_init s) = s
no_start name old new (at_look_up p a s) = s
no_start name old new (at_open node p f s) = s
no_start name old new (at_lock node fh p o s) = s

pub early_end : (name : List ℕ) (words : List (List ℕ)) (old new : Place) (book : Book) (end : ChildEnd) → StopsEarly name old new end
    → Ends name words old new book book end
early_end name words old new book (ends.Ended status) s = absurd (no_end name old new status s)
early_end name words old new book ends.NotStarted s = absurd (no_start name old new s)
early_end name words old new book (ends.Refused errno) s = record { stopped = s; same = refl }
early_end name words old new book ends.BadMessage s = record { stopped = s; same = refl }
early_end name words old new book ends.Turns s = record { stopped = s; same = refl }
early_end name words old new book ends.ReadFault s = record { stopped = s; same = refl }
early_end name words old new book ends.WriteFault s = record { stopped = s; same = refl }
early_end name words old new book ends.NoMemory s = record { stopped = s; same = refl }

pub closing_is : (node fh : ℕ) (closing : Closing) (old new : Place) → IsClosing node fh closing
    → Wrote (closing.unlock ++ (closing.release ++ closing.destroy)) old new → Closes node fh old new
closing_is node fh closing old new i w =
    subst (λ text. Wrote text old new)
    (ap (λ t. t ++ (closing.release ++ closing.destroy)) i.unlock_is
    ∙ ap (λ t. request_bytes (unlock node fh) ++ (t ++ closing.destroy)) i.release_is
    ∙ ap (λ t. request_bytes (unlock node fh) ++ (request_bytes (release node fh) ++ t)) i.destroy_is) w

pub held_end : (name : List ℕ) (words : List (List ℕ)) (node fh : ℕ) (old locked new : Place) (book book_now : Book) (end : ChildEnd)
    → IsGranted name node fh old locked → Tries words book book_now end → Closes node fh locked new
    → Ends name words old new book book_now end
held_end name words node fh old locked new book book_now (ends.Ended status) g t c =
    record { node = node; fh = fh; locked = locked; granted = g; started = t.0; well = t.1; closed = c }
held_end name words node fh old locked new book book_now ends.NotStarted g t c =
    record { node = node; fh = fh; locked = locked; granted = g; started = t.0; failed = t.1; closed = c }
held_end name words node fh old locked new book book_now (ends.Refused errno) g t c = absurd t
held_end name words node fh old locked new book book_now ends.BadMessage g t c = absurd t
held_end name words node fh old locked new book book_now ends.Turns g t c = absurd t
held_end name words node fh old locked new book book_now ends.ReadFault g t c = absurd t
held_end name words node fh old locked new book book_now ends.WriteFault g t c = absurd t
held_end name words node fh old locked new book book_now ends.NoMemory g t c = absurd t
