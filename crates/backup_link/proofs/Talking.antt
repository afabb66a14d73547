-- A request, and then its reply.
use Rattle.std.proofs.Common.{◌≡◌, ◌≢◌, ℕ, List, [], ◌++◌, Result, Err, refl, ap, ◌∙◌, subst, append_assoc}
use Rattle.std.specs.Io.KnownBytes.{Appends, Keeps}
use Rattle.std.proofs.KnownBytes.{Appends-kept}
use Rattle.lf_base.specs.declared.link.Link.{Ghosts as LinkGhosts}
use Rattle.http_exchange.specs.Reading.{Gave}
use Rattle.http_exchange.specs.declared.told.Untold.{Untold}
use Rattle.http_exchange.specs.declared.told.Untold.TheVariants as untold
use Rattle.http_exchange.proofs.Giving.{gave_on, kept_appends, kept_nothing}
use Rattle.ltx_codec.specs.declared.file.Ltx.{Ltx}
use Rattle.backup_link.specs.Fetching.{AppendsFront, CanStop, Talks, declined, no_head, sent, stream, unsent}
use Rattle.backup_link.specs.Following.{Follows}
use Rattle.backup_link.specs.Heads.{GaveHead, GaveNoHead, IsWhole}
use Rattle.backup_link.specs.Streaming.{Replies}
use Rattle.backup_link.specs.declared.unfetched.Unfetched.{Unfetched}
use Rattle.backup_link.specs.declared.unfetched.Unfetched.TheVariants as unfetched

-- a front of the request was written, and nothing read
pub talk_unsent : {L : Type 0} (l : LinkGhosts L) (request name : List ℕ) (a b : L) (why : Untold) → Keeps (l.given a) (l.given b)
    → AppendsFront (l.taken a) (l.taken b) request → CanStop {T = Unit {0}} (Err why)
    → Talks request name (l.given a) (l.given b) (l.taken a) (l.taken b) (l.left b) [] (Err (unfetched.Untold why))
talk_unsent l request name a b why kept front stops = record {
  read = [];
  written = front.0;
  gave = kept_nothing (l.given a) (l.given b) kept;
  took = front.3;
  ends = unsent front.1 why front.2 refl stops refl refl;
}

-- the request was written, and the reply read
pub talk_sent : {L : Type 0} (l : LinkGhosts L) (request name : List ℕ) (a b c : L) (Keep : List Ltx → Type 0) (result : Result (Unit {0}) Unfetched) → Keeps (l.given a) (l.given b)
    → Appends (l.taken a) (l.taken b) request → (r : Replies l name b c Keep result)
    → Talks request name (l.given a) (l.given c) (l.taken a) (l.taken c) (l.left c) r.files result
talk_sent l request name a b c Keep result kept whole r = record {
  read = r.bytes;
  written = request;
  gave = kept_appends (l.given a) (l.given b) (l.given c) r.bytes kept r.gave.given;
  took = Appends-kept (l.taken a) (l.taken b) (l.taken c) request whole r.gave.taken;
  ends = sent refl r.ends;
}

-- memory ran out behind some bytes
pub no_memory : {L : Type 0} (l : LinkGhosts L) (name : List ℕ) (a b : L) (bytes : List ℕ) (Keep : List Ltx → Type 0) → Gave l a b bytes → Keep []
    → Replies l name a b Keep (Err (unfetched.Untold untold.NoMemory))
no_memory l name a b bytes Keep gave kept = record { bytes = bytes; files = []; gave = gave; ends = no_head untold.NoMemory tt refl refl; kept = kept }

-- no head came
pub none_came : {L : Type 0} (l : LinkGhosts L) (name : List ℕ) (a b : L) (why : Untold) (Keep : List Ltx → Type 0) → GaveNoHead l a b why → Keep []
    → Replies l name a b Keep (Err (unfetched.Untold why))
none_came l name a b why Keep none kept = record { bytes = none.bytes; files = []; gave = none.gave; ends = no_head why none.why_is refl refl; kept = kept }

-- its status is another
pub other_status : {L : Type 0} (l : LinkGhosts L) (name : List ℕ) (a b : L) (ahead : List ℕ) (status : ℕ) (Keep : List Ltx → Type 0) → GaveHead l a b ahead status → status ≢ 200 → Keep []
    → Replies l name a b Keep (Err unfetched.Reply)
other_status l name a b ahead status Keep head other kept = record {
  bytes = head.head ++ ahead;
  files = [];
  gave = head.gave;
  ends = declined (record { head = head.head; ahead = ahead; status = status; split = refl; whole = head.whole; other = other }) refl refl;
  kept = kept;
}

-- frames came behind it
pub frames_came : {L : Type 0} (l : LinkGhosts L) (name : List ℕ) (a b c : L) (ahead : List ℕ) (status : ℕ) (Keep : List Ltx → Type 0) (result : Result (Unit {0}) Unfetched)
    → GaveHead l a b ahead status → status ≡ 200 → Follows l name b c ahead Keep result → Replies l name a c Keep result
frames_came l name a b c ahead status Keep result head ok f = record {
  bytes = head.head ++ ahead ++ f.more;
  files = f.files;
  gave = gave_on l a b c (head.head ++ ahead) f.more head.gave f.gave;
  ends = stream (record {
    head = head.head;
    text = f.text;
    rest = f.rest;
    split = append_assoc head.head ahead f.more ∙ ap (λ (t : List ℕ). head.head ++ t) f.split;
    whole = subst (λ (n : ℕ). IsWhole n head.head) ok head.whole;
    frames = f.frames;
    ends = f.ends;
  });
  kept = f.kept;
}
