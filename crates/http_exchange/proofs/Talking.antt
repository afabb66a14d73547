-- A request, and then its reply.
use Rattle.std.proofs.Common.{◌≡◌, zero, ℕ, ◌<◌, ◌≤◌, List, [], ◌∷◌, ◌++◌, length, take, Option, Result, Ok, Err, OnOk, OnErr, refl, sym, ◌∙◌, subst, arith}
use Rattle.std.specs.Io.KnownBytes.{Appends, Keeps}
use Rattle.std.proofs.KnownBytes.{Appends-kept, Appends-trans}
use Rattle.lf_base.specs.declared.link.Link.{Ghosts as LinkGhosts}
use Rattle.lf_base.specs.declared.session_end.SessionEnd.{SessionEnd}
use Rattle.lf_base.specs.declared.session_end.SessionEnd.TheVariants as ends
use Rattle.link_session.proofs.Parts.{part_of_back, part_of_front}
use Rattle.link_session.specs.Writing.{AppendsPart, EndsWriting}
use Rattle.stream_wire.specs.declared.call.Call.{Call}
use Rattle.stream_wire.specs.declared.call.Call.TheVariants as call
use Rattle.stream_wire.specs.Writing.{blank, request_head, request_line}
use Rattle.http_exchange.specs.declared.told.Told.{Told}
use Rattle.http_exchange.specs.declared.told.Untold.{Untold}
use Rattle.http_exchange.specs.declared.told.Untold.TheVariants as untold
use Rattle.http_exchange.specs.Exchange.{sent, unsent, untold_by, Asked, FaultsBy, ReadsReply, StopsWriting, Talks, TurnsBy}
use Rattle.http_exchange.specs.Letters.{letter_line, letter_text}
use Rattle.http_exchange.specs.Writing.{request_text, EndsSending}
use Rattle.http_exchange.proofs.Giving.{kept_appends, kept_nothing}

-- a text that was written whole, or in part, as sending has it
pub sending_ends : (text : List ℕ) (old new : Option (List ℕ)) (before now turns : ℕ) (end : SessionEnd) → AppendsPart old new text
    → EndsWriting {T = Unit {0}} before now turns (Err end) → EndsSending {T = Unit {0}} text old new before now turns (Err end)
sending_ends text old new before now turns ends.WriteFault p e = (p, e)
sending_ends text old new before now turns ends.Turns p e = (p, e.0, e.1)
sending_ends text old new before now turns ends.Closed p e = absurd e
sending_ends text old new before now turns ends.ReadFault p e = absurd e
sending_ends text old new before now turns ends.BadMessage p e = absurd e
sending_ends text old new before now turns ends.Worn p e = absurd e
sending_ends text old new before now turns ends.NoMemory p e = absurd e

-- a request has bytes
pub request_has_bytes : (called : Call) (host front back : List ℕ) → 0 < length (request_text called host front back)
unfolding request_head request_line blank
request_has_bytes call.Stream host front back = omega arith
request_has_bytes call.Halt host front back = omega arith
request_has_bytes call.HaltBack host front back = omega arith
request_has_bytes call.Tx host front back = omega arith
request_has_bytes (call.Export name) host front back = omega arith
request_has_bytes (call.Import name) host front back = omega arith
request_has_bytes call.Lease host front back = omega arith
request_has_bytes call.Info host front back = omega arith
request_has_bytes call.Metrics host front back = omega arith
request_has_bytes call.Events host front back = omega arith
request_has_bytes call.Other host front back = omega arith

-- nothing of a request was written
pub nothing_sent : (text : List ℕ) (old new : Option (List ℕ)) → 0 < length text → Keeps old new → AppendsPart old new text
nothing_sent text old new some k = (zero, some, kept_nothing old new k)

-- a front of the request was written, and nothing read
pub talk_unsent : {L : Type 0} (l : LinkGhosts L) (asked : Asked) (a b : L) (result : Result Told Untold) → Keeps (l.given a) (l.given b)
    → AppendsPart (l.taken a) (l.taken b) asked.text → StopsWriting result → Talks asked (l.given a) (l.given b) (l.taken a) (l.taken b) (l.left b) result
talk_unsent l asked a b result kept part stops = record {
  read = [];
  written = take part.0 asked.text;
  gave = kept_nothing (l.given a) (l.given b) kept;
  took = part.2;
  ends = unsent part.0 part.1 refl refl stops;
}

-- the request was written, and the reply read
pub talk_sent : {L : Type 0} (l : LinkGhosts L) (asked : Asked) (a b c : L) (result : Result Told Untold) → Keeps (l.given a) (l.given b)
    → Appends (l.taken a) (l.taken b) asked.text → ReadsReply l asked.terms b c result → Talks asked (l.given a) (l.given c) (l.taken a) (l.taken c) (l.left c) result
talk_sent l asked a b c result kept whole r = record {
  read = r.read;
  written = asked.text;
  gave = kept_appends (l.given a) (l.given b) (l.given c) r.read kept r.gave.given;
  took = Appends-kept (l.taken a) (l.taken b) (l.taken c) asked.text whole r.gave.taken;
  ends = sent refl r.tells;
}

-- the request was not written whole
pub talk_ends : {L : Type 0} (l : LinkGhosts L) (asked : Asked) (a b : L) (turns : ℕ) (end : SessionEnd) → Keeps (l.given a) (l.given b) → 0 < length asked.text
    → EndsSending {T = Unit {0}} asked.text (l.taken a) (l.taken b) (l.faults a) (l.faults b) turns (Err end)
    → Talks asked (l.given a) (l.given b) (l.taken a) (l.taken b) (l.left b) (Err (untold_by end))
talk_ends l asked a b turns ends.WriteFault kept some e = talk_unsent l asked a b (Err untold.Fault) kept e.0 tt
talk_ends l asked a b turns ends.Turns kept some e = talk_unsent l asked a b (Err untold.Turns) kept e.0 tt
talk_ends l asked a b turns ends.NoMemory kept some e = talk_unsent l asked a b (Err untold.NoMemory) kept (nothing_sent asked.text (l.taken a) (l.taken b) some e.0) tt
talk_ends l asked a b turns ends.Closed kept some e = absurd e
talk_ends l asked a b turns ends.ReadFault kept some e = absurd e
talk_ends l asked a b turns ends.BadMessage kept some e = absurd e
talk_ends l asked a b turns ends.Worn kept some e = absurd e

pub sending_faults : (text : List ℕ) (old new : Option (List ℕ)) (before now turns : ℕ) (end : SessionEnd) → EndsSending {T = Unit {0}} text old new before now turns (Err end)
    → FaultsBy {T = Unit {0}} before now (Err (untold_by end))
sending_faults text old new before now turns ends.WriteFault e = e.1
sending_faults text old new before now turns ends.Turns e = e.2
sending_faults text old new before now turns ends.NoMemory e = e.1
sending_faults text old new before now turns ends.Closed e = absurd e
sending_faults text old new before now turns ends.ReadFault e = absurd e
sending_faults text old new before now turns ends.BadMessage e = absurd e
sending_faults text old new before now turns ends.Worn e = absurd e

pub sending_turns : (text : List ℕ) (old new : Option (List ℕ)) (before now first turns : ℕ) (end : SessionEnd) → turns ≤ first
    → EndsSending {T = Unit {0}} text old new before now turns (Err end) → TurnsBy {T = Unit {0}} first turns (Err (untold_by end))
sending_turns text old new before now first turns ends.Turns less e = e.1
sending_turns text old new before now first turns ends.WriteFault less e = less
sending_turns text old new before now first turns ends.NoMemory less e = less
sending_turns text old new before now first turns ends.Closed less e = less
sending_turns text old new before now first turns ends.ReadFault less e = less
sending_turns text old new before now first turns ends.BadMessage less e = less
sending_turns text old new before now first turns ends.Worn less e = less

-- a head that was written, and a body of which a part was
pub request_parts : (old mid new : Option (List ℕ)) (text front back : List ℕ) (before between now turns : ℕ) (end : SessionEnd) → text ≡ front ++ back → Appends old mid front → between ≡ before
    → AppendsPart mid new back → EndsWriting {T = Unit {0}} between now turns (Err end) → EndsSending {T = Unit {0}} text old new before now turns (Err end)
request_parts old mid new text front back before between now turns end is whole same part e =
    sending_ends text old new before now turns end (subst (λ (t : List ℕ). AppendsPart old new t) (sym is) (part_of_back old mid new front back whole part))
    (subst (λ (n : ℕ). EndsWriting {T = Unit {0}} n now turns (Err end)) same e)

-- a head of which a part was
pub request_front : (old new : Option (List ℕ)) (text front back : List ℕ) (before now turns : ℕ) (end : SessionEnd) → text ≡ front ++ back
    → AppendsPart old new front → EndsWriting {T = Unit {0}} before now turns (Err end) → EndsSending {T = Unit {0}} text old new before now turns (Err end)
request_front old new text front back before now turns end is part e =
    sending_ends text old new before now turns end (subst (λ (t : List ℕ). AppendsPart old new t) (sym is) (part_of_front old new front back part)) e

-- a head that was written, and what became of the body behind it
pub request_behind : (old mid new : Option (List ℕ)) (text front back : List ℕ) (before between now turns : ℕ) (r : Result (Unit {0}) SessionEnd) → text ≡ front ++ back → Appends old mid front
    → between ≡ before → OnOk r (Appends mid new back) → OnErr r (AppendsPart mid new back) → EndsWriting between now turns r → EndsSending text old new before now turns r
request_behind old mid new text front back before between now turns (Ok x) is whole same all part e =
    (subst (λ (t : List ℕ). Appends old new t) (sym is) (Appends-trans old mid new front back whole all), e ∙ same)
request_behind old mid new text front back before between now turns (Err end) is whole same all part e =
    request_parts old mid new text front back before between now turns end is whole same part e

-- a text that was written in two parts
pub both_sent : (old new : Option (List ℕ)) (text front back : List ℕ) (before now turns : ℕ) (r : Result (Unit {0}) SessionEnd) → text ≡ front ++ back
    → OnOk r (Appends old new (front ++ back)) → OnErr r (AppendsPart old new (front ++ back)) → EndsWriting before now turns r → EndsSending text old new before now turns r
both_sent old new text front back before now turns (Ok x) is all part e = (subst (λ (t : List ℕ). Appends old new t) (sym is) all, e)
both_sent old new text front back before now turns (Err end) is all part e =
    sending_ends text old new before now turns end (subst (λ (t : List ℕ). AppendsPart old new t) (sym is) part) e

-- a text that was written by one call
pub text_sent : (old new : Option (List ℕ)) (text bytes : List ℕ) (before now turns : ℕ) (r : Result (Unit {0}) SessionEnd) → bytes ≡ text
    → OnOk r (Appends old new bytes) → OnErr r (AppendsPart old new bytes) → EndsWriting before now turns r → EndsSending text old new before now turns r
text_sent old new text bytes before now turns (Ok x) is all part e = (subst (λ (t : List ℕ). Appends old new t) is all, e)
text_sent old new text bytes before now turns (Err end) is all part e =
    sending_ends text old new before now turns end (subst (λ (t : List ℕ). AppendsPart old new t) is part) e

-- a letter has bytes
pub letter_has_bytes : (method path host body : List ℕ) → 0 < length (letter_text method path host body)
unfolding letter_line
letter_has_bytes [] path host body = omega arith
letter_has_bytes (b ∷ bs) path host body = omega arith
