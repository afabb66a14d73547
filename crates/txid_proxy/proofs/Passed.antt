-- A text passed on by one dial.
use Rattle.std.proofs.Common.{◌≡◌, ℕ, ◌<◌, ◌≤◌, false, List, [], ◌++◌, take, Option, Some, None, Result, Ok, Err, refl, ap, sym, subst, ◌∙◌}
use Rattle.std.proofs.Common.{arith}
use Rattle.std.specs.Prelude.{◌==◌, not}
use Rattle.std.specs.Io.KnownBytes.{Appends, IsAtEnd, Keeps}
use Rattle.std.proofs.KnownBytes.{Appends-kept}
use Rattle.std.proofs.lemmas.Bool.Decides.{nat_tests}
use Rattle.lf_base.specs.Dials.{Dial, IsFailed, IsHungUp, TellsMore, TellsNone, TellsSame}
use Rattle.lf_base.specs.declared.link.Link.{Ghosts as LinkGhosts}
use Rattle.lf_base.specs.declared.session_end.SessionEnd.{SessionEnd}
use Rattle.lf_base.specs.declared.session_end.SessionEnd.TheVariants as ends
use Rattle.link_session.specs.Spending.{MovesFor}
use Rattle.link_session.specs.Writing.{AppendsPart, EndsWriting}
use Rattle.http_exchange.specs.declared.told.Untold.{Untold}
use Rattle.http_exchange.specs.declared.told.Untold.TheVariants as untold
use Rattle.http_exchange.specs.Exchange.{untold_by, EndsUnending, FaultsBy, TurnsBy}
use Rattle.http_exchange.specs.Reading.{Gave, GaveMore}
use Rattle.http_exchange.proofs.Dialing.{tells_dial}
use Rattle.http_exchange.proofs.Giving.{kept_appends, kept_nothing}
use Rattle.txid_proxy.specs.Dialing.{fails, sent, unsent, EndsPassing, IsPassingDial, Passes, PassesOnce, ReadsReply, StopsPassing}

-- ---- the reply

-- all that came, from the first byte on
pub all_more : {L : Type 0} (l : LinkGhosts L) (a b : L) (bytes : List ℕ) → Gave l a b bytes → GaveMore l a b [] bytes
all_more l a b bytes g = record { more = bytes; gave = g; behind = refl }

-- the bytes that came grew past a limit, or not
pub reply_untold : {L : Type 0} (l : LinkGhosts L) (a b : L) (why : Untold) → EndsUnending {T = Unit {0}} l a b [] 67108864 (Err why) → ReadsReply l a b (Err why)
reply_untold l a b untold.TooLong e = record { read = e.0; gave = e.1; came = e.2 }
reply_untold l a b untold.Fault e = record { read = e.0; gave = e.1; came = e.2 }
reply_untold l a b untold.Turns e = record { read = e.0; gave = e.1; came = e.2 }
reply_untold l a b untold.NoMemory e = record { read = e.0; gave = e.1; came = tt }
reply_untold l a b untold.Unfit e = absurd e

-- ---- the text, and then the reply

pub pass_unsent : {L : Type 0} (l : LinkGhosts L) (text : List ℕ) (a b : L) (result : Result (List ℕ) Untold) → Keeps (l.given a) (l.given b)
    → AppendsPart (l.taken a) (l.taken b) text → StopsPassing result → Passes text (l.given a) (l.given b) (l.taken a) (l.taken b) (l.left b) result
pass_unsent l text a b result kept part stops = record {
  read = [];
  written = take part.0 text;
  gave = kept_nothing (l.given a) (l.given b) kept;
  took = part.2;
  ends = unsent part.0 part.1 refl refl stops;
}

pub pass_sent : {L : Type 0} (l : LinkGhosts L) (text : List ℕ) (a b c : L) (result : Result (List ℕ) Untold) → Keeps (l.given a) (l.given b)
    → Appends (l.taken a) (l.taken b) text → ReadsReply l b c result → Passes text (l.given a) (l.given c) (l.taken a) (l.taken c) (l.left c) result
pass_sent l text a b c result kept whole r = record {
  read = r.read;
  written = text;
  gave = kept_appends (l.given a) (l.given b) (l.given c) r.read kept r.gave.given;
  took = Appends-kept (l.taken a) (l.taken b) (l.taken c) text whole r.gave.taken;
  ends = sent refl r.came;
}

-- the text was not written whole
pub pass_ends : {L : Type 0} (l : LinkGhosts L) (text : List ℕ) (a b : L) (turns : ℕ) (end : SessionEnd) → Keeps (l.given a) (l.given b)
    → AppendsPart (l.taken a) (l.taken b) text
    → EndsWriting {T = Unit {0}} (l.faults a) (l.faults b) turns (Err end) → Passes text (l.given a) (l.given b) (l.taken a) (l.taken b) (l.left b) (Err (untold_by end))
pass_ends l text a b turns ends.WriteFault kept part e = pass_unsent l text a b (Err untold.Fault) kept part tt
pass_ends l text a b turns ends.Turns kept part e = pass_unsent l text a b (Err untold.Turns) kept part tt
pass_ends l text a b turns ends.Closed kept part e = absurd e
pass_ends l text a b turns ends.ReadFault kept part e = absurd e
pass_ends l text a b turns ends.BadMessage kept part e = absurd e
pass_ends l text a b turns ends.Worn kept part e = absurd e
pass_ends l text a b turns ends.NoMemory kept part e = absurd e

pub writing_faults : (before now turns : ℕ) (end : SessionEnd) → EndsWriting {T = Unit {0}} before now turns (Err end)
    → FaultsBy {T = List ℕ} before now (Err (untold_by end))
writing_faults before now turns ends.WriteFault e = e
writing_faults before now turns ends.Turns e = e.1
writing_faults before now turns ends.Closed e = absurd e
writing_faults before now turns ends.ReadFault e = absurd e
writing_faults before now turns ends.BadMessage e = absurd e
writing_faults before now turns ends.Worn e = absurd e
writing_faults before now turns ends.NoMemory e = absurd e

pub writing_turns : (before now first turns : ℕ) (end : SessionEnd) → turns ≤ first → EndsWriting {T = Unit {0}} before now turns (Err end)
    → TurnsBy {T = List ℕ} first turns (Err (untold_by end))
writing_turns before now first turns ends.WriteFault less e = less
writing_turns before now first turns ends.Turns less e = e.0
writing_turns before now first turns ends.Closed less e = absurd e
writing_turns before now first turns ends.ReadFault less e = absurd e
writing_turns before now first turns ends.BadMessage less e = absurd e
writing_turns before now first turns ends.Worn less e = absurd e
writing_turns before now first turns ends.NoMemory less e = absurd e

pub no_turn_back : {T : Type 0} (r : Result T SessionEnd) (turns moves turns_now moves_now : ℕ) → MovesFor r turns moves turns_now moves_now → turns_now ≤ turns
no_turn_back (Ok x) turns moves turns_now moves_now f = f.0
no_turn_back (Err ends.Turns) turns moves turns_now moves_now f = f.0
no_turn_back (Err ends.Closed) turns moves turns_now moves_now f = f
no_turn_back (Err ends.ReadFault) turns moves turns_now moves_now f = f
no_turn_back (Err ends.WriteFault) turns moves turns_now moves_now f = f
no_turn_back (Err ends.BadMessage) turns moves turns_now moves_now f = f
no_turn_back (Err ends.Worn) turns moves turns_now moves_now f = f
no_turn_back (Err ends.NoMemory) turns moves turns_now moves_now f = f

-- ---- the dial

tells_same : (dials : Option (List Dial)) → TellsSame dials dials
tells_same None = tt
tells_same (Some told) = refl

dial_failed : (text : List ℕ) (tell : Type 0) (dial : Dial) → IsFailed dial → IsPassingDial text tell (Err untold.Fault) dial
dial_failed text tell dial is = subst (λ (d : Dial). IsPassingDial text tell (Err untold.Fault) d) (sym is) refl

fails_by : (count : ℕ) (result : Result (List ℕ) Untold) → FaultsBy 0 count result → not (count == 0) ≡ fails result
fails_by count (Err untold.Fault) f =
    let some : 0 < count = omega (arith, f.1) in
    let test : (count == 0) ≡ false = grind (arith, nat_tests, some) in
    ap not test
fails_by count (Err untold.Unfit) f = ap (λ (n : ℕ). not (n == 0)) f
fails_by count (Err untold.TooLong) f = ap (λ (n : ℕ). not (n == 0)) f
fails_by count (Err untold.Turns) f = ap (λ (n : ℕ). not (n == 0)) f
fails_by count (Err untold.NoMemory) f = ap (λ (n : ℕ). not (n == 0)) f
fails_by count (Ok reply) f = ap (λ (n : ℕ). not (n == 0)) f

all_told : (first last : Option (List ℕ)) (bytes told : List ℕ) → (first ≡ None → ⊥) → TellsNone first → Appends first last bytes → last ≡ Some told → told ≡ bytes
all_told None last bytes told tell none grew is = absurd (tell refl)
all_told (Some xs) None bytes told tell none grew is = absurd grew
all_told (Some xs) (Some ys) bytes told tell none grew is =
    let same : ys ≡ told = cc in
    sym same ∙ grew ∙ ap (λ (l : List ℕ). l ++ bytes) none

dial_hung_up : (text : List ℕ) (given given_now taken taken_now left_now : Option (List ℕ)) (count : ℕ) (tell : Type 0) (result : Result (List ℕ) Untold)
    → TellsNone given → TellsNone taken
    → (tell → (given ≡ None → ⊥) × (taken ≡ None → ⊥)) → FaultsBy 0 count result → Passes text given given_now taken taken_now left_now result
    → (dial : Dial) → IsHungUp given_now taken_now left_now count dial → IsPassingDial text tell result dial
dial_hung_up text given given_now taken taken_now left_now count tell result no_given no_taken tells faults passes dial is =
    subst (λ (d : Dial). IsPassingDial text tell result d) (sym is.dial_is) (
      fails_by count result faults,
      λ (t : tell).
          let read : is.read ≡ passes.read = all_told given given_now passes.read is.read (tells t).0 no_given passes.gave is.given_is in
          let written : is.written ≡ passes.written = all_told taken taken_now passes.written is.written (tells t).1 no_taken passes.took is.taken_is in
          let over : EndsPassing text passes.read passes.written (is.rest ≡ []) result =
          subst (λ (left : Option (List ℕ)). EndsPassing text passes.read passes.written (IsAtEnd left) result) is.left_is passes.ends in
          subst (λ (bytes : List ℕ). EndsPassing text bytes is.written (is.rest ≡ []) result) (sym read)
          (subst (λ (bytes : List ℕ). EndsPassing text passes.read bytes (is.rest ≡ []) result) (sym written) over),
    )

pub once_failed : (text : List ℕ) (tell : Type 0) (old new : Option (List Dial)) → TellsMore IsFailed old new → PassesOnce text tell old new (Err untold.Fault)
once_failed text tell old new more = record {
  told = tells_dial IsFailed (IsPassingDial text tell (Err untold.Fault)) old old new (tells_same old) more
      (dial_failed text tell);
}

pub once_hung_up : (text : List ℕ) (given given_now taken taken_now left_now : Option (List ℕ)) (count : ℕ) (tell : Type 0) (old mid new : Option (List Dial))
    (result : Result (List ℕ) Untold)
    → TellsNone given → TellsNone taken → (tell → (given ≡ None → ⊥) × (taken ≡ None → ⊥)) → FaultsBy 0 count result
    → Passes text given given_now taken taken_now left_now result → TellsSame old mid → TellsMore (IsHungUp given_now taken_now left_now count) mid new
    → PassesOnce text tell old new result
once_hung_up text given given_now taken taken_now left_now count tell old mid new result no_given no_taken tells faults passes same more = record {
  told = tells_dial (IsHungUp given_now taken_now left_now count) (IsPassingDial text tell result) old mid new same more
      (dial_hung_up text given given_now taken taken_now left_now count tell result no_given no_taken tells faults passes);
}
