-- A text that was passed on, and the dial by which it was.
use Rattle.std.proofs.Common.{◌≡◌, ℕ, ◌<◌, Bool, false, List, [], ◌∷◌, ◌++◌, take, Option, Some, None, Result, Ok, Err, refl, ap, sym, subst, ◌∙◌, arith}
use Rattle.std.specs.Prelude.{◌==◌, not}
use Rattle.std.specs.Io.KnownBytes.{Appends, IsAtEnd, Keeps}
use Rattle.std.proofs.KnownBytes.{Appends-kept}
use Rattle.std.proofs.lemmas.Bool.Decides.{nat_tests}
use Rattle.lf_base.specs.Dials.{Dial, IsHungUp, TellsMore, TellsNone, TellsSame}
use Rattle.lf_base.specs.declared.link.Link.{Ghosts as LinkGhosts}
use Rattle.lf_base.specs.declared.session_end.SessionEnd.{SessionEnd}
use Rattle.lf_base.specs.declared.session_end.SessionEnd.TheVariants as ends
use Rattle.link_session.specs.Writing.{AppendsPart, EndsWriting}
use Rattle.http_exchange.specs.declared.told.Untold.{Untold}
use Rattle.http_exchange.specs.declared.told.Untold.TheVariants as untold
use Rattle.http_exchange.specs.Exchange.{FaultsBy, untold_by}
use Rattle.http_exchange.proofs.Dialing.{tells_dial}
use Rattle.http_exchange.proofs.Giving.{kept_appends, kept_nothing}
use Rattle.txid_proxy.specs.Dialing.{sent, unsent, fails, EndsPassing, IsPassingDial, Passes, PassesOnce, ReadsReply, StopsPassing}

-- the text was written, and the reply read
pub pass_sent : {L : Type 0} (l : LinkGhosts L) (text : List ℕ) (a b c : L) (result : Result (List ℕ) Untold) → Keeps (l.given a) (l.given b)
    → Appends (l.taken a) (l.taken b) text → ReadsReply l b c result → Passes text (l.given a) (l.given c) (l.taken a) (l.taken c) (l.left c) result
pass_sent l text a b c result kept whole r = record {
  read = r.read;
  written = text;
  gave = kept_appends (l.given a) (l.given b) (l.given c) r.read kept r.gave.given;
  took = Appends-kept (l.taken a) (l.taken b) (l.taken c) text whole r.gave.taken;
  ends = sent refl r.came;
}

-- a front of the text was written, and nothing read
pass_unsent : {L : Type 0} (l : LinkGhosts L) (text : List ℕ) (a b : L) (result : Result (List ℕ) Untold) → Keeps (l.given a) (l.given b)
    → AppendsPart (l.taken a) (l.taken b) text → StopsPassing result → Passes text (l.given a) (l.given b) (l.taken a) (l.taken b) (l.left b) result
pass_unsent l text a b result kept part stops = record {
  read = [];
  written = take part.0 text;
  gave = kept_nothing (l.given a) (l.given b) kept;
  took = part.2;
  ends = unsent part.0 part.1 refl refl stops;
}

-- the text was not written whole
pub pass_ends : {L : Type 0} (l : LinkGhosts L) (text : List ℕ) (a b : L) (turns : ℕ) (end : SessionEnd) → Keeps (l.given a) (l.given b)
    → AppendsPart (l.taken a) (l.taken b) text → EndsWriting {T = Unit {0}} (l.faults a) (l.faults b) turns (Err end)
    → Passes text (l.given a) (l.given b) (l.taken a) (l.taken b) (l.left b) (Err (untold_by end))
pass_ends l text a b turns ends.WriteFault kept part e = pass_unsent l text a b (Err untold.Fault) kept part tt
pass_ends l text a b turns ends.Turns kept part e = pass_unsent l text a b (Err untold.Turns) kept part tt
pass_ends l text a b turns ends.NoMemory kept part e = absurd e
pass_ends l text a b turns ends.Closed kept part e = absurd e
pass_ends l text a b turns ends.ReadFault kept part e = absurd e
pass_ends l text a b turns ends.BadMessage kept part e = absurd e
pass_ends l text a b turns ends.Worn kept part e = absurd e

-- the link has failed by a fault alone
fails_by : (count : ℕ) (result : Result (List ℕ) Untold) → FaultsBy 0 count result → not (count == 0) ≡ fails result
fails_by count (Err untold.Fault) f =
    let some : 0 < count = omega (arith, f.1) in
    let test : (count == 0) ≡ false = grind (arith, nat_tests, some) in
    ap not test
fails_by count (Err untold.Unfit) f = ap (λ (n : ℕ). not (n == 0)) f
fails_by count (Err untold.TooLong) f = ap (λ (n : ℕ). not (n == 0)) f
fails_by count (Err untold.Turns) f = ap (λ (n : ℕ). not (n == 0)) f
fails_by count (Err untold.NoMemory) f = ap (λ (n : ℕ). not (n == 0)) f
fails_by count (Ok reply) f = ap (λ (n : ℕ). not (n == 0)) f

-- what a link that tells it gave or took, where that was nothing at first
all_told : (first last : Option (List ℕ)) (bytes told : List ℕ) → (first ≡ None → ⊥) → TellsNone first → Appends first last bytes → last ≡ Some told → told ≡ bytes
all_told None last bytes told tell none grew is = absurd (tell refl)
all_told (Some xs) None bytes told tell none grew is = absurd grew
all_told (Some xs) (Some ys) bytes told tell none grew is =
    let same : ys ≡ told = cc in
    sym same ∙ grew ∙ ap (λ (l : List ℕ). l ++ bytes) none

-- the link that was hung up, which had given and taken nothing at first
dial_hung_up : (text : List ℕ) (given given_now taken taken_now left_now : Option (List ℕ)) (count : ℕ) (tell : Type 0) (result : Result (List ℕ) Untold) → TellsNone given → TellsNone taken
    → (tell → (given ≡ None → ⊥) × (taken ≡ None → ⊥)) → FaultsBy 0 count result → Passes text given given_now taken taken_now left_now result
    → (dial : Dial) → IsHungUp given_now taken_now left_now count dial → IsPassingDial text tell result dial
dial_hung_up text given given_now taken taken_now left_now count tell result no_given no_taken tells faults passes dial is =
    subst (λ (d : Dial). IsPassingDial text tell result d) (sym is.dial_is) (
      fails_by count result faults,
      λ (t : tell).
          let read : is.read ≡ passes.read = all_told given given_now passes.read is.read (tells t).0 no_given passes.gave is.given_is in
          let written : is.written ≡ passes.written = all_told taken taken_now passes.written is.written (tells t).1 no_taken passes.took is.taken_is in
          let over : EndsPassing text passes.read passes.written (is.rest ≡ []) result = subst (λ (left : Option (List ℕ)). EndsPassing text passes.read passes.written (IsAtEnd left) result) is.left_is passes.ends in
          subst (λ (bytes : List ℕ). EndsPassing text bytes is.written (is.rest ≡ []) result) (sym read)
          (subst (λ (bytes : List ℕ). EndsPassing text passes.read bytes (is.rest ≡ []) result) (sym written) over),
    )

-- one dial more is told
pub once_hung_up : (text : List ℕ) (given given_now taken taken_now left_now : Option (List ℕ)) (count : ℕ) (tell : Type 0) (old mid new : Option (List Dial)) (result : Result (List ℕ) Untold)
    → TellsNone given → TellsNone taken → (tell → (given ≡ None → ⊥) × (taken ≡ None → ⊥)) → FaultsBy 0 count result
    → Passes text given given_now taken taken_now left_now result → TellsSame old mid → TellsMore (IsHungUp given_now taken_now left_now count) mid new
    → PassesOnce text tell old new result
once_hung_up text given given_now taken taken_now left_now count tell old mid new result no_given no_taken tells faults passes same more = record {
  told = tells_dial (IsHungUp given_now taken_now left_now count) (IsPassingDial text tell result) old mid new same more
      (dial_hung_up text given given_now taken taken_now left_now count tell result no_given no_taken tells faults passes);
}
