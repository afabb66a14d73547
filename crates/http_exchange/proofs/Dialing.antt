-- The one dial of an exchange.
use Rattle.std.proofs.Common.{◌≡◌, ℕ, ◌<◌, Bool, false, List, [], ◌∷◌, ◌++◌, Option, Some, None, Result, Ok, Err, refl, ap, sym, subst, ◌∙◌, arith}
use Rattle.std.specs.Prelude.{◌==◌, not, MatchBool}
use Rattle.std.specs.Io.KnownBytes.{Appends, IsAtEnd}
use Rattle.std.proofs.lemmas.Bool.Decides.{nat_tests}
use Rattle.lf_base.specs.Dials.{Dial, IsFailed, IsHungUp, TellsMore, TellsNone, TellsSame}
use Rattle.lf_base.specs.Faults.{Rose}
use Rattle.http_exchange.specs.declared.told.Told.{Told}
use Rattle.http_exchange.specs.declared.told.Untold.{Untold}
use Rattle.http_exchange.specs.declared.told.Untold.TheVariants as untold
use Rattle.http_exchange.specs.Exchange.{failed_by, Asked, DialsOnce, EndsTalk, FaultsBy, IsDialOf, Talks}

-- one dial more is told, behind those that stay
pub tells_dial : (P Q : Dial → Type 0) (a b c : Option (List Dial)) → TellsSame a b → TellsMore P b c → ((dial : Dial) → P dial → Q dial) → TellsMore Q a c
tells_dial P Q a b None same more is = tt
tells_dial P Q a None (Some now) same more is = absurd more
tells_dial P Q None (Some mid) (Some now) same more is = absurd same
tells_dial P Q (Some old) (Some mid) (Some now) same more is = (more.0, is more.0 more.1, more.2 ∙ ap (λ (dials : List Dial). dials ++ more.0 ∷ []) same)

tells_same : (dials : Option (List Dial)) → TellsSame dials dials
tells_same None = tt
tells_same (Some told) = refl

-- the dial failed
pub dial_failed : (asked : Asked) (tell : Type 0) (dial : Dial) → IsFailed dial → IsDialOf asked tell (Err untold.Fault) dial
dial_failed asked tell dial is = subst (λ (d : Dial). IsDialOf asked tell (Err untold.Fault) d) (sym is) refl

-- the link of an exchange has failed by a fault alone
fails_by : (count : ℕ) (result : Result Told Untold) → FaultsBy 0 count result → not (count == 0) ≡ failed_by result
fails_by count (Err untold.Fault) f =
    let some : 0 < count = omega (arith, f.1) in
    let test : (count == 0) ≡ false = grind (arith, nat_tests, some) in
    ap not test
fails_by count (Err untold.Unfit) f = ap (λ (n : ℕ). not (n == 0)) f
fails_by count (Err untold.TooLong) f = ap (λ (n : ℕ). not (n == 0)) f
fails_by count (Err untold.Turns) f = ap (λ (n : ℕ). not (n == 0)) f
fails_by count (Err untold.NoMemory) f = ap (λ (n : ℕ). not (n == 0)) f
fails_by count (Ok told) f = ap (λ (n : ℕ). not (n == 0)) f

-- what a link that tells it gave or took, where that was nothing at first
all_told : (first last : Option (List ℕ)) (bytes told : List ℕ) → (first ≡ None → ⊥) → TellsNone first → Appends first last bytes → last ≡ Some told → told ≡ bytes
all_told None last bytes told tell none grew is = absurd (tell refl)
all_told (Some xs) None bytes told tell none grew is = absurd grew
all_told (Some xs) (Some ys) bytes told tell none grew is =
    let same : ys ≡ told = cc in
    sym same ∙ grew ∙ ap (λ (l : List ℕ). l ++ bytes) none

-- the link that was hung up, which had given and taken nothing at first
pub dial_hung_up : (asked : Asked) (given given_now taken taken_now left_now : Option (List ℕ)) (count : ℕ) (tell : Type 0) (result : Result Told Untold) → TellsNone given → TellsNone taken
    → (tell → (given ≡ None → ⊥) × (taken ≡ None → ⊥)) → FaultsBy 0 count result → Talks asked given given_now taken taken_now left_now result
    → (dial : Dial) → IsHungUp given_now taken_now left_now count dial → IsDialOf asked tell result dial
dial_hung_up asked given given_now taken taken_now left_now count tell result no_given no_taken tells faults talks dial is =
    subst (λ (d : Dial). IsDialOf asked tell result d) (sym is.dial_is) (
      fails_by count result faults,
      λ (t : tell).
          let read : is.read ≡ talks.read = all_told given given_now talks.read is.read (tells t).0 no_given talks.gave is.given_is in
          let written : is.written ≡ talks.written = all_told taken taken_now talks.written is.written (tells t).1 no_taken talks.took is.taken_is in
          let over : EndsTalk asked talks.read talks.written (is.rest ≡ []) result = subst (λ (left : Option (List ℕ)). EndsTalk asked talks.read talks.written (IsAtEnd left) result) is.left_is talks.ends in
          subst (λ (bytes : List ℕ). EndsTalk asked bytes is.written (is.rest ≡ []) result) (sym read)
          (subst (λ (bytes : List ℕ). EndsTalk asked talks.read bytes (is.rest ≡ []) result) (sym written) over),
    )

-- one dial more is told
pub once_failed : (asked : Asked) (tell : Type 0) (old new : Option (List Dial)) → TellsMore IsFailed old new → DialsOnce asked tell old new (Err untold.Fault)
once_failed asked tell old new more = record { told = tells_dial IsFailed (IsDialOf asked tell (Err untold.Fault)) old old new (tells_same old) more (dial_failed asked tell) }

pub once_hung_up : (asked : Asked) (given given_now taken taken_now left_now : Option (List ℕ)) (count : ℕ) (tell : Type 0) (old mid new : Option (List Dial)) (result : Result Told Untold)
    → TellsNone given → TellsNone taken → (tell → (given ≡ None → ⊥) × (taken ≡ None → ⊥)) → FaultsBy 0 count result
    → Talks asked given given_now taken taken_now left_now result → TellsSame old mid → TellsMore (IsHungUp given_now taken_now left_now count) mid new
    → DialsOnce asked tell old new result
once_hung_up asked given given_now taken taken_now left_now count tell old mid new result no_given no_taken tells faults talks same more = record {
  told = tells_dial (IsHungUp given_now taken_now left_now count) (IsDialOf asked tell result) old mid new same more
      (dial_hung_up asked given given_now taken taken_now left_now count tell result no_given no_taken tells faults talks);
}

-- the dialer's count rose by a fault of the link alone
pub dialer_faults : (result : Result Told Untold) (before mid now count : ℕ) → mid ≡ before → FaultsBy 0 count result → MatchBool (count == 0) (now ≡ mid) (Rose mid now)
    → FaultsBy before now result
dialer_faults (Err untold.Fault) before mid now count same f m =
    let some : 0 < count = omega (arith, f.1) in
    let test : (count == 0) ≡ false = grind (arith, nat_tests, some) in
    subst (λ (n : ℕ). Rose n now) same (subst (λ (b : Bool). MatchBool b (now ≡ mid) (Rose mid now)) test m)
dialer_faults (Err untold.Unfit) before mid now count same f m = subst (λ (n : ℕ). MatchBool (n == 0) (now ≡ mid) (Rose mid now)) f m ∙ same
dialer_faults (Err untold.TooLong) before mid now count same f m = subst (λ (n : ℕ). MatchBool (n == 0) (now ≡ mid) (Rose mid now)) f m ∙ same
dialer_faults (Err untold.Turns) before mid now count same f m = subst (λ (n : ℕ). MatchBool (n == 0) (now ≡ mid) (Rose mid now)) f m ∙ same
dialer_faults (Err untold.NoMemory) before mid now count same f m = subst (λ (n : ℕ). MatchBool (n == 0) (now ≡ mid) (Rose mid now)) f m ∙ same
dialer_faults (Ok told) before mid now count same f m = subst (λ (n : ℕ). MatchBool (n == 0) (now ≡ mid) (Rose mid now)) f m ∙ same
