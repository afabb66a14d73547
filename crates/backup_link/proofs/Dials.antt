-- The one dial of a fetch.
use Rattle.std.proofs.Common.{◌≡◌, ℕ, ◌<◌, Bool, false, List, [], ◌++◌, Option, Some, None, Result, Ok, Err, refl, ap, sym, subst, ◌∙◌, arith}
use Rattle.std.specs.Prelude.{◌==◌, not, MatchBool}
use Rattle.std.specs.Io.KnownBytes.{Appends, IsAtEnd}
use Rattle.std.proofs.lemmas.Bool.Decides.{nat_tests}
use Rattle.lf_base.specs.Dials.{Dial, IsFailed, IsHungUp, TellsMore, TellsNone, TellsSame}
use Rattle.lf_base.specs.Faults.{Rose}
use Rattle.http_exchange.specs.Exchange.{FaultsBy}
use Rattle.http_exchange.specs.declared.told.Untold.{Untold}
use Rattle.http_exchange.specs.declared.told.Untold.TheVariants as untold
use Rattle.http_exchange.proofs.Dialing.{tells_dial}
use Rattle.ltx_codec.specs.declared.file.Ltx.{Ltx}
use Rattle.backup_link.specs.Endings.{has_failed, of_network}
use Rattle.backup_link.specs.Fetching.{EndsFetch, Fetches, IsDialOf, Talks}
use Rattle.backup_link.specs.declared.unfetched.Unfetched.{Unfetched}
use Rattle.backup_link.specs.declared.unfetched.Unfetched.TheVariants as unfetched

tells_same : (dials : Option (List Dial)) → TellsSame dials dials
tells_same None = tt
tells_same (Some told) = refl

-- the dial failed
pub fetches_failed : (request name : List ℕ) (tell : Type 0) (old new : Option (List Dial)) (Keep : List Ltx → Type 0) → Keep [] → TellsMore IsFailed old new
    → Fetches request name tell old new Keep (Err (unfetched.Untold untold.Fault))
fetches_failed request name tell old new Keep kept more = record {
  files = [];
  told = tells_dial IsFailed (IsDialOf request name tell [] (Err (unfetched.Untold untold.Fault))) old old new (tells_same old) more
      (λ dial is. subst (λ (d : Dial). IsDialOf request name tell [] (Err (unfetched.Untold untold.Fault)) d) (sym is) (refl, refl));
  kept = kept;
}

-- the link has failed by a fault alone
fails_by : (count : ℕ) (result : Result (Unit {0}) Unfetched) → FaultsBy 0 count (of_network result) → not (count == 0) ≡ has_failed result
fails_by count (Err (unfetched.Untold untold.Fault)) f =
    let some : 0 < count = omega (arith, f.1) in
    let test : (count == 0) ≡ false = grind (arith, nat_tests, some) in
    ap not test
fails_by count (Err (unfetched.Untold untold.Unfit)) f = ap (λ (n : ℕ). not (n == 0)) f
fails_by count (Err (unfetched.Untold untold.TooLong)) f = ap (λ (n : ℕ). not (n == 0)) f
fails_by count (Err (unfetched.Untold untold.Turns)) f = ap (λ (n : ℕ). not (n == 0)) f
fails_by count (Err (unfetched.Untold untold.NoMemory)) f = ap (λ (n : ℕ). not (n == 0)) f
fails_by count (Err unfetched.Reply) f = ap (λ (n : ℕ). not (n == 0)) f
fails_by count (Err unfetched.Dropped) f = ap (λ (n : ℕ). not (n == 0)) f
fails_by count (Err (unfetched.Backup why)) f = ap (λ (n : ℕ). not (n == 0)) f
fails_by count (Ok told) f = ap (λ (n : ℕ). not (n == 0)) f

-- what a link that tells it gave or took, where that was nothing at first
all_told : (first last : Option (List ℕ)) (bytes told : List ℕ) → (first ≡ None → ⊥) → TellsNone first → Appends first last bytes → last ≡ Some told → told ≡ bytes
all_told None last bytes told tell none grew is = absurd (tell refl)
all_told (Some xs) None bytes told tell none grew is = absurd grew
all_told (Some xs) (Some ys) bytes told tell none grew is =
    let same : ys ≡ told = cc in
    sym same ∙ grew ∙ ap (λ (l : List ℕ). l ++ bytes) none

-- the link that was hung up, which had given and taken nothing at first
dial_hung_up : (request name : List ℕ) (given given_now taken taken_now left_now : Option (List ℕ)) (count : ℕ) (tell : Type 0) (files : List Ltx) (result : Result (Unit {0}) Unfetched)
    → TellsNone given → TellsNone taken → (tell → (given ≡ None → ⊥) × (taken ≡ None → ⊥)) → FaultsBy 0 count (of_network result)
    → Talks request name given given_now taken taken_now left_now files result
    → (dial : Dial) → IsHungUp given_now taken_now left_now count dial → IsDialOf request name tell files result dial
dial_hung_up request name given given_now taken taken_now left_now count tell files result no_given no_taken tells faults talks dial is =
    subst (λ (d : Dial). IsDialOf request name tell files result d) (sym is.dial_is) (
      fails_by count result faults,
      λ (t : tell).
          let read : is.read ≡ talks.read = all_told given given_now talks.read is.read (tells t).0 no_given talks.gave is.given_is in
          let written : is.written ≡ talks.written = all_told taken taken_now talks.written is.written (tells t).1 no_taken talks.took is.taken_is in
          let over : EndsFetch request name talks.read talks.written (is.rest ≡ []) files result =
          subst (λ (left : Option (List ℕ)). EndsFetch request name talks.read talks.written (IsAtEnd left) files result) is.left_is talks.ends
          in
          subst (λ (bytes : List ℕ). EndsFetch request name bytes is.written (is.rest ≡ []) files result) (sym read)
          (subst (λ (bytes : List ℕ). EndsFetch request name talks.read bytes (is.rest ≡ []) files result) (sym written) over),
    )

-- one dial more is told
pub fetches_hung_up : (request name : List ℕ) (given given_now taken taken_now left_now : Option (List ℕ)) (count : ℕ) (tell : Type 0) (old mid new : Option (List Dial))
    (Keep : List Ltx → Type 0) (files : List Ltx) (result : Result (Unit {0}) Unfetched) → Keep files
    → TellsNone given → TellsNone taken → (tell → (given ≡ None → ⊥) × (taken ≡ None → ⊥)) → FaultsBy 0 count (of_network result)
    → Talks request name given given_now taken taken_now left_now files result → TellsSame old mid → TellsMore (IsHungUp given_now taken_now left_now count) mid new
    → Fetches request name tell old new Keep result
fetches_hung_up request name given given_now taken taken_now left_now count tell old mid new Keep files result kept no_given no_taken tells faults talks same more = record {
  files = files;
  told = tells_dial (IsHungUp given_now taken_now left_now count) (IsDialOf request name tell files result) old mid new same more
      (dial_hung_up request name given given_now taken taken_now left_now count tell files result no_given no_taken tells faults talks);
  kept = kept;
}

-- the dialer's count rose by a fault of the link alone
pub dialer_faults : (r : Result (Unit {0}) Untold) (before mid now count : ℕ) → mid ≡ before → FaultsBy 0 count r → MatchBool (count == 0) (now ≡ mid) (Rose mid now)
    → FaultsBy before now r
dialer_faults (Err untold.Fault) before mid now count same f m =
    let some : 0 < count = omega (arith, f.1) in
    let test : (count == 0) ≡ false = grind (arith, nat_tests, some) in
    subst (λ (n : ℕ). Rose n now) same (subst (λ (b : Bool). MatchBool b (now ≡ mid) (Rose mid now)) test m)
dialer_faults (Err untold.Unfit) before mid now count same f m = subst (λ (n : ℕ). MatchBool (n == 0) (now ≡ mid) (Rose mid now)) f m ∙ same
dialer_faults (Err untold.TooLong) before mid now count same f m = subst (λ (n : ℕ). MatchBool (n == 0) (now ≡ mid) (Rose mid now)) f m ∙ same
dialer_faults (Err untold.Turns) before mid now count same f m = subst (λ (n : ℕ). MatchBool (n == 0) (now ≡ mid) (Rose mid now)) f m ∙ same
dialer_faults (Err untold.NoMemory) before mid now count same f m = subst (λ (n : ℕ). MatchBool (n == 0) (now ≡ mid) (Rose mid now)) f m ∙ same
dialer_faults (Ok told) before mid now count same f m = subst (λ (n : ℕ). MatchBool (n == 0) (now ≡ mid) (Rose mid now)) f m ∙ same
