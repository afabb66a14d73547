-- One more file that joins the one before it, or that does not.
use Rattle.std.proofs.Common.{◌≡◌, ℕ, ◌+◌, ◌-◌, ◌<◌, ◌≤◌, Result, Ok, Err, List, inl, inr, length, get_or, refl, sym, ◌∙◌, subst, arith}
use Rattle.std.specs.Result.{IfErr, IsErrAnd}
use Rattle.std.proofs.lemmas.Bool.{cases_lt}
use Rattle.std.proofs.lemmas.Option.{slice_get_read, same_Some}
use Rattle.ltx_codec.specs.declared.file.Ltx.{Ltx}
use Rattle.ltx_compact.specs.Joining.{Joins, DoNotJoin, StandAt, JoinUpTo, FirstFails, IsWhy}
use Rattle.ltx_compact.specs.declared.fault.CompactFault.{CompactFault}
use Rattle.ltx_compact.specs.declared.fault.CompactFault.TheVariants as fault

-- two files read in a row stand there
pub StandAt-read : (files : List Ltx) (i : ℕ) (before file : Ltx) → 1 ≤ i → i < length files →
    before ≡ get_or files (i - 1) before → file ≡ get_or files i file → StandAt files (i + 1) before file
StandAt-read files i before file first within before-read file-read =
    let two : i + 1 - 2 ≡ i - 1 = omega arith in
    let one : i + 1 - 1 ≡ i = omega arith in
    record {
      second = omega arith;
      before_is = rw two (slice_get_read files (length files) (i - 1) before refl (omega arith) before-read);
      file_is = rw one (slice_get_read files (length files) i file refl within file-read);
    }

-- one file stands at a place
StandAt-one : (files : List Ltx) (place : ℕ) (before file other more : Ltx) → StandAt files place before file → StandAt files place other more →
    (before ≡ other) × (file ≡ more)
StandAt-one files place before file other more one two = (
  same_Some before other (sym one.before_is ∙ two.before_is),
  same_Some file more (sym one.file_is ∙ two.file_is),
)

-- one more file joins
pub JoinUpTo-more : (files : List Ltx) (i : ℕ) (before file : Ltx) → StandAt files (i + 1) before file → Joins before file →
    JoinUpTo files i → JoinUpTo files (i + 1)
JoinUpTo-more files i before file here joins joined place other more within stand =
    elim (cases_lt place (i + 1)) [
      | inl less ↦ joined place other more (omega arith) stand
      | inr above ↦
          let same : place ≡ i + 1 = omega arith in
          let P : ℕ → Type 0 = λ k. StandAt files k other more in
          let there = StandAt-one files (i + 1) before file other more here (subst P same stand) in
          let Q : Ltx → Type 0 = λ x. Joins x more in
          let R : Ltx → Type 0 = λ x. Joins before x in
          subst Q there.0 (subst R there.1 joins)
    ]

-- a file that does not join is why, where those before it join
pub IsWhy-first : (files : List Ltx) (i : ℕ) (before file : Ltx) (why : CompactFault) → StandAt files (i + 1) before file →
    JoinUpTo files i → DoNotJoin before file (i + 1) why → IsWhy files why
IsWhy-first files i before file why stand joined fails =
    let back : i + 1 - 1 ≡ i = omega arith in
    let first : FirstFails files why = record {
      place = i + 1;
      before = before;
      file = file;
      stand = stand;
      joined = rw back joined;
      fails = fails;
    } in
    by_case why fails first
  where
    by_case : (f : CompactFault) → DoNotJoin before file (i + 1) f → FirstFails files f → IsWhy files f
    by_case fault.Empty fails_so first = absurd fails_so
    by_case (fault.Gap at) fails_so first = first
    by_case (fault.SumGap at want got) fails_so first = first
    by_case (fault.PageSize at) fails_so first = first
    by_case fault.NoMemory fails_so first = tt

-- an answer that passes on why
pub IfErr-why : (files : List Ltx) (why : CompactFault) (result : Result (Unit {0}) CompactFault) → IsErrAnd result (λ f. f ≡ why) →
    IsWhy files why → IfErr result (IsWhy files)
IfErr-why files why (Ok done) is known = absurd is
IfErr-why files why (Err f) is known = let P : CompactFault → Type 0 = λ g. IsWhy files g in subst P (sym is) known
