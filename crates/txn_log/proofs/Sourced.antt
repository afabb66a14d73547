-- A source that tells just the encoding of a file is as the file itself.
use Rattle.std.proofs.Common.{◌≡◌, inl, inr, ℕ, ◌<◌, ◌≤◌, Bool, Option, Some, None, Result, Ok, Err, List, [], ◌∷◌, ◌++◌, refl, sym, ◌∙◌, ap, subst, arith}
use Rattle.std.proofs.lemmas.List.{append-nil}
use Rattle.std.specs.Io.KnownBytes.{Consumes, IsAtEnd}
use Rattle.lf_base.specs.declared.pos.Pos.{Pos}
use Rattle.lf_disk.specs.History.{History}
use Rattle.ltx_codec.specs.Fields.{AreBytes}
use Rattle.ltx_codec.specs.Format.{IsLtx}
use Rattle.ltx_codec.specs.Places.{IsBroken, IsEarliest, last_place}
use Rattle.ltx_codec.specs.Positions.{after}
use Rattle.ltx_codec.specs.declared.fault.LtxFault.{LtxFault}
use Rattle.ltx_codec.specs.declared.fault.LtxFault.TheVariants as ltx
use Rattle.ltx_codec.specs.declared.file.Ltx.{Ltx}
use Rattle.ltx_codec.proofs.LawLemmas.{one_reading_lem}
use Rattle.ltx_codec.proofs.SoundLemmas.{encoding_sound}
use Rattle.world_laws.specs.Store.{StoreState, Failure, FailedIn, Apply}
use Rattle.txn_log.specs.Apply.{whole_file, IsTaken, Refuses, Applies}
use Rattle.txn_log.specs.Calls.{Moved, Went}
use Rattle.txn_log.specs.Coming.{ReadsFault}
use Rattle.txn_log.specs.From.{Gave, RefusesRead, AppliesFrom, WentFrom}
use Rattle.txn_log.specs.FromFile.{from_answer, IsDecided, IsOfFile}
use Rattle.txn_log.specs.declared.fault.StoreFault.{StoreFault}
use Rattle.txn_log.specs.declared.fault.StoreFault.TheVariants as fault
use Rattle.txn_log.specs.declared.fault.FromFault.{FromFault}
use Rattle.txn_log.specs.declared.fault.FromFault.TheVariants as from

-- what was given up to the end of known bytes is all of them
pub all_given : (encoding read : List ℕ) (left_now : Option (List ℕ)) → Consumes (Some encoding) left_now read → IsAtEnd left_now → encoding ≡ read
all_given encoding read None takes at_end = absurd takes
all_given encoding read (Some rest) takes at_end = takes ∙ ap (λ (l : List ℕ). read ++ l) at_end ∙ append-nil read

-- so the file that was given is the one
pub one_given : (encoding : List ℕ) (file other : Ltx) (left_now : Option (List ℕ)) → IsLtx encoding file → Gave (Some encoding) left_now other → other ≡ file
one_given encoding file other left_now is gave =
    let same : encoding ≡ gave.encoding = all_given encoding gave.encoding left_now gave.read gave.end in
    (one_reading_lem gave.encoding encoding [] [] other file gave.is is (ap (λ (l : List ℕ). l ++ []) (sym same))).1

-- no rule is broken in an encoding
none_earliest : (encoding : List ℕ) (file : Ltx) (f : LtxFault) → AreBytes encoding → IsLtx encoding file → IsEarliest encoding f → ⊥
none_earliest encoding file f octets is earliest =
    let bytes : encoding ++ [] ≡ encoding = append-nil encoding in
    let found = encoding_sound encoding [] file f earliest.place (subst (λ (l : List ℕ). AreBytes l) (sym bytes) octets) is
    (subst (λ (l : List ℕ). IsBroken l f earliest.place) (sym bytes) earliest.broken) in
    let there : earliest.place ≤ last_place encoding ltx.Tail = subst (λ (g : LtxFault). earliest.place ≤ last_place encoding g) found.0 earliest.broken.there in
    absurd (omega (arith, found.1, there))

none_read : (encoding : List ℕ) (file : Ltx) (left_now : Option (List ℕ)) (f : LtxFault) → AreBytes encoding → IsLtx encoding file → ReadsFault (Some encoding) left_now f → ⊥
none_read encoding file None f octets is reads = reads.read
none_read encoding file (Some rest) f octets is reads = elim reads.stands [
  | inl stays ↦ none_earliest encoding file f octets is (subst (λ (l : List ℕ). IsEarliest l f) (sym reads.read) (stays rest (subst (λ (l : List ℕ). AreBytes l) reads.read octets)))
  | inr ended ↦ none_earliest encoding file f octets is (subst (λ (l : List ℕ). IsEarliest l f) (sym (all_given encoding reads.encoding (Some rest) reads.read ended.0)) ended.1)
]

-- but where the source failed, the answer is one for the file
pub of_file : (encoding : List ℕ) (file : Ltx) (left_now : Option (List ℕ)) (room : ℕ) (broken : Bool) (position : Pos) (size commit : ℕ) (sums : List ℕ) (answer : Result Pos FromFault)
    → AreBytes encoding → IsLtx encoding file → file.header.commit ≤ room
    → AppliesFrom (Some encoding) left_now room broken position size commit sums answer → IsOfFile answer
of_file encoding file left_now room broken position size commit sums (Ok told) octets is fits applies = inr (Ok told, refl)
of_file encoding file left_now room broken position size commit sums (Err from.Source) octets is fits applies = inl refl
of_file encoding file left_now room broken position size commit sums (Err (from.Ltx f)) octets is fits applies = absurd (none_read encoding file left_now f octets is applies)
of_file encoding file left_now room broken position size commit sums (Err from.NotSnapshot) octets is fits applies = absurd applies.2
of_file encoding file left_now room broken position size commit sums (Err (from.Room pages)) octets is fits applies =
    let same : applies.0 ≡ file = one_given encoding file applies.0 left_now is applies.1 in
    let past : room < file.header.commit = subst (λ (f : Ltx). room < f.header.commit) same applies.2.0 in
    absurd (omega (arith, past, fits))
of_file encoding file left_now room broken position size commit sums (Err (from.Store why)) octets is fits applies = inr (Err why, refl)

-- a refusal that was judged, of the one file
refused_file : (encoding : List ℕ) (file : Ltx) (left_now : Option (List ℕ)) (room : ℕ) (broken : Bool) (position : Pos) (size commit : ℕ) (sums : List ℕ) (why : StoreFault) → IsLtx encoding file
    → ((other : Ltx) × Gave (Some encoding) left_now other × RefusesRead room broken position size commit sums other (from.Store why)) → Refuses broken position size commit sums file why
refused_file encoding file left_now room broken position size commit sums why is refuses =
    subst (λ (f : Ltx). Refuses broken position size commit sums f why) (one_given encoding file refuses.0 left_now is refuses.1) refuses.2.2

pub as_file : (encoding : List ℕ) (file : Ltx) (left_now : Option (List ℕ)) (room : ℕ) (broken : Bool) (position : Pos) (size commit : ℕ) (sums : List ℕ) (answer : Result Pos StoreFault)
    → IsLtx encoding file → IsDecided answer
    → AppliesFrom (Some encoding) left_now room broken position size commit sums (from_answer answer) → Applies broken position size commit sums file answer
as_file encoding file left_now room broken position size commit sums (Ok told) is decided applies =
    let it = applies.1 in
    let same : it.0 ≡ file = one_given encoding file it.0 left_now is it.1 in (
      applies.0,
      subst (λ (f : Ltx). IsTaken position size commit sums f) same it.3,
      it.4 ∙ ap after same,
    )
as_file encoding file left_now room broken position size commit sums (Err fault.Disk) is decided applies = absurd decided
as_file encoding file left_now room broken position size commit sums (Err fault.NoMemory) is decided applies = absurd decided
as_file encoding file left_now room broken position size commit sums (Err fault.Broken) is decided applies = refused_file encoding file left_now room broken position size commit sums fault.Broken is applies
as_file encoding file left_now room broken position size commit sums (Err (fault.NotNext have want)) is decided applies = refused_file encoding file left_now room broken position size commit sums (fault.NotNext have want) is applies
as_file encoding file left_now room broken position size commit sums (Err (fault.SumDiffers want got)) is decided applies = refused_file encoding file left_now room broken position size commit sums (fault.SumDiffers want got) is applies
as_file encoding file left_now room broken position size commit sums (Err fault.Limit) is decided applies = refused_file encoding file left_now room broken position size commit sums fault.Limit is applies
as_file encoding file left_now room broken position size commit sums (Err (fault.PageSize have want)) is decided applies = refused_file encoding file left_now room broken position size commit sums (fault.PageSize have want) is applies

-- a source of all the bytes gives the file
given : (encoding : List ℕ) (file : Ltx) → IsLtx encoding file → Gave (Some encoding) (Some []) file
given encoding file is = record { encoding = encoding; read = sym (append-nil encoding); end = refl; is = is }

pub as_source : (encoding : List ℕ) (file : Ltx) (room : ℕ) (broken : Bool) (position : Pos) (size commit : ℕ) (sums : List ℕ) (answer : Result Pos StoreFault)
    → IsLtx encoding file → file.header.commit ≤ room → IsDecided answer
    → Applies broken position size commit sums file answer → AppliesFrom (Some encoding) (Some []) room broken position size commit sums (from_answer answer)
as_source encoding file room broken position size commit sums (Ok told) is fits decided applies = (applies.0, (file, given encoding file is, fits, applies.1, applies.2))
as_source encoding file room broken position size commit sums (Err fault.Disk) is fits decided applies = absurd decided
as_source encoding file room broken position size commit sums (Err fault.NoMemory) is fits decided applies = absurd decided
as_source encoding file room broken position size commit sums (Err fault.Broken) is fits decided applies = (file, given encoding file is, (fits, tt, applies))
as_source encoding file room broken position size commit sums (Err (fault.NotNext have want)) is fits decided applies = (file, given encoding file is, (fits, tt, applies))
as_source encoding file room broken position size commit sums (Err (fault.SumDiffers want got)) is fits decided applies = (file, given encoding file is, (fits, tt, applies))
as_source encoding file room broken position size commit sums (Err fault.Limit) is fits decided applies = (file, given encoding file is, (fits, tt, applies))
as_source encoding file room broken position size commit sums (Err (fault.PageSize have want)) is fits decided applies = (file, given encoding file is, (fits, tt, applies))

pub done_as_file : (encoding : List ℕ) (file : Ltx) (left_now : Option (List ℕ)) (commit : ℕ) (old : StoreState) (was : Option Failure) (start : History) (answer : Result Pos StoreFault) (new : StoreState) (failed : Option Failure) (end : History)
    → IsLtx encoding file → WentFrom (Some encoding) left_now commit old was start (from_answer answer) new failed end
    → Went old was start (Apply (whole_file commit file)) answer new failed end
done_as_file encoding file left_now commit old was start (Ok told) new failed end is went =
    subst (λ (f : Ltx). Moved old was start (Apply (whole_file commit f) ∷ []) None new failed end) (one_given encoding file went.0 left_now is went.1) went.3
done_as_file encoding file left_now commit old was start (Err fault.Disk) new failed end is went = elim went [
  | inl before ↦ inl before
  | inr inside ↦ inr (subst (λ (f : Ltx). Moved old was start [] (Some (FailedIn (Apply (whole_file commit f)))) new failed end) (one_given encoding file inside.0 left_now is inside.1) inside.2)
]
done_as_file encoding file left_now commit old was start (Err fault.NoMemory) new failed end is went = went
done_as_file encoding file left_now commit old was start (Err fault.Broken) new failed end is went = went
done_as_file encoding file left_now commit old was start (Err (fault.NotNext have want)) new failed end is went = went
done_as_file encoding file left_now commit old was start (Err (fault.SumDiffers want got)) new failed end is went = went
done_as_file encoding file left_now commit old was start (Err fault.Limit) new failed end is went = went
done_as_file encoding file left_now commit old was start (Err (fault.PageSize have want)) new failed end is went = went
