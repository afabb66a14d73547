-- What the files of an input come to while they are applied, piece by piece.
use Rattle.std.proofs.Common.{◌≡◌, ◌≢◌, ℕ, ◌<◌, ◌≤◌, ◌⊎◌, inl, inr, Bool, true, false, List, [], ◌∷◌, ◌++◌, length, take, Result, Ok, Err, IfOk, OnOk, refl, sym, subst, ap, ◌∙◌, arith, length-append, append_assoc, append-nil}
use Rattle.std.proofs.lemmas.List.{length-take-le}
use Rattle.page_checksum.specs.Sums.{flagged}
use Rattle.lf_sqlite_pages.specs.Image.{DatabaseImage}
use Rattle.lf_sqlite_pages.specs.Apply.{apply}
use Rattle.lf_sqlite_pages.specs.Writes.{writes_of, data_writes}
use Rattle.ltx_codec.specs.Places.{IsEarliest}
use Rattle.ltx_codec.specs.Positions.{sum_after}
use Rattle.ltx_codec.specs.Sums.{joined_sums}
use Rattle.ltx_codec.proofs.SumLemmas.{flagged-twice}
use Rattle.ltx_codec.specs.Reading.{HasBegun, IsRefusedAt}
use Rattle.ltx_codec.specs.declared.fault.LtxFault.{LtxFault}
use Rattle.ltx_codec.specs.declared.fault.LtxFault.TheVariants as fault
use Rattle.ltx_codec.specs.declared.file.Ltx.{Ltx}
use Rattle.ltx_codec.specs.declared.file_reader.FileReader.{FileReader}
use Rattle.ltx_codec.proofs.AgreeLemmas.{fault_stays_lem}
use Rattle.ltx_codec.proofs.NumberLemmas.{found_there, found_inside}
use Rattle.litefs_tool.specs.steps.Applying.{HasSum, GoesOn, HasApplied, EndsFile, IsApplying}
use Rattle.litefs_tool.specs.Files.{Applies, MakesOf, Refuses, JoinsTo, after, never_written, broken, refused, last, more}
use Rattle.litefs_tool.specs.Refusal.{refusal_of}
use Rattle.lf_base.specs.declared.memory.NoMemory.{NoMemory}
use Rattle.litefs_tool.specs.declared.applying.Applying.{Applying}
use Rattle.litefs_tool.specs.declared.applying.Applying.TheVariants.{Refused}
use Rattle.litefs_tool.specs.declared.applying.Progress.{Progress}
use Rattle.litefs_tool.specs.declared.database.Database.{Database}
use Rattle.litefs_tool.specs.declared.refusal.Refusal.{Refusal}
use Rattle.litefs_tool.specs.declared.refusal.Refusal.TheVariants as refusal

-- a database that was never written has the sum of no pages
pub HasSum-never_written : HasSum never_written
unfolding writes_of
HasSum-never_written = refl

-- a file that joins leaves a database that has its sum
pub HasSum-after : (database now : Database) (file : Ltx) → now ≡ after database file → sum_after database.image file ≡ file.post → HasSum now
HasSum-after database now file is sum =
    rw is (ap flagged (sym sum) ∙ flagged-twice (joined_sums (data_writes (apply database.image file.change))))

-- with a part of some bytes the unfinished is not empty
some-behind : (unfinished part tail : List ℕ) → 0 < length part → 0 < length (unfinished ++ (part ++ tail))
some-behind unfinished part tail some = omega (arith, some, length-append unfinished (part ++ tail), length-append part tail)

-- a part moves from what follows to what was taken
GoesOn-part : (database : Database) (is_first : Bool) (unfinished bytes part tail : List ℕ) (answer : Result DatabaseImage Refusal) →
    GoesOn database is_first unfinished bytes → 0 < length part → Applies database ((unfinished ++ part) ++ tail) answer →
    Applies never_written ((bytes ++ part) ++ tail) answer
GoesOn-part database is_first unfinished bytes part tail answer so_far some applies =
    let P : List ℕ → Type 0 = λ l. Applies database l answer in
    let Q : List ℕ → Type 0 = λ l. Applies never_written l answer in
    subst Q (sym (append_assoc bytes part tail))
    (so_far (part ++ tail) answer (inr (some-behind unfinished part tail some)) (subst P (append_assoc unfinished part tail) applies))

-- no file ends in the piece
pub HasApplied-more : (progress : Progress) (reader : FileReader) (bytes piece : List ℕ) (so_far : HasApplied progress bytes) →
    HasBegun reader (so_far.unfinished ++ piece) → 0 < length piece →
    HasApplied (record progress { reader = reader }) (bytes ++ piece)
HasApplied-more progress reader bytes piece so_far begun some = record {
  unfinished = so_far.unfinished ++ piece;
  begun = begun;
  sum = so_far.sum;
  more = λ tail answer why applies. GoesOn-part progress.database progress.is_first so_far.unfinished bytes piece tail answer so_far.more some applies;
  done = λ none _. absurd (omega (arith, some, ap length none, length-append so_far.unfinished piece));
}

-- the file that ended joins
pub HasApplied-joins : (progress : Progress) (now : Database) (bytes part : List ℕ) (file : Ltx) → EndsFile progress bytes part file →
    JoinsTo progress.database file → now ≡ after progress.database file → HasSum now →
    HasApplied (record progress { database = now; is_first = false }) (bytes ++ part)
HasApplied-joins progress now bytes part file ends joins is sum = record {
  unfinished = [];
  begun = ends.begun;
  sum = sum;
  more = λ tail answer why applies.
      let some : 0 < length tail = elim why [ inl never ↦ cc | inr some ↦ some ] in
      let then : Applies (after progress.database file) tail answer = subst (λ d. Applies d tail answer) is applies in
      GoesOn-part progress.database progress.is_first ends.unfinished bytes part tail answer ends.more ends.some
      (more (ends.unfinished ++ part) tail refl ends.whole joins some then);
  done = λ _ _.
      let none : (bytes ++ part) ++ [] ≡ bytes ++ part = append-nil (bytes ++ part) in
      let whole : (ends.unfinished ++ part) ++ [] ≡ ends.unfinished ++ part = append-nil (ends.unfinished ++ part) in
      let P : List ℕ → Type 0 = λ l. Applies progress.database l (Ok now.image) in
      let Q : List ℕ → Type 0 = λ l. Applies never_written l (Ok now.image) in
      subst Q none (GoesOn-part progress.database progress.is_first ends.unfinished bytes part [] (Ok now.image) ends.more ends.some
      (subst P (sym whole) (rw is (last ends.whole joins))));
}

-- the file that ended is refused
pub stays-refused : (progress : Progress) (bytes part : List ℕ) (file : Ltx) (why : Refusal) → EndsFile progress bytes part file →
    (why ≡ refusal.NoMemory) ⊎ Refuses progress.database file why → why ≢ refusal.NoMemory → (tail : List ℕ) →
    Applies never_written ((bytes ++ part) ++ tail) (Err why)
stays-refused progress bytes part file why ends cause lasts tail =
    elim cause [
      | inl memory ↦ absurd (lasts memory)
      | inr refuses ↦ GoesOn-part progress.database progress.is_first ends.unfinished bytes part tail (Err why) ends.more ends.some
          (refused (ends.unfinished ++ part) tail refl ends.whole refuses)
    ]

-- the earliest fault of bytes is refused by its own name
refusal-of_fault : (bytes : List ℕ) (f : LtxFault) → IsEarliest bytes f → refusal_of f ≡ refusal.Ltx f
refusal-of_fault bytes fault.NoMemory is = absurd is.broken.breaks
refusal-of_fault bytes f is = refl

-- the unfinished has a fault in the piece
pub stays-broken : (progress : Progress) (bytes piece : List ℕ) (f : LtxFault) (why : Refusal) (so_far : HasApplied progress bytes) →
    IsRefusedAt (so_far.unfinished ++ piece) f → 0 < length piece → why ≡ refusal_of f → why ≢ refusal.NoMemory → (tail : List ℕ) →
    Applies never_written ((bytes ++ piece) ++ tail) (Err why)
stays-broken progress bytes piece f why so_far cause some is lasts tail =
    elim cause [
      | inl memory ↦ absurd (lasts (is ∙ ap refusal_of memory))
      | inr found ↦
          let first = fault_stays_lem (so_far.unfinished ++ piece) tail f found.1 (found_there f found.0) (found_inside f found.0) in
          GoesOn-part progress.database progress.is_first so_far.unfinished bytes piece tail (Err why) so_far.more some
          (rw (is ∙ refusal-of_fault (so_far.unfinished ++ piece) f found.1) (broken first (found_inside f found.0)))
    ]

-- a file is begun at the end, or none was there
pub MakesOf-short : (progress : Progress) (bytes : List ℕ) (so_far : HasApplied progress bytes) →
    (progress.is_first ≡ true) ⊎ (so_far.unfinished ≢ []) → IsEarliest so_far.unfinished fault.Short → MakesOf bytes (Err (refusal.Ltx fault.Short))
MakesOf-short progress bytes so_far why first =
    let P : List ℕ → Type 0 = λ l. Applies progress.database l (Err (refusal.Ltx fault.Short)) in
    let Q : List ℕ → Type 0 = λ l. Applies never_written l (Err (refusal.Ltx fault.Short)) in
    inr (subst Q (append-nil bytes) (so_far.more [] (Err (refusal.Ltx fault.Short)) there (subst P (sym (append-nil so_far.unfinished)) (broken first tt))))
  where
    some-bytes : (unfinished : List ℕ) → unfinished ≢ [] → 0 < length unfinished
    some-bytes [] some = absurd (some refl)
    some-bytes (b ∷ bs) some = omega arith

    there : (progress.is_first ≡ true) ⊎ 0 < length (so_far.unfinished ++ [])
    there = elim why [ inl is ↦ inl is | inr some ↦ inr (subst (λ (l : List ℕ). 0 < length l) (sym (append-nil so_far.unfinished)) (some-bytes so_far.unfinished some)) ]

-- a refusal that was kept stands
pub is-kept : (r : Result Applying NoMemory) (why : Refusal) (bytes : List ℕ) → IfOk r (λ a. a ≡ Refused why) → OnOk r (why ≢ refusal.NoMemory) →
    (why ≢ refusal.NoMemory → (tail : List ℕ) → Applies never_written (bytes ++ tail) (Err why)) → IfOk r (λ a. IsApplying a bytes)
is-kept (Ok a) why bytes is lasts stands = let P : Applying → Type 0 = λ x. IsApplying x bytes in subst P (sym is) (stands lasts)
is-kept (Err e) why bytes is lasts stands = tt

-- where nothing follows, a refusal that was kept is the answer
pub MakesOf-kept : (why : Refusal) (bytes : List ℕ) → IsApplying (Refused why) bytes → MakesOf bytes (Err why)
MakesOf-kept why bytes stands = let P : List ℕ → Type 0 = λ l. Applies never_written l (Err why) in inr (subst P (append-nil bytes) (stands []))

-- some of a piece is there
pub some-consumed : (used : ℕ) (piece : List ℕ) → 1 ≤ used → used ≤ length piece → 0 < length (take used piece)
some-consumed used piece some within = omega (arith, some, within, length-take-le used piece within)
