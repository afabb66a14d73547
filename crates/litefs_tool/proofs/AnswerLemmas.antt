-- Applying files comes to one answer.
use Rattle.std.proofs.Common.{◌≡◌, ℕ, ◌+◌, ◌<◌, List, [], ◌++◌, length, Result, Ok, Err, get_or, refl, sym, ap, subst, ◌∙◌, arith, append-nil, length-append}
use Rattle.std.proofs.lemmas.List.{append_cancel_left, get_or-append-add}
use Rattle.lf_sqlite_pages.specs.Image.{DatabaseImage}
use Rattle.lf_sqlite_pages.specs.Apply.{apply}
use Rattle.ltx_codec.specs.Fields.{AreBytes}
use Rattle.ltx_codec.specs.Format.{IsLtx}
use Rattle.ltx_codec.specs.Places.{IsBroken, IsEarliest, StandsInside}
use Rattle.ltx_codec.specs.declared.file.Ltx.{Ltx}
use Rattle.ltx_codec.specs.declared.fault.LtxFault.{LtxFault}
use Rattle.ltx_codec.specs.declared.fault.LtxFault.TheVariants as fault
use Rattle.litefs_tool.specs.Files.{Applies, Refuses, JoinsTo, after, broken, refused, last, more}
use Rattle.litefs_tool.specs.declared.database.Database.{Database}
use Rattle.litefs_tool.specs.declared.refusal.Refusal.{Refusal}
use Rattle.litefs_tool.specs.declared.refusal.Refusal.TheVariants as refusal

-- a file that joins is not refused
joins_or_refuses : (database : Database) (file : Ltx) (why : Refusal) → JoinsTo database file → Refuses database file why → ⊥
joins_or_refuses database file (refusal.NotNext have want) joins refuses = refuses.2 (refuses.1 ∙ joins.next ∙ sym refuses.0)
joins_or_refuses database file refusal.PageSize joins refuses = refuses.1 joins.fits
joins_or_refuses database file (refusal.SumDiffers want got) joins refuses = refuses.4 (refuses.2 ∙ sym joins.sum ∙ sym refuses.3)
joins_or_refuses database file (refusal.Ltx f) joins refuses = refuses
joins_or_refuses database file refusal.NoMemory joins refuses = refuses

-- a file is refused for one reason
refuses_once : (database : Database) (file : Ltx) (why other : Refusal) → Refuses database file why → Refuses database file other → why ≡ other
refuses_once database file (refusal.Ltx f) other one two = absurd one
refuses_once database file refusal.NoMemory other one two = absurd one
refuses_once database file why (refusal.Ltx f) one two = absurd two
refuses_once database file why refusal.NoMemory one two = absurd two
refuses_once database file (refusal.NotNext have want) (refusal.NotNext has wants) one two =
    let haves : have ≡ has = one.0 ∙ sym two.0 in
    let want_same : want ≡ wants = one.1 ∙ sym two.1 in
    cc
refuses_once database file (refusal.NotNext have want) refusal.PageSize one two = absurd (one.2 (one.1 ∙ two.0 ∙ sym one.0))
refuses_once database file (refusal.NotNext have want) (refusal.SumDiffers wants got) one two = absurd (one.2 (one.1 ∙ two.0 ∙ sym one.0))
refuses_once database file refusal.PageSize (refusal.NotNext have want) one two = absurd (two.2 (two.1 ∙ one.0 ∙ sym two.0))
refuses_once database file refusal.PageSize refusal.PageSize one two = refl
refuses_once database file refusal.PageSize (refusal.SumDiffers want got) one two = absurd (one.1 two.1)
refuses_once database file (refusal.SumDiffers want got) (refusal.NotNext have wants) one two = absurd (two.2 (two.1 ∙ one.0 ∙ sym two.0))
refuses_once database file (refusal.SumDiffers want got) refusal.PageSize one two = absurd (two.1 one.1)
refuses_once database file (refusal.SumDiffers want got) (refusal.SumDiffers wants gets) one two =
    let want_same : want ≡ wants = one.2 ∙ sym two.2 in
    let got_same : got ≡ gets = one.3 ∙ sym two.3 in
    cc

-- what follows some bytes is bytes
pub bytes_behind : (bytes encoding rest : List ℕ) → AreBytes bytes → bytes ≡ encoding ++ rest → AreBytes rest
bytes_behind bytes encoding rest small is i =
    subst (λ n. n < 256) (ap (λ bs. get_or bs (length encoding + i) 0) is ∙ get_or-append-add encoding rest i 0) (small (length encoding + i))

-- a encoding has one reading
abbrev pub OneReading : Type 0
OneReading = (encoding other rest more : List ℕ) (file second : Ltx) → IsLtx encoding file → IsLtx other second
    → encoding ++ rest ≡ other ++ more → (encoding ≡ other) × (file ≡ second)

-- a encoding breaks no rule
abbrev pub BreaksNoRule : Type 0
BreaksNoRule = (encoding rest : List ℕ) (file : Ltx) (f : LtxFault) (place : ℕ) → AreBytes (encoding ++ rest)
    → IsLtx encoding file → IsBroken (encoding ++ rest) f place → (f ≡ fault.Tail) × (length encoding < place)

-- the earliest fault is one
abbrev pub OneFault : Type 0
OneFault = (bytes : List ℕ) (fault other : LtxFault) → IsEarliest bytes fault → IsEarliest bytes other → fault ≡ other

-- what follows the file first
pub same_rest : (encoding other rest after_it : List ℕ) → encoding ≡ other → encoding ++ rest ≡ other ++ after_it → rest ≡ after_it
same_rest encoding other rest after_it same is = append_cancel_left encoding rest after_it (is ∙ ap (λ (l : List ℕ). l ++ after_it) (sym same))

module _ (reading : OneReading) (sound : BreaksNoRule) (one_fault : OneFault) where
  -- bytes with a file at their prefix have no fault inside it
  pub no_fault : (bytes encoding rest : List ℕ) (file : Ltx) (f : LtxFault) → AreBytes bytes → bytes ≡ encoding ++ rest → IsLtx encoding file →
      IsEarliest bytes f → StandsInside f → ⊥
  no_fault bytes encoding rest file f small is whole first inside =
      let tail : f ≡ fault.Tail = (sound encoding rest file f first.place (subst AreBytes is small) whole (subst (λ bs. IsBroken bs f first.place) is first.broken)).0 in
      let none : StandsInside fault.Tail = subst StandsInside tail inside in
      none

  -- a whole encoding has no file at its prefix with bytes behind it
  not_more : (bytes encoding rest : List ℕ) (file second : Ltx) → IsLtx bytes file → IsLtx encoding second → bytes ≡ encoding ++ rest → 0 < length rest → ⊥
  not_more bytes encoding rest file second whole prefix is some =
      let joined : bytes ++ [] ≡ encoding ++ rest = append-nil bytes ∙ is in
      let same : bytes ≡ encoding = (reading bytes encoding [] rest file second whole prefix joined).0 in
      let count : length encoding ≡ length encoding + length rest = sym (ap length same) ∙ ap length is ∙ length-append encoding rest in
      absurd (omega arith)

  pub one_answer-of : (database : Database) (bytes : List ℕ) (answer other : Result DatabaseImage Refusal) → AreBytes bytes →
      Applies database bytes answer → Applies database bytes other → answer ≡ other
  one_answer-of database bytes _ _ small (broken {fault = f} first inside) (broken {fault = g} second _) =
      ap (λ x. Err (refusal.Ltx x)) (one_fault bytes f g first second)
  one_answer-of database bytes _ _ small (broken {fault = f} first inside) (refused encoding rest {file = file} is whole why) =
      absurd (no_fault bytes encoding rest file f small is whole first inside)
  one_answer-of database bytes _ _ small (broken {fault = f} first inside) (last {file = file} whole joins) =
      absurd (no_fault bytes bytes [] file f small (sym (append-nil bytes)) whole first inside)
  one_answer-of database bytes _ _ small (broken {fault = f} first inside) (more encoding rest {file = file} is whole joins some applies) =
      absurd (no_fault bytes encoding rest file f small is whole first inside)
  one_answer-of database bytes _ _ small (refused encoding rest {file = file} is whole why) (broken {fault = f} first inside) =
      absurd (no_fault bytes encoding rest file f small is whole first inside)
  one_answer-of database bytes _ _ small (refused encoding rest {file = file} {why = one} is whole why) (refused other after_it {file = second} {why = two} is_too prefix whys) =
      let same : file ≡ second = (reading encoding other rest after_it file second whole prefix (sym is ∙ is_too)).1 in
      ap Err (refuses_once database second one two (subst (λ x. Refuses database x one) same why) whys)
  one_answer-of database bytes _ _ small (refused encoding rest {file = file} {why = one} is whole why) (last {file = second} prefix joins) =
      let same : file ≡ second = (reading encoding bytes rest [] file second whole prefix (sym is ∙ sym (append-nil bytes))).1 in
      absurd (joins_or_refuses database second one joins (subst (λ x. Refuses database x one) same why))
  one_answer-of database bytes _ _ small (refused encoding rest {file = file} {why = one} is whole why) (more other after_it {file = second} is_too prefix joins some applies) =
      let same : file ≡ second = (reading encoding other rest after_it file second whole prefix (sym is ∙ is_too)).1 in
      absurd (joins_or_refuses database second one joins (subst (λ x. Refuses database x one) same why))
  one_answer-of database bytes _ _ small (last {file = file} whole joins) (broken {fault = f} first inside) =
      absurd (no_fault bytes bytes [] file f small (sym (append-nil bytes)) whole first inside)
  one_answer-of database bytes _ _ small (last {file = second} prefix joins) (refused encoding rest {file = file} {why = one} is whole why) =
      let same : file ≡ second = (reading encoding bytes rest [] file second whole prefix (sym is ∙ sym (append-nil bytes))).1 in
      absurd (joins_or_refuses database second one joins (subst (λ x. Refuses database x one) same why))
  one_answer-of database bytes _ _ small (last {file = file} whole joins) (last {file = second} prefix joins_too) =
      ap (λ x. Ok (apply database.image x.change)) (reading bytes bytes [] [] file second whole prefix refl).1
  one_answer-of database bytes _ _ small (last {file = file} whole joins) (more other after_it {file = second} is_too prefix joins_too some applies) =
      absurd (not_more bytes other after_it file second whole prefix is_too some)
  one_answer-of database bytes _ _ small (more encoding rest {file = file} is whole joins some applies) (broken {fault = f} first inside) =
      absurd (no_fault bytes encoding rest file f small is whole first inside)
  one_answer-of database bytes _ _ small (more other after_it {file = second} is_too prefix joins some applies) (refused encoding rest {file = file} {why = one} is whole why) =
      let same : file ≡ second = (reading encoding other rest after_it file second whole prefix (sym is ∙ is_too)).1 in
      absurd (joins_or_refuses database second one joins (subst (λ x. Refuses database x one) same why))
  one_answer-of database bytes _ _ small (more other after_it {file = second} is_too prefix joins_too some applies) (last {file = file} whole joins) =
      absurd (not_more bytes other after_it file second whole prefix is_too some)
  one_answer-of database bytes _ answer small (more encoding rest {file = file} is whole joins some applies) (more other after_it {file = second} is_too prefix joins_too some_too applies_too) =
      let both = reading encoding other rest after_it file second whole prefix (sym is ∙ is_too) in
      let rests : rest ≡ after_it = same_rest encoding other rest after_it both.0 (sym is ∙ is_too) in
      let again : Applies (after database file) rest answer =
      subst (λ bs. Applies (after database file) bs answer) (sym rests) (subst (λ x. Applies (after database x) after_it answer) (sym both.1) applies_too)
      in
      one_answer-of (after database file) rest _ _ (bytes_behind bytes encoding rest small is) applies again
