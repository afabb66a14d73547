use Rattle.std.proofs.Common.{◌≡◌, ℕ, List, [], ◌<◌, ◌≤◌, Option, Some, Ok, length, take, drop, arith, sym, subst, inl, inr}
use Rattle.std.proofs.lemmas.List.{take-append-drop, length-drop}
use Rattle.ltx_codec.specs.Fields.{AreBytes}
use Rattle.ltx_codec.specs.Format.{IsLtx}
use Rattle.ltx_codec.specs.Places.{IsEarliest, IsRefused, StandsInside}
use Rattle.ltx_codec.specs.Reading.{Reads, IsRefusedAt}
use Rattle.ltx_codec.specs.declared.file_reader.FileReader.{FileReader}
use Rattle.ltx_codec.specs.declared.file.Ltx.{Ltx}
use Rattle.ltx_codec.specs.declared.fault.LtxFault.{LtxFault}
use Rattle.ltx_codec.specs.declared.fault.LtxFault.TheVariants as fault
use Rattle.ltx_codec.proofs.NumberLemmas.{found_inside}
use Rattle.ltx_codec.proofs.SoundLemmas.{behind_file}
use Rattle.ltx_codec.proofs.reading.decode_first.Goals as goal

-- bytes that go on behind a file are its tail
goes_on : (bytes : List ℕ) (used : ℕ) (file : Ltx) → AreBytes bytes → IsLtx (take used bytes) file → used < length bytes → IsEarliest bytes fault.Tail
goes_on bytes used file fits is less =
    let whole = take-append-drop used bytes in
    subst (λ (l : List ℕ). IsEarliest l fault.Tail) whole
    (behind_file (take used bytes) (drop used bytes) file (subst (λ (l : List ℕ). AreBytes l) (sym whole) fits) is (omega (arith, less, length-drop used bytes)))

refused_of : (bytes : List ℕ) (f : LtxFault) → IsRefusedAt bytes f → IsRefused bytes f
refused_of bytes f refused = elim refused [ inl memory ↦ inl memory | inr found ↦ inr found.1 ]

inside_of : (bytes : List ℕ) (f : LtxFault) → IsRefusedAt bytes f → StandsInside f
inside_of bytes f refused = elim refused [
  | inl memory ↦ subst (λ (g : LtxFault). StandsInside g) (sym memory) tt
  | inr found ↦ found_inside f found.0
]

-- what the reader gives of a file that is whole
gives_file : (reader : FileReader) (bytes : List ℕ) (answer : Option (Ltx × ℕ)) (first : Ltx × ℕ) → answer ≡ Some first → Reads reader [] bytes (Ok answer) →
    (first.1 ≤ length bytes) × IsLtx (take first.1 bytes) first.0
gives_file reader bytes answer first is gives =
    let file : Reads reader [] bytes (Ok (Some first)) = subst (λ (a : Option (Ltx × ℕ)). Reads reader [] bytes (Ok a)) is gives in
    (file.1, file.2)

pub returns-in-Ok-Some-clause-ok : goal.returns-in-Ok-Some-clause-ok
returns-in-Ok-Some-clause-ok c = (gives_file c.feed.new.self c.args.bytes.now c.in-Ok-Some.field-0 c.in-Ok-Some.first c.in-Ok-Some.field-0-is (c.in-Ok-Some.ensures.gives [] c.in_ok-reader.ensures)).1

pub returns-in-Ok-Some-clause-within : goal.returns-in-Ok-Some-clause-within
returns-in-Ok-Some-clause-within c = (gives_file c.feed.new.self c.args.bytes.now c.in-Ok-Some.field-0 c.in-Ok-Some.first c.in-Ok-Some.field-0-is (c.in-Ok-Some.ensures.gives [] c.in_ok-reader.ensures)).0

pub returns-in-Ok-Some-clause-behind : goal.returns-in-Ok-Some-clause-behind
returns-in-Ok-Some-clause-behind c = goes_on c.args.bytes.now c.in-Ok-Some.first.1 c.in-Ok-Some.first.0 (λ i. omega (arith, c.type_inv.bytes i))
    (gives_file c.feed.new.self c.args.bytes.now c.in-Ok-Some.field-0 c.in-Ok-Some.first c.in-Ok-Some.field-0-is (c.in-Ok-Some.ensures.gives [] c.in_ok-reader.ensures)).1

pub returns-clause-fault : goal.returns-clause-fault
returns-clause-fault c = refused_of c.args.bytes.now c.in-Err.fault (c.in-Err.ensures.gives [] c.in_ok-reader.ensures)

pub returns-clause-inside : goal.returns-clause-inside
returns-clause-inside c = inside_of c.args.bytes.now c.in-Err.fault (c.in-Err.ensures.gives [] c.in_ok-reader.ensures)
