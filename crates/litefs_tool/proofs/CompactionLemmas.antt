-- Reading the encodings of files one after another, and what they become.
use Rattle.std.proofs.Common.{◌≡◌, ◌≢◌, ℕ, ◌<◌, Result, Ok, Err, List, [], ◌∷◌, ◌++◌, inl, inr, length, refl, sym, ◌∙◌, ap, subst, arith, append_assoc, append-nil, length-append}
use Rattle.std.specs.Result.{IfErr, IsErrAnd}
use Rattle.std.proofs.lemmas.List.Elements.{All-push}
use Rattle.ltx_codec.specs.Format.{IsFile, IsLtx}
use Rattle.ltx_codec.specs.Places.{IsEarliest}
use Rattle.ltx_codec.specs.Reading.{HasBegun, IsRefusedAt}
use Rattle.ltx_codec.specs.declared.file_reader.FileReader.{FileReader}
use Rattle.ltx_codec.proofs.AgreeLemmas.{fault_stays_lem}
use Rattle.ltx_codec.proofs.NumberLemmas.{found_there, found_inside}
use Rattle.ltx_codec.specs.declared.fault.LtxFault.{LtxFault}
use Rattle.ltx_codec.specs.declared.fault.LtxFault.TheVariants as ltx
use Rattle.ltx_codec.specs.declared.file.Ltx.{Ltx}
use Rattle.ltx_compact.specs.Compaction.{HasSnapshotSum, IsFileButSum}
use Rattle.ltx_compact.specs.Joining.{IsWhy}
use Rattle.ltx_compact.specs.declared.fault.CompactFault.{CompactFault}
use Rattle.ltx_compact.specs.declared.fault.CompactFault.TheVariants as list
use Rattle.litefs_tool.specs.Compaction.{AreEncodings, BreaksOff, MayRefuse}
use Rattle.litefs_tool.specs.steps.Gathering.{HaveEncodings, HasGathered}
use Rattle.litefs_tool.specs.declared.gathering.Gathered.{Gathered}
use Rattle.litefs_tool.specs.CompactRefusal.{of_list}
use Rattle.litefs_tool.specs.declared.compact_refusal.CompactRefusal.{CompactRefusal}
use Rattle.litefs_tool.specs.declared.compact_refusal.CompactRefusal.TheVariants as refusal

-- one more file behind others
AreEncodings-more : (prefix unfinished : List ℕ) (file : Ltx) (files : List Ltx) → AreEncodings prefix files → IsLtx unfinished file →
    AreEncodings (prefix ++ unfinished) (files ++ file ∷ [])
AreEncodings-more prefix unfinished file [] encodings is =
    (unfinished, [], ap (λ (l : List ℕ). l ++ unfinished) encodings ∙ sym (append-nil unfinished), is, refl)
AreEncodings-more prefix unfinished file (first ∷ files) encodings is = (
  encodings.0,
  encodings.1 ++ unfinished,
  ap (λ (l : List ℕ). l ++ unfinished) encodings.2 ∙ append_assoc encodings.0 encodings.1 unfinished,
  encodings.3,
  AreEncodings-more encodings.1 unfinished file files encodings.4 is,
)

-- no file ends in the piece
HaveEncodings-more : (files : List Ltx) (unfinished bytes piece : List ℕ) → HaveEncodings files unfinished bytes → HaveEncodings files (unfinished ++ piece) (bytes ++ piece)
HaveEncodings-more files unfinished bytes piece so_far = record {
  prefix = so_far.prefix;
  split = ap (λ (l : List ℕ). l ++ piece) so_far.split ∙ append_assoc so_far.prefix unfinished piece;
  encodings = so_far.encodings;
  valid = so_far.valid;
}

pub HasGathered-more : (gathered : Gathered) (reader : FileReader) (bytes piece : List ℕ) (so_far : HasGathered gathered bytes) →
    HasBegun reader (so_far.unfinished ++ piece) → HasGathered (record { reader = reader; files = gathered.files }) (bytes ++ piece)
HasGathered-more gathered reader bytes piece so_far begun = record {
  unfinished = so_far.unfinished ++ piece;
  begun = begun;
  have = HaveEncodings-more gathered.files.items so_far.unfinished bytes piece so_far.have;
}

-- the file that was begun ends
pub HaveEncodings-file : (files : List Ltx) (unfinished bytes part : List ℕ) (file : Ltx) → HaveEncodings files unfinished bytes → IsLtx (unfinished ++ part) file →
    HaveEncodings (files ++ file ∷ []) [] (bytes ++ part)
HaveEncodings-file files unfinished bytes part file so_far is = record {
  prefix = so_far.prefix ++ (unfinished ++ part);
  split = ap (λ (l : List ℕ). l ++ part) so_far.split ∙ append_assoc so_far.prefix unfinished part ∙ sym (append-nil (so_far.prefix ++ (unfinished ++ part)));
  encodings = AreEncodings-more so_far.prefix (unfinished ++ part) file files so_far.encodings is;
  valid = All-push IsFile files file so_far.valid is.valid;
}

-- the unfinished of the file that is begun has a fault, whatever follows
pub stays-broken : (files : List Ltx) (unfinished bytes piece : List ℕ) (f : LtxFault) → HaveEncodings files unfinished bytes → IsRefusedAt (unfinished ++ piece) f →
    f ≢ ltx.NoMemory → 0 < length piece → (tail : List ℕ) → BreaksOff ((bytes ++ piece) ++ tail) f
stays-broken files unfinished bytes piece f so_far cause lasts some tail =
    elim cause [
      | inl memory ↦ absurd (lasts memory)
      | inr found ↦
          let longer = HaveEncodings-more files (unfinished ++ piece) (bytes ++ piece) tail (HaveEncodings-more files unfinished bytes piece so_far) in
          record {
            prefix = longer.prefix;
            rest = (unfinished ++ piece) ++ tail;
            files = files;
            split = longer.split;
            encodings = longer.encodings;
            more = omega (arith, some, length-append (unfinished ++ piece) tail, length-append unfinished piece);
            broken = fault_stays_lem (unfinished ++ piece) tail f found.1 (found_there f found.0) (found_inside f found.0);
            inside = found_inside f found.0;
          }
    ]

-- where nothing follows, a fault that was kept is the answer
pub MayRefuse-kept : (bytes : List ℕ) (f : LtxFault) → ((tail : List ℕ) → BreaksOff (bytes ++ tail) f) → MayRefuse bytes (refusal.Ltx f)
MayRefuse-kept bytes f stands = let P : List ℕ → Type 0 = λ l. BreaksOff l f in inr (subst P (append-nil bytes) (stands []))

some-bytes : (unfinished : List ℕ) → unfinished ≢ [] → 0 < length unfinished
some-bytes [] some = absurd (some refl)
some-bytes (b ∷ bs) some = omega arith

-- a file is begun at the end
pub MayRefuse-short : (gathered : Gathered) (bytes : List ℕ) (so_far : HasGathered gathered bytes) → so_far.unfinished ≢ [] → IsEarliest so_far.unfinished ltx.Short →
    MayRefuse bytes (refusal.Ltx ltx.Short)
MayRefuse-short gathered bytes so_far some first = inr (record {
  prefix = so_far.have.prefix;
  rest = so_far.unfinished;
  files = gathered.files.items;
  split = so_far.have.split;
  encodings = so_far.have.encodings;
  more = some-bytes so_far.unfinished some;
  broken = first;
  inside = tt;
})

-- an answer that passes on why
pub passed-on : {T : Type 0} (bytes : List ℕ) (why : CompactRefusal) (result : Result T CompactRefusal) → IsErrAnd result (λ f. f ≡ why) →
    MayRefuse bytes why → IfErr result (MayRefuse bytes)
passed-on bytes why (Ok done) is known = absurd is
passed-on bytes why (Err f) is known = let P : CompactRefusal → Type 0 = λ g. MayRefuse bytes g in subst P (sym is) known

-- files that do not join
pub MayRefuse-list : (bytes : List ℕ) (files : List Ltx) (f : CompactFault) → AreEncodings bytes files → IsWhy files f → MayRefuse bytes (of_list f)
MayRefuse-list bytes files list.NoMemory encodings why = inl refl
MayRefuse-list bytes files list.Empty encodings why = inr (files, encodings, why)
MayRefuse-list bytes files (list.Gap at) encodings why = inr (files, encodings, why)
MayRefuse-list bytes files (list.SumGap at want got) encodings why = inr (files, encodings, why)
MayRefuse-list bytes files (list.PageSize at) encodings why = inr (files, encodings, why)

-- with the right sum it is a file
pub IsFile-by_sum : (file : Ltx) → IsFileButSum file → HasSnapshotSum file → IsFile file
IsFile-by_sum file sound sum = record { header = sound.header; block = sound.block; post = sound.post sum }
