use Rattle.std.proofs.Common.{◌≡◌, ◌+◌, ◌++◌, ℕ, List, [], None, Ok, take, drop, arith, sym, ap, subst, ◌∙◌, ◌⊎◌, inl, inr}
use Rattle.std.proofs.Math.Logic.{∥∥₁_map}
use Rattle.std.proofs.lemmas.Result.{err_from_is_err_and}
use Rattle.ltx_codec.specs.Format.{IsLtx}
use Rattle.ltx_codec.specs.Decoding.{HasFed}
use Rattle.ltx_codec.specs.WholePages.{HasTaken, largest_page}
use Rattle.ltx_codec.specs.Reading.{HasBegun, IsRefusedAt}
use Rattle.ltx_codec.specs.steps.ReadingParts.{HasWhole, ReadsPart, CountsSome, IsSomeOf}
use Rattle.ltx_codec.specs.declared.decoder.Decoder.{Decoder}
use Rattle.ltx_codec.specs.declared.file.Ltx.{Ltx}
use Rattle.ltx_codec.specs.declared.file_reader.FileReader.{FileReader}
use Rattle.ltx_codec.specs.declared.seen.Seen.{Seen}
use Rattle.ltx_codec.specs.declared.seen.Seen.TheVariants as seen
use Rattle.ltx_codec.proofs.FeedLemmas.{piece_rest}
use Rattle.ltx_codec.proofs.PieceLemmas.{two_taken}
use Rattle.ltx_codec.proofs.file_reader.FileReader.feed.Goals as goal

-- a reader that stands in a file has taken its encoding
taken_of : (reader : FileReader) (encoding : List ℕ) → HasBegun reader encoding → HasTaken reader.decoder reader.change encoding
taken_of reader encoding begun = record { fed = begun.fed; pages = begun.pages }

begun_of : (reader : FileReader) (encoding : List ℕ) → reader.fault ≡ None → HasTaken reader.decoder reader.change encoding → HasBegun reader encoding
begun_of reader encoding sound taken = record { sound = sound; fed = taken.fed; pages = taken.pages }

-- the bytes behind those that were taken
rest_all : (encoding piece rest : List ℕ) (taken : ℕ) → rest ≡ drop taken piece → (encoding ++ take taken piece) ++ rest ≡ encoding ++ piece
rest_all encoding piece rest taken is = ap (λ (l : List ℕ). (encoding ++ take taken piece) ++ l) is ∙ piece_rest encoding piece taken

rest_some : (encoding piece rest : List ℕ) (taken used : ℕ) → rest ≡ drop taken piece → (encoding ++ take taken piece) ++ take used rest ≡ encoding ++ take (taken + used) piece
rest_some encoding piece rest taken used is = ap (λ (l : List ℕ). (encoding ++ take taken piece) ++ take used l) is ∙ sym (two_taken encoding piece taken used)

-- a header or a page ended
abbrev EndsPartAt : Seen → ℕ → Type 0
EndsPartAt s used = (s ≡ seen.Header used) ⊎ ((number : ℕ) × (s ≡ seen.Page used number))

ends_some : (piece : List ℕ) (s : Seen) (used : ℕ) → EndsPartAt s used → CountsSome piece s → IsSomeOf used piece
ends_some piece s used ends counts = elim ends [
  | inl header ↦ subst (CountsSome piece) header counts
  | inr page ↦ subst (CountsSome piece) page.1 counts
]

ends_taken : (reader : FileReader) (encoding piece : List ℕ) (s : Seen) (used : ℕ) → EndsPartAt s used → ReadsPart reader.decoder reader.change encoding piece (Ok s)
    → HasTaken reader.decoder reader.change (encoding ++ take used piece)
ends_taken reader encoding piece s used ends takes = elim ends [
  | inl header ↦ subst (λ (t : Seen). ReadsPart reader.decoder reader.change encoding piece (Ok t)) header takes
  | inr page ↦ subst (λ (t : Seen). ReadsPart reader.decoder reader.change encoding piece (Ok t)) page.1 takes
]

pub returns-in_err-take_part-clause-gives : goal.returns-in_err-take_part-clause-gives
returns-in_err-take_part-clause-gives c encoding begun =
    let p = err_from_is_err_and c.from_residual.result c.from_residual.ensures.1 in
    let now = c.loop-used.invariant.2 encoding begun in
    let refused = c.in_err-take_part.ensures.gives (encoding ++ take c.loop-used.taken c.args.piece.now) (taken_of c.loop-used.self _ now) in
    rw (p.1, p.2) (subst (λ (l : List ℕ). IsRefusedAt l c.in_err-take_part.field-0.0) (rest_all encoding c.args.piece.now c.split_at.result.1.now c.loop-used.taken c.split_at.ensures.back) refused)

pub returns-in-More-clause-gives : goal.returns-in-More-clause-gives
returns-in-More-clause-gives c encoding begun =
    let now = c.loop-used.invariant.2 encoding begun in
    let takes = c.in_ok-take_part.ensures.gives (encoding ++ take c.loop-used.taken c.args.piece.now) (taken_of c.loop-used.self _ now) in
    let more = subst (λ (s : Seen). ReadsPart c.take_part.new.self.decoder c.take_part.new.self.change (encoding ++ take c.loop-used.taken c.args.piece.now) c.split_at.result.1.now (Ok s)) c.in-More.is takes in
    subst (λ (l : List ℕ). HasBegun c.take_part.new.self l) (rest_all encoding c.args.piece.now c.split_at.result.1.now c.loop-used.taken c.split_at.ensures.back)
    (begun_of c.take_part.new.self _ c.in_ok-take_part.ensures.sound more)

-- the file that ended with the part
pub take_file-requires : goal.take_file-requires
take_file-requires c = ∥∥₁_map (c.loop-used.self.begun c.loop-used.invariant.1) (λ x.
    let whole = subst (λ (s : Seen). ReadsPart c.take_part.new.self.decoder c.take_part.new.self.change x.0 c.split_at.result.1.now (Ok s)) c.in-Whole.is (c.in_ok-take_part.ensures.gives x.0 x.1) in
    whole.fed)

pub returns-in-Whole-clause-gives : goal.returns-in-Whole-clause-gives
returns-in-Whole-clause-gives c encoding begun =
    let now = c.loop-used.invariant.2 encoding begun in
    let front = encoding ++ take c.loop-used.taken c.args.piece.now in
    let takes = c.in_ok-take_part.ensures.gives front (taken_of c.loop-used.self front now) in
    let whole : HasWhole c.take_part.new.self.decoder c.take_part.new.self.change (front ++ take c.in-Whole.used c.split_at.result.1.now) =
    subst (λ (s : Seen). ReadsPart c.take_part.new.self.decoder c.take_part.new.self.change front c.split_at.result.1.now (Ok s)) c.in-Whole.is takes in
    let some : IsSomeOf c.in-Whole.used c.split_at.result.1.now = subst (CountsSome c.split_at.result.1.now) c.in-Whole.is c.in_ok-take_part.ensures.some in
    let file = subst (λ (f : Ltx). IsLtx (front ++ take c.in-Whole.used c.split_at.result.1.now) f) (sym c.take_file.ensures.file) whole.is in (
      omega (arith, some.0),
      omega (arith, some.1, c.split_at.ensures.back_len, c.loop-used.invariant.0),
      subst (λ (l : List ℕ). IsLtx l c.take_file.result) (rest_some encoding c.args.piece.now c.split_at.result.1.now c.loop-used.taken c.in-Whole.used c.split_at.ensures.back) file,
      record {
        sound = c.take_file.ensures.same.1 ∙ c.in_ok-take_part.ensures.sound;
        fed = subst (λ (d : Decoder). HasFed d largest_page []) (sym c.take_file.ensures.same.0) whole.fed;
        pages = λ long. absurd (omega (arith, long));
      },
    )

pub loop-used-preserved : goal.loop-used-preserved
loop-used-preserved c =
    let some = ends_some c.split_at.result.1.now c.in_ok-take_part.field-0 c.in-Header.used c.in-Header.is c.in_ok-take_part.ensures.some in (
      omega (arith, some.1, c.split_at.ensures.back_len, c.loop-used.invariant.0),
      c.in_ok-take_part.ensures.sound,
      λ encoding begun.
          let now = c.loop-used.invariant.2 encoding begun in
          let front = encoding ++ take c.loop-used.taken c.args.piece.now in
          let takes = c.in_ok-take_part.ensures.gives front (taken_of c.loop-used.self front now) in
          subst (λ (l : List ℕ). HasBegun c.take_part.new.self l) (rest_some encoding c.args.piece.now c.split_at.result.1.now c.loop-used.taken c.in-Header.used c.split_at.ensures.back)
          (begun_of c.take_part.new.self _ c.in_ok-take_part.ensures.sound (ends_taken c.take_part.new.self front c.split_at.result.1.now c.in_ok-take_part.field-0 c.in-Header.used c.in-Header.is takes)),
    )
