use Rattle.std.proofs.Common.{◌≡◌, ◌++◌, ℕ, List, [], Ok, Err, Result, take, arith, refl}
use Rattle.std.proofs.Math.Logic.{∥∥₁_map}
use Rattle.lf_sqlite_pages.specs.Change.{PageChange}
use Rattle.ltx_codec.specs.WholePages.{HasTaken}
use Rattle.ltx_codec.specs.steps.ReadingParts.{ReadsPart}
use Rattle.ltx_codec.specs.declared.decoder.Decoder.{Decoder}
use Rattle.ltx_codec.specs.declared.seen.Seen.{Seen}
use Rattle.ltx_codec.specs.declared.seen.Seen.TheVariants as seen
use Rattle.ltx_codec.specs.declared.fault.LtxFault.{LtxFault}
use Rattle.ltx_codec.proofs.file_reader.FileReader.take_part.Goals as goal

-- behind a part that was taken stands an encoding that was taken
taken_after : (d : Decoder) (change : PageChange) (encoding piece : List ℕ) (r : Result Seen LtxFault) → ((f : LtxFault) → r ≡ Err f → ⊥) → ReadsPart d change encoding piece r
    → (now : List ℕ) × HasTaken d change now
taken_after d change encoding piece (Ok seen.More) good taken = (encoding ++ piece, taken)
taken_after d change encoding piece (Ok (seen.Header used)) good taken = (encoding ++ take used piece, taken)
taken_after d change encoding piece (Ok (seen.Page used number)) good taken = (encoding ++ take used piece, taken)
taken_after d change encoding piece (Ok (seen.Whole used)) good taken = ([], record { fed = taken.fed; pages = λ long. absurd (omega (arith, long)) })
taken_after d change encoding piece (Err f) good taken = absurd (good f refl)

pub invariant_of-self-in_default : goal.invariant_of-self-in_default
invariant_of-self-in_default c = record {
  begun = λ none. ∥∥₁_map (c.args.self.now.begun none) (λ x. taken_after c.read_part-seen.new.decoder c.read_part-seen.new.change x.0 c.args.piece.now c.read_part-seen.result
      c.in_default.not-Err (c.read_part-seen.ensures.gives x.0 x.1));
}
