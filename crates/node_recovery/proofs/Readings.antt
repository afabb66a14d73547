-- A file is read to its end.
use Rattle.std.proofs.Common.{◌≡◌, ℕ, ◌<◌, ◌≤◌, Bool, true, false, Option, Ok, List, [], ◌++◌, append_assoc, take, length, length-append, refl, sym, ◌∙◌, ap, subst, IsTrue, arith}
use Rattle.std.proofs.lemmas.List.{drop_all}
use Rattle.lf_sqlite_pages.specs.Change.{PageChange, empty_change}
use Rattle.ltx_codec.specs.Decoding.{page_shown}
use Rattle.ltx_codec.specs.Fields.{AreBytes}
use Rattle.ltx_codec.specs.Faults.{number_of}
use Rattle.ltx_codec.specs.FileIn.{file_in}
use Rattle.ltx_codec.specs.Format.{IsLtx}
use Rattle.ltx_codec.specs.Places.{IsEarliest}
use Rattle.ltx_codec.specs.declared.decoder.Decoder.{Decoder}
use Rattle.ltx_codec.specs.declared.fault.LtxFault.{LtxFault}
use Rattle.ltx_codec.specs.declared.file.Ltx.{Ltx}
use Rattle.ltx_codec.proofs.PartLaws.{file_read}
use Rattle.txn_log.specs.Kept.{file_of, encoded_change}
use Rattle.node_recovery.specs.declared.piece_reader.PieceReader.{PieceReader}
use Rattle.node_recovery.specs.declared.outline.Outline.{Outline}
use Rattle.node_recovery.specs.declared.part.Part.{Part}
use Rattle.node_recovery.specs.declared.part.Part.TheVariants as part
use Rattle.node_recovery.specs.declared.tally.Tally.{Tally}
use Rattle.node_recovery.specs.Damage.{IsUnread}
use Rattle.node_recovery.specs.Outline.{outline_of, IsOutlineIn}
use Rattle.node_recovery.specs.Reading.{left_over, IsIn, IsFilled, Stands, HasCome, Comes, Ends, change_after, IsSound}
use Rattle.node_recovery.specs.Summing.{IsTallied, FitsIn}
use Rattle.node_recovery.proofs.PieceReaders.{all_come}
use Rattle.node_recovery.proofs.Tallies.{last_within}

-- before a page came
pub none_known : (tally : Tally) → tally.sums.sums ≡ [] → tally.wal ≡ false → IsTallied (empty_change 512 0) tally
none_known tally none mode = record {
  count = ap length none;
  sums = λ n first last. absurd (omega (arith, first, last));
  wal = mode;
}

-- bytes that are read do not change what was taken
pub come_same : (r n : PieceReader) (encoding : List ℕ) (change : PageChange) → n.decoder ≡ r.decoder → n.whole ≡ r.whole → n.fault ≡ r.fault → HasCome r encoding change → HasCome n encoding change
come_same r n encoding change decoder whole found come = record {
  octets = come.octets;
  stands = subst (λ (o : Option LtxFault). Stands o n.whole n.decoder encoding change) (sym found)
      (subst (λ (b : Bool). Stands r.fault b n.decoder encoding change) (sym whole) (subst (λ (d : Decoder). Stands r.fault r.whole d encoding change) (sym decoder) come.stands));
}

-- what was taken is behind the encoding
pub in_after : (r n : PieceReader) (encoding bytes : List ℕ) (change : PageChange) (came : Part) → n.size ≡ r.size → n.read ≡ r.read → (comes : Comes r n encoding change came) → IsIn r encoding bytes → IsIn n (encoding ++ comes.piece) bytes
in_after r n encoding bytes change came size read comes here = record {
  front = append_assoc encoding comes.piece (left_over n) ∙ ap (λ (l : List ℕ). encoding ++ l) (sym comes.splits) ∙ here.front ∙ ap (λ (k : ℕ). take k bytes) (sym read);
  size = size ∙ here.size;
}

-- before the header no page came
pub none_after : (n : PieceReader) (old new : List ℕ) (change : PageChange) (came : Part) → length old ≤ length new → IsSound came old new (change_after came n change) → (length old < 100 → change.pages ≡ []) → length new < 100
    → (change_after came n change).pages ≡ []
none_after n old new change part.More grown sound none short = none (omega (arith, grown, short))
none_after n old new change part.Header grown sound none short = refl
none_after n old new change (part.Page number) grown sound none short = absurd (omega (arith, grown, short, sound.0))

-- a file that is being read: some encoding was taken, of the file where the disk is honest, and the pages that came are known
pub record Reads (honest pages : Bool) (bytes : List ℕ) (r : PieceReader) (tally : Tally) : Type 0 where
  pub encoding : List ℕ
  pub change : PageChange
  pub come : HasCome r encoding change
  pub none : length encoding < 100 → change.pages ≡ []
  pub here : IsTrue honest → IsIn r encoding bytes
  pub known : pages ≡ true → IsTallied change tally

module _ (honest pages : Bool) (bytes : List ℕ) where
  -- some bytes were read
  abbrev pub reads_on : (r n : PieceReader) (tally : Tally) → n.decoder ≡ r.decoder → n.whole ≡ r.whole → n.fault ≡ r.fault → (IsTrue honest → (encoding : List ℕ) → IsIn r encoding bytes → IsIn n encoding bytes) → Reads honest pages bytes r tally
      → Reads honest pages bytes n tally
  reads_on r n tally decoder whole found here so_far = record {
    encoding = so_far.encoding;
    change = so_far.change;
    come = come_same r n so_far.encoding so_far.change decoder whole found so_far.come;
    none = so_far.none;
    here = λ is. here is so_far.encoding (so_far.here is);
    known = so_far.known;
  }

  -- a part came
  abbrev pub reads_part : (r n : PieceReader) (old new : Tally) (came : Part) → n.size ≡ r.size → n.read ≡ r.read → ((encoding : List ℕ) (change : PageChange) → HasCome r encoding change → Comes r n encoding change came)
      → (so_far : Reads honest pages bytes r old) → (pages ≡ true → IsTallied (change_after came n so_far.change) new) → Reads honest pages bytes n new
  reads_part r n old new came size read comes so_far known =
      let came_is = comes so_far.encoding so_far.change so_far.come in
      record {
        encoding = so_far.encoding ++ came_is.piece;
        change = change_after came n so_far.change;
        come = came_is.come;
        none = none_after n so_far.encoding (so_far.encoding ++ came_is.piece) so_far.change came (omega (arith, length-append so_far.encoding came_is.piece)) came_is.sound so_far.none;
        here = λ is. in_after r n so_far.encoding bytes so_far.change came size read came_is (so_far.here is);
        known = known;
      }

-- at the end all of the file is the encoding
pub whole_encoding : (r : PieceReader) (encoding bytes : List ℕ) → IsFilled r false → IsIn r encoding bytes → encoding ≡ bytes
whole_encoding r encoding bytes filled here = all_come encoding (left_over r) bytes r.read r.size here.front (drop_all r.taken r.buffer.items (omega (arith, filled.0))) filled.1 here.size

-- a page that came has a number among those of the header
pub fits_in : (came : Part) (r : PieceReader) (encoding next : List ℕ) (change : PageChange) (tally : Tally) → IsSound came encoding next (change_after came r change) → IsTallied change tally → FitsIn came tally
fits_in (part.Page number) r encoding next change tally sound known =
    let inside = last_within change number (page_shown r.decoder) sound.1.valid in
    (inside.0, omega (arith, inside.1, known.count))
fits_in part.Header r encoding next change tally sound known = tt
fits_in part.More r encoding next change tally sound known = tt

-- the encoding of a file reads as that file
outline_in : (encoding : List ℕ) (change : PageChange) (outline : Outline) → AreBytes encoding → IsLtx encoding (record { header = outline.header; change = change; post = outline.post })
    → IsOutlineIn encoding outline × (change ≡ encoded_change encoding)
unfolding file_of
outline_in encoding change outline octets is =
    let file : Ltx = record { header = outline.header; change = change; post = outline.post } in
    let same : file_in encoding ≡ file = file_read encoding file octets is in (
      record {
        octets = octets;
        is = subst (λ (f : Ltx). IsLtx encoding f) (sym same) is;
        tells = ap outline_of (sym same);
      },
      ap (λ (f : Ltx). f.change) (sym same),
    )

module _ (honest pages : Bool) (bytes : List ℕ) (r : PieceReader) (tally : Tally) (so_far : Reads honest pages bytes r tally) (filled : IsFilled r false) where
  -- what is read then
  pub read_whole : (outline : Outline) → Ends so_far.encoding so_far.change (Ok outline) → IsTrue honest → IsOutlineIn bytes outline × (pages ≡ true → IsTallied (encoded_change bytes) tally)
  read_whole outline ends is =
      let whole : so_far.encoding ≡ bytes = whole_encoding r so_far.encoding bytes filled (so_far.here is) in
      let both = outline_in so_far.encoding so_far.change outline so_far.come.octets ends in (
        subst (λ (t : List ℕ). IsOutlineIn t outline) whole both.0,
        λ wanted. subst (λ (x : PageChange). IsTallied x tally) (both.1 ∙ ap (λ (t : List ℕ). encoded_change t) whole) (so_far.known wanted),
      )

  -- or why nothing is
  pub read_not : (f : LtxFault) → IsEarliest so_far.encoding f → IsTrue honest → IsUnread bytes 0 (number_of f)
  read_not f earliest is =
      let whole : so_far.encoding ≡ bytes = whole_encoding r so_far.encoding bytes filled (so_far.here is) in
      record {
        octets = subst (λ (t : List ℕ). AreBytes t) whole so_far.come.octets;
        fault = f;
        earliest = subst (λ (t : List ℕ). IsEarliest t f) whole earliest;
        want_is = refl;
        got_is = refl;
      }
