-- A file that is read piece by piece.
use Rattle.std.proofs.Common.{◌≡◌, ◌⊎◌, inl, inr, ℕ, ◌+◌, ◌-◌, ◌<◌, ◌≤◌, List, [], ◌++◌, length, length-append, length-drop, append_assoc, take, take-add, drop, Option, Some, None, IsSome, unwrap_or, sym, ◌∙◌, ap, subst, arith}
use Rattle.std.specs.Prelude.{Ok, Err, Bool, true, false}
use Rattle.std.proofs.lemmas.Bool.{false≢true}
use Rattle.std.proofs.lemmas.List.{append-nil, take_all, take-append-drop, drop_all, drop-drop}
use Rattle.lf_base.specs.FileBytes.{read_into}
use Rattle.lf_sqlite_pages.specs.Change.{PageChange, empty_change, with_page}
use Rattle.ltx_codec.specs.Decoding.{HasFed, FeedGives, header_shown, page_shown, post_shown}
use Rattle.ltx_codec.specs.Fields.{AreBytes, stated_page_size, stated_commit}
use Rattle.ltx_codec.specs.Format.{IsLtx}
use Rattle.ltx_codec.specs.Places.{IsEarliest}
use Rattle.ltx_codec.specs.WholePages.{HoldsWholePages, HasTaken, largest_page}
use Rattle.ltx_codec.specs.declared.decoder.Decoder.{Decoder}
use Rattle.ltx_codec.specs.declared.fault.LtxFault.{LtxFault}
use Rattle.ltx_codec.specs.declared.fault.LtxFault.TheVariants as fault
use Rattle.ltx_codec.specs.declared.header.Header.{Header}
use Rattle.ltx_codec.specs.declared.seen.Seen.{Seen}
use Rattle.ltx_codec.specs.declared.seen.Seen.TheVariants as seen
use Rattle.ltx_codec.specs.declared.file.Ltx.{Ltx}
use Rattle.ltx_codec.proofs.AgreeLemmas.{fault_stays_lem}
use Rattle.ltx_codec.proofs.FeedLemmas.{AreBytes-append}
use Rattle.ltx_codec.proofs.NumberLemmas.{found_inside, found_there}
use Rattle.ltx_codec.proofs.FileLemmas.{taken_file}
use Rattle.ltx_codec.proofs.PartLemmas.{grown_length}
use Rattle.ltx_codec.proofs.ReaderLemmas.{refused_at, header_before, taken_more, taken_header, taken_page}
use Rattle.ltx_codec.proofs.SoundLemmas.{behind_file}
use Rattle.ltx_codec.proofs.EncodingLemmas.{AreBytes-take}
use Rattle.node_recovery.specs.declared.part.Part.{Part}
use Rattle.node_recovery.specs.declared.part.Part.TheVariants as part
use Rattle.node_recovery.specs.declared.piece_reader.PieceReader.{PieceReader}
use Rattle.node_recovery.specs.Parts.{used_in, ends_file, part_of}
use Rattle.node_recovery.specs.Reading.{StaysEarliest, Stands, IsIn, HasCome, Comes, left_over}

-- nothing was taken yet
pub nothing_taken : (d : Decoder) (change : PageChange) → HasFed d largest_page [] → HasTaken d change []
nothing_taken d change fed = record { fed = fed; pages = λ long. absurd (omega (arith, long)) }

-- the same bytes, split elsewhere
more_of : (encoding piece more : List ℕ) → (encoding ++ piece) ++ more ≡ encoding ++ (piece ++ more)
more_of encoding piece more = append_assoc encoding piece more

-- the bytes behind a fault do not matter
pub stays_on : (encoding piece : List ℕ) (f : LtxFault) → StaysEarliest encoding f → StaysEarliest (encoding ++ piece) f
stays_on encoding piece f stays more octets =
    subst (λ (t : List ℕ). IsEarliest t f) (sym (more_of encoding piece more))
    (stays (piece ++ more) (subst (λ (t : List ℕ). AreBytes t) (more_of encoding piece more) octets))

-- bytes behind a file are a fault
pub tail_stays : (encoding piece : List ℕ) (file : Ltx) → IsLtx encoding file → 0 < length piece → StaysEarliest (encoding ++ piece) fault.Tail
tail_stays encoding piece file is some more octets =
    subst (λ (t : List ℕ). IsEarliest t fault.Tail) (sym (more_of encoding piece more))
    (behind_file encoding (piece ++ more) file (subst (λ (t : List ℕ). AreBytes t) (more_of encoding piece more) octets) is (omega (arith, some, length-append piece more)))

-- a piece was fed
module _ (old new : Decoder) (change : PageChange) (encoding left : List ℕ) (octets : AreBytes left) (taken : HasTaken old change encoding) where
  pub fed_fault : (f : LtxFault) → FeedGives new largest_page encoding left (Err f) → StaysEarliest (encoding ++ left) f
  fed_fault f gives more octets' =
      let found = refused_at (encoding ++ left) f gives.0 in
      fault_stays_lem (encoding ++ left) more f found.1 (found_there f found.0) (found_inside f found.0)

  pub fed_more : FeedGives new largest_page encoding left (Ok seen.More) → HasTaken new change (encoding ++ left)
  fed_more gives = taken_more old new change encoding left taken gives.0 gives.1

  module _ (used : ℕ) where
    pub fed_header : FeedGives new largest_page encoding left (Ok (seen.Header used)) → HasTaken new (empty_change (header_shown new).page_size (header_shown new).commit) (encoding ++ take used left)
    fed_header gives =
        let bytes = encoding ++ take used left in
        let same : empty_change (stated_page_size bytes) (stated_commit bytes) ≡ empty_change (header_shown new).page_size (header_shown new).commit =
        ap (λ (h : Header). empty_change h.page_size h.commit) (sym gives.3.shown) in
        subst (λ (x : PageChange). HasTaken new x bytes) same (taken_header new bytes gives.3)

    pub header_sound : FeedGives new largest_page encoding left (Ok (seen.Header used)) → (length encoding < 100) × HoldsWholePages (encoding ++ take used left) (empty_change (header_shown new).page_size (header_shown new).commit)
    header_sound gives = (omega (arith, gives.3.ends, gives.0, grown_length encoding left used gives.1), (fed_header gives).pages (omega (arith, gives.3.ends)))

    module _ (number : ℕ) (gives : FeedGives new largest_page encoding left (Ok (seen.Page used number))) where
      pub fed_page : HasTaken new (with_page change number (page_shown new)) (encoding ++ take used left)
      fed_page = taken_page old new change encoding left used number taken gives.0 gives.1 gives.2 gives.3

      pub page_sound : (100 ≤ length encoding) × HoldsWholePages (encoding ++ take used left) (with_page change number (page_shown new))
      page_sound =
          let grown = grown_length encoding left used gives.1 in (
            header_before encoding left used used gives.1 gives.2 (omega (arith, gives.3.ends)) (omega (arith, grown, gives.3.ends)),
            fed_page.pages (omega (arith, gives.3.ends)),
          )

    pub fed_whole : FeedGives new largest_page encoding left (Ok (seen.Whole used)) → IsLtx (encoding ++ take used left) (record { header = header_shown new; change = change; post = post_shown new })
    fed_whole gives = taken_file old new change encoding left used taken gives.1 octets gives.2 gives.3

-- what was left over splits where it was taken
pub splits_at : (items : List ℕ) (taken used : ℕ) → drop taken items ≡ take used (drop taken items) ++ drop (taken + used) items
splits_at items taken used =
    sym (take-append-drop used (drop taken items)) ∙ ap (λ (l : List ℕ). take used (drop taken items) ++ l) (drop-drop used taken items)

-- and is all taken at the end
pub splits_all : (items : List ℕ) (taken n : ℕ) → n ≡ length items → drop taken items ≡ drop taken items ++ drop n items
splits_all items taken n all = sym (append-nil (drop taken items)) ∙ ap (λ (l : List ℕ). drop taken items ++ l) (sym (drop_all n items (omega (arith, all))))

-- how the encoding stands, where no fault was found and the file is not whole
begun_as : (f : Option LtxFault) (whole : Bool) (d : Decoder) (encoding : List ℕ) (change : PageChange) → whole ≡ false → f ≡ None → Stands f whole d encoding change → HasTaken d change encoding
begun_as f whole d encoding change begun none stands = subst (λ (b : Bool). Stands None b d encoding change) begun (subst (λ (o : Option LtxFault). Stands o whole d encoding change) none stands)

as_begun : (f : Option LtxFault) (whole : Bool) (d : Decoder) (encoding : List ℕ) (change : PageChange) → whole ≡ false → f ≡ None → HasTaken d change encoding → Stands f whole d encoding change
as_begun f whole d encoding change begun none taken =
    subst (λ (o : Option LtxFault). Stands o whole d encoding change) (sym none) (subst (λ (b : Bool). Stands None b d encoding change) (sym begun) taken)

as_whole : (f : Option LtxFault) (whole : Bool) (d : Decoder) (encoding : List ℕ) (change : PageChange) → whole ≡ true → f ≡ None → IsLtx encoding (record { header = header_shown d; change = change; post = post_shown d }) → Stands f whole d encoding change
as_whole f whole d encoding change ends none is =
    subst (λ (o : Option LtxFault). Stands o whole d encoding change) (sym none) (subst (λ (b : Bool). Stands None b d encoding change) (sym ends) is)

-- a file that is begun
module _ (r : PieceReader) (encoding : List ℕ) (change : PageChange) (begun : (r.whole ≡ false) × (r.fault ≡ None)) (come : HasCome r encoding change) where
  pub taken_of : HasTaken r.decoder change encoding
  taken_of = begun_as r.fault r.whole r.decoder encoding change begun.0 begun.1 come.stands

  -- the decoder saw something in what was left over
  module _ (n : PieceReader) (left : List ℕ) (octets : AreBytes left) (is : left ≡ left_over r) (same : n.buffer.items ≡ r.buffer.items) where
    splits : (used : ℕ) → n.taken ≡ r.taken + used → left_over r ≡ take used left ++ left_over n
    splits used taken =
        splits_at r.buffer.items r.taken used
        ∙ ap (λ (l : List ℕ). take used l ++ drop (r.taken + used) r.buffer.items) (sym is)
        ∙ ap (λ (k : ℕ). take used left ++ drop k r.buffer.items) (sym taken)
        ∙ ap (λ (l : List ℕ). take used left ++ drop n.taken l) (sym same)

    octets_to : (used : ℕ) → AreBytes (encoding ++ take used left)
    octets_to used = AreBytes-append encoding (take used left) come.octets (AreBytes-take used left octets)

    seen_comes : (s : Seen) → FeedGives n.decoder largest_page encoding left (Ok s) → n.taken ≡ r.taken + used_in s (length left) → n.whole ≡ ends_file s → n.fault ≡ None → Comes r n encoding change (part_of s)
    seen_comes seen.More gives taken whole none = record {
      piece = take (length left) left;
      splits = splits (length left) taken;
      come = record {
        octets = octets_to (length left);
        stands = as_begun n.fault n.whole n.decoder (encoding ++ take (length left) left) change whole none
            (subst (λ (l : List ℕ). HasTaken n.decoder change (encoding ++ l)) (sym (take_all (length left) left (omega arith))) (fed_more r.decoder n.decoder change encoding left octets taken_of gives));
      };
      sound = tt;
    }
    seen_comes (seen.Header used) gives taken whole none = record {
      piece = take used left;
      splits = splits used taken;
      come = record { octets = octets_to used; stands = as_begun n.fault n.whole n.decoder (encoding ++ take used left) _ whole none (fed_header r.decoder n.decoder change encoding left octets taken_of used gives) };
      sound = header_sound r.decoder n.decoder change encoding left octets taken_of used gives;
    }
    seen_comes (seen.Page used number) gives taken whole none = record {
      piece = take used left;
      splits = splits used taken;
      come = record { octets = octets_to used; stands = as_begun n.fault n.whole n.decoder (encoding ++ take used left) _ whole none (fed_page r.decoder n.decoder change encoding left octets taken_of used number gives) };
      sound = page_sound r.decoder n.decoder change encoding left octets taken_of used number gives;
    }
    seen_comes (seen.Whole used) gives taken whole none = record {
      piece = take used left;
      splits = splits used taken;
      come = record { octets = octets_to used; stands = as_whole n.fault n.whole n.decoder (encoding ++ take used left) change whole none (fed_whole r.decoder n.decoder change encoding left octets taken_of used gives) };
      sound = tt;
    }

    pub sees : (s : Seen) (p : Part) → FeedGives n.decoder largest_page encoding left (Ok s) → n.taken ≡ r.taken + used_in s (length left) → n.whole ≡ ends_file s → n.fault ≡ None → p ≡ part_of s → Comes r n encoding change p
    sees s p gives taken whole none part_is = subst (λ (q : Part). Comes r n encoding change q) (sym part_is) (seen_comes s gives taken whole none)

    -- or it found a fault
    pub fault_comes : (f : LtxFault) → FeedGives n.decoder largest_page encoding left (Err f) → n.taken ≡ length r.buffer.items → n.fault ≡ Some f → Comes r n encoding change part.More
    fault_comes f gives taken found = record {
      piece = left;
      splits = splits_all r.buffer.items r.taken n.taken taken
          ∙ ap (λ (l : List ℕ). l ++ drop n.taken r.buffer.items) (sym is)
          ∙ ap (λ (l : List ℕ). left ++ drop n.taken l) (sym same);
      come = record {
        octets = AreBytes-append encoding left come.octets octets;
        stands = subst (λ (o : Option LtxFault). Stands o n.whole n.decoder (encoding ++ left) change) (sym found) (fed_fault r.decoder n.decoder change encoding left octets taken_of f gives);
      };
      sound = tt;
    }

-- it took some, and no more than there was
pub used_some : (d : Decoder) (encoding left : List ℕ) (s : Seen) → FeedGives d largest_page encoding left (Ok s) → 0 < length left → (1 ≤ used_in s (length left)) × (used_in s (length left) ≤ length left)
used_some d encoding left seen.More gives some = (omega (arith, some), omega arith)
used_some d encoding left (seen.Header used) gives some = (gives.0, gives.1)
used_some d encoding left (seen.Page used number) gives some = (gives.0, gives.1)
used_some d encoding left (seen.Whole used) gives some = (gives.0, gives.1)

-- what stands behind a file or a fault
pub passed_comes : (r n : PieceReader) (encoding : List ℕ) (change : PageChange) → AreBytes (left_over r) → r.taken < length r.buffer.items → n.buffer.items ≡ r.buffer.items → n.taken ≡ length r.buffer.items
    → (r.whole ≡ true) ⊎ IsSome r.fault → n.fault ≡ Some (unwrap_or r.fault fault.Tail) → HasCome r encoding change → Comes r n encoding change part.More
passed_comes r n encoding change octets some same taken ended found come = record {
  piece = left_over r;
  splits = splits_all r.buffer.items r.taken n.taken taken ∙ ap (λ (l : List ℕ). left_over r ++ drop n.taken l) (sym same);
  come = record {
    octets = AreBytes-append encoding (left_over r) come.octets octets;
    stands = subst (λ (o : Option LtxFault). Stands o n.whole n.decoder (encoding ++ left_over r) change) (sym found) (stays r.fault ended come.stands);
  };
  sound = tt;
}
  where
    some_left : 0 < length (left_over r)
    some_left = omega (arith, some, length-drop r.taken r.buffer.items)

    stays : (o : Option LtxFault) → (r.whole ≡ true) ⊎ IsSome o → Stands o r.whole r.decoder encoding change → StaysEarliest (encoding ++ left_over r) (unwrap_or o fault.Tail)
    stays (Some f) ended stands = stays_on encoding (left_over r) f stands
    stays None (inl whole) stands = tail_stays encoding (left_over r) _ (subst (λ (b : Bool). Stands None b r.decoder encoding change) whole stands) some_left
    stays None (inr none) stands = absurd (false≢true none)

-- what a file is at its end
pub ended_as : (r : PieceReader) (encoding : List ℕ) (change : PageChange) (f : LtxFault) → r.fault ≡ Some f → HasCome r encoding change → IsEarliest encoding f
ended_as r encoding change f found come =
    let stays : StaysEarliest encoding f = subst (λ (o : Option LtxFault). Stands o r.whole r.decoder encoding change) found come.stands in
    let same : encoding ++ [] ≡ encoding = append-nil encoding in
    subst (λ (t : List ℕ). IsEarliest t f) same (stays [] (subst (λ (t : List ℕ). AreBytes t) (sym same) come.octets))

-- with nothing left over of a file that came to its end its encoding is whole
pub all_come : (encoding left bytes : List ℕ) (read size : ℕ) → encoding ++ left ≡ take read bytes → left ≡ [] → read ≡ size → size ≡ length bytes → encoding ≡ bytes
all_come encoding left bytes read size front none all long =
    sym (append-nil encoding) ∙ ap (λ (l : List ℕ). encoding ++ l) (sym none) ∙ front ∙ take_all read bytes (omega (arith, all, long))

-- a read of bytes that are there fills the buffer with them
read_there : (at len : ℕ) (bytes buffer : List ℕ) → length buffer ≡ len → at + len ≤ length bytes → read_into at bytes buffer ≡ take len (drop at bytes)
read_there at len bytes buffer long room =
    ap (λ (n : ℕ). take n (drop at bytes) ++ drop (length bytes - at) buffer) long
    ∙ ap (λ (l : List ℕ). take len (drop at bytes) ++ l) (drop_all (length bytes - at) buffer (omega (arith, long, room)))
    ∙ append-nil (take len (drop at bytes))

-- the next bytes were read
pub refilled : (r n : PieceReader) (encoding bytes buffer : List ℕ) (len : ℕ) → length r.buffer.items ≤ r.taken → n.taken ≡ 0 → n.size ≡ r.size → n.read ≡ r.read + len → r.read + len ≤ r.size → length buffer ≡ len
    → n.buffer.items ≡ read_into r.read bytes buffer → IsIn r encoding bytes → IsIn n encoding bytes
refilled r n encoding bytes buffer len none start same_size read room long is here =
    let come : encoding ≡ take r.read bytes = sym (ap (λ (l : List ℕ). encoding ++ l) (drop_all r.taken r.buffer.items none) ∙ append-nil encoding) ∙ here.front in
    let items : n.buffer.items ≡ take len (drop r.read bytes) = is ∙ read_there r.read len bytes buffer long (omega (arith, room, here.size)) in
    record {
      front =
          ap (λ (k : ℕ). encoding ++ drop k n.buffer.items) start
          ∙ ap (λ (l : List ℕ). encoding ++ l) items
          ∙ ap (λ (t : List ℕ). t ++ take len (drop r.read bytes)) come
          ∙ sym (take-add r.read len bytes)
          ∙ ap (λ (k : ℕ). take k bytes) (sym read);
      size = same_size ∙ here.size;
    }
