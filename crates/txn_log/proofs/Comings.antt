-- A transaction file whose encoding comes in pieces, up to its end.
use Rattle.std.proofs.Common.{◌≡◌, ◌⊎◌, inl, inr, ℕ, suc, zero, ◌+◌, ◌-◌, ◌*◌, ◌<◌, ◌≤◌, List, [], ◌∷◌, ◌++◌, length, length-append, length-drop, append_assoc, take, get_or, Option, sym, ◌∙◌, ap, refl, subst, arith}
use Rattle.std.specs.Prelude.{Ok, Err, Bool, true, false, All}
use Rattle.std.proofs.lemmas.Bool.{cases_lt, cases_eq}
use Rattle.std.specs.Io.KnownBytes.{Consumes, IsAtEnd}
use Rattle.std.proofs.KnownBytes.{Consumes-nil, Consumes-trans}
use Rattle.std.proofs.lemmas.List.{take_all, append-nil}
use Rattle.std.proofs.Math.Nat.{mul-le-mul_right}
use Rattle.lf_sqlite_pages.specs.Change.{PageChange, AscendsAbove, empty_change, with_page}
use Rattle.lf_sqlite_pages.specs.LockPage.{IsWithinLimit}
use Rattle.lf_sqlite_pages.specs.declared.page_write.PageWrite.{PageWrite}
use Rattle.ltx_codec.specs.Decoding.{HasFed, FeedGives, IsInHeader, IsInBlock, IsPart, held_part, header_shown, page_shown, post_shown}
use Rattle.ltx_codec.specs.Fields.{AreBytes, stated_page_size, stated_commit}
use Rattle.ltx_codec.specs.Format.{IsLtx}
use Rattle.ltx_codec.specs.Places.{IsEarliest, number_place, number_at}
use Rattle.ltx_codec.specs.WholePages.{HoldsWholePages, HasTaken, largest_page}
use Rattle.ltx_codec.specs.declared.decoder.Decoder.{Decoder}
use Rattle.ltx_codec.specs.declared.fault.LtxFault.{LtxFault}
use Rattle.ltx_codec.specs.declared.fault.LtxFault.TheVariants as fault
use Rattle.ltx_codec.specs.declared.header.Header.{Header}
use Rattle.ltx_codec.specs.declared.seen.Seen.{Seen}
use Rattle.ltx_codec.specs.declared.seen.Seen.TheVariants as seen
use Rattle.ltx_codec.specs.declared.file.Ltx.{Ltx}
use Rattle.ltx_codec.proofs.AgreeLemmas.{fault_stays_lem}
use Rattle.ltx_codec.proofs.FeedLemmas.{AreBytes-append}
use Rattle.ltx_codec.proofs.NumberLemmas.{found_inside, found_there}
use Rattle.ltx_codec.proofs.FileLemmas.{taken_file}
use Rattle.ltx_codec.proofs.PartLemmas.{grown_length}
use Rattle.ltx_codec.proofs.ReaderLemmas.{refused_at, header_before, taken_more, taken_header, taken_page}
use Rattle.ltx_codec.proofs.SoundLemmas.{behind_file}
use Rattle.ltx_codec.proofs.EncodingLemmas.{AreBytes-take}
use Rattle.txn_log.specs.declared.coming.Coming.{Coming}
use Rattle.txn_log.specs.declared.coming.Part.{Part}
use Rattle.txn_log.specs.Coming.{used_in, ends_file, part_of, StaysEarliest, Stands, HasCome, IsOpen, change_after, Comes, Ends, ReadsFile, ReadsFault}
use Rattle.txn_log.specs.declared.outline.Outline.{Outline}

-- nothing was taken yet
pub nothing_taken : (d : Decoder) (change : PageChange) → HasFed d largest_page [] → HasTaken d change []
nothing_taken d change fed = record { fed = fed; pages = λ long. absurd (omega (arith, long)) }

-- the same bytes, split elsewhere
more_of : (encoding piece more : List ℕ) → (encoding ++ piece) ++ more ≡ encoding ++ (piece ++ more)
more_of encoding piece more = append_assoc encoding piece more

-- bytes behind a file are a fault
pub tail_stays : (encoding piece : List ℕ) (file : Ltx) → IsLtx encoding file → 0 < length piece → StaysEarliest (encoding ++ piece) fault.Tail
tail_stays encoding piece file is some more octets =
    subst (λ (t : List ℕ). IsEarliest t fault.Tail) (sym (more_of encoding piece more))
    (behind_file encoding (piece ++ more) file (subst (λ (t : List ℕ). AreBytes t) (more_of encoding piece more) octets) is (omega (arith, some, length-append piece more)))

-- a piece was fed
module _ (old new : Decoder) (change : PageChange) (encoding left : List ℕ) (octets : AreBytes left) (taken : HasTaken old change encoding) where
  pub fed_fault : (f : LtxFault) → FeedGives new largest_page encoding left (Err f) → StaysEarliest (encoding ++ left) f
  fed_fault f gives more octets' =
      let found = refused_at (encoding ++ left) f gives.0 in
      fault_stays_lem (encoding ++ left) more f found.1 (found_there f found.0) (found_inside f found.0)

  pub fed_more : FeedGives new largest_page encoding left (Ok seen.More) → HasTaken new change (encoding ++ left)
  fed_more gives = taken_more old new change encoding left taken gives.0 gives.1

  module _ (used : ℕ) where
    pub fed_header : FeedGives new largest_page encoding left (Ok (seen.Header used)) → HasTaken new (empty_change (header_shown new).page_size (header_shown new).commit) (encoding ++ take used left)
    fed_header gives =
        let bytes = encoding ++ take used left in
        let same : empty_change (stated_page_size bytes) (stated_commit bytes) ≡ empty_change (header_shown new).page_size (header_shown new).commit =
        ap (λ (h : Header). empty_change h.page_size h.commit) (sym gives.3.shown) in
        subst (λ (x : PageChange). HasTaken new x bytes) same (taken_header new bytes gives.3)

    pub header_sound : FeedGives new largest_page encoding left (Ok (seen.Header used)) → (length encoding < 100) × HoldsWholePages (encoding ++ take used left) (empty_change (header_shown new).page_size (header_shown new).commit)
    header_sound gives = (omega (arith, gives.3.ends, gives.0, grown_length encoding left used gives.1), (fed_header gives).pages (omega (arith, gives.3.ends)))

    module _ (number : ℕ) (gives : FeedGives new largest_page encoding left (Ok (seen.Page used number))) where
      pub fed_page : HasTaken new (with_page change number (page_shown new)) (encoding ++ take used left)
      fed_page = taken_page old new change encoding left used number taken gives.0 gives.1 gives.2 gives.3

      pub page_sound : (100 ≤ length encoding) × HoldsWholePages (encoding ++ take used left) (with_page change number (page_shown new))
      page_sound =
          let grown = grown_length encoding left used gives.1 in (
            header_before encoding left used used gives.1 gives.2 (omega (arith, gives.3.ends)) (omega (arith, grown, gives.3.ends)),
            fed_page.pages (omega (arith, gives.3.ends)),
          )

    pub fed_whole : FeedGives new largest_page encoding left (Ok (seen.Whole used)) → IsLtx (encoding ++ take used left) (record { header = header_shown new; change = change; post = post_shown new })
    fed_whole gives = taken_file old new change encoding left used taken gives.1 octets gives.2 gives.3

-- numbers that ascend rise by one at least
rises : (number : ℕ) (ws : List PageWrite) → AscendsAbove number ws → (k : ℕ) (d : PageWrite) → k < length ws → number + k < (get_or ws k d).number
rises number [] ascending k d h = absurd (omega arith)
rises number (w ∷ ws) ascending zero d h = omega (arith, ascending.0)
rises number (w ∷ ws) ascending (suc k) d h =
    let below : k < length ws = omega arith in
    omega (arith, ascending.0, rises w.number ws ascending.1 k d below)

-- so a change has no more pages than the database after it
pub no_more : (ws : List PageWrite) (commit : ℕ) → AscendsAbove 0 ws → All (λ (w : PageWrite). w.number ≤ commit) ws → length ws ≤ commit
no_more [] commit ascending within = omega arith
no_more (w ∷ ws) commit ascending within = omega (arith, rises 0 (w ∷ ws) ascending (length ws) w (omega arith), within (length ws) w (omega arith))

-- an encoding that was fed is no longer than a file can be
pub bounded : (d : Decoder) (encoding : List ℕ) → HasFed d largest_page encoding → length encoding < 4294967296
bounded d encoding fed = by_stage fed.stage
  where
    by_stage : IsInHeader d encoding ⊎ ((change : PageChange) × IsInBlock d encoding change × IsPart d encoding (length change.pages)) → length encoding < 4294967296
    by_stage (inl head) = omega (arith, head.short)
    by_stage (inr (change, block, part)) =
        let k = length change.pages in
        let size = stated_page_size encoding in
        let place = number_place encoding k in
        let whole : 100 ≤ length encoding = block.read.header.whole in
        let limit : IsWithinLimit size (stated_commit encoding) = block.read.header.fields.commit (record { within = omega arith; there = omega (arith, whole) }) in
        let narrow : size ≤ 65536 = fed.within (omega (arith, whole)) in
        let few : k ≤ stated_commit encoding = omega (arith, no_more change.pages change.commit block.valid.ascending block.valid.within, block.read.holds.commit) in
        let front : k * (size + 4) ≤ stated_commit encoding * (size + 4) = mul-le-mul_right (size + 4) few in
        let turned : k * (4 + size) ≡ k * (size + 4) = ap (λ (n : ℕ). k * n) (omega arith) in
        let held : length (held_part d) ≡ length encoding - place = ap length block.held ∙ length-drop place encoding in
        elim (cases_lt (length encoding) (place + 4)) [
          | inl short ↦ omega (arith, short, limit, narrow, front, turned)
          | inr long ↦ elim (cases_eq (number_at encoding k) 0) [
            | inl end ↦ omega (arith, long, held, part.end (omega (arith, long)) end, limit, narrow, front, turned)
            | inr more ↦ omega (arith, long, held, part.page (omega (arith, long)) more, limit, narrow, front, turned)
          ]
        ]

-- it took some, and no more than there was
pub used_some : (d : Decoder) (encoding left : List ℕ) (s : Seen) → FeedGives d largest_page encoding left (Ok s) → 0 < length left → (1 ≤ used_in s (length left)) × (used_in s (length left) ≤ length left)
used_some d encoding left seen.More gives some = (omega (arith, some), omega arith)
used_some d encoding left (seen.Header used) gives some = (gives.0, gives.1)
used_some d encoding left (seen.Page used number) gives some = (gives.0, gives.1)
used_some d encoding left (seen.Whole used) gives some = (gives.0, gives.1)

-- how the encoding stands, where the file is not whole
pub begun_as : (whole : Bool) (d : Decoder) (encoding : List ℕ) (change : PageChange) → whole ≡ false → Stands whole d encoding change → HasTaken d change encoding
begun_as whole d encoding change begun stands = subst (λ (b : Bool). Stands b d encoding change) begun stands

as_begun : (whole : Bool) (d : Decoder) (encoding : List ℕ) (change : PageChange) → whole ≡ false → HasTaken d change encoding → Stands whole d encoding change
as_begun whole d encoding change begun taken = subst (λ (b : Bool). Stands b d encoding change) (sym begun) taken

as_whole : (whole : Bool) (d : Decoder) (encoding : List ℕ) (change : PageChange) → whole ≡ true → IsLtx encoding (record { header = header_shown d; change = change; post = post_shown d }) → Stands whole d encoding change
as_whole whole d encoding change ends is = subst (λ (b : Bool). Stands b d encoding change) (sym ends) is

-- a file that is begun, and what was seen in a piece
module _ (r n : Coming) (encoding left : List ℕ) (change : PageChange) (begun : r.whole ≡ false) (come : HasCome r encoding change) (octets : AreBytes left) where
  taken_of : HasTaken r.reader.decoder change encoding
  taken_of = begun_as r.whole r.reader.decoder encoding change begun come.stands

  module _ (used : ℕ) (within : used ≤ length left) (taken : n.taken ≡ r.taken + used) where
    octets_to : AreBytes (encoding ++ take used left)
    octets_to = AreBytes-append encoding (take used left) come.octets (AreBytes-take used left octets)

    count_to : n.taken ≡ length (encoding ++ take used left)
    count_to = omega (arith, taken, come.count, grown_length encoding left used within)

  seen_comes : (s : Seen) → FeedGives n.reader.decoder largest_page encoding left (Ok s) → used_in s (length left) ≤ length left → n.taken ≡ r.taken + used_in s (length left) → n.whole ≡ ends_file s
      → Comes n encoding change left (Ok (part_of s, used_in s (length left)))
  seen_comes seen.More gives within taken whole = (
    record {
      octets = octets_to (length left) within taken;
      count = count_to (length left) within taken;
      stands = as_begun n.whole n.reader.decoder (encoding ++ take (length left) left) change whole
          (subst (λ (l : List ℕ). HasTaken n.reader.decoder change (encoding ++ l)) (sym (take_all (length left) left (omega arith))) (fed_more r.reader.decoder n.reader.decoder change encoding left octets taken_of gives));
    },
    tt,
  )
  seen_comes (seen.Header used) gives within taken whole = (
    record {
      octets = octets_to used within taken;
      count = count_to used within taken;
      stands = as_begun n.whole n.reader.decoder (encoding ++ take used left) _ whole (fed_header r.reader.decoder n.reader.decoder change encoding left octets taken_of used gives);
    },
    header_sound r.reader.decoder n.reader.decoder change encoding left octets taken_of used gives,
  )
  seen_comes (seen.Page used number) gives within taken whole = (
    record {
      octets = octets_to used within taken;
      count = count_to used within taken;
      stands = as_begun n.whole n.reader.decoder (encoding ++ take used left) _ whole (fed_page r.reader.decoder n.reader.decoder change encoding left octets taken_of used number gives);
    },
    page_sound r.reader.decoder n.reader.decoder change encoding left octets taken_of used number gives,
  )
  seen_comes (seen.Whole used) gives within taken whole = (
    record {
      octets = octets_to used within taken;
      count = count_to used within taken;
      stands = as_whole n.whole n.reader.decoder (encoding ++ take used left) change whole (fed_whole r.reader.decoder n.reader.decoder change encoding left octets taken_of used gives);
    },
    tt,
  )

  pub sees : (s : Seen) (p : Part) (used : ℕ) → FeedGives n.reader.decoder largest_page encoding left (Ok s) → 0 < length left → used ≡ used_in s (length left) → n.taken ≡ r.taken + used → n.whole ≡ ends_file s → p ≡ part_of s
      → Comes n encoding change left (Ok (p, used))
  sees s p used gives some used_is taken whole part_is =
      subst (λ (q : Part). Comes n encoding change left (Ok (q, used))) (sym part_is)
      (subst (λ (u : ℕ). Comes n encoding change left (Ok (part_of s, u))) (sym used_is)
      (seen_comes s gives (used_some n.reader.decoder encoding left s gives some).1 (taken ∙ ap (λ (u : ℕ). r.taken + u) used_is) whole))

  -- or it found a fault
  pub faulty : (f : LtxFault) → FeedGives n.reader.decoder largest_page encoding left (Err f) → Comes n encoding change left (Err f)
  faulty f gives = fed_fault r.reader.decoder n.reader.decoder change encoding left octets taken_of f gives

-- bytes behind a file
pub tail_comes : (r : Coming) (encoding left : List ℕ) (change : PageChange) → r.whole ≡ true → HasCome r encoding change → 0 < length left → StaysEarliest (encoding ++ left) fault.Tail
tail_comes r encoding left change whole come some =
    tail_stays encoding left _ (subst (λ (b : Bool). Stands b r.reader.decoder encoding change) whole come.stands) some

-- so few bytes were taken
pub bounded_come : (r : Coming) (encoding : List ℕ) (change : PageChange) → r.whole ≡ false → HasCome r encoding change → r.taken < 4294967296
bounded_come r encoding change begun come = omega (arith, come.count, bounded r.reader.decoder encoding (begun_as r.whole r.reader.decoder encoding change begun come.stands).fed)

-- some bytes of a piece were taken
pub record TakenSome (start now : Coming) (piece rest : List ℕ) : Type 0 where
  pub front : List ℕ
  pub splits : piece ≡ front ++ rest
  pub short : length rest ≤ length piece
  pub count : now.taken ≡ start.taken + length front
  pub within : 0 < length front → start.taken < 4294967296
  pub begun : IsOpen now
  pub come : (encoding : List ℕ) (change : PageChange) → HasCome start encoding change → (after : PageChange) × HasCome now (encoding ++ front) after

-- none yet
pub taken_none : (r : Coming) (piece : List ℕ) → IsOpen r → TakenSome r r piece piece
taken_none r piece begun = record {
  front = [];
  splits = refl;
  short = omega arith;
  count = omega arith;
  within = λ some. absurd (omega (arith, some));
  begun = begun;
  come = λ encoding change come. (change, subst (λ (t : List ℕ). HasCome r t change) (sym (append-nil encoding)) come);
}

-- a step more
pub taken_step : (start now next : Coming) (piece rest others : List ℕ) (came : Part) (used : ℕ) → TakenSome start now piece rest → rest ≡ take used rest ++ others → used ≤ length rest
    → next.taken ≡ now.taken + used → 1 ≤ used → now.taken < 4294967296 → ((encoding : List ℕ) (change : PageChange) → HasCome now encoding change → Comes next encoding change rest (Ok (came, used))) → TakenSome start next piece others
taken_step start now next piece rest others came used so_far splits used_within count some within comes = record {
  front = so_far.front ++ take used rest;
  splits = so_far.splits ∙ ap (λ (l : List ℕ). so_far.front ++ l) splits ∙ sym (append_assoc so_far.front (take used rest) others);
  short = omega (arith, so_far.short, ap length splits, length-append (take used rest) others);
  count = omega (arith, count, so_far.count, grown_length so_far.front rest used used_within);
  within = λ _. omega (arith, within, so_far.count);
  begun = (so_far.begun.0 ++ take used rest, _, (comes so_far.begun.0 so_far.begun.1 so_far.begun.2).0);
  come = λ encoding change come.
      let before = so_far.come encoding change come in
      (change_after came next before.0, subst (λ (t : List ℕ). HasCome next t (change_after came next before.0)) (append_assoc encoding so_far.front (take used rest)) (comes (encoding ++ so_far.front) before.0 before.1).0);
}

-- the whole piece
pub taken_all : (start now : Coming) (piece rest : List ℕ) → TakenSome start now piece rest → rest ≡ [] → (encoding : List ℕ) (change : PageChange) → HasCome start encoding change → (after : PageChange) × HasCome now (encoding ++ piece) after
taken_all start now piece rest so_far none encoding change come =
    let before = so_far.come encoding change come in
    (before.0, subst (λ (l : List ℕ). HasCome now (encoding ++ l) before.0) (sym (so_far.splits ∙ ap (λ (l : List ℕ). so_far.front ++ l) none ∙ append-nil so_far.front)) before.1)

-- a fault in the rest of it
pub taken_fault : (start now next : Coming) (piece rest : List ℕ) (f : LtxFault) → TakenSome start now piece rest → ((encoding : List ℕ) (change : PageChange) → HasCome now encoding change → Comes next encoding change rest (Err f))
    → (encoding : List ℕ) (change : PageChange) → HasCome start encoding change → StaysEarliest (encoding ++ piece) f
taken_fault start now next piece rest f so_far comes encoding change come =
    let before = so_far.come encoding change come in
    subst (λ (t : List ℕ). StaysEarliest t f) (append_assoc encoding so_far.front rest ∙ ap (λ (l : List ℕ). encoding ++ l) (sym so_far.splits)) (comes (encoding ++ so_far.front) before.0 before.1)

-- some bytes of a source came
pub record ReadSome (now : Coming) (left left_now : Option (List ℕ)) : Type 0 where
  pub encoding : List ℕ
  pub change : PageChange
  pub read : Consumes left left_now encoding
  pub come : HasCome now encoding change

-- a piece more
pub read_piece : (now next : Coming) (left mid end : Option (List ℕ)) (piece : List ℕ) → ReadSome now left mid → Consumes mid end piece
    → ((encoding : List ℕ) (change : PageChange) → HasCome now encoding change → (after : PageChange) × HasCome next (encoding ++ piece) after) → ReadSome next left end
read_piece now next left mid end piece so_far consumes takes =
    let after = takes so_far.encoding so_far.change so_far.come in
    record {
      encoding = so_far.encoding ++ piece;
      change = after.0;
      read = Consumes-trans left mid end so_far.encoding piece so_far.read consumes;
      come = after.1;
    }

-- nothing yet
pub read_none : (now : Coming) (left : Option (List ℕ)) (change : PageChange) → HasCome now [] change → ReadSome now left left
read_none now left change come = record { encoding = []; change = change; read = Consumes-nil left; come = come }

-- the end of the source
pub read_end : (now : Coming) (left mid end : Option (List ℕ)) (outline : Outline) → ReadSome now left mid → Consumes mid end [] → IsAtEnd end
    → ((encoding : List ℕ) (change : PageChange) → HasCome now encoding change → Ends encoding change (Ok outline)) → ReadsFile left end outline
read_end now left mid end outline so_far consumes ended ends = record {
  encoding = so_far.encoding ++ [];
  change = so_far.change;
  read = Consumes-trans left mid end so_far.encoding [] so_far.read consumes;
  end = ended;
  is = subst (λ (t : List ℕ). IsLtx t (record { header = outline.header; change = so_far.change; post = outline.post })) (sym (append-nil so_far.encoding)) (ends so_far.encoding so_far.change so_far.come);
}

pub read_short : (now : Coming) (left mid end : Option (List ℕ)) (f : LtxFault) → ReadSome now left mid → Consumes mid end [] → IsAtEnd end
    → ((encoding : List ℕ) (change : PageChange) → HasCome now encoding change → Ends encoding change (Err f)) → ReadsFault left end f
read_short now left mid end f so_far consumes ended ends = record {
  encoding = so_far.encoding ++ [];
  read = Consumes-trans left mid end so_far.encoding [] so_far.read consumes;
  stands = inr (ended, subst (λ (t : List ℕ). IsEarliest t f) (sym (append-nil so_far.encoding)) (ends so_far.encoding so_far.change so_far.come));
}

-- a fault in a piece
pub read_fault : (now : Coming) (left mid end : Option (List ℕ)) (piece : List ℕ) (f : LtxFault) → ReadSome now left mid → Consumes mid end piece
    → ((encoding : List ℕ) (change : PageChange) → HasCome now encoding change → StaysEarliest (encoding ++ piece) f) → ReadsFault left end f
read_fault now left mid end piece f so_far consumes faulty = record {
  encoding = so_far.encoding ++ piece;
  read = Consumes-trans left mid end so_far.encoding piece so_far.read consumes;
  stands = inl (faulty so_far.encoding so_far.change so_far.come);
}
