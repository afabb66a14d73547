-- A file's pages are written as they are read.
use Rattle.std.proofs.Common.{◌≡◌, inl, inr, ℕ, ◌+◌, ◌-◌, ◌*◌, ◌<◌, ◌≤◌, Bool, true, false, Option, Some, None, List, [], ◌∷◌, ◌++◌, length, length-append, append_assoc, take, drop, get_or, Result, refl, sym, ◌∙◌, ap, subst, IsTrue, arith}
use Rattle.std.proofs.lemmas.Bool.{cases_lt, false≢true}
use Rattle.std.proofs.Math.Seq.{get_or-append_seam}
use Rattle.std.proofs.lemmas.List.{append-nil, take_at, take_more, take-take, take-append-drop, get_or-take}
use Rattle.std.proofs.lemmas.List.FromFn.{take-map-range_with_len}
use Rattle.lf_disk.specs.Change.{Step, OnFile, Writes, TearsFile, CropsFile}
use Rattle.lf_disk.specs.Folder.{Folder, bytes_of, same_name, SameBut}
use Rattle.lf_disk.specs.History.{History, now, Rests, Ticks, Moves}
use Rattle.lf_disk.specs.Stretch.{Stretch}
use Rattle.lf_disk.specs.declared.name.FileName.{FileName}
use Rattle.lf_disk.specs.declared.name.FileName.TheVariants.{Database}
use Rattle.lf_disk.proofs.Stretches.{IsPath, begins, joined}
use Rattle.lf_sqlite_pages.specs.Change.{PageChange, empty_change, with_page}
use Rattle.lf_sqlite_pages.specs.declared.page_write.PageWrite.{PageWrite}
use Rattle.page_checksum.specs.Table.{no_sums}
use Rattle.ltx_codec.specs.Decoding.{page_shown}
use Rattle.ltx_codec.specs.Fields.{AreBytes}
use Rattle.ltx_codec.specs.Format.{IsLtx}
use Rattle.ltx_codec.specs.Places.{HasPages, IsBroken, IsEarliest, last_place, write_in, writes_in}
use Rattle.ltx_codec.specs.WholePages.{HoldsWholePages}
use Rattle.ltx_codec.specs.declared.fault.LtxFault.{LtxFault}
use Rattle.ltx_codec.specs.declared.fault.LtxFault.TheVariants as fault
use Rattle.ltx_codec.specs.declared.file.Ltx.{Ltx}
use Rattle.ltx_codec.specs.declared.header.Header.{Header}
use Rattle.ltx_codec.proofs.AgreeLemmas.{Agree, longer, size_same, pages_same, writes_same}
use Rattle.ltx_codec.proofs.FileLemmas.{file_is}
use Rattle.ltx_codec.proofs.LawLemmas.{one_reading_lem}
use Rattle.ltx_codec.proofs.SoundLemmas.{encoding_sound}
use Rattle.txn_log.proofs.Fittings.{crops_none, then_moved}
use Rattle.txn_log.proofs.Rewritings.{Runs, fits}
use Rattle.txn_log.specs.Pages.{Wears, Patches}
use Rattle.txn_log.proofs.Wearing.{wears_path, wears_more, patches_by}
use Rattle.node_recovery.specs.declared.piece_reader.PieceReader.{PieceReader}
use Rattle.node_recovery.specs.declared.part.Part.{Part}
use Rattle.node_recovery.specs.declared.part.Part.TheVariants as part
use Rattle.node_recovery.specs.declared.tally.Tally.{Tally}
use Rattle.node_recovery.specs.Reading.{left_over, change_after, IsIn, IsFilled, Stands, HasCome, Comes, IsSound}
use Rattle.node_recovery.specs.Rewriting.{HoldsFile}
use Rattle.node_recovery.proofs.Judgings.{rests_none, same_now}
use Rattle.node_recovery.proofs.Readings.{Reads, reads_on, reads_part, in_after, whole_encoding}
use Rattle.node_recovery.proofs.Tallies.{last_within}

-- calls that only read go on with a stretch
pub stretch_rests : (old mid new : History) (step : Step) → IsPath step → Stretch step old mid → Rests mid new → Stretch step old new
stretch_rests old mid new step path so_far rests =
    joined old mid new step path so_far
    record {
      later = omega (arith, rests.moment);
      each = λ t c early late left.
          let here : t ≡ mid.moment = omega (arith, rests.moment) in
          (c, subst (λ (m : ℕ). mid.leaves m c) here (rests.past.no_more t c (omega (arith, here)) left), path.stays c);
      past = rests.past;
    }

-- the pages that came of a file are its first
module _ (encoding rest bytes : List ℕ) (change : PageChange) (file : Ltx) (holds : HoldsWholePages encoding change) (splits : encoding ++ rest ≡ bytes) (octets : AreBytes bytes) (is : IsLtx bytes file) where
  abbrev k : ℕ
  k = length change.pages

  agree : Agree encoding bytes (length encoding)
  agree = subst (λ (b : List ℕ). Agree encoding b (length encoding)) splits (longer encoding rest)

  long : 12 ≤ length encoding
  long = omega (arith, holds.read.header.whole)

  same_writes : change.pages ≡ writes_in bytes k
  same_writes = holds.read.holds.writes ∙ writes_same encoding bytes (length encoding) agree long k 0 k (omega arith) holds.read.there

  few : k ≤ length file.change.pages
  few = elim (cases_lt (length file.change.pages) k) [
    | inl more ↦
        let pages : HasPages bytes k = pages_same encoding bytes (length encoding) agree long k holds.read.there holds.read.pages in
        absurd (pages (length file.change.pages) more (file_is bytes file is octets).block.ends)
    | inr fewer ↦ fewer
  ]

  pub first_pages : change.pages ≡ take k file.change.pages
  first_pages =
      same_writes ∙ sym (take-map-range_with_len (write_in bytes) 0 (length file.change.pages) k few)
      ∙ ap (λ (ws : List PageWrite). take k ws) (file_is bytes file is octets).writes

  pub no_more : k ≤ length file.change.pages
  no_more = few

  pub one_size : change.page_size ≡ file.change.page_size
  one_size =
      holds.read.holds.page_size ∙ size_same encoding bytes (length encoding) agree long ∙ ap (λ (h : Header). h.page_size) (file_is bytes file is octets).header ∙ sym is.valid.block.page_size

-- of one page more the first pages are known too, and it is the next
pub next_page : (pages all : List PageWrite) (w : PageWrite) → length (pages ++ w ∷ []) ≤ length all → pages ++ w ∷ [] ≡ take (length (pages ++ w ∷ [])) all
    → (length pages < length all) × (pages ≡ take (length pages) all) × (w ≡ get_or all (length pages) w)
next_page pages all w room same =
    let count : length (pages ++ w ∷ []) ≡ length pages + 1 = length-append pages (w ∷ []) in (
      omega (arith, count, room),
      sym (take_at pages (w ∷ []) (length pages) refl) ∙ ap (λ (ws : List PageWrite). take (length pages) ws) same ∙ take-take (length pages) (length (pages ++ w ∷ [])) all (omega (arith, count)),
      sym (get_or-append_seam pages w [] w) ∙ ap (λ (ws : List PageWrite). get_or ws (length pages) w) same ∙ get_or-take (length (pages ++ w ∷ [])) all (length pages) w (omega (arith, count)),
    )

-- where the encoding of a file came whole, its pages are the file's
whole_change : (r : PieceReader) (bytes : List ℕ) (change : PageChange) (file : Ltx) → AreBytes bytes → IsLtx bytes file → HasCome r bytes change → change ≡ file.change
whole_change r bytes change file octets is come = by r.fault r.whole come.stands
  where
    no_fault : (f : LtxFault) → IsEarliest bytes f → change ≡ file.change
    no_fault f earliest =
        let same : bytes ++ [] ≡ bytes = append-nil bytes in
        let broken = encoding_sound bytes [] file f earliest.place (subst (λ (t : List ℕ). AreBytes t) (sym same) octets) is (subst (λ (t : List ℕ). IsBroken t f earliest.place) (sym same) earliest.broken) in
        let there : earliest.place ≤ last_place bytes fault.Tail = subst (λ (x : LtxFault). earliest.place ≤ last_place bytes x) broken.0 earliest.broken.there in
        absurd (omega (arith, there, broken.1))

    by : (o : Option LtxFault) (b : Bool) → Stands o b r.decoder bytes change → change ≡ file.change
    by (Some f) b stays =
        let same : bytes ++ [] ≡ bytes = append-nil bytes in
        no_fault f (subst (λ (t : List ℕ). IsEarliest t f) same (stays [] (subst (λ (t : List ℕ). AreBytes t) (sym same) octets)))
    by None true it = ap (λ (g : Ltx). g.change) (one_reading_lem bytes bytes [] [] _ file it is refl).1
    by None false taken = no_fault fault.Short taken.fed.unfinished

-- nothing is known of any page
abbrev pub no_tally : Tally
no_tally = record { sums = no_sums; wal = false }

-- a file is being read and written: of an honest disk the pages that came stand in their places
pub record Passed (honest : Bool) (name : FileName) (header : Header) (h mid : History) (r : PieceReader) : Type 0 where
  pub reads : Reads honest false (bytes_of (now h name)) r no_tally
  pub others : IsTrue honest → SameBut Database (now h) (now mid)
  pub seen : IsTrue honest → (file : Ltx) → HoldsFile name header file (now h) → OnFile Database (Patches header.page_size reads.change.pages) (now h) (now mid)
  pub moments : IsTrue honest → (file : Ltx) → HoldsFile name header file (now h) → Stretch (OnFile Database (Wears file.change)) h mid

module _ (honest : Bool) (name : FileName) (header : Header) (h : History) (apart : same_name name Database ≡ false) where
  abbrev bytes : List ℕ
  bytes = bytes_of (now h name)

  -- the file was opened
  pub opened : (one : History) (r : PieceReader) → Rests h one → ((change : PageChange) → HasCome r [] change) → (IsTrue honest → IsIn r [] bytes) → Passed honest name header h one r
  opened one r rests begun here = record {
    reads = record {
      encoding = [];
      change = empty_change 512 0;
      come = begun (empty_change 512 0);
      none = λ _. refl;
      here = here;
      known = λ no. absurd (false≢true no);
    };
    others = λ is n other. ap (λ (f : Folder). f n) (same_now h one rests);
    seen = λ is file holds. record { here = ap (λ (f : Folder). bytes_of (f Database)) (same_now h one rests); elsewhere = λ n other. ap (λ (f : Folder). f n) (same_now h one rests) };
    moments = λ is file holds.
        stretch_rests h h one (OnFile Database (Wears file.change)) (wears_path file.change) (begins h (OnFile Database (Wears file.change)) (wears_path file.change)) rests;
  }

  -- some bytes were read
  pub passes_on : (mid new : History) (r n : PieceReader) → Rests mid new → n.decoder ≡ r.decoder → n.whole ≡ r.whole → n.fault ≡ r.fault
      → (IsTrue honest → (encoding : List ℕ) → IsIn r encoding (bytes_of (now mid name)) → IsIn n encoding (bytes_of (now mid name))) → Passed honest name header h mid r → Passed honest name header h new n
  passes_on mid new r n rests decoder whole found here so_far =
      let same : now new ≡ now mid = same_now mid new rests in
      record {
        reads = reads_on honest false bytes r n no_tally decoder whole found
            (λ is encoding. subst (λ (o : Option (List ℕ)). IsIn r encoding (bytes_of o) → IsIn n encoding (bytes_of o)) (so_far.others is name apart) (here is encoding)) so_far.reads;
        others = λ is n other. ap (λ (f : Folder). f n) same ∙ so_far.others is n other;
        seen = λ is file holds. subst (λ (f : Folder). OnFile Database (Patches header.page_size so_far.reads.change.pages) (now h) f) (sym same) (so_far.seen is file holds);
        moments = λ is file holds. stretch_rests h mid new (OnFile Database (Wears file.change)) (wears_path file.change) (so_far.moments is file holds) rests;
      }

  -- a part came that is no page
  module _ (mid : History) (r n : PieceReader) (came : Part) (size : n.size ≡ r.size) (read : n.read ≡ r.read) (comes : (encoding : List ℕ) (change : PageChange) → HasCome r encoding change → Comes r n encoding change came)
      (so_far : Passed honest name header h mid r) where
    abbrev part_reads : Reads honest false bytes n no_tally
    part_reads = reads_part honest false bytes r n no_tally no_tally came size read comes so_far.reads (λ no. absurd (false≢true no))

    abbrev came_is : Comes r n so_far.reads.encoding so_far.reads.change came
    came_is = comes so_far.reads.encoding so_far.reads.change so_far.reads.come

    no_page : (p : Part) → p ≡ came → ((number : ℕ) → p ≡ part.Page number → ⊥) → (change_after came n so_far.reads.change).pages ≡ so_far.reads.change.pages
    no_page part.More is other = ap (λ (q : Part). (change_after q n so_far.reads.change).pages) (sym is)
    no_page part.Header is other =
        let sound : IsSound part.Header so_far.reads.encoding (so_far.reads.encoding ++ came_is.piece) (change_after came n so_far.reads.change) =
        subst (λ (q : Part). IsSound q so_far.reads.encoding (so_far.reads.encoding ++ came_is.piece) (change_after came n so_far.reads.change)) (sym is) came_is.sound in
        ap (λ (q : Part). (change_after q n so_far.reads.change).pages) (sym is) ∙ sym (so_far.reads.none sound.0)
    no_page (part.Page number) is other = absurd (other number refl)

    pub passes_part : ((number : ℕ) → came ≡ part.Page number → ⊥) → Passed honest name header h mid n
    passes_part other = record {
      reads = part_reads;
      others = so_far.others;
      seen = λ is file holds.
          subst (λ (ws : List PageWrite). OnFile Database (Patches header.page_size ws) (now h) (now mid)) (sym (no_page came refl other)) (so_far.seen is file holds);
      moments = so_far.moments;
    }

  -- a page came
  module _ (mid : History) (r n : PieceReader) (number : ℕ) (size : n.size ≡ r.size) (read : n.read ≡ r.read)
      (comes : (encoding : List ℕ) (change : PageChange) → HasCome r encoding change → Comes r n encoding change (part.Page number)) (so_far : Passed honest name header h mid r) where
    abbrev change : PageChange
    change = so_far.reads.change

    abbrev w : PageWrite
    w = record { number = number; bytes = page_shown n.decoder }

    its : Comes r n so_far.reads.encoding so_far.reads.change (part.Page number)
    its = comes so_far.reads.encoding so_far.reads.change so_far.reads.come

    -- it has a number from 1 on
    pub first_is : 1 ≤ number
    first_is = (last_within change number (page_shown n.decoder) its.sound.1.valid).0

    abbrev page_reads : Reads honest false bytes n no_tally
    page_reads = reads_part honest false bytes r n no_tally no_tally (part.Page number) size read comes so_far.reads (λ no. absurd (false≢true no))

    module _ (is : IsTrue honest) (file : Ltx) (holds : HoldsFile name header file (now h)) where
      splits : (so_far.reads.encoding ++ its.piece) ++ (left_over n ++ drop n.read bytes) ≡ bytes
      splits =
          let here = in_after r n so_far.reads.encoding bytes change (part.Page number) size read its (so_far.reads.here is) in
          sym (append_assoc (so_far.reads.encoding ++ its.piece) (left_over n) (drop n.read bytes)) ∙ ap (λ (l : List ℕ). l ++ drop n.read bytes) here.front ∙ take-append-drop n.read bytes

      known : (length change.pages < length file.change.pages) × (change.pages ≡ take (length change.pages) file.change.pages) × (w ≡ get_or file.change.pages (length change.pages) w)
      known =
          let encoding = so_far.reads.encoding ++ its.piece in
          let rest = left_over n ++ drop n.read bytes in
          next_page change.pages file.change.pages w
          (no_more encoding rest bytes (with_page change number (page_shown n.decoder)) file its.sound.1 splits holds.octets holds.is)
          (first_pages encoding rest bytes (with_page change number (page_shown n.decoder)) file its.sound.1 splits holds.octets holds.is)

      page_size_is : header.page_size ≡ file.change.page_size
      page_size_is = ap (λ (x : Header). x.page_size) holds.header_is ∙ sym holds.is.valid.block.page_size

      module _ {T E : Type 0} (result : Result T E) (new : History) (at : ℕ) (piece : List ℕ) (place : at ≡ (number - 1) * header.page_size) (whole : piece ≡ page_shown n.decoder) (ticks : Ticks result mid new) where
        place_is : at ≡ (w.number - 1) * file.change.page_size
        place_is = place ∙ ap (λ (s : ℕ). (number - 1) * s) page_size_is

        -- the write of it wears no other page
        pub page_wears : (sees : Step) → Moves sees (TearsFile Database at (length piece)) mid new → Stretch (OnFile Database (Wears file.change)) h new
        page_wears sees moves =
            wears_more result file.change w (length change.pages) at piece sees h mid new holds.is.valid.block.pages known.0 known.2 place_is whole (so_far.moments is file holds) ticks moves

        -- and it stands in its place then
        pub page_patches : OnFile Database (Writes at piece) (now mid) (now new) → OnFile Database (Patches header.page_size (change.pages ++ w ∷ [])) (now h) (now new)
        page_patches moves =
            let all = file.change.pages in
            let i = length change.pages in
            let so : OnFile Database (Patches header.page_size (take i all)) (now h) (now mid) =
            subst (λ (ws : List PageWrite). OnFile Database (Patches header.page_size ws) (now h) (now mid)) known.1 (so_far.seen is file holds) in
            let then : OnFile Database (Patches header.page_size (take (i + 1) all)) (now h) (now new) =
            patches_by header.page_size at piece all i w (now h) (now mid) (now new) known.0 known.2 place whole so moves in
            let grown : take (i + 1) all ≡ change.pages ++ w ∷ [] =
            take_more all i w known.0 ∙ ap (λ (ws : List PageWrite). ws ++ get_or all i w ∷ []) (sym known.1) ∙ ap (λ (v : PageWrite). change.pages ++ v ∷ []) (sym known.2) in
            subst (λ (ws : List PageWrite). OnFile Database (Patches header.page_size ws) (now h) (now new)) grown then

    -- the page was written
    pub passes_page : {T E : Type 0} (result : Result T E) (new : History) (at : ℕ) (piece : List ℕ) → at ≡ (number - 1) * header.page_size → piece ≡ page_shown n.decoder
        → (IsTrue honest → Ticks result mid new × Moves (OnFile Database (Writes at piece)) (TearsFile Database at (length piece)) mid new) → Passed honest name header h new n
    passes_page result new at piece place whole wrote = record {
      reads = page_reads;
      others = λ is n' other. (wrote is).1.seen.elsewhere n' other ∙ so_far.others is n' other;
      seen = λ is file holds. page_patches is file holds result new at piece place whole (wrote is).0 (wrote is).1.seen;
      moments = λ is file holds. page_wears is file holds result new at piece place whole (wrote is).0 _ (wrote is).1;
    }

  -- at the end all pages were written
  pub all_passed : (mid new : History) (r n : PieceReader) → Rests mid new → n.decoder ≡ r.decoder → n.whole ≡ r.whole → n.fault ≡ r.fault
      → (IsTrue honest → (encoding : List ℕ) → IsIn r encoding (bytes_of (now mid name)) → IsIn n encoding (bytes_of (now mid name))) → IsFilled n false → Passed honest name header h mid r
      → IsTrue honest → (file : Ltx) → HoldsFile name header file (now h) → OnFile Database (Patches file.change.page_size file.change.pages) (now h) (now new)
  all_passed mid new r n rests decoder whole found here filled so_far is file holds =
      let end = passes_on mid new r n rests decoder whole found here so_far in
      let encoding : end.reads.encoding ≡ bytes = whole_encoding n end.reads.encoding bytes filled (end.reads.here is) in
      let change : end.reads.change ≡ file.change = whole_change n bytes end.reads.change file holds.octets holds.is (subst (λ (t : List ℕ). HasCome n t end.reads.change) encoding end.reads.come) in
      let size : header.page_size ≡ file.change.page_size = ap (λ (x : Header). x.page_size) holds.header_is ∙ sym holds.is.valid.block.page_size in
      subst (λ (s : ℕ). OnFile Database (Patches s file.change.pages) (now h) (now new)) size
      (subst (λ (x : PageChange). OnFile Database (Patches header.page_size x.pages) (now h) (now new)) change (end.seen is file holds))

-- the length that a header says is that of the file's change
pub length_said : (name : FileName) (header : Header) (file : Ltx) (f : Folder) → HoldsFile name header file f → header.commit * header.page_size ≡ file.change.commit * file.change.page_size
length_said name header file f holds =
    let size : header.page_size ≡ file.change.page_size = ap (λ (x : Header). x.page_size) holds.header_is ∙ sym holds.is.valid.block.page_size in
    let commit : header.commit ≡ file.change.commit = ap (λ (x : Header). x.commit) holds.header_is ∙ sym holds.is.valid.block.commit in
    ap (λ (c : ℕ). c * header.page_size) commit ∙ ap (λ (s : ℕ). file.change.commit * s) size

-- the cut, whether it succeeds or not
pub cuts : (change : PageChange) (h : History) {T E : Type 0} (result : Result T E) (mid new : History) (sees : Step) (len : ℕ) → len ≡ change.commit * change.page_size → Runs change h mid → Ticks result mid new
    → Moves sees (CropsFile Database len) mid new → Runs change h new
cuts change h result mid new sees len size runs ticks moves =
    fits change h mid new len size runs (then_moved (CropsFile Database len) (crops_none Database len) mid mid (rests_none mid) result new sees ticks moves)
