-- The pages of a published file are read again and written.
use Rattle.std.proofs.Common.{◌≡◌, inl, inr, ℕ, zero, suc, ◌+◌, ◌-◌, ◌*◌, ◌<◌, ◌≤◌, Bool, true, Option, Some, None, IsSome, Result, List, [], ◌∷◌, ◌++◌, length, length-append, append_assoc, take, drop, get_or, IsTrue, refl, sym, ◌∙◌, ap, subst, arith}
use Rattle.std.specs.Prelude.{◌==◌, ◌&&◌}
use Rattle.std.specs.Int.{w32, w64, to_be_bytes}
use Rattle.std.proofs.lemmas.Bool.Decides.{nat_tests}
use Rattle.std.proofs.Math.Nat.{mul-le-mul_right, suc-mul}
use Rattle.std.proofs.lemmas.Bool.{cases_lt}
use Rattle.std.proofs.lemmas.List.{append-nil, take_at, take_all, drop_at, drop_all, drop-drop}
use Rattle.lf_base.specs.FileBytes.{Reads}
use Rattle.lf_disk.specs.Change.{Step, OnFile, Writes, TearsFile, SetsFile}
use Rattle.lf_disk.specs.Folder.{Folder, bytes_of, with_file, same_name, SameBut}
use Rattle.lf_disk.specs.Publish.{IsStaged, IsPublished}
use Rattle.lf_disk.specs.History.{History, now, Rests, Ticks, Moves}
use Rattle.lf_disk.specs.Stretch.{Stretch}
use Rattle.lf_disk.specs.declared.name.FileName.{FileName}
use Rattle.lf_disk.specs.declared.name.FileName.TheVariants.{Database, Staged, Snapshot, Dropped, Ltx as LtxName}
use Rattle.lf_disk.proofs.Stretches.{IsPath, begins, joined}
use Rattle.lf_sqlite_pages.specs.declared.page_write.PageWrite.{PageWrite}
use Rattle.lf_sqlite_pages.proofs.Applying.{WritesWhole, WritesWhole-at}
use Rattle.ltx_codec.specs.Format.{header_encoding, no_meaning, pages_encoding, page_encoding, file_encoding, file_sum, summed_encoding}
use Rattle.ltx_codec.specs.declared.file.Ltx.{Ltx}
use Rattle.ltx_codec.specs.declared.header.Header.{Header}
use Rattle.ltx_codec.proofs.LawLemmas.{parts, header_length}
use Rattle.txn_log.specs.declared.entry.Entry.{Entry}
use Rattle.txn_log.specs.Settling.{IsCleared}
use Rattle.txn_log.proofs.Settlings.{cleared-other}
use Rattle.txn_log.specs.Pages.{Wears, Patches}
use Rattle.txn_log.specs.Republishing.{HoldsFile, StandsAt}
use Rattle.txn_log.proofs.Fittings.{rested, reads_on}
use Rattle.txn_log.proofs.Wearing.{wears_path, wears_more, patches_by}

-- so many times a number, and once more
no_times : (b : ℕ) → 0 * b ≡ 0
no_times b = omega arith

next_times : (k b : ℕ) → (k + 1) * b ≡ k * b + b
next_times k b =
    let is : k + 1 ≡ suc k = omega arith in
    ap (λ (n : ℕ). n * b) is ∙ suc-mul k b

-- a read of what stands there
pub reads_piece : (bytes : List ℕ) (at : ℕ) (old new : List ℕ) (n : ℕ) (piece rest : List ℕ) → Reads bytes at old new n → drop at bytes ≡ piece ++ rest → length old ≡ length piece → new ≡ piece
reads_piece bytes at old new n piece rest reads there same =
    let left : length (drop at bytes) ≡ length bytes - at = Rattle.std.proofs.Common.length-drop at bytes in
    let none : drop (length bytes - at) old ≡ [] = drop_all (length bytes - at) old (omega (arith, left, ap length there, length-append piece rest, same)) in
    reads.front
    ∙ ap (λ (l : List ℕ). take (length old) l ++ drop (length bytes - at) old) there
    ∙ ap (λ (l : List ℕ). take (length old) (piece ++ rest) ++ l) none
    ∙ append-nil (take (length old) (piece ++ rest))
    ∙ take_at piece rest (length old) (sym same)

-- the page behind its number
pub behind_number : (bytes : List ℕ) (at number : ℕ) (page : List ℕ) (stands : StandsAt bytes at number page) → drop (at + 4) bytes ≡ page ++ stands.rest
behind_number bytes at number page stands =
    sym (drop-drop 4 at bytes) ∙ ap (drop 4) (stands.encoding ∙ append_assoc (to_be_bytes w32 number) page stands.rest)
    ∙ drop_at (to_be_bytes w32 number) (page ++ stands.rest) 4 refl

-- where the k-th page stands in the encoding of pages
pub page_stands : (size : ℕ) (ws : List PageWrite) → ((k : ℕ) (d : PageWrite) → k < length ws → length (get_or ws k d).bytes ≡ size) → (k : ℕ) (d : PageWrite) → k < length ws → (rest : List ℕ)
    → (more : List ℕ) × (drop (k * (4 + size)) (pages_encoding ws ++ rest) ≡ page_encoding (get_or ws k d).number (get_or ws k d).bytes ++ more)
page_stands size [] whole k d within rest = absurd (omega (arith, within))
page_stands size (w ∷ ws) whole zero d within rest = (
  pages_encoding ws ++ rest,
  ap (λ (n : ℕ). drop n (pages_encoding (w ∷ ws) ++ rest)) (no_times (4 + size)) ∙ ap (λ (l : List ℕ). l ++ rest) (sym (append_assoc (to_be_bytes w32 w.number) w.bytes (pages_encoding ws))) ∙ append_assoc (page_encoding w.number w.bytes) (pages_encoding ws) rest,
)
page_stands size (w ∷ ws) whole (suc k) d within rest =
    let later = page_stands size ws (λ i e inside. whole (suc i) e (omega (arith, inside))) k d (omega (arith, within)) rest in
    let long : length (page_encoding w.number w.bytes) ≡ 4 + size = length-append (to_be_bytes w32 w.number) w.bytes ∙ ap (λ (n : ℕ). 4 + n) (whole 0 d (omega arith)) in
    let split : pages_encoding (w ∷ ws) ++ rest ≡ page_encoding w.number w.bytes ++ (pages_encoding ws ++ rest) =
    ap (λ (l : List ℕ). l ++ rest) (sym (append_assoc (to_be_bytes w32 w.number) w.bytes (pages_encoding ws))) ∙ append_assoc (page_encoding w.number w.bytes) (pages_encoding ws) rest in
    let place : suc k * (4 + size) ≡ 4 + size + k * (4 + size) = omega (arith, suc-mul k (4 + size)) in (
      later.0,
      ap (λ (n : ℕ). drop n (pages_encoding (w ∷ ws) ++ rest)) place
          ∙ sym (drop-drop (k * (4 + size)) (4 + size) (pages_encoding (w ∷ ws) ++ rest))
          ∙ ap (λ (l : List ℕ). drop (k * (4 + size)) (drop (4 + size) l)) split
          ∙ ap (drop (k * (4 + size))) (drop_at (page_encoding w.number w.bytes) (pages_encoding ws ++ rest) (4 + size) long)
          ∙ later.1,
    )

length-pages : (size : ℕ) (ws : List PageWrite) → ((k : ℕ) (d : PageWrite) → k < length ws → length (get_or ws k d).bytes ≡ size) → length (pages_encoding ws) ≡ length ws * (4 + size)
length-pages size [] whole = sym (no_times (4 + size))
length-pages size (w ∷ ws) whole =
    let later = length-pages size ws (λ i e inside. whole (suc i) e (omega (arith, inside))) in
    let here : length w.bytes ≡ size = whole 0 w (omega arith) in
    let first : length (pages_encoding (w ∷ ws)) ≡ 4 + (length w.bytes + length (pages_encoding ws)) =
    length-append (to_be_bytes w32 w.number) (w.bytes ++ pages_encoding ws) ∙ ap (λ (n : ℕ). 4 + n) (length-append w.bytes (pages_encoding ws)) in
    let all : length (w ∷ ws) * (4 + size) ≡ length ws * (4 + size) + (4 + size) = suc-mul (length ws) (4 + size) in
    omega (arith, later, here, first, all)

module _ (name : FileName) (header : Header) (len : ℕ) (file : Ltx) (f : Folder) (holds : HoldsFile name header len file f) where
  size_is : header.page_size ≡ file.change.page_size
  size_is = ap (λ (h : Header). h.page_size) holds.header_is ∙ sym holds.valid.block.page_size

  whole : (k : ℕ) (d : PageWrite) → k < length file.change.pages → length (get_or file.change.pages k d).bytes ≡ header.page_size
  whole k d within = holds.valid.block.pages.whole k d within ∙ sym size_is

  pub len_by_pages : len ≡ 100 + length file.change.pages * (4 + header.page_size)
  len_by_pages =
      holds.len_is ∙ length-append (header_encoding file.header no_meaning) (pages_encoding file.change.pages)
      ∙ ap (λ (n : ℕ). n + length (pages_encoding file.change.pages)) (header_length file.header no_meaning refl)
      ∙ ap (λ (n : ℕ). 100 + n) (length-pages header.page_size file.change.pages whole)

  -- before the end of the pages there is one more
  pub one_more : (k at : ℕ) → at ≡ 100 + k * (4 + header.page_size) → at < len → k < length file.change.pages
  one_more k at place before = elim (cases_lt k (length file.change.pages)) [
    | inl more ↦ more
    | inr past ↦ absurd (omega (arith, before, place, len_by_pages, mul-le-mul_right (4 + header.page_size) past))
  ]

  -- behind it there is none
  pub no_more : (k at : ℕ) → at ≡ 100 + k * (4 + header.page_size) → len ≤ at → length file.change.pages ≤ k
  no_more k at place past = elim (cases_lt k (length file.change.pages)) [
    | inl more ↦
        let room : (k + 1) * (4 + header.page_size) ≤ length file.change.pages * (4 + header.page_size) = mul-le-mul_right (4 + header.page_size) (omega (arith, more)) in
        let next : (k + 1) * (4 + header.page_size) ≡ k * (4 + header.page_size) + (4 + header.page_size) = next_times k (4 + header.page_size) in
        absurd (omega (arith, past, place, len_by_pages, room, next))
    | inr last ↦ last
  ]

  -- and there it stands
  pub stands : (k at : ℕ) (d : PageWrite) → at ≡ 100 + k * (4 + header.page_size) → k < length file.change.pages → StandsAt (bytes_of (f name)) at (get_or file.change.pages k d).number (get_or file.change.pages k d).bytes
  stands k at d place within =
      let behind : List ℕ = to_be_bytes w32 0 ++ (to_be_bytes w64 file.post ++ (to_be_bytes w64 (file_sum (summed_encoding file no_meaning)) ++ [])) in
      let here = page_stands header.page_size file.change.pages whole k d within behind in
      let encoding : bytes_of (f name) ≡ header_encoding file.header no_meaning ++ (pages_encoding file.change.pages ++ behind) =
      holds.encoding ∙ sym (append-nil (file_encoding file no_meaning)) ∙ parts file no_meaning [] in
      record {
        low = omega (arith, holds.valid.block.pages.within k d within, holds.valid.block.commit, holds.valid.header.widths.commit);
        rest = here.0;
        encoding =
            ap (λ (n : ℕ). drop n (bytes_of (f name))) place
            ∙ sym (drop-drop (k * (4 + header.page_size)) 100 (bytes_of (f name)))
            ∙ ap (λ (l : List ℕ). drop (k * (4 + header.page_size)) (drop 100 l)) encoding
            ∙ ap (drop (k * (4 + header.page_size))) (drop_at (header_encoding file.header no_meaning) (pages_encoding file.change.pages ++ behind) 100 (header_length file.header no_meaning refl))
            ∙ here.1;
      }

-- calls that only read go on with a stretch
pub stretch_rests : (old mid new : History) (step : Step) → IsPath step → Stretch step old mid → Rests mid new → Stretch step old new
stretch_rests old mid new step path so_far rests = joined old mid new step path so_far (rested step path.stays mid new rests)

-- the file under another name than the database's stays where only that was written
pub held_on : (name : FileName) (header : Header) (len : ℕ) (file : Ltx) (f c : Folder) → same_name name Database ≡ Rattle.std.proofs.Common.false → SameBut Database f c → HoldsFile name header len file f → HoldsFile name header len file c
held_on name header len file f c apart same holds = record {
  valid = holds.valid;
  encoding = ap bytes_of (same name apart) ∙ holds.encoding;
  header_is = holds.header_is;
  len_is = holds.len_is;
}

-- some pages were read and written
pub record Copied (honest : Bool) (name : FileName) (header : Header) (len at : ℕ) (h mid : History) : Type 0 where
  pub count : ℕ
  pub at_is : at ≡ 100 + count * (4 + header.page_size)
  pub others : IsTrue honest → SameBut Database (now h) (now mid)
  pub moments : IsTrue honest → (file : Ltx) → HoldsFile name header len file (now h) → Stretch (OnFile Database (Wears file.change)) h mid
  pub seen : IsTrue honest → (file : Ltx) → HoldsFile name header len file (now h) → OnFile Database (Patches header.page_size (take count file.change.pages)) (now h) (now mid)

pub copied_none : (honest : Bool) (name : FileName) (header : Header) (len : ℕ) (h : History) → Copied honest name header len 100 h h
copied_none honest name header len h = record {
  count = 0;
  at_is = sym (ap (λ (n : ℕ). 100 + n) (no_times (4 + header.page_size)));
  others = λ is n other. refl;
  moments = λ is file holds. begins h (OnFile Database (Wears file.change)) (wears_path file.change);
  seen = λ is file holds. record { here = refl; elsewhere = λ n other. refl };
}

module _ (honest : Bool) (name : FileName) (header : Header) (len at : ℕ) (h mid : History) (apart : same_name name Database ≡ Rattle.std.proofs.Common.false) (so_far : Copied honest name header len at h mid) (before : at < len) (one : History) (rests : Rests mid one) where
  abbrev k : ℕ
  k = so_far.count

  others_read : IsTrue honest → SameBut Database (now h) (now one)
  others_read is n other = reads_on mid one rests n ∙ so_far.others is n other

  pub moments_read : IsTrue honest → (file : Ltx) → HoldsFile name header len file (now h) → Stretch (OnFile Database (Wears file.change)) h one
  moments_read is file holds = stretch_rests h mid one (OnFile Database (Wears file.change)) (wears_path file.change) (so_far.moments is file holds) rests

  module _ (n : ℕ) (piece : List ℕ) (reads : IsTrue honest → (number : ℕ) (bytes : List ℕ) → StandsAt (bytes_of (now mid name)) at number bytes → length bytes ≡ length piece → (n ≡ number) × (piece ≡ bytes))
      (long : length piece ≡ header.page_size) where
    known : IsTrue honest → (file : Ltx) → HoldsFile name header len file (now h) → (w : PageWrite) × (w ≡ get_or file.change.pages k w) × (k < length file.change.pages) × (n ≡ w.number) × (piece ≡ w.bytes)
    known is file holds =
        let d : PageWrite = record { number = 0; bytes = [] } in
        let w : PageWrite = get_or file.change.pages k d in
        let within : k < length file.change.pages = one_more name header len file (now h) holds k at so_far.at_is before in
        let still : HoldsFile name header len file (now mid) = held_on name header len file (now h) (now mid) apart (so_far.others is) holds in
        let there : StandsAt (bytes_of (now mid name)) at w.number w.bytes = stands name header len file (now mid) still k at d so_far.at_is within in
        let both = reads is w.number w.bytes there (whole name header len file (now h) holds k d within ∙ sym long) in
        (w, Rattle.std.proofs.lemmas.List.get_or_default file.change.pages k d w within, within, both.0, both.1)

    size_same : (file : Ltx) → HoldsFile name header len file (now h) → header.page_size ≡ file.change.page_size
    size_same file holds = size_is name header len file (now h) holds

    -- its number is none but a page's
    pub no_number : n ≡ 0 → IsTrue honest → (file : Ltx) → HoldsFile name header len file (now h) → ⊥
    no_number none is file holds =
        let it = known is file holds in
        let w : WritesWhole file.change it.0 = WritesWhole-at file.change file.change.pages holds.valid.block.pages refl k it.0 it.2 it.1 in
        omega (arith, w.first, it.3, none)

    module _ (place : ℕ) (place_is : place ≡ (n - 1) * header.page_size) {T E : Type 0} (result : Result T E) (new : History) (ticks : Ticks result one new) where
      pub moments_written : (sees : Step) → (IsTrue honest → Moves sees (TearsFile Database place (length piece)) one new) → IsTrue honest → (file : Ltx) → HoldsFile name header len file (now h)
          → Stretch (OnFile Database (Wears file.change)) h new
      moments_written sees moves is file holds =
          let it = known is file holds in
          let at_place : place ≡ (it.0.number - 1) * file.change.page_size = place_is ∙ ap (λ (m : ℕ). (m - 1) * header.page_size) it.3 ∙ ap (λ (s : ℕ). (it.0.number - 1) * s) (size_same file holds) in
          wears_more result file.change it.0 k place piece sees h one new holds.valid.block.pages it.2 it.1 at_place it.4 (moments_read is file holds) ticks (moves is)

      pub written_next : (IsTrue honest → Moves (OnFile Database (Writes place piece)) (TearsFile Database place (length piece)) one new) → Copied honest name header len (at + (4 + header.page_size)) h new
      written_next moves = record {
        count = k + 1;
        at_is =
            let next : (k + 1) * (4 + header.page_size) ≡ k * (4 + header.page_size) + (4 + header.page_size) = next_times k (4 + header.page_size) in
            omega (arith, so_far.at_is, next);
        others = λ is m other. (moves is).seen.elsewhere m other ∙ others_read is m other;
        moments = moments_written (OnFile Database (Writes place piece)) moves;
        seen = λ is file holds.
            let it = known is file holds in
            let at_place : place ≡ (it.0.number - 1) * header.page_size = place_is ∙ ap (λ (m : ℕ). (m - 1) * header.page_size) it.3 in
            let first : OnFile Database (Patches header.page_size (take k file.change.pages)) (now h) (now one) = record {
              here = ap bytes_of (reads_on mid one rests Database) ∙ (so_far.seen is file holds).here;
              elsewhere = λ m other. reads_on mid one rests m ∙ (so_far.seen is file holds).elsewhere m other;
            } in
            patches_by header.page_size place piece file.change.pages k it.0 (now h) (now one) (now new) it.2 it.1 at_place it.4 first (moves is).seen;
      }

    -- over a disk that is not honest a number may be none
    pub passed_next : n ≡ 0 → Copied honest name header len (at + (4 + header.page_size)) h one
    passed_next none = record {
      count = k + 1;
      at_is =
          let next : (k + 1) * (4 + header.page_size) ≡ k * (4 + header.page_size) + (4 + header.page_size) = next_times k (4 + header.page_size) in
          omega (arith, so_far.at_is, next);
      others = others_read;
      moments = moments_read;
      seen = λ is file holds. absurd (no_number none is file holds);
    }

-- all of them were
pub copied_all : (honest : Bool) (name : FileName) (header : Header) (len at : ℕ) (h mid : History) → Copied honest name header len at h mid → len ≤ at → IsTrue honest → (file : Ltx) → HoldsFile name header len file (now h)
    → OnFile Database (Patches file.change.page_size file.change.pages) (now h) (now mid)
copied_all honest name header len at h mid so_far past is file holds =
    let all : take so_far.count file.change.pages ≡ file.change.pages = take_all so_far.count file.change.pages (no_more name header len file (now h) holds so_far.count at so_far.at_is past) in
    subst (λ (ws : List PageWrite). OnFile Database (Patches file.change.page_size ws) (now h) (now mid)) all
    (subst (λ (s : ℕ). OnFile Database (Patches s (take so_far.count file.change.pages)) (now h) (now mid)) (size_is name header len file (now h) holds) (so_far.seen is file holds))

-- the length of the database that the header says
pub size_said : (name : FileName) (header : Header) (len : ℕ) (file : Ltx) (f : Folder) → HoldsFile name header len file f → header.commit * header.page_size ≡ file.change.commit * file.change.page_size
size_said name header len file f holds =
    ap (λ (h : Header). h.commit * h.page_size) holds.header_is
    ∙ ap (λ (n : ℕ). n * file.header.page_size) (sym holds.valid.block.commit)
    ∙ ap (λ (n : ℕ). file.change.commit * n) (sym holds.valid.block.page_size)

-- the encoding is under another name now
pub held_as : (name other : FileName) (header : Header) (len : ℕ) (file : Ltx) (f c : Folder) → bytes_of (c other) ≡ bytes_of (f name) → HoldsFile name header len file f → HoldsFile other header len file c
held_as name other header len file f c same holds = record {
  valid = holds.valid;
  encoding = same ∙ holds.encoding;
  header_is = holds.header_is;
  len_is = holds.len_is;
}

-- what has a name of the log stands there
pub named_here : (a b : ℕ) (file : Option (List ℕ)) (f : Folder) → with_file (LtxName a b) file f (LtxName a b) ≡ file
named_here a b file f =
    let test : (a == a && b == b) ≡ true = grind (arith, nat_tests) in
    rw test refl

module _ (header : Header) (len : ℕ) (file : Ltx) (before : Folder) (encoding : List ℕ) (h mid : History) (staged : IsStaged before encoding h) (holds : HoldsFile Staged header len file (now h)) where
  -- the staged file was published in the log
  pub held_in_log : (a b : ℕ) → IsPublished before (LtxName a b) encoding mid → HoldsFile (LtxName a b) header len file (now mid)
  held_in_log a b published =
      held_as Staged (LtxName a b) header len file (now h) (now mid)
      (ap bytes_of (published.seen (LtxName a b) refl ∙ named_here a b (Some encoding) before ∙ sym staged.here)) holds

  -- or as a snapshot
  pub held_as_snapshot : IsPublished before Snapshot encoding mid → HoldsFile Snapshot header len file (now mid)
  held_as_snapshot published = held_as Staged Snapshot header len file (now h) (now mid) (ap bytes_of (published.seen Snapshot refl ∙ sym staged.here)) holds

-- a snapshot stays while what it does away with goes
module _ (h one two : History) (entries : List Entry) (sees : Step) (gone : Moves (SetsFile Dropped None) sees h one) (cleared : IsCleared entries (now one) two) where
  same_snapshot : now two Snapshot ≡ now h Snapshot
  same_snapshot = cleared-other entries (now one) two cleared Snapshot (λ a b. refl) ∙ gone.seen.elsewhere Snapshot refl

  pub held_beside : (header : Header) (len : ℕ) (file : Ltx) → HoldsFile Snapshot header len file (now h) → HoldsFile Snapshot header len file (now two)
  held_beside header len file holds = held_as Snapshot Snapshot header len file (now h) (now two) (ap bytes_of same_snapshot) holds

  pub still_there : (three : History) → IsSome (now h Snapshot) → SameBut Database (now two) (now three) → IsSome (now three Snapshot)
  still_there three some others = subst (λ (o : Option (List ℕ)). IsSome o) (sym (others Snapshot refl ∙ same_snapshot)) some
