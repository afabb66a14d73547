-- A source is read as one file, which is taken in.
use Rattle.std.proofs.Common.{◌≡◌, inl, inr, ℕ, ◌<◌, ◌≤◌, Bool, true, false, Option, Some, None, Ok, List, [], ◌++◌, length, length-append, take, drop, IsTrue, refl, sym, ◌∙◌, ap, subst, arith, append_assoc}
use Rattle.std.specs.Io.KnownBytes.{Consumes}
use Rattle.std.proofs.lemmas.Bool.{cases_lt}
use Rattle.std.proofs.lemmas.List.{append-nil, drop_all}
use Rattle.lf_disk.specs.declared.name.FileName.TheVariants.{Staged}
use Rattle.lf_disk.specs.Folder.{Folder, SameBut}
use Rattle.lf_disk.specs.History.{History, now, EachMoment, IsSettledBut}
use Rattle.lf_disk.proofs.Moments.{started, joined, weakened}
use Rattle.lf_sqlite_pages.specs.Change.{PageChange, IsChange, empty_change, with_page}
use Rattle.ltx_codec.specs.Decoding.{header_shown, page_shown}
use Rattle.ltx_codec.specs.Fields.{stated_page_size, header_in}
use Rattle.ltx_codec.specs.declared.header.Header.{Header}
use Rattle.ltx_codec.proofs.AgreeLemmas.{longer, header_same}
use Rattle.ltx_codec.proofs.FileLemmas.{file_is}
use Rattle.txn_log.specs.Coming.{Stands, HasCome, Comes, change_after}
use Rattle.txn_log.specs.Intake.{HoldsUpTo}
use Rattle.txn_log.specs.Staging.{HoldsSoFar}
use Rattle.txn_log.specs.Taking.{TakenUpTo, IsQuiet, TakenIn, StagedIn}
use Rattle.txn_log.specs.TakingSource.{Came}
use Rattle.txn_log.specs.declared.coming.Coming.{Coming}
use Rattle.txn_log.specs.declared.coming.Part.{Part}
use Rattle.txn_log.specs.declared.coming.Part.TheVariants as parts
use Rattle.txn_log.specs.declared.taking_source.Intake.{Intake}

-- the header that is shown is that of the encoding
pub shown_is : (coming : Coming) (encoding : List ℕ) (change : PageChange) → HasCome coming encoding change → 100 ≤ length encoding → header_shown coming.reader.decoder ≡ header_in encoding
shown_is coming encoding change come long = by coming.whole come.stands
  where
    by : (b : Bool) → Stands b coming.reader.decoder encoding change → header_shown coming.reader.decoder ≡ header_in encoding
    by true it = sym (file_is encoding _ it come.octets).header
    by false taken = elim taken.fed.stage [
      | inl head ↦ absurd (omega (arith, head.short, long))
      | inr (other, block, part) ↦ block.header
    ]

-- a longer encoding has the same header
pub header_longer : (old encoding more : List ℕ) → encoding ≡ old ++ more → 100 ≤ length old → header_in encoding ≡ header_in old
header_longer old encoding more front long =
    ap header_in front ∙ sym (header_same old (old ++ more) (length old) (longer old more) (omega (arith, long)) long)

-- an encoding of which no header came is short
change_size : (coming : Coming) (encoding : List ℕ) (change : PageChange) → HasCome coming encoding change → 100 ≤ length encoding → change.page_size ≡ stated_page_size encoding
change_size coming encoding change come long = by coming.whole come.stands
  where
    by : (b : Bool) → Stands b coming.reader.decoder encoding change → change.page_size ≡ stated_page_size encoding
    by true it = it.valid.block.page_size ∙ sym (ap (λ (h : Header). h.page_size) (file_is encoding _ it come.octets).header)
    by false taken = (taken.pages long).read.holds.page_size

any_change : (coming : Coming) (encoding : List ℕ) (change other : PageChange) → HasCome coming encoding change → length encoding < 100 → HasCome coming encoding other
any_change coming encoding change other come short = record { octets = come.octets; count = come.count; stands = by coming.whole come.stands }
  where
    by : (b : Bool) → Stands b coming.reader.decoder encoding change → Stands b coming.reader.decoder encoding other
    by true it = absurd (omega (arith, short, (file_is encoding _ it come.octets).long))
    by false taken = record { fed = taken.fed; pages = λ long. absurd (omega (arith, long, short)) }

pub still_short : (old new : Coming) (encoding piece : List ℕ) (change : PageChange) (used : ℕ) → HasCome old encoding change
    → ((encoding : List ℕ) (change : PageChange) → HasCome old encoding change → Comes new encoding change piece (Ok (parts.More, used))) → length encoding < 100 → length (encoding ++ take used piece) < 100
still_short old new encoding piece change used come comes short = elim (cases_lt (length (encoding ++ take used piece)) 100) [
  | inl still ↦ still
  | inr long ↦
      let one : PageChange = empty_change 1 0 in
      let two : PageChange = empty_change 2 0 in
      let first : 1 ≡ stated_page_size (encoding ++ take used piece) = change_size new (encoding ++ take used piece) one (comes encoding one (any_change old encoding change one come short)).0 long in
      let second : 2 ≡ stated_page_size (encoding ++ take used piece) = change_size new (encoding ++ take used piece) two (comes encoding two (any_change old encoding change two come short)).0 long in
      absurd (omega (arith, first, second))
]

-- what came of a step
pub came_of : (old new : Coming) (encoding piece : List ℕ) (change : PageChange) (part : Part) (used : ℕ) → HasCome old encoding change
    → ((encoding : List ℕ) (change : PageChange) → HasCome old encoding change → Comes new encoding change piece (Ok (part, used))) → Came new part encoding (encoding ++ take used piece) change
came_of old new encoding piece change part used come comes =
    let here = comes encoding change come in
    record {
      come = here.0;
      sound = here.1;
      more = take used piece;
      front = refl;
      short = λ is. still_short old new encoding piece change used come (λ t c h. subst (λ (p : Part). Comes new t c piece (Ok (p, used))) is (comes t c h));
    }

-- what is staged is quiet
pub quiet_of : (taken : Option Intake) (before : Folder) (change : PageChange) (count : ℕ) (h : History) → StagedIn taken before change count h → IsQuiet before h
quiet_of None before change count h quiet = quiet
quiet_of (Some intake) before change count h holds = record { seen = holds.seen; left = holds.left }

pub quiet_settled : (before : Folder) (h : History) → IsQuiet before h → IsSettledBut Staged h
quiet_settled before h quiet c may n other = quiet.left c may n other ∙ sym (quiet.seen n other)

pub quiet_same : (before : Folder) (h : History) (c : Folder) → IsQuiet before h → SameBut Staged (now h) c → SameBut Staged before c
quiet_same before h c quiet same n other = same n other ∙ quiet.seen n other

pub first_quiet : (h : History) → IsSettledBut Staged h → IsQuiet (now h) h
first_quiet h settled = record { seen = λ n other. refl; left = settled }

pub quiet_moments : (before : Folder) (h end : History) → IsQuiet before h → EachMoment h end (SameBut Staged (now h)) → EachMoment h end (SameBut Staged before)
quiet_moments before h end quiet run = weakened h end (SameBut Staged (now h)) (SameBut Staged before) run (λ c same. quiet_same before h c quiet same)

pub quiet_holds : (before : Folder) (encoding : List ℕ) (h end : History) → IsQuiet before h → HoldsSoFar (now h) encoding end → HoldsSoFar before encoding end
quiet_holds before encoding h end quiet holds = record {
  seen = quiet_same before h (now end) quiet holds.seen;
  here = holds.here;
  left = λ c may. quiet_same before h c quiet (holds.left c may);
}

module _ (coming : Coming) (taken : Option Intake) (table sums : List ℕ) (count : ℕ) (wal : Bool) (room : ℕ) (encoding long : List ℕ) (change : PageChange) where
  -- bytes that end no part
  pub more_taken : Came coming parts.More encoding long change → TakenIn taken table sums count wal room encoding change → TakenIn taken table sums count wal room long change
  more_taken came is = by taken is
    where
      by : (o : Option Intake) → TakenIn o table sums count wal room encoding change → TakenIn o table sums count wal room long change
      by None none = λ whole. elim (cases_lt (length encoding) 100) [
        | inl short ↦ absurd (omega (arith, whole, came.short refl short))
        | inr past ↦ subst (λ (h : Header). room < h.commit) (sym (header_longer encoding long came.more came.front past)) (none past)
      ]
      by (Some intake) it =
          let same = header_longer encoding long came.more came.front it.0 in (
            omega (arith, it.0, ap length came.front, length-append encoding came.more),
            it.1 ∙ sym same,
            subst (λ (h : Header). h.commit ≤ room) (sym same) it.2,
            it.3,
          )

-- a header
module _ (coming : Coming) (encoding long : List ℕ) (change : PageChange) (came : Came coming parts.Header encoding long change) (header : Header) (is : header ≡ header_shown coming.reader.decoder) where
  pub header_long : 100 ≤ length long
  header_long = came.sound.1.read.header.whole

  pub header_said : header ≡ header_in long
  header_said = is ∙ shown_is coming long _ came.come header_long

  pub header_sized : Rattle.lf_sqlite_pages.specs.PageSize.IsPageSize header.page_size
  header_sized = subst (λ (h : Header). Rattle.lf_sqlite_pages.specs.PageSize.IsPageSize h.page_size) (sym is) came.sound.1.valid.of_a_page_size

  pub header_change : empty_change header.page_size header.commit ≡ change_after parts.Header coming change
  header_change = ap (λ (h : Header). empty_change h.page_size h.commit) is

  pub header_refused : (table sums : List ℕ) (count : ℕ) (wal : Bool) (room : ℕ) → room < header.commit → TakenIn None table sums count wal room long (change_after parts.Header coming change)
  header_refused table sums count wal room past whole = subst (λ (h : Header). room < h.commit) header_said past

  pub header_taken : (intake : Intake) (table sums : List ℕ) (count : ℕ) (wal : Bool) (room : ℕ) → header.commit ≤ room → intake.receiving.header ≡ header → TakenUpTo intake table sums count wal (empty_change header.page_size header.commit)
      → TakenIn (Some intake) table sums count wal room long (change_after parts.Header coming change)
  header_taken intake table sums count wal room within same taken = (
    header_long,
    same ∙ header_said,
    subst (λ (h : Header). h.commit ≤ room) header_said within,
    subst (λ (x : PageChange). TakenUpTo intake table sums count wal x) header_change taken,
  )

  pub header_staged : (intake : Intake) (before : Folder) (count : ℕ) (h end : History) → IsQuiet before h → HoldsUpTo (now h) intake.receiving (empty_change header.page_size header.commit) count end
      → StagedIn (Some intake) before (change_after parts.Header coming change) count end
  header_staged intake before count h end quiet holds =
      subst (λ (x : PageChange). HoldsUpTo before intake.receiving x count end) header_change (quiet_holds before _ h end quiet holds)

-- a page
module _ (coming : Coming) (encoding long : List ℕ) (change : PageChange) (number : ℕ) (came : Came coming (parts.Page number) encoding long change) (page : List ℕ) (is : page ≡ page_shown coming.reader.decoder) where
  pub page_valid : IsChange (with_page change number page)
  page_valid = subst (λ (p : List ℕ). IsChange (with_page change number p)) (sym is) came.sound.1.valid

  pub page_change : with_page change number page ≡ change_after (parts.Page number) coming change
  page_change = ap (with_page change number) is

  pub page_refused : (table new sums : List ℕ) (count : ℕ) (wal : Bool) (room : ℕ) → TakenIn None table sums count wal room encoding change → TakenIn None new sums count wal room long (change_after (parts.Page number) coming change)
  page_refused table new sums count wal room none whole =
      subst (λ (h : Header). room < h.commit) (sym (header_longer encoding long came.more came.front came.sound.0)) (none came.sound.0)

  pub page_taken : (intake next : Intake) (table new sums : List ℕ) (count : ℕ) (wal : Bool) (room : ℕ) → TakenIn (Some intake) table sums count wal room encoding change → next.receiving.header ≡ intake.receiving.header
      → TakenUpTo next new sums count wal (with_page change number page) → TakenIn (Some next) new sums count wal room long (change_after (parts.Page number) coming change)
  page_taken intake next table new sums count wal room it header taken =
      let same = header_longer encoding long came.more came.front it.0 in (
        omega (arith, it.0, ap length came.front, length-append encoding came.more),
        header ∙ it.1 ∙ sym same,
        subst (λ (h : Header). h.commit ≤ room) (sym same) it.2,
        subst (λ (x : PageChange). TakenUpTo next new sums count wal x) page_change taken,
      )

  pub page_staged : (next : Intake) (before : Folder) (count : ℕ) (end : History) → HoldsUpTo before next.receiving (with_page change number page) count end
      → StagedIn (Some next) before (change_after (parts.Page number) coming change) count end
  page_staged next before count end holds = subst (λ (x : PageChange). HoldsUpTo before next.receiving x count end) page_change holds

-- a source is being read, and its file taken in
pub record Going (honest : Bool) (left left_now : Option (List ℕ)) (coming : Coming) (taken : Option Intake) (table sums : List ℕ) (count : ℕ) (wal : Bool) (room : ℕ) (rest : List ℕ) (h mid : History) : Type 0 where
  pub encoding : List ℕ
  pub change : PageChange
  pub read : Consumes left left_now (encoding ++ rest)
  pub come : HasCome coming encoding change
  pub taken_in : TakenIn taken table sums count wal room encoding change
  pub moments : IsTrue honest → EachMoment h mid (SameBut Staged (now h))
  pub staged : IsTrue honest → StagedIn taken (now h) change count mid

pub going_none : (honest : Bool) (left : Option (List ℕ)) (coming : Coming) (change : PageChange) (table sums : List ℕ) (count : ℕ) (wal : Bool) (room : ℕ) (page : List ℕ) (h : History) → HasCome coming [] change
    → (IsTrue honest → IsSettledBut Staged h) → Going honest left left coming None table sums count wal room (drop 0 (take 0 page)) h h
going_none honest left coming change table sums count wal room page h come settled = record {
  encoding = [];
  change = change;
  read = Rattle.std.proofs.KnownBytes.Consumes-nil left;
  come = come;
  taken_in = λ whole. absurd (omega (arith, whole));
  moments = λ is. started h (SameBut Staged (now h)) (settled is);
  staged = λ is. first_quiet h (settled is);
}

module _ (honest : Bool) (left mid_left : Option (List ℕ)) (coming : Coming) (taken : Option Intake) (table sums : List ℕ) (count : ℕ) (wal : Bool) (room : ℕ) (rest : List ℕ) (h mid : History)
    (so_far : Going honest left mid_left coming taken table sums count wal room rest h mid) where
  -- some bytes more were read
  pub going_read : (left_now : Option (List ℕ)) (next : List ℕ) → ((encoding : List ℕ) → Consumes left mid_left (encoding ++ rest) → Consumes left left_now (encoding ++ next)) → Going honest left left_now coming taken table sums count wal room next h mid
  going_read left_now next more = record {
    encoding = so_far.encoding;
    change = so_far.change;
    read = more so_far.encoding so_far.read;
    come = so_far.come;
    taken_in = so_far.taken_in;
    moments = so_far.moments;
    staged = so_far.staged;
  }

  pub quiet : IsTrue honest → IsQuiet (now h) mid
  quiet is = quiet_of taken (now h) so_far.change count mid (so_far.staged is)

  -- a step more
  module _ (new : Coming) (part : Part) (used : ℕ) (comes : (encoding : List ℕ) (change : PageChange) → HasCome coming encoding change → Comes new encoding change rest (Ok (part, used))) where
    pub came : Came new part so_far.encoding (so_far.encoding ++ take used rest) so_far.change
    came = came_of coming new so_far.encoding rest so_far.change part used so_far.come comes

    pub going_step : (next : Option Intake) (table_new : List ℕ) (end : History) (others : List ℕ) → rest ≡ take used rest ++ others
        → ((encoding longer : List ℕ) (change : PageChange) → Came new part encoding longer change → TakenIn taken table sums count wal room encoding change → TakenIn next table_new sums count wal room longer (change_after part new change))
        → (IsTrue honest → (before : Folder) (encoding longer : List ℕ) (change : PageChange) → Came new part encoding longer change → TakenIn taken table sums count wal room encoding change → StagedIn taken before change count mid
        → StagedIn next before (change_after part new change) count end)
        → (IsTrue honest → (before : Folder) (encoding longer : List ℕ) (change : PageChange) → Came new part encoding longer change → TakenIn taken table sums count wal room encoding change → StagedIn taken before change count mid
        → EachMoment mid end (SameBut Staged before))
        → Going honest left mid_left new next table_new sums count wal room others h end
    going_step next table_new end others splits takes stages runs = record {
      encoding = so_far.encoding ++ take used rest;
      change = change_after part new so_far.change;
      read = subst (λ (l : List ℕ). Consumes left mid_left l) (ap (λ (l : List ℕ). so_far.encoding ++ l) splits ∙ sym (append_assoc so_far.encoding (take used rest) others)) so_far.read;
      come = came.come;
      taken_in = takes so_far.encoding (so_far.encoding ++ take used rest) so_far.change came so_far.taken_in;
      moments = λ is. joined h mid end (SameBut Staged (now h)) (so_far.moments is) (runs is (now h) so_far.encoding (so_far.encoding ++ take used rest) so_far.change came so_far.taken_in (so_far.staged is));
      staged = λ is. stages is (now h) so_far.encoding (so_far.encoding ++ take used rest) so_far.change came so_far.taken_in (so_far.staged is);
    }

  pub going_failed : (new : Coming) (part : Part) (used : ℕ) (end : History) → ((encoding : List ℕ) (change : PageChange) → HasCome coming encoding change → Comes new encoding change rest (Ok (part, used)))
      → (IsTrue honest → (before : Folder) (encoding longer : List ℕ) (change : PageChange) → Came new part encoding longer change → TakenIn taken table sums count wal room encoding change → StagedIn taken before change count mid
      → EachMoment mid end (SameBut Staged before)) → IsTrue honest → EachMoment h end (SameBut Staged (now h))
  going_failed new part used end comes runs is =
      let it = came_of coming new so_far.encoding rest so_far.change part used so_far.come comes in
      joined h mid end (SameBut Staged (now h)) (so_far.moments is) (runs is (now h) so_far.encoding (so_far.encoding ++ take used rest) so_far.change it so_far.taken_in (so_far.staged is))

-- no bytes are left over
pub none_left : (from to : ℕ) (page : List ℕ) → from ≡ to → drop from (take to page) ≡ []
none_left from to page same = drop_all from (take to page) (omega (arith, same, Rattle.std.proofs.Common.length-take to page))

pub read_all : (left left_now : Option (List ℕ)) (encoding rest : List ℕ) → rest ≡ [] → Consumes left left_now (encoding ++ rest) → Consumes left left_now encoding
read_all left left_now encoding rest none read = subst (λ (l : List ℕ). Consumes left left_now l) (ap (λ (l : List ℕ). encoding ++ l) none ∙ append-nil encoding) read
