-- What was read of a block stays read when the encoding goes on.
use Rattle.std.proofs.Common.{◌≡◌, ℕ, ◌+◌, ◌≤◌, Bool, true, false, cond, List, [], ◌++◌, length, take, drop, arith, refl, sym, ap, subst, inl, inr, ◌∙◌, length-append, append_assoc}
use Rattle.std.proofs.lemmas.List.{drop-append-le, take-append-le, length-drop, drop-drop}
use Rattle.std.proofs.Math.Seq.{take-add}
use Rattle.page_checksum.specs.Crc.{after_bytes, all_ones}
use Rattle.lf_sqlite_pages.specs.PageSize.{IsPageSize}
use Rattle.lf_sqlite_pages.specs.LockPage.{IsWithinLimit}
use Rattle.lf_sqlite_pages.specs.Change.{PageChange}
use Rattle.ltx_codec.specs.Fields.{AreBytes, stated_page_size, stated_commit, stated_min, stated_max, stated_pre, header_in}
use Rattle.ltx_codec.specs.Format.{pages_encoding}
use Rattle.ltx_codec.specs.Places.{IsEarliest, IsSoundBefore, number_place, number_at, number_before}
use Rattle.ltx_codec.specs.Numbering.{MayFollow}
use Rattle.ltx_codec.specs.HeaderRules.{IsThere}
use Rattle.ltx_codec.specs.Block.{HasHeader, IsRead, IsNextNumber}
use Rattle.ltx_codec.specs.Decoding.{HasFed, IsPart, held_part}
use Rattle.ltx_codec.specs.steps.Feeding.{HasPagesOf}
use Rattle.ltx_codec.specs.declared.decoder.Decoder.{Decoder}
use Rattle.ltx_codec.specs.declared.fault.LtxFault.TheVariants as fault
use Rattle.ltx_codec.proofs.AgreeLemmas.{Agree, longer, front_same, four_same, eight_same, place_same, number_same, before_same, pages_same, writes_same, header_same, numbers_same, sound_longer}
use Rattle.ltx_codec.proofs.FeedLemmas.{AreBytes-append, Stays}
use Rattle.lf_base.specs.Endian.{be32_at, be64_at}

module _ (bytes more : List ℕ) (head : HasHeader bytes) where
  agree : Agree bytes (bytes ++ more) (length bytes)
  agree = longer bytes more

  long : 100 ≤ length bytes
  long = head.whole

  pub min_kept : stated_min bytes ≡ stated_min (bytes ++ more)
  min_kept = let l = long in eight_same 16 (length bytes) bytes (bytes ++ more) agree (omega arith)

  pub commit_kept : stated_commit bytes ≡ stated_commit (bytes ++ more)
  commit_kept = let l = long in four_same 12 (length bytes) bytes (bytes ++ more) agree (omega arith)

  pub size_kept : stated_page_size bytes ≡ stated_page_size (bytes ++ more)
  size_kept = let l = long in four_same 8 (length bytes) bytes (bytes ++ more) agree (omega arith)

  max_kept : stated_max bytes ≡ stated_max (bytes ++ more)
  max_kept = let l = long in eight_same 24 (length bytes) bytes (bytes ++ more) agree (omega arith)

  pre_kept : stated_pre bytes ≡ stated_pre (bytes ++ more)
  pre_kept = let l = long in eight_same 40 (length bytes) bytes (bytes ++ more) agree (omega arith)

  pub place_kept : (k : ℕ) → number_place bytes k ≡ number_place (bytes ++ more) k
  place_kept k = let l = long in place_same bytes (bytes ++ more) (length bytes) agree (omega arith) k

  pub before_kept : (k : ℕ) → number_place bytes k ≤ length bytes → number_before bytes k ≡ number_before (bytes ++ more) k
  before_kept k le = let l = long in before_same bytes (bytes ++ more) (length bytes) agree (omega arith) k le

  pub number_kept : (k : ℕ) → number_place bytes k + 4 ≤ length bytes → number_at bytes k ≡ number_at (bytes ++ more) k
  number_kept k le = let l = long in number_same bytes (bytes ++ more) (length bytes) agree (omega arith) k le

  four_kept : (p : ℕ) → p + 4 ≤ 100 → be32_at p bytes ≡ be32_at p (bytes ++ more)
  four_kept p le = let l = long in four_same p (length bytes) bytes (bytes ++ more) agree (omega arith)

  eight_kept : (p : ℕ) → p + 8 ≤ 100 → be64_at p bytes ≡ be64_at p (bytes ++ more)
  eight_kept p le = let l = long in eight_same p (length bytes) bytes (bytes ++ more) agree (omega arith)

  there : (n e : ℕ) → e ≤ 100 → IsThere bytes 103 e
  there n e le = let l = long in record { within = omega arith; there = omega arith }

  pub header_longer : AreBytes (bytes ++ more) → HasHeader (bytes ++ more)
  header_longer octets = let f = head.fields in let l = long in record {
    fields = record {
      magic_is = λ _. sym (front_same 4 (length bytes) bytes (bytes ++ more) agree (omega arith)) ∙ f.magic_is (there 0 4 (omega arith));
      flags = λ _. sym (four_kept 4 (omega arith)) ∙ f.flags (there 0 8 (omega arith));
      page_size = λ _. subst (λ (n : ℕ). IsPageSize n) size_kept (f.page_size (there 0 12 (omega arith)));
      commit = λ _. subst (λ (n : ℕ). IsWithinLimit (stated_page_size (bytes ++ more)) n) commit_kept
          (subst (λ (n : ℕ). IsWithinLimit n (stated_commit bytes)) size_kept (f.commit (there 0 16 (omega arith))));
      min = λ _. omega (arith, min_kept, f.min (there 0 24 (omega arith)));
      max = λ _. omega (arith, min_kept, max_kept, f.max (there 0 32 (omega arith)));
      snapshot_pre = λ _ snapshot. sym pre_kept ∙ f.snapshot_pre (there 0 48 (omega arith)) (min_kept ∙ snapshot);
      delta_pre = λ _ delta. omega (arith, pre_kept, f.delta_pre (there 0 48 (omega arith)) (λ one. delta (sym min_kept ∙ one)));
    };
    whole = omega (arith, length-append bytes more);
    octets = octets;
  }

  pub header_in_longer : header_in bytes ≡ header_in (bytes ++ more)
  header_in_longer = let l = long in header_same bytes (bytes ++ more) (length bytes) agree (omega arith) l

pub read_longer : (bytes more : List ℕ) (change : PageChange) (k : ℕ) → IsRead bytes change k → AreBytes (bytes ++ more) → IsRead (bytes ++ more) change k
read_longer bytes more change k read octets =
    let head = read.header in
    let l : 100 ≤ length bytes = head.whole in
    let g : Agree bytes (bytes ++ more) (length bytes) = longer bytes more in
    let place = place_kept bytes more head k in
    let before = before_kept bytes more head k read.there in
    let min = min_kept bytes more head in
    record {
      header = header_longer bytes more head octets;
      there = omega (arith, read.there, place, length-append bytes more);
      pages = pages_same bytes (bytes ++ more) (length bytes) g (omega arith) k read.there read.pages;
      holds = record {
        page_size = read.holds.page_size ∙ size_kept bytes more head;
        commit = read.holds.commit ∙ commit_kept bytes more head;
        last = read.holds.last ∙ before;
        writes = read.holds.writes ∙ writes_same bytes (bytes ++ more) (length bytes) g (omega arith) k 0 k (omega arith) read.there;
        each = λ snapshot. read.holds.each (min ∙ snapshot);
        encoding = ap (λ (n : ℕ). take n (bytes ++ more)) (sym place)
            ∙ sym (front_same (number_place bytes k) (length bytes) bytes (bytes ++ more) g read.there)
            ∙ read.holds.encoding
            ∙ ap (λ (d : List ℕ). d ++ pages_encoding change.pages) (front_same 100 (length bytes) bytes (bytes ++ more) g l);
      };
      sound = subst (λ (n : ℕ). IsSoundBefore (bytes ++ more) (n + 1)) place
          (sound_longer bytes more (number_place bytes k + 1) (let r = read.there in omega arith) read.sound);
    }

pub next_longer : (bytes more : List ℕ) (change : PageChange) (k : ℕ) → IsRead bytes change k → IsNextNumber bytes k → IsNextNumber (bytes ++ more) k
next_longer bytes more change k read next =
    let head = read.header in
    let whole : 100 ≤ length bytes = head.whole in
    record {
      there = omega (arith, next.there, place_kept bytes more head k, length-append bytes more);
      may = numbers_same bytes (bytes ++ more) (length bytes) (longer bytes more) (omega arith) (length bytes) (omega arith) MayFollow k next.there next.may;
    }

-- what a piece of a part leaves alone, and what it adds to what is held
pub record Grows (old new : Decoder) (more : List ℕ) : Type 0 where
  pub stays : Stays old new
  pub untold : old.told ≡ false
  pub told : new.told ≡ old.told
  pub stage : new.in_block ≡ old.in_block
  pub header : new.header ≡ old.header
  pub number : new.number ≡ old.number
  pub sums : new.sums ≡ old.sums
  pub register : new.register ≡ old.register
  pub held : new.held.items ≡ old.held.items ++ more

pub held_untold : (d : Decoder) → d.told ≡ false → held_part d ≡ d.held.items
held_untold d untold = ap (λ (b : Bool). cond b [] d.held.items) untold

pub pages_longer : (old new : Decoder) (limit : ℕ) (encoding more : List ℕ) (change : PageChange) → HasPagesOf old limit encoding change → Grows old new more → AreBytes more
    → HasPagesOf new limit (encoding ++ more) change
pages_longer old new limit encoding more change has grows fits =
    let block = has.block in
    let k = length change.pages in
    let read = block.read in
    let octets = AreBytes-append encoding more has.octets fits in
    let place = place_kept encoding more read.header k in
    let l : 100 ≤ length encoding = read.header.whole in
    record {
      octets = octets;
      sound = grows.stays.fault ∙ has.sound;
      limit_is = grows.stays.limit ∙ has.limit_is;
      within = λ _. omega (arith, size_kept encoding more read.header, has.within (omega arith));
      block = record {
        stage = grows.stage ∙ block.stage;
        valid = block.valid;
        read = read_longer encoding more change k read octets;
        header = grows.header ∙ block.header ∙ header_in_longer encoding more read.header;
        number = grows.number ∙ block.number ∙ before_kept encoding more read.header k read.there;
        held = held_untold new (grows.told ∙ grows.untold) ∙ grows.held
            ∙ ap (λ (d : List ℕ). d ++ more) (sym (held_untold old grows.untold) ∙ block.held)
            ∙ sym (drop-append-le (number_place encoding k) encoding more read.there)
            ∙ ap (λ (n : ℕ). drop n (encoding ++ more)) place;
        register = grows.register ∙ block.register
            ∙ ap (after_bytes all_ones) (sym (take-append-le (number_place encoding k) encoding more read.there) ∙ ap (λ (n : ℕ). take n (encoding ++ more)) place);
        sums = λ snapshot. grows.sums ∙ block.sums (min_kept encoding more read.header ∙ snapshot);
      };
    }

pub fed_of : (d : Decoder) (limit : ℕ) (encoding : List ℕ) (change : PageChange) → HasPagesOf d limit encoding change → IsPart d encoding (length change.pages) → IsEarliest encoding fault.Short → HasFed d limit encoding
fed_of d limit encoding change has part short = record {
  unfinished = short;
  octets = has.octets;
  sound = has.sound;
  limit_is = has.limit_is;
  within = has.within;
  stage = inr (change, has.block, part);
}

pub pages_of : (d : Decoder) (limit : ℕ) (encoding : List ℕ) → HasFed d limit encoding → d.in_block ≡ true → (change : PageChange) × HasPagesOf d limit encoding change × IsPart d encoding (length change.pages)
pages_of d limit encoding fed stage = elim fed.stage [
  | inl head ↦ let other = head.stage in absurd cc
  | inr block ↦ (block.0, record { octets = fed.octets; sound = fed.sound; limit_is = fed.limit_is; within = fed.within; block = block.1 }, block.2)
]

-- what is held is as long as the encoding behind the pages
pub held_length : (d : Decoder) (limit : ℕ) (encoding : List ℕ) (change : PageChange) → HasPagesOf d limit encoding change → d.told ≡ false
    → length encoding ≡ number_place encoding (length change.pages) + length d.held.items
held_length d limit encoding change has untold =
    let k = length change.pages in
    let there = has.block.read.there in
    omega (arith, ap length (sym (held_untold d untold) ∙ has.block.held), length-drop (number_place encoding k) encoding, there)

pub held_is_rest : (d : Decoder) (limit : ℕ) (encoding : List ℕ) (change : PageChange) → HasPagesOf d limit encoding change → d.told ≡ false
    → d.held.items ≡ drop (number_place encoding (length change.pages)) encoding
held_is_rest d limit encoding change has untold = sym (held_untold d untold) ∙ has.block.held

-- an encoding with two pieces taken one after the other
pub two_taken : (encoding piece : List ℕ) (first more : ℕ) → encoding ++ take (first + more) piece ≡ (encoding ++ take first piece) ++ take more (drop first piece)
two_taken encoding piece first more =
    ap (λ (l : List ℕ). encoding ++ l) (take-add first more piece) ∙ sym (append_assoc encoding (take first piece) (take more (drop first piece)))

-- numbers of a rest are numbers of the encoding
pub four_rest : (at place : ℕ) (encoding : List ℕ) → be32_at place (drop at encoding) ≡ be32_at (at + place) encoding
unfolding be32_at
four_rest at place encoding = rw drop-drop refl

pub eight_rest : (at place : ℕ) (encoding : List ℕ) → be64_at place (drop at encoding) ≡ be64_at (at + place) encoding
unfolding be64_at
eight_rest at place encoding = rw drop-drop refl
