-- Steps of the decoder over the encoding so far.
use Rattle.std.proofs.Common.{◌≡◌, ℕ, zero, suc, ◌+◌, ◌<◌, ◌≤◌, Bool, true, false, cond, List, [], ◌∷◌, ◌++◌, length, take, drop, arith, refl, sym, ap, subst, inl, inr, ◌∙◌, length-append, append_assoc}
use Rattle.std.proofs.lemmas.List.{take_all, drop_all, take-append-drop, append-nil}
use Rattle.page_checksum.specs.Crc.{after_bytes, all_ones}
use Rattle.lf_sqlite_pages.specs.PageSize.{IsPageSize}
use Rattle.lf_sqlite_pages.specs.Change.{IsChange, empty_change}
use Rattle.ltx_codec.specs.Fields.{AreBytes, stated_page_size, stated_commit, header_in}
use Rattle.ltx_codec.specs.Places.{IsEarliest, IsFound, IsSoundBefore, number_place}
use Rattle.ltx_codec.specs.HeaderRules.{IsThere, HasSoundFields}
use Rattle.ltx_codec.specs.Block.{HasHeader, IsRead}
use Rattle.ltx_codec.specs.Decoding.{HasFed, IsPart, held_part, IsWithin, IsPastLimit, IsRefusedWithin, NoneEndsBefore, StandsFirst, ShowsHeader}
use Rattle.ltx_codec.specs.declared.decoder.Decoder.{Decoder}
use Rattle.ltx_codec.specs.declared.fault.LtxFault.{LtxFault}
use Rattle.ltx_codec.specs.declared.fault.LtxFault.TheVariants as fault
use Rattle.ltx_codec.proofs.HeaderLemmas.{short_header, sound_fields}
use Rattle.ltx_codec.proofs.BlockLemmas.{short_number}
use Rattle.ltx_codec.proofs.AgreeLemmas.{fault_stays_lem, sound_longer, broken_same, there_inside, four_same, longer}
use Rattle.ltx_codec.proofs.NumberLemmas.{found_inside, found_there}

nothing_there : (n e : ℕ) → 1 ≤ e → IsThere [] n e → ⊥
nothing_there n e some is = omega (arith, is.there)

-- no encoding breaks no rule
pub nothing_sound : HasSoundFields [] 103
nothing_sound = record {
  magic_is = λ is. absurd (nothing_there 103 4 (omega arith) is);
  flags = λ is. absurd (nothing_there 103 8 (omega arith) is);
  page_size = λ is. absurd (nothing_there 103 12 (omega arith) is);
  commit = λ is. absurd (nothing_there 103 16 (omega arith) is);
  min = λ is. absurd (nothing_there 103 24 (omega arith) is);
  max = λ is. absurd (nothing_there 103 32 (omega arith) is);
  snapshot_pre = λ is. absurd (nothing_there 103 48 (omega arith) is);
  delta_pre = λ is. absurd (nothing_there 103 48 (omega arith) is);
}

pub nothing_read : IsEarliest [] fault.Short
nothing_read = short_header [] nothing_sound (omega arith)

first_place : (bytes : List ℕ) → number_place bytes 0 ≡ 100
first_place bytes = omega arith

-- the block before its first page
pub read_none : (bytes : List ℕ) → HasHeader bytes → IsRead bytes (empty_change (stated_page_size bytes) (stated_commit bytes)) 0
read_none bytes head = record {
  header = head;
  there = let whole = head.whole in omega arith;
  pages = λ j less. absurd (omega (arith, less));
  holds = record {
    page_size = refl;
    commit = refl;
    last = refl;
    writes = refl;
    each = λ _ n first last. absurd (omega (arith, first, last));
    encoding = ap (λ (n : ℕ). take n bytes) (first_place bytes) ∙ sym (append-nil (take 100 bytes));
  };
  sound = subst (λ (n : ℕ). IsSoundBefore bytes (n + 1)) (sym (first_place bytes)) (sound_fields bytes 100 here (omega arith) head.whole);
}
  where
    wider : (e : ℕ) → IsThere bytes 100 e → IsThere bytes 103 e
    wider e is = record { within = omega (arith, is.within); there = is.there }

    here : HasSoundFields bytes 100
    here = let h = head.fields in record {
      magic_is = λ is. h.magic_is (wider 4 is);
      flags = λ is. h.flags (wider 8 is);
      page_size = λ is. h.page_size (wider 12 is);
      commit = λ is. h.commit (wider 16 is);
      min = λ is. h.min (wider 24 is);
      max = λ is. h.max (wider 32 is);
      snapshot_pre = λ is. h.snapshot_pre (wider 48 is);
      delta_pre = λ is. h.delta_pre (wider 48 is);
    }

-- a change with no page yet is one
pub none_valid : (size count : ℕ) → IsPageSize size → IsChange (empty_change size count)
none_valid size count is = record { of_a_page_size = is; ascending = tt; within = λ i w less. absurd (omega (arith, less)); data_pages = λ i w less. absurd (omega (arith, less)); whole = λ i w less. absurd (omega (arith, less)) }

-- pages past the limit were past it where a fault inside was found
past_shorter : (limit : ℕ) (bytes more : List ℕ) (f : LtxFault) → IsFound f → IsEarliest bytes f → IsPastLimit limit (bytes ++ more) → IsPastLimit limit bytes
past_shorter limit bytes more f found earliest past =
    let inside = found_there f found in
    let here : earliest.place ≤ length bytes = omega (arith, earliest.broken.there, there_inside bytes f inside) in
    let far : 13 ≤ earliest.place = past.sound f earliest.place (broken_same bytes (bytes ++ more) (length bytes) earliest.place f (longer bytes more) here inside earliest.broken) in
    record {
      there = omega (arith, far, here);
      sound = λ other q broken. omega (arith, far, earliest.earliest other q broken);
      past = omega (arith, past.past, far, here, four_same 8 (length bytes) bytes (bytes ++ more) (longer bytes more) (omega (arith, far, here)));
    }

-- what is refused stays so whatever follows
pub refused_longer : (limit : ℕ) (bytes more : List ℕ) (f : LtxFault) → IsRefusedWithin limit bytes f → IsRefusedWithin limit (bytes ++ more) f
refused_longer limit bytes more f refused = (
  refused.0,
  elim refused.1 [
    | inl found ↦ inl (
      fault_stays_lem bytes more f found.0 (found_there f refused.0) (found_inside f refused.0),
      λ past. found.1 (past_shorter limit bytes more f refused.0 found.0 past),
    )
    | inr past ↦ inr (
      past.0,
      record {
        there = let there = past.1.there in omega (arith, length-append bytes more);
        sound = sound_longer bytes more 13 (let there = past.1.there in omega arith) past.1.sound;
        past = let there = past.1.there in omega (arith, past.1.past, four_same 8 (length bytes) bytes (bytes ++ more) (longer bytes more) (omega (arith, there)));
      },
    )
  ],
)

-- an encoding with some of a piece, and the rest of the piece
pub piece_rest : (encoding piece : List ℕ) (used : ℕ) → (encoding ++ take used piece) ++ drop used piece ≡ encoding ++ piece
piece_rest encoding piece used = append_assoc encoding (take used piece) (drop used piece) ∙ ap (λ (l : List ℕ). encoding ++ l) (take-append-drop used piece)

pub refused_piece : (limit : ℕ) (encoding piece : List ℕ) (used : ℕ) (f : LtxFault) → IsRefusedWithin limit (encoding ++ take used piece) f → IsRefusedWithin limit (encoding ++ piece) f
refused_piece limit encoding piece used f refused =
    subst (λ (l : List ℕ). IsRefusedWithin limit l f) (piece_rest encoding piece used) (refused_longer limit (encoding ++ take used piece) (drop used piece) f refused)

-- what is found with some bytes of a piece, before which no part ends, is found in the piece
pub refused_first : (limit : ℕ) (encoding piece : List ℕ) (used : ℕ) (f : LtxFault) → used ≤ length piece → NoneEndsBefore encoding piece used → IsRefusedWithin limit (encoding ++ take used piece) f
    → IsRefusedWithin limit (encoding ++ piece) f × StandsFirst limit encoding piece f
refused_first limit encoding piece used f within none refused =
    (refused_piece limit encoding piece used f refused, record { used = used; within = within; none = none; refused = refused })

pub AreBytes-append : (front back : List ℕ) → AreBytes front → AreBytes back → AreBytes (front ++ back)
AreBytes-append [] back h k i = k i
AreBytes-append (x ∷ front) back h k zero = h 0
AreBytes-append (x ∷ front) back h k (suc i) = AreBytes-append front back (λ j. h (suc j)) k i

-- what is held before the header is whole
pub held_is : (d : Decoder) (limit : ℕ) (encoding : List ℕ) → HasFed d limit encoding → d.in_block ≡ false → d.told ≡ false → d.held.items ≡ encoding
held_is d limit encoding fed stage untold = elim fed.stage [
  | inl head ↦ subst (λ (b : Bool). cond b [] d.held.items ≡ encoding) untold head.held
  | inr block ↦ let other = block.1.stage in absurd cc
]

-- where the part was told, nothing is held
pub told_part : (d : Decoder) (encoding : List ℕ) (k : ℕ) → d.told ≡ true → IsPart d encoding k
told_part d encoding k told =
    let none : length (held_part d) ≡ 0 = ap (λ (b : Bool). length (cond b [] d.held.items)) told in
    record { page = λ there more. omega (arith, none); end = λ there ends. omega (arith, none) }

-- the parts that a piece leaves alone
pub record Stays (old new : Decoder) : Type 0 where
  pub fault : new.fault ≡ old.fault
  pub limit : new.limit ≡ old.limit

module _ (old new : Decoder) (limit : ℕ) (encoding more : List ℕ) (fed : HasFed old limit encoding) (stays : Stays old new) (fits : AreBytes more) where
  -- the header goes on
  pub header_goes_on : old.in_block ≡ false → old.told ≡ false → new.in_block ≡ old.in_block → new.told ≡ old.told
      → new.held.items ≡ old.held.items ++ more → HasSoundFields new.held.items 103 → IsWithin old.limit new.held.items → length new.held.items < 100
      → HasFed new limit (encoding ++ more)
  header_goes_on stage untold stage-same told-same held sound within short =
      let encoding-is : new.held.items ≡ encoding ++ more = held ∙ ap (λ (l : List ℕ). l ++ more) (held_is old limit encoding fed stage untold) in
      record {
        unfinished = rw (← encoding-is) (short_header new.held.items sound short);
        octets = AreBytes-append encoding more fed.octets fits;
        sound = stays.fault ∙ fed.sound;
        limit_is = stays.limit ∙ fed.limit_is;
        within = rw (← encoding-is, ← fed.limit_is) within;
        stage = inl (record {
          stage = stage-same ∙ stage;
          short = let len = ap length encoding-is in omega (arith, short, len);
          held = subst (λ (b : Bool). cond b [] new.held.items ≡ encoding ++ more) (sym (told-same ∙ untold)) encoding-is;
        });
      }

  -- the header is whole
  pub header_ends : old.in_block ≡ false → old.told ≡ false → new.held.items ≡ old.held.items ++ more
      → HasSoundFields new.held.items 103 → IsWithin old.limit new.held.items → length new.held.items ≡ 100
      → new.header ≡ header_in new.held.items → new.register ≡ after_bytes all_ones new.held.items → new.number ≡ 0 → new.sums ≡ 0 → new.in_block ≡ true → new.told ≡ true
      → ShowsHeader new limit (encoding ++ more)
  header_ends stage untold held sound within whole header register number sums block told =
      let encoding-is : new.held.items ≡ encoding ++ more = held ∙ ap (λ (l : List ℕ). l ++ more) (held_is old limit encoding fed stage untold) in
      let octets = AreBytes-append encoding more fed.octets fits in
      let head : HasHeader (encoding ++ more) = record { fields = rw (← encoding-is) sound; whole = omega (arith, whole, ap length encoding-is); octets = octets } in
      let long : length (encoding ++ more) ≡ 100 = sym (ap length encoding-is) ∙ whole in
      let read = read_none (encoding ++ more) head in
      record {
        ends = long;
        shown = header ∙ ap header_in encoding-is;
        fed = record {
          unfinished = short_number (encoding ++ more) 0 read.pages read.sound (omega (arith, long)) (omega (arith, long));
          octets = octets;
          sound = stays.fault ∙ fed.sound;
          limit_is = stays.limit ∙ fed.limit_is;
          within = rw (← encoding-is, ← fed.limit_is) within;
          stage = inr (
            empty_change (stated_page_size (encoding ++ more)) (stated_commit (encoding ++ more)),
            record {
              stage = block;
              valid = none_valid _ _ (head.fields.page_size (record { within = omega arith; there = omega (arith, long) }));
              read = read;
              header = header ∙ ap header_in encoding-is;
              number = number;
              held = ap (λ (b : Bool). cond b [] new.held.items) told ∙ sym (drop_all (number_place (encoding ++ more) 0) (encoding ++ more) (omega (arith, long)));
              register = register ∙ ap (after_bytes all_ones) (encoding-is ∙ sym (take_all (number_place (encoding ++ more) 0) (encoding ++ more) (omega (arith, long))));
              sums = λ _. sums;
            },
            told_part new (encoding ++ more) 0 told,
          );
        };
      }

-- before the header is whole, less than it was read
pub header_short : (d : Decoder) (limit : ℕ) (encoding : List ℕ) → HasFed d limit encoding → d.in_block ≡ false → length encoding < 100
header_short d limit encoding fed stage = elim fed.stage [
  | inl head ↦ head.short
  | inr block ↦ let other = block.1.stage in absurd cc
]
