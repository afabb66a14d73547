-- Which rule of the header is broken first.
use Rattle.std.proofs.Common.{◌≡◌, ℕ, ◌+◌, ◌%◌, ◌<◌, ◌≤◌, List, length, arith, refl, subst, inl, inr}
use Rattle.std.proofs.lemmas.Bool.{cases_lt}
use Rattle.ltx_codec.specs.Places.{Breaks, IsBroken, IsSoundBefore, IsEarliest, IsFound}
use Rattle.ltx_codec.specs.HeaderRules.{IsThere, HasSoundFields, IsOfStart}
use Rattle.ltx_codec.specs.Decoding.{IsWithin, IsPastLimit, IsRefusedWithin}
use Rattle.ltx_codec.specs.declared.fault.LtxFault.{LtxFault}
use Rattle.ltx_codec.specs.declared.fault.LtxFault.TheVariants as fault

late : (n q : ℕ) → (q ≤ n → ⊥) → n + 1 ≤ q
late n q h = elim (cases_lt n q) [ inl lt ↦ omega (arith, lt) | inr le ↦ absurd (h le) ]

there : (bytes : List ℕ) (n e q : ℕ) → q ≡ e → q ≤ n → q ≤ length bytes → IsThere bytes n e
there bytes n e q is le within = record { within = omega arith; there = omega arith }

-- where the fields meet their rules, no rule is broken before their end
pub sound_fields : (bytes : List ℕ) (n : ℕ) → HasSoundFields bytes n → n ≤ 103 → n ≤ length bytes → IsSoundBefore bytes (n + 1)
sound_fields bytes n h small room fault.Magic q b = late n q (λ le. b.breaks.1 (h.magic_is (there bytes n 4 q b.breaks.0 le b.there)))
sound_fields bytes n h small room fault.Compressed q b = late n q (λ le.
    let flags = h.flags (there bytes n 8 q b.breaks.0 le b.there) in
    let odd : 0 % 2 ≡ 1 = subst (λ (x : ℕ). x % 2 ≡ 1) flags b.breaks.1 in
    absurd cc)
sound_fields bytes n h small room fault.UnknownFlags q b = late n q (λ le. b.breaks.2 (h.flags (there bytes n 8 q b.breaks.0 le b.there)))
sound_fields bytes n h small room fault.PageSize q b = late n q (λ le. b.breaks.1 (h.page_size (there bytes n 12 q b.breaks.0 le b.there)))
sound_fields bytes n h small room fault.Commit q b = late n q (λ le. b.breaks.1 (h.commit (there bytes n 16 q b.breaks.0 le b.there)))
sound_fields bytes n h small room fault.Txid q b = late n q (λ le. elim b.breaks [
  | inl low ↦ absurd (omega (arith, low.1, h.min (there bytes n 24 q low.0 le b.there)))
  | inr less ↦ absurd (omega (arith, less.1, h.max (there bytes n 32 q less.0 le b.there)))
])
sound_fields bytes n h small room fault.PreSum q b = late n q (λ le.
    let is = there bytes n 48 q b.breaks.0 le b.there in
    elim b.breaks.1 [
      | inl snapshot ↦ absurd (snapshot.1 (h.snapshot_pre is snapshot.0))
      | inr delta ↦ absurd (omega (arith, delta.1, h.delta_pre is delta.0))
    ])
sound_fields bytes n h small room fault.PageOrder q b = omega (arith, b.breaks.2)
sound_fields bytes n h small room fault.PageRange q b = omega (arith, b.breaks.2)
sound_fields bytes n h small room fault.NotWhole q b = omega (arith, b.breaks.2)
sound_fields bytes n h small room fault.PostSum q b = omega (arith, b.breaks.2)
sound_fields bytes n h small room (fault.FileSum want got) q b = omega (arith, b.breaks.2)
sound_fields bytes n h small room fault.Tail q b = omega (arith, b.breaks.2)
sound_fields bytes n h small room fault.Short q b = omega (arith, b.breaks.0)
sound_fields bytes n h small room fault.NoMemory q b = absurd b.breaks

-- a rule that is broken behind fields that meet theirs is the earliest
pub earliest_field : (bytes : List ℕ) (broken : LtxFault) (n : ℕ) → HasSoundFields bytes n → n ≤ 103 → n ≤ length bytes → IsBroken bytes broken (n + 1) → IsEarliest bytes broken
earliest_field bytes broken n h small room b = record { place = n + 1; broken = b; earliest = sound_fields bytes n h small room }

-- bytes that end in a sound header are short
pub short_header : (bytes : List ℕ) → HasSoundFields bytes 103 → length bytes < 100 → IsEarliest bytes fault.Short
short_header bytes h cut = record {
  place = length bytes + 1;
  broken = record { breaks = (refl, λ k block. omega (arith, block.there)); there = omega arith };
  earliest = sound_fields bytes (length bytes) here (omega arith) (omega arith);
}
  where
    wider : (e : ℕ) → IsThere bytes (length bytes) e → IsThere bytes 103 e
    wider e is = record { within = omega (arith, is.there); there = is.there }

    here : HasSoundFields bytes (length bytes)
    here = record {
      magic_is = λ is. h.magic_is (wider 4 is);
      flags = λ is. h.flags (wider 8 is);
      page_size = λ is. h.page_size (wider 12 is);
      commit = λ is. h.commit (wider 16 is);
      min = λ is. h.min (wider 24 is);
      max = λ is. h.max (wider 32 is);
      snapshot_pre = λ is. h.snapshot_pre (wider 48 is);
      delta_pre = λ is. h.delta_pre (wider 48 is);
    }

-- a sound page size is sound by itself
pub start_sound : (bytes : List ℕ) → HasSoundFields bytes 15 → 12 ≤ length bytes → IsSoundBefore bytes 13
start_sound bytes h long = sound_fields bytes 12 here (omega arith) long
  where
    wider : (e : ℕ) → IsThere bytes 12 e → IsThere bytes 15 e
    wider e is = record { within = omega (arith, is.within); there = is.there }

    here : HasSoundFields bytes 12
    here = record {
      magic_is = λ is. h.magic_is (wider 4 is);
      flags = λ is. h.flags (wider 8 is);
      page_size = λ is. h.page_size (wider 12 is);
      commit = λ is. h.commit (wider 16 is);
      min = λ is. h.min (wider 24 is);
      max = λ is. h.max (wider 32 is);
      snapshot_pre = λ is. h.snapshot_pre (wider 48 is);
      delta_pre = λ is. h.delta_pre (wider 48 is);
    }

-- pages within the limit are not past it
pub within_not_past : (limit : ℕ) (bytes : List ℕ) → IsWithin limit bytes → IsPastLimit limit bytes → ⊥
within_not_past limit bytes within past = omega (arith, past.past, within past.there)

start_place : (bytes : List ℕ) (f : LtxFault) (q : ℕ) → IsOfStart f → Breaks bytes f q → q ≤ 12
start_place bytes fault.Magic q start rule = omega (arith, rule.0)
start_place bytes fault.Compressed q start rule = omega (arith, rule.0)
start_place bytes fault.UnknownFlags q start rule = omega (arith, rule.0)
start_place bytes fault.PageSize q start rule = omega (arith, rule.0)
start_place bytes fault.Commit q start rule = absurd start
start_place bytes fault.Txid q start rule = absurd start
start_place bytes fault.PreSum q start rule = absurd start
start_place bytes fault.PageOrder q start rule = absurd start
start_place bytes fault.PageRange q start rule = absurd start
start_place bytes fault.NotWhole q start rule = absurd start
start_place bytes fault.PostSum q start rule = absurd start
start_place bytes (fault.FileSum want got) q start rule = absurd start
start_place bytes fault.Tail q start rule = absurd start
start_place bytes fault.Short q start rule = absurd start
start_place bytes fault.NoMemory q start rule = absurd start

-- a fault up to the page size comes before the limit
pub start_refused : (limit : ℕ) (bytes : List ℕ) (f : LtxFault) → IsOfStart f → IsFound f → IsEarliest bytes f → IsRefusedWithin limit bytes f
start_refused limit bytes f start found earliest = (
  found,
  inl (earliest, λ past. omega (arith, past.sound f earliest.place earliest.broken, start_place bytes f earliest.place start earliest.broken.breaks)),
)

-- a fault behind the page size stands within the limit
pub rest_refused : (limit : ℕ) (bytes : List ℕ) (f : LtxFault) → IsWithin limit bytes → IsFound f → IsEarliest bytes f → IsRefusedWithin limit bytes f
rest_refused limit bytes f within found earliest = (found, inl (earliest, within_not_past limit bytes within))
