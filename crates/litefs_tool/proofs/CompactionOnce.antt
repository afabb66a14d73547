-- Compacting files comes to one answer.
use Rattle.std.proofs.Common.{◌≡◌, ℕ, ◌-◌, ◌<◌, ◌≤◌, ◌⊎◌, Some, List, [], ◌∷◌, ◌++◌, length, Result, Ok, Err, refl, sym, ap, subst, inl, inr, ◌∙◌, arith, length-append, append_assoc}
use Rattle.std.specs.List.{slice_get}
use Rattle.std.proofs.lemmas.Bool.{cases_lt}
use Rattle.std.proofs.lemmas.Option.{slice_get_within}
use Rattle.lf_sqlite_pages.specs.Change.{PageChange}
use Rattle.ltx_codec.specs.Fields.{AreBytes}
use Rattle.ltx_codec.specs.Format.{file_encoding, no_meaning}
use Rattle.ltx_codec.specs.Sums.{sum_of_writes}
use Rattle.ltx_codec.specs.Places.{IsBroken, IsEarliest, StandsInside}
use Rattle.ltx_codec.specs.declared.file.Ltx.{Ltx}
use Rattle.ltx_codec.specs.declared.header.Header.{Header}
use Rattle.ltx_codec.specs.declared.fault.LtxFault.{LtxFault}
use Rattle.ltx_codec.specs.declared.fault.LtxFault.TheVariants as fault
use Rattle.ltx_codec.specs.Format.{IsLtx}
use Rattle.ltx_compact.specs.Compaction.{Compacts, header_of, change_of}
use Rattle.ltx_compact.specs.Joining.{Joins, DoNotJoin, AllJoin, FirstFails}
use Rattle.ltx_compact.specs.declared.fault.CompactFault.{CompactFault}
use Rattle.ltx_compact.specs.declared.fault.CompactFault.TheVariants as list
use Rattle.litefs_tool.specs.Compaction.{AreEncodings, BreaksOff, Become, BecomesEncoding, SaysOtherSum, RefusesToCompact, CompactsTo}
use Rattle.litefs_tool.specs.declared.compact_refusal.CompactRefusal.{CompactRefusal}
use Rattle.litefs_tool.specs.declared.compact_refusal.CompactRefusal.TheVariants as refusal
use Rattle.litefs_tool.proofs.AnswerLemmas.{OneReading, BreaksNoRule, OneFault, bytes_behind, no_fault, same_rest}

some_once : {X : Type 0} (x y : X) → Some x ≡ Some y → x ≡ y
some_once x y same = cc

-- a file that joins has no reason against it
joins_or_fails : (before file : Ltx) (place : ℕ) (why : CompactFault) → Joins before file → DoNotJoin before file place why → ⊥
joins_or_fails before file place (list.Gap at) joins fails = fails.1 joins.transactions
joins_or_fails before file place (list.SumGap at want got) joins fails = fails.4 (fails.2 ∙ sym joins.sum ∙ sym fails.3)
joins_or_fails before file place (list.PageSize at) joins fails = fails.3 joins.page_size
joins_or_fails before file place list.Empty joins fails = fails
joins_or_fails before file place list.NoMemory joins fails = fails

-- a file does not join for one reason
fails_for_one : (before file : Ltx) (place : ℕ) (why other : CompactFault) → DoNotJoin before file place why → DoNotJoin before file place other → why ≡ other
fails_for_one before file place list.Empty other one two = absurd one
fails_for_one before file place list.NoMemory other one two = absurd one
fails_for_one before file place why list.Empty one two = absurd two
fails_for_one before file place why list.NoMemory one two = absurd two
fails_for_one before file place (list.Gap at) (list.Gap there) one two = ap (λ (p : ℕ). list.Gap p) (one.0 ∙ sym two.0)
fails_for_one before file place (list.Gap at) (list.SumGap there want got) one two = absurd (one.1 two.1)
fails_for_one before file place (list.Gap at) (list.PageSize there) one two = absurd (one.1 two.1)
fails_for_one before file place (list.SumGap at want got) (list.Gap there) one two = absurd (two.1 one.1)
fails_for_one before file place (list.SumGap at want got) (list.SumGap there wants gets) one two =
    let places : at ≡ there = one.0 ∙ sym two.0 in
    let want_same : want ≡ wants = one.2 ∙ sym two.2 in
    let got_same : got ≡ gets = one.3 ∙ sym two.3 in
    cc
fails_for_one before file place (list.SumGap at want got) (list.PageSize there) one two = absurd (one.4 (one.2 ∙ sym two.2 ∙ sym one.3))
fails_for_one before file place (list.PageSize at) (list.Gap there) one two = absurd (two.1 one.1)
fails_for_one before file place (list.PageSize at) (list.SumGap there want got) one two = absurd (two.4 (two.2 ∙ sym one.2 ∙ sym two.3))
fails_for_one before file place (list.PageSize at) (list.PageSize there) one two = ap (λ (p : ℕ). list.PageSize p) (one.0 ∙ sym two.0)

-- the place of the first file that does not join is in the list
place_within : (files : List Ltx) (why : CompactFault) → (fails : FirstFails files why) → fails.place ≤ length files
place_within files why fails =
    let second = fails.stand.second in
    omega (arith, second, slice_get_within files (fails.place - 1) fails.file fails.stand.file_is)

all_or_fails : (files : List Ltx) (why : CompactFault) → AllJoin files → FirstFails files why → ⊥
all_or_fails files why all fails =
    joins_or_fails fails.before fails.file fails.place why (all.join fails.place fails.before fails.file (place_within files why fails) fails.stand) fails.fails

not_sooner : (files : List Ltx) (why other : CompactFault) (a : FirstFails files why) (b : FirstFails files other) → a.place < b.place → ⊥
not_sooner files why other a b sooner =
    joins_or_fails a.before a.file a.place why (b.joined a.place a.before a.file (omega (arith, sooner)) a.stand) a.fails

fails_once : (files : List Ltx) (why other : CompactFault) → FirstFails files why → FirstFails files other → why ≡ other
fails_once files why other a b = elim (cases_lt a.place b.place) [
  | inl sooner ↦ absurd (not_sooner files why other a b sooner)
  | inr not ↦ elim (cases_lt b.place a.place) [
    | inl later ↦ absurd (not_sooner files other why b a later)
    | inr nor ↦
        let places : a.place ≡ b.place = omega (arith, not, nor) in
        let befores : a.before ≡ b.before = some_once a.before b.before (sym a.stand.before_is ∙ ap (λ (p : ℕ). slice_get files (p - 2)) places ∙ b.stand.before_is) in
        let same : a.file ≡ b.file = some_once a.file b.file (sym a.stand.file_is ∙ ap (λ (p : ℕ). slice_get files (p - 1)) places ∙ b.stand.file_is) in
        let moved : DoNotJoin b.before b.file b.place why =
        subst (λ (x : Ltx). DoNotJoin x b.file b.place why) befores (subst (λ (x : Ltx). DoNotJoin a.before x b.place why) same (subst (λ (p : ℕ). DoNotJoin a.before a.file p why) places a.fails))
        in
        fails_for_one b.before b.file b.place why other moved b.fails
  ]
]

-- why files do not become one, where memory lasts
abbrev WhyNot : List Ltx → CompactFault → Type 0
WhyNot files why = (why ≡ list.Empty) × (files ≡ []) ⊎ FirstFails files why

empty_or_fails : (files : List Ltx) (why : CompactFault) → files ≡ [] → FirstFails files why → ⊥
empty_or_fails files why none fails =
    let second = fails.stand.second in
    omega (arith, ap length none, second, place_within files why fails)

why_once : (files : List Ltx) (why other : CompactFault) → WhyNot files why → WhyNot files other → why ≡ other
why_once files why other one two = elim one [
  | inl empty ↦ elim two [
    | inl none ↦ empty.0 ∙ sym none.0
    | inr fails ↦ absurd (empty_or_fails files other empty.1 fails)
  ]
  | inr fails ↦ elim two [
    | inl none ↦ absurd (empty_or_fails files why none.1 fails)
    | inr again ↦ fails_once files why other fails again
  ]
]

all_or_why : (files : List Ltx) (why : CompactFault) → AllJoin files → WhyNot files why → ⊥
all_or_why files why all not = elim not [
  | inl empty ↦ let some = all.some in omega (arith, some, ap length empty.1)
  | inr fails ↦ all_or_fails files why all fails
]

why_of : (bytes : List ℕ) (why : CompactFault) → RefusesToCompact bytes (refusal.List why) → (files : List Ltx) × AreEncodings bytes files × WhyNot files why
why_of bytes list.Empty refuses = (refuses.0, refuses.1, inl (refl, refuses.2))
why_of bytes (list.Gap at) refuses = (refuses.0, refuses.1, inr refuses.2)
why_of bytes (list.SumGap at want got) refuses = (refuses.0, refuses.1, inr refuses.2)
why_of bytes (list.PageSize at) refuses = (refuses.0, refuses.1, inr refuses.2)
why_of bytes list.NoMemory refuses = absurd refuses

abbrev made : List Ltx → Ltx → Ltx → Ltx
made files first last = record { header = header_of first last; change = change_of files last; post = last.post }

abbrev ltx_of : Header → PageChange → ℕ → Ltx
ltx_of header change post = record { header = header; change = change; post = post }

is_made : (files : List Ltx) (file : Ltx) → (c : Compacts files file) → file ≡ made files c.first c.last
is_made files file c =
    ap (λ (h : Header). ltx_of h file.change file.post) c.header
    ∙ ap (λ (x : PageChange). ltx_of (header_of c.first c.last) x file.post) c.change
    ∙ ap (λ (p : ℕ). ltx_of (header_of c.first c.last) (change_of files c.last) p) c.post

-- files become one file
compacts_once : (files : List Ltx) (one two : Ltx) → Compacts files one → Compacts files two → one ≡ two
compacts_once files one two a b =
    is_made files one a
    ∙ ap (λ (f : Ltx). made files f a.last) (some_once a.first b.first (sym a.is_first ∙ b.is_first))
    ∙ ap (λ (l : Ltx). made files b.first l) (some_once a.last b.last (sym a.is_last ∙ b.is_last))
    ∙ sym (is_made files two b)

module _ (reading : OneReading) (sound : BreaksNoRule) (one_fault : OneFault) where
  -- no bytes are no encoding
  no_encoding : (bytes encoding rest : List ℕ) (file : Ltx) → AreBytes bytes → bytes ≡ [] → bytes ≡ encoding ++ rest → IsLtx encoding file → ⊥
  no_encoding bytes encoding rest file small none is whole =
      let short : IsBroken [] fault.Short 1 = record { breaks = (refl, λ k block. omega arith); there = omega arith } in
      let moved : IsBroken (encoding ++ rest) fault.Short 1 = subst (λ (bs : List ℕ). IsBroken bs fault.Short 1) (sym none ∙ is) short in
      let tail : fault.Short ≡ fault.Tail = (sound encoding rest file fault.Short 1 (subst AreBytes is small) whole moved).0 in
      absurd cc

  -- bytes are the encodings of one list of files
  encodings_once : (bytes : List ℕ) (files others : List Ltx) → AreBytes bytes → AreEncodings bytes files → AreEncodings bytes others → files ≡ others
  encodings_once bytes [] [] small one two = refl
  encodings_once bytes [] (other ∷ others) small one two = absurd (no_encoding bytes two.0 two.1 other small one two.2 two.3)
  encodings_once bytes (file ∷ files) [] small one two = absurd (no_encoding bytes one.0 one.1 file small two one.2 one.3)
  encodings_once bytes (file ∷ files) (other ∷ others) small one two =
      let joined = sym one.2 ∙ two.2 in
      let both = reading one.0 two.0 one.1 two.1 file other one.3 two.3 joined in
      let first : file ≡ other = both.1 in
      let rests : one.1 ≡ two.1 = same_rest one.0 two.0 one.1 two.1 both.0 joined in
      let again : files ≡ others =
      encodings_once one.1 files others (bytes_behind bytes one.0 one.1 small one.2) one.4 (subst (λ (bs : List ℕ). AreEncodings bs others) (sym rests) two.4)
      in
      cc

  -- bytes that break off are no encodings of files
  breaks_or_encodings : (bytes prefix rest : List ℕ) (files others : List Ltx) (f : LtxFault) → AreBytes bytes → bytes ≡ prefix ++ rest → AreEncodings prefix files →
      0 < length rest → IsEarliest rest f → StandsInside f → AreEncodings bytes others → ⊥
  breaks_or_encodings bytes prefix rest files [] f small is encodings some first inside all =
      omega (arith, ap length (sym all ∙ is), length-append prefix rest, some)
  breaks_or_encodings bytes prefix rest [] (other ∷ others) f small is none some first inside all =
      let same : bytes ≡ rest = is ∙ ap (λ (l : List ℕ). l ++ rest) none in
      no_fault reading sound one_fault bytes all.0 all.1 other f small all.2 all.3 (subst (λ (bs : List ℕ). IsEarliest bs f) (sym same) first) inside
  breaks_or_encodings bytes prefix rest (file ∷ files) (other ∷ others) f small is encodings some first inside all =
      let split : bytes ≡ encodings.0 ++ (encodings.1 ++ rest) = is ∙ ap (λ (l : List ℕ). l ++ rest) encodings.2 ∙ append_assoc encodings.0 encodings.1 rest in
      let joined = sym split ∙ all.2 in
      let both = reading encodings.0 all.0 (encodings.1 ++ rest) all.1 file other encodings.3 all.3 joined in
      let rests : encodings.1 ++ rest ≡ all.1 = same_rest encodings.0 all.0 (encodings.1 ++ rest) all.1 both.0 joined in
      breaks_or_encodings (encodings.1 ++ rest) encodings.1 rest files others f (bytes_behind bytes encodings.0 (encodings.1 ++ rest) small split) refl encodings.4 some first inside
      (subst (λ (bs : List ℕ). AreEncodings bs others) (sym rests) all.4)

  -- bytes break off with one fault
  breaks_once : (bytes prefix rest other behind : List ℕ) (files others : List Ltx) (f g : LtxFault) → AreBytes bytes →
      bytes ≡ prefix ++ rest → AreEncodings prefix files → IsEarliest rest f → StandsInside f →
      bytes ≡ other ++ behind → AreEncodings other others → IsEarliest behind g → StandsInside g → f ≡ g
  breaks_once bytes prefix rest other behind [] [] f g small is none first inside is_too none_too first_too inside_too =
      let rests : rest ≡ behind = sym (is ∙ ap (λ (l : List ℕ). l ++ rest) none) ∙ (is_too ∙ ap (λ (l : List ℕ). l ++ behind) none_too) in
      one_fault behind f g (subst (λ (bs : List ℕ). IsEarliest bs f) rests first) first_too
  breaks_once bytes prefix rest other behind [] (file ∷ files) f g small is none first inside is_too encodings first_too inside_too =
      let same : bytes ≡ rest = is ∙ ap (λ (l : List ℕ). l ++ rest) none in
      let split : bytes ≡ encodings.0 ++ (encodings.1 ++ behind) = is_too ∙ ap (λ (l : List ℕ). l ++ behind) encodings.2 ∙ append_assoc encodings.0 encodings.1 behind in
      absurd (no_fault reading sound one_fault bytes encodings.0 (encodings.1 ++ behind) file f small split encodings.3 (subst (λ (bs : List ℕ). IsEarliest bs f) (sym same) first) inside)
  breaks_once bytes prefix rest other behind (file ∷ files) [] f g small is encodings first inside is_too none first_too inside_too =
      let same : bytes ≡ behind = is_too ∙ ap (λ (l : List ℕ). l ++ behind) none in
      let split : bytes ≡ encodings.0 ++ (encodings.1 ++ rest) = is ∙ ap (λ (l : List ℕ). l ++ rest) encodings.2 ∙ append_assoc encodings.0 encodings.1 rest in
      absurd (no_fault reading sound one_fault bytes encodings.0 (encodings.1 ++ rest) file g small split encodings.3 (subst (λ (bs : List ℕ). IsEarliest bs g) (sym same) first_too) inside_too)
  breaks_once bytes prefix rest other behind (file ∷ files) (second ∷ others) f g small is encodings first inside is_too encodings_too first_too inside_too =
      let split : bytes ≡ encodings.0 ++ (encodings.1 ++ rest) = is ∙ ap (λ (l : List ℕ). l ++ rest) encodings.2 ∙ append_assoc encodings.0 encodings.1 rest in
      let split_too : bytes ≡ encodings_too.0 ++ (encodings_too.1 ++ behind) = is_too ∙ ap (λ (l : List ℕ). l ++ behind) encodings_too.2 ∙ append_assoc encodings_too.0 encodings_too.1 behind in
      let joined = sym split ∙ split_too in
      let both = reading encodings.0 encodings_too.0 (encodings.1 ++ rest) (encodings_too.1 ++ behind) file second encodings.3 encodings_too.3 joined in
      let rests : encodings.1 ++ rest ≡ encodings_too.1 ++ behind = same_rest encodings.0 encodings_too.0 (encodings.1 ++ rest) (encodings_too.1 ++ behind) both.0 joined in
      breaks_once (encodings.1 ++ rest) encodings.1 rest encodings_too.1 behind files others f g (bytes_behind bytes encodings.0 (encodings.1 ++ rest) small split) refl encodings.4 first inside rests encodings_too.4 first_too inside_too

  breaks_or : (bytes : List ℕ) (f : LtxFault) (files : List Ltx) → AreBytes bytes → BreaksOff bytes f → AreEncodings bytes files → ⊥
  breaks_or bytes f files small off encodings = breaks_or_encodings bytes off.prefix off.rest off.files files f small off.split off.encodings off.more off.broken off.inside encodings

  become_once : (bytes : List ℕ) (one two : Ltx) → AreBytes bytes → Become bytes one → Become bytes two → one ≡ two
  become_once bytes one two small a b =
      compacts_once b.files one two (subst (λ (fs : List Ltx). Compacts fs one) (encodings_once bytes a.files b.files small a.encodings b.encodings) a.one) b.one

  become_or_why : (bytes : List ℕ) (file : Ltx) (why : CompactFault) → AreBytes bytes → Become bytes file → RefusesToCompact bytes (refusal.List why) → ⊥
  become_or_why bytes file why small a refuses =
      let not = why_of bytes why refuses in
      all_or_why not.0 why (subst AllJoin (encodings_once bytes a.files not.0 small a.encodings not.1) a.joined) not.2

  lists_once : (bytes : List ℕ) (why other : CompactFault) → AreBytes bytes → RefusesToCompact bytes (refusal.List why) → RefusesToCompact bytes (refusal.List other) → why ≡ other
  lists_once bytes why other small one two =
      let a = why_of bytes why one in
      let b = why_of bytes other two in
      why_once b.0 why other (subst (λ (fs : List Ltx). WhyNot fs why) (encodings_once bytes a.0 b.0 small a.1 b.1) a.2) b.2

  becomes_or_sum : (bytes out : List ℕ) (want got : ℕ) → AreBytes bytes → BecomesEncoding bytes out → RefusesToCompact bytes (refusal.SumDiffers want got) → ⊥
  becomes_or_sum bytes out want got small one two =
      let same : one.file ≡ two.0 = become_once bytes one.file two.0 small one.become two.1 in
      let says : SaysOtherSum one.file want got = subst (λ (x : Ltx). SaysOtherSum x want got) (sym same) two.2 in
      says.differ (says.want_is ∙ one.is_file.valid.post.snapshot says.snapshot ∙ sym says.got_is)

  sums_once : (bytes : List ℕ) (want got wants gets : ℕ) → AreBytes bytes → RefusesToCompact bytes (refusal.SumDiffers want got) →
      RefusesToCompact bytes (refusal.SumDiffers wants gets) → refusal.SumDiffers want got ≡ refusal.SumDiffers wants gets
  sums_once bytes want got wants gets small one two =
      let same : one.0 ≡ two.0 = become_once bytes one.0 two.0 small one.1 two.1 in
      let want_same : want ≡ wants = one.2.want_is ∙ ap (λ (x : Ltx). x.post) same ∙ sym two.2.want_is in
      let got_same : got ≡ gets = one.2.got_is ∙ ap (λ (x : Ltx). sum_of_writes x.change.pages) same ∙ sym two.2.got_is in
      cc

  pub one_compaction-of : (bytes : List ℕ) (answer other : Result (List ℕ) CompactRefusal) → AreBytes bytes → CompactsTo bytes answer → CompactsTo bytes other → answer ≡ other
  one_compaction-of bytes (Err refusal.NoMemory) other small one two = absurd one
  one_compaction-of bytes answer (Err refusal.NoMemory) small one two = absurd two
  one_compaction-of bytes (Ok out) (Ok again) small one two =
      ap (λ (t : List ℕ). Ok t) (one.encoding ∙ ap (λ (x : Ltx). file_encoding x no_meaning) (become_once bytes one.file two.file small one.become two.become) ∙ sym two.encoding)
  one_compaction-of bytes (Ok out) (Err (refusal.Ltx f)) small one two = absurd (breaks_or bytes f one.become.files small two one.become.encodings)
  one_compaction-of bytes (Ok out) (Err (refusal.List why)) small one two = absurd (become_or_why bytes one.file why small one.become two)
  one_compaction-of bytes (Ok out) (Err (refusal.SumDiffers want got)) small one two = absurd (becomes_or_sum bytes out want got small one two)
  one_compaction-of bytes (Err (refusal.Ltx f)) (Ok out) small one two = absurd (breaks_or bytes f two.become.files small one two.become.encodings)
  one_compaction-of bytes (Err (refusal.Ltx f)) (Err (refusal.Ltx g)) small one two =
      ap (λ (x : LtxFault). Err (refusal.Ltx x)) (breaks_once bytes one.prefix one.rest two.prefix two.rest one.files two.files f g small one.split one.encodings one.broken one.inside two.split two.encodings two.broken two.inside)
  one_compaction-of bytes (Err (refusal.Ltx f)) (Err (refusal.List why)) small one two =
      let not = why_of bytes why two in
      absurd (breaks_or bytes f not.0 small one not.1)
  one_compaction-of bytes (Err (refusal.Ltx f)) (Err (refusal.SumDiffers want got)) small one two = absurd (breaks_or bytes f two.1.files small one two.1.encodings)
  one_compaction-of bytes (Err (refusal.List why)) (Ok out) small one two = absurd (become_or_why bytes two.file why small two.become one)
  one_compaction-of bytes (Err (refusal.List why)) (Err (refusal.Ltx g)) small one two =
      let not = why_of bytes why one in
      absurd (breaks_or bytes g not.0 small two not.1)
  one_compaction-of bytes (Err (refusal.List why)) (Err (refusal.List other)) small one two = ap (λ (x : CompactFault). Err (refusal.List x)) (lists_once bytes why other small one two)
  one_compaction-of bytes (Err (refusal.List why)) (Err (refusal.SumDiffers want got)) small one two = absurd (become_or_why bytes two.0 why small two.1 one)
  one_compaction-of bytes (Err (refusal.SumDiffers want got)) (Ok out) small one two = absurd (becomes_or_sum bytes out want got small two one)
  one_compaction-of bytes (Err (refusal.SumDiffers want got)) (Err (refusal.Ltx g)) small one two = absurd (breaks_or bytes g one.1.files small two one.1.encodings)
  one_compaction-of bytes (Err (refusal.SumDiffers want got)) (Err (refusal.List why)) small one two = absurd (become_or_why bytes one.0 why small one.1 two)
  one_compaction-of bytes (Err (refusal.SumDiffers want got)) (Err (refusal.SumDiffers wants gets)) small one two = ap (λ (x : CompactRefusal). Err x) (sums_once bytes want got wants gets small one two)
