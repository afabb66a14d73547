-- A snapshot gets its name once all other files are gone.
use Rattle.std.proofs.Common.{◌≡◌, ◌∙◌, ◌⊎◌, inl, inr, ℕ, ◌-◌, Bool, false, List, [], ◌∷◌, Option, None, Some, IsSome, Result, refl, sym, ap, subst, arith}
use Rattle.std.specs.Prelude.{◌==◌, ◌&&◌, if◌then◌else◌}
use Rattle.std.proofs.lemmas.Bool.{cases_Bool, and_parts, eqb-true}
use Rattle.lf_disk.specs.declared.name.FileName.{FileName}
use Rattle.lf_disk.specs.declared.name.FileName.TheVariants.{Staged, Snapshot, Ltx as LtxName}
use Rattle.lf_disk.specs.Folder.{Folder, bytes_of, same_name, renamed, SameBut}
use Rattle.lf_disk.specs.Names.{same_name-refl}
use Rattle.lf_disk.specs.Change.{Step, Perhaps, Renames}
use Rattle.lf_disk.specs.History.{History, now, Ticks, Moves, EachMoment, IsSettledBut}
use Rattle.lf_disk.proofs.Moments.{started, goes_on}
use Rattle.ltx_codec.specs.Format.{IsLtx}
use Rattle.ltx_codec.specs.Positions.{before, nowhere}
use Rattle.ltx_codec.specs.declared.file.Ltx.{Ltx}
use Rattle.ltx_backup.specs.Finishing.{AllNamed, Waits, HoldsOnly, IsAlone}
use Rattle.ltx_backup.specs.Levels.{HasPast}
use Rattle.ltx_backup.specs.Stops.{Stops}
use Rattle.ltx_backup.specs.Trimming.{IsTrimmed, HasTrimmed}
use Rattle.ltx_backup.specs.declared.entry.Entries.{Entries}
use Rattle.ltx_backup.specs.declared.entry.Entry.{Entry}
use Rattle.ltx_backup.proofs.Holding.{has_none, has_same}
use Rattle.ltx_backup.proofs.Turns.{apart, weaker, and_then}

-- a folder with this file alone
pub record HasOnly (file : Ltx) (f : Folder) : Type 0 where
  pub lows : HasPast 0 (file ∷ []) f
  pub no_snapshot : f Snapshot ≡ None

-- a file from the first transaction on begins at the start
pub from_nowhere : (file : Ltx) (encoding : List ℕ) → IsLtx encoding file → file.header.min ≡ 1 → before file ≡ nowhere
from_nowhere file encoding is first =
    let at : file.header.min - 1 ≡ 0 = omega (arith, first) in
    let pre : file.header.pre ≡ 0 = is.valid.header.snapshot_pre first in
    λ i. record { txid = at i; sum = pre i }

module _ (file : Ltx) (f g : Folder) (encoding : List ℕ) (there : f Snapshot ≡ Some encoding) (is : IsLtx encoding file) (others : HasPast 0 [] f)
    (renames : Renames Snapshot (LtxName file.header.min file.header.max) f g) where
  named : g (LtxName file.header.min file.header.max) ≡ Some encoding
  named =
      renames (LtxName file.header.min file.header.max)
      ∙ ap (λ (x : Bool). if x then f Snapshot else if false then None else f (LtxName file.header.min file.header.max)) (same_name-refl (LtxName file.header.min file.header.max))
      ∙ there

  pub renamed_only : HasOnly file g
  renamed_only = record {
    lows = record {
      stand = (subst (λ (o : Option (List ℕ)). IsLtx (bytes_of o) file) (sym named) is, tt);
      only = λ a b above some. elim (cases_Bool (a == file.header.min && b == file.header.max)) [
        | inl same ↦
            let both = and_parts (a == file.header.min) (b == file.header.max) same in
            inl (sym (eqb-true a file.header.min both.0), sym (eqb-true b file.header.max both.1))
        | inr differs ↦
            let stays : g (LtxName a b) ≡ f (LtxName a b) =
            renames (LtxName a b) ∙ ap (λ (x : Bool). if x then f Snapshot else f (LtxName a b)) differs in
            absurd (others.only a b above (subst (λ (o : Option (List ℕ)). IsSome o) stays some))
      ];
    };
    no_snapshot = renames Snapshot;
  }

-- folders that are the same but for what is staged are so after the snapshot got its name
renamed_same : (name : FileName) (f g x y : Folder) → SameBut Staged f g → Renames Snapshot name f x → Renames Snapshot name g y → SameBut Staged x y
renamed_same name f g x y same one other n differs = other n ∙ both ∙ sym (one n)
  where
    both : renamed Snapshot name g n ≡ renamed Snapshot name f n
    both = λ i. if same_name n name then same Snapshot refl i else if same_name n Snapshot then None else same n differs i

pub renamed_settled : (name : FileName) (h new : History) → IsSettledBut Staged h → Moves (Renames Snapshot name) (Renames Snapshot name) h new → IsSettledBut Staged new
renamed_settled name h new settled moves c may =
    let from = moves.left c may in
    renamed_same name (now h) from.0 (now new) c (settled from.0 from.1) moves.seen from.2

-- the snapshot decides
pub held_by_snapshot : (file : Ltx) (entry : Entry) (number : ℕ) (f a b c : Folder) → Waits file entry f → IsTrimmed number f a → HoldsOnly file a b c
held_by_snapshot file entry number f a b c waits trimmed = inr (record {
  file = file;
  encoding = waits.encoding;
  there = trimmed.snapshot ∙ waits.there;
  is = waits.is;
  first = waits.first;
  alone = refl;
})

-- the file decides
pub held_alone : (file : Ltx) (encoding : List ℕ) (a b c : Folder) → IsLtx encoding file → file.header.min ≡ 1 → HasOnly file a → HasPast 0 [] b → HasPast 0 [] c → HoldsOnly file a b c
held_alone file encoding a b c is first low middle high = inl (record {
  no_snapshot = low.no_snapshot;
  highs = high;
  middles = middle;
  lows = low.lows;
  joined = (from_nowhere file encoding is first, tt);
})

-- the rename of the snapshot, of which a stop leaves it undone or done
module _ (file : Ltx) (entry : Entry) (before : Folder) (names : List Entry) (h : History) (waits : Waits file entry before) (done : HasTrimmed 18446744073709551615 names before h)
    (none : HasPast 0 [] (now h)) where
  waiting : (c : Folder) → SameBut Staged (now h) c → c Snapshot ≡ Some waits.encoding
  waiting c same = same Snapshot refl ∙ done.trimmed.snapshot ∙ waits.there

  abbrev pub Either : Folder → Type 0
  Either c = (c Snapshot ≡ Some waits.encoding) ⊎ HasOnly file c

  only_in : (d c : Folder) → SameBut Staged (now h) d → Renames Snapshot (LtxName file.header.min file.header.max) d c → HasOnly file c
  only_in d c same renames = renamed_only file d c waits.encoding (waiting d same) waits.is (has_same 0 [] (now h) d (λ a b. same (LtxName a b) refl) none) renames

  pub renames : {T E : Type 0} (result : Result T E) (new : History) (sees : Step) → Ticks result h new
      → Moves sees (Perhaps (Renames Snapshot (LtxName file.header.min file.header.max))) h new → EachMoment h new Either
  renames result new sees ticks moves = goes_on result h h new Either (started h Either (λ c may. inl (waiting c (done.settled c may)))) ticks
      (λ c may. let from = moves.left c may in
      elim from.2 [
        | inl same ↦ inl (same Snapshot ∙ waiting from.0 (done.settled from.0 from.1))
        | inr renamed ↦ inr (only_in from.0 c (done.settled from.0 from.1) renamed)
      ])

  pub has_renamed : {T E : Type 0} (result : Result T E) (new : History) → Ticks result h new
      → Moves (Renames Snapshot (LtxName file.header.min file.header.max)) (Renames Snapshot (LtxName file.header.min file.header.max)) h new → EachMoment h new Either
  has_renamed result new ticks moves = goes_on result h h new Either (started h Either (λ c may. inl (waiting c (done.settled c may)))) ticks
      (λ c may. let from = moves.left c may in inr (only_in from.0 c (done.settled from.0 from.1) from.2))

  module _ (new : History) (moves : Moves (Renames Snapshot (LtxName file.header.min file.header.max)) (Renames Snapshot (LtxName file.header.min file.header.max)) h new) where
    pub alone : HasOnly file (now new)
    alone = only_in (now h) (now new) (λ n differs. refl) moves.seen

    pub settled : IsSettledBut Staged new
    settled c may =
        let from = moves.left c may in
        renamed_same (LtxName file.header.min file.header.max) (now h) from.0 (now new) c (done.settled from.0 from.1) moves.seen from.2

  pub held_either : (a b c : Folder) → Either a × HasPast 0 [] b × HasPast 0 [] c → HoldsOnly file a b c
  held_either a b c either = elim either.0 [
    | inl there ↦ inr (record { file = file; encoding = waits.encoding; there = there; is = waits.is; first = waits.first; alone = refl })
    | inr only ↦ held_alone file waits.encoding a b c waits.is waits.first only either.1 either.2
  ]

-- the whole way
module _ (file : Ltx) (entry : Entry) (names : Entries) (l m h l_mid m_mid h_mid : History) (waits : Waits file entry (now l)) where
  pub tidied_stops : EachMoment l l_mid (IsTrimmed 18446744073709551615 (now l)) → EachMoment m m_mid (IsTrimmed 18446744073709551615 (now m))
      → EachMoment h h_mid (IsTrimmed 18446744073709551615 (now h)) → Stops l m h l_mid m_mid h_mid (HoldsOnly file)
  tidied_stops lows middles highs =
      weaker l m h l_mid m_mid h_mid
      (λ a b c. IsTrimmed 18446744073709551615 (now l) a × IsTrimmed 18446744073709551615 (now m) b × IsTrimmed 18446744073709551615 (now h) c) (HoldsOnly file)
      (λ a b c all. held_by_snapshot file entry 18446744073709551615 (now l) a b c waits all.0)
      (apart l m h l_mid m_mid h_mid (IsTrimmed 18446744073709551615 (now l)) (IsTrimmed 18446744073709551615 (now m)) (IsTrimmed 18446744073709551615 (now h)) lows middles highs)

  module _ (named : AllNamed names (now l) (now m) (now h)) (low : HasTrimmed 18446744073709551615 names.lows.items (now l) l_mid)
      (middle : HasTrimmed 18446744073709551615 names.middles.items (now m) m_mid) (high : HasTrimmed 18446744073709551615 names.highs.items (now h) h_mid) where
    pub no_lows : HasPast 0 [] (now l_mid)
    no_lows = has_none (now l) l_mid names.lows.items named.lows low

    pub no_middles : HasPast 0 [] (now m_mid)
    no_middles = has_none (now m) m_mid names.middles.items named.middles middle

    pub no_highs : HasPast 0 [] (now h_mid)
    no_highs = has_none (now h) h_mid names.highs.items named.highs high

    pub renamed_stops : (l_now : History) → EachMoment l_mid l_now (Either file entry (now l) names.lows.items l_mid waits low no_lows) → Stops l_mid m_mid h_mid l_now m_mid h_mid (HoldsOnly file)
    renamed_stops l_now runs =
        weaker l_mid m_mid h_mid l_now m_mid h_mid (λ a b c. Either file entry (now l) names.lows.items l_mid waits low no_lows a × HasPast 0 [] b × HasPast 0 [] c) (HoldsOnly file)
        (held_either file entry (now l) names.lows.items l_mid waits low no_lows)
        (apart l_mid m_mid h_mid l_now m_mid h_mid (Either file entry (now l) names.lows.items l_mid waits low no_lows) (HasPast 0 []) (HasPast 0 []) runs
        (started m_mid (HasPast 0 []) (λ c may. has_same 0 [] (now m_mid) c (λ a b. middle.settled c may (LtxName a b) refl) no_middles))
        (started h_mid (HasPast 0 []) (λ c may. has_same 0 [] (now h_mid) c (λ a b. high.settled c may (LtxName a b) refl) no_highs)))

    pub finished_stops : (l_now : History) → EachMoment l l_mid (IsTrimmed 18446744073709551615 (now l)) → EachMoment m m_mid (IsTrimmed 18446744073709551615 (now m))
        → EachMoment h h_mid (IsTrimmed 18446744073709551615 (now h)) → EachMoment l_mid l_now (Either file entry (now l) names.lows.items l_mid waits low no_lows)
        → Stops l m h l_now m_mid h_mid (HoldsOnly file)
    finished_stops l_now lows middles highs runs =
        and_then l m h l_mid m_mid h_mid l_now m_mid h_mid (HoldsOnly file) (tidied_stops lows middles highs) (renamed_stops l_now runs)

    pub is_alone : (l_now : History) → Moves (Renames Snapshot (LtxName file.header.min file.header.max)) (Renames Snapshot (LtxName file.header.min file.header.max)) l_mid l_now → IsAlone file l_now m_mid h_mid
    is_alone l_now moves =
        let only = alone file entry (now l) names.lows.items l_mid waits low no_lows l_now moves in
        record {
          lows = only.lows;
          middles = no_middles;
          highs = no_highs;
          no_snapshot = only.no_snapshot;
          low_settled = settled file entry (now l) names.lows.items l_mid waits low no_lows l_now moves;
          middle_settled = middle.settled;
          high_settled = high.settled;
        }
