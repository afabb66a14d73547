-- What folders hold stays where they are the same, and where files are removed that the chain passes over.
use Rattle.std.proofs.Common.{◌≡◌, ◌∙◌, ◌⊎◌, inl, inr, ℕ, ◌-◌, ◌<◌, ◌≤◌, List, [], ◌∷◌, ◌++◌, Option, None, Some, IsSome, refl, sym, ap, subst, arith}
use Rattle.std.proofs.lemmas.Bool.{cases_lt, false≢true}
use Rattle.lf_base.specs.declared.pos.Pos.{Pos}
use Rattle.lf_disk.specs.declared.name.FileName.TheVariants.{Staged, Snapshot, Ltx as LtxName}
use Rattle.lf_disk.specs.Folder.{Folder, bytes_of, SameBut}
use Rattle.lf_disk.specs.History.{History, now}
use Rattle.ltx_codec.specs.Format.{IsLtx}
use Rattle.ltx_codec.specs.Positions.{before, after}
use Rattle.ltx_codec.specs.declared.file.Ltx.{Ltx}
use Rattle.ltx_backup.specs.Entries.{IsKept, Lists}
use Rattle.ltx_backup.specs.Levels.{Levels, LeadOn, end_of, Stands, AllStand, HasPast, Holds}
use Rattle.ltx_backup.specs.Trimming.{IsTrimmed, HasTrimmed}
use Rattle.ltx_backup.specs.declared.entry.Entry.{Entry}
use Rattle.ltx_backup.specs.declared.entry.Index.{Index}

-- every file begins past a number
abbrev pub AllPast : ℕ → List Ltx → Type 0
AllPast number [] = Unit {0}
AllPast number (file ∷ files) = (number < file.header.min) × AllPast number files

pub past_less : (m n : ℕ) (files : List Ltx) → m ≤ n → AllPast n files → AllPast m files
past_less m n [] less past = tt
past_less m n (file ∷ files) less past = (omega (arith, past.0), past_less m n files less past.1)

-- a file that begins at a position begins past its number
pub begins_past : (f : Folder) (here : Pos) (file : Ltx) → Stands f file → before file ≡ here → here.txid < file.header.min
begins_past f here file stands joins =
    let at : file.header.min - 1 ≡ here.txid = ap (λ (p : Pos). p.txid) joins in
    omega (arith, at, stands.valid.header.min)

-- files that lead on from a position begin past its number
pub lead_past : (f : Folder) (here : Pos) (files : List Ltx) → AllStand f files → LeadOn here files → AllPast here.txid files
lead_past f here [] stand lead = tt
lead_past f here (file ∷ files) stand lead =
    let first = begins_past f here file stand.0 lead.0 in
    (first, past_less here.txid file.header.max files (omega (arith, first, stand.0.valid.header.max)) (lead_past f (after file) files stand.1 lead.1))

pub some_same : (o p : Option (List ℕ)) → o ≡ p → IsSome o → IsSome p
some_same o p same some = subst (λ (x : Option (List ℕ)). IsSome x) same some

pub stands_same : (f g : Folder) (file : Ltx) → g (LtxName file.header.min file.header.max) ≡ f (LtxName file.header.min file.header.max) → Stands f file → Stands g file
stands_same f g file same stands = subst (λ (o : Option (List ℕ)). IsLtx (bytes_of o) file) (sym same) stands

all_stand_past : (number : ℕ) (f g : Folder) (files : List Ltx) → ((a b : ℕ) → number < a → g (LtxName a b) ≡ f (LtxName a b)) → AllPast number files → AllStand f files → AllStand g files
all_stand_past number f g [] same past stand = tt
all_stand_past number f g (file ∷ files) same past stand =
    (stands_same f g file (same file.header.min file.header.max past.0) stand.0, all_stand_past number f g files same past.1 stand.1)

pub all_stand_same : (f g : Folder) (files : List Ltx) → ((a b : ℕ) → g (LtxName a b) ≡ f (LtxName a b)) → AllStand f files → AllStand g files
all_stand_same f g [] same stand = tt
all_stand_same f g (file ∷ files) same stand =
    (stands_same f g file (same file.header.min file.header.max) stand.0, all_stand_same f g files same stand.1)

-- the files past a number are those past a lower one that begin past it
pub has_higher : (m n : ℕ) (files : List Ltx) (f : Folder) → m ≤ n → HasPast m files f → HasPast n files f
has_higher m n files f less has = record { stand = has.stand; only = λ a b above some. has.only a b (omega arith) some }

pub has_same : (n : ℕ) (files : List Ltx) (f g : Folder) → ((a b : ℕ) → g (LtxName a b) ≡ f (LtxName a b)) → HasPast n files f → HasPast n files g
has_same n files f g same has = record {
  stand = all_stand_same f g files same has.stand;
  only = λ a b above some. has.only a b above (some_same (g (LtxName a b)) (f (LtxName a b)) (same a b) some);
}

-- files up to a number are gone that aren't past it
pub has_trimmed : (k n : ℕ) (files : List Ltx) (f g : Folder) → k ≤ n → AllPast n files → IsTrimmed k f g → HasPast n files f → HasPast n files g
has_trimmed k n files f g less past trimmed has = record {
  stand = all_stand_past n f g files (λ a b above. trimmed.past a b (omega arith)) past has.stand;
  only = λ a b above some. has.only a b above (some_same (g (LtxName a b)) (f (LtxName a b)) (trimmed.past a b (omega arith)) some);
}

-- a file stands or doesn't
pub there_or_not : (o : Option (List ℕ)) → IsSome o ⊎ (o ≡ None)
there_or_not None = inr refl
there_or_not (Some bytes) = inl refl

pub none_some : (o : Option (List ℕ)) → o ≡ None → IsSome o → ⊥
none_some o none some = false≢true (subst (λ (x : Option (List ℕ)). IsSome x) none some)

-- where all others are removed there are these alone
pub has_alone : (k : ℕ) (files : List Ltx) (f : Folder) (h : History) (names : List Entry) → AllPast k files → HasPast k files f
    → ((a b : ℕ) → 0 < a → IsSome (f (LtxName a b)) → Lists names a b) → HasTrimmed k names f h → HasPast 0 files (now h)
has_alone k files f h names past has named done = record {
  stand = all_stand_past k f (now h) files (λ a b above. done.trimmed.past a b above) past has.stand;
  only = λ a b above some. elim (cases_lt k a) [
    | inl beyond ↦ has.only a b beyond (some_same (now h (LtxName a b)) (f (LtxName a b)) (done.trimmed.past a b beyond) some)
    | inr within ↦ elim (there_or_not (f (LtxName a b))) [
      | inl there ↦ absurd (none_some (now h (LtxName a b)) (done.gone a b (inl within) (named a b above there)) some)
      | inr none ↦ absurd (none_some (now h (LtxName a b)) (done.fewer a b none) some)
    ]
  ];
}

-- where all are removed there is none
pub has_none : (f : Folder) (h : History) (names : List Entry) → ((a b : ℕ) → 0 < a → IsSome (f (LtxName a b)) → Lists names a b)
    → HasTrimmed 18446744073709551615 names f h → HasPast 0 [] (now h)
has_none f h names named done = record {
  stand = tt;
  only = λ a b above some. elim (there_or_not (f (LtxName a b))) [
    | inl there ↦ absurd (none_some (now h (LtxName a b)) (done.gone a b (inr refl) (named a b above there)) some)
    | inr none ↦ absurd (none_some (now h (LtxName a b)) (done.fewer a b none) some)
  ];
}

-- the chain's parts
pub lead_front : (here : Pos) (xs ys : List Ltx) → LeadOn here (xs ++ ys) → LeadOn here xs
lead_front here [] ys lead = tt
lead_front here (x ∷ xs) ys lead = (lead.0, lead_front (after x) xs ys lead.1)

pub lead_back : (here : Pos) (xs ys : List Ltx) → LeadOn here (xs ++ ys) → LeadOn (end_of here xs) ys
lead_back here [] ys lead = lead
lead_back here (x ∷ xs) ys lead = lead_back (after x) xs ys lead.1

pub lead_join : (here : Pos) (xs ys : List Ltx) → LeadOn here xs → LeadOn (end_of here xs) ys → LeadOn here (xs ++ ys)
lead_join here [] ys first second = second
lead_join here (x ∷ xs) ys first second = (first.0, lead_join (after x) xs ys first.1 second)

pub end_join : (here : Pos) (xs ys : List Ltx) → end_of here (xs ++ ys) ≡ end_of (end_of here xs) ys
end_join here [] ys = refl
end_join here (x ∷ xs) ys = end_join (after x) xs ys

-- folders that are the same but for what is staged hold the same
pub holds_same : (levels : Levels) (a b c x y z : Folder) → SameBut Staged a x → SameBut Staged b y → SameBut Staged c z → Holds levels a b c → Holds levels x y z
holds_same levels a b c x y z low middle high (inl files) = inl (record {
  no_snapshot = low Snapshot refl ∙ files.no_snapshot;
  highs = has_same 0 levels.highs c z (λ m n. high (LtxName m n) refl) files.highs;
  middles = has_same _ levels.middles b y (λ m n. middle (LtxName m n) refl) files.middles;
  lows = has_same _ levels.lows a x (λ m n. low (LtxName m n) refl) files.lows;
  joined = files.joined;
})
holds_same levels a b c x y z low middle high (inr snapshot) = inr (record {
  file = snapshot.file;
  encoding = snapshot.encoding;
  there = low Snapshot refl ∙ snapshot.there;
  is = snapshot.is;
  first = snapshot.first;
  alone = snapshot.alone;
})

-- what is kept between two calls is held
pub kept_holds : (levels : Levels) (index : Index) (l m h : History) → IsKept levels index l m h → Holds levels (now l) (now m) (now h)
kept_holds levels index l m h kept = inl (record {
  no_snapshot = kept.no_snapshot;
  highs = kept.highs.has;
  middles = has_higher 0 _ levels.middles (now m) (omega arith) kept.middles.has;
  lows = has_higher 0 _ levels.lows (now l) (omega arith) kept.lows.has;
  joined = kept.joined;
})
