-- The files of a level are judged, one after another.
use Rattle.std.proofs.Common.{◌≡◌, ◌∙◌, ◌⊎◌, inl, inr, ℕ, zero, suc, ◌<◌, ◌≤◌, true, false, List, [], ◌∷◌, ◌++◌, length, take, get_or, IsSome, refl, sym, ap, subst, arith, eq-eqb}
use Rattle.std.specs.Prelude.{◌==◌}
use Rattle.std.specs.List.{IsDistinct, AllByRecursion}
use Rattle.std.proofs.lemmas.Bool.{cases_lt, and_from, false≢true}
use Rattle.lf_base.specs.declared.pos.Pos.{Pos}
use Rattle.lf_disk.specs.declared.name.FileName.TheVariants.{Ltx as LtxName}
use Rattle.lf_disk.specs.Folder.{Folder}
use Rattle.ltx_codec.specs.Positions.{before, after}
use Rattle.ltx_codec.specs.declared.file.Ltx.{Ltx}
use Rattle.lf_disk.proofs.Listings.{order_by_first, once_back}
use Rattle.ltx_backup.specs.Entries.{entry_of, entries_of, numbers_of, Lists}
use Rattle.ltx_backup.specs.Judging.{HasNumbers, IsNext, Judging, IsJudged, IsBroken, IsRefusedPast}
use Rattle.ltx_backup.specs.Levels.{LeadOn, end_of, Stands, AllStand, Has, HasPast}
use Rattle.ltx_backup.specs.Listing.{AreListed}
use Rattle.ltx_backup.specs.declared.entry.Entry.{Entry}
use Rattle.ltx_backup.specs.declared.fault.BackupFault.{BackupFault}
use Rattle.ltx_backup.specs.declared.fault.BackupFault.TheVariants as fault
use Rattle.ltx_backup.proofs.Holding.{begins_past, lead_past, lead_join, end_join}
use Rattle.ltx_backup.proofs.Listings.{same_numbers, AreInOrder, AreOnce, lists_old, lists_new, lists_cases, lists_get}
use Rattle.ltx_backup.proofs.Lists.{no_entry}
use Rattle.ltx_backup.proofs.Unique.{stands_some, has_past, has_within, end_after, front}

pub stand_join : (f : Folder) (xs ys : List Ltx) → AllStand f xs → AllStand f ys → AllStand f (xs ++ ys)
stand_join f [] ys first second = second
stand_join f (x ∷ xs) ys first second = (first.0, stand_join f xs ys first.1 second)

pub entries_join : (xs ys : List Ltx) → entries_of (xs ++ ys) ≡ entries_of xs ++ entries_of ys
entries_join [] ys = refl
entries_join (x ∷ xs) ys = ap (λ (l : List Entry). entry_of x ∷ l) (entries_join xs ys)

pub has_left : (xs ys : List Ltx) (a b : ℕ) → Has xs a b → Has (xs ++ ys) a b
has_left [] ys a b has = absurd has
has_left (x ∷ xs) ys a b (inl is) = inl is
has_left (x ∷ xs) ys a b (inr has) = inr (has_left xs ys a b has)

pub has_right : (xs ys : List Ltx) (a b : ℕ) → Has ys a b → Has (xs ++ ys) a b
has_right [] ys a b has = has
has_right (x ∷ xs) ys a b has = inr (has_right xs ys a b has)

pub has_cases : (xs ys : List Ltx) (a b : ℕ) → Has (xs ++ ys) a b → Has xs a b ⊎ Has ys a b
has_cases [] ys a b has = inr has
has_cases (x ∷ xs) ys a b (inl is) = inl (inl is)
has_cases (x ∷ xs) ys a b (inr has) = elim (has_cases xs ys a b has) [ inl left ↦ inl (inr left) | inr right ↦ inr right ]

unfoldable pub judging_begins : (f : Folder) (here : Pos) (entries : List Entry) → entries ≡ [] → Judging f here [] entries here
judging_begins f here entries none = record {
  files = [];
  stand = tt;
  lead = tt;
  entries_are = none;
  end_is = refl;
  covers = λ a b above lists. absurd lists;
  sound = λ a b has. absurd has;
}

module _ (f : Folder) (here : Pos) (names entries : List Entry) (end : Pos) (name : Entry) (so_far : Judging f here names entries end) where
  -- a file that the levels above hold
  unfoldable pub judged_past : name.min ≤ here.txid → Judging f here (names ++ name ∷ []) entries end
  judged_past low = record {
    files = so_far.files;
    stand = so_far.stand;
    lead = so_far.lead;
    entries_are = so_far.entries_are;
    end_is = so_far.end_is;
    covers = λ a b above lists. elim (lists_cases names name a b lists) [
      | inl old ↦ so_far.covers a b above old
      | inr new ↦ absurd (omega (arith, new.0, low, above))
    ];
    sound = λ a b has. lists_old names name a b (so_far.sound a b has);
  }

  -- a file that goes on
  unfoldable pub judged_more : (entry : Entry) (end_now : Pos) → IsNext f end entry end_now → entry.min ≡ name.min → entry.max ≡ name.max
      → Judging f here (names ++ name ∷ []) (entries ++ entry ∷ []) end_now
  judged_more entry end_now next min max =
      let file_min : next.file.header.min ≡ name.min = sym (ap (λ (e : Entry). e.min) next.entry_is) ∙ min in
      let file_max : next.file.header.max ≡ name.max = sym (ap (λ (e : Entry). e.max) next.entry_is) ∙ max in
      record {
        files = so_far.files ++ next.file ∷ [];
        stand = stand_join f so_far.files (next.file ∷ []) so_far.stand (next.stands, tt);
        lead = lead_join here so_far.files (next.file ∷ []) so_far.lead (next.joins ∙ so_far.end_is, tt);
        entries_are =
            (λ i. so_far.entries_are i ++ next.entry_is i ∷ []) ∙ sym (entries_join so_far.files (next.file ∷ []));
        end_is = next.end_is ∙ sym (end_join here so_far.files (next.file ∷ []));
        covers = λ a b above lists. elim (lists_cases names name a b lists) [
          | inl old ↦ has_left so_far.files (next.file ∷ []) a b (so_far.covers a b above old)
          | inr new ↦ has_right so_far.files (next.file ∷ []) a b (inl (file_min ∙ new.0, file_max ∙ new.1))
        ];
        sound = λ a b has. elim (has_cases so_far.files (next.file ∷ []) a b has) [
          | inl old ↦ lists_old names name a b (so_far.sound a b old)
          | inr new ↦ elim new [
            | inl is ↦
                let P : ℕ → ℕ → Type 0 = λ x y. Lists (names ++ name ∷ []) x y in
                subst (λ (y : ℕ). P a y) (sym file_max ∙ is.1) (subst (λ (x : ℕ). P x name.max) (sym file_min ∙ is.0) (lists_new names name))
            | inr none ↦ absurd none
          ]
        ];
      }

-- all names were looked at
unfoldable pub judged_all : (f : Folder) (here : Pos) (names entries : List Entry) (end : Pos) → AreListed names f → Judging f here names entries end → IsJudged f here entries end
judged_all f here names entries end listed judging = record {
  files = judging.files;
  has = record { stand = judging.stand; only = λ a b above some. judging.covers a b above (listed.whole a b some) };
  joined = judging.lead;
  entries_are = judging.entries_are;
  end_is = judging.end_is;
}

same_self : (e : Entry) → same_numbers e e ≡ true
same_self e = and_from (e.min == e.min) (e.max == e.max) (eq-eqb e.min e.min refl) (eq-eqb e.max e.max refl)

same_as : (x y : Entry) → x.min ≡ y.min → x.max ≡ y.max → same_numbers x y ≡ true
same_as x y min max = and_from (x.min == y.min) (x.max == y.max) (eq-eqb x.min y.min min) (eq-eqb x.max y.max max)

apart_from : (e : Entry) (es : List Entry) (k : ℕ) → AllByRecursion (λ (x : Entry). same_numbers e x ≡ false) es → k < length es → same_numbers e (get_or es k no_entry) ≡ false
apart_from e [] k all more = absurd (omega arith)
apart_from e (x ∷ es) zero all more = all.0
apart_from e (x ∷ es) (suc k) all more = apart_from e es k all.1 (omega arith)

-- the numbers of a name don't stand before it
not_before : (names : List Entry) (i : ℕ) → AreOnce names → i < length names → Lists (take i names) (get_or names i no_entry).min (get_or names i no_entry).max → ⊥
unfolding IsDistinct
not_before [] i once more lists = absurd (omega arith)
not_before (e ∷ es) zero once more lists = lists
not_before (e ∷ es) (suc i) once more (inl is) =
    let differs : same_numbers e (get_or es i no_entry) ≡ false = apart_from e es i once.0 (omega arith) in
    false≢true (sym differs ∙ same_as e (get_or es i no_entry) is.0 is.1)
not_before (e ∷ es) (suc i) once more (inr lists) = not_before es i once.1 (omega arith) lists

-- where an entry of these numbers stands
at_place : (names : List Entry) (a b : ℕ) → Lists names a b → (k : ℕ) × (k < length names) × ((get_or names k no_entry).min ≡ a) × ((get_or names k no_entry).max ≡ b)
at_place [] a b lists = absurd lists
at_place (e ∷ es) a b (inl is) = (0, omega arith, is.0, is.1)
at_place (e ∷ es) a b (inr lists) = let at = at_place es a b lists in (suc at.0, omega (arith, at.1), at.2, at.3)

lists_front : (names : List Entry) (i k : ℕ) → k < i → k < length names → Lists (take i names) (get_or names k no_entry).min (get_or names k no_entry).max
lists_front [] i k before more = absurd (omega arith)
lists_front (e ∷ es) zero k before more = absurd (omega arith)
lists_front (e ∷ es) (suc i) zero before more = inl (refl, refl)
lists_front (e ∷ es) (suc i) (suc k) before more = inr (lists_front es i k (omega arith) (omega arith))

-- a name that begins before another stands before it
before_it : (names : List Entry) (i : ℕ) (a b : ℕ) → AreInOrder names → i < length names → Lists names a b → a < (get_or names i no_entry).min → Lists (take i names) a b
before_it names i a b order more lists less = elim (cases_lt at.0 i) [
  | inl front ↦
      let there : Lists (take i names) (get_or names at.0 no_entry).min (get_or names at.0 no_entry).max = lists_front names i at.0 front at.1 in
      subst (λ (y : ℕ). Lists (take i names) a y) at.3 (subst (λ (x : ℕ). Lists (take i names) x (get_or names at.0 no_entry).max) at.2 there)
  | inr behind ↦
      let sorted : (get_or names i no_entry).min ≤ (get_or names at.0 no_entry).min = order i at.0 no_entry behind at.1 in
      absurd (omega (arith, sorted, at.2, less))
]
  where
    at : (k : ℕ) × (k < length names) × ((get_or names k no_entry).min ≡ a) × ((get_or names k no_entry).max ≡ b)
    at = at_place names a b lists

-- a file that doesn't go on leaves no way on
module _ (f : Folder) (here : Pos) (names : List Entry) (i : ℕ) (entries : List Entry) (end : Pos) (listed : AreListed names f) (more : i < length names)
    (so_far : Judging f here (take i names) entries end) (past : here.txid < (get_or names i no_entry).min)
    (refused : (file : Ltx) → HasNumbers file (get_or names i no_entry) → Stands f file → before file ≡ end → ⊥) where
  name : Entry
  name = get_or names i no_entry

  pub no_way_on : (files : List Ltx) → HasPast here.txid files f → LeadOn here files → ⊥
  no_way_on files has lead =
      let it = front f here.txid here so_far.files files so_far.stand so_far.lead (omega arith) has lead in
      let some : IsSome (f (LtxName (get_or names i no_entry).min (get_or names i no_entry).max)) = listed.there _ _ (lists_get names i no_entry more) in
      let in_files : Has files (get_or names i no_entry).min (get_or names i no_entry).max = has.only _ _ past some in
      elim (has_cases so_far.files it.rest _ _ (subst (λ (l : List Ltx). Has l (get_or names i no_entry).min (get_or names i no_entry).max) it.same in_files)) [
        | inl old ↦ not_before names i (once_back numbers_of names listed.once) more (so_far.sound _ _ old)
        | inr new ↦ in_rest it.rest it.has it.lead new
      ]
    where
      in_rest : (rest : List Ltx) → HasPast (end_of here so_far.files).txid rest f → LeadOn (end_of here so_far.files) rest
          → Has rest (get_or names i no_entry).min (get_or names i no_entry).max → ⊥
      in_rest [] has lead new = new
      in_rest (r ∷ rest) has lead (inl is) = refused r is has.stand.0 (lead.0 ∙ sym so_far.end_is)
      in_rest (r ∷ rest) has lead (inr later) =
          let beyond = has_past r.header.max rest _ _ (lead_past f (after r) rest has.stand.1 lead.1) later in
          let less : r.header.min < (get_or names i no_entry).min = omega (arith, beyond, has.stand.0.valid.header.max) in
          let r_past = begins_past f (end_of here so_far.files) r has.stand.0 lead.0 in
          let listed_r : Lists names r.header.min r.header.max = listed.whole _ _ (stands_some f r has.stand.0) in
          let first : Lists (take i names) r.header.min r.header.max = before_it names i r.header.min r.header.max (order_by_first numbers_of names listed.order listed.narrow) more listed_r less in
          let above : here.txid < r.header.min = omega (arith, r_past, end_after f here so_far.files so_far.stand so_far.lead) in
          let within = has_within f here so_far.files r.header.min r.header.max so_far.stand so_far.lead (so_far.covers _ _ above first) in
          absurd (omega (arith, within, r_past))

-- why a level is broken
module _ (f : Folder) (here : Pos) (names : List Entry) (i level : ℕ) (entries : List Entry) (end : Pos) (listed : AreListed names f) (more : i < length names)
    (so_far : Judging f here (take i names) entries end) where
  pub broken : (why : BackupFault) → IsRefusedPast f level (get_or names i no_entry) here.txid end why → IsBroken f level here why
  broken fault.Disk refused = tt
  broken fault.Broken refused = absurd refused
  broken (fault.NotNext have want) refused = absurd refused
  broken (fault.NoSuchTxid txid last) refused = absurd refused
  broken (fault.SumDiffers want got) refused = absurd refused
  broken (fault.Damaged at a b) refused = (
    refused.0,
    subst (λ (y : ℕ). IsSome (f (LtxName a y))) (sym refused.2) (subst (λ (x : ℕ). IsSome (f (LtxName x (get_or names i no_entry).max))) (sym refused.1) (listed.there _ _ (lists_get names i no_entry more))),
    no_way_on f here names i entries end listed more so_far refused.3.0 refused.3.1,
  )
  broken fault.NoMemory refused = tt
