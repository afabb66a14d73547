-- One file in place of several changes no image at a transaction that stays.
use Rattle.std.proofs.Common.{◌≡◌, ◌∙◌, inl, inr, ℕ, zero, suc, ◌-◌, ◌<◌, ◌≤◌, List, [], ◌∷◌, ◌++◌, None, Some, length, take, drop, append_assoc, refl, sym, ap, subst, arith}
use Rattle.std.specs.Prelude.{slice_get}
use Rattle.std.proofs.lemmas.Bool.{cases_lt}
use Rattle.lf_base.specs.declared.pos.Pos.{Pos}
use Rattle.lf_sqlite_pages.specs.Image.{DatabaseImage, empty_image}
use Rattle.ltx_codec.specs.Positions.{after, nowhere}
use Rattle.ltx_codec.specs.declared.file.Ltx.{Ltx}
use Rattle.ltx_codec.specs.declared.header.Header.{Header}
use Rattle.ltx_compact.specs.Application.{apply_all, DoesAsFiles}
use Rattle.ltx_compact.specs.Compaction.{Compacts}
use Rattle.ltx_backup.specs.Folding.{FoldsLow, FoldsMiddle, Folds}
use Rattle.ltx_backup.specs.Levels.{Levels, chain, LeadOn, end_of}
use Rattle.ltx_backup.specs.Restoring.{up_to, restored, EndsWith}
use Rattle.ltx_backup.specs.Ordered.{AllOrdered}
use Rattle.ltx_backup.proofs.Holding.{lead_front, lead_back}
use Rattle.ltx_backup.proofs.Restores.{applied_one, applied_join, up_to_join, taken, left_out, ends_left, ends_right, ends_cases}
use Rattle.ltx_backup.proofs.Restorings.{follows, none_up_to, ends_past}

pub take_drop : (n : ℕ) (files : List Ltx) → take n files ++ drop n files ≡ files
take_drop zero files = refl
take_drop (suc n) [] = refl
take_drop (suc n) (x ∷ xs) = ap (λ (l : List Ltx). x ∷ l) (take_drop n xs)

pub one_some : (x y : Ltx) → Some x ≡ Some y → x ≡ y
one_some x y same = cc

-- the last of files ends where all of them do
pub last_after : (here : Pos) (files : List Ltx) (last : Ltx) → slice_get files (length files - 1) ≡ Some last → after last ≡ end_of here files
last_after here [] last is = absurd (let no : None ≡ Some last = is in cc)
last_after here (x ∷ []) last is = ap after (sym (one_some x last is))
last_after here (x ∷ (y ∷ ys)) last is =
    last_after (after x) (y ∷ ys) last
    (let count : length (x ∷ (y ∷ ys)) - 1 ≡ suc (length (y ∷ ys) - 1) = omega arith in
    subst (λ (k : ℕ). slice_get (x ∷ (y ∷ ys)) k ≡ Some last) count is)

ordered_front : (xs ys : List Ltx) → AllOrdered (xs ++ ys) → AllOrdered xs
ordered_front [] ys order = tt
ordered_front (x ∷ xs) ys order = (order.0, order.1, ordered_front xs ys order.2)

ordered_back : (xs ys : List Ltx) → AllOrdered (xs ++ ys) → AllOrdered ys
ordered_back [] ys order = order
ordered_back (x ∷ xs) ys order = ordered_back xs ys order.2

end_later : (here : Pos) (files : List Ltx) → LeadOn here files → AllOrdered files → here.txid ≤ (end_of here files).txid
end_later here [] lead order = omega arith
end_later here (x ∷ xs) lead order =
    let first = follows here x lead.0 order.0 in
    let rest = end_later (after x) xs lead.1 order.2 in
    omega (arith, first, rest, order.1)

-- up to the end of files, or past it, there are all of them
all_up_to : (txid : ℕ) (here : Pos) (files : List Ltx) → (end_of here files).txid ≤ txid → LeadOn here files → AllOrdered files → up_to txid files ≡ files
all_up_to txid here [] past lead order = refl
all_up_to txid here (x ∷ xs) past lead order =
    let rest = end_later (after x) xs lead.1 order.2 in
    taken txid x xs (omega (arith, rest, past)) ∙ ap (λ (l : List Ltx). x ∷ l) (all_up_to txid (after x) xs past lead.1 order.2)

ends_within : (here : Pos) (files : List Ltx) (txid sum : ℕ) → LeadOn here files → AllOrdered files → EndsWith files txid sum → txid ≤ (end_of here files).txid
ends_within here [] txid sum lead order ends = absurd ends
ends_within here (x ∷ xs) txid sum lead order (inl is) = let rest = end_later (after x) xs lead.1 order.2 in omega (arith, rest, is.0)
ends_within here (x ∷ xs) txid sum lead order (inr ends) = ends_within (after x) xs txid sum lead.1 order.2 ends

module _ (fore many behind : List Ltx) (file : Ltx) (is : Compacts many file) (does : DoesAsFiles many file.change)
    (lead : LeadOn nowhere (fore ++ (many ++ behind))) (order : AllOrdered (fore ++ (many ++ behind))) (txid sum : ℕ) (ends : EndsWith (fore ++ (file ∷ behind)) txid sum) where
  mid : Pos
  mid = end_of nowhere fore

  lead_rest : LeadOn (end_of nowhere fore) (many ++ behind)
  lead_rest = lead_back nowhere fore (many ++ behind) lead

  lead_many : LeadOn (end_of nowhere fore) many
  lead_many = lead_front (end_of nowhere fore) many behind lead_rest

  order_many : AllOrdered many
  order_many = ordered_front many behind (ordered_back fore (many ++ behind) order)

  max_is : file.header.max ≡ (end_of (end_of nowhere fore) many).txid
  max_is = ap (λ (h : Header). h.max) is.header ∙ ap (λ (p : Pos). p.txid) (last_after (end_of nowhere fore) many is.last is.is_last)

  none_before : txid < file.header.max → txid ≤ (end_of nowhere fore).txid
  none_before past = elim (ends_cases fore (file ∷ behind) txid sum ends) [
    | inl early ↦ ends_within nowhere fore txid sum (lead_front nowhere fore (many ++ behind) lead) (ordered_front fore (many ++ behind) order) early
    | inr late ↦ elim late [
      | inl here ↦ absurd (omega (arith, here.0, past))
      | inr later ↦
          let beyond = ends_past (end_of (end_of nowhere fore) many) behind txid sum (lead_back (end_of nowhere fore) many behind lead_rest) (ordered_back many behind (ordered_back fore (many ++ behind) order)) later in
          absurd (omega (arith, beyond, past, max_is))
    ]
  ]

  same_there : (image : DatabaseImage) → apply_all image (up_to txid (file ∷ [])) ≡ apply_all image (up_to txid many)
  same_there image = elim (cases_lt txid file.header.max) [
    | inl past ↦
        ap (λ (l : List Ltx). apply_all image l) (left_out txid file [] past ∙ sym (none_up_to txid (end_of nowhere fore) many (none_before past) lead_many order_many))
    | inr within ↦
        ap (λ (l : List Ltx). apply_all image l) (taken txid file [] within) ∙ applied_one image file ∙ does.same image
        ∙ ap (λ (l : List Ltx). apply_all image l) (sym (all_up_to txid (end_of nowhere fore) many (omega (arith, within, max_is)) lead_many order_many))
  ]

  part_by_part : (some : List Ltx) → restored (fore ++ (some ++ behind)) txid ≡ apply_all (apply_all (apply_all empty_image (up_to txid fore)) (up_to txid some)) (up_to txid behind)
  part_by_part some =
      ap (λ (l : List Ltx). apply_all empty_image l) (up_to_join txid fore (some ++ behind)) ∙ applied_join empty_image (up_to txid fore) (up_to txid (some ++ behind))
      ∙ ap (λ (l : List Ltx). apply_all (apply_all empty_image (up_to txid fore)) l) (up_to_join txid some behind)
      ∙ applied_join (apply_all empty_image (up_to txid fore)) (up_to txid some) (up_to txid behind)

  pub same_image : restored (fore ++ (file ∷ behind)) txid ≡ restored (fore ++ (many ++ behind)) txid
  same_image =
      part_by_part (file ∷ []) ∙ ap (λ (i : DatabaseImage). apply_all i (up_to txid behind)) (same_there (apply_all empty_image (up_to txid fore))) ∙ sym (part_by_part many)

-- the chain with the eight files apart, and with the one in their place
module _ (old new : Levels) (folds : FoldsLow old new) where
  pub low_was : chain old ≡ (old.highs ++ old.middles) ++ (take 8 old.lows ++ drop 8 old.lows)
  low_was = ap (λ (l : List Ltx). (old.highs ++ old.middles) ++ l) (sym (take_drop 8 old.lows))

  pub low_is : chain new ≡ (old.highs ++ old.middles) ++ (folds.0.file ∷ drop 8 old.lows)
  low_is =
      (λ i. (folds.1 i ++ folds.0.made i) ++ folds.0.left i) ∙ ap (λ (l : List Ltx). l ++ drop 8 old.lows) (sym (append_assoc old.highs old.middles (folds.0.file ∷ [])))
      ∙ append_assoc (old.highs ++ old.middles) (folds.0.file ∷ []) (drop 8 old.lows)

module _ (old new : Levels) (folds : FoldsMiddle old new) where
  pub middle_was : chain old ≡ old.highs ++ (take 8 old.middles ++ (drop 8 old.middles ++ old.lows))
  middle_was =
      ap (λ (l : List Ltx). (old.highs ++ l) ++ old.lows) (sym (take_drop 8 old.middles)) ∙ append_assoc old.highs (take 8 old.middles ++ drop 8 old.middles) old.lows
      ∙ ap (λ (l : List Ltx). old.highs ++ l) (append_assoc (take 8 old.middles) (drop 8 old.middles) old.lows)

  pub middle_is : chain new ≡ old.highs ++ (folds.0.file ∷ (drop 8 old.middles ++ old.lows))
  middle_is =
      (λ i. (folds.0.made i ++ folds.0.left i) ++ folds.1 i) ∙ ap (λ (l : List Ltx). l ++ old.lows) (append_assoc old.highs (folds.0.file ∷ []) (drop 8 old.middles))
      ∙ append_assoc old.highs (folds.0.file ∷ drop 8 old.middles) old.lows

module _ (old new : Levels) (lead : LeadOn nowhere (chain old)) (order : AllOrdered (chain old)) (txid sum : ℕ) (ends : EndsWith (chain new) txid sum) where
  pub by_one : Folds old new → restored (chain new) txid ≡ restored (chain old) txid
  by_one (inl low) =
      let was = low_was old new low in
      let is = low_is old new low in
      ap (λ (l : List Ltx). restored l txid) is
      ∙ same_image (old.highs ++ old.middles) (take 8 old.lows) (drop 8 old.lows) low.0.file low.0.is low.0.does
      (subst (λ (l : List Ltx). LeadOn nowhere l) was lead) (subst (λ (l : List Ltx). AllOrdered l) was order) txid sum (subst (λ (l : List Ltx). EndsWith l txid sum) is ends)
      ∙ ap (λ (l : List Ltx). restored l txid) (sym was)
  by_one (inr middle) =
      let was = middle_was old new middle in
      let is = middle_is old new middle in
      ap (λ (l : List Ltx). restored l txid) is
      ∙ same_image old.highs (take 8 old.middles) (drop 8 old.middles ++ old.lows) middle.0.file middle.0.is middle.0.does
      (subst (λ (l : List Ltx). LeadOn nowhere l) was lead) (subst (λ (l : List Ltx). AllOrdered l) was order) txid sum (subst (λ (l : List Ltx). EndsWith l txid sum) is ends)
      ∙ ap (λ (l : List Ltx). restored l txid) (sym was)

-- a transaction with which a file ends now is one with which one ended before
ends_get : (files : List Ltx) (k : ℕ) (last : Ltx) → slice_get files k ≡ Some last → EndsWith files last.header.max last.post
ends_get [] k last is = absurd (let no : None ≡ Some last = is in cc)
ends_get (x ∷ xs) zero last is = let same = one_some x last is in inl (ap (λ (f : Ltx). f.header.max) same, ap (λ (f : Ltx). f.post) same)
ends_get (x ∷ xs) (suc k) last is = inr (ends_get xs k last is)

ends_of : (many : List Ltx) (file : Ltx) (txid sum : ℕ) → Compacts many file → (file.header.max ≡ txid) × (file.post ≡ sum) → EndsWith many txid sum
ends_of many file txid sum is here =
    let max : is.last.header.max ≡ txid = sym (ap (λ (h : Header). h.max) is.header) ∙ here.0 in
    let post : is.last.post ≡ sum = sym is.post ∙ here.1 in
    subst (λ (n : ℕ). EndsWith many n sum) max (subst (λ (n : ℕ). EndsWith many is.last.header.max n) post (ends_get many (length many - 1) is.last is.is_last))

ended : (fore many behind : List Ltx) (file : Ltx) (txid sum : ℕ) → Compacts many file → EndsWith (fore ++ (file ∷ behind)) txid sum → EndsWith (fore ++ (many ++ behind)) txid sum
ended fore many behind file txid sum is ends = elim (ends_cases fore (file ∷ behind) txid sum ends) [
  | inl early ↦ ends_left fore (many ++ behind) txid sum early
  | inr late ↦ ends_right fore (many ++ behind) txid sum (elim late [
    | inl here ↦ ends_left many behind txid sum (ends_of many file txid sum is here)
    | inr later ↦ ends_right many behind txid sum later
  ])
]

pub ended_before : (old new : Levels) (txid sum : ℕ) → Folds old new → EndsWith (chain new) txid sum → EndsWith (chain old) txid sum
ended_before old new txid sum (inl low) ends =
    subst (λ (l : List Ltx). EndsWith l txid sum) (sym (low_was old new low))
    (ended (old.highs ++ old.middles) (take 8 old.lows) (drop 8 old.lows) low.0.file txid sum low.0.is (subst (λ (l : List Ltx). EndsWith l txid sum) (low_is old new low) ends))
ended_before old new txid sum (inr middle) ends =
    subst (λ (l : List Ltx). EndsWith l txid sum) (sym (middle_was old new middle))
    (ended old.highs (take 8 old.middles) (drop 8 old.middles ++ old.lows) middle.0.file txid sum middle.0.is (subst (λ (l : List Ltx). EndsWith l txid sum) (middle_is old new middle) ends))
