-- Three folders hold one thing alone.
use Rattle.std.proofs.Common.{◌≡◌, ◌∙◌, inl, inr, ℕ, ◌-◌, ◌<◌, ◌≤◌, List, [], ◌∷◌, ◌++◌, Option, None, Some, IsSome, refl, sym, ap, subst, arith}
use Rattle.lf_base.specs.declared.pos.Pos.{Pos}
use Rattle.lf_disk.specs.declared.name.FileName.TheVariants.{Snapshot, Ltx as LtxName}
use Rattle.lf_disk.specs.Folder.{Folder, bytes_of}
use Rattle.ltx_codec.specs.Format.{IsLtx, file_encoding}
use Rattle.ltx_codec.specs.Positions.{before, after, nowhere}
use Rattle.ltx_codec.specs.declared.file.Ltx.{Ltx}
use Rattle.ltx_codec.proofs.LawLemmas.{one_reading_lem}
use Rattle.ltx_backup.specs.Levels.{Levels, chain, LeadOn, end_of, Stands, AllStand, Has, HasPast, HoldsFiles, Holds, only_low}
use Rattle.ltx_backup.proofs.Holding.{AllPast, begins_past, lead_past, has_higher, lead_front, lead_back}

-- bytes are an encoding of one file
pub one_file : (one other : List ℕ) (x y : Ltx) → one ≡ other → IsLtx one x → IsLtx other y → x ≡ y
one_file one other x y same is also = (one_reading_lem one other [] [] x y is also (ap (λ (l : List ℕ). l ++ []) same)).1

pub stands_once : (f : Folder) (x y : Ltx) → Stands f x → Stands f y → x.header.min ≡ y.header.min → x.header.max ≡ y.header.max → x ≡ y
stands_once f x y one other min max =
    let same : LtxName x.header.min x.header.max ≡ LtxName y.header.min y.header.max = λ i. LtxName (min i) (max i) in
    one_file _ _ x y (λ i. bytes_of (f (same i))) one other

-- no bytes are no file
pub not_nothing : (file : Ltx) → IsLtx [] file → ⊥
not_nothing file is = let e : [] ≡ file_encoding file is.reserved = is.encoding in absurd (cc)

some_bytes : (o : Option (List ℕ)) (file : Ltx) → IsLtx (bytes_of o) file → IsSome o
some_bytes None file is = absurd (not_nothing file is)
some_bytes (Some bytes) file is = refl

pub stands_some : (f : Folder) (file : Ltx) → Stands f file → IsSome (f (LtxName file.header.min file.header.max))
stands_some f file stands = some_bytes (f (LtxName file.header.min file.header.max)) file stands

pub has_past : (n : ℕ) (files : List Ltx) (a b : ℕ) → AllPast n files → Has files a b → n < a
has_past n [] a b past has = absurd has
has_past n (file ∷ files) a b past (inl is) = omega (arith, past.0, is.0)
has_past n (file ∷ files) a b past (inr has) = has_past n files a b past.1 has

pub end_after : (f : Folder) (here : Pos) (files : List Ltx) → AllStand f files → LeadOn here files → here.txid ≤ (end_of here files).txid
end_after f here [] stand lead = omega arith
end_after f here (file ∷ files) stand lead =
    let first = begins_past f here file stand.0 lead.0 in
    omega (arith, first, stand.0.valid.header.max, end_after f (after file) files stand.1 lead.1)

-- no file begins past the end
pub has_within : (f : Folder) (here : Pos) (files : List Ltx) (a b : ℕ) → AllStand f files → LeadOn here files → Has files a b → a ≤ (end_of here files).txid
has_within f here [] a b stand lead has = absurd has
has_within f here (file ∷ files) a b stand lead (inl is) = omega (arith, is.0, stand.0.valid.header.max, end_after f (after file) files stand.1 lead.1)
has_within f here (file ∷ files) a b stand lead (inr has) = has_within f (after file) files a b stand.1 lead.1 has

-- the files behind the first
pub has_tail : (n : ℕ) (file : Ltx) (files : List Ltx) (f : Folder) → n < file.header.min → HasPast n (file ∷ files) f → HasPast file.header.max files f
has_tail n file files f past has = record {
  stand = has.stand.1;
  only = λ a b above some. elim (has.only a b (omega (arith, past, has.stand.0.valid.header.max)) some) [
    | inl is ↦ absurd (omega (arith, is.0, above, has.stand.0.valid.header.max))
    | inr has ↦ has
  ];
}

-- files that lead on are the first of all those that do
pub record Front (f : Folder) (here : Pos) (xs ys : List Ltx) : Type 0 where
  pub rest : List Ltx
  pub same : ys ≡ xs ++ rest
  pub has : HasPast (end_of here xs).txid rest f
  pub lead : LeadOn (end_of here xs) rest

same_first : (f : Folder) (n : ℕ) (here : Pos) (x y : Ltx) (ys : List Ltx) → Stands f x → before x ≡ here → n ≤ here.txid → HasPast n (y ∷ ys) f → LeadOn here (y ∷ ys) → x ≡ y
same_first f n here x y ys stands joins less has lead =
    let x_past = begins_past f here x stands joins in
    let y_past = begins_past f here y has.stand.0 lead.0 in
    let x_at : x.header.min - 1 ≡ here.txid = ap (λ (p : Pos). p.txid) joins in
    let y_at : y.header.min - 1 ≡ here.txid = ap (λ (p : Pos). p.txid) lead.0 in
    elim (has.only x.header.min x.header.max (omega (arith, x_past)) (stands_some f x stands)) [
      | inl is ↦ stands_once f x y stands has.stand.0 (sym is.0) (sym is.1)
      | inr later ↦
          let beyond = has_past y.header.max ys x.header.min x.header.max (lead_past f (after y) ys has.stand.1 lead.1) later in
          absurd (omega (arith, beyond, x_at, y_at, x_past, y_past, has.stand.0.valid.header.max))
    ]

pub front : (f : Folder) (n : ℕ) (here : Pos) (xs ys : List Ltx) → AllStand f xs → LeadOn here xs → n ≤ here.txid → HasPast n ys f → LeadOn here ys → Front f here xs ys
front f n here [] ys stand lead less has lead_ys = record { rest = ys; same = refl; has = has_higher n here.txid ys f less has; lead = lead_ys }
front f n here (x ∷ xs) [] stand lead less has lead_ys =
    absurd (has.only x.header.min x.header.max (let past = begins_past f here x stand.0 lead.0 in omega (arith, past)) (stands_some f x stand.0))
front f n here (x ∷ xs) (y ∷ ys) stand lead less has lead_ys =
    let same : x ≡ y = same_first f n here x y ys stand.0 lead.0 less has lead_ys in
    let y_past = begins_past f here y has.stand.0 lead_ys.0 in
    let tail : HasPast y.header.max ys f = has_tail n y ys f (omega (arith, y_past)) has in
    let rest = front f x.header.max (after x) xs ys stand.1 lead.1 (omega arith)
    (subst (λ (z : Ltx). HasPast z.header.max ys f) (sym same) tail) (subst (λ (z : Ltx). LeadOn (after z) ys) (sym same) lead_ys.1) in
    record { rest = rest.rest; same = (λ i. sym same i ∷ rest.same i); has = rest.has; lead = rest.lead }

nothing_left : (f : Folder) (n : ℕ) (here : Pos) (xs rest : List Ltx) → AllStand f xs → LeadOn here xs → n ≤ here.txid → HasPast n xs f
    → HasPast (end_of here xs).txid rest f → LeadOn (end_of here xs) rest → rest ≡ []
nothing_left f n here xs [] stand lead less has_xs has lead_rest = refl
nothing_left f n here xs (r ∷ rest) stand lead less has_xs has lead_rest =
    let past = begins_past f (end_of here xs) r has.stand.0 lead_rest.0 in
    let later = end_after f here xs stand lead in
    let within = has_within f here xs r.header.min r.header.max stand lead (has_xs.only r.header.min r.header.max (omega (arith, past, later)) (stands_some f r has.stand.0)) in
    absurd (omega (arith, past, within))

append_nothing : (xs : List Ltx) → xs ++ [] ≡ xs
append_nothing [] = refl
append_nothing (x ∷ xs) = ap (λ (l : List Ltx). x ∷ l) (append_nothing xs)

pub one_level : (f : Folder) (n : ℕ) (here : Pos) (xs ys : List Ltx) → n ≤ here.txid → HasPast n xs f → HasPast n ys f → LeadOn here xs → LeadOn here ys → ys ≡ xs
one_level f n here xs ys less has_xs has_ys lead_xs lead_ys =
    let it = front f n here xs ys has_xs.stand lead_xs less has_ys lead_ys in
    it.same ∙ ap (λ (l : List Ltx). xs ++ l) (nothing_left f n here xs it.rest has_xs.stand lead_xs less has_xs it.has it.lead) ∙ append_nothing xs

pub grouped : (xs ys zs : List Ltx) → (xs ++ ys) ++ zs ≡ xs ++ (ys ++ zs)
grouped [] ys zs = refl
grouped (x ∷ xs) ys zs = ap (λ (l : List Ltx). x ∷ l) (grouped xs ys zs)

pub lead_highs : (levels : Levels) → LeadOn nowhere (chain levels) → LeadOn nowhere levels.highs
lead_highs levels joined = lead_front nowhere levels.highs levels.middles (lead_front nowhere (levels.highs ++ levels.middles) levels.lows joined)

pub lead_middles : (levels : Levels) → LeadOn nowhere (chain levels) → LeadOn (end_of nowhere levels.highs) levels.middles
lead_middles levels joined = lead_back nowhere levels.highs levels.middles (lead_front nowhere (levels.highs ++ levels.middles) levels.lows joined)

pub lead_lows : (levels : Levels) → LeadOn nowhere (chain levels) → LeadOn (end_of nowhere (levels.highs ++ levels.middles)) levels.lows
lead_lows levels joined = lead_back nowhere (levels.highs ++ levels.middles) levels.lows joined

one_by_files : (one other : Levels) (a b c : Folder) → HoldsFiles one a b c → HoldsFiles other a b c → other ≡ one
one_by_files one other a b c is also =
    let highs : other.highs ≡ one.highs =
    one_level c 0 nowhere one.highs other.highs (omega arith) is.highs also.highs (lead_highs one is.joined) (lead_highs other also.joined) in
    let middles : other.middles ≡ one.middles =
    one_level b (end_of nowhere one.highs).txid (end_of nowhere one.highs) one.middles other.middles (omega arith) is.middles
    (subst (λ (hs : List Ltx). HasPast (end_of nowhere hs).txid other.middles b) highs also.middles)
    (lead_middles one is.joined) (subst (λ (hs : List Ltx). LeadOn (end_of nowhere hs) other.middles) highs (lead_middles other also.joined)) in
    let both : other.highs ++ other.middles ≡ one.highs ++ one.middles = λ i. highs i ++ middles i in
    let lows : other.lows ≡ one.lows =
    one_level a (end_of nowhere (one.highs ++ one.middles)).txid (end_of nowhere (one.highs ++ one.middles)) one.lows other.lows (omega arith) is.lows
    (subst (λ (hs : List Ltx). HasPast (end_of nowhere hs).txid other.lows a) both also.lows)
    (lead_lows one is.joined) (subst (λ (hs : List Ltx). LeadOn (end_of nowhere hs) other.lows) both (lead_lows other also.joined)) in
    λ i. record { lows = lows i; middles = middles i; highs = highs i }

pub none_there : (o : Option (List ℕ)) (bytes : List ℕ) → o ≡ None → o ≡ Some bytes → ⊥
none_there o bytes none some = let here : None ≡ Some bytes = sym none ∙ some in absurd (cc)

one_encoding : (x y : List ℕ) → Some x ≡ Some y → x ≡ y
one_encoding x y same = cc

-- THREE FOLDERS HOLD ONE THING
pub one_holding : (one other : Levels) (a b c : Folder) → Holds one a b c → Holds other a b c → other ≡ one
one_holding one other a b c (inl is) (inl also) = one_by_files one other a b c is also
one_holding one other a b c (inl is) (inr also) = absurd (none_there (a Snapshot) also.encoding is.no_snapshot also.there)
one_holding one other a b c (inr is) (inl also) = absurd (none_there (a Snapshot) is.encoding also.no_snapshot is.there)
one_holding one other a b c (inr is) (inr also) =
    let encoding : also.encoding ≡ is.encoding = one_encoding also.encoding is.encoding (sym also.there ∙ is.there) in
    let file : also.file ≡ is.file = one_file also.encoding is.encoding also.file is.file encoding also.is is.is in
    also.alone ∙ ap (λ (x : Ltx). only_low x) file ∙ sym is.alone
