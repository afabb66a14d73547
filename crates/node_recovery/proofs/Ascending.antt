-- Names that are listed in order, each once, are those of the folder's log.
use Rattle.std.proofs.Common.{◌≡◌, ◌⊎◌, inl, inr, ℕ, suc, ◌^◌, ◌<◌, ◌≤◌, Bool, true, false, cond, eqb-true, eq-eqb, Option, Some, None, IsSome, List, [], ◌∷◌, length, get_or, refl, sym, ◌∙◌, subst, arith}
use Rattle.std.specs.Prelude.{◌==◌, ◌&&◌}
use Rattle.std.proofs.Props.{props}
use Rattle.std.proofs.Math.Logic.{∥∥₁_elim}
use Rattle.std.proofs.lemmas.Bool.{cases_Bool, and_parts, and_from, false≢true}
use Rattle.std.proofs.lemmas.Map.Keys.{IsDistinct-tail, apart_from_distinct}
use Rattle.lf_disk.specs.declared.name.FileName.TheVariants.{Ltx as LtxName}
use Rattle.lf_disk.specs.Folder.{Folder}
use Rattle.ltx_codec.specs.Format.{IsLtx}
use Rattle.txn_log.specs.declared.entry.Entry.{Entry}
use Rattle.txn_log.specs.Kept.{LogFile, file_of, encoding_of, Ascends}
use Rattle.txn_log.specs.Durable.{IsEncoding, IsLog}
use Rattle.txn_log.specs.Store.{files_in}
use Rattle.txn_log.proofs.Stores.{encoding_from}
use Rattle.lf_disk.proofs.Listings.{order_back, once_back}
use Rattle.node_recovery.specs.Listing.{numbers_of, AreListed}
use Rattle.node_recovery.proofs.Listings.{Found, found, Has, place_of, same_numbers, AreInOrder, AreOnce}

-- a file with these numbers is there
abbrev IsIn : List LogFile → ℕ → ℕ → Type 0
IsIn [] a b = ⊥
IsIn (g ∷ gs) a b = ((g.min ≡ a) × (g.max ≡ b)) ⊎ IsIn gs a b

is_in : (known : Option (List ℕ)) (files : List LogFile) (a b : ℕ) → IsSome (encoding_from known files a b) → IsSome known ⊎ IsIn files a b
is_in known [] a b some = inl some
is_in known (g ∷ gs) a b some = elim (is_in (cond (a == g.min && b == g.max) (Some g.encoding) known) gs a b some) [
  | inr later ↦ inr (inr later)
  | inl here ↦ elim (cases_Bool (a == g.min && b == g.max)) [
    | inl is ↦
        let both = and_parts (a == g.min) (b == g.max) is in
        inr (inl (sym (eqb-true a g.min both.0), sym (eqb-true b g.max both.1)))
    | inr isnt ↦ inl (subst (λ (x : Bool). IsSome (cond x (Some g.encoding) known)) isnt here)
  ]
]

bounds : (number : ℕ) (files : List LogFile) (a b : ℕ) → Ascends number files → IsIn files a b → (number < a) × (a ≤ b)
bounds number [] a b ascends is = absurd is
bounds number (g ∷ gs) a b ascends (inl is) = (omega (arith, ascends.0, is.0), omega (arith, ascends.1, is.0, is.1))
bounds number (g ∷ gs) a b ascends (inr later) =
    let more = bounds g.max gs a b ascends.2 later in
    (omega (arith, ascends.0, ascends.1, more.0), more.1)

-- two of them are the same, or stand one after the other
apart : (number : ℕ) (files : List LogFile) (a b c d : ℕ) → Ascends number files → IsIn files a b → IsIn files c d → ((a ≡ c) × (b ≡ d)) ⊎ ((b < c) ⊎ (d < a))
apart number [] a b c d ascends one two = absurd one
apart number (g ∷ gs) a b c d ascends (inl one) (inl two) = inl (sym one.0 ∙ two.0, sym one.1 ∙ two.1)
apart number (g ∷ gs) a b c d ascends (inl one) (inr two) = inr (inl (omega (arith, one.1, (bounds g.max gs c d ascends.2 two).0)))
apart number (g ∷ gs) a b c d ascends (inr one) (inl two) = inr (inr (omega (arith, two.1, (bounds g.max gs a b ascends.2 one).0)))
apart number (g ∷ gs) a b c d ascends (inr one) (inr two) = apart g.max gs a b c d ascends.2 one two

narrow : (files : List LogFile) (a b : ℕ) → ((k : ℕ) (x : LogFile) → k < length files → (get_or files k x).max < 2 ^ 64) → IsIn files a b → b < 2 ^ 64
narrow [] a b all is = absurd is
narrow (g ∷ gs) a b all (inl is) = let here : g.max < 2 ^ 64 = all 0 g (omega arith) in omega (arith, is.1, here)
narrow (g ∷ gs) a b all (inr later) = narrow gs a b (λ k x within. all (suc k) x (omega (arith, within))) later

width : (encoding : List ℕ) → IsEncoding encoding → (file_of encoding).header.max < 2 ^ 64
width encoding is = ∥∥₁_elim is (hlevel props) (λ (it : IsLtx encoding (file_of encoding)). it.valid.header.widths.max)

module _ (files : List LogFile) (sound : IsLog files) (f : Folder) where
  -- what is listed behind an entry stands after it
  behind : (e : Entry) (es : List Entry) (a b : ℕ) → IsIn files e.min e.max → IsIn files a b → AreInOrder (e ∷ es) → AreOnce (e ∷ es) → Has es a b → e.max < a
  behind e es a b one two order once has =
      let at : Found es a b = found es a b has in
      let k = at.there.0 in
      let x = at.entry in
      let placed : place_of e ≤ place_of x = subst (λ (y : Entry). place_of e ≤ place_of y) at.there.2 (order 0 (suc k) x (omega arith) (omega (arith, at.there.1))) in
      let differ : same_numbers e x ≡ false = subst (λ (y : Entry). same_numbers e y ≡ false) at.there.2 (apart_from_distinct same_numbers (e ∷ es) 0 (suc k) x once (omega arith) (omega (arith, at.there.1))) in
      elim (apart 0 files e.min e.max a b sound.ascends one two) [
        | inl same ↦
            let test : same_numbers e x ≡ true = and_from (e.min == x.min) (e.max == x.max) (eq-eqb e.min x.min (same.0 ∙ sym at.min_is)) (eq-eqb e.max x.max (same.1 ∙ sym at.max_is)) in
            absurd (false≢true (sym differ ∙ test))
        | inr other ↦ elim other [
          | inl after ↦ after
          | inr before ↦
              let short : b < 2 ^ 64 = narrow files a b (λ n y within. subst (λ (m : ℕ). m < 2 ^ 64) (sound.max n y within) (width (get_or files n y).encoding (sound.encodings n y within))) two in
              let order_of : a ≤ b = (bounds 0 files a b sound.ascends two).1 in
              absurd (omega (arith, placed, at.min_is, at.max_is, before, order_of, short))
        ]
      ]

  ascends_in : (number : ℕ) (es : List Entry) → ((a b : ℕ) → Has es a b → IsIn files a b × (number < a)) → AreInOrder es → AreOnce es → Ascends number (files_in es f)
  ascends_in number [] all order once = tt
  ascends_in number (e ∷ es) all order once =
      let here = all e.min e.max (inl (refl, refl)) in
      let order_later : AreInOrder es = λ i j d le within. order (suc i) (suc j) d (omega (arith, le)) (omega (arith, within)) in (
        here.1,
        (bounds 0 files e.min e.max sound.ascends here.0).1,
        ascends_in e.max es
            (λ a b has. let there = (all a b (inr has)).0 in (there, behind e es a b here.0 there order once has)) order_later (IsDistinct-tail same_numbers e es once),
      )

pub ascends_listed : (names : List Entry) (f : Folder) (files : List LogFile) → AreListed names f → IsLog files → ((a b : ℕ) → f (LtxName a b) ≡ encoding_of files a b) → Ascends 0 (files_in names f)
ascends_listed names f files listed sound log =
    ascends_in files sound f 0 names
    (λ a b has.
    let some : IsSome (encoding_of files a b) = subst (λ (o : Option (List ℕ)). IsSome o) (log a b) (listed.there a b has) in
    elim (is_in None files a b some) [
      | inl none ↦ absurd (false≢true none)
      | inr there ↦ (there, (bounds 0 files a b sound.ascends there).0)
    ])
    (order_back numbers_of names listed.order) (once_back numbers_of names listed.once)
