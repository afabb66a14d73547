-- Lineages that go on by a change.
use Rattle.std.proofs.Common.{◌≡◌, ℕ, ◌+◌, ◌<◌, ◌≤◌, eqb, false, List, [], ◌∷◌, ◌++◌, length, refl, sym, ap, ◌∙◌, arith, length-append}
use Rattle.std.specs.List.{Contains}
use Rattle.std.proofs.lemmas.List.Sums.{fold-append}
use Rattle.std.proofs.lemmas.Bool.Decides.{nat_tests}
use Rattle.lf_base.specs.declared.pos.Pos.{Pos}
use Rattle.lf_sqlite_pages.specs.Image.{DatabaseImage, empty_image}
use Rattle.lf_sqlite_pages.specs.Change.{PageChange}
use Rattle.lf_sqlite_pages.specs.Apply.{apply}
use Rattle.ltx_codec.specs.declared.file.Ltx.{Ltx}
use Rattle.ltx_codec.specs.Positions.{after, before, nowhere}
use Rattle.ltx_codec.specs.Sums.{image_sum}
use Rattle.world_laws.specs.Lineage.{IsAccepted, IsCommitted, IsOfTree, Lineage, Names, image_of, position_at, position_of, whole_file}
use Rattle.world_laws.specs.Premises.{OneImagePerPosition}
use Rattle.world_laws.proofs.Images.{apply-same}

pub image_of-push : (lineage : Lineage) (change : PageChange) → image_of (lineage ++ change ∷ []) ≡ apply (image_of lineage) change
unfolding image_of
image_of-push lineage change = fold-append apply empty_image lineage (change ∷ [])

pub image_of-nothing : image_of [] ≡ empty_image
unfolding image_of
image_of-nothing = refl

position_at-some : (count : ℕ) (image : DatabaseImage) → 0 < count → position_at count image ≡ record { txid = count; sum = image_sum image }
unfolding position_at
position_at-some count image some =
    let test : eqb count 0 ≡ false = grind (arith, nat_tests) in
    rw test

position_at-none : (image : DatabaseImage) → position_at 0 image ≡ nowhere
unfolding position_at
position_at-none image = refl

pub txid_of : (lineage : Lineage) → (position_of lineage).txid ≡ length lineage
txid_of [] = ap (λ (p : Pos). p.txid) (position_at-none (image_of []))
txid_of (c ∷ cs) = ap (λ (p : Pos). p.txid) (position_at-some (length (c ∷ cs)) (image_of (c ∷ cs)) (omega arith))

pub position_of-push : (lineage : Lineage) (change : PageChange) →
    position_of (lineage ++ change ∷ []) ≡ record { txid = length lineage + 1; sum = image_sum (apply (image_of lineage) change) }
position_of-push lineage change =
    let count : length (lineage ++ change ∷ []) ≡ length lineage + 1 = omega (arith, length-append lineage (change ∷ [])) in
    let some : position_of (lineage ++ change ∷ []) ≡ record { txid = length (lineage ++ change ∷ []); sum = image_sum (image_of (lineage ++ change ∷ [])) } =
    position_at-some (length (lineage ++ change ∷ [])) (image_of (lineage ++ change ∷ [])) (omega (arith, count)) in
    some ∙ ap (λ (n : ℕ). let p : Pos = record { txid = n; sum = image_sum (image_of (lineage ++ change ∷ [])) } in p) count
    ∙ ap (λ (i : DatabaseImage). let p : Pos = record { txid = length lineage + 1; sum = image_sum i } in p) (image_of-push lineage change)

none_of_length : (lineage : Lineage) → length lineage ≡ 0 → lineage ≡ []
none_of_length [] none = refl
none_of_length (c ∷ cs) none = absurd (omega arith)

-- the lineage at transaction 0 is the one of no transaction
pub at_nothing : (lineage : Lineage) → (position_of lineage).txid ≡ 0 → lineage ≡ []
at_nothing lineage none = none_of_length lineage (sym (txid_of lineage) ∙ none)

pub position_of-nothing : position_of [] ≡ nowhere
position_of-nothing = position_at-none (image_of [])

-- a tree that has each lineage of another
abbrev pub Extends : List Lineage → List Lineage → Type 0
Extends tree more = (lineage : Lineage) → Contains tree lineage → Contains more lineage

pub Names-more : (tree more : List Lineage) (position : Pos) (image : DatabaseImage) → Extends tree more → Names tree position image → Names more position image
Names-more tree more position image extends named = record {
  lineage = named.lineage;
  stands = extends named.lineage named.stands;
  position_is = named.position_is;
  image_is = named.image_is;
}

pub IsOfTree-more : (tree more : List Lineage) (file : Ltx) → Extends tree more → IsOfTree tree file → IsOfTree more file
IsOfTree-more tree more file extends of = record {
  from = of.from;
  to = of.to;
  from_stands = extends of.from of.from_stands;
  to_stands = extends of.to of.to_stands;
  from_at = of.from_at;
  to_at = of.to_at;
  suits = of.suits;
  leads = of.leads;
  sum = of.sum;
}

pub One-fewer : (tree more : List Lineage) → Extends tree more → OneImagePerPosition more → OneImagePerPosition tree
One-fewer tree more extends one a b a_stands b_stands same = one a b (extends a a_stands) (extends b b_stands) same

-- a file of the tree that follows a named position leads on to one
pub Names-next : (tree : List Lineage) (position : Pos) (image : DatabaseImage) (file : Ltx) → OneImagePerPosition tree → Names tree position image →
    IsOfTree tree file → before file ≡ position → Names tree (after file) (apply image file.change)
Names-next tree position image file one named of joins = record {
  lineage = of.to;
  stands = of.to_stands;
  position_is = of.to_at;
  image_is = of.leads ∙ ap (λ (i : DatabaseImage). i.pages) (apply-same (image_of of.from) image file.change (one of.from named.lineage of.from_stands named.stands (of.from_at ∙ joins ∙ sym named.position_is) ∙ named.image_is));
}

-- a snapshot of the tree leads to a named position from nothing
pub Names-snapshot : (tree : List Lineage) (file : Ltx) → IsOfTree tree file → (before file).txid ≡ 0 → Names tree (after file) (apply empty_image file.change)
Names-snapshot tree file of none =
    let nothing : of.from ≡ [] = at_nothing of.from (ap (λ (p : Pos). p.txid) of.from_at ∙ none) in
    let image : image_of of.from ≡ empty_image = ap image_of nothing ∙ image_of-nothing in
    record {
      lineage = of.to;
      stands = of.to_stands;
      position_is = of.to_at;
      image_is = of.leads ∙ ap (λ (i : DatabaseImage). (apply i file.change).pages) image;
    }

pub Committed-of_tree : (tree : List Lineage) (file : Ltx) → IsCommitted tree file → IsOfTree tree file
Committed-of_tree tree file is = record {
  from = is.lineage;
  to = is.lineage ++ file.change ∷ [];
  from_stands = is.stands;
  to_stands = is.goes_on;
  from_at = is.before_at;
  to_at = is.after_at;
  suits = is.suits;
  leads = ap (λ (i : DatabaseImage). i.pages) (image_of-push is.lineage file.change);
  sum = ap (λ (p : Pos). p.sum) (sym (position_of-push is.lineage file.change) ∙ is.after_at);
}

pub Committed-more : (tree more : List Lineage) (file : Ltx) → Extends tree more → IsCommitted tree file → IsCommitted more file
Committed-more tree more file extends is = record {
  lineage = is.lineage;
  stands = extends is.lineage is.stands;
  goes_on = extends (is.lineage ++ file.change ∷ []) is.goes_on;
  before_at = is.before_at;
  suits = is.suits;
  after_at = is.after_at;
}

pub Accepted-more : (tree more : List Lineage) (file : Ltx) → Extends tree more → IsAccepted tree file → IsAccepted more file
unfolding Committed-more
Accepted-more tree more file extends was = record { count = was.count; is = Committed-more tree more (whole_file was.count file) extends was.is; over = was.over }

pub sum_of : (lineage : Lineage) → 1 ≤ length lineage → (position_of lineage).sum ≡ image_sum (image_of lineage)
sum_of lineage some = ap (λ (p : Pos). p.sum) (position_at-some (length lineage) (image_of lineage) some)
