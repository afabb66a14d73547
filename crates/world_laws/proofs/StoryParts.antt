-- What the steps of the scenario need: where its stores are, what its files join, and its lineages.
use Rattle.std.proofs.Common.{◌≡◌, ◌≢◌, ℕ, ◌+◌, ◌-◌, ◌≤◌, true, eqb, [], ◌∷◌, length, Some, None, inl, inr, refl, sym, ap, subst, ◌∙◌, arith}
use Rattle.std.specs.List.{Contains}
use Rattle.std.proofs.lemmas.List.Elements.{Contains-push_cases}
use Rattle.std.proofs.lemmas.Bool.Decides.{nat_tests}
use Rattle.lf_base.specs.declared.pos.Pos.{Pos}
use Rattle.lf_sqlite_pages.specs.Image.{DatabaseImage, SameImage}
use Rattle.lf_sqlite_pages.specs.Change.{PageChange}
use Rattle.lf_sqlite_pages.specs.Apply.{apply, Fits}
use Rattle.ltx_codec.specs.Format.{IsFile}
use Rattle.ltx_codec.specs.declared.file.Ltx.{Ltx}
use Rattle.ltx_codec.specs.Positions.{Joins, after, sum_after}
use Rattle.ltx_codec.specs.Sums.{image_sum}
use Rattle.world_laws.specs.Answers.{Knows, call_of, snapshot_of}
use Rattle.world_laws.specs.Lineage.{Lineage, image_of, position_of}
use Rattle.world_laws.specs.Node.{NodeState, Primary, Replica}
use Rattle.world_laws.specs.Premises.{OneImagePerPosition}
use Rattle.world_laws.specs.Scenario.{store_of}
use Rattle.world_laws.specs.Served.{untouched}
use Rattle.world_laws.specs.Store.{CanDo, Commit, Install, StoreState, at, empty_store, installed}
use Rattle.world_laws.proofs.Actors.{IsFirst, IsSecond}
use Rattle.world_laws.proofs.Calls.{pos_of_parts}
use Rattle.world_laws.proofs.CatchUp.{snapshot-end, snapshot-image}
use Rattle.world_laws.proofs.Images.{apply-same}
use Rattle.world_laws.proofs.Lineages.{image_of-nothing, image_of-push, position_of-push, txid_of}
use Rattle.world_laws.proofs.Scenes.{empty-three, node, three}
use Rattle.world_laws.proofs.SnapshotFile.{snapshot-sound}
use Rattle.world_laws.proofs.Stores.{end_of-none, end_of-one}

pub call-first : (store : StoreState) (file : Ltx) → file.header.min ≡ 1 → call_of store file ≡ Install file
call-first store file first =
    let test : eqb file.header.min 1 ≡ true = grind (arith, nat_tests) in
    rw test

pub replica_primary : Replica ≡ Primary → ⊥
replica_primary same = cc

pub empty-at : (k : ℕ) → let n : NodeState = three (node Primary empty_store None) (node Replica empty_store None) (node Primary empty_store None) k in
    ((n.store ≡ empty_store) × (n.failed ≡ None)) × (n.served ≡ untouched empty_store.image)
empty-at k = elim (empty-three k) [
  | inl primary ↦ subst (λ (n : NodeState). ((n.store ≡ empty_store) × (n.failed ≡ None)) × (n.served ≡ untouched empty_store.image)) (sym primary) ((refl, refl), refl)
  | inr replica ↦ subst (λ (n : NodeState). ((n.store ≡ empty_store) × (n.failed ≡ None)) × (n.served ≡ untouched empty_store.image)) (sym replica) ((refl, refl), refl)
]

-- where the store of a first file is
pub at-first : (file : Ltx) → at (store_of file) ≡ after file
at-first file = end_of-one file

pub position-first : (file : Ltx) → IsFirst file → position_of (file.change ∷ []) ≡ after file
position-first file first =
    let sum : image_sum (apply (image_of []) file.change) ≡ file.post = ap (λ (i : DatabaseImage). sum_after i file) image_of-nothing ∙ first.joins.sum in
    position_of-push [] file.change ∙ pos_of_parts (record { txid = 0 + 1; sum = image_sum (apply (image_of []) file.change) }) (after file) (sym first.max) sum

pub image-first : (file : Ltx) → image_of (file.change ∷ []) ≡ (store_of file).image
image-first file = image_of-push [] file.change ∙ ap (λ (i : DatabaseImage). apply i file.change) image_of-nothing

pub position-second : (first file : Ltx) → IsFirst first → IsSecond first file → position_of (first.change ∷ file.change ∷ []) ≡ after file
position-second first file is second =
    let sum : image_sum (apply (image_of (first.change ∷ [])) file.change) ≡ file.post = ap (λ (i : DatabaseImage). sum_after i file) (image-first first) ∙ second.joins.sum in
    position_of-push (first.change ∷ []) file.change
    ∙ pos_of_parts (record { txid = 1 + 1; sum = image_sum (apply (image_of (first.change ∷ [])) file.change) }) (after file) (sym second.max) sum

-- the store of a first file lacks where another one leads
pub lacks-other : (here there : Ltx) → IsFirst here → IsFirst there → after here ≢ after there → Knows (store_of here) (after there) None → ⊥
lacks-other here there is other differ (inl (_, inl same)) = differ (sym (same ∙ at-first here))
lacks-other here there is other differ (inl (_, inr known)) = elim (Contains-push_cases [] here known.0 known.1) [
  | inl none_at ↦ omega (arith, none_at.1)
  | inr same ↦
      let txid : here.header.min - 1 ≡ there.header.max = ap (λ (f : Ltx). f.header.min - 1) same ∙ ap (λ (p : Pos). p.txid) known.2 in
      omega (arith, txid, is.min, other.max)
]
lacks-other here there is other differ (inr blank) = cc

pub some-first : (file : Ltx) → IsFirst file → 1 ≤ (at (store_of file)).txid
some-first file first = first.full.some

-- the lineages of the story
pub data InStory (lost won next : Ltx) : Lineage → Type 0 where
  nothing_yet : InStory lost won next []
  of_lost : InStory lost won next (lost.change ∷ [])
  of_won : InStory lost won next (won.change ∷ [])
  of_next : InStory lost won next (won.change ∷ next.change ∷ [])

pub in-story : (lost won next : Ltx) (line : Lineage) → Contains ([] ∷ (lost.change ∷ []) ∷ (won.change ∷ []) ∷ (won.change ∷ next.change ∷ []) ∷ []) line → InStory lost won next line
in-story lost won next line here = elim (Contains-push_cases ([] ∷ (lost.change ∷ []) ∷ (won.change ∷ []) ∷ []) (won.change ∷ next.change ∷ []) line here) [
  | inr same ↦ subst (λ (l : Lineage). InStory lost won next l) same of_next
  | inl more ↦ elim (Contains-push_cases ([] ∷ (lost.change ∷ []) ∷ []) (won.change ∷ []) line more) [
    | inr same ↦ subst (λ (l : Lineage). InStory lost won next l) same of_won
    | inl less ↦ elim (Contains-push_cases ([] ∷ []) (lost.change ∷ []) line less) [
      | inr same ↦ subst (λ (l : Lineage). InStory lost won next l) same of_lost
      | inl first ↦ elim (Contains-push_cases [] [] line first) [
        | inr same ↦ subst (λ (l : Lineage). InStory lost won next l) same nothing_yet
        | inl none_at ↦ absurd (omega (arith, none_at.1))
      ]
    ]
  ]
]

pub lengths-same : (one other : Lineage) → position_of one ≡ position_of other → length one ≡ length other
lengths-same one other same = sym (txid_of one) ∙ ap (λ (p : Pos). p.txid) same ∙ txid_of other

pub pairs : {lost won next : Ltx} (one other : Lineage) → IsFirst lost → IsFirst won → after lost ≢ after won → InStory lost won next one → InStory lost won next other → position_of one ≡ position_of other →
    SameImage (image_of one) (image_of other)
pairs one other l w differ nothing_yet nothing_yet same = refl
pairs one other l w differ of_lost of_lost same = refl
pairs one other l w differ of_won of_won same = refl
pairs one other l w differ of_next of_next same = refl
pairs {lost = lost} {won = won} one other l w differ of_lost of_won same = absurd (differ (sym (position-first lost l) ∙ same ∙ position-first won w))
pairs {lost = lost} {won = won} one other l w differ of_won of_lost same = absurd (differ (sym (position-first lost l) ∙ sym same ∙ position-first won w))
pairs one other l w differ nothing_yet of_lost same = absurd (let n = lengths-same one other same in omega (arith, n))
pairs one other l w differ nothing_yet of_won same = absurd (let n = lengths-same one other same in omega (arith, n))
pairs one other l w differ nothing_yet of_next same = absurd (let n = lengths-same one other same in omega (arith, n))
pairs one other l w differ of_lost nothing_yet same = absurd (let n = lengths-same one other same in omega (arith, n))
pairs one other l w differ of_lost of_next same = absurd (let n = lengths-same one other same in omega (arith, n))
pairs one other l w differ of_won nothing_yet same = absurd (let n = lengths-same one other same in omega (arith, n))
pairs one other l w differ of_won of_next same = absurd (let n = lengths-same one other same in omega (arith, n))
pairs one other l w differ of_next nothing_yet same = absurd (let n = lengths-same one other same in omega (arith, n))
pairs one other l w differ of_next of_lost same = absurd (let n = lengths-same one other same in omega (arith, n))
pairs one other l w differ of_next of_won same = absurd (let n = lengths-same one other same in omega (arith, n))

pub one-image : (lost won next : Ltx) → IsFirst lost → IsFirst won → after lost ≢ after won → OneImagePerPosition ([] ∷ (lost.change ∷ []) ∷ (won.change ∷ []) ∷ (won.change ∷ next.change ∷ []) ∷ [])
one-image lost won next l w differ one other one_there other_there same =
    pairs one other l w differ (in-story lost won next one one_there) (in-story lost won next other other_there) same

-- the snapshot of the store of a first file, installed
abbrev pub copy_of : Ltx → StoreState
copy_of file = installed (snapshot_of (store_of file))

pub copy-at : (file : Ltx) → at (copy_of file) ≡ after file
copy-at file = snapshot-end (store_of file) ∙ at-first file

pub snapshot-sent : (file : Ltx) → IsFirst file → IsFile (snapshot_of (store_of file))
snapshot-sent file first = snapshot-sound (store_of file) first.full

-- a first file joins an empty store
pub can-commit-first : (file : Ltx) → IsFirst file → CanDo empty_store (Commit file)
can-commit-first file first = (first.sound, record { next = first.joins.next ∙ sym end_of-none; fits = first.joins.fits; sum = first.joins.sum }, first.max ∙ sym first.min)

-- the second joins the store of the first, and its copy
pub joins-store : (first file : Ltx) → IsSecond first file → Joins (store_of first).image (at (store_of first)) file
joins-store first file second = record { next = second.joins.next ∙ sym (at-first first); fits = second.joins.fits; sum = second.joins.sum }

pub copy-size : (file : Ltx) → (copy_of file).image.page_size ≡ (store_of file).image.page_size
unfolding snapshot_of
copy-size file = refl

-- what fits an image fits another of its pages and its page size
pub fits-copy : (one other : DatabaseImage) (change : PageChange) → SameImage other one → other.page_size ≡ one.page_size → Fits one change → Fits other change
fits-copy one other change same size (inl fits) = inl (size ∙ fits)
fits-copy one other change same size (inr (inl none)) = inr (inl (same ∙ none))
fits-copy one other change same size (inr (inr every)) = inr (inr every)

pub some_same : (one other : Ltx) → Some one ≡ Some other → one ≡ other
some_same one other same = cc

pub joins-copy : (first file : Ltx) → IsFirst first → IsSecond first file → Joins (copy_of first).image (at (copy_of first)) file
joins-copy first file is second =
    let same : SameImage (copy_of first).image (store_of first).image = snapshot-image (store_of first) is.full.image in
    record {
      next = second.joins.next ∙ sym (copy-at first);
      fits = fits-copy (store_of first).image (copy_of first).image file.change same (copy-size first) second.joins.fits;
      sum = ap image_sum (apply-same (copy_of first).image (store_of first).image file.change same) ∙ second.joins.sum;
    }
