-- What calls on a store keep.
use Rattle.std.proofs.Common.{◌≡◌, ℕ, ◌+◌, ◌-◌, ◌≤◌, List, [], ◌∷◌, ◌++◌, length, drop, Option, inl, inr, refl, sym, ap, subst, ◌∙◌, arith, ◌<◌, ◌^◌, Bool, true, false}
use Rattle.std.specs.List.{Contains}
use Rattle.std.proofs.lemmas.List.Elements.{Contains-append_left, Contains-push, Contains-push_cases}
use Rattle.lf_base.specs.declared.pos.Pos.{Pos}
use Rattle.lf_sqlite_pages.specs.Image.{DatabaseImage, empty_image, SameImage}
use Rattle.lf_sqlite_pages.specs.Change.{IsChange}
use Rattle.lf_sqlite_pages.specs.Apply.{apply}
use Rattle.ltx_codec.specs.Format.{IsFile}
use Rattle.ltx_codec.specs.declared.file.Ltx.{Ltx}
use Rattle.ltx_codec.specs.Positions.{Joins, after, before, sum_after}
use Rattle.ltx_codec.specs.Sums.{image_sum}
use Rattle.world_laws.specs.declared.last_file.LastFile.{LastFile}
use Rattle.world_laws.specs.Answers.{Owes, by_doubt, by_file, by_run, by_snapshot, completed_over, snapshot_of}
use Rattle.world_laws.specs.Lineage.{IsAccepted, IsCommitted, IsOfTree, Lineage, Names, Suits, image_of, position_of}
use Rattle.world_laws.specs.Premises.{OneImagePerPosition}
use Rattle.world_laws.specs.Safe.{IsAllowed, IsSendable, TakesOfTree}
use Rattle.world_laws.specs.Store.{Apply, CanDo, CanDoAll, Commit, DropAll, Install, LeadTo, PruneTo, StoreCall, StoreState, all_done, at, done, end_of, installed, with_file, without_front}
use Rattle.world_laws.specs.World.{Grown, GrowsAlong, GrowsBy}
use Rattle.world_laws.proofs.Compacted.{run-sendable}
use Rattle.world_laws.proofs.Images.{IsImage-apply, IsImage-empty, apply-same, suits-of}
use Rattle.world_laws.proofs.Lineages.{Committed-of_tree, Extends, IsOfTree-more, Names-more, Names-next, Names-snapshot, One-fewer, at_nothing, image_of-nothing, position_of-nothing, position_of-push, txid_of}
use Rattle.world_laws.proofs.Snapshots.{whole-same, whole-sum}
use Rattle.world_laws.proofs.Stores.{Contains-drop, LeadTo-drop, LeadTo-push, drop-nothing, end_of-none, end_of-one, end_of-pruned, end_of-push}

pub Sendable-more : (tree more : List Lineage) (file : Ltx) → Extends tree more → IsSendable tree file → IsSendable more file
Sendable-more tree more file extends may = record { of_tree = IsOfTree-more tree more file extends may.of_tree; sound = may.sound }

pub Allowed-more : (tree more : List Lineage) (store : StoreState) → Extends tree more → IsAllowed tree store → IsAllowed more store
Allowed-more tree more store extends allowed = record {
  image = allowed.image;
  named = Names-more tree more (at store) store.image extends allowed.named;
  files = λ file here. Sendable-more tree more file extends (allowed.files file here);
  joined = allowed.joined;
  sum = allowed.sum;
  marked = allowed.marked;
}

change_of : (file : Ltx) → IsFile file → IsChange file.change
change_of file sound = sound.block.pages

commit-small : (file : Ltx) → IsFile file → file.change.commit < 2 ^ 32
commit-small file sound = rw sound.block.commit sound.header.widths.commit

not_marked : {T : Type 0} → false ≡ true → T
not_marked same = cc

-- a file of the tree that joins
Allowed-with_file : (tree : List Lineage) (store : StoreState) (file : Ltx) → OneImagePerPosition tree → IsAllowed tree store → IsSendable tree file →
    Joins store.image (at store) file → IsAllowed tree (with_file store file)
Allowed-with_file tree store file one allowed of joins =
    let end : end_of (store.log ++ file ∷ []) ≡ after file = end_of-push store.log file in
    record {
      image = IsImage-apply store.image file.change allowed.image (change_of file of.sound) joins.fits (commit-small file of.sound);
      named = subst (λ (p : Pos). Names tree p (apply store.image file.change)) (sym end) (Names-next tree (at store) store.image file one allowed.named of.of_tree joins.next);
      files = λ f here. elim (Contains-push_cases store.log file f here) [
        | inl old ↦ allowed.files f old
        | inr same ↦ subst (λ (g : Ltx). IsSendable tree g) same of
      ];
      joined = (allowed.joined.0, subst (λ (p : Pos). LeadTo allowed.joined.0 (store.log ++ file ∷ []) p) (sym end) (LeadTo-push allowed.joined.0 (at store) store.log file allowed.joined.1 joins.next));
      sum = λ some. ap (λ (p : Pos). p.sum) end ∙ sym joins.sum;
      marked = λ marked. not_marked marked;
    }

not_written : {T : Type 0} → 1 ≤ (end_of []).txid → T
not_written some = let none : (end_of []).txid ≡ 0 = ap (λ (p : Pos). p.txid) end_of-none in absurd (omega (arith, none, some))

Allowed-installed : (tree : List Lineage) (file : Ltx) → IsSendable tree file → file.header.min ≡ 1 → IsAllowed tree (installed file)
Allowed-installed tree file of first =
    let end : end_of (file ∷ []) ≡ after file = end_of-one file in
    let nothing : of.of_tree.from ≡ [] = at_nothing of.of_tree.from (ap (λ (p : Pos). p.txid) of.of_tree.from_at ∙ omega (arith, first)) in
    let image : image_of of.of_tree.from ≡ empty_image = ap image_of nothing ∙ image_of-nothing in
    record {
      image = IsImage-apply empty_image file.change IsImage-empty (change_of file of.sound) (inr (inl refl)) (commit-small file of.sound);
      named = subst (λ (p : Pos). Names tree p (apply empty_image file.change)) (sym end) (Names-snapshot tree file of.of_tree (omega (arith, first)));
      files = λ f here. elim (Contains-push_cases [] file f here) [
        | inl none_at ↦ absurd (omega (arith, none_at.1))
        | inr same ↦ subst (λ (g : Ltx). IsSendable tree g) same of
      ];
      joined = (before file, (refl, sym end));
      sum = λ some. ap (λ (p : Pos). p.sum) end ∙ sym of.of_tree.sum ∙ ap (λ (i : DatabaseImage). sum_after i file) image;
      marked = λ marked. not_marked marked;
    }

-- any suffix of the log with at least one file, if the log has one, is allowed with the same image
pub Allowed-pruned : (tree : List Lineage) (store : StoreState) (count keep : ℕ) → 1 ≤ keep → count ≤ length store.log - keep → IsAllowed tree store → IsAllowed tree (without_front store count)
Allowed-pruned tree store count keep some within allowed =
    let end : end_of (drop count store.log) ≡ at store = end_of-pruned count keep store.log some within in
    let led = LeadTo-drop allowed.joined.0 (at store) count store.log allowed.joined.1 in
    record {
      image = allowed.image;
      named = subst (λ (p : Pos). Names tree p store.image) (sym end) allowed.named;
      files = λ f here. allowed.files f (Contains-drop count store.log f here);
      joined = (led.0, subst (λ (p : Pos). LeadTo led.0 (drop count store.log) p) (sym end) led.1);
      sum = λ written. ap (λ (p : Pos). p.sum) end ∙ allowed.sum (subst (λ (p : Pos). 1 ≤ p.txid) end written);
      marked = λ marked. drop-nothing count store.log (allowed.marked marked);
    }

-- a store of nothing, marked or not
pub Allowed-nothing : (tree : List Lineage) (dropped : Bool) → Contains tree [] → IsAllowed tree (record { image = empty_image; log = []; dropped = dropped })
Allowed-nothing tree dropped never = record {
  image = IsImage-empty;
  named = record { lineage = []; stands = never; position_is = position_of-nothing ∙ sym end_of-none; image_is = ap (λ i. i.pages) image_of-nothing };
  files = λ file here. absurd (omega (arith, here.1));
  joined = (end_of [], refl);
  sum = λ some. absurd (not_written some);
  marked = λ marked. refl;
}

same-extends : (tree more : List Lineage) → more ≡ tree → Extends tree more
same-extends tree more same lineage here = subst (λ (t : List Lineage). Contains t lineage) (sym same) here

Grown-extends : (tree : List Lineage) (store : StoreState) (file : Ltx) (more : List Lineage) → Grown tree store file more → Extends tree more
Grown-extends tree store file more grown lineage here =
    subst (λ (t : List Lineage). Contains t lineage) (sym grown.is) (Contains-append_left tree ((grown.lineage ++ file.change ∷ []) ∷ []) lineage here)

-- the lineage that a commit adds
pub Grown-new : (tree : List Lineage) (store : StoreState) (file : Ltx) (more : List Lineage) (grown : Grown tree store file more) → Contains more (grown.lineage ++ file.change ∷ [])
Grown-new tree store file more grown =
    subst (λ (t : List Lineage). Contains t (grown.lineage ++ file.change ∷ [])) (sym grown.is) (Contains-push tree (grown.lineage ++ file.change ∷ []))

pub GrowsBy-extends : (tree : List Lineage) (store : StoreState) (call : StoreCall) (more : List Lineage) → GrowsBy tree store call more → Extends tree more
GrowsBy-extends tree store (Commit file) more grows = Grown-extends tree store file more grows
GrowsBy-extends tree store (Apply file) more grows = same-extends tree more grows
GrowsBy-extends tree store (Install file) more grows = same-extends tree more grows
GrowsBy-extends tree store (PruneTo keep) more grows = same-extends tree more grows
GrowsBy-extends tree store DropAll more grows = same-extends tree more grows

pub GrowsAlong-extends : (tree : List Lineage) (store : StoreState) (calls : List StoreCall) (grown : List Lineage) → GrowsAlong tree store calls grown → Extends tree grown
GrowsAlong-extends tree store [] grown grows = same-extends tree grown grows
GrowsAlong-extends tree store (call ∷ calls) grown grows = λ lineage here.
    GrowsAlong-extends grows.0 (done store call) calls grown grows.2 lineage (GrowsBy-extends tree store call grows.0 grows.1 lineage here)

pub pos_of_parts : (p q : Pos) → p.txid ≡ q.txid → p.sum ≡ q.sum → p ≡ q
pos_of_parts p q txid sum = ap (λ (n : ℕ). let r : Pos = record { txid = n; sum = p.sum } in r) txid ∙ ap (λ (n : ℕ). let r : Pos = record { txid = q.txid; sum = n } in r) sum

-- a commit leads each lineage that the store's position names to where its file leads
pub commit-leads : (tree : List Lineage) (store : StoreState) (file : Ltx) → OneImagePerPosition tree → IsAllowed tree store → CanDo store (Commit file) →
    (line : Lineage) → Contains tree line → position_of line ≡ at store → position_of (line ++ file.change ∷ []) ≡ after file
commit-leads tree store file one allowed can line stands position =
    let image : SameImage (image_of line) store.image =
    one line allowed.named.lineage stands allowed.named.stands (position ∙ sym allowed.named.position_is) ∙ allowed.named.image_is in
    let count : length line ≡ file.header.min - 1 = sym (txid_of line) ∙ ap (λ (p : Pos). p.txid) (position ∙ sym can.1.next) in
    let some : 1 ≤ file.header.min = can.0.header.min in
    let txid : length line + 1 ≡ file.header.max = omega (arith, count, can.2, some) in
    let sum : image_sum (apply (image_of line) file.change) ≡ file.post = ap image_sum (apply-same (image_of line) store.image file.change image) ∙ can.1.sum in
    position_of-push line file.change ∙ pos_of_parts (record { txid = length line + 1; sum = image_sum (apply (image_of line) file.change) }) (after file) txid sum

-- the lineage that a commit goes on from has the store's pages
pub grown-image : (tree more : List Lineage) (store : StoreState) (file : Ltx) → OneImagePerPosition tree → IsAllowed tree store → (grown : Grown tree store file more) →
    SameImage (image_of grown.lineage) store.image
grown-image tree more store file one allowed grown =
    one grown.lineage allowed.named.lineage grown.stands allowed.named.stands (grown.position_is ∙ sym allowed.named.position_is) ∙ allowed.named.image_is

-- the file of a commit is a transaction of the tree that the commit grows
pub commit-committed : (tree more : List Lineage) (store : StoreState) (file : Ltx) → OneImagePerPosition tree → IsAllowed tree store → CanDo store (Commit file) →
    Grown tree store file more → IsCommitted more file
commit-committed tree more store file one allowed can grown =
    let line : Lineage = grown.lineage in
    let image : SameImage (image_of line) store.image =
    one line allowed.named.lineage grown.stands allowed.named.stands (grown.position_is ∙ sym allowed.named.position_is) ∙ allowed.named.image_is in
    record {
      lineage = line;
      stands = Grown-extends tree store file more grown line grown.stands;
      goes_on = Grown-new tree store file more grown;
      before_at = grown.position_is ∙ sym can.1.next;
      after_at = commit-leads tree store file one allowed can line grown.stands grown.position_is;
      suits = subst (λ (pages : List (List ℕ)). Suits pages file.change) (sym image) (suits-of store.image file.change allowed.image can.1.fits);
    }

-- and so is that of a forwarded file, made complete over the store
pub commit-accepted : (tree more : List Lineage) (store : StoreState) (file : Ltx) → OneImagePerPosition tree → IsAllowed tree store → CanDo store (Commit (completed_over store file)) →
    Grown tree store (completed_over store file) more → IsAccepted more file
unfolding commit-committed
commit-accepted tree more store file one allowed can grown = record {
  count = length store.image.pages;
  is = commit-committed tree more store (completed_over store file) one allowed can grown;
  over = ap length (sym (grown-image tree more store (completed_over store file) one allowed grown));
}

pub Allowed-done : (tree more : List Lineage) (store : StoreState) (call : StoreCall) → OneImagePerPosition more → Contains tree [] → IsAllowed tree store → CanDo store call →
    TakesOfTree tree call → GrowsBy tree store call more → IsAllowed more (done store call)
Allowed-done tree more store (Commit file) one never allowed can took grows =
    let extends : Extends tree more = Grown-extends tree store file more grows in
    Allowed-with_file more store file one (Allowed-more tree more store extends allowed)
    record { of_tree = Committed-of_tree more file (commit-committed tree more store file (One-fewer tree more extends one) allowed can grows); sound = can.0 } can.1
Allowed-done tree more store (Apply file) one never allowed can took grows =
    Allowed-with_file more store file one (subst (λ (t : List Lineage). IsAllowed t store) (sym grows) allowed)
    record { of_tree = subst (λ (t : List Lineage). IsOfTree t file) (sym grows) took; sound = can.0 } can.1
Allowed-done tree more store (Install file) one never allowed can took grows =
    Allowed-installed more file record { of_tree = subst (λ (t : List Lineage). IsOfTree t file) (sym grows) took; sound = can.0 } can.1
Allowed-done tree more store (PruneTo keep) one never allowed can took grows =
    Allowed-pruned more store (length store.log - keep) keep can (omega arith) (subst (λ (t : List Lineage). IsAllowed t store) (sym grows) allowed)
Allowed-done tree more store DropAll one never allowed can took grows =
    Allowed-nothing more true (same-extends tree more grows [] never)

pub TakesOfTree-more : (tree more : List Lineage) (call : StoreCall) → Extends tree more → TakesOfTree tree call → TakesOfTree more call
TakesOfTree-more tree more (Commit file) extends took = tt
TakesOfTree-more tree more (Apply file) extends took = IsOfTree-more tree more file extends took
TakesOfTree-more tree more (Install file) extends took = IsOfTree-more tree more file extends took
TakesOfTree-more tree more (PruneTo keep) extends took = tt
TakesOfTree-more tree more DropAll extends took = tt

abbrev pub AllTakeOfTree : List Lineage → List StoreCall → Type 0
AllTakeOfTree tree [] = Unit {0}
AllTakeOfTree tree (call ∷ calls) = TakesOfTree tree call × AllTakeOfTree tree calls

AllTake-more : (tree more : List Lineage) (calls : List StoreCall) → Extends tree more → AllTakeOfTree tree calls → AllTakeOfTree more calls
AllTake-more tree more [] extends took = tt
AllTake-more tree more (call ∷ calls) extends took = (TakesOfTree-more tree more call extends took.0, AllTake-more tree more calls extends took.1)

pub Allowed-all_done : (tree grown : List Lineage) (store : StoreState) (calls : List StoreCall) → OneImagePerPosition grown → Contains tree [] → IsAllowed tree store →
    CanDoAll store calls → AllTakeOfTree tree calls → GrowsAlong tree store calls grown → IsAllowed grown (all_done store calls)
Allowed-all_done tree grown store [] one never allowed can took grows = subst (λ (t : List Lineage). IsAllowed t store) (sym grows) allowed
Allowed-all_done tree grown store (call ∷ calls) one never allowed can took grows =
    let here : OneImagePerPosition grows.0 = One-fewer grows.0 grown (GrowsAlong-extends grows.0 (done store call) calls grown grows.2) one in
    Allowed-all_done grows.0 grown (done store call) calls one (GrowsBy-extends tree store call grows.0 grows.1 [] never)
    (Allowed-done tree grows.0 store call here never allowed can.0 took.0 grows.1) can.1
    (AllTake-more tree grows.0 calls (GrowsBy-extends tree store call grows.0 grows.1) took.1) grows.2

pub CanDoAll-split : (store : StoreState) (front rest : List StoreCall) → CanDoAll store (front ++ rest) → CanDoAll store front × CanDoAll (all_done store front) rest
CanDoAll-split store [] rest can = (tt, can)
CanDoAll-split store (call ∷ calls) rest can =
    let more = CanDoAll-split (done store call) calls rest can.1 in
    ((can.0, more.0), more.1)

pub AllTake-split : (tree : List Lineage) (front rest : List StoreCall) → AllTakeOfTree tree (front ++ rest) → AllTakeOfTree tree front × AllTakeOfTree tree rest
AllTake-split tree [] rest took = (tt, took)
AllTake-split tree (call ∷ calls) rest took =
    let more = AllTake-split tree calls rest took.1 in
    ((took.0, more.0), more.1)

-- what a follower is sent is of the tree
pub snapshot-of_tree : (tree : List Lineage) (store : StoreState) → Contains tree [] → IsAllowed tree store → 1 ≤ (at store).txid → IsOfTree tree (snapshot_of store)
unfolding snapshot_of
snapshot-of_tree tree store never allowed some =
    let made : SameImage (apply empty_image (snapshot_of store).change) store.image = whole-same store.image allowed.image in
    record {
      from = [];
      to = allowed.named.lineage;
      from_stands = never;
      to_stands = allowed.named.stands;
      from_at = position_of-nothing;
      to_at = allowed.named.position_is;
      suits = subst (λ (i : DatabaseImage). Suits i.pages (snapshot_of store).change) (sym image_of-nothing) (inl (λ k d within. absurd (omega arith)));
      leads = allowed.named.image_is ∙ sym (ap (λ (i : DatabaseImage). (apply i (snapshot_of store).change).pages) image_of-nothing ∙ made);
      sum = ap (λ (i : DatabaseImage). sum_after i (snapshot_of store)) image_of-nothing ∙ whole-sum store.image allowed.image ∙ sym (allowed.sum some);
    }

pub owed-sendable : (tree : List Lineage) {store : StoreState} {position : Pos} {last : Option LastFile} {file : Ltx} → OneImagePerPosition tree → Contains tree [] → IsAllowed tree store → IsFile file →
    Owes store position last file → IsSendable tree file
owed-sendable tree {file = f} one never allowed sound (by_file here joins relied) = allowed.files f here
owed-sendable tree {store = s} {file = f} one never allowed sound (by_run {files = files} run joined made leads relied) =
    run-sendable tree allowed.joined.0 (at s) s.log files f one allowed.files allowed.joined.1 run joined made sound
owed-sendable tree {store = s} one never allowed sound (by_snapshot some lacks) = record { of_tree = snapshot-of_tree tree s never allowed some; sound = sound }
owed-sendable tree {store = s} one never allowed sound (by_doubt some may) = record { of_tree = snapshot-of_tree tree s never allowed some; sound = sound }
