-- From a folder that was examined to a store.
use Rattle.std.proofs.Common.{inl, inr, ℕ, Bool, false, Option, None, Result, List, refl, sym, ◌∙◌, subst, arith}
use Rattle.lf_disk.specs.Folder.{Folder, bytes_of, SameBut}
use Rattle.lf_disk.specs.declared.name.FileName.TheVariants.{Database, Staged, Snapshot, Dropped}
use Rattle.lf_disk.specs.Change.{Step, SetsFile, Perhaps}
use Rattle.lf_disk.specs.History.{History, now, Rests, Ticks, Moves, EachMoment, IsSettledBut}
use Rattle.lf_disk.proofs.Moments.{started, goes_on, rests_on, joined}
use Rattle.lf_sqlite_pages.specs.Image.{DatabaseImage}
use Rattle.world_laws.specs.Store.{StoreState}
use Rattle.txn_log.specs.Durable.{Durable}
use Rattle.txn_log.specs.Kept.{LogFile, Shows, IsAtRest}
use Rattle.txn_log.proofs.Placings.{kept_same}
use Rattle.txn_log.proofs.Settlings.{by_same}

-- the staged file is of no account to the store of a folder
pub same_durable : (f c : Folder) (store : StoreState) → SameBut Staged f c → Durable f store → Durable c store
same_durable f c store same (inl by) = inl (record { files = by.files; kept = kept_same store.image by.files false f c by.kept same; log = by.log; sound = by.sound; sum = by.sum; unmarked = by.unmarked })
same_durable f c store same (inr (inl by)) =
    inr (inl (record { encoding = by.encoding; by = by_same store.image by.encoding f c (same Snapshot refl) (same Database refl) by.by; log = by.log; is = by.is; first = by.first; sum = by.sum; unmarked = by.unmarked }))
same_durable f c store same (inr (inr by)) =
    inr (inr (record {
      by = record { no_snapshot = same Snapshot refl ∙ by.by.no_snapshot; stands = subst (λ (o : Option (List ℕ)). Rattle.std.specs.Prelude.IsSome o) (sym (same Dropped refl)) by.by.stands };
      empty = by.empty;
    }))

-- nothing has changed yet
pub only_read : (store : StoreState) (h mid : History) → IsSettledBut Staged h → Rests h mid → Durable (now h) store → EachMoment h mid (λ c. Durable c store)
only_read store h mid settled rests durable =
    rests_on h h mid (λ c. Durable c store) (started h (λ c. Durable c store) (λ c may. same_durable (now h) c store (settled c may) durable)) rests

-- then the folder gets its last form
pub then_finished : (store : StoreState) (h mid new : History) → IsSettledBut Staged h → Rests h mid → Durable (now h) store → EachMoment mid new (λ c. Durable c store) → EachMoment h new (λ c. Durable c store)
then_finished store h mid new settled rests durable more = joined h mid new (λ c. Durable c store) (only_read store h mid settled rests durable) more

-- and the staged file is removed, or perhaps not
pub then_unstaged : {T E : Type 0} (result : Result T E) (store : StoreState) (h mid new : History) (sees : Step) → EachMoment h mid (λ c. Durable c store) → Ticks result mid new → Moves sees (Perhaps (SetsFile Staged None)) mid new
    → EachMoment h new (λ c. Durable c store)
then_unstaged result store h mid new sees so_far ticks moves =
    goes_on result h mid new (λ c. Durable c store) so_far ticks
    (λ c may.
    let from = moves.left c may in
    let here : Durable from.0 store = so_far.each mid.moment from.0 so_far.later (omega arith) from.1 in
    elim from.2 [
      | inl same ↦ same_durable from.0 c store (λ n other. same n) here
      | inr sets ↦ same_durable from.0 c store sets.elsewhere here
    ])

-- it stays at rest
pub rest_unstaged : (image : DatabaseImage) (files : List LogFile) (dropped : Bool) (mid new : History) → IsAtRest image files dropped mid → Moves (SetsFile Staged None) (SetsFile Staged None) mid new → IsAtRest image files dropped new
rest_unstaged image files dropped mid new rest moves = record {
  kept = kept_same image files dropped (now mid) (now new) rest.kept moves.seen.elsewhere;
  shows = subst (λ (o : Option (List ℕ)). Shows image (bytes_of o)) (sym (moves.seen.elsewhere Database refl)) rest.shows;
  settled = λ c may n other.
      let from = moves.left c may in
      from.2.elsewhere n other ∙ rest.settled from.0 from.1 n other ∙ sym (moves.seen.elsewhere n other);
}
