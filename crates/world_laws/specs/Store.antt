-- A store as the cluster sees it, the calls that change it, and what a stop inside a call leaves.
--
-- A store is its committed image, its log of files, and a mark that only an empty log can have: the database was
-- dropped, and nothing was committed since. Its position is the end of its log. A changing call goes well, or it
-- fails and breaks the store; then the store is seen as before the call, until it is opened again.
use Rattle.std.specs.Prelude.{◌≡◌, ◌⊎◌, ℕ, ◌-◌, ◌≤◌, Bool, true, false, List, [], ◌∷◌, ◌++◌, length, fold, drop, Option, Some, None}
use Rattle.lf_base.specs.declared.pos.Pos.{Pos}
use Rattle.lf_sqlite_pages.specs.Image.{DatabaseImage, empty_image}
use Rattle.lf_sqlite_pages.specs.Apply.{apply}
use Rattle.ltx_codec.specs.declared.file.Ltx.{Ltx}
use Rattle.ltx_codec.specs.Format.{IsFile}
use Rattle.ltx_codec.specs.Positions.{Joins, after, before, nowhere}

pub record StoreState : Type 0 where
  pub image : DatabaseImage
  pub log : List Ltx
  pub dropped : Bool  -- the mark: the database was dropped, and nothing was committed since

-- a store on an empty disk
abbrev pub empty_store : StoreState
empty_store = record { image = empty_image; log = []; dropped = false }

-- a store whose database was dropped
abbrev pub dropped_store : StoreState
dropped_store = record { image = empty_image; log = []; dropped = true }

-- the position behind the last file of a log
unfoldable pub end_of : List Ltx → Pos
end_of log = fold (λ _ file. after file) nowhere log

-- the position of a store
abbrev pub at : StoreState → Pos
at store = end_of store.log

-- files lead from one position to another
abbrev pub LeadTo : Pos → List Ltx → Pos → Type 0
LeadTo start [] end = start ≡ end
LeadTo start (file ∷ files) end = (before file ≡ start) × LeadTo (after file) files end

-- a call that changes a store
pub data StoreCall : Type 0 where
  Commit : Ltx → StoreCall  -- a transaction that no store had, published as this file
  Apply : Ltx → StoreCall  -- another's file that joins
  Install : Ltx → StoreCall  -- another's snapshot
  PruneTo : (keep : ℕ) → StoreCall  -- the log loses its front
  DropAll : StoreCall  -- the database is dropped

-- what a store sees to before it publishes anything
abbrev pub CanDo : StoreState → StoreCall → Type 0
CanDo store (Commit file) = IsFile file × Joins store.image (at store) file × (file.header.max ≡ file.header.min)
CanDo store (Apply file) = IsFile file × Joins store.image (at store) file
CanDo store (Install file) = IsFile file × (file.header.min ≡ 1)
CanDo store (PruneTo keep) = 1 ≤ keep
CanDo store DropAll = 1 ≤ (at store).txid

-- a store with one file more. Any commit, apply or install takes the mark away
abbrev pub with_file : StoreState → Ltx → StoreState
with_file store file = record { image = apply store.image file.change; log = store.log ++ file ∷ []; dropped = false }

-- a store of a snapshot alone
abbrev pub installed : Ltx → StoreState
installed file = record { image = apply empty_image file.change; log = file ∷ []; dropped = false }

-- a store without the first files of its log
abbrev pub without_front : StoreState → ℕ → StoreState
without_front store count = record { image = store.image; log = drop count store.log; dropped = store.dropped }

-- the store after a call that goes well
abbrev pub done : StoreState → StoreCall → StoreState
done store (Commit file) = with_file store file
done store (Apply file) = with_file store file
done store (Install file) = installed file
done store (PruneTo keep) = without_front store (length store.log - keep)
done store DropAll = dropped_store

-- the stores that a stop inside a call may leave: the one before it or the one after it; of a prune also each between
abbrev pub MayLeave : StoreState → StoreCall → StoreState → Type 0
MayLeave store (PruneTo keep) left = (count : ℕ) × (count ≤ length store.log - keep) × (left ≡ without_front store count)
MayLeave store call left = (left ≡ store) ⊎ (left ≡ done store call)

-- what broke a store: a call that failed before its rename was tried, of whose file nothing is known; or this call,
-- which failed from there on
pub data Failure : Type 0 where
  FailedBefore : Failure
  FailedIn : StoreCall → Failure

-- the call that may have been done although it failed
abbrev pub begun_by : Option Failure → List StoreCall
begun_by None = []
begun_by (Some FailedBefore) = []
begun_by (Some (FailedIn call)) = call ∷ []

-- a store that is broken stays so; else the call that failed breaks it
abbrev pub broken_by : Option Failure → Option Failure → Option Failure
broken_by (Some failure) failed = Some failure
broken_by None failed = failed

-- the stores that a restart may find: the store itself, or what the call that broke it may have left
abbrev pub MayBeFound : StoreState → Option Failure → StoreState → Type 0
MayBeFound store None left = left ≡ store
MayBeFound store (Some FailedBefore) left = left ≡ store
MayBeFound store (Some (FailedIn call)) left = MayLeave store call left

-- several calls, one after another, that go well
abbrev pub all_done : StoreState → List StoreCall → StoreState
all_done store calls = fold done store calls

abbrev pub CanDoAll : StoreState → List StoreCall → Type 0
CanDoAll store [] = Unit {0}
CanDoAll store (call ∷ calls) = CanDo store call × CanDoAll (done store call) calls

-- the restart candidates of a step that makes these calls: the stores that a stop inside it may leave
abbrev pub IsCandidate : StoreState → List StoreCall → StoreState → Type 0
IsCandidate store [] left = left ≡ store
IsCandidate store (call ∷ calls) left = MayLeave store call left ⊎ IsCandidate (done store call) calls left
