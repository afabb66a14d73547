-- A run in which what the definitions speak of happens, so that no law is empty.
--
-- Three nodes, three files of one page each. Node 0 is granted the lease and commits a first file, which node 1 is sent and applies.
-- Then node 2, whose disk is empty, is granted the lease, and its commit of another first file fails from its rename
-- on; the restart finds it done: a fork. Node 0 still takes itself for the primary. Each of the two answers a position
-- that it lacks by its snapshot. Node 1 installs the winner's, then the loser's, which comes late, then the winner's
-- again. It gets a write permit, sends a commit to node 2, which accepts it, and is told so. A follower whose disk is empty gets
-- one file of node 2 for the two that its log then has. Last, node 2 drops the database, tells a follower so, and node 1 drops it
-- too.
use Rattle.std.specs.Prelude.{◌≡◌, ◌≢◌, ℕ, List, [], ◌∷◌, length, None, true}
use Rattle.lf_sqlite_pages.specs.Change.{PageChange}
use Rattle.ltx_codec.specs.Fields.{AreBytes}
use Rattle.ltx_codec.specs.Sums.{sum_of_writes}
use Rattle.ltx_codec.specs.Positions.{after, nowhere}
use Rattle.ltx_codec.specs.declared.file.Ltx.{Ltx}
use Rattle.ltx_compact.specs.Compaction.{change_of, header_of}
use Rattle.world_laws.specs.Answers.{snapshot_of}
use Rattle.world_laws.specs.Events.{AreLed, Event, Grants, IsStart, Loses, Opens, Renews, Runs, Steps}
use Rattle.world_laws.specs.Node.{Applied, Disk, Done, Drop, File, Forward, Forwarded, Frame, Gone, Hello, Item, Permit, Refused, Send}
use Rattle.world_laws.specs.Premises.{OneImagePerPosition}
use Rattle.world_laws.specs.Store.{StoreState, empty_store, with_file}
use Rattle.world_laws.specs.World.{World}

-- a page of the least size
pub record IsPage (page : List ℕ) : Type 0 where
  pub size : length page ≡ 512
  pub octets : AreBytes page

-- the change that makes a database of this page alone
abbrev pub one_page : List ℕ → PageChange
one_page page = record { page_size = 512; commit = 1; pages = record { number = 1; bytes = page } ∷ [] }

-- the sum of that database
abbrev pub sum_of_page : List ℕ → ℕ
sum_of_page page = sum_of_writes (one_page page).pages

-- the file of this change as one transaction of this number, behind a database of this sum
abbrev pub file_of : ℕ → ℕ → List ℕ → Ltx
file_of txid sum page = record {
  header = record {
    page_size = 512;
    commit = 1;
    min = txid;
    max = txid;
    stamp = 0;
    pre = sum;
    wal_offset = 0;
    wal_size = 0;
    wal_salt1 = 0;
    wal_salt2 = 0;
    node = 0;
  };
  change = one_page page;
  post = sum_of_page page;
}

-- the first file of a database, and the one that comes after it
abbrev pub first_file : List ℕ → Ltx
first_file page = file_of 1 0 page

abbrev pub second_file : List ℕ → List ℕ → Ltx
second_file old page = file_of 2 (sum_of_page old) page

-- the one file that stands for two
abbrev pub both : Ltx → Ltx → Ltx
both first second = record { header = header_of first second; change = change_of (first ∷ second ∷ []) second; post = second.post }

abbrev pub store_of : Ltx → StoreState
store_of file = with_file empty_store file

abbrev pub story : Ltx → Ltx → Ltx → List Event
story lost won next =
    Grants 0
    ∷ Steps 0 File Done
    ∷ Steps 0 (Hello nowhere None) (Item lost)
    ∷ Steps 1 (Frame lost) (Applied (after lost))
    ∷ Grants 2
    ∷ Steps 2 File (Refused Disk)
    ∷ Opens 2 (store_of won)
    ∷ Steps 0 (Hello (after won) None) (Item (snapshot_of (store_of lost)))
    ∷ Steps 2 (Hello (after lost) None) (Item (snapshot_of (store_of won)))
    ∷ Steps 1 (Frame (snapshot_of (store_of won))) (Applied (after won))
    ∷ Steps 1 (Frame (snapshot_of (store_of lost))) (Applied (after lost))
    ∷ Steps 1 (Frame (snapshot_of (store_of won))) (Applied (after won))
    ∷ Steps 1 Permit Done
    ∷ Steps 1 File (Send next)
    ∷ Steps 2 (Forward next) (Applied (after next))
    ∷ Steps 1 (Forwarded true) Done
    ∷ Renews
    ∷ Steps 2 (Hello nowhere None) (Item (both won next))
    ∷ Steps 2 File Done
    ∷ Steps 2 (Hello (after next) None) Gone
    ∷ Steps 1 Drop (Applied nowhere)
    ∷ Loses
    ∷ []

-- from a start the story comes to an end at which the second premise holds, with these lineages in the tree; each of its
-- turns leads
pub record IsTold (lost won next : Ltx) : Type 0 where
  pub first : World
  pub last : World
  pub start : IsStart first
  pub runs : Runs first (story lost won next) last
  pub led : AreLed runs
  pub one_image : OneImagePerPosition last.tree
  pub tree : last.tree ≡ [] ∷ (lost.change ∷ []) ∷ (won.change ∷ []) ∷ (won.change ∷ next.change ∷ []) ∷ []

-- of any three pages, if the first two have different sums
abbrev pub SomethingHappens : Type 0
SomethingHappens = (lost won new : List ℕ) → IsPage lost → IsPage won → IsPage new → sum_of_page lost ≢ sum_of_page won →
    IsTold (first_file lost) (first_file won) (second_file won new)

-- and there are such pages
abbrev pub PagesDiffer : Type 0
PagesDiffer = (one : List ℕ) × (other : List ℕ) × IsPage one × IsPage other × (sum_of_page one ≢ sum_of_page other)
