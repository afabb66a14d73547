-- How a node keeps its lease: for how long it waits, when it asks to be primary, and whom it follows then.
use Rattle.std.specs.Prelude.{◌≡◌, ◌≢◌, ℕ, ◌+◌, ◌*◌, ◌/◌, ◌%◌, min, max, ◌==◌, ◌&&◌, ◌||◌, not, nat_le, nat_lt, if◌then◌else◌, Bool, true, false, List, [], ◌++◌, codes, Option, Some, None}
use Rattle.lf_base.specs.Faults.{one_more}
use Rattle.lease_core.specs.declared.grant.Grant.{Grant}
use Rattle.lease_link.specs.declared.keep_end.KeepEnd.{KeepEnd}
use Rattle.lease_link.specs.declared.keep_end.KeepEnd.TheVariants as ends
use Rattle.node_settings.specs.declared.settings.LeaseType.{LeaseType}
use Rattle.node_settings.specs.declared.settings.LeaseType.TheVariants as lease_type
use Rattle.node_settings.specs.Address.{IsUrl}
use Rattle.node_core.specs.declared.info.NodeInfo.{NodeInfo}
use Rattle.node_mount.specs.declared.posting.Posting.{Posting}
use Rattle.node_mount.specs.declared.posting.Posting.TheVariants as posting
use Rattle.node_mount.specs.declared.wish.Wish.{Wish}

-- ---- how long, in milliseconds

-- for its primary: half a minute, and with a lease that is granted half of it, but from half a second to half a minute
abbrev pub following_patience : LeaseType → ℕ → ℕ
following_patience lease_type.Static ttl = 30000
following_patience lease_type.Service ttl = max (min (ttl / 2) 30000) 500
following_patience lease_type.Etcd ttl = max (min (ttl / 2) 30000) 500

-- for who grants the lease, at each dial: a quarter of a lease, but from a quarter of a second to five
abbrev pub lease_patience : ℕ → ℕ
lease_patience ttl = max (min (ttl / 4) 5000) 250

-- the naps of a round: one for each second of a lease, but from 1 to 20
abbrev pub naps_of : ℕ → ℕ
naps_of ttl = max (min (ttl / 1000) 20) 1

-- the rounds of a lease, rounded up, by their naps of 50 milliseconds alone
abbrev pub rounds_of : ℕ → ℕ
rounds_of ttl = ttl / (50 * naps_of ttl) + min 1 (ttl % (50 * naps_of ttl))

-- HOW MANY ROUNDS THAT WERE NAMED NOBODY a candidate without a database waits for: those of three leases, and one where it begins a cluster
abbrev pub first_patience : (bootstrap : Bool) → (ttl : ℕ) → ℕ
first_patience bootstrap ttl = if bootstrap then 1 else 3 * rounds_of ttl

-- the naps of one of so many watchers of events between two looks
abbrev pub watcher_naps : ℕ → ℕ
watcher_naps watchers = watchers / 10 + 1

-- ---- what it asks

-- it has a database where it stands at a position, or has pages
abbrev pub has_database : NodeInfo → Bool
has_database info = not ((info.pos.txid == 0) && (info.pos.sum == 0)) || not (info.commit == 0)

-- for how many rounds that were named nobody it waits: with a database for one
abbrev pub rounds_before : Wish → (has_database : Bool) → ℕ
rounds_before wish has_database = if has_database then 1 else wish.patience

-- A CANDIDATE ASKS TO BE PRIMARY after as many rounds that were named nobody as it waits for, unless the last one asked to be it
abbrev pub asks_to_be : Wish → (has_database : Bool) → Bool
asks_to_be wish has_database = wish.candidate && not wish.asked && nat_le (rounds_before wish has_database) wish.unnamed

-- a round that asked who is primary and was named nobody is one more; one that was named somebody, or told nothing, or had a term, begins anew; and
-- one that asked to be primary changes nothing
abbrev pub unnamed_after : ℕ → (asked : Bool) → KeepEnd → ℕ
unnamed_after unnamed true end = unnamed
unnamed_after unnamed false ends.Nobody = one_more unnamed
unnamed_after unnamed false (ends.Done now url) = 0
unnamed_after unnamed false ends.Turns = 0
unnamed_after unnamed false ends.Worn = 0
unnamed_after unnamed false ends.NoMemory = 0

abbrev pub wish_after : Wish → (asked : Bool) → KeepEnd → Wish
wish_after wish asked end = record wish { unnamed = unnamed_after wish.unnamed asked end; asked = asked }

-- it waits from the first round on that was named nobody, where it waits for more
abbrev pub begins_to_wait : Wish → (has_database : Bool) → Bool
begins_to_wait wish has_database = wish.candidate && not has_database && (wish.unnamed == 1) && nat_lt 1 wish.patience

-- the term after a round
abbrev pub term_after : ℕ → KeepEnd → ℕ
term_after term (ends.Done now url) = now
term_after term ends.Nobody = term
term_after term ends.Turns = term
term_after term ends.Worn = term
term_after term ends.NoMemory = term

-- ---- whom it follows

-- where the primary's URL was told: nobody where it is its own, and else its address; what is no URL tells nothing
abbrev pub IsPostingOf : (own url : List ℕ) → Posting → Type 0
IsPostingOf own url posting.Nobody = url ≡ own
IsPostingOf own url (posting.At address) = (url ≢ own) × IsUrl url × (url ≡ codes "http://" ++ address)
IsPostingOf own url posting.AsBefore = (url ≢ own) × (IsUrl url → ⊥)

-- where none was told: nobody where the node's term began or ended, and else whom it followed before
abbrev pub IsPostingBy : (term now : ℕ) → Posting → Type 0
IsPostingBy term now posting.Nobody = now ≢ term
IsPostingBy term now posting.AsBefore = now ≡ term
IsPostingBy term now (posting.At address) = ⊥

-- WHAT A ROUND MAKES OF THE BOARD, of a node with this grant before it
abbrev pub IsPosting : Grant → KeepEnd → Posting → Type 0
IsPosting own (ends.Done term (Some url)) posted = IsPostingOf own.url url posted
IsPosting own (ends.Done term None) posted = IsPostingBy own.term term posted
IsPosting own ends.Nobody posted = posted ≡ posting.AsBefore
IsPosting own ends.Turns posted = posted ≡ posting.AsBefore
IsPosting own ends.Worn posted = posted ≡ posting.AsBefore
IsPosting own ends.NoMemory posted = posted ≡ posting.AsBefore
