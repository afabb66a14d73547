-- What is asked of a cluster in a round, and what is learned of it.
use Rattle.std.specs.Prelude.{◌≡◌, ◌≢◌, ℕ, ◌-◌, ◌*◌, min, ◌==◌, ◌&&◌, Bool, false, if◌then◌else◌, List, Option, Some, None, Result, Ok, Err}
use Rattle.serde_json.specs.Written.{compact_text}
use Rattle.lease_link.specs.declared.learned.Learned.{Learned}
use Rattle.lease_link.specs.declared.learned.Learned.TheVariants as learned
use Rattle.lease_link.specs.declared.unlearned.Unlearned.{Unlearned}
use Rattle.lease_link.specs.declared.unlearned.Unlearned.TheVariants as unlearned
use Rattle.lease_link.specs.Asking.{DialStand}
use Rattle.etcd_wire.specs.declared.call.Call.{Call}
use Rattle.etcd_wire.specs.declared.call.Call.TheVariants as call
use Rattle.etcd_lease.specs.declared.found.Found.{Found}
use Rattle.etcd_lease.specs.declared.held.Held.{Held}
use Rattle.etcd_lease.specs.declared.kept.Kept.{Kept}
use Rattle.etcd_lease.specs.declared.kept.Kept.TheVariants as kept
use Rattle.etcd_wire.specs.declared.said.KeyValue.{KeyValue}
use Rattle.etcd_wire.specs.declared.said.Said.{Said}
use Rattle.etcd_wire.specs.declared.said.Said.TheVariants as said
use Rattle.etcd_lease.specs.declared.settings.EtcdSettings.{EtcdSettings}
use Rattle.etcd_lease.specs.Asking.{AsksEach, begun_at, said_by}
use Rattle.etcd_wire.specs.Calls.{data_of}

-- the endpoints in the order in which they are asked, the key that is held, and the dials and faults of the one that dials
pub record Place : Type 0 where
  pub endpoints : List (List ℕ)
  pub held : Option Held
  pub dialed : DialStand

abbrev pub place : List (List ℕ) → Option Held → DialStand → Place
place endpoints held dialed = record { endpoints = endpoints; held = held; dialed = dialed }

-- ONE CALL: memory ran out over its body, and nothing was dialed; or the endpoints were asked in turn, and the next call begins at the one that answered
pub data Posts (tell : Type 0) (s : EtcdSettings) (asked : Call) (old new : Place) (heard : Result (Option Said) Unlearned) : Type 0 where
  unsaid : new ≡ old → heard ≡ Err unlearned.NoMemory → Posts tell s asked old new heard
  asks : (found : Result (Option Found) Unlearned) → AsksEach tell asked (compact_text (data_of s.key s.ttl asked)) old.endpoints old.dialed new.dialed found
      → new ≡ place (begun_at old.endpoints found) old.held new.dialed → heard ≡ said_by found → Posts tell s asked old new heard

-- nothing is asked
abbrev pub Answers : {T : Type 0} → T → Place → Place → Result T Unlearned → Type 0
Answers t old new heard = (new ≡ old) × (heard ≡ Ok t)

-- nothing is asked, and the key that is held is this one from now on
abbrev pub AnswersWith : {T : Type 0} → Option Held → T → Place → Place → Result T Unlearned → Type 0
AnswersWith held t old new heard = (new ≡ record old { held = held }) × (heard ≡ Ok t)

-- what follows a call: by its answer, or nothing where turns or memory ran out
abbrev pub Follows : {A B : Type 0} → (A → Place → Place → Result B Unlearned → Type 0) → Result A Unlearned → Place → Place → Result B Unlearned → Type 0
Follows next (Ok a) old new heard = next a old new heard
Follows next (Err why) old new heard = (new ≡ old) × (heard ≡ Err why)

-- ONE CALL AND THEN WHAT FOLLOWS
pub record Then {A B : Type 0} (first : Place → Place → Result A Unlearned → Type 0) (next : A → Place → Place → Result B Unlearned → Type 0)
    (old new : Place) (heard : Result B Unlearned) : Type 0 where
  pub mid : Place
  pub came : Result A Unlearned
  pub did : first old mid came
  pub behind : Follows next came mid new heard

-- ---- times

-- for how many milliseconds a lease of so many seconds is believed in: a second less
abbrev pub belief_of : ℕ → ℕ
belief_of ttl = (min ttl 1000000000 - 1) * 1000

-- ---- a key that is held

-- the key is this one
abbrev pub is_held : Held → Option KeyValue → Bool
is_held held None = false
is_held held (Some key) = (key.created == held.term) && (key.lease == held.lease)

-- what a reply to Range tells of it
abbrev pub kept_by : Held → ℕ → Option Said → Kept
kept_by held ttl (Some (said.Key key)) = if is_held held key then kept.Lasts ttl else kept.Gone
kept_by held ttl _ = kept.Unknown

-- THE LEASE IS TO LAST ON, and then the key must still be this one
abbrev pub KeepsBehind : Type 0 → EtcdSettings → Held → Option Said → Place → Place → Result Kept Unlearned → Type 0
KeepsBehind tell s held (Some (said.Lasts ttl)) old new heard =
    (ttl ≡ 0 → Answers kept.Gone old new heard)
    × (ttl ≢ 0 → Then (Posts tell s call.Range) (λ told. Answers (kept_by held ttl told)) old new heard)
KeepsBehind tell s held _ old new heard = Answers kept.Unknown old new heard

abbrev pub Keeps : Type 0 → EtcdSettings → Held → Place → Place → Result Kept Unlearned → Type 0
Keeps tell s held = Then (Posts tell s (call.KeepAlive held.lease)) (KeepsBehind tell s held)

-- ---- a term renewed

abbrev pub RenewsBehind : Held → Kept → Place → Place → Result Learned Unlearned → Type 0
RenewsBehind held kept.Unknown = Answers learned.Nothing
RenewsBehind held kept.Gone = AnswersWith None learned.Lost
RenewsBehind held (kept.Lasts ttl) = Answers (learned.Granted held.term (belief_of ttl))

-- A TERM IS RENEWED; one that isn't held is lost, and nothing is asked
abbrev pub Renews : Type 0 → EtcdSettings → Option Held → ℕ → Place → Place → Result Learned Unlearned → Type 0
Renews tell s None term old new heard = Answers learned.Lost old new heard
Renews tell s (Some held) term old new heard =
    (held.term ≡ term → Then (Keeps tell s held) (RenewsBehind held) old new heard) × (held.term ≢ term → Answers learned.Lost old new heard)

-- ---- a term given back

-- A TERM IS GIVEN BACK with its lease, if it is held
abbrev pub Releases : Type 0 → EtcdSettings → Option Held → ℕ → Place → Place → Result Learned Unlearned → Type 0
Releases tell s None term old new heard = Answers learned.Nothing old new heard
Releases tell s (Some held) term old new heard =
    (held.term ≡ term → Then (Posts tell s (call.Revoke held.lease)) (λ told. AnswersWith None learned.Nothing) old new heard)
    × (held.term ≢ term → Answers learned.Nothing old new heard)
