-- A term asked for, and who has one.
use Rattle.std.specs.Prelude.{◌≡◌, ℕ, ◌+◌, ◌-◌, ◌^◌, ◌≤◌, ◌<◌, min, Bool, false, IsTrue, MatchBool, List, [], Option, Some, None, Result, Ok, Err}
use Rattle.base64.specs.Engines.{standard}
use Rattle.base64.specs.GeneralPurpose.{decode_of}
use Rattle.serde_json.specs.Data.{object}
use Rattle.serde_json.specs.Written.{compact_text}
use Rattle.lease_core.specs.declared.lease_ask.LeaseAsk.{LeaseAsk}
use Rattle.lease_core.specs.declared.lease_ask.LeaseAsk.TheVariants as ask
use Rattle.lease_core.specs.declared.lease_reply.LeaseReply.TheVariants as reply
use Rattle.lease_core.specs.Bodies.{reply_members}
use Rattle.lease_link.specs.declared.learned.Learned.{Learned}
use Rattle.lease_link.specs.declared.learned.Learned.TheVariants as learned
use Rattle.lease_link.specs.declared.unlearned.Unlearned.{Unlearned}
use Rattle.lease_link.specs.declared.unlearned.Unlearned.TheVariants as unlearned
use Rattle.lease_link.specs.Learning.{Tells}
use Rattle.etcd_wire.specs.declared.call.Call.TheVariants as call
use Rattle.etcd_lease.specs.declared.held.Held.{Held}
use Rattle.etcd_lease.specs.declared.kept.Kept.{Kept}
use Rattle.etcd_lease.specs.declared.kept.Kept.TheVariants as kept
use Rattle.etcd_wire.specs.declared.said.KeyValue.{KeyValue}
use Rattle.etcd_wire.specs.declared.said.Said.{Said}
use Rattle.etcd_wire.specs.declared.said.Said.TheVariants as said
use Rattle.etcd_lease.specs.declared.settings.EtcdSettings.{EtcdSettings}
use Rattle.etcd_lease.specs.Rounds.{Answers, AnswersWith, Keeps, Place, Posts, Releases, Renews, Then, belief_of, is_held}

-- ---- who is primary

-- what the value of a key tells: what its bytes do as a reply of a lease service that was asked who is primary, where it is base64
pub data TellsWho (value : List ℕ) (told : Learned) : Type 0 where
  names : (bytes : List ℕ) → decode_of standard value ≡ Ok bytes → Tells ask.Info 200 bytes told → TellsWho value told
  no_bytes : ((bytes : List ℕ) → decode_of standard value ≡ Ok bytes → ⊥) → told ≡ learned.Nothing → TellsWho value told

-- the key is the one that is held
abbrev pub is_own : Option Held → Option KeyValue → Bool
is_own None key = false
is_own (Some held) key = is_held held key

-- what a reply tells of who is primary: nobody is where there is no key, or one that stands for no lease yet
abbrev pub Informs : Option Held → Option Said → Learned → Type 0
Informs held (Some (said.Key (Some key))) told = MatchBool (is_own held (Some key)) (told ≡ learned.Nobody) (TellsWho key.value told)
Informs held (Some (said.Key None)) told = told ≡ learned.Nobody
Informs held _ told = told ≡ learned.Nothing

-- the same, unless memory ran out
pub data InformsBy (told : Option Said) (old new : Place) (heard : Result Learned Unlearned) : Type 0 where
  informs : (l : Learned) → new ≡ old → Informs old.held told l → heard ≡ Ok l → InformsBy told old new heard
  starves : new ≡ old → heard ≡ Err unlearned.NoMemory → InformsBy told old new heard

-- WHO IS PRIMARY IS ASKED
abbrev pub AsksWho : Type 0 → EtcdSettings → Place → Place → Result Learned Unlearned → Type 0
AsksWho tell s = Then (Posts tell s call.Range) InformsBy

-- ---- a term asked for

-- a moment and some time later, within 64 bits
abbrev pub later : ℕ → ℕ → ℕ
later now time = min (now + time) (2 ^ 64 - 1)

-- the value of the key of this node, as a grant for so long
abbrev pub value_of : LeaseAsk → ℕ → List ℕ
value_of (ask.Acquire node url host) ttl = compact_text (object (reply_members (reply.Grant host 0 ttl url)))
value_of _ ttl = []

-- the key was put with this lease: it is held, and stands for a lease from the time on at which what was believed before has ended
pub data TakesBehind (may : ℕ → Bool) (tell : Type 0) (s : EtcdSettings) (lease ttl : ℕ) (told : Option Said) (old new : Place) (heard : Result Learned Unlearned) : Type 0 where
  puts : (key : KeyValue) (now : ℕ) → told ≡ Some (said.Key (Some key)) → key.lease ≡ lease → IsTrue (may now)
      → AnswersWith (Some (record { term = key.created; lease = lease; from = later now (belief_of ttl) })) learned.Nothing old new heard
      → TakesBehind may tell s lease ttl told old new heard
  loses : ((key : KeyValue) → told ≡ Some (said.Key (Some key)) → key.lease ≡ lease → ⊥)
      → Then (Posts tell s (call.Revoke lease)) (λ told. Answers learned.Nothing) old new heard → TakesBehind may tell s lease ttl told old new heard

-- a lease was granted: the key is put where there is none, and then looked at
abbrev pub PutsBehind : (ℕ → Bool) → Type 0 → EtcdSettings → List ℕ → Option Said → Place → Place → Result Learned Unlearned → Type 0
PutsBehind may tell s value (Some (said.Lease lease ttl)) =
    Then (Posts tell s (call.Put lease value)) (λ put. Then (Posts tell s call.Range) (TakesBehind may tell s lease ttl))
PutsBehind may tell s value _ = Answers learned.Nothing

abbrev pub Puts : (ℕ → Bool) → Type 0 → EtcdSettings → List ℕ → Place → Place → Result Learned Unlearned → Type 0
Puts may tell s value = Then (Posts tell s call.Grant) (PutsBehind may tell s value)

-- a key that is held already becomes a term at its time
pub data WaitsBehind (may : ℕ → Bool) (held : Held) (look : Kept) (old new : Place) (heard : Result Learned Unlearned) : Type 0 where
  unknown : look ≡ kept.Unknown → Answers learned.Nothing old new heard → WaitsBehind may held look old new heard
  gone : look ≡ kept.Gone → AnswersWith None learned.Nothing old new heard → WaitsBehind may held look old new heard
  early : (ttl now : ℕ) → look ≡ kept.Lasts ttl → IsTrue (may now) → now < held.from → Answers learned.Nothing old new heard → WaitsBehind may held look old new heard
  due : (ttl now : ℕ) → look ≡ kept.Lasts ttl → IsTrue (may now) → held.from ≤ now → Answers (learned.Granted held.term (belief_of ttl)) old new heard
      → WaitsBehind may held look old new heard

-- the key is put with this node's value, unless memory ran out over it
pub data PutsOwn (may : ℕ → Bool) (tell : Type 0) (s : EtcdSettings) (asked : LeaseAsk) (old new : Place) (heard : Result Learned Unlearned) : Type 0 where
  starves : new ≡ old → heard ≡ Err unlearned.NoMemory → PutsOwn may tell s asked old new heard
  puts : Puts may tell s (value_of asked (belief_of s.ttl)) old new heard → PutsOwn may tell s asked old new heard

-- A TERM IS ASKED FOR: by a key that is put; where one is held, that is kept until its time
abbrev pub Acquires : (ℕ → Bool) → Type 0 → EtcdSettings → LeaseAsk → Option Held → Place → Place → Result Learned Unlearned → Type 0
Acquires may tell s asked None = PutsOwn may tell s asked
Acquires may tell s asked (Some held) = Then (Keeps tell s held) (WaitsBehind may held)

-- WHAT IS ASKED OF A CLUSTER by what is asked of a service
abbrev pub AsksEtcd : (ℕ → Bool) → Type 0 → EtcdSettings → LeaseAsk → Place → Place → Result Learned Unlearned → Type 0
AsksEtcd may tell s (ask.Acquire node url host) old = Acquires may tell s (ask.Acquire node url host) old.held old
AsksEtcd may tell s (ask.Renew node term) old = Renews tell s old.held term old
AsksEtcd may tell s (ask.Release node term) old = Releases tell s old.held term old
AsksEtcd may tell s ask.Info old = AsksWho tell s old
