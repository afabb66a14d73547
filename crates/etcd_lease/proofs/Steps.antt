-- Calls put together.
use Rattle.std.proofs.Common.{◌≡◌, ◌≢◌, inl, inr, ℕ, Bool, IsTrue, List, ◌∷◌, Option, None, Some, Result, Ok, Err, IfOk, ap, refl, subst, sym, ◌∙◌}
use Rattle.serde_json.specs.Written.{compact_text}
use Rattle.base64.specs.Engines.{standard}
use Rattle.base64.specs.GeneralPurpose.{decode_of}
use Rattle.lease_core.specs.declared.lease_ask.LeaseAsk.{LeaseAsk}
use Rattle.lease_core.specs.declared.lease_ask.LeaseAsk.TheVariants as ask
use Rattle.lease_link.specs.declared.learned.Learned.{Learned}
use Rattle.lease_link.specs.declared.learned.Learned.TheVariants as learned
use Rattle.lease_link.specs.Learning.{Tells}
use Rattle.lease_link.specs.declared.unlearned.Unlearned.{Unlearned}
use Rattle.lease_link.specs.declared.unlearned.Unlearned.TheVariants as unlearned
use Rattle.lease_link.specs.Asking.{DialStand}
use Rattle.etcd_wire.specs.declared.call.Call.{Call}
use Rattle.etcd_wire.specs.declared.call.Call.TheVariants as call
use Rattle.etcd_wire.specs.declared.said.KeyValue.{KeyValue}
use Rattle.etcd_wire.specs.declared.said.Said.{Said}
use Rattle.etcd_wire.specs.declared.said.Said.TheVariants as said
use Rattle.etcd_wire.specs.Calls.{data_of}
use Rattle.etcd_lease.specs.declared.found.Found.{Found}
use Rattle.etcd_lease.specs.declared.held.Held.{Held}
use Rattle.etcd_lease.specs.declared.settings.EtcdSettings.{EtcdSettings}
use Rattle.etcd_lease.specs.Acquiring.{Acquires, AsksEtcd, AsksWho, Puts, PutsBehind, PutsOwn, TakesBehind, TellsWho, WaitsBehind, later, names, value_of}
use Rattle.etcd_lease.specs.Asking.{AsksAt, AsksEach, at_first, begun_at, further, said_by}
use Rattle.etcd_lease.specs.Rounds.{Follows, Keeps, Place, Posts, Then, asks, belief_of, place}

-- an endpoint gave no answer, and those behind it were asked
pub each_further : (tell : Type 0) (call : Call) (body address : List ℕ) (rest : List (List ℕ)) (old mid new : DialStand) (first : Result (Option Said) Unlearned)
    (next heard : Result (Option Found) Unlearned) → first ≡ Ok None → AsksAt tell call body address old mid first → AsksEach tell call body rest mid new next
    → heard ≡ further next → AsksEach tell call body (address ∷ rest) old new heard
each_further tell call body address rest old mid new first next heard none asked behind is =
    inl (mid, next, subst (λ (r : Result (Option Said) Unlearned). AsksAt tell call body address old mid r) none asked, behind, is)

-- an endpoint answered, or turns or memory ran out at it
pub each_first : (tell : Type 0) (call : Call) (body address : List ℕ) (rest : List (List ℕ)) (old new : DialStand) (first : Result (Option Said) Unlearned)
    (heard : Result (Option Found) Unlearned) → first ≢ Ok None → AsksAt tell call body address old new first → heard ≡ at_first first
    → AsksEach tell call body (address ∷ rest) old new heard
each_first tell call body address rest old new first heard some asked is = inr (first, asked, some, is)

-- one call was made, with this body, of these endpoints
pub posted : (tell : Type 0) (s : EtcdSettings) (asked : Call) (body : List ℕ) (slice endpoints now : List (List ℕ)) (held : Option Held) (old new : DialStand)
    (came found : Result (Option Found) Unlearned) (heard : Result (Option Said) Unlearned) → body ≡ compact_text (data_of s.key s.ttl asked) → slice ≡ endpoints
    → AsksEach tell asked body slice old new came → came ≡ found → now ≡ begun_at endpoints found → heard ≡ said_by found
    → Posts tell s asked (place endpoints held old) (place now held new) heard
posted tell s asked body slice endpoints now held old new came found heard same still each is begun said =
    asks found
    (subst (λ (e : List (List ℕ)). AsksEach tell asked (compact_text (data_of s.key s.ttl asked)) e old new found) still
    (subst (λ (text : List ℕ). AsksEach tell asked text slice old new found) same
    (subst (λ (r : Result (Option Found) Unlearned). AsksEach tell asked body slice old new r) is each)))
    (ap (λ (e : List (List ℕ)). place e held new) begun) said

-- a call, and what followed its answer
pub then_on : {A B : Type 0} (first : Place → Place → Result A Unlearned → Type 0) (next : A → Place → Place → Result B Unlearned → Type 0) (old mid new : Place)
    (came : Result A Unlearned) (a : A) (heard : Result B Unlearned) → first old mid came → came ≡ Ok a → next a mid new heard → Then first next old new heard
then_on {A = A} first next old mid new came a heard did is behind =
    record { mid = mid; came = Ok a; did = subst (λ (r : Result A Unlearned). first old mid r) is did; behind = behind }

-- the same, where what followed it speaks of something that the call left as it was
pub then_by : {A B X : Type 0} (first : Place → Place → Result A Unlearned → Type 0) (next : X → A → Place → Place → Result B Unlearned → Type 0) (x y : X) (old mid new : Place)
    (came : Result A Unlearned) (a : A) (heard : Result B Unlearned) → first old mid came → came ≡ Ok a → y ≡ x → next y a mid new heard → Then first (next x) old new heard
then_by {X = X} first next x y old mid new came a heard did is same behind =
    then_on first (next x) old mid new came a heard did is (subst (λ (v : X). next v a mid new heard) same behind)

-- or of two things
pub then_by_both : {A B X Y : Type 0} (first : Place → Place → Result A Unlearned → Type 0) (next : X → Y → A → Place → Place → Result B Unlearned → Type 0) (x x_now : X) (y y_now : Y)
    (old mid new : Place) (came : Result A Unlearned) (a : A) (heard : Result B Unlearned) → first old mid came → came ≡ Ok a → x_now ≡ x → y_now ≡ y → next x_now y_now a mid new heard
    → Then first (next x y) old new heard
then_by_both {Y = Y} first next x x_now y y_now old mid new came a heard did is same_x same_y behind =
    then_by first (λ v. next v y) x x_now old mid new came a heard did is same_x (subst (λ (v : Y). next x_now v a mid new heard) same_y behind)

-- a call at which turns or memory ran out
pub then_ended : {A B : Type 0} (first : Place → Place → Result A Unlearned → Type 0) (next : A → Place → Place → Result B Unlearned → Type 0) (old new : Place)
    (came : Result A Unlearned) (why : Unlearned) (heard : Result B Unlearned) → first old new came → came ≡ Err why → heard ≡ Err why → Then first next old new heard
then_ended {A = A} first next old new came why heard did is ended =
    record { mid = new; came = Err why; did = subst (λ (r : Result A Unlearned). first old new r) is did; behind = (refl, ended) }

-- what the bytes of a value tell, it does
pub tells_by : {E : Type 0} (value bytes : List ℕ) (r : Result Learned E) → decode_of standard value ≡ Ok bytes → IfOk r (Tells ask.Info 200 bytes) → IfOk r (TellsWho value)
tells_by value bytes (Ok told) decoded tells = names bytes decoded tells
tells_by value bytes (Err why) decoded tells = tt

-- ---- a key that was put

-- it is held from now on
pub took : (may : ℕ → Bool) (tell : Type 0) (s : EtcdSettings) (lease ttl : ℕ) (told : Option Said) (endpoints : List (List ℕ)) (held : Option Held) (dialed : DialStand) (key : KeyValue)
    (now term from : ℕ) → told ≡ Some (said.Key (Some key)) → key.lease ≡ lease → key.created ≡ term → IsTrue (may now) → from ≡ later now (belief_of ttl)
    → TakesBehind may tell s lease ttl told (place endpoints held dialed) (place endpoints (Some (record { term = term; lease = lease; from = from })) dialed) (Ok learned.Nothing)
took may tell s lease ttl told endpoints held dialed key now term from told_is lease_is created given from_is =
    TakesBehind.puts key now told_is lease_is given (
      ap (λ (t : ℕ). place endpoints (Some (record { term = t; lease = lease; from = from })) dialed) (sym created)
          ∙ ap (λ (f : ℕ). place endpoints (Some (record { term = key.created; lease = lease; from = f })) dialed) from_is,
      refl,
    )

-- it was put with a lease that was granted
pub puts_behind : (may : ℕ → Bool) (tell : Type 0) (s : EtcdSettings) (value : List ℕ) (told : Option Said) (lease ttl : ℕ) (old new : Place) (heard : Result Learned Unlearned)
    → told ≡ Some (said.Lease lease ttl) → Then (Posts tell s (call.Put lease value)) (λ put. Then (Posts tell s call.Range) (TakesBehind may tell s lease ttl)) old new heard
    → PutsBehind may tell s value told old new heard
puts_behind may tell s value told lease ttl old new heard granted did = subst (λ (t : Option Said). PutsBehind may tell s value t old new heard) (sym granted) did

-- it was asked for, where none was held
pub acquires_by : (may : ℕ → Bool) (tell : Type 0) (s : EtcdSettings) (asked : LeaseAsk) (held : Option Held) (value : List ℕ) (old new : Place) (heard : Result Learned Unlearned) → held ≡ None
    → value ≡ value_of asked (belief_of s.ttl) → Puts may tell s value old new heard → Acquires may tell s asked held old new heard
acquires_by may tell s asked held value old new heard none is did =
    subst (λ (h : Option Held). Acquires may tell s asked h old new heard) (sym none) (PutsOwn.puts (subst (λ (v : List ℕ). Puts may tell s v old new heard) is did))

-- memory ran out over its value
pub starved_by : (may : ℕ → Bool) (tell : Type 0) (s : EtcdSettings) (asked : LeaseAsk) (held : Option Held) (old : Place) → held ≡ None
    → Acquires may tell s asked held old old (Err unlearned.NoMemory)
starved_by may tell s asked held old none = subst (λ (h : Option Held). Acquires may tell s asked h old old (Err unlearned.NoMemory)) (sym none) (PutsOwn.starves refl refl)

-- one is held, and was waited for
pub waits_by : (may : ℕ → Bool) (tell : Type 0) (s : EtcdSettings) (asked : LeaseAsk) (held : Option Held) (it : Held) (old new : Place) (heard : Result Learned Unlearned) → held ≡ Some it
    → Then (Keeps tell s it) (WaitsBehind may it) old new heard → Acquires may tell s asked held old new heard
waits_by may tell s asked held it old new heard some did = subst (λ (h : Option Held). Acquires may tell s asked h old new heard) (sym some) did

-- who is primary was asked
pub asks_who : (may : ℕ → Bool) (tell : Type 0) (s : EtcdSettings) (asked : LeaseAsk) (old new : Place) (heard : Result Learned Unlearned) → asked ≡ ask.Info
    → AsksWho tell s old new heard → AsksEtcd may tell s asked old new heard
asks_who may tell s asked old new heard info did = subst (λ (a : LeaseAsk). AsksEtcd may tell s a old new heard) (sym info) did
