-- The calls of the node: method and target of each.
use Rattle.std.specs.Prelude.{◌≡◌, ℕ, List, [], ◌++◌, codes, Option, Some, None}
use Rattle.lf_base.specs.Name.{IsName}
use Rattle.stream_wire.specs.declared.call.Call.{Call}
use Rattle.stream_wire.specs.declared.call.Call.TheVariants as call

abbrev pub method_of : Call → List ℕ
method_of call.HaltBack = codes "DELETE"
method_of (call.Export name) = codes "GET"
method_of call.Info = codes "GET"
method_of call.Metrics = codes "GET"
method_of call.Events = codes "GET"
method_of call.Other = []
method_of _ = codes "POST"

abbrev pub target_of : Call → List ℕ
target_of call.Stream = codes "/stream"
target_of call.Halt = codes "/halt"
target_of call.HaltBack = codes "/halt"
target_of call.Tx = codes "/tx"
target_of (call.Export name) = codes "/export?name=" ++ name
target_of (call.Import name) = codes "/import?name=" ++ name
target_of call.Lease = codes "/lease"
target_of call.Info = codes "/info"
target_of call.Metrics = codes "/metrics"
target_of call.Events = codes "/events"
target_of call.Other = []

-- a call that a method and a target can name
abbrev pub IsNamed : Call → Type 0
IsNamed (call.Export name) = IsName name
IsNamed (call.Import name) = IsName name
IsNamed call.Other = ⊥
IsNamed _ = Unit {0}

-- the call that this method and this target name, and Other where they name none
abbrev pub Names : List ℕ → List ℕ → Call → Type 0
Names method target call.Other = (c : Call) → IsNamed c → method ≡ method_of c → target ≡ target_of c → ⊥
Names method target c = IsNamed c × (method ≡ method_of c) × (target ≡ target_of c)

-- the database that a target names behind a path
abbrev pub NamesDatabase : List ℕ → List ℕ → Option (List ℕ) → Type 0
NamesDatabase path target (Some name) = IsName name × (target ≡ path ++ name)
NamesDatabase path target None = (name : List ℕ) → IsName name → target ≡ path ++ name → ⊥
