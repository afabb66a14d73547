-- What etcd's replies say. A number of 64 bits is a text; one that is 0 is left out, and so is an empty text.
use Rattle.std.specs.Prelude.{◌≡◌, ◌≢◌, ℕ, List, [], codes, Option, Some, None, option_and_then, option_map}
use Rattle.lease_core.specs.Bodies.{IsJson}
use Rattle.serde_json.specs.Data.{Data}
use Rattle.serde_json.specs.Find.{as_str, at, get}
use Rattle.stream_wire.specs.Head.{decimal_of}
use Rattle.etcd_wire.specs.declared.call.Call.{Call}
use Rattle.etcd_wire.specs.declared.call.Call.TheVariants as call
use Rattle.etcd_wire.specs.declared.said.KeyValue.{KeyValue}
use Rattle.etcd_wire.specs.declared.said.Said.{Said}
use Rattle.etcd_wire.specs.declared.said.Said.TheVariants as said

abbrev pub text_in : List ℕ → Data → Option (List ℕ)
text_in key d = option_and_then as_str (get key d)

abbrev pub number_in : List ℕ → Data → Option ℕ
number_in key d = option_and_then decimal_of (text_in key d)

-- the same of a member that may be left out
abbrev pub number_or_zero_of : Option Data → Option ℕ
number_or_zero_of None = Some 0
number_or_zero_of (Some d) = option_and_then decimal_of (as_str d)

abbrev pub text_or_empty_of : Option Data → Option (List ℕ)
text_or_empty_of None = Some []
text_or_empty_of (Some d) = as_str d

abbrev pub key_value : ℕ → ℕ → List ℕ → KeyValue
key_value created lease value = record { created = created; lease = lease; value = value }

-- a key that is told
unfoldable pub key_in : Data → Option KeyValue
key_in d =
    option_and_then (λ created. option_and_then (λ lease. option_map (λ value. key_value created lease value)
    (text_or_empty_of (get (codes "value") d))) (number_or_zero_of (get (codes "lease") d))) (number_in (codes "create_revision") d)

-- the keys that are told, of which the first counts; none where they are left out
abbrev pub keys_in : Option Data → Option Said
keys_in None = Some (said.Key None)
keys_in (Some keys) = option_map (λ key. said.Key (Some key)) (option_and_then key_in (at 0 keys))

abbrev pub lease_in : Data → Option Said
lease_in d = option_and_then (λ lease. option_map (λ ttl. said.Lease lease ttl) (number_in (codes "TTL") d)) (number_in (codes "ID") d)

abbrev pub lasts_in : Data → Option Said
lasts_in d = option_map said.Lasts (number_or_zero_of (get (codes "TTL") d))

-- what is told beside a header
unfoldable pub told_in : Call → Data → Option Said
told_in call.Range d = keys_in (get (codes "kvs") d)
told_in call.Grant d = lease_in d
told_in (call.Put lease value) d = Some said.Done
told_in (call.KeepAlive lease) d = lasts_in d
told_in (call.Revoke lease) d = Some said.Done

-- where a call's reply stands in its JSON
abbrev pub reply_in : Call → Data → Option Data
reply_in (call.KeepAlive lease) d = get (codes "result") d
reply_in _ d = Some d

-- WHAT A REPLY'S JSON SAYS: nothing where it has no header
abbrev pub said_in : Call → Data → Option Said
said_in asked d = option_and_then (λ reply. option_and_then (λ header. told_in asked reply) (get (codes "header") reply)) (reply_in asked d)

-- WHAT A REPLY'S BODY SAYS, if it is JSON and says anything
pub data Reads (asked : Call) (body : List ℕ) (read : Option Said) : Type 0 where
  json : (d : Data) → IsJson body d → read ≡ said_in asked d → Reads asked body read
  no_json : ((d : Data) → IsJson body d → ⊥) → read ≡ None → Reads asked body read
