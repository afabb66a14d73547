-- What is asked of etcd: the JSON of each call. Bytes are in base64; a lease and a time are numbers.
use Rattle.std.specs.Prelude.{ℕ, List, codes}
use Rattle.base64.specs.Engines.{standard}
use Rattle.base64.specs.GeneralPurpose.{encode_of}
use Rattle.serde_json.specs.Data.{Data, string, number, unsigned, array, object, Items, no_items, item, Members, no_members, member}
use Rattle.etcd_wire.specs.declared.call.Call.{Call}
use Rattle.etcd_wire.specs.declared.call.Call.TheVariants as call

abbrev pub path_of : Call → List ℕ
path_of call.Range = codes "/v3/kv/range"
path_of call.Grant = codes "/v3/lease/grant"
path_of (call.Put lease value) = codes "/v3/kv/txn"
path_of (call.KeepAlive lease) = codes "/v3/lease/keepalive"
path_of (call.Revoke lease) = codes "/v3/lease/revoke"

-- bytes in base64
unfoldable pub coded : List ℕ → List ℕ
coded bytes = encode_of standard bytes

abbrev pub range_data : List ℕ → Data
range_data key = object (member (codes "key") (string key) no_members)

abbrev pub grant_data : ℕ → Data
grant_data ttl = object (member (codes "TTL") (number (unsigned ttl)) no_members)

abbrev pub lease_data : ℕ → Data
lease_data lease = object (member (codes "ID") (number (unsigned lease)) no_members)

-- that there is no such key
abbrev pub none_such : List ℕ → Data
none_such key = object (member (codes "create_revision") (string (codes "0")) (member (codes "key") (string key) (member (codes "target") (string (codes "CREATE")) no_members)))

-- what is put, under which lease
abbrev pub put_members : List ℕ → ℕ → List ℕ → Data
put_members key lease value =
    object (member (codes "key") (string key) (member (codes "lease") (number (unsigned lease)) (member (codes "value") (string (coded value)) no_members)))

-- the put
abbrev pub put_data : List ℕ → ℕ → List ℕ → Data
put_data key lease value =
    object (member (codes "request_put") (put_members key lease value) no_members)

-- the put, where there is no such key
abbrev pub txn_data : List ℕ → ℕ → List ℕ → Data
txn_data key lease value =
    object (member (codes "compare") (array (item (none_such key) no_items)) (member (codes "success") (array (item (put_data key lease value) no_items)) no_members))

-- WHAT IS ASKED of a key that stands in base64, for a lease of so many seconds
abbrev pub data_of : List ℕ → ℕ → Call → Data
data_of key ttl call.Range = range_data key
data_of key ttl call.Grant = grant_data ttl
data_of key ttl (call.Put lease value) = txn_data key lease value
data_of key ttl (call.KeepAlive lease) = lease_data lease
data_of key ttl (call.Revoke lease) = lease_data lease
