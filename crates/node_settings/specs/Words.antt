-- What each rule wants, in words.
use Rattle.std.specs.Prelude.{ℕ, List, codes}
use Rattle.node_settings.specs.declared.key.Key.{Key}
use Rattle.node_settings.specs.declared.key.Key.TheVariants as key
use Rattle.node_settings.specs.declared.rule.Rule.{Rule}
use Rattle.node_settings.specs.declared.rule.Rule.TheVariants as rule

-- of the key's value
abbrev pub words_of_key : Key → List ℕ
words_of_key key.Database = codes "the name of a database"
words_of_key key.Log = codes "on or off, as a text"
words_of_key key.Listen = codes "a text"
words_of_key key.Dir = codes "a path that is not empty"
words_of_key key.Program = codes "a path that is not empty"
words_of_key key.Addr = codes "an address, host:port"
words_of_key key.ProxyAddr = codes "an address, host:port"
words_of_key key.Target = codes "an address with a host, host:port"
words_of_key key.Compress = codes "false"
words_of_key key.RetentionFiles = codes "a number from 1 to 9223372036854775807"
words_of_key key.Type = codes "static, service or etcd, as a text"
words_of_key key.Candidate = codes "true or false"
words_of_key key.Bootstrap = codes "true or false"
words_of_key key.AdvertiseUrl = codes "a URL, http://host:port"
words_of_key key.Hostname = codes "a text"
words_of_key key.ServiceUrl = codes "a URL, http://host:port"
words_of_key key.Ttl = codes "a number of milliseconds from 1 to 86400000"
words_of_key key.HaltTtl = codes "a number of milliseconds from 1 to 86400000"
words_of_key key.Endpoints = codes "an array of 1 to 16 URLs, each http://host:port"
words_of_key key.EtcdKey = codes "a text of 1 to 1000 bytes"

-- of a key that is missing
abbrev pub words_of_missing : Key → List ℕ
words_of_missing key.Database = codes "the name of a database; the key is missing"
words_of_missing key.AdvertiseUrl = codes "a URL, http://host:port; the key is missing"
words_of_missing key.Log = codes "a text; the key is missing"
words_of_missing key.Listen = codes "a text; the key is missing"
words_of_missing key.Dir = codes "a text; the key is missing"
words_of_missing key.Program = codes "a text; the key is missing"
words_of_missing key.Addr = codes "a text; the key is missing"
words_of_missing key.ProxyAddr = codes "a text; the key is missing"
words_of_missing key.Target = codes "a text; the key is missing"
words_of_missing key.Compress = codes "a text; the key is missing"
words_of_missing key.RetentionFiles = codes "a text; the key is missing"
words_of_missing key.Type = codes "a text; the key is missing"
words_of_missing key.Candidate = codes "a text; the key is missing"
words_of_missing key.Bootstrap = codes "a text; the key is missing"
words_of_missing key.Hostname = codes "a text; the key is missing"
words_of_missing key.ServiceUrl = codes "a text; the key is missing"
words_of_missing key.Ttl = codes "a text; the key is missing"
words_of_missing key.HaltTtl = codes "a text; the key is missing"
words_of_missing key.Endpoints = codes "a text; the key is missing"
words_of_missing key.EtcdKey = codes "a text; the key is missing"

abbrev pub words_of : Rule → List ℕ
words_of (rule.Table p) = codes "a table"
words_of (rule.Keys p) = codes "no key of this name"
words_of (rule.There k) = words_of_missing k
words_of (rule.Value k) = words_of_key k
words_of rule.Dir = codes "a path, since fuse.program is there; the key is missing"
words_of rule.Addr = codes "an address, host:port, since proxy.target is there; the key is missing"
words_of rule.Target = codes "an address with a host, host:port, since proxy.addr is there; the key is missing"
words_of rule.Service = codes "a URL, http://host:port, since lease.type is service; the key is missing"
words_of rule.Seconds = codes "a number of milliseconds from 2000 to 86400000, since lease.type is etcd"
words_of rule.Etcd = codes "an array of 1 to 16 URLs, each http://host:port, since lease.type is etcd; the key is missing"
words_of rule.Endpoints = codes "an array of 1 to 16 URLs, each http://host:port, since lease.etcd.key is there; the key is missing"
words_of rule.Static = codes "static"
