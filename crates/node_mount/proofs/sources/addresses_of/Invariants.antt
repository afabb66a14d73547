use Rattle.std.proofs.Common.{◌≡◌, ◌++◌, map, drop}
use Rattle.node_mount.specs.Sources.{url_at}
use Rattle.node_mount.proofs.sources.addresses_of.Given as goal

-- the URLs at the addresses so far, and those that are left
abbrev pub invariant-loop-url : goal.invariant-loop-url
invariant-loop-url l = map url_at l.addresses.items ++ drop l.url-index l.urls ≡ l.urls
