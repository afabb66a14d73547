use Rattle.std.proofs.Common.{take}
use Rattle.std.specs.List.{flat_map}
use Rattle.sha2.specs.Hashers.{Holds256}
use Rattle.conversations.proofs.difference.digest_of.Given as goal

-- the digest has taken the bytes of the pages before this one
abbrev pub invariant-loop-page : goal.invariant-loop-page
invariant-loop-page l = Holds256 l.digest (flat_map (λ w. w.bytes) (take l.page-index l.pages))
