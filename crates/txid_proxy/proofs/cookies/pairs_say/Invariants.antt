use Rattle.std.proofs.Common.{ℕ, [], length, Option}
use Rattle.txid_proxy.specs.Cookies.{SaysFirst, pairs_behind}
use Rattle.txid_proxy.proofs.cookies.pairs_say.Given as goal

abbrev pub invariant-pairs : goal.invariant-pairs
invariant-pairs l = (r : Option ℕ) → SaysFirst (pairs_behind [] l.rest) r → SaysFirst (pairs_behind [] l.value) r

abbrev pub decreases-pairs : goal.decreases-pairs
decreases-pairs l = length l.rest
