use Rattle.std.proofs.Common.{rules}
use Rattle.std.proofs.lemmas.List.Sorted.{IsNonDecreasingBy-from_sort_by_key}
use Rattle.std.proofs.lemmas.Map.Keys.{IsDistinct-IsPermutation}
use Rattle.lf_disk.specs.Listing.{place_of, same_numbers}
use Rattle.lf_disk.proofs.Listings.{has_moved, named_moved, narrow_moved}
use Rattle.lf_disk.proofs.NamedOnce.{numbers_flip}
use Rattle.lf_disk.proofs.listing.sorted_among.Goals as goal

pub returns-clause-has : goal.returns-clause-has
returns-clause-has c a b =
    let old = c.in_ok-found.found.items in
    let new = c.sort_unstable_by_key.new.self.items in
    let moved = c.sort_unstable_by_key.ensures.permutation in
    (λ has. named_moved c.args.names.now old new a b moved (λ x y. (c.in_ok-found.ensures.has x y).0) has, λ named. has_moved old new a b moved ((c.in_ok-found.ensures.has a b).1 named))

pub returns-clause-order : goal.returns-clause-order
returns-clause-order c = IsNonDecreasingBy-from_sort_by_key place_of _ c.sort_unstable_by_key.ensures.sorted (λ a r q k. search rules)

pub returns-clause-once : goal.returns-clause-once
returns-clause-once c distinct =
    IsDistinct-IsPermutation same_numbers numbers_flip c.in_ok-found.found.items c.sort_unstable_by_key.new.self.items c.sort_unstable_by_key.ensures.permutation
    (c.in_ok-found.ensures.once distinct)

pub returns-clause-narrow : goal.returns-clause-narrow
returns-clause-narrow c = narrow_moved c.in_ok-found.found.items c.sort_unstable_by_key.new.self.items c.sort_unstable_by_key.ensures.permutation c.in_ok-found.ensures.narrow
