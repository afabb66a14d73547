-- The numbers are all the keys, and then sorted.
use Rattle.std.proofs.Common.{◌≡◌, ◌++◌, [], ap, sym, ◌∙◌, append-nil, rules}
use Rattle.std.specs.Map.{keys_of}
use Rattle.lf_sqlite_pages.proofs.TableNumbers.{numbers-are_keys}
use Rattle.lf_sqlite_pages.proofs.table.numbers.Goals as goal

pub returns : goal.returns
returns c =
    let none : c.loop-n.n-iterator ≡ [] = search rules in
    let all : c.loop-n.numbers.items ≡ keys_of c.args.table.now.entries = sym (append-nil c.loop-n.numbers.items) ∙ ap (λ ns. c.loop-n.numbers.items ++ ns) (sym none) ∙ c.loop-n.invariant in
    numbers-are_keys c.args.table.now.entries c.sort_unstable.new.self.items c.keys-n-items.ensures.unique
    (rw all at c.sort_unstable.ensures.permutation) c.sort_unstable.ensures.sorted
