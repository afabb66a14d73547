use Rattle.std.proofs.Common.{◌≡◌, map, take}
use Rattle.conversations.proofs.difference.numbers_of.Given as goal

-- the numbers are those of the pages before this one
abbrev pub invariant-loop-page : goal.invariant-loop-page
invariant-loop-page l = l.numbers.items ≡ map (λ w. w.number) (take l.page-index l.pages)
