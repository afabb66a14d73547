use Rattle.std.proofs.Common.{◌≡◌, ◌≤◌, ◌-◌, ℕ, List, None, ◌++◌, length, take}
use Rattle.ltx_codec.specs.Reading.{HasBegun}
use Rattle.ltx_codec.proofs.file_reader.FileReader.feed.Given as goal

-- the bytes taken stand behind the encoding, and no fault was found
abbrev pub invariant-loop-used : goal.invariant-loop-used
invariant-loop-used l = (l.taken ≤ length l.piece) × (l.self.fault ≡ None) × ((encoding : List ℕ) → HasBegun l.fn.self encoding → HasBegun l.self (encoding ++ take l.taken l.piece))

abbrev pub decreases-loop-used : goal.decreases-loop-used
decreases-loop-used l = length l.piece - l.taken
