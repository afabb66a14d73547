-- How many bytes turns can still bring.
use Rattle.std.specs.Prelude.{ℕ, ◌+◌, ◌*◌, List, length}
use Rattle.link_session.specs.Reading.{Held}

-- how many bytes are within reach of so many turns: those that are held, and 65,536 for each turn, the most that a read brings
abbrev pub reach_of : List ℕ → List ℕ → ℕ → ℕ
reach_of message ahead turns = length message + length ahead + turns * 65536

abbrev pub reach : Held → ℕ → ℕ
reach held turns = reach_of held.message held.ahead turns
