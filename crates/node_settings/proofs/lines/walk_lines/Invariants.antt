use Rattle.std.proofs.Common.{◌≤◌, ◌+◌}
use Rattle.node_settings.specs.Lines.{LacksAt, NoneIsBetween}
use Rattle.node_settings.specs.Rules.{Stands}
use Rattle.node_settings.proofs.lines.walk_lines.Given as goal

-- the last lines so far that are TOML lack the key, and no lines behind them are
abbrev pub invariant-loop-at : goal.invariant-loop-at
invariant-loop-at l = record {
  before : LacksAt (Stands l.place l.name) l.text l.good;
  behind : l.good ≤ l.at;
  last : NoneIsBetween l.good (l.at + 1) l.text;
}
