-- How a text is read line by line.
use Rattle.std.specs.Prelude.{ℕ, List}
use Rattle.toml.specs.Data.{Members}
use Rattle.node_settings.specs.declared.lines.Look.{Look}
use Rattle.node_settings.specs.declared.lines.Look.TheVariants as look
use Rattle.node_settings.specs.declared.lines.Walk.{Walk}
use Rattle.node_settings.specs.declared.lines.Walk.TheVariants as walk
use Rattle.node_settings.specs.Lines.{BreaksAt, BringsAt, IsDocument}

-- what the first lines are
abbrev pub LooksAt : (Members → Type 0) → List ℕ → Look → Type 0
LooksAt Has text look.NoToml = (root : Members) → IsDocument text root → ⊥
LooksAt Has text look.WithoutKey = (root : Members) × IsDocument text root × (Has root → ⊥)
LooksAt Has text look.WithKey = (root : Members) × IsDocument text root × Has root

-- where the walk ends
abbrev pub WalksTo : (Members → Type 0) → List ℕ → Walk → Type 0
WalksTo Has text (walk.Brings n) = BringsAt Has text n
WalksTo Has text (walk.Ends n) = BreaksAt Has text n
