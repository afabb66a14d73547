-- The commands: which kind each is, what it writes for an input, and how it refuses one.
use Rattle.std.specs.Prelude.{◌≡◌, ℕ, List, Ok, Err}
use Rattle.lf_sqlite_pages.specs.Image.{DatabaseImage, image_bytes}
use Rattle.litefs_tool.specs.Compaction.{BecomesEncoding, RefusesToCompact}
use Rattle.litefs_tool.specs.CompactRefusal.{compact_refusal_name}
use Rattle.litefs_tool.specs.Files.{Applies, never_written}
use Rattle.litefs_tool.specs.Refusal.{refusal_name}
use Rattle.litefs_tool.specs.declared.command.Command.{Command}
use Rattle.litefs_tool.specs.declared.command.Command.TheVariants.{Apply, Compact, Mount, Lease, Export, Import, Drill, Backup, Restore, Run}
use Rattle.litefs_tool.specs.declared.compact_refusal.CompactRefusal.{CompactRefusal}
use Rattle.litefs_tool.specs.declared.refusal.Refusal.{Refusal}

-- a command that turns its input into its output
abbrev pub IsOverStreams : Command → Type 0
IsOverStreams Apply = Unit {0}
IsOverStreams Compact = Unit {0}
IsOverStreams command = ⊥

-- a command on a backup
abbrev pub IsOverDisks : Command → Type 0
IsOverDisks (Backup remote) = Unit {0}
IsOverDisks (Restore database txid) = Unit {0}
IsOverDisks command = ⊥

-- a command that serves links
abbrev pub IsServing : Command → Type 0
IsServing Mount = Unit {0}
IsServing Lease = Unit {0}
IsServing command = ⊥

-- the bytes that a command writes for an input
abbrev pub WritesFor : Command → List ℕ → List ℕ → Type 0
WritesFor Apply input bytes = (image : DatabaseImage) × Applies never_written input (Ok image) × (bytes ≡ image_bytes image)
WritesFor Compact input bytes = BecomesEncoding input bytes
WritesFor Mount input bytes = ⊥
WritesFor Lease input bytes = ⊥
WritesFor (Export remote) input bytes = ⊥
WritesFor (Import remote) input bytes = ⊥
WritesFor (Drill number) input bytes = ⊥
WritesFor (Backup remote) input bytes = ⊥
WritesFor (Restore database txid) input bytes = ⊥
WritesFor (Run task) input bytes = ⊥

-- a command refuses an input, by the fault of this name
abbrev pub RefusesBy : Command → List ℕ → List ℕ → Type 0
RefusesBy Apply input name = (why : Refusal) × Applies never_written input (Err why) × (name ≡ refusal_name why)
RefusesBy Compact input name = (why : CompactRefusal) × RefusesToCompact input why × (name ≡ compact_refusal_name why)
RefusesBy Mount input name = ⊥
RefusesBy Lease input name = ⊥
RefusesBy (Export remote) input name = ⊥
RefusesBy (Import remote) input name = ⊥
RefusesBy (Drill number) input name = ⊥
RefusesBy (Backup remote) input name = ⊥
RefusesBy (Restore database txid) input name = ⊥
RefusesBy (Run task) input name = ⊥
