-- A file as the bytes that stand on a disk.
use Rattle.std.specs.Prelude.{ℕ, List, ◌++◌, ◌∷◌, [], ◌==◌, if◌then◌else◌}
use Rattle.ltx_codec.specs.Format.{file_encoding, no_meaning}
use Rattle.ltx_codec.specs.declared.file.Ltx.{Ltx}
use Rattle.ltx_backup.specs.Levels.{Levels, only_low}

-- the encoding that is written
unfoldable pub stored : Ltx → List ℕ
stored file = file_encoding file no_meaning

-- what a backup holds once a file was added: a snapshot alone, else the file behind all others
abbrev pub added : Levels → Ltx → Levels
added levels file = if file.header.min == 1 then only_low file else record levels { lows = levels.lows ++ file ∷ [] }
