-- The system's error at a call of a disk, by its number on Linux (errno(3)).
use Rattle.std.specs.Prelude.{Bool, false, ◌||◌, ◌==◌, if◌then◌else◌, Option, None, Some}
use Rattle.lf_base.specs.declared.errno.Errno.{Errno}

-- there is no room: on the device (ENOSPC), or of the user's share of it (EDQUOT)
abbrev pub is_want_of_room : Option Errno → Bool
is_want_of_room None = false
is_want_of_room (Some number) = (number.0 == 28) || (number.0 == 122)

-- what a disk in memory says of a call that fails: that there is no room, where it has lost it
abbrev pub said : (roomless : Bool) → Option Errno
said roomless = if roomless then Some (record { 0 = 28 }) else None
