-- Why no request was read.
use Rattle.std.specs.Prelude.{ℕ, List, [], ◌∷◌}
use Rattle.lf_base.specs.declared.session_end.SessionEnd.{SessionEnd}
use Rattle.lf_base.specs.declared.session_end.SessionEnd.TheVariants as ends
use Rattle.link_session.specs.declared.unread.Unread.{Unread}
use Rattle.link_session.specs.declared.unread.Unread.TheVariants as unread

-- of an input that ended, or could not be read, behind these bytes
abbrev pub unread_by : SessionEnd → List ℕ → Unread
unread_by ends.Closed [] = unread.Ended
unread_by ends.Closed (b ∷ held) = unread.Cut
unread_by ends.BadMessage held = unread.Cut
unread_by ends.ReadFault held = unread.ReadFault
unread_by ends.WriteFault held = unread.ReadFault
unread_by ends.Turns held = unread.Turns
unread_by ends.Worn held = unread.Turns
unread_by ends.NoMemory held = unread.NoMemory
