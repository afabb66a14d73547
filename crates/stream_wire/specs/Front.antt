-- What bytes begin with: less than a frame, a whole one, or the first fault. A fault stands at the end of its field.
use Rattle.std.specs.Prelude.{◌≡◌, ℕ, ◌+◌, ◌<◌, ◌≤◌, ◌==◌, ◌&&◌, ◌⊎◌, nat_lt, nat_le, not, Bool, List, length, take, drop, Option, Some, None, IsTrue, if◌then◌else◌}
use Rattle.lf_base.specs.Endian.{be32_at, be64_at}
use Rattle.lf_base.specs.Name.{IsName}
use Rattle.stream_wire.specs.declared.wire_fault.WireFault.{WireFault}
use Rattle.stream_wire.specs.declared.wire_fault.WireFault.TheVariants as fault

-- the fields of the first 16 bytes
abbrev pub kind_at : List ℕ → ℕ
kind_at bytes = be32_at 0 bytes

abbrev pub name_len_at : List ℕ → ℕ
name_len_at bytes = be32_at 4 bytes

abbrev pub body_len_at : List ℕ → ℕ
body_len_at bytes = be64_at 8 bytes

-- the lengths of the front with the name, and of the whole
abbrev pub named_len_at : List ℕ → ℕ
named_len_at bytes = 16 + name_len_at bytes

abbrev pub frame_len_at : List ℕ → ℕ
frame_len_at bytes = named_len_at bytes + body_len_at bytes

-- 1 is LTX, 2 Ready, 3 End, 4 Drop
abbrev pub is_kind : ℕ → Bool
is_kind kind = nat_lt 0 kind && nat_lt kind 5

-- End has no name, each other a name of 1 to 64 bytes
abbrev pub is_name_len : ℕ → ℕ → Bool
is_name_len kind len = if kind == 3 then len == 0 else nat_lt 0 len && nat_lt len 65

-- Ready has a position, End and Drop have no body
abbrev pub is_body_len : ℕ → ℕ → Bool
is_body_len kind len = if kind == 1 then nat_le 0 len else if kind == 2 then len == 16 else len == 0

-- the first fault of the first 16 bytes, as far as they are there
unfoldable pub head_fault : ℕ → List ℕ → Option WireFault
head_fault limit bytes =
    if nat_lt (length bytes) 4 then None else
    if not (is_kind (kind_at bytes)) then Some (fault.Kind (kind_at bytes)) else
    if nat_lt (length bytes) 8 then None else
    if not (is_name_len (kind_at bytes) (name_len_at bytes)) then Some fault.NameText else
    if nat_lt (length bytes) 16 then None else
    if nat_lt limit (body_len_at bytes) then Some (fault.TooLong (body_len_at bytes)) else
    if not (is_body_len (kind_at bytes) (body_len_at bytes)) then Some fault.Length else
    None

-- the name behind them
abbrev pub name_at : List ℕ → List ℕ
name_at bytes = take (name_len_at bytes) (drop 16 bytes)

-- it is there, and it is no name
pub record HasBadName (bytes : List ℕ) : Type 0 where
  pub fields : 16 ≤ length bytes
  pub there : named_len_at bytes ≤ length bytes
  pub some : 0 < name_len_at bytes
  pub bad : IsName (name_at bytes) → ⊥

-- the frame is longer than what is there
abbrev pub IsShort : List ℕ → Type 0
IsShort bytes = 16 ≤ length bytes → length bytes < frame_len_at bytes

pub data Front : Type 0 where
  part : Front
  whole : ℕ → Front
  broken : WireFault → Front

-- what bytes begin with, where a body may have so many bytes
abbrev pub BeginsWith : ℕ → List ℕ → Front → Type 0
BeginsWith limit bytes part = (head_fault limit bytes ≡ None) × (HasBadName bytes → ⊥) × IsShort bytes
BeginsWith limit bytes (whole len) =
    (head_fault limit bytes ≡ None) × (HasBadName bytes → ⊥) × (16 ≤ length bytes) × (frame_len_at bytes ≤ length bytes) × (len ≡ frame_len_at bytes)
BeginsWith limit bytes (broken f) =
    (head_fault limit bytes ≡ Some f) ⊎ ((head_fault limit bytes ≡ None) × HasBadName bytes × (f ≡ fault.NameText))

-- what reading the name gives: it, or nothing where it is empty or not there yet
abbrev pub GivesName : List ℕ → Option (List ℕ) → Type 0
GivesName bytes (Some name) = (0 < name_len_at bytes) × (named_len_at bytes ≤ length bytes) × (name ≡ name_at bytes)
GivesName bytes None = (name_len_at bytes ≡ 0) ⊎ (length bytes < named_len_at bytes)

-- why it was not read: it is no name, or memory ran out
abbrev pub RefusesName : List ℕ → WireFault → Type 0
RefusesName bytes fault.NameText = HasBadName bytes
RefusesName bytes fault.NoMemory = Unit {0}
RefusesName bytes _ = ⊥

-- why no front was found: the first fault, or memory ran out
abbrev pub Refuses : ℕ → List ℕ → WireFault → Type 0
Refuses limit bytes fault.NoMemory = Unit {0}
Refuses limit bytes f = BeginsWith limit bytes (broken f)

-- a whole frame and no more, whatever the limit
pub record IsWholeFrame (bytes : List ℕ) : Type 0 where
  pub fields : 16 ≤ length bytes
  pub len : length bytes ≡ frame_len_at bytes
  pub kind : IsTrue (is_kind (kind_at bytes))
  pub name_len : IsTrue (is_name_len (kind_at bytes) (name_len_at bytes))
  pub body_len : IsTrue (is_body_len (kind_at bytes) (body_len_at bytes))
