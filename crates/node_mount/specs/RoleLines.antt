-- What a node tells of its start and its role.
use Rattle.std.specs.Prelude.{◌≡◌, ◌≢◌, ℕ, List, [], ◌∷◌, ◌++◌, codes, Option, Some, None}
use Rattle.lf_base.specs.Position.{position_text}
use Rattle.lf_base.specs.declared.pos.Pos.{Pos}
use Rattle.file_view.specs.declared.view.Role.{Role}
use Rattle.file_view.specs.declared.view.Role.TheVariants as role
use Rattle.node_core.specs.declared.info.NodeInfo.{NodeInfo}
use Rattle.node_settings.specs.declared.settings.Settings.{Settings}
use Rattle.node_objects.specs.Lines.{shown}

-- a replica names its primary's host, where it knows one
abbrev pub replica_of : Option (List ℕ) → List ℕ
replica_of None = codes "replica"
replica_of (Some []) = codes "replica"
replica_of (Some host) = codes "replica of " ++ shown host

-- what a node is
abbrev pub role_words : Role → Option (List ℕ) → List ℕ
role_words role.Primary host = codes "primary"
role_words role.Replica host = replica_of host
role_words role.Halted host = codes "halted"

-- a change of role
abbrev pub role_line : (words : List ℕ) → Pos → List ℕ
role_line words pos = codes "role " ++ words ++ codes " at " ++ shown (position_text pos)

-- THE LINE OF A NODE that is so: none where the role was told last, and else that of a change
abbrev pub ChangesRole : NodeInfo → (told : List ℕ) → Option (List ℕ) → (now : List ℕ) → Type 0
ChangesRole info told None now = (told ≡ role_words info.role info.primary) × (now ≡ told)
ChangesRole info told (Some line) now =
    (now ≡ role_words info.role info.primary) × (told ≢ now) × (line ≡ role_line now info.pos)

-- the line of a start: in front of the line of its role, and behind it
abbrev pub start_front : Settings → List ℕ
start_front settings = codes "start 0.1.0: database " ++ shown settings.database ++ codes ", "

abbrev pub start_behind : Settings → List ℕ
start_behind settings = codes ", files on " ++ shown settings.socket ++ codes ", http on " ++ shown settings.http
