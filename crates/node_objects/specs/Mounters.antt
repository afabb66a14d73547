-- The program that mounts a node's files at a folder: by which words it is run, and what a mounter says of it.
use Rattle.std.specs.Prelude.{ℕ, List, [], ◌∷◌, ◌++◌, codes, Option, Some, None, Result, Ok, Err}
use Rattle.std.specs.Str.Lossy.{utf8_lossy}
use Rattle.lf_base.specs.declared.errno.Errno.{Errno}
use Rattle.node_settings.specs.declared.settings.MountSettings.{MountSettings}
use Rattle.node_objects.specs.declared.mount_call.MountCall.{MountCall}
use Rattle.node_objects.specs.declared.mounter.ProgramEnd.{ProgramEnd}
use Rattle.node_objects.specs.declared.mounter.ProgramNews.{ProgramNews}
use Rattle.node_objects.specs.declared.mounter.ProgramNews.TheVariants as news

-- of a database that is served on a socket, as the settings name the folder and the program
abbrev pub mount_call : (database socket : List ℕ) → MountSettings → MountCall
mount_call database socket mount = record { database = database; socket = socket; dir = mount.dir; program = mount.program }

-- the folder is made where it is missing, and its files are known by the database's name, as text
abbrev pub mount_options : (database : List ℕ) → List ℕ
mount_options database = codes "mkdir,name=" ++ utf8_lossy database

-- THE WORDS behind the program's name
abbrev pub mount_words : MountCall → List (List ℕ)
mount_words call = call.socket ∷ call.dir ∷ codes "-o" ∷ mount_options call.database ∷ codes "--until-stdin-ends" ∷ []

-- what came of a start, and of a look
abbrev pub start_news : Result (Unit {0}) (Option Errno) → ProgramNews
start_news (Ok done) = news.Started
start_news (Err why) = news.NotStarted why

abbrev pub look_news : Option ProgramEnd → ProgramNews
look_news None = news.Runs
look_news (Some end) = news.Ended end
