-- What is told where something that a node runs on could not be made.
use Rattle.std.specs.Prelude.{ℕ, List, [], ◌++◌, codes, Option, Some, None}
use Rattle.node_objects.specs.Breaking.{reason}
use Rattle.node_objects.specs.Lines.{shown}
use Rattle.node_objects.specs.declared.obstacle.Obstacle.{Obstacle}
use Rattle.node_objects.specs.declared.obstacle.Obstacle.TheVariants as obstacle

abbrev pub obstacle_words : Obstacle → List ℕ
obstacle_words obstacle.InUse = codes ": another process has it"
obstacle_words obstacle.NoSocket = codes ": a file that is no socket has the path"
obstacle_words obstacle.TooLong = codes ": a socket's path has at most 107 bytes"
obstacle_words (obstacle.Error number) = reason (Some number)

abbrev pub known_words : Option Obstacle → List ℕ
known_words None = []
known_words (Some why) = obstacle_words why

-- WHAT IS TOLD of a thing of this name with which this could not be done
abbrev pub obstacle_line : (call name : List ℕ) → Option Obstacle → List ℕ
obstacle_line call name why = codes "cannot " ++ shown call ++ shown name ++ shown (known_words why)
