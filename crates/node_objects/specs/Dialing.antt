-- A link of the system, over TCP or over a Unix socket.
use Rattle.std.specs.Prelude.{ℕ}
use Rattle.node_objects.specs.declared.system_line.SystemLine.{SystemLine}
use Rattle.node_objects.specs.declared.system_line.SystemLine.TheVariants as line

-- its count of faults
abbrev pub faults_of : SystemLine → ℕ
faults_of (line.Tcp link) = link.faults
faults_of (line.Unix link) = link.faults

-- how many of its calls moved bytes
abbrev pub moves_of : SystemLine → ℕ
moves_of (line.Tcp link) = link.moves
moves_of (line.Unix link) = link.moves
