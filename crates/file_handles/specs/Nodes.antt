-- The node numbers of the served files. The folder that they stand in has number 1.
use Rattle.std.specs.Prelude.{ℕ, Option, Some, None, ◌==◌, if◌then◌else◌}
use Rattle.byte_locks.specs.declared.lock_bytes.FileKind.{FileKind}
use Rattle.byte_locks.specs.declared.lock_bytes.FileKind.TheVariants.{Database, Journal, Wal, Shm, PosFile, LockFile, Primary}

-- the node of the folder
abbrev pub root : ℕ
root = 1

-- the node of a file
abbrev pub node_of : FileKind → ℕ
node_of Database = 2
node_of Journal = 3
node_of Wal = 4
node_of Shm = 5
node_of PosFile = 6
node_of LockFile = 7
node_of Primary = 8

-- the file of a node
abbrev pub file_at : ℕ → Option FileKind
file_at node =
    if node == 2 then Some Database else
    if node == 3 then Some Journal else
    if node == 4 then Some Wal else
    if node == 5 then Some Shm else
    if node == 6 then Some PosFile else
    if node == 7 then Some LockFile else
    if node == 8 then Some Primary else None
