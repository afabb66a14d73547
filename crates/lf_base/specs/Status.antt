-- How a run of the program ends: its status and the line on standard error.
use Rattle.std.specs.Prelude.{ℕ, List, [], codes}
use Rattle.lf_base.specs.declared.status.Status.{Status}
use Rattle.lf_base.specs.declared.status.Status.TheVariants as status

-- the number that the process ends with
abbrev pub number_of : Status → ℕ
number_of status.Ok = 0
number_of status.ReadFault = 1
number_of status.WordsRefused = 2
number_of status.InputRefused = 3
number_of status.WriteFault = 4
number_of status.DiskFault = 5
number_of status.NoMemory = 6
number_of status.NetworkFault = 7
number_of status.NoThread = 8
number_of status.Limit = 9
number_of (status.Program number) = number
number_of status.NotStarted = 10
number_of status.LockRefused = 11

-- what is said of it after the program's name; after a refused input the fault's name follows
abbrev pub text_of : Status → List ℕ
text_of status.Ok = []
text_of status.ReadFault = codes "cannot read"
text_of status.WordsRefused = codes "words refused"
text_of status.InputRefused = codes "input refused: "
text_of status.WriteFault = codes "cannot write"
text_of status.DiskFault = codes "disk failed"
text_of status.NoMemory = codes "out of memory"
text_of status.NetworkFault = codes "network failed"
text_of status.NoThread = codes "cannot start a thread"
text_of status.Limit = codes "limit reached"
text_of (status.Program number) = []
text_of status.NotStarted = codes "cannot start the program"
text_of status.LockRefused = codes "halt refused"
