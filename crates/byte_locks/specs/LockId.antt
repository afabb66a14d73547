use Rattle.std.specs.Prelude.{ℕ, List, [], ◌∷◌, Bool, nat_eq}
use Rattle.byte_locks.specs.declared.lock_id.LockId.{LockId as Lock}
use Rattle.byte_locks.specs.declared.lock_id.LockId.TheVariants.{Pending, Reserved, Shared, Write, Ckpt, Recover, Read0, Read1, Read2, Read3, Read4, Dms, Halt, Many}

-- every lock, in order
unfoldable pub every_lock : List Lock
every_lock =
    Pending ∷ Reserved ∷ Shared ∷ Write ∷ Ckpt ∷ Recover ∷ Read0 ∷ Read1 ∷ Read2 ∷ Read3 ∷ Read4 ∷ Dms ∷ Halt ∷ Many ∷ []

-- a lock's place in that order
abbrev pub place_of : Lock → ℕ
place_of Pending = 0
place_of Reserved = 1
place_of Shared = 2
place_of Write = 3
place_of Ckpt = 4
place_of Recover = 5
place_of Read0 = 6
place_of Read1 = 7
place_of Read2 = 8
place_of Read3 = 9
place_of Read4 = 10
place_of Dms = 11
place_of Halt = 12
place_of Many = 13

-- whether two locks are one
abbrev pub same_lock : Lock → Lock → Bool
same_lock a b = nat_eq (place_of a) (place_of b)
