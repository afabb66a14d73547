-- What a reader of a plain replica sees.
use Rattle.std.proofs.Common.{true, false, Bool, [], ◌∷◌, Option, refl, subst, ◌∙◌}
use Rattle.std.specs.List.{Contains}
use Rattle.std.proofs.lemmas.List.Elements.{Contains-append_right}
use Rattle.byte_locks.specs.declared.owner.Owner.{Owner}
use Rattle.byte_locks.specs.declared.lock_id.LockId.{LockId}
use Rattle.byte_locks.specs.declared.lock_id.LockId.TheVariants as lock
use Rattle.lf_sqlite_pages.specs.Image.{DatabaseImage}
use Rattle.lf_sqlite_pages.specs.Header.{image_is_wal}
use Rattle.world_laws.specs.Node.{IsSoundNode, NodeState}
use Rattle.world_laws.specs.ReaderLaw.{IsRead, ReadRuns, ReaderSteady, reads, steps}
use Rattle.byte_locks.specs.ModeLocks.{blocking_locks, reading_locks}
use Rattle.world_laws.specs.Served.{HoldsBack, IsInside, IsUnder, Served, Writer}
use Rattle.world_laws.specs.Step.{Steady}

Steady-refl : (n : NodeState) → Steady n n
Steady-refl n = record { position = refl; image = refl; file = refl; frames = refl }

Steady-trans : (n m u : NodeState) → Steady n m → Steady m u → Steady n u
Steady-trans n m u a b = record { position = b.position ∙ a.position; image = b.image ∙ a.image; file = b.file ∙ a.file; frames = b.frames ∙ a.frames }

first-read : {owner : Owner} {n u : NodeState} → ReadRuns owner n u → IsRead n owner
first-read (reads is) = is
first-read (steps is facts rest) = is

last-read : {owner : Owner} {n u : NodeState} → ReadRuns owner n u → IsRead u owner
last-read (reads is) = is
last-read (steps is facts rest) = last-read rest

-- a lock that readers read under holds frames back
reading-blocks : (wal : Bool) (which : LockId) → Contains (reading_locks wal) which → Contains (blocking_locks wal) which
unfolding blocking_locks
reading-blocks false which here = Contains-append_right (lock.Pending ∷ lock.Reserved ∷ []) (reading_locks false) which here
reading-blocks true which here = Contains-append_right (lock.Write ∷ lock.Ckpt ∷ lock.Recover ∷ []) (reading_locks true) which here

inside-blocks : (served : Served) (image : DatabaseImage) (owner : Owner) (inside : IsInside served image owner) → HoldsBack served image inside.0.lock
inside-blocks served image owner inside = (reading-blocks (image_is_wal image) inside.0.lock inside.3, (inside.0, inside.1, refl))

steady-of : {owner : Owner} {n u : NodeState} → ReadRuns owner n u → Steady n u
steady-of (reads {n = n} is) = Steady-refl n
steady-of (steps {owner = o} {n = n} {m = m} {u = u} is facts rest) =
    Steady-trans n m u
    (facts.steady is.plain (first-read rest).plain is.inside.0.lock (inside-blocks n.served n.store.image o is.inside))
    (steady-of rest)

sound-of : {owner : Owner} {n u : NodeState} → ReadRuns owner n u → IsSoundNode n → IsSoundNode u
sound-of (reads is) sound = sound
sound-of (steps is facts rest) sound = sound-of rest (facts.keeps sound)

pub reader_steady-of : ReaderSteady
reader_steady-of owner old new sound runs =
    let last : IsSoundNode new = sound-of runs sound in
    (steady-of runs, subst (λ (w : Option Writer). IsUnder new.served w new.store.image) (last.replica (last-read runs).plain.role) last.overlay)
