-- A note that is counted with one that was told.
use Rattle.std.proofs.Common.{◌≡◌, ◌∙◌, refl, subst, ℕ, List, Option, slice_index_or, slice_set}
use Rattle.std.proofs.lemmas.List.{get_or_default}
use Rattle.node_mount.specs.Noting.{IsNext, IsToldBy, IsWith}
use Rattle.node_mount.specs.declared.notes.NoteKind.{NoteKind}
use Rattle.node_mount.specs.declared.repeats.Repeats.{Repeats}
use Rattle.node_mount.specs.declared.repeats.Told.{Told}

-- the one that was read at a place counts it
pub told_by : (old : List Told) (kind : NoteKind) (line : List ℕ) (now place : ℕ) (known : Told) (told : Option (List ℕ)) (repeats : Repeats)
    → IsWith old place kind line → known ≡ slice_index_or old place known → IsNext known.repeats line now told repeats
    → IsToldBy old kind line now told (slice_set old place (record known { repeats = repeats }))
told_by old kind line now place known told repeats at read next = (
  place,
  repeats,
  at,
  λ d. subst
      (λ (k : Told). IsNext k.repeats line now told repeats × (slice_set old place (record known { repeats = repeats }) ≡ slice_set old place (record k { repeats = repeats })))
      (read ∙ get_or_default old place known d at.0)
      (next, refl),
)
