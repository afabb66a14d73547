-- What is told of notes that come again.
use Rattle.std.specs.Prelude.{◌≡◌, ◌≢◌, ◌⊎◌, ℕ, ◌<◌, ◌≤◌, ◌-◌, List, [], ◌∷◌, ◌++◌, codes, length, All, slice_set, Option, Some, None}
use Rattle.std.specs.List.{HoldsAt}
use Rattle.lf_base.specs.Faults.{one_more}
use Rattle.node_objects.specs.Lines.{shown}
use Rattle.node_mount.specs.declared.notes.Note.{Note}
use Rattle.node_mount.specs.declared.notes.NoteKind.{NoteKind}
use Rattle.node_mount.specs.declared.notes.NoteKind.TheVariants as kinds
use Rattle.node_mount.specs.declared.repeats.Repeats.{Repeats}
use Rattle.node_mount.specs.declared.repeats.Told.{Told}

-- a primary that was dialed, and reached or not
abbrev pub begins_line : (address : List ℕ) → List ℕ
begins_line address = codes "stream from " ++ shown address ++ codes " begins"

abbrev pub not_reached_line : (address : List ℕ) → List ℕ
not_reached_line address = codes "primary not reached at " ++ shown address

-- an endpoint of a cluster that grants leases gave no answer
abbrev pub no_answer_line : (address : List ℕ) → List ℕ
no_answer_line address = codes "lease: " ++ shown address ++ codes " gave no answer"

-- a candidate without a database waits before it asks to be primary
abbrev pub waits_line : List ℕ
waits_line = shown (codes "lease: this node has no database: it asks to be primary once nobody has led for three times lease.ttl (lease.bootstrap = true asks at once)")

-- the line begins so
abbrev pub BeginsWith : List ℕ → List ℕ → Type 0
BeginsWith line front = (rest : List ℕ) × (line ≡ front ++ rest)

-- WHAT IS TOLD OF A NOTE at a moment: the same as the last is counted, and another one is told
abbrev pub IsNext : Repeats → (line : List ℕ) → (now : ℕ) → Option (List ℕ) → Repeats → Type 0
IsNext old line now None new = (line ≡ old.last) × (new ≡ record old { count = one_more old.count })
IsNext old line now (Some told) new = (line ≢ old.last) × (told ≡ line) × (new ≡ record { last = line; since = now; count = 0 })

-- AND WITHOUT A NEW ONE: the last, where it came again and a minute has passed since it was told
abbrev pub IsDue : Repeats → (now : ℕ) → Option (List ℕ) → Repeats → Type 0
IsDue old now None new = ((old.count ≡ 0) ⊎ (now - old.since < 60000)) × (new ≡ old)
IsDue old now (Some told) new =
    (0 < old.count) × (60000 ≤ now - old.since) × BeginsWith told old.last × (new ≡ record old { since = now; count = 0 })

-- a note is counted with one that was told: one of its kind, and of endpoints that give no answer one of the same
abbrev pub IsOf : Told → NoteKind → (line : List ℕ) → Type 0
IsOf told kind line = (told.kind ≡ kind) × (kind ≡ kinds.Lease → line ≡ told.repeats.last)

-- it is counted with none of these
abbrev pub AreOthers : List Told → NoteKind → (line : List ℕ) → Type 0
AreOthers known kind line = All (λ told. IsOf told kind line → ⊥) known

-- none was told
abbrev pub untold : Repeats
untold = record { last = []; since = 0; count = 0 }

-- one more stands behind those that were told
abbrev pub IsToldFirst : (old : List Told) → NoteKind → (line : List ℕ) → (now : ℕ) → Option (List ℕ) → (new : List Told) → Type 0
IsToldFirst old kind line now told new =
    (repeats : Repeats) × IsNext untold line now told repeats × (new ≡ old ++ record { kind = kind; repeats = repeats } ∷ [])

-- the one at this place it is counted with
abbrev pub IsWith : List Told → (place : ℕ) → NoteKind → (line : List ℕ) → Type 0
IsWith known place kind line = (place < length known) × HoldsAt (λ told. IsOf told kind line) known place

-- one of those that were told counts it
abbrev pub IsToldBy : (old : List Told) → NoteKind → (line : List ℕ) → (now : ℕ) → Option (List ℕ) → (new : List Told) → Type 0
IsToldBy old kind line now told new = (place : ℕ) × (repeats : Repeats) × IsWith old place kind line
    × HoldsAt (λ known. IsNext known.repeats line now told repeats × (new ≡ slice_set old place (record known { repeats = repeats }))) old place

-- AND OF ONE BESIDE ALL THAT WERE TOLD
abbrev pub IsToldOf : (old : List Told) → Note → (now : ℕ) → Option (List ℕ) → (new : List Told) → Type 0
IsToldOf old note now told new = IsToldBy old note.kind note.line now told new
    ⊎ (AreOthers old note.kind note.line × IsToldFirst old note.kind note.line now told new)

-- WHAT IS TOLD OF TWO LOOKS at a node, so many milliseconds apart at most, or else that it stood still
abbrev pub TellsStill : (before now most : ℕ) → Option (List ℕ) → Type 0
TellsStill before now most None = now - before ≤ most
TellsStill before now most (Some line) = (most < now - before) × BeginsWith line (codes "stood still for ")
