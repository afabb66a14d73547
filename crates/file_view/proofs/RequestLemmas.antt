-- What the rows of a request say, behind those that it begins with.
use Rattle.std.proofs.Common.{◌≡◌, ℕ, ◌+◌, ◌*◌, ◌/◌, ◌%◌, ◌<◌, ◌≤◌, ◌^◌, Bool, true, false, ◌&&◌, not, length, List, [], ◌∷◌, Option, Some, None, refl, sym, subst, arith}
use Rattle.std.specs.Prelude.{◌==◌, is_some, unwrap_or, IsSomeAnd, nat_lt, if◌then◌else◌}
use Rattle.std.specs.Option.{option_map}
use Rattle.std.proofs.Math.Nat.{div-add-mod}
use Rattle.std.proofs.lemmas.Bool.Decides.{nat_tests}
use Rattle.byte_locks.specs.declared.lock_bytes.FileKind.{FileKind}
use Rattle.file_handles.specs.Names.{file_named}
use Rattle.file_handles.specs.Nodes.{root, file_at}
use Rattle.fuse_msgs.specs.declared.request.Op.TheVariants as op
use Rattle.journal_watch.specs.Journal.{is_active}
use Rattle.lf_base.specs.declared.errno.Errno.{Errno}
use Rattle.file_view.specs.declared.fault.ViewFault.{ViewFault}
use Rattle.file_view.specs.declared.fault.ViewFault.TheVariants as fault
use Rattle.file_view.specs.declared.journal.JournalCall.{JournalCall}
use Rattle.file_view.specs.declared.journal.JournalCall.TheVariants as call
use Rattle.file_view.specs.declared.view.Scene.{Scene}
use Rattle.file_view.specs.DatabaseRules.{write_size, page_count, most_pages, sized_write_rows, database_write_rows}
use Rattle.file_view.specs.Errno.{ENOENT, EIO, EBADF, EACCES, ENOSPC, EROFS}
use Rattle.file_view.specs.HandleRules.{is_served, is_known, is_open_at}
use Rattle.file_view.specs.JournalRules.{may_write_journal, finishing_rows, journal_rows, journal_unlink_rows}
use Rattle.file_view.specs.JournalState.{reach}
use Rattle.file_view.specs.LogRules.{log_write_rows}
use Rattle.file_view.specs.NameRules.{is_there, unlinking_rows}
use Rattle.file_view.specs.Needs.{Needs, Nothing}
use Rattle.file_view.specs.Refusal.{Row, first_refusal, HasCause, HasReadCause}
use Rattle.file_view.specs.Requests.{write_rows, size_rows, rows_at}
use Rattle.file_view.specs.Roles.{is_replica}
use Rattle.file_view.specs.Served.{Served}
use Rattle.file_view.proofs.DatabaseLemmas.{two-fail, write-parts, write-pages}
use Rattle.file_view.proofs.RowLemmas.{none-holds}

-- the rows behind one that doesn't hold
pub rest-allowed : (row : Row) (rows : List Row) → first_refusal (row ∷ rows) ≡ None → first_refusal rows ≡ None
rest-allowed row rows none = passed row.0 row.1 (first_refusal rows) none where
  passed : (test : Bool) (number : Errno) (rest : Option Errno) → (if test then Some number else rest) ≡ None → rest ≡ None
  passed true number rest h = absurd cc
  passed false number rest h = h

-- the rows of a request behind those that it begins with
pub size-allowed : (s : Served) (scene : Scene) (node : ℕ) (given : Option ℕ) (len : ℕ) → first_refusal (rows_at s scene node (op.Setattr (Some len) given)) ≡ None →
    first_refusal (size_rows s scene (file_at node) given len) ≡ None
size-allowed s scene node given len none = rest-allowed (not (is_served s scene node), ENOENT) (size_rows s scene (file_at node) given len) none

pub write-allowed : (s : Served) (scene : Scene) (node fh place : ℕ) (given : Option ℕ) (bytes : List ℕ) → first_refusal (rows_at s scene node (op.Write fh place given bytes)) ≡ None →
    first_refusal (write_rows s scene (file_at node) given place bytes) ≡ None
write-allowed s scene node fh place given bytes none =
    let rows : List Row = write_rows s scene (file_at node) given place bytes in
    rest-allowed (not (is_open_at s scene node fh), EBADF) rows
    (rest-allowed (not (is_known s scene node), ENOENT) ((not (is_open_at s scene node fh), EBADF) ∷ rows) none)

pub unlink-allowed : (s : Served) (scene : Scene) (node : ℕ) (name : List ℕ) → first_refusal (rows_at s scene node (op.Unlink name)) ≡ None →
    first_refusal (unlinking_rows s scene (file_named s.name name)) ≡ None
unlink-allowed s scene node name none =
    let rows : List Row = unlinking_rows s scene (file_named s.name name) in
    rest-allowed (not (is_there s scene name), ENOENT) rows
    (rest-allowed (not (node == root), ENOENT) ((not (is_there s scene name), ENOENT) ∷ rows) none)

-- and of a call on the journal
pub finish-allowed : (s : Served) (scene : Scene) (given : Option ℕ) (c : JournalCall) → first_refusal (journal_rows s scene given c) ≡ None → first_refusal (finishing_rows s scene given c) ≡ None
finish-allowed s scene given c none =
    let rows : List Row = finishing_rows s scene given c in
    let fourth : Row = (nat_lt 268435456 (reach c), ENOSPC) in
    let third : Row = (not (may_write_journal s.locks scene.session given), EACCES) in
    let second : Row = (is_replica scene.role, EROFS) in
    rest-allowed fourth rows (rest-allowed third (fourth ∷ rows) (rest-allowed second (third ∷ fourth ∷ rows) (rest-allowed (scene.is_broken, EIO) (second ∷ third ∷ fourth ∷ rows) none)))

pub removal-allowed : (s : Served) (scene : Scene) → first_refusal (journal_unlink_rows s scene) ≡ None → first_refusal (finishing_rows s scene None call.Unlink) ≡ None
removal-allowed s scene none =
    let rows : List Row = finishing_rows s scene None call.Unlink in
    let third : Row = (is_active s.journal.file && not (may_write_journal s.locks scene.session None), EACCES) in
    let second : Row = (is_active s.journal.file && is_replica scene.role, EROFS) in
    rest-allowed third rows (rest-allowed second (third ∷ rows) (rest-allowed (scene.is_broken, EIO) (second ∷ third ∷ rows) none))

-- rows behind two others: those decide first, and where neither of them holds the rest does
pub cause_first : (needs : Needs) (a b : Bool) (m n : Errno) (rest : List Row) (before now : ℕ) (f : ViewFault) → HasCause Nothing ((a, m) ∷ (b, n) ∷ []) f →
    HasReadCause needs ((a, m) ∷ (b, n) ∷ rest) before now f
cause_first needs a b m n rest before now (fault.Errno number) h = tested a b h where
  tested : (a b : Bool) → (if a then Some m else (if b then Some n else None)) ≡ Some number → (if a then Some m else (if b then Some n else first_refusal rest)) ≡ Some number
  tested true b h = h
  tested false true h = h
  tested false false h = absurd cc
cause_first needs a b m n rest before now (fault.Page failed) h = absurd h
cause_first needs a b m n rest before now fault.NoMemory h = absurd h

pub cause_behind : (needs : Needs) (a b : Bool) (m n : Errno) (rest : List Row) (before now : ℕ) (f : ViewFault) → first_refusal ((a, m) ∷ (b, n) ∷ []) ≡ None → HasReadCause needs rest before now f →
    HasReadCause needs ((a, m) ∷ (b, n) ∷ rest) before now f
cause_behind needs a b m n rest before now (fault.Errno number) none h = tested a b none where
  tested : (a b : Bool) → (if a then Some m else (if b then Some n else None)) ≡ None → (if a then Some m else (if b then Some n else first_refusal rest)) ≡ Some number
  tested true b none = absurd cc
  tested false true none = absurd cc
  tested false false none = h
cause_behind needs a b m n rest before now (fault.Page failed) none h = h
cause_behind needs a b m n rest before now fault.NoMemory none h = h

-- what holds of the one file that there is
pub of-file : (o : Option FileKind) (Does : FileKind → Type 0) (f : FileKind) → o ≡ Some f → Does f → IsSomeAnd o Does
of-file o Does f is does = subst (λ (x : Option FileKind). IsSomeAnd x Does) (sym is) does

-- and of each that there may be, where there is one
pub of-each : (o : Option FileKind) (Does : FileKind → Type 0) → is_some o ≡ true → ((f : FileKind) → o ≡ Some f → Does f) → IsSomeAnd o Does
of-each None Does there each = absurd cc
of-each (Some f) Does there each = each f refl

-- a test that is passed by a file is passed by one that is there
pub tested-file : (o : Option FileKind) (test : FileKind → Bool) → unwrap_or (option_map test o) false ≡ true → is_some o ≡ true
tested-file None test h = absurd cc
tested-file (Some f) test h = refl

-- what may be written has fewer bytes than a number of 32 bits says
pages-short : (size place : ℕ) (bytes : List ℕ) → length bytes ≡ length bytes / size * size → nat_lt (most_pages size) (place / size + page_count size bytes) ≡ false → length bytes < 2 ^ 32
pages-short size place bytes whole within =
    let few : length bytes / size ≤ 2147483528 / (size + 4) = grind (arith, nat_tests, within) in
    let split : (size + 4) * (2147483528 / (size + 4)) + 2147483528 % (size + 4) ≡ 2147483528 = div-add-mod 2147483528 (size + 4) in
    grind (arith, few, split, whole)

sized-short : (s : Served) (scene : Scene) (given : Option ℕ) (place : ℕ) (bytes : List ℕ) (size : Option ℕ) → first_refusal (sized_write_rows s scene given place bytes size) ≡ None →
    length bytes < 2 ^ 32
sized-short s scene given place bytes None none = absurd cc
sized-short s scene given place bytes (Some size) none =
    pages-short size place bytes (write-pages s scene given place bytes size none).whole (write-parts s scene given place bytes size none).1

pub database-short : (s : Served) (scene : Scene) (given : Option ℕ) (place : ℕ) (bytes : List ℕ) → first_refusal (database_write_rows s scene given place bytes) ≡ None → length bytes < 2 ^ 32
database-short s scene given place bytes none =
    sized-short s scene given place bytes (write_size s scene place bytes)
    (two-fail scene.is_broken (is_replica scene.role) EIO EROFS (first_refusal (sized_write_rows s scene given place bytes (write_size s scene place bytes))) none).2

pub log-short : (s : Served) (scene : Scene) (given : Option ℕ) (place : ℕ) (bytes : List ℕ) → first_refusal (log_write_rows s scene given place bytes) ≡ None → length bytes < 2 ^ 32
log-short s scene given place bytes none =
    let long : nat_lt 268435456 (place + length bytes) ≡ false = (none-holds (log_write_rows s scene given place bytes) none).1.1.1.1.0 in
    grind (arith, nat_tests, long)
