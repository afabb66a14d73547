-- What was sent waits on.
use Rattle.std.proofs.Common.{◌≡◌, ◌∙◌, ℕ, Bool, true, false, IsTrue, Option, None, Some, refl, sym, ap, subst}
use Rattle.std.specs.Prelude.{◌||◌, [], is_some, unwrap_or, if◌then◌else◌}
use Rattle.std.specs.Option.{option_map}
use Rattle.lf_disk.specs.History.{History}
use Rattle.lf_sqlite_pages.specs.Apply.{apply}
use Rattle.lf_sqlite_pages.specs.Image.{DatabaseImage}
use Rattle.ltx_codec.specs.declared.file.Ltx.{Ltx}
use Rattle.database_file.specs.DatabaseFile.{clean}
use Rattle.file_view.specs.declared.journal.JournalCall.{JournalCall}
use Rattle.file_view.specs.declared.view.Role.{Role}
use Rattle.file_view.specs.declared.view.Role.TheVariants as role
use Rattle.file_view.specs.DatabaseState.{HeldWrite}
use Rattle.file_view.specs.Endings.{applied, committed}
use Rattle.file_view.specs.Overlay.{StandsOver}
use Rattle.file_view.specs.Served.{Served, waits}
use Rattle.file_view.specs.Sound.{IsSound}
use Rattle.file_view.specs.Steady.{GoesOn}
use Rattle.file_view.proofs.WaitingLemmas.{goes-committed, goes-dropped}
use Rattle.node_core.specs.declared.sent.Sent.{Sent}
use Rattle.node_core.specs.Roles.{files_at}
use Rattle.node_core.specs.Stores.{StoreFields, position, state, told}
use Rattle.node_core.specs.Waiting.{IsAwaited, Waits, overtaken}

-- of a commit that is awaited as before, or because it was
pub waits-map : (over again : Option DatabaseImage) (old new : StoreFields) (files after : Served) (sent : Option Sent) → ((file : Ltx) → IsAwaited over old files file → IsAwaited again new after file)
    → Waits over old files sent → Waits again new after sent
waits-map over again old new files after None goes is = tt
waits-map over again old new files after (Some sent) goes is = (is.0, λ not. goes sent.file (is.1 not))

-- over a store with the same image at the same position
pub waits-store : (over again : Option DatabaseImage) (old new : StoreFields) (files : Served) (sent : Option Sent) → again ≡ over → position new ≡ position old → Waits over old files sent → Waits again new files sent
waits-store over again old new files sent same stays is =
    waits-map over again old new files files sent
    (λ file awaited. record {
      next = awaited.next ∙ sym stays;
      stands = subst (λ (o : Option DatabaseImage). StandsOver (option_map (λ i. apply i file.change) o) file.header.page_size file.header.commit (committed files)) (sym same) awaited.stands;
    }) is

-- and where the request that waits goes on to wait
pub waits-files : (over : Option DatabaseImage) (store : StoreFields) (old new : Served) (sent : Option Sent) → IsSound old → GoesOn old new → Waits over store old sent → Waits over store new sent
waits-files over store old new sent sound goes is =
    waits-map over over store store old new sent
    (λ file awaited. record {
      next = awaited.next;
      stands = goes-committed old new (option_map (λ i. apply i file.change) over) file.header.page_size file.header.commit sound goes awaited.stands;
    }) is

-- where nothing of the request that waits, of the log and of the database file is touched it goes on to wait
pub goes-same : (old new : Served) → new.journal.waiting ≡ old.journal.waiting → new.held_write ≡ old.held_write → new.log ≡ old.log → new.database ≡ old.database → new.writer ≡ old.writer → GoesOn old new
goes-same old new call write log file writer = record { call = call; write = write; log = λ i. unwrap_or (log i) []; file = ap clean file; alone = λ none. writer ∙ none }

-- so it does where the node stands otherwise
pub goes-role : (s : Served) (r : Role) → GoesOn s (files_at r s)
goes-role s role.Primary = goes-same s s refl refl refl refl refl
goes-role s role.Replica = goes-dropped s
goes-role s role.Halted = goes-same s s refl refl refl refl refl

true_false : true ≡ false → ⊥
true_false same = cc

-- once another image came in between nothing is awaited
pub waits-overtaken : (over again : Option DatabaseImage) (old new : StoreFields) (files after : Served) (sent : Option Sent) → Waits over old files sent → Waits again new after (overtaken sent)
waits-overtaken over again old new files after None is = tt
waits-overtaken over again old new files after (Some sent) is = (is.0, λ not. absurd (true_false not))

-- whether anything waits then
pub mapped-some : {X Y : Type 0} (f : X → Y) (o : Option X) → is_some (option_map f o) ≡ is_some o
mapped-some f None = refl
mapped-some f (Some x) = refl

pub overtaken-some : (sent : Option Sent) → is_some (overtaken sent) ≡ is_some sent
overtaken-some None = refl
overtaken-some (Some sent) = refl

pub applied-waits : (s : Served) (page_size commit : ℕ) → waits (applied s page_size commit) ≡ waits s
applied-waits s page_size commit = ap (λ (b : Bool). b || is_some s.journal.waiting) (mapped-some _ s.held_write)

pub goes-waits : (old new : Served) → GoesOn old new → waits new ≡ waits old
goes-waits old new goes = λ i. is_some (goes.write i) || is_some (goes.call i)

-- once the request that waited is done nothing waits
pub committed-idle : (s : Served) → IsSound s → waits (committed s) ≡ false
committed-idle s sound = by-write s.held_write refl where
  no-call : (w : HeldWrite) (call : Option JournalCall) → s.journal.waiting ≡ call → s.held_write ≡ Some w → s.journal.waiting ≡ None
  no-call w None none held = none
  no-call w (Some call) some held = absurd (let no : Some w ≡ None = sym held ∙ sound.alone call some in cc)

  by-write : (w : Option HeldWrite) → s.held_write ≡ w → waits (committed s) ≡ false
  by-write None none = rw none refl
  by-write (Some w) held = rw (held, no-call w s.journal.waiting refl held) refl

-- what is told of an image that stays
pub told-same : (start end : History) (old new : StoreFields) → new.honest ≡ old.honest → (IsTrue old.honest → (state end new).image ≡ (state start old).image) → told end new ≡ told start old
told-same start end old new honest same = ap (λ (b : Bool). if b then Some (state end new).image else None) honest ∙ go old.honest same where
  go : (b : Bool) → (IsTrue b → (state end new).image ≡ (state start old).image) → (if b then Some (state end new).image else None) ≡ (if b then Some (state start old).image else None)
  go true stays = ap (λ (i : DatabaseImage). Some i) (stays refl)
  go false stays = refl

-- what was sent goes on to wait over a store that has the same image, where it is honest, and the same position
pub waits-kept : (start end : History) (old new : StoreFields) (files : Served) (sent : Option Sent) → new.honest ≡ old.honest → (IsTrue old.honest → (state end new).image ≡ (state start old).image)
    → position new ≡ position old → Waits (told start old) old files sent → Waits (told end new) new files sent
waits-kept start end old new files sent honest same stays is = waits-store (told start old) (told end new) old new files sent (told-same start end old new honest same) stays is
