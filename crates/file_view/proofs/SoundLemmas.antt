-- What is always true of the served files stays true.
use Rattle.std.proofs.Common.{◌≡◌, ℕ, true, false, Bool, List, [], length, Option, Some, None, refl, sym, ap, ◌∙◌, subst, inl, inr, arith}
use Rattle.std.specs.Prelude.{nat_lt, is_some, IsSome, unwrap_or, if◌then◌else◌}
use Rattle.std.specs.Option.{option_map}
use Rattle.std.proofs.lemmas.Bool.{cases_Bool, cond-true, cond-false}
use Rattle.byte_locks.specs.declared.owner.Owner.{Owner}
use Rattle.byte_locks.specs.declared.lock_id.LockId.TheVariants as lock
use Rattle.byte_locks.specs.LockEntry.{same_owner}
use Rattle.byte_locks.specs.LockList.{LockList, writer_of}
use Rattle.byte_locks.proofs.Locks.{same_owner-true}
use Rattle.database_file.specs.DatabaseFile.{DatabaseFile, clean}
use Rattle.lf_sqlite_pages.specs.Blocks.{ByteRoom, IsWithin}
use Rattle.shm_index.specs.Shared.{Shared}
use Rattle.wal_watch.specs.File.{Wal, contents_of, after_write}
use Rattle.wal_watch.specs.Frames.{committed_count}
use Rattle.file_view.specs.Acting.{is_writer, while_exclusive, settled_database}
use Rattle.file_view.specs.DatabaseParts.{IsOwned}
use Rattle.file_view.specs.DatabaseRules.{writer_after}
use Rattle.file_view.specs.DatabaseState.{DatabaseState, HeldWrite, overtaken}
use Rattle.file_view.specs.JournalState.{JournalState}
use Rattle.file_view.specs.Served.{Served}
use Rattle.file_view.specs.ServedParts.{served_of, IsKept}
use Rattle.file_view.specs.declared.view.View.TheInside.{Inside}
use Rattle.file_view.proofs.DatabaseLemmas.{changed-sound}
use Rattle.file_view.specs.Sound.{IsSound}

held-by : (o : Option Owner) (owner : Owner) → unwrap_or (option_map (λ other. same_owner other owner) o) false ≡ true → o ≡ Some owner
held-by None owner h = absurd cc
held-by (Some other) owner h = ap Some (same_owner-true other owner h)

kept-owner : (b : Bool) (other owner : Owner) → (if b then Some other else None) ≡ Some owner → (b ≡ true) × (other ≡ owner)
kept-owner true other owner is = (refl, cc)
kept-owner false other owner is = absurd cc

-- an owner that goes on to hold EXCLUSIVE held it before
still-exclusive : (locks : LockList) (o : Option Owner) (owner : Owner) → while_exclusive locks o ≡ Some owner → writer_of locks lock.Shared ≡ Some owner
still-exclusive locks None owner is = absurd cc
still-exclusive locks (Some other) owner is =
    let both = kept-owner (is_writer locks lock.Shared other) other owner is in
    held-by (writer_of locks lock.Shared) other both.0 ∙ ap Some both.1

was-exclusive : (locks : LockList) (o : Option Owner) (owner : Owner) → while_exclusive locks o ≡ Some owner → o ≡ Some owner
was-exclusive locks None owner is = is
was-exclusive locks (Some other) owner is = ap Some (kept-owner (is_writer locks lock.Shared other) other owner is).1

none-exclusive : (locks : LockList) (o : Option Owner) → o ≡ None → while_exclusive locks o ≡ None
none-exclusive locks None is = refl
none-exclusive locks (Some other) is = absurd cc

-- the file of who left it is the image
settled-clean : (locks : LockList) (o : Option Owner) (file : DatabaseFile) → while_exclusive locks o ≡ None → (o ≡ None → file ≡ clean file) →
    settled_database locks o file ≡ clean (settled_database locks o file)
settled-clean locks None file none before = before refl
settled-clean locks (Some owner) file none before = elim (cases_Bool (is_writer locks lock.Shared owner)) [
  | inl holds ↦ absurd (let e = cond-true (is_writer locks lock.Shared owner) (Some owner) None holds in cc (e, none))
  | inr left ↦
      let e : (if is_writer locks lock.Shared owner then file else clean file) ≡ clean file = cond-false (is_writer locks lock.Shared owner) file (clean file) left in
      e ∙ sym (ap clean e)
]

-- once the locks are others
locked : (s : Served) (locks : LockList) (shared : Shared) → IsSound s →
    IsSound (record s { locks = locks; database = settled_database locks s.writer s.database; writer = while_exclusive locks s.writer; torn = while_exclusive locks s.torn; shared = shared })
locked s locks shared sound = record {
  exclusive = λ owner is. still-exclusive locks s.writer owner is;
  torn = λ owner is. still-exclusive locks s.torn owner is;
  apart = λ owner is. none-exclusive locks s.writer (sound.apart owner (was-exclusive locks s.torn owner is));
  journaled = λ owner is. sound.journaled owner (was-exclusive locks s.writer owner is);
  settled = λ none frames. settled-clean locks s.writer s.database none (λ alone. sound.settled alone frames);
  alone = sound.alone;
  unwritten = λ owner is. sound.unwritten owner (was-exclusive locks s.writer owner is);
  logged = sound.logged;
  left = sound.left;
}

pub locked-sound : (s : Served) (locks : LockList) (d : DatabaseFile) (w t : Option Owner) (shared : Shared) → d ≡ settled_database locks s.writer s.database →
    w ≡ while_exclusive locks s.writer → t ≡ while_exclusive locks s.torn → IsSound s → IsSound (record s { locks = locks; database = d; writer = w; torn = t; shared = shared })
locked-sound s locks d w t shared file writer torn sound =
    subst (λ (x : DatabaseFile). IsSound (record s { locks = locks; database = x; writer = w; torn = t; shared = shared })) (sym file)
    (subst (λ (x : Option Owner). IsSound (record s { locks = locks; database = settled_database locks s.writer s.database; writer = x; torn = t; shared = shared })) (sym writer)
    (subst (λ (x : Option Owner). IsSound (record s { locks = locks; database = settled_database locks s.writer s.database; writer = while_exclusive locks s.writer; torn = x; shared = shared })) (sym torn)
    (locked s locks shared sound)))

pub locked-kept : (v : Inside) (locks : LockList) (d : DatabaseState) (w t : Option Owner) (shared : Shared) → d.file ≡ settled_database locks v.writer v.database.file →
    d.held ≡ v.database.held → w ≡ while_exclusive locks v.writer → t ≡ while_exclusive locks v.torn → IsKept v →
    IsKept (record v { locks = locks; database = d; writer = w; torn = t; shared = shared })
locked-kept v locks d w t shared file held writer torn kept = record {
  sound = subst (λ (h : Option HeldWrite). IsSound (record (served_of v) { locks = locks; database = d.file; held_write = h; writer = w; torn = t; shared = shared })) (sym held)
      (locked-sound (served_of v) locks d.file w t shared file writer torn kept.sound);
  room = λ x is. kept.room x (sym held ∙ is);
}

-- once another image was applied
overtaken-file : (file : DatabaseFile) (o : Option HeldWrite) (w : HeldWrite) → option_map (overtaken file) o ≡ Some w → w.file ≡ clean w.file
overtaken-file file None w is = absurd cc
overtaken-file file (Some old) w is = let e : overtaken file old ≡ w = cc in subst (λ (x : HeldWrite). x.file ≡ clean x.file) e refl

overtaken-some : (file : DatabaseFile) (o : Option HeldWrite) (w : HeldWrite) → option_map (overtaken file) o ≡ Some w → (old : HeldWrite) × (o ≡ Some old) × (overtaken file old ≡ w)
overtaken-some file None w is = absurd cc
overtaken-some file (Some old) w is = (old, refl, cc)

overtaken-none : (file : DatabaseFile) (o : Option HeldWrite) → o ≡ None → option_map (overtaken file) o ≡ None
overtaken-none file None is = refl
overtaken-none file (Some old) is = absurd cc

abbrev empty_of : List ℕ → List ℕ
empty_of contents = []

emptied : (o : Option (List ℕ)) → IsSome o → is_some (option_map empty_of o) ≡ true
emptied None some = some
emptied (Some contents) some = refl

room-stays : (room : ByteRoom) (at count : ℕ) → IsWithin room at count → IsWithin room at 0
room-stays room at count within = record { from = within.from; to = omega (arith, within.to) }

applied-parts : (v : Inside) (log : Wal) (shared : Shared) → log.contents ≡ option_map (λ _. []) v.log.contents → log.room ≡ v.log.room → IsKept v →
    IsKept (record v {
      database = record { file = clean v.database.file; held = option_map (overtaken v.database.file) v.database.held };
      journal = record { file = option_map (λ _. []) v.journal.file; waiting = v.journal.waiting };
      log = log;
      shared = shared;
      writer = None;
    })
applied-parts v log shared contents room kept = record {
  sound = record {
    exclusive = λ owner is. absurd cc;
    torn = kept.sound.torn;
    apart = λ owner is. refl;
    journaled = λ owner is. absurd cc;
    settled = λ none frames. refl;
    alone = λ call is. overtaken-none v.database.file v.database.held (kept.sound.alone call is);
    unwritten = λ owner is. absurd cc;
    logged = λ w is.
        let old = overtaken-some v.database.file v.database.held w is in
        subst (λ (t : Option (List ℕ)). IsSome t) (sym contents) (emptied v.log.contents (kept.sound.logged old.0 old.1));
    left = λ w is none. overtaken-file v.database.file v.database.held w is;
  };
  room = λ w is.
      let old = overtaken-some v.database.file v.database.held w is in
      subst (λ (r : ByteRoom). IsWithin r w.at (length w.bytes)) (sym room)
      (subst (λ (x : HeldWrite). IsWithin v.log.room x.at (length x.bytes)) old.2 (room-stays v.log.room old.0.at (length old.0.bytes) (kept.room old.0 old.1)));
}

pub applied-kept : (v : Inside) (d : DatabaseState) (journal : JournalState) (log : Wal) (shared : Shared) →
    d ≡ record { file = clean v.database.file; held = option_map (overtaken v.database.file) v.database.held } →
    journal ≡ record { file = option_map (λ _. []) v.journal.file; waiting = v.journal.waiting } → log.contents ≡ option_map (λ _. []) v.log.contents → log.room ≡ v.log.room → IsKept v →
    IsKept (record v { database = d; journal = journal; log = log; shared = shared; writer = None })
applied-kept v d journal log shared database calls contents room kept =
    subst (λ (x : DatabaseState). IsKept (record v { database = x; journal = journal; log = log; shared = shared; writer = None })) (sym database)
    (subst (λ (j : JournalState). IsKept (record v { database = record { file = clean v.database.file; held = option_map (overtaken v.database.file) v.database.held }; journal = j; log = log; shared = shared; writer = None }))
    (sym calls) (applied-parts v log shared contents room kept))

-- once a write to the log is done
there : (o : Option HeldWrite) → is_some o ≡ true → (w : HeldWrite) × (o ≡ Some w)
there None h = absurd cc
there (Some w) h = (w, refl)

done-parts : (v : Inside) (w : HeldWrite) (log : Wal) → v.database.held ≡ Some w → contents_of log ≡ contents_of (after_write v.log w.at w.bytes) → IsSome log.contents → IsKept v →
    IsKept (record v { database = record { file = w.file; held = None }; log = log })
done-parts v w log is contents some kept = record {
  sound = record {
    exclusive = kept.sound.exclusive;
    torn = kept.sound.torn;
    apart = kept.sound.apart;
    journaled = kept.sound.journaled;
    settled = λ none frames. kept.sound.left w is (subst (λ (t : List ℕ). nat_lt 0 (committed_count t) ≡ false) contents frames);
    alone = λ call waits. refl;
    unwritten = λ owner writes. refl;
    logged = λ x waits. absurd cc;
    left = λ x waits. absurd cc;
  };
  room = λ x waits. absurd cc;
}

pub done-kept : (v : Inside) (d : DatabaseState) (log : Wal) → is_some v.database.held ≡ true → ((w : HeldWrite) → v.database.held ≡ Some w → d ≡ record { file = w.file; held = None }) →
    ((w : HeldWrite) → v.database.held ≡ Some w → contents_of log ≡ contents_of (after_write v.log w.at w.bytes)) → IsSome log.contents → IsKept v → IsKept (record v { database = d; log = log })
done-kept v d log waits database contents some kept =
    let held = there v.database.held waits in
    subst (λ (x : DatabaseState). IsKept (record v { database = x; log = log })) (sym (database held.0 held.1)) (done-parts v held.0 log held.1 (contents held.0 held.1) some kept)

-- once the database file is another
pub changed-kept : (v : Inside) (d : DatabaseState) (w : Option Owner) → w ≡ writer_after (served_of v) → IsOwned (served_of v) → d.held ≡ None → IsKept v →
    IsKept (record v { database = d; writer = w })
changed-kept v d w is owned none kept = record {
  sound = subst (λ (h : Option HeldWrite). IsSound (record (served_of v) { database = d.file; held_write = h; writer = w })) (owned.free ∙ sym none)
      (changed-sound (served_of v) d.file w is owned kept.sound);
  room = λ x waits. absurd cc;
}
