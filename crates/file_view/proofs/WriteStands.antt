-- How the files go on to stand over the committed image when the database file is written or resized.
use Rattle.std.proofs.Common.{◌≡◌, ℕ, ◌+◌, ◌/◌, ◌%◌, ◌<◌, ◌≤◌, Bool, true, false, ◌&&◌, ◌||◌, not, length, List, [], Option, Some, None, IfSome, refl, sym, ap, ◌∙◌, inl, inr, subst, arith}
use Rattle.std.specs.Prelude.{◌==◌, is_some, nat_lt}
use Rattle.std.specs.List.{list_all, range_with_len}
use Rattle.std.proofs.lemmas.Bool.{cases_Bool, cond-true, cond-false, and_parts}
use Rattle.std.proofs.lemmas.Bool.Decides.{nat_tests}
use Rattle.byte_locks.specs.declared.owner.Owner.{Owner}
use Rattle.byte_locks.specs.declared.lock_id.LockId.TheVariants as lock
use Rattle.byte_locks.specs.LockList.{writer_of}
use Rattle.database_file.specs.DatabaseFile.{KeepsDifferences, as_read, clean, is_clean, count_over}
use Rattle.database_file.specs.Writing.{with_pages, sized}
use Rattle.database_file.specs.Writing.{page_in as page_of_bytes}
use Rattle.database_under_log.specs.Over.{AreFrames, over}
use Rattle.database_under_log.proofs.KeepLemmas.{frames-keep, resize-keeps}
use Rattle.journal_watch.specs.Journal.{is_active}
use Rattle.lf_sqlite_pages.specs.Image.{DatabaseImage}
use Rattle.wal_watch.specs.Frames.{committed_count, page_size_in}
use Rattle.wal_watch.specs.News.{HoldsFrame, last_size}
use Rattle.wal_watch.proofs.LawLemmas.{last_some}
use Rattle.file_view.specs.declared.view.Scene.{Scene}
use Rattle.file_view.specs.Acting.{writes}
use Rattle.file_view.specs.DatabaseRules.{write_size, first_page, page_count, most_pages, kept_at_most, states_other, holds_frame, hold_frames, uncommitted_rows, checkpoint_rows, checkpoint_resize_rows, resize_rows, sized_write_rows, sized_resize_rows, database_write_rows, database_size_rows, resizes, IsDatabaseChanged, IsDatabaseWritten, IsDatabaseSized}
use Rattle.file_view.specs.Done.{WritesDatabase, SizesDatabase}
use Rattle.file_view.specs.Errno.{EIO, EINVAL, EFBIG, EROFS}
use Rattle.file_view.specs.LogRules.{FollowsImage}
use Rattle.file_view.specs.Overlay.{without_uncommitted, IsOverImage, StandsOver}
use Rattle.file_view.specs.Refusal.{first_refusal}
use Rattle.file_view.specs.Roles.{is_replica}
use Rattle.file_view.specs.Served.{Served, log_contents, has_committed_frames}
use Rattle.file_view.specs.Sound.{IsSound}
use Rattle.file_view.proofs.DatabaseLemmas.{opposite, two-fail, three-fail, write-parts, write-pages, writer-there, checkpoint-framed, resize-idle}
use Rattle.file_view.proofs.FrameLemmas.{all-less, holds-is}
use Rattle.database_file.proofs.CleanLemmas.{clean-is}
use Rattle.file_view.proofs.RowLemmas.{none-holds}
use Rattle.file_view.proofs.StandLemmas.{clean-agrees-too}

-- while uncommitted pages may be written, what isn't one of them is the image
clean-before : (s : Served) → IsSound s → (has_committed_frames s && not (is_clean s.database)) ≡ false → without_uncommitted s ≡ clean s.database
clean-before s sound row = by-writer s.writer refl where
  settled : (frames : Bool) → has_committed_frames s ≡ frames → s.writer ≡ None → s.database ≡ clean s.database
  settled true frames none = clean-is s.database (opposite _ (rw frames at row))
  settled false frames none = sound.settled none frames

  by-writer : (w : Option Owner) → s.writer ≡ w → without_uncommitted s ≡ clean s.database
  by-writer None none = rw none (settled (has_committed_frames s) refl none)
  by-writer (Some owner) some = rw some refl

-- without a journal there is no writer
idle-alone : (s : Served) → IsSound s → is_active s.journal.file ≡ false → s.writer ≡ None
idle-alone s sound idle = by-writer s.writer refl where
  by-writer : (w : Option Owner) → s.writer ≡ w → s.writer ≡ None
  by-writer None none = none
  by-writer (Some owner) some = absurd (let e : true ≡ false = sym (sound.journaled owner some) ∙ idle in cc)

-- a change of the database file while a journal is active: what is kept is uncommitted
pub active-stands : (told : Option DatabaseImage) (old : Served) (scene : Scene) (given : Option ℕ) (size count : ℕ) (other : Bool) (new : Served) → IsSound old →
    is_active old.journal.file ≡ true → first_refusal (uncommitted_rows old scene given size count other) ≡ None → IsDatabaseChanged told old scene new →
    StandsOver told scene.page_size scene.commit old → StandsOver told scene.page_size scene.commit new
active-stands told old scene given size count other new sound active none changed stands =
    let rows = none-holds (uncommitted_rows old scene given size count other) none in
    let before : without_uncommitted old ≡ clean old.database = clean-before old sound rows.0 in
    let exclusive : writes old.locks scene.session given lock.Shared ≡ true = opposite _ rows.1.0 in
    let there : is_some (writer_of old.locks lock.Shared) ≡ true = writer-there old.locks scene.session given lock.Shared exclusive in
    let writer : new.writer ≡ writer_of old.locks lock.Shared = ap (λ (s : Served). s.writer) changed.rest ∙ cond-true _ _ _ active in
    let contents : log_contents new ≡ log_contents old = ap (λ (s : Served). log_contents s) changed.rest in
    let after : without_uncommitted new ≡ clean new.database = rw (writer, there) refl in
    record {
      shape = record {
        fits = changed.fits;
        follows = rw contents stands.shape.follows;
      };
      image = over-told told changed.differs before after contents stands.image;
    } where
      over-told : (told : Option DatabaseImage) → IfSome told (λ i. KeepsDifferences old.database i → KeepsDifferences new.database i) →
          without_uncommitted old ≡ clean old.database → without_uncommitted new ≡ clean new.database → log_contents new ≡ log_contents old →
          IfSome told (IsOverImage old) → IfSome told (IsOverImage new)
      over-told None differs before after contents h = tt
      over-told (Some i) differs before after contents h = record {
        differs = differs h.differs;
        agrees = rw (after, contents) (clean-agrees-too old.database new.database i (log_contents old) (rw before at h.agrees));
      }

-- a checkpoint: the database under the log stays
pub idle-stands : (told : Option DatabaseImage) (old : Served) (scene : Scene) (new : Served) → IsSound old → is_active old.journal.file ≡ false → has_committed_frames old ≡ true →
    IsDatabaseChanged told old scene new → IfSome told (λ i. over (as_read new.database i) (log_contents old) ≡ over (as_read old.database i) (log_contents old)) →
    StandsOver told scene.page_size scene.commit old → StandsOver told scene.page_size scene.commit new
idle-stands told old scene new sound idle framed changed same stands =
    let alone : old.writer ≡ None = idle-alone old sound idle in
    let writer : new.writer ≡ None = ap (λ (s : Served). s.writer) changed.rest ∙ cond-false _ _ _ idle ∙ alone in
    let contents : log_contents new ≡ log_contents old = ap (λ (s : Served). log_contents s) changed.rest in
    let before : without_uncommitted old ≡ old.database = rw alone refl in
    let after : without_uncommitted new ≡ new.database = rw writer refl in
    record {
      shape = record {
        fits = changed.fits;
        follows = rw contents stands.shape.follows;
      };
      image = over-told told changed.differs same before after contents stands.image;
    } where
      over-told : (told : Option DatabaseImage) → IfSome told (λ i. KeepsDifferences old.database i → KeepsDifferences new.database i) →
          IfSome told (λ i. over (as_read new.database i) (log_contents old) ≡ over (as_read old.database i) (log_contents old)) →
          without_uncommitted old ≡ old.database → without_uncommitted new ≡ new.database → log_contents new ≡ log_contents old →
          IfSome told (IsOverImage old) → IfSome told (IsOverImage new)
      over-told None differs same before after contents h = tt
      over-told (Some i) differs same before after contents h = record {
        differs = differs h.differs;
        agrees = rw (after, contents) (ap (λ (d : DatabaseImage). d.pages) same ∙ (rw before at h.agrees));
      }

-- pages that committed frames hold
list-all-at : (p : ℕ → Bool) (n k : ℕ) → list_all p (range_with_len 0 n) ≡ true → k < n → p k ≡ true
list-all-at p n k all within = elim (cases_Bool (p k)) [
  | inl holds ↦ holds
  | inr fails ↦ absurd (let e : true ≡ false = sym all ∙ all-less p 0 n k k within (omega arith) fails in cc)
]

frames-held : (contents : List ℕ) (size first : ℕ) (bytes : List ℕ) → size ≡ page_size_in contents → 1 ≤ page_count size bytes → hold_frames contents size first bytes ≡ true → AreFrames contents first bytes
frames-held contents size first bytes is some held =
    subst (λ (n : ℕ). (1 ≤ length bytes / n) × ((k : ℕ) → k < length bytes / n → HoldsFrame contents (first + k) (page_of_bytes bytes n k)) → AreFrames contents first bytes) (sym is)
    (λ facts. record { some = facts.0; frames = facts.1 }) (some, λ k within. holds-is contents (first + k) (page_of_bytes bytes size k) (list-all-at (λ j. holds_frame contents (first + j) (page_of_bytes bytes size j)) (page_count size bytes) k held within))

-- the page size of a write is that of a log with committed frames
log-sized : (s : Served) (scene : Scene) (place : ℕ) (bytes : List ℕ) (size : ℕ) → has_committed_frames s ≡ true → FollowsImage (log_contents s) scene.page_size scene.commit →
    write_size s scene place bytes ≡ Some size → size ≡ page_size_in (log_contents s)
log-sized s scene place bytes size framed follows is =
    let some : 0 < committed_count (log_contents s) = grind (arith, nat_tests, framed) in
    let commit : 0 < scene.commit = omega (arith, last_some (log_contents s) some, follows.commit_is some) in
    let test : (scene.commit == 0) ≡ false = grind (arith, nat_tests, commit) in
    let own : Some scene.page_size ≡ Some size = sym (rw test refl) ∙ is in
    let same : scene.page_size ≡ size = cc in
    sym same ∙ sym (follows.page_size_is some)

-- WRITE
sized-write : (told : Option DatabaseImage) (old : Served) (scene : Scene) (given : Option ℕ) (place : ℕ) (bytes : List ℕ) (size : ℕ) (new : Served) → IsSound old →
    write_size old scene place bytes ≡ Some size → first_refusal (sized_write_rows old scene given place bytes (Some size)) ≡ None → IsDatabaseWritten told old scene size place bytes new →
    StandsOver told scene.page_size scene.commit old → StandsOver told scene.page_size scene.commit new
sized-write told old scene given place bytes size new sound is none written stands =
    let parts = write-parts old scene given place bytes size none in
    elim (cases_Bool (is_active old.journal.file)) [
      | inl active ↦
          active-stands told old scene given size (kept_at_most old.database scene.commit (place / size) (page_count size bytes)) (states_other size place bytes) new sound active
          (rw active at parts.2) written.all stands
      | inr idle ↦
          let rows : first_refusal (checkpoint_rows old scene given size place bytes) ≡ None = rw idle at parts.2 in
          let held : hold_frames (log_contents old) size (first_page size place) bytes ≡ true = opposite _ (none-holds (checkpoint_rows old scene given size place bytes) rows).1.0 in
          let some : 1 ≤ page_count size bytes = (write-pages old scene given place bytes size none).some in
          let framed : has_committed_frames old ≡ true = checkpoint-framed old scene given size place bytes some rows in
          let same : size ≡ page_size_in (log_contents old) = log-sized old scene place bytes size framed stands.shape.follows is in
          let frames = frames-held (log_contents old) size (first_page size place) bytes same some held in
          idle-stands told old scene new sound idle framed written.all (told-same told written.pages same frames) stands
    ] where
      told-same : (told : Option DatabaseImage) → IfSome told (λ i. as_read new.database i ≡ with_pages (as_read old.database i) size (first_page size place) bytes) →
          size ≡ page_size_in (log_contents old) → AreFrames (log_contents old) (first_page size place) bytes →
          IfSome told (λ i. over (as_read new.database i) (log_contents old) ≡ over (as_read old.database i) (log_contents old))
      told-same None pages same frames = tt
      told-same (Some i) pages same frames =
          ap (λ (d : DatabaseImage). over d (log_contents old)) pages
          ∙ ap (λ (n : ℕ). over (with_pages (as_read old.database i) n (first_page size place) bytes) (log_contents old)) same
          ∙ frames-keep (log_contents old) bytes (first_page size place) (as_read old.database i) frames

pub write-stands : (told : Option DatabaseImage) (old : Served) (scene : Scene) (given : Option ℕ) (place : ℕ) (bytes : List ℕ) (new : Served) → IsSound old →
    first_refusal (database_write_rows old scene given place bytes) ≡ None → WritesDatabase told old scene place bytes new →
    StandsOver told scene.page_size scene.commit old → StandsOver told scene.page_size scene.commit new
write-stands told old scene given place bytes new sound none does stands =
    by-size (write_size old scene place bytes) refl (two-fail scene.is_broken (is_replica scene.role) EIO EROFS (first_refusal (sized_write_rows old scene given place bytes (write_size old scene place bytes))) none).2 where
      by-size : (size : Option ℕ) → write_size old scene place bytes ≡ size → first_refusal (sized_write_rows old scene given place bytes size) ≡ None → StandsOver told scene.page_size scene.commit new
      by-size None is rows = absurd cc
      by-size (Some size) is rows = sized-write told old scene given place bytes size new sound is rows (does size is) stands

-- SETATTR of a size
sized-resize : (told : Option DatabaseImage) (old : Served) (scene : Scene) (given : Option ℕ) (size count : ℕ) (new : Served) → IsSound old →
    write_size old scene 0 [] ≡ Some size → resizes old scene count ≡ true → first_refusal (resize_rows old scene given size count) ≡ None → IsDatabaseSized told old scene size count new →
    StandsOver told scene.page_size scene.commit old → StandsOver told scene.page_size scene.commit new
sized-resize told old scene given size count new sound is changes none done stands =
    let h = and_parts (not (count == count_over old.database scene.commit)) (is_active old.journal.file || (count == last_size (log_contents old))) changes in
    let other : (count == count_over old.database scene.commit) ≡ false = unequal _ h.0 in
    let rest = rw other at none in
    elim (cases_Bool (is_active old.journal.file)) [
      | inl active ↦
          active-stands told old scene given size (kept_at_most old.database scene.commit count 0) false new sound active (rw active at rest) done.all stands
      | inr idle ↦
          let rows : first_refusal (checkpoint_resize_rows old scene given count) ≡ None = rw idle at rest in
          let framed : has_committed_frames old ≡ true = resize-idle old scene given count rows in
          let last : (count == last_size (log_contents old)) ≡ true = rw idle at h.1 in
          let to : count ≡ last_size (log_contents old) = grind (arith, nat_tests, last) in
          let same : size ≡ page_size_in (log_contents old) = log-sized old scene 0 [] size framed stands.shape.follows is in
          idle-stands told old scene new sound idle framed done.all (told-same told done.pages same to (grind (arith, nat_tests, framed))) stands
    ] where
      unequal : (b : Bool) → not b ≡ true → b ≡ false
      unequal true e = absurd cc
      unequal false e = refl

      told-same : (told : Option DatabaseImage) → IfSome told (λ i. as_read new.database i ≡ sized (as_read old.database i) size count) →
          size ≡ page_size_in (log_contents old) → count ≡ last_size (log_contents old) → 0 < committed_count (log_contents old) →
          IfSome told (λ i. over (as_read new.database i) (log_contents old) ≡ over (as_read old.database i) (log_contents old))
      told-same None pages same to some = tt
      told-same (Some i) pages same to some =
          ap (λ (d : DatabaseImage). over d (log_contents old)) pages
          ∙ ap (λ (n : ℕ). over (sized (as_read old.database i) n count) (log_contents old)) same
          ∙ ap (λ (n : ℕ). over (sized (as_read old.database i) (page_size_in (log_contents old)) n) (log_contents old)) to
          ∙ resize-keeps (log_contents old) (as_read old.database i) some

pub resize-stands : (told : Option DatabaseImage) (old : Served) (scene : Scene) (given : Option ℕ) (len : ℕ) (new : Served) → IsSound old →
    first_refusal (database_size_rows old scene given len) ≡ None → SizesDatabase told old scene len new →
    StandsOver told scene.page_size scene.commit old → StandsOver told scene.page_size scene.commit new
resize-stands told old scene given len new sound none does stands =
    by-size (write_size old scene 0 []) refl (two-fail scene.is_broken (is_replica scene.role) EIO EROFS (first_refusal (sized_resize_rows old scene given len (write_size old scene 0 []))) none).2 where
      by-change : (size : ℕ) → write_size old scene 0 [] ≡ Some size → first_refusal (resize_rows old scene given size (len / size)) ≡ None → (changes : Bool) →
          resizes old scene (len / size) ≡ changes → StandsOver told scene.page_size scene.commit new
      by-change size is rows true changes = sized-resize told old scene given size (len / size) new sound is changes rows ((does.sized size is).resized changes) stands
      by-change size is rows false stays = subst (λ (s : Served). StandsOver told scene.page_size scene.commit s) (sym ((does.sized size is).same stays)) stands

      by-size : (size : Option ℕ) → write_size old scene 0 [] ≡ size → first_refusal (sized_resize_rows old scene given len size) ≡ None → StandsOver told scene.page_size scene.commit new
      by-size None is rows = subst (λ (s : Served). StandsOver told scene.page_size scene.commit s) (sym (does.none is)) stands
      by-size (Some size) is rows =
          by-change size is (three-fail (not (len % size == 0)) (nat_lt (most_pages size) (len / size)) EINVAL EFBIG (first_refusal (resize_rows old scene given size (len / size))) rows)
          (resizes old scene (len / size)) refl
