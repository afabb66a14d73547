-- The database file with a write in store.
use Rattle.std.proofs.Common.{◌≡◌, ℕ, List, length, true, Option, Some, None, refl, sym, ap, ◌∙◌, subst}
use Rattle.std.specs.Option.{option_map}
use Rattle.std.specs.FinMap as pages
use Rattle.std.specs.FinMap.{len-empty}
use Rattle.std.specs.Ordering.{nat_cmp}
use Rattle.database_file.specs.DatabaseFile.{DatabaseFile, clean, new_file}
use Rattle.database_under_log.specs.Staying.{WaitingWrite}
use Rattle.lf_sqlite_pages.specs.Blocks.{ByteRoom, IsWithin}
use Rattle.file_view.specs.DatabaseState.{DatabaseState, HeldWrite}
use Rattle.file_view.specs.HeldParts.{before, bytes_left, held_of, without_added, Remembers}
use Rattle.file_view.specs.declared.database.holding.Held.{Held}

-- where no write waits, the file is what there is
pub free-file : (file : DatabaseFile) (held : Option Held) (s : DatabaseState) → record { file = before file held; held = option_map (held_of file) held } ≡ s → s.held ≡ None →
    s.file ≡ file
free-file file None s is free = sym (ap (λ (x : DatabaseState). x.file) is)
free-file file (Some h) s is free = absurd (let e : Some (held_of file h) ≡ s.held = ap (λ (x : DatabaseState). x.held) is in cc)

pub free-held : (file : DatabaseFile) (held : Option Held) (s : DatabaseState) → record { file = before file held; held = option_map (held_of file) held } ≡ s → s.held ≡ None →
    held ≡ None
free-held file None s is free = refl
free-held file (Some h) s is free = absurd (let e : Some (held_of file h) ≡ s.held = ap (λ (x : DatabaseState). x.held) is in cc)

-- the same where the parts say so, or the write was overtaken
pub none-file : (file : DatabaseFile) (held : Option Held) (s : DatabaseState) → record { file = before file held; held = option_map (held_of file) held } ≡ s → held ≡ None →
    s.file ≡ file
none-file file None s is none = sym (ap (λ (x : DatabaseState). x.file) is)
none-file file (Some h) s is none = absurd cc

pub spent-file : (file : DatabaseFile) (held : Option Held) (s : DatabaseState) (h : Held) → record { file = before file held; held = option_map (held_of file) held } ≡ s →
    held ≡ Some h → h.write ≡ None → s.file ≡ file
spent-file file held s h is some none =
    sym (ap (λ (x : DatabaseState). x.file) is) ∙ ap (before file) some ∙ ap (λ (w : Option WaitingWrite). record file { kept = without_added file.kept w }) none

-- there is room for the write that waits
pub room-left : (file : DatabaseFile) (held : Option Held) (s : DatabaseState) (h : Held) (w : WaitingWrite) (room : ByteRoom) →
    record { file = before file held; held = option_map (held_of file) held } ≡ s → held ≡ Some h → h.write ≡ Some w → ((x : Held) → held ≡ Some x → Remembers file x) →
    ((x : HeldWrite) → s.held ≡ Some x → IsWithin room x.at (length x.bytes)) → IsWithin room w.at (length w.bytes)
room-left file held s h w room is some there kept within =
    let waits : s.held ≡ Some (held_of file h) = sym (ap (λ (x : DatabaseState). x.held) is) ∙ ap (option_map (held_of file)) some in
    let place : h.at ≡ w.at = sym ((kept h some).at w there) in
    let bytes : bytes_left h.write ≡ w.bytes = ap bytes_left there in
    subst (λ (b : List ℕ). IsWithin room w.at (length b)) bytes (subst (λ (n : ℕ). IsWithin room n (length (bytes_left h.write))) place (within (held_of file h) waits))

-- a write that was overtaken
len_none : pages.len (clean new_file).kept ≡ 0
len_none = len-empty nat_cmp (List ℕ)

pub remembers-nothing : (file : DatabaseFile) (at : ℕ) → Remembers (clean file) (record { at = at; len = 0; kept = 0; clean = true; write = None })
remembers-nothing file at = record {
  at = λ w is. absurd cc;
  len = refl;
  kept = sym len_none;
  clean = rw len_none refl;
}

pub forgets : (file : DatabaseFile) (at : ℕ) (h : Held) → Some (record { at = at; len = 0; kept = 0; clean = true; write = None }) ≡ Some h → (new : DatabaseFile) →
    new ≡ clean file → Remembers new h
forgets file at h is new empty =
    let same : record { at = at; len = 0; kept = 0; clean = true; write = None } ≡ h = cc in
    subst (λ (f : DatabaseFile). Remembers f h) (sym empty) (subst (λ (x : Held). Remembers (clean file) x) same (remembers-nothing file at))
