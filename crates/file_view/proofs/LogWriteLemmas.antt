-- What the rules leave of a write to the log.
use Rattle.std.proofs.Common.{◌≡◌, ◌≢◌, ℕ, ◌+◌, ◌≤◌, Bool, true, false, ◌&&◌, ◌||◌, not, length, List, [], ◌∷◌, ◌++◌, take, inl, inr, ◌⊎◌, Option, Some, None, refl, sym, ◌∙◌, arith}
use Rattle.std.specs.Prelude.{◌==◌, nat_lt, if◌then◌else◌}
use Rattle.std.specs.Str.{bytes_eq}
use Rattle.std.proofs.lemmas.Slice.Eq.{bytes_eq-Decides}
use Rattle.std.proofs.lemmas.Bool.{cases_Bool, and_parts}
use Rattle.std.proofs.lemmas.Bool.Decides.{nat_tests}
use Rattle.lf_base.specs.FileBytes.{written}
use Rattle.lf_base.specs.declared.errno.Errno.{Errno}
use Rattle.wal_watch.specs.Frames.{is_header, page_size_in, committed_end}
use Rattle.wal_watch.specs.Refusals.{BreaksHeader, ChangesCommitted, IsSoundWrite}
use Rattle.database_under_log.specs.Fault.{wanted_size}
use Rattle.file_view.specs.declared.view.Scene.{Scene}
use Rattle.file_view.specs.Errno.{EPERM}
use Rattle.file_view.specs.LogParts.{log_owner_rows, log_own_rows, begins_anew}
use Rattle.file_view.specs.LogRules.{breaks_header, changes_committed, changes_header, log_write_rows, log_commit_rows}
use Rattle.file_view.specs.Refusal.{Row, first_refusal}
use Rattle.file_view.specs.Served.{Served, log_contents}

or-true : (a b : Bool) → (a || b) ≡ true → (a ≡ true) ⊎ (b ≡ true)
or-true true b h = inl refl
or-true false b h = inr h

fails : (b : Bool) → not b ≡ true → b ≡ false
fails true h = absurd cc
fails false h = refl

-- the tests of the header say what they are named for
breaks : (page_size at : ℕ) (bytes new : List ℕ) → breaks_header page_size at bytes new ≡ true → BreaksHeader page_size at bytes new
breaks page_size at bytes new on = elim (or-true (nat_lt at 32 && (nat_lt 0 (length bytes) && not (is_header new))) (not (page_size == 0) && (is_header new && not (page_size_in new == page_size))) on) [
  | inl first ↦
      let one = and_parts (nat_lt at 32) (nat_lt 0 (length bytes) && not (is_header new)) first in
      let two = and_parts (nat_lt 0 (length bytes)) (not (is_header new)) one.1 in
      let low : nat_lt at 32 ≡ true = one.0 in
      let some : nat_lt 0 (length bytes) ≡ true = two.0 in
      inl ((grind (arith, nat_tests, low), grind (arith, nat_tests, some)), fails (is_header new) two.1)
  | inr second ↦
      let one = and_parts (not (page_size == 0)) (is_header new && not (page_size_in new == page_size)) second in
      let two = and_parts (is_header new) (not (page_size_in new == page_size)) one.1 in
      let sized : (page_size == 0) ≡ false = fails (page_size == 0) one.0 in
      let other : (page_size_in new == page_size) ≡ false = fails (page_size_in new == page_size) two.1 in
      inr (
        λ is. absurd (let on_zero : (page_size == 0) ≡ true = grind (arith, nat_tests, is) in cc (on_zero, sized)),
        two.0,
        λ is. absurd (let same : (page_size_in new == page_size) ≡ true = grind (arith, nat_tests, is) in cc (same, other)),
      )
]

equal-bytes : (xs ys : List ℕ) → not (bytes_eq xs ys) ≡ false → xs ≡ ys
equal-bytes xs ys h = elim (cases_Bool (bytes_eq xs ys)) [
  | inl equal ↦ (bytes_eq-Decides xs ys).0 equal
  | inr differ ↦ absurd (let e = rw differ at h in cc)
]

other-bytes : (xs ys : List ℕ) → not (bytes_eq xs ys) ≡ true → xs ≢ ys
other-bytes xs ys h = λ is. let on = (bytes_eq-Decides xs ys).1 is in absurd (let e = rw on at h in cc)

changes : (old new : List ℕ) → changes_committed old new ≡ true → ChangesCommitted old new
changes old new on =
    let parts = and_parts (not (changes_header old new)) (not (bytes_eq (take (committed_end old) new) (take (committed_end old) old))) on in
    (equal-bytes (take 32 new) (take 32 old) (fails (changes_header old new) parts.0), other-bytes (take (committed_end old) new) (take (committed_end old) old) parts.1)

-- nothing of the log itself stands against a sound write
pub sound-rows : (contents : List ℕ) (page_size at : ℕ) (bytes : List ℕ) → IsSoundWrite contents page_size at bytes → None ≡ first_refusal (log_own_rows contents page_size at bytes)
sound-rows contents page_size at bytes sound =
    let short : nat_lt 268435456 (at + length bytes) ≡ false = let low : at + length bytes ≤ 268435456 = sound.short in grind (arith, nat_tests, low) in
    let header : breaks_header page_size at bytes (written at bytes contents) ≡ false = elim (cases_Bool (breaks_header page_size at bytes (written at bytes contents))) [
      | inl on ↦ absurd (sound.header (breaks page_size at bytes (written at bytes contents) on))
      | inr off ↦ off
    ] in
    let part : changes_committed contents (written at bytes contents) ≡ false = elim (cases_Bool (changes_committed contents (written at bytes contents))) [
      | inl on ↦ absurd (sound.part (changes contents (written at bytes contents) on))
      | inr off ↦ off
    ] in
    rw (short, header, part) refl

-- rows in front of others decide, where one of them holds
pub front-refuses : (front rest : List Row) (number : Errno) → Some number ≡ first_refusal front → first_refusal (front ++ rest) ≡ Some number
front-refuses [] rest number is = absurd cc
front-refuses (row ∷ rows) rest number is = by row.0 is (λ e. front-refuses rows rest number e) where
  by : (b : Bool) → Some number ≡ (if b then Some row.1 else first_refusal rows) → (Some number ≡ first_refusal rows → first_refusal (rows ++ rest) ≡ Some number) →
      (if b then Some row.1 else first_refusal (rows ++ rest)) ≡ Some number
  by true e next = sym e
  by false e next = next e

pub front-passes : (front rest : List Row) → None ≡ first_refusal front → first_refusal (front ++ rest) ≡ first_refusal rest
front-passes [] rest is = refl
front-passes (row ∷ rows) rest is = by row.0 is (λ e. front-passes rows rest e) where
  by : (b : Bool) → None ≡ (if b then Some row.1 else first_refusal rows) → (None ≡ first_refusal rows → first_refusal (rows ++ rest) ≡ first_refusal rest) →
      (if b then Some row.1 else first_refusal (rows ++ rest)) ≡ first_refusal rest
  by true e next = absurd cc
  by false e next = next e

-- a header that isn't another
pub same-header : (xs ys : List ℕ) (other : Bool) → (xs ≢ ys → other ≡ true) → other ≡ false → not (bytes_eq xs ys) ≡ false
same-header xs ys other tells off = elim (cases_Bool (bytes_eq xs ys)) [
  | inl equal ↦ rw equal refl
  | inr differ ↦ absurd (let on = tells (λ is. let e = (bytes_eq-Decides xs ys).1 is in cc (e, differ)) in cc (on, off))
]

-- the rows one after another
abbrev header_row : Served → ℕ → List ℕ → Row
header_row s at bytes = (begins_anew s at bytes, EPERM)

pub owner-refuses : (s : Served) (scene : Scene) (given : Option ℕ) (at : ℕ) (bytes : List ℕ) (number : Errno) → Some number ≡ first_refusal (log_owner_rows s scene given) →
    first_refusal (log_write_rows s scene given at bytes) ≡ Some number
owner-refuses s scene given at bytes number is =
    front-refuses (log_owner_rows s scene given) (log_own_rows (log_contents s) (wanted_size scene.page_size scene.commit) at bytes ++ header_row s at bytes ∷ log_commit_rows s at bytes) number is

pub own-refuses : (s : Served) (scene : Scene) (given : Option ℕ) (at : ℕ) (bytes : List ℕ) (number : Errno) → None ≡ first_refusal (log_owner_rows s scene given) →
    Some number ≡ first_refusal (log_own_rows (log_contents s) (wanted_size scene.page_size scene.commit) at bytes) → first_refusal (log_write_rows s scene given at bytes) ≡ Some number
own-refuses s scene given at bytes number one is =
    front-passes (log_owner_rows s scene given) (log_own_rows (log_contents s) (wanted_size scene.page_size scene.commit) at bytes ++ header_row s at bytes ∷ log_commit_rows s at bytes) one
    ∙ front-refuses (log_own_rows (log_contents s) (wanted_size scene.page_size scene.commit) at bytes) (header_row s at bytes ∷ log_commit_rows s at bytes) number is

pub own-passes : (s : Served) (scene : Scene) (given : Option ℕ) (at : ℕ) (bytes : List ℕ) → None ≡ first_refusal (log_owner_rows s scene given) →
    None ≡ first_refusal (log_own_rows (log_contents s) (wanted_size scene.page_size scene.commit) at bytes) →
    first_refusal (log_write_rows s scene given at bytes) ≡ (if begins_anew s at bytes then Some EPERM else first_refusal (log_commit_rows s at bytes))
own-passes s scene given at bytes one two =
    front-passes (log_owner_rows s scene given) (log_own_rows (log_contents s) (wanted_size scene.page_size scene.commit) at bytes ++ header_row s at bytes ∷ log_commit_rows s at bytes) one
    ∙ front-passes (log_own_rows (log_contents s) (wanted_size scene.page_size scene.commit) at bytes) (header_row s at bytes ∷ log_commit_rows s at bytes) two
