-- A transaction file is published and its change written over the database file.
use Rattle.std.proofs.Common.{◌≡◌, ◌≢◌, ◌⊎◌, inl, inr, ℕ, suc, take, drop, get_or, eqb-true, length-append, append_assoc, ◌+◌, ◌-◌, ◌*◌, ◌<◌, ◌≤◌, false, true, cond, eqb, Option, Some, None, List, [], ◌∷◌, ◌++◌, length, unwrap_or, refl, sym, ◌∙◌, ap, subst, arith}
use Rattle.std.specs.Prelude.{◌==◌, ◌&&◌, replicate, IsSome, Bool, is_some}
use Rattle.std.proofs.Math.Nat.{mul-le-mul_right}
use Rattle.std.proofs.lemmas.Bool.{cases_lt, cases_Bool, cases_eq}
use Rattle.std.proofs.lemmas.Bool.Decides.{nat_tests}
use Rattle.std.proofs.lemmas.List.Sums.{fold-append}
use Rattle.std.proofs.lemmas.List.{drop_at, take_at}
use Rattle.std.proofs.lemmas.Option.{same_Some}
use Rattle.txn_log.proofs.Wearing.{other_number, written_rest}
use Rattle.lf_disk.specs.declared.name.FileName.TheVariants.{Database, Staged, Snapshot, Dropped, Ltx}
use Rattle.lf_base.specs.FileBytes.{resized, overwritten}
use Rattle.lf_base.proofs.FileLemmas.{length-resized}
use Rattle.lf_disk.specs.Folder.{Folder, bytes_of, SameBut}
use Rattle.lf_disk.specs.Tears.{Torn-overwritten, Cropped-resized}
use Rattle.lf_disk.specs.Change.{Torn, Cropped}
use Rattle.lf_disk.specs.History.{History, now, may_leave, EachMoment}
use Rattle.lf_disk.specs.Publish.{IsStaged, IsOldOrPublished, IsPublished, with_bytes}
use Rattle.lf_disk.proofs.Moments.{joined, weakened}
use Rattle.lf_sqlite_pages.specs.Image.{DatabaseImage}
use Rattle.lf_sqlite_pages.specs.Change.{PageChange, IsChange, AscendsAbove, written}
use Rattle.lf_sqlite_pages.specs.Apply.{apply}
use Rattle.lf_sqlite_pages.specs.declared.page_write.PageWrite.{PageWrite}
use Rattle.lf_sqlite_pages.specs.LockPage.{lock_page_of, IsDataPage}
use Rattle.lf_sqlite_pages.specs.Apply.{page_after}
use Rattle.lf_sqlite_pages.proofs.Laws.{length-apply, page_at-apply, page_after-data, page_after-lock_page}
use Rattle.lf_sqlite_pages.proofs.Applying.{written-lock_page}
use Rattle.lf_sqlite_pages.proofs.Applying.{written-above}
use Rattle.txn_log.specs.Pages.{in_place, page_in, SamePage, KeepsPages, IsLeft, patched}
use Rattle.txn_log.specs.Rewriting.{IsWorn, IsRewritten}
use Rattle.txn_log.specs.Kept.{LogFile, encoded_change, encoding_of, last_of, Decides, IsDecided, Kept, Shows, IsAtRest, IsComplete}
use Rattle.txn_log.specs.Putting.{IsSettled, IsReady, IsBeforeOrAfter}
use Rattle.txn_log.proofs.Places.{torn_page, cropped_page, page_end}

pub cases_option : (o : Option (List ℕ)) → (o ≡ None) ⊎ ((x : List ℕ) × (o ≡ Some x))
cases_option None = inl refl
cases_option (Some x) = inr (x, refl)

unwrap_or_same : {A : Type 0} (o : Option A) (x y : A) → (o ≡ None → x ≡ y) → unwrap_or o x ≡ unwrap_or o y
unwrap_or_same None x y same = same refl
unwrap_or_same (Some a) x y same = refl

-- the lock page is zeros, and every other page is what stands in its place
pub page_in-lock : (size : ℕ) (bytes : List ℕ) (n : ℕ) → n ≡ lock_page_of size → page_in size bytes n ≡ replicate size 0
page_in-lock size bytes n lock =
    let test : eqb n (lock_page_of size) ≡ true = grind (arith, nat_tests) in
    rw test refl

pub page_in-data : (size : ℕ) (bytes : List ℕ) (n : ℕ) → IsDataPage size n → page_in size bytes n ≡ in_place size n bytes
page_in-data size bytes n data_page =
    let test : eqb n (lock_page_of size) ≡ false = grind (arith, nat_tests) in
    rw test refl

-- a page that stays in place stays the page
pub page_in-same : (size : ℕ) (old new : List ℕ) (n : ℕ) → (IsDataPage size n → in_place size n new ≡ in_place size n old) → page_in size new n ≡ page_in size old n
page_in-same size old new n same = elim (cases_eq n (lock_page_of size)) [
  | inl lock ↦ page_in-lock size new n lock ∙ sym (page_in-lock size old n lock)
  | inr other ↦ page_in-data size new n other ∙ same other ∙ sym (page_in-data size old n other)
]

-- a page that is written is no lock page
written-data : (change : PageChange) → IsChange change → (n : ℕ) (piece : List ℕ) → written change.pages n ≡ Some piece → IsDataPage change.page_size n
written-data change valid n piece some lock =
    let no : None ≡ Some piece = sym (written-lock_page change valid) ∙ ap (written change.pages) (sym lock) ∙ some in absurd (cc)

-- the pages that are not written stand in the file as before
pub decides : (image : DatabaseImage) (change : PageChange) (bytes : List ℕ) → IsChange change → Shows image bytes → IsComplete image change → Decides change (apply image change) bytes
decides image change bytes valid shows complete = record {
  page_size = refl;
  commit = length-apply image change;
  pages = λ n first last. page_at-apply image change n first last ∙ ap (λ (p : List ℕ). Some p) (page n first last);
  left = λ n first last data_page none.
      let within : n ≤ length image.pages = inside n last data_page none in
      let size : image.page_size ≡ change.page_size = sized n first last within data_page none in
      let room : n * image.page_size ≤ length image.pages * image.page_size = mul-le-mul_right image.page_size within in
      subst (λ (s : ℕ). n * s ≤ length bytes) size (omega (arith, shows.long));
}
  where
    inside : (n : ℕ) → n ≤ change.commit → IsDataPage change.page_size n → written change.pages n ≡ None → n ≤ length image.pages
    inside n last data_page none = elim (cases_lt (length image.pages) n) [
      | inl past ↦ absurd (complete.past n past last data_page none)
      | inr within ↦ within
    ]

    sized : (n : ℕ) → 1 ≤ n → n ≤ change.commit → n ≤ length image.pages → IsDataPage change.page_size n → written change.pages n ≡ None → image.page_size ≡ change.page_size
    sized n first last within data_page none = elim complete.fits [
      | inl same ↦ same
      | inr (inl empty) ↦ let no : length image.pages ≡ 0 = ap length empty in absurd (omega arith)
      | inr (inr holds) ↦ let no : false ≡ true = subst (λ (o : Option (List ℕ)). IsSome o) none (holds n first last data_page) in cc
    ]

    page : (n : ℕ) → 1 ≤ n → n ≤ change.commit → page_after image change n ≡ unwrap_or (written change.pages n) (page_in change.page_size bytes n)
    page n first last = elim (cases_eq n (lock_page_of change.page_size)) [
      | inl lock ↦
          ap (page_after image change) lock ∙ page_after-lock_page image change
          ∙ sym (ap (λ (o : Option (List ℕ)). unwrap_or o (page_in change.page_size bytes n)) (ap (written change.pages) lock ∙ written-lock_page change valid) ∙ page_in-lock change.page_size bytes n lock)
      | inr other ↦
          page_after-data image change n other
          ∙ unwrap_or_same (written change.pages n) _ (page_in change.page_size bytes n)
          (λ none.
          let within : n ≤ length image.pages = inside n last other none in
          let size : image.page_size ≡ change.page_size = sized n first last within other none in
          ap (λ (o : Option (List ℕ)). unwrap_or o (replicate change.page_size 0)) (shows.pages n first within)
          ∙ ap (λ (s : ℕ). page_in s bytes n) size)
    ]

-- and whatever the change's own pages become
pub still_decides : (change : PageChange) (image : DatabaseImage) (old new : List ℕ) → Decides change image old → KeepsPages change.page_size (IsLeft change) old new → Decides change image new
still_decides change image old new before keeps = record {
  page_size = before.page_size;
  commit = before.commit;
  pages = λ n first last.
      before.pages n first last
      ∙ ap (λ (p : List ℕ). Some p)
      (unwrap_or_same (written change.pages n) (page_in change.page_size old n) (page_in change.page_size new n)
      (λ none. sym (page_in-same change.page_size old new n (λ data_page. (keeps n first (last, none) (before.left n first last data_page none)).same))));
  left = λ n first last data_page none. (keeps n first (last, none) (before.left n first last data_page none)).long;
}

-- a log with one file more
module _ (files : List LogFile) (file : LogFile) where
  pub encoding_more : (x y : ℕ) → encoding_of (files ++ file ∷ []) x y ≡ cond (x == file.min && y == file.max) (Some file.encoding) (encoding_of files x y)
  encoding_more x y = fold-append (λ (found : Option (List ℕ)) (f : LogFile). cond (x == f.min && y == f.max) (Some f.encoding) found) None files (file ∷ [])

  pub last_more : last_of (files ++ file ∷ []) ≡ Some file
  last_more = fold-append (λ (_ : Option LogFile) (f : LogFile). Some f) None files (file ∷ [])

  pub some_more : last_of (files ++ file ∷ []) ≡ None → ⊥
  some_more none = let no : None ≡ Some file = sym none ∙ last_more in absurd (cc)

module _ (image : DatabaseImage) (files : List LogFile) (change : PageChange) (file : LogFile) (tells : encoded_change file.encoding ≡ change) where
  pub is_decided : (made : DatabaseImage) (bytes : List ℕ) → Decides change made bytes → IsDecided (last_of (files ++ file ∷ [])) made bytes
  is_decided made bytes is = record {
    none = λ none. let here : None ≡ Some file = sym none ∙ last_more files file in absurd (cc);
    some = λ other some.
        let same : file ≡ other = same_Some file other (sym (last_more files file) ∙ some) in
        subst (λ (c : PageChange). Decides c made bytes) (sym tells ∙ ap (λ (f : LogFile). encoded_change f.encoding) same) is;
  }

  pub undecided : (made : DatabaseImage) (bytes : List ℕ) → IsDecided (last_of (files ++ file ∷ [])) made bytes → Decides change made bytes
  undecided made bytes is =
      subst (λ (c : PageChange). Decides c made bytes) tells (is.some file (last_more files file))

  pub kept_before : (dropped : Bool) (f c : Folder) → Kept image files dropped f → SameBut Staged f c → Kept image files dropped c
  kept_before dropped f c kept same = record {
    log = λ a b. same (Ltx a b) refl ∙ kept.log a b;
    no_snapshot = same Snapshot refl ∙ kept.no_snapshot;
    mark = ap is_some (same Dropped refl) ∙ kept.mark;
    decided = subst (λ (o : Option (List ℕ)). IsDecided (last_of files) image (bytes_of o)) (sym (same Database refl)) kept.decided;
    bare = λ none unmarked. ap bytes_of (same Database refl) ∙ kept.bare none unmarked;
  }

  -- once it is published
  pub kept_after : (f c : Folder) → IsChange change → Kept image files false f → Shows image (bytes_of (f Database)) → IsComplete image change → SameBut Staged (with_bytes (Ltx file.min file.max) file.encoding f) c
      → Kept (apply image change) (files ++ file ∷ []) false c
  kept_after f c valid kept shows complete same = record {
    log = λ a b.
        same (Ltx a b) refl ∙ ap (λ (o : Option (List ℕ)). cond (a == file.min && b == file.max) (Some file.encoding) o) (kept.log a b) ∙ sym (encoding_more files file a b);
    no_snapshot = same Snapshot refl ∙ kept.no_snapshot;
    mark = ap is_some (same Dropped refl) ∙ kept.mark;
    decided =
        subst (λ (o : Option (List ℕ)). IsDecided (last_of (files ++ file ∷ [])) (apply image change) (bytes_of o)) (sym (same Database refl))
        (is_decided (apply image change) (bytes_of (f Database)) (decides image change (bytes_of (f Database)) valid shows complete));
    bare = λ none. absurd (some_more files file none);
  }

  pub either : (f c : Folder) → IsChange change → Kept image files false f → Shows image (bytes_of (f Database)) → IsComplete image change → IsOldOrPublished f (Ltx file.min file.max) file.encoding c
      → IsBeforeOrAfter image files (apply image change) (files ++ file ∷ []) c
  either f c valid kept shows complete is = elim is [
    | inl old ↦ inl (kept_before false f c kept old)
    | inr new ↦ inr (kept_after f c valid kept shows complete new)
  ]

  -- and while its pages are written
  pub kept_worn : (made : DatabaseImage) (f c : Folder) → Kept made (files ++ file ∷ []) false f → IsWorn change f c → Kept made (files ++ file ∷ []) false c
  kept_worn made f c kept worn = record {
    log = λ a b. worn.others (Ltx a b) refl refl ∙ kept.log a b;
    no_snapshot = worn.others Snapshot refl refl ∙ kept.no_snapshot;
    mark = ap is_some (worn.others Dropped refl refl) ∙ kept.mark;
    decided = is_decided made (bytes_of (c Database)) (still_decides change made (bytes_of (f Database)) (bytes_of (c Database)) (undecided made (bytes_of (f Database)) kept.decided) worn.database.bytes);
    bare = λ none. absurd (some_more files file none);
  }

-- pages that are not written stay, whatever else is written over the bytes
patched_left : (size number : ℕ) (ws : List PageWrite) (bytes : List ℕ) (n : ℕ) → AscendsAbove number ws → ((k : ℕ) (d : PageWrite) → k < length ws → length (get_or ws k d).bytes ≡ size)
    → 1 ≤ n → written ws n ≡ None → n * size ≤ length bytes → SamePage size n bytes (patched size bytes ws)
patched_left size number [] bytes n ascending whole first none long = record { long = long; same = refl }
patched_left size number (w ∷ ws) bytes n ascending whole first none long =
    let one : length w.bytes ≡ size = whole 0 w (omega arith) in
    let other : w.number ≢ n = other_number (w ∷ ws) n none 0 w (omega arith) in
    let rest : written ws n ≡ None = written_rest w ws n none in
    let torn : Torn ((w.number - 1) * size) size bytes (overwritten ((w.number - 1) * size) w.bytes bytes) = Torn-overwritten ((w.number - 1) * size) size w.bytes bytes (omega arith) in
    let here : SamePage size n bytes (overwritten ((w.number - 1) * size) w.bytes bytes) = torn_page size w.number n bytes (overwritten ((w.number - 1) * size) w.bytes bytes) (omega (arith, ascending.0)) first other torn long in
    let after : SamePage size n (overwritten ((w.number - 1) * size) w.bytes bytes) (patched size (overwritten ((w.number - 1) * size) w.bytes bytes) ws) =
    patched_left size w.number ws (overwritten ((w.number - 1) * size) w.bytes bytes) n ascending.1 (λ k d within. whole (suc k) d (omega arith)) first rest here.long in
    record { long = after.long; same = after.same ∙ here.same }

-- a page that was written is there
in_place_written : (size n : ℕ) (piece bytes : List ℕ) → length piece ≡ size → in_place size n (overwritten ((n - 1) * size) piece bytes) ≡ piece
in_place_written size n piece bytes whole =
    let at = (n - 1) * size in
    let step : drop at (overwritten at piece bytes) ≡ piece ++ drop (at + length piece) bytes =
    ap (λ (l : List ℕ). drop at l) (append_assoc (resized at bytes) piece (drop (at + length piece) bytes)) ∙ drop_at (resized at bytes) (piece ++ drop (at + length piece) bytes) at (length-resized at bytes) in
    ap (λ (l : List ℕ). take size l) step ∙ take_at piece (drop (at + length piece) bytes) size whole

long_written : (size n : ℕ) (piece bytes : List ℕ) → 1 ≤ n → length piece ≡ size → n * size ≤ length (overwritten ((n - 1) * size) piece bytes)
long_written size n piece bytes first whole =
    let at = (n - 1) * size in
    omega (arith, page_end size n first, length-append (resized at bytes ++ piece) (drop (at + length piece) bytes), length-append (resized at bytes) piece, length-resized at bytes)

pub patched_written : (size number : ℕ) (ws : List PageWrite) (bytes : List ℕ) (n : ℕ) (piece : List ℕ) → AscendsAbove number ws → ((k : ℕ) (d : PageWrite) → k < length ws → length (get_or ws k d).bytes ≡ size)
    → 1 ≤ n → written ws n ≡ Some piece → (in_place size n (patched size bytes ws) ≡ piece) × (n * size ≤ length (patched size bytes ws))
patched_written size number [] bytes n piece ascending whole first some = absurd (cc)
patched_written size number (w ∷ ws) bytes n piece ascending whole first some =
    let over : List ℕ = overwritten ((w.number - 1) * size) w.bytes bytes in
    let one : length w.bytes ≡ size = whole 0 w (omega arith) in
    elim (cases_Bool (eqb w.number n)) [
      | inl is ↦
          let number_is : w.number ≡ n = eqb-true w.number n is in
          let same : Some w.bytes ≡ Some piece = rw is at some in
          let none : written ws n ≡ None = written-above w.number ws ascending.1 n (omega (arith, number_is)) in
          let there : in_place size w.number over ≡ w.bytes = in_place_written size w.number w.bytes bytes one in
          let long : w.number * size ≤ length over = long_written size w.number w.bytes bytes (omega (arith, ascending.0)) one in
          let long' : n * size ≤ length over = subst (λ (m : ℕ). m * size ≤ length over) number_is long in
          let after : SamePage size n over (patched size over ws) = patched_left size w.number ws over n ascending.1 (λ k d within. whole (suc k) d (omega arith)) first none long' in
          (after.same ∙ ap (λ (m : ℕ). in_place size m over) (sym number_is) ∙ there ∙ same_Some w.bytes piece same, after.long)
      | inr isnt ↦
          let rest : written ws n ≡ Some piece = rw isnt at some in
          patched_written size w.number ws over n piece ascending.1 (λ k d within. whole (suc k) d (omega arith)) first rest
    ]

-- the file after the change is the image
pub shows_after : (change : PageChange) (made : DatabaseImage) (before : List ℕ) → IsChange change → Decides change made before → Shows made (resized (change.commit * change.page_size) (patched change.page_size before change.pages))
shows_after change made before valid is =
    let len = change.commit * change.page_size in
    let over = patched change.page_size before change.pages in
    record {
      long = length-resized len over ∙ sym (ap (λ (c : ℕ). c * change.page_size) is.commit) ∙ sym (ap (λ (s : ℕ). length made.pages * s) is.page_size);
      pages = λ n first last.
          let last' : n ≤ change.commit = omega (arith, is.commit) in
          let room : n * change.page_size ≤ len = mul-le-mul_right change.page_size last' in
          is.pages n first last'
          ∙ ap (λ (p : List ℕ). Some p) (page n first last' room)
          ∙ ap (λ (s : ℕ). Some (page_in s (resized len over) n)) (sym is.page_size);
    }
  where
    page : (n : ℕ) → 1 ≤ n → n ≤ change.commit → n * change.page_size ≤ change.commit * change.page_size →
        unwrap_or (written change.pages n) (page_in change.page_size before n) ≡ page_in change.page_size (resized (change.commit * change.page_size) (patched change.page_size before change.pages)) n
    page n first last room =
        let size = change.page_size in
        let len = change.commit * change.page_size in
        let over = patched change.page_size before change.pages in
        let cropped : Cropped len over (resized len over) = Cropped-resized len len over (omega arith) (omega arith) in
        elim (cases_option (written change.pages n)) [
          | inl none ↦
              ap (λ (o : Option (List ℕ)). unwrap_or o (page_in size before n)) none
              ∙ sym (page_in-same size before (resized len over) n (λ data_page.
              let left : SamePage size n before over = patched_left size 0 change.pages before n valid.ascending valid.whole first none (is.left n first last data_page none) in
              let after : SamePage size n over (resized len over) = cropped_page size len n over (resized len over) first room cropped left.long in
              after.same ∙ left.same))
          | inr some ↦
              let made = patched_written size 0 change.pages before n some.0 valid.ascending valid.whole first some.1 in
              let after : SamePage size n over (resized len over) = cropped_page size len n over (resized len over) first room cropped made.1 in
              ap (λ (o : Option (List ℕ)). unwrap_or o (page_in size before n)) some.1
              ∙ sym (page_in-data size (resized len over) n (written-data change valid n some.0 some.1) ∙ after.same ∙ made.0)
        ]

-- what is staged and settled is staged over what the files read as
pub settled_staged : (h : History) → IsSettled h → IsSome (now h Staged) → IsStaged (now h) (bytes_of (now h Staged)) h
settled_staged h settled some =
    let there : now h Staged ≡ Some (bytes_of (now h Staged)) = some_bytes (now h Staged) some in
    record {
      seen = λ n other. refl;
      here = there;
      others = λ c may n other. settled c may n;
      whole = λ c may. settled c may Staged ∙ there;
    }
  where
    some_bytes : (file : Option (List ℕ)) → IsSome file → file ≡ Some (bytes_of file)
    some_bytes None some = let no : false ≡ true = some in cc
    some_bytes (Some bytes) some = refl

-- a change that is staged over a store at rest is published, and written over the database file
module _ (h mid new : History) (image : DatabaseImage) (files : List LogFile) (change : PageChange) (file : LogFile)
    (ready : IsReady image files false file.encoding change h) (published : IsPublished ready.before (Ltx file.min file.max) file.encoding mid) where
  kept_published : Kept (apply image change) (files ++ file ∷ []) false (now mid)
  kept_published = kept_after image files change file ready.tells ready.before (now mid) ready.valid ready.kept ready.shows ready.complete published.seen

  pub moments : EachMoment h mid (IsOldOrPublished ready.before (Ltx file.min file.max) file.encoding) → EachMoment mid new (IsWorn change (now mid))
      → EachMoment h new (IsBeforeOrAfter image files (apply image change) (files ++ file ∷ []))
  moments first second =
      joined h mid new (IsBeforeOrAfter image files (apply image change) (files ++ file ∷ []))
      (weakened h mid _ (IsBeforeOrAfter image files (apply image change) (files ++ file ∷ [])) first (λ d is. either image files change file ready.tells ready.before d ready.valid ready.kept ready.shows ready.complete is))
      (weakened mid new _ (IsBeforeOrAfter image files (apply image change) (files ++ file ∷ [])) second (λ d worn. inr (kept_worn image files change file ready.tells (apply image change) (now mid) d kept_published worn)))

  pub at_rest : EachMoment mid new (IsWorn change (now mid)) → may_leave new (now new) → IsRewritten change (now mid) new → IsAtRest (apply image change) (files ++ file ∷ []) false new
  at_rest runs real done = record {
    kept = kept_worn image files change file ready.tells (apply image change) (now mid) (now new) kept_published (runs.each new.moment (now new) runs.later (omega arith) real);
    shows =
        subst (λ (o : Option (List ℕ)). Shows (apply image change) (bytes_of o)) (sym done.database)
        (shows_after change (apply image change) (bytes_of (now mid Database)) ready.valid
        (undecided image files change file ready.tells (apply image change) (bytes_of (now mid Database)) kept_published.decided));
    settled = done.settled;
  }
