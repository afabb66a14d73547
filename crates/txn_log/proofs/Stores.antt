-- What a store stands for, from call to call.
use Rattle.std.proofs.Common.{◌≡◌, inl, inr, ℕ, zero, suc, ◌+◌, ◌-◌, ◌<◌, ◌≤◌, Bool, true, false, cond, eq-eqb, Option, Some, None, List, [], ◌∷◌, ◌++◌, length, length-append, get_or, fold, map, refl, sym, ◌∙◌, ap, subst, arith}
use Rattle.std.specs.Prelude.{◌==◌, ◌&&◌}
use Rattle.std.proofs.lemmas.Bool.{and_from, cases_lt}
use Rattle.std.proofs.lemmas.Bool.Decides.{nat_tests}
use Rattle.std.proofs.lemmas.List.{same_lists, get_or-map, length-map, get_or_append_left, get_or_at}
use Rattle.std.proofs.lemmas.List.FromFn.{length-map-range_with_len, get_or-map-range_with_len}
use Rattle.std.proofs.lemmas.Option.{get_or_from_slice_get}
use Rattle.std.specs.List.{range_with_len, slice_get}
use Rattle.lf_disk.specs.declared.name.FileName.TheVariants.{Database, Staged, Ltx as LtxName}
use Rattle.lf_disk.specs.Folder.{Folder, bytes_of, SameBut}
use Rattle.lf_disk.specs.History.{History, now, KeepsPast}
use Rattle.lf_sqlite_pages.specs.Image.{DatabaseImage, page_at}
use Rattle.lf_sqlite_pages.specs.Header.{image_is_wal}
use Rattle.ltx_codec.specs.Sums.{sum_table}
use Rattle.txn_log.specs.declared.entry.Entry.{Entry}
use Rattle.txn_log.specs.Pages.{page_in}
use Rattle.txn_log.specs.Kept.{LogFile, encoding_of, Kept, Shows, IsAtRestAt, IsAtRest, Ascends}
use Rattle.txn_log.specs.Durable.{log_of}
use Rattle.txn_log.specs.Entries.{AreNamed}
use Rattle.txn_log.specs.Store.{image_in, files_in, state_in, state_of, AreEntries, IsStore}

-- the encoding under a name, where one was found before
abbrev pub encoding_from : Option (List ℕ) → List LogFile → ℕ → ℕ → Option (List ℕ)
encoding_from found files a b = fold (λ (found : Option (List ℕ)) (f : LogFile). cond (a == f.min && b == f.max) (Some f.encoding) found) found files

-- a number below all of these names none of them
pub unnamed : (found : Option (List ℕ)) (number : ℕ) (files : List LogFile) (a b : ℕ) → Ascends number files → a ≤ number → encoding_from found files a b ≡ found
unnamed found number [] a b ascends low = refl
unnamed found number (f ∷ fs) a b ascends low =
    let below : a < f.min = omega (arith, ascends.0) in
    let isnt : (a == f.min) ≡ false = grind (arith, nat_tests) in
    ap (λ (x : Bool). encoding_from (cond (x && b == f.max) (Some f.encoding) found) fs a b) isnt
    ∙ unnamed found f.max fs a b ascends.2 (omega (arith, ascends.1))

-- each file of the log stands under its own name
lookup : (found : Option (List ℕ)) (number : ℕ) (files : List LogFile) (k : ℕ) (d : LogFile) → Ascends number files → k < length files →
    encoding_from found files (get_or files k d).min (get_or files k d).max ≡ Some (get_or files k d).encoding
lookup found number [] k d ascends within = absurd (omega arith)
lookup found number (f ∷ fs) zero d ascends within =
    let here : (f.min == f.min && f.max == f.max) ≡ true = and_from (f.min == f.min) (f.max == f.max) (eq-eqb f.min f.min refl) (eq-eqb f.max f.max refl) in
    ap (λ (x : Bool). encoding_from (cond x (Some f.encoding) found) fs f.min f.max) here ∙ unnamed (Some f.encoding) f.max fs f.min f.max ascends.2 ascends.1
lookup found number (f ∷ fs) (suc k) d ascends within =
    lookup (cond ((get_or fs k d).min == f.min && (get_or fs k d).max == f.max) (Some f.encoding) found) f.max fs k d ascends.2 (omega arith)

-- the file of an entry in a folder
abbrev pub file_at : Folder → Entry → LogFile
file_at f e = record { min = e.min; max = e.max; encoding = bytes_of (f (LtxName e.min e.max)) }

-- an entry of no account
abbrev pub no_entry : Entry
no_entry = record { min = 0; max = 0; pre = record { txid = 0; sum = 0 }; post = record { txid = 0; sum = 0 } }

-- so the files of these entries are the log's
pub files_are : (entries : List Entry) (files : List LogFile) (f : Folder) → Ascends 0 files → AreNamed entries files → length entries ≡ length files → ((a b : ℕ) → f (LtxName a b) ≡ encoding_of files a b) → files_in entries f ≡ files
files_are entries files f ascends named same log =
    same_lists (files_in entries f) files (length-map entries (file_at f) ∙ same)
    (λ k d within.
    let more : k < length entries = omega (arith, length-map entries (file_at f)) in
    let e = get_or entries k no_entry in
    let low : (get_or files k d).min ≡ e.min = named.min k no_entry d more in
    let high : (get_or files k d).max ≡ e.max = named.max k no_entry d more in
    let found : f (LtxName e.min e.max) ≡ Some (get_or files k d).encoding =
    log e.min e.max
    ∙ ap (λ (a : ℕ). encoding_of files a e.max) (sym low) ∙ ap (λ (b : ℕ). encoding_of files (get_or files k d).min b) (sym high)
    ∙ lookup None 0 files k d ascends (omega arith)
    in
    get_or-map (file_at f) entries k no_entry d more
    ∙ (λ i. record { min = sym low i; max = sym high i; encoding = bytes_of (found i) }))

pub named_in : (entries : List Entry) (f : Folder) → AreNamed entries (files_in entries f)
named_in entries f = record {
  min = λ k e d within. ap (λ (g : LogFile). g.min) (get_or-map (file_at f) entries k e d within);
  max = λ k e d within. ap (λ (g : LogFile). g.max) (get_or-map (file_at f) entries k e d within);
}

pub length-files_in : (entries : List Entry) (f : Folder) → length (files_in entries f) ≡ length entries
length-files_in entries f = length-map entries (file_at f)

pub named_more : (entries : List Entry) (files : List LogFile) (e : Entry) (file : LogFile) → AreNamed entries files → length entries ≡ length files → file.min ≡ e.min → file.max ≡ e.max →
    AreNamed (entries ++ e ∷ []) (files ++ file ∷ [])
named_more entries files e file named same low high = record {
  min = λ k d g within. elim (cases_lt k (length entries)) [
    | inl before ↦
        ap (λ (f : LogFile). f.min) (get_or_append_left files (file ∷ []) g k (omega arith)) ∙ named.min k d g before ∙ sym (ap (λ (x : Entry). x.min) (get_or_append_left entries (e ∷ []) d k before))
    | inr last ↦
        let at : k ≡ length entries = omega (arith, length-append entries (e ∷ [])) in
        ap (λ (f : LogFile). f.min) (get_or_at files file [] g k (omega (arith, at))) ∙ low ∙ sym (ap (λ (x : Entry). x.min) (get_or_at entries e [] d k (sym at)))
  ];
  max = λ k d g within. elim (cases_lt k (length entries)) [
    | inl before ↦
        ap (λ (f : LogFile). f.max) (get_or_append_left files (file ∷ []) g k (omega arith)) ∙ named.max k d g before ∙ sym (ap (λ (x : Entry). x.max) (get_or_append_left entries (e ∷ []) d k before))
    | inr last ↦
        let at : k ≡ length entries = omega (arith, length-append entries (e ∷ [])) in
        ap (λ (f : LogFile). f.max) (get_or_at files file [] g k (omega (arith, at))) ∙ high ∙ sym (ap (λ (x : Entry). x.max) (get_or_at entries e [] d k (sym at)))
  ];
}

-- the last number of a log
pub ascends_more : (number : ℕ) (files : List LogFile) (file : LogFile) → Ascends number files → fold (λ _ (f : LogFile). f.max) number files < file.min → file.min ≤ file.max → Ascends number (files ++ file ∷ [])
ascends_more number [] file ascends above whole = (above, whole, tt)
ascends_more number (f ∷ fs) file ascends above whole = (ascends.0, ascends.1, ascends_more f.max fs file ascends.2 above whole)

-- the image in a file is the one that the file shows
pub image_is : (image : DatabaseImage) (f : Folder) → Shows image (bytes_of (f Database)) → image_in image.page_size (length image.pages) f ≡ image
image_is image f shows =
    let page : ℕ → List ℕ = page_in image.page_size (bytes_of (f Database)) in
    let count : length (map page (range_with_len 1 (length image.pages))) ≡ length image.pages = length-map-range_with_len page 1 (length image.pages) in
    let pages : map page (range_with_len 1 (length image.pages)) ≡ image.pages =
    same_lists (map page (range_with_len 1 (length image.pages))) image.pages count
    (λ k d within.
    let inside : k < length image.pages = omega (arith, count) in
    let back : k + 1 - 1 ≡ k = omega arith in
    let test : (k + 1 == 0) ≡ false = grind (arith, nat_tests) in
    let is : page_at image (k + 1) ≡ Some (page (k + 1)) = shows.pages (k + 1) (omega arith) (omega arith) in
    let at : slice_get image.pages (k + 1 - 1) ≡ Some (page (k + 1)) = sym (ap (λ (b : Bool). cond b None (slice_get image.pages (k + 1 - 1))) test) ∙ is in
    get_or-map-range_with_len page 1 (length image.pages) k (k + 1) d inside (omega arith)
    ∙ sym (get_or_from_slice_get image.pages k (page (k + 1)) d (ap (λ (i : ℕ). slice_get image.pages i) (sym back) ∙ at)))
    in
    λ i. record { page_size = image.page_size; pages = pages i }

-- the past stays as it was
pub at_rest_past : (image : DatabaseImage) (files : List LogFile) (dropped : Bool) (h new : History) (t : ℕ) → t ≤ h.moment → KeepsPast h new → IsAtRestAt image files dropped h t → IsAtRestAt image files dropped new t
at_rest_past image files dropped h new t early past rest =
    let same : new.seen t ≡ h.seen t = λ i n. past.seen t n early i in
    record {
      kept = subst (λ (f : Folder). Kept image files dropped f) (sym same) rest.kept;
      shows = subst (λ (f : Folder). Shows image (bytes_of (f Database))) (sym same) rest.shows;
      settled = λ c may. subst (λ (f : Folder). SameBut Staged f c) (sym same) (rest.settled c (past.no_more t c early may));
    }

module _ (size commit : ℕ) (entries : List Entry) (dropped : Bool) (sums : List ℕ) (h new : History) (past : KeepsPast h new) where
  -- a store at moment t of one history is one at that moment of the next
  meant_past : (t : ℕ) → t ≤ h.moment → IsAtRestAt (image_in size commit (h.seen t)) (files_in entries (h.seen t)) dropped h t → IsAtRestAt (image_in size commit (new.seen t)) (files_in entries (new.seen t)) dropped new t
  meant_past t early rest =
      let same : new.seen t ≡ h.seen t = λ i n. past.seen t n early i in
      subst (λ (f : Folder). IsAtRestAt (image_in size commit f) (files_in entries f) dropped new t) (sym same)
      (at_rest_past (image_in size commit (h.seen t)) (files_in entries (h.seen t)) dropped h new t early past rest)

  -- a call has failed: the store is meant as it was before
  pub broken : (whole was tried : ℕ) → h.moment ≤ new.moment → tried ≤ new.moment → IsStore h size commit entries dropped sums false whole was → IsStore new size commit entries dropped sums true h.moment tried
  broken whole was tried later early is =
      let same : new.seen h.moment ≡ h.seen h.moment = λ i n. past.seen h.moment n (omega arith) i in
      record {
        past = later;
        rest = meant_past h.moment (omega arith) is.rest;
        log = subst (λ (f : Folder). AreEntries entries (files_in entries f)) (sym same) is.log;
        table = subst (λ (f : Folder). sums ≡ sum_table (image_in size commit f)) (sym same) is.table;
        early = λ _. early;
      }

  -- and seen as it was before
  pub seen_before : (whole : ℕ) → state_of new size commit entries dropped true h.moment ≡ state_of h size commit entries dropped false whole
  seen_before whole =
      let same : new.seen h.moment ≡ h.seen h.moment = λ i n. past.seen h.moment n (omega arith) i in
      ap (λ (f : Folder). state_in size commit entries dropped f) same

  -- in the journal mode from before
  pub mode_before : (wal : Bool) → wal ≡ image_is_wal (image_in size commit (now h)) → wal ≡ image_is_wal (image_in size commit (new.seen h.moment))
  mode_before wal is =
      let same : new.seen h.moment ≡ h.seen h.moment = λ i n. past.seen h.moment n (omega arith) i in
      is ∙ ap (λ (f : Folder). image_is_wal (image_in size commit f)) (sym same)

-- a store as the disk has come to rest, with the fields that tell it
pub record Tells (image : DatabaseImage) (files : List LogFile) (size commit : ℕ) (entries : List Entry) (sums : List ℕ) : Type 0 where
  pub size_is : size ≡ image.page_size
  pub commit_is : commit ≡ length image.pages
  pub log : AreEntries entries files
  pub named : AreNamed entries files
  pub count : length entries ≡ length files
  pub table : sums ≡ sum_table image

module _ (image : DatabaseImage) (files : List LogFile) (dropped : Bool) (size commit : ℕ) (entries : List Entry) (sums : List ℕ) (new : History)
    (rest : IsAtRest image files dropped new) (tells : Tells image files size commit entries sums) where
  pub image_now : image_in size commit (now new) ≡ image
  image_now =
      let P : ℕ → ℕ → Type 0 = λ s c. image_in s c (now new) ≡ image in
      subst (λ (s : ℕ). P s commit) (sym tells.size_is) (subst (λ (c : ℕ). P image.page_size c) (sym tells.commit_is) (image_is image (now new) rest.shows))

  pub files_now : files_in entries (now new) ≡ files
  files_now = files_are entries files (now new) tells.log.log.ascends tells.named tells.count rest.kept.log

  pub settles : (whole tried : ℕ) → IsStore new size commit entries dropped sums false whole tried
  settles whole tried = record {
    past = omega arith;
    rest = subst (λ (i : DatabaseImage). IsAtRestAt i (files_in entries (now new)) dropped new new.moment) (sym image_now)
        (subst (λ (fs : List LogFile). IsAtRestAt image fs dropped new new.moment) (sym files_now) rest);
    log = subst (λ (fs : List LogFile). AreEntries entries fs) (sym files_now) tells.log;
    table = tells.table ∙ ap sum_table (sym image_now);
    early = λ same. absurd (false_true same);
  }
    where
      false_true : false ≡ true → ⊥
      false_true same = cc

  pub state_now : state_in size commit entries dropped (now new) ≡ record { image = image; log = log_of files; dropped = dropped }
  state_now = λ i. record { image = image_now i; log = log_of (files_now i); dropped = dropped }
