-- A store with one file more.
use Rattle.std.proofs.Common.{◌≡◌, inl, inr, ℕ, zero, suc, ◌+◌, ◌-◌, ◌<◌, ◌≤◌, true, false, eqb, Option, Some, None, List, [], ◌∷◌, ◌++◌, length, length-append, get_or, fold, map, replicate, refl, sym, ◌∙◌, ap, subst, arith, unwrap_or, IsSome}
use Rattle.std.specs.Prelude.{slice_index}
use Rattle.std.specs.List.{range_with_len}
use Rattle.std.specs.Option.{option_map}
use Rattle.std.proofs.lemmas.Bool.{cases_lt, cases_eq}
use Rattle.std.proofs.lemmas.Bool.Decides.{nat_tests}
use Rattle.std.proofs.lemmas.List.{get_or_append_left, get_or_at}
use Rattle.std.proofs.lemmas.List.FromFn.{get_or-map-range_with_len}
use Rattle.std.proofs.lemmas.List.Sums.{fold-append}
use Rattle.std.proofs.lemmas.Option.{slice_get-get_or}
use Rattle.page_checksum.specs.Sums.{flagged, joined, page_sum_of}
use Rattle.lf_base.specs.declared.pos.Pos.{Pos}
use Rattle.lf_sqlite_pages.specs.LockPage.{lock_page_of, IsDataPage}
use Rattle.lf_sqlite_pages.specs.Change.{PageChange, written}
use Rattle.lf_sqlite_pages.specs.Image.{DatabaseImage, page_at}
use Rattle.lf_sqlite_pages.specs.Apply.{apply}
use Rattle.lf_sqlite_pages.specs.Writes.{data_page_at}
use Rattle.lf_sqlite_pages.proofs.Laws.{length-apply, page_at-apply, page_after-data}
use Rattle.lf_sqlite_pages.proofs.PageNumbers.{page_at-first}
use Rattle.lf_sqlite_pages.proofs.DataWrites.{data_page_at-lock_page, data_page_at-data}
use Rattle.ltx_codec.specs.Positions.{before, after, nowhere}
use Rattle.ltx_codec.specs.Sums.{image_sum, page_sum_at, sum_table}
use Rattle.ltx_codec.specs.declared.file.Ltx.{Ltx}
use Rattle.ltx_codec.proofs.SumLaws.{image_sum-table}
use Rattle.ltx_codec.proofs.SumLemmas.{map-same}
use Rattle.world_laws.specs.Store.{end_of}
use Rattle.txn_log.specs.declared.entry.Entry.{Entry}
use Rattle.txn_log.specs.Kept.{LogFile, file_of, IsComplete}
use Rattle.txn_log.specs.Draft.{sum_after, sums_after}
use Rattle.txn_log.specs.Durable.{IsEncoding, log_of, Follow, IsLog}
use Rattle.txn_log.specs.Store.{entry_of, AreEntries}
use Rattle.txn_log.proofs.Puttings.{cases_option}
use Rattle.txn_log.proofs.Stores.{ascends_more, Tells, named_more}

map-more : {A B : Type 0} (f : A → B) (xs : List A) (x : A) → map f (xs ++ x ∷ []) ≡ map f xs ++ f x ∷ []
map-more f [] x = refl
map-more f (y ∷ ys) x = ap (λ zs. f y ∷ zs) (map-more f ys x)

-- the end of a log is behind its last file
end-from : (position : Pos) (log : List Ltx) (k : ℕ) (d : Ltx) → k + 1 ≡ length log → fold (λ _ (g : Ltx). after g) position log ≡ after (get_or log k d)
end-from position [] k d last = absurd (omega (arith, last))
end-from position (g ∷ []) k d last =
    let here : k ≡ 0 = omega (arith, last) in
    ap (λ (i : ℕ). after (get_or (g ∷ []) i d)) (sym here)
end-from position (g ∷ g' ∷ gs) zero d last = absurd (omega (arith, last))
end-from position (g ∷ g' ∷ gs) (suc k) d last = end-from (after g) (g' ∷ gs) k d (omega (arith, last))

end-last : (log : List Ltx) (k : ℕ) (d : Ltx) → k + 1 ≡ length log → end_of log ≡ after (get_or log k d)
unfolding end_of
end-last log k d last = end-from nowhere log k d last

pub end_of-push : (log : List Ltx) (g : Ltx) → end_of (log ++ g ∷ []) ≡ after g
unfolding end_of
end_of-push log g = fold-append (λ (_ : Pos) (x : Ltx). after x) nowhere log (g ∷ [])

pub end_of-none : (end_of []).txid ≡ 0
unfolding end_of
end_of-none = refl

follow-more : (log : List Ltx) (g : Ltx) → Follow log → before g ≡ end_of log → Follow (log ++ g ∷ [])
follow-more log g follow next k d within =
    let long : length (log ++ g ∷ []) ≡ length log + 1 = length-append log (g ∷ []) in
    elim (cases_lt (k + 1) (length log)) [
      | inl inside ↦
          ap before (get_or_append_left log (g ∷ []) d (k + 1) inside) ∙ follow k d inside ∙ sym (ap after (get_or_append_left log (g ∷ []) d k (omega (arith, inside))))
      | inr past ↦
          let last : k + 1 ≡ length log = omega (arith, past, within, long) in
          ap before (get_or_at log g [] d (k + 1) (sym last)) ∙ next ∙ end-last log k d last ∙ sym (ap after (get_or_append_left log (g ∷ []) d k (omega (arith, last))))
    ]

-- the number of the last file
max-end : (number : ℕ) (position : Pos) (files : List LogFile) → ((k : ℕ) (d : LogFile) → k < length files → (file_of (get_or files k d).encoding).header.max ≡ (get_or files k d).max) → number ≡ position.txid
    → fold (λ _ (f : LogFile). f.max) number files ≡ (fold (λ _ (g : Ltx). after g) position (log_of files)).txid
max-end number position [] max same = same
max-end number position (f ∷ fs) max same = max-end f.max (after (file_of f.encoding)) fs (λ k d within. max (suc k) d (omega (arith, within))) (sym (max 0 f (omega arith)))

pub last-number : (files : List LogFile) → IsLog files → fold (λ _ (f : LogFile). f.max) 0 files ≡ (end_of (log_of files)).txid
unfolding end_of
last-number files log = max-end 0 nowhere files log.max refl

-- a file that follows the log
pub record Follows (files : List LogFile) (file : LogFile) : Type 0 where
  pub is : IsEncoding file.encoding
  pub min : (file_of file.encoding).header.min ≡ file.min
  pub max : (file_of file.encoding).header.max ≡ file.max
  pub order : file.min ≤ file.max
  pub above : (end_of (log_of files)).txid < file.min
  pub next : before (file_of file.encoding) ≡ end_of (log_of files)

pub log-more : (files : List LogFile) (file : LogFile) → log_of (files ++ file ∷ []) ≡ log_of files ++ file_of file.encoding ∷ []
log-more files file = map-more (λ (f : LogFile). file_of f.encoding) files file

-- what holds of each file of a log, and of one more
each-more : (P : LogFile → Type 0) (files : List LogFile) (file : LogFile) → ((k : ℕ) (d : LogFile) → k < length files → P (get_or files k d)) → P file
    → (k : ℕ) (d : LogFile) → k < length (files ++ file ∷ []) → P (get_or (files ++ file ∷ []) k d)
each-more P files file each here k d within = elim (cases_lt k (length files)) [
  | inl inside ↦ subst P (sym (get_or_append_left files (file ∷ []) d k inside)) (each k d inside)
  | inr past ↦
      let last : length files ≡ k = omega (arith, past, within, length-append files (file ∷ [])) in
      subst P (sym (get_or_at files file [] d k last)) here
]

pub is_log-more : (files : List LogFile) (file : LogFile) → IsLog files → Follows files file → IsLog (files ++ file ∷ [])
is_log-more files file log new = record {
  ascends = ascends_more 0 files file log.ascends (omega (arith, last-number files log, new.above)) new.order;
  encodings = each-more (λ (f : LogFile). IsEncoding f.encoding) files file log.encodings new.is;
  min = each-more (λ (f : LogFile). (file_of f.encoding).header.min ≡ f.min) files file log.min new.min;
  max = each-more (λ (f : LogFile). (file_of f.encoding).header.max ≡ f.max) files file log.max new.max;
  follow = subst (λ (l : List Ltx). Follow l) (sym (log-more files file)) (follow-more (log_of files) (file_of file.encoding) log.follow new.next);
}

pub entries-more : (entries : List Entry) (files : List LogFile) (file : LogFile) → AreEntries entries files → Follows files file → AreEntries (entries ++ entry_of (file_of file.encoding) ∷ []) (files ++ file ∷ [])
entries-more entries files file are new = record {
  log = is_log-more files file are.log new;
  same = map-more (λ (f : LogFile). entry_of (file_of f.encoding)) files file ∙ ap (λ (es : List Entry). es ++ entry_of (file_of file.encoding) ∷ []) are.same;
}

-- the sums of an image after a complete change

module _ (image : DatabaseImage) (change : PageChange) (complete : IsComplete image change) where
  inside : (n : ℕ) → n ≤ change.commit → IsDataPage change.page_size n → written change.pages n ≡ None → n ≤ length image.pages
  inside n last data_page none = elim (cases_lt (length image.pages) n) [
    | inl past ↦ absurd (complete.past n past last data_page none)
    | inr within ↦ within
  ]

  sized : (n : ℕ) → 1 ≤ n → n ≤ change.commit → IsDataPage change.page_size n → written change.pages n ≡ None → image.page_size ≡ change.page_size
  sized n first last data_page none = elim complete.fits [
    | inl same ↦ same
    | inr (inl empty) ↦ let no : length image.pages ≡ 0 = ap length empty in absurd (omega (arith, no, inside n last data_page none, first))
    | inr (inr holds) ↦ let no : false ≡ true = subst (λ (o : Option (List ℕ)). IsSome o) none (holds n first last data_page) in absurd (false_true no)
  ]
    where
      false_true : false ≡ true → ⊥
      false_true same = cc

  each : (n : ℕ) → 1 ≤ n → n ≤ change.commit → page_sum_at (apply image change) n ≡ sum_after (sum_table image) change n
  each n first last = elim (cases_eq n (lock_page_of change.page_size)) [
    | inl lock ↦
        let test : eqb n (lock_page_of change.page_size) ≡ true = grind (arith, nat_tests) in
        ap (λ (o : Option (List ℕ)). unwrap_or (option_map (page_sum_of n) o) 0) (ap (data_page_at (apply image change)) lock ∙ data_page_at-lock_page (apply image change))
        ∙ rw test refl
    | inr other ↦
        let test : eqb n (lock_page_of change.page_size) ≡ false = grind (arith, nat_tests) in
        let there : data_page_at (apply image change) n ≡ Some (unwrap_or (written change.pages n) (unwrap_or (page_at image n) (replicate change.page_size 0))) =
        data_page_at-data (apply image change) n other ∙ page_at-apply image change n first last ∙ ap (λ (p : List ℕ). Some p) (page_after-data image change n other) in
        ap (λ (o : Option (List ℕ)). unwrap_or (option_map (page_sum_of n) o) 0) there
        ∙ elim (cases_option (written change.pages n)) [
          | inl none ↦
              let size : image.page_size ≡ change.page_size = sized n first last other none in
              let within : n ≤ length image.pages = inside n last other none in
              let page : List ℕ = get_or image.pages (n - 1) [] in
              let at : page_at image n ≡ Some page = page_at-first image n first ∙ slice_get-get_or image.pages (n - 1) [] (omega (arith, first, within)) in
              let data_page : IsDataPage image.page_size n = λ lock. other (lock ∙ ap lock_page_of size) in
              let sum : page_sum_at image n ≡ page_sum_of n page =
              ap (λ (o : Option (List ℕ)). unwrap_or (option_map (page_sum_of n) o) 0) (data_page_at-data image n data_page ∙ at) in
              let entry : slice_index (sum_table image) (n - 1) ≡ page_sum_at image n =
              get_or-map-range_with_len (page_sum_at image) 1 (length image.pages) (n - 1) n 0 (omega (arith, first, within)) (omega (arith, first)) in
              rw (none, at, test) (sym (entry ∙ sum))
          | inr some ↦ rw (some.1, test) refl
        ]
  ]

  pub sum_table-apply : sum_table (apply image change) ≡ sums_after (sum_table image) change
  sum_table-apply =
      ap (λ (c : ℕ). map (page_sum_at (apply image change)) (range_with_len 1 c)) (length-apply image change)
      ∙ map-same (page_sum_at (apply image change)) (sum_after (sum_table image) change) 1 change.commit (λ n above below. each n above (omega (arith, below)))

  -- the sum that the table gives is the image's
  pub image_sum-apply : image_sum (apply image change) ≡ flagged (joined (sums_after (sum_table image) change))
  image_sum-apply = image_sum-table (apply image change) ∙ ap (λ (sums : List ℕ). flagged (joined sums)) sum_table-apply

  -- the fields after the file
  pub tells-more : (size commit : ℕ) (entries : List Entry) (sums : List ℕ) (files : List LogFile) (file : LogFile) → Tells image files size commit entries sums → Follows files file
      → Tells (apply image change) (files ++ file ∷ []) change.page_size change.commit (entries ++ entry_of (file_of file.encoding) ∷ []) (sums_after sums change)
  tells-more size commit entries sums files file tells new = record {
    size_is = refl;
    commit_is = sym (length-apply image change);
    log = entries-more entries files file tells.log new;
    named = named_more entries files (entry_of (file_of file.encoding)) file tells.named tells.count (sym new.min) (sym new.max);
    count = omega (arith, tells.count, length-append entries (entry_of (file_of file.encoding) ∷ []), length-append files (file ∷ []));
    table = ap (λ (s : List ℕ). sums_after s change) tells.table ∙ sym sum_table-apply;
  }
