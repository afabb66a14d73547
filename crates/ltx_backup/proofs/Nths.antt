-- A file of a level and its entry.
use Rattle.std.proofs.Common.{◌≡◌, ◌∙◌, ℕ, zero, suc, ◌+◌, ◌<◌, List, [], ◌∷◌, ◌++◌, length, get_or, take, drop, refl, ap, subst, sym, arith}
use Rattle.std.proofs.lemmas.List.{drop_more, take_more}
use Rattle.lf_disk.specs.Folder.{Folder}
use Rattle.ltx_codec.specs.declared.file.Ltx.{Ltx}
use Rattle.ltx_backup.specs.Entries.{entry_of, entries_of}
use Rattle.ltx_backup.specs.Levels.{Stands, AllStand}
use Rattle.ltx_backup.specs.declared.entry.Entry.{Entry}
use Rattle.ltx_backup.proofs.Lists.{no_entry}

pub as_many : (files : List Ltx) → length (entries_of files) ≡ length files
as_many [] = refl
as_many (x ∷ xs) = ap suc (as_many xs)

entry_nth : (files : List Ltx) (i : ℕ) (d : Ltx) → i < length files → get_or (entries_of files) i no_entry ≡ entry_of (get_or files i d)
entry_nth [] i d more = absurd (omega arith)
entry_nth (x ∷ xs) zero d more = refl
entry_nth (x ∷ xs) (suc i) d more = entry_nth xs i d (omega arith)

stands_nth : (f : Folder) (files : List Ltx) (i : ℕ) (d : Ltx) → i < length files → AllStand f files → Stands f (get_or files i d)
stands_nth f [] i d more stand = absurd (omega arith)
stands_nth f (x ∷ xs) zero d more stand = stand.0
stands_nth f (x ∷ xs) (suc i) d more stand = stands_nth f xs i d (omega arith) stand.1

-- the file of an entry
pub record Nth (f : Folder) (files : List Ltx) (i : ℕ) (entry : Entry) : Type 0 where
  pub file : Ltx
  pub splits : drop i files ≡ file ∷ drop (i + 1) files
  pub front : take (i + 1) files ≡ take i files ++ file ∷ []
  pub is : entry ≡ entry_of file
  pub stands : Stands f file

nth_of : (f : Folder) (files : List Ltx) (i : ℕ) → i < length files → AllStand f files → Nth f files i (get_or (entries_of files) i no_entry)
nth_of f [] i more stand = absurd (omega arith)
nth_of f (x ∷ xs) i more stand = record {
  file = get_or (x ∷ xs) i x;
  splits = drop_more (x ∷ xs) i x more;
  front = take_more (x ∷ xs) i x more;
  is = entry_nth (x ∷ xs) i x more;
  stands = stands_nth f (x ∷ xs) i x more stand;
}

pub nth : (f : Folder) (entries : List Entry) (files : List Ltx) (i : ℕ) → entries ≡ entries_of files → i < length entries → AllStand f files → Nth f files i (get_or entries i no_entry)
nth f entries files i are more stand =
    let count : length entries ≡ length files = ap length are ∙ as_many files in
    subst (λ (es : List Entry). Nth f files i (get_or es i no_entry)) (sym are) (nth_of f files i (omega (arith, count)) stand)
