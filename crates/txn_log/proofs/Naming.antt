-- The entries of a log name all transaction files of its folder.
use Rattle.std.proofs.Common.{◌≡◌, inl, inr, ℕ, suc, Bool, false, true, cond, Some, None, List, [], ◌∷◌, length, refl, sym, ◌∙◌, ap, arith}
use Rattle.std.specs.Prelude.{◌==◌, ◌&&◌}
use Rattle.std.proofs.lemmas.Bool.{cases_Bool}
use Rattle.lf_disk.specs.declared.name.FileName.TheVariants.{Ltx}
use Rattle.lf_disk.specs.Folder.{Folder, with_file}
use Rattle.lf_sqlite_pages.specs.Image.{DatabaseImage}
use Rattle.txn_log.specs.declared.entry.Entry.{Entry}
use Rattle.txn_log.specs.Entries.{AreNamed}
use Rattle.txn_log.specs.Kept.{LogFile, encoding_of, Kept}
use Rattle.txn_log.specs.Settling.{without, HasNoOthers}
use Rattle.txn_log.specs.Store.{files_in}
use Rattle.txn_log.proofs.Stores.{encoding_from, named_in, length-files_in}

-- a file that is absent stays so
pub without-none : (entries : List Entry) (f : Folder) (a b : ℕ) → f (Ltx a b) ≡ None → without entries f (Ltx a b) ≡ None
without-none [] f a b none = none
without-none (e ∷ es) f a b none = without-none es (with_file (Ltx e.min e.max) None f) a b (here (a == e.min && b == e.max) none)
  where
    here : (x : Bool) → f (Ltx a b) ≡ None → cond x None (f (Ltx a b)) ≡ None
    here true none = refl
    here false none = none

none_left : (entries : List Entry) (files : List LogFile) (f : Folder) (a b : ℕ) → AreNamed entries files → length entries ≡ length files → f (Ltx a b) ≡ encoding_from None files a b → without entries f (Ltx a b) ≡ None
none_left [] [] f a b named same there = there
none_left [] (g ∷ fs) f a b named same there = absurd (omega (arith, same))
none_left (e ∷ es) [] f a b named same there = absurd (omega (arith, same))
none_left (e ∷ es) (g ∷ fs) f a b named same there =
    let low : g.min ≡ e.min = named.min 0 e g (omega arith) in
    let high : g.max ≡ e.max = named.max 0 e g (omega arith) in
    let rest : AreNamed es fs = record { min = λ k d x within. named.min (suc k) d x (omega arith); max = λ k d x within. named.max (suc k) d x (omega arith) } in
    let test : (a == g.min && b == g.max) ≡ (a == e.min && b == e.max) = λ i. (a == low i && b == high i) in
    elim (cases_Bool (a == e.min && b == e.max)) [
      | inl is ↦ without-none es (with_file (Ltx e.min e.max) None f) a b (ap (λ (x : Bool). cond x None (f (Ltx a b))) is)
      | inr isnt ↦
          none_left es fs (with_file (Ltx e.min e.max) None f) a b rest (omega (arith, same))
          (ap (λ (x : Bool). cond x None (f (Ltx a b))) isnt ∙ there ∙ ap (λ (x : Bool). encoding_from (cond x (Some g.encoding) None) fs a b) (test ∙ isnt))
    ]

pub no_others : (entries : List Entry) (files : List LogFile) (f : Folder) → AreNamed entries files → length entries ≡ length files → ((a b : ℕ) → f (Ltx a b) ≡ encoding_of files a b) → HasNoOthers entries f
no_others entries files f named same log a b = none_left entries files f a b named same (log a b)

-- so it is of a store
pub no_others_in : (entries : List Entry) (image : DatabaseImage) (dropped : Bool) (f : Folder) → Kept image (files_in entries f) dropped f → HasNoOthers entries f
no_others_in entries image dropped f kept = no_others entries (files_in entries f) f (named_in entries f) (sym (length-files_in entries f)) kept.log
