-- Compactions one after another, and which are due.
use Rattle.std.proofs.Common.{◌≡◌, ◌∙◌, ℕ, zero, suc, ◌+◌, ◌≤◌, List, [], ◌∷◌, length, take, refl, sym, ap, subst, arith}
use Rattle.lf_disk.specs.Folder.{Folder}
use Rattle.ltx_codec.specs.Positions.{nowhere}
use Rattle.ltx_codec.specs.declared.file.Ltx.{Ltx}
use Rattle.ltx_backup.specs.Entries.{entries_of}
use Rattle.ltx_backup.specs.Folding.{HaveSize, IsDue, Folds, Settling}
use Rattle.ltx_backup.specs.Levels.{Levels, chain, LeadOn}
use Rattle.ltx_backup.specs.Moving.{AreAlike, AreDue}
use Rattle.ltx_backup.specs.Ordered.{AllOrdered}
use Rattle.ltx_backup.specs.Settling.{Settles, HoldsSettled}
use Rattle.ltx_backup.specs.declared.entry.Entry.{Entry}
use Rattle.ltx_backup.proofs.Eights.{entries_take}
use Rattle.ltx_backup.proofs.Images.{by_one, ended_before}
use Rattle.ltx_backup.proofs.Nths.{as_many}

pub settles_none : (levels : Levels) → Settles 0 levels levels
settles_none levels = record { by = refl; ends = λ txid sum ends. ends; images = λ txid sum ends. refl }

pub settles_one : (old new : Levels) → LeadOn nowhere (chain old) → AllOrdered (chain old) → Folds old new → Settles 1 old new
settles_one old new lead order folds = record {
  by = (old, refl, folds);
  ends = λ txid sum ends. ended_before old new txid sum folds ends;
  images = λ txid sum ends. by_one old new lead order txid sum ends folds;
}

settling_join : (a b : ℕ) (x y z : Levels) → Settling a x y → Settling b y z → Settling (b + a) x z
settling_join a zero x y z first second =
    let same : a ≡ 0 + a = omega arith in
    subst (λ (n : ℕ). Settling n x z) same (subst (λ (k : Levels). Settling a x k) second first)
settling_join a (suc b) x y z first second =
    let more : suc (b + a) ≡ suc b + a = omega arith in
    subst (λ (n : ℕ). Settling n x z) more (second.0, settling_join a b x y second.0 first second.1, second.2)

pub settles_join : (a b : ℕ) (x y z : Levels) → Settles a x y → Settles b y z → Settles (b + a) x z
settles_join a b x y z first second = record {
  by = settling_join a b x y z first.by second.by;
  ends = λ txid sum ends. first.ends txid sum (second.ends txid sum ends);
  images = λ txid sum ends. second.images txid sum ends ∙ first.images txid sum (second.ends txid sum ends);
}

pub settled_later : (count : ℕ) (old mid : Levels) (a b c : Folder) → Settles count old mid → HoldsSettled mid a b c → HoldsSettled old a b c
settled_later count old mid a b c first held = record {
  count = held.count + count;
  levels = held.levels;
  settles = settles_join count held.count old mid held.levels first held.settles;
  holds = held.holds;
}

have_size : (size : ℕ) (files : List Ltx) → AreAlike size (entries_of files) → HaveSize size files
have_size size [] alike = tt
have_size size (x ∷ xs) alike = (alike.0, have_size size xs alike.1)

are_alike : (size : ℕ) (files : List Ltx) → HaveSize size files → AreAlike size (entries_of files)
are_alike size [] have = tt
are_alike size (x ∷ xs) have = (have.0, are_alike size xs have.1)

module _ (entries : List Entry) (files : List Ltx) (are : entries ≡ entries_of files) where
  front : take 8 entries ≡ entries_of (take 8 files)
  front = ap (λ (es : List Entry). take 8 es) are ∙ entries_take 8 files

  many : length entries ≡ length files
  many = ap length are ∙ as_many files

  pub is_due : AreDue entries → IsDue files
  is_due due = record {
    eight = subst (λ (n : ℕ). 8 ≤ n) many due.eight;
    size = due.size;
    alike = have_size due.size (take 8 files) (subst (λ (es : List Entry). AreAlike due.size es) front due.alike);
  }

  pub are_due : IsDue files → AreDue entries
  are_due due = record {
    eight = subst (λ (n : ℕ). 8 ≤ n) (sym many) due.eight;
    size = due.size;
    alike = subst (λ (es : List Entry). AreAlike due.size es) (sym front) (are_alike due.size (take 8 files) due.alike);
  }
