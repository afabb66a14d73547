-- Transaction files are removed, one after another.
use Rattle.std.proofs.Common.{◌≡◌, inl, inr, ℕ, ◌+◌, ◌<◌, Bool, false, cond, Option, None, Result, List, [], ◌∷◌, length, take, get_or, refl, sym, ◌∙◌, ap, arith}
use Rattle.std.proofs.lemmas.Bool.{cases_Bool}
use Rattle.std.proofs.lemmas.List.Sums.{fold_more}
use Rattle.lf_disk.specs.declared.name.FileName.{FileName}
use Rattle.lf_disk.specs.declared.name.FileName.TheVariants.{Staged, Ltx}
use Rattle.lf_disk.specs.Folder.{Folder, Same, SameBut, same_name, with_file}
use Rattle.lf_disk.specs.Names.{same_name-one}
use Rattle.lf_disk.specs.Change.{Step, Perhaps, SetsFile}
use Rattle.lf_disk.specs.History.{History, now, may_leave, Ticks, Moves, EachMoment, IsSettledBut}
use Rattle.lf_disk.proofs.Moments.{started, goes_on}
use Rattle.txn_log.specs.declared.entry.Entry.{Entry}
use Rattle.txn_log.specs.Settling.{without, HasNoOthers, IsThinned, IsCleared}

-- a file became absent
sets_same : (name : FileName) (f g : Folder) → SetsFile name None f g → Same (with_file name None f) g
sets_same name f g sets n = elim (cases_Bool (same_name n name)) [
  | inl is ↦ ap g (same_name-one n name is) ∙ sets.here ∙ sym (ap (λ (b : Bool). cond b None (f n)) is)
  | inr isnt ↦ sets.elsewhere n isnt ∙ sym (ap (λ (b : Bool). cond b None (f n)) isnt)
]

with_same : (name : FileName) (f g : Folder) → SameBut Staged f g → SameBut Staged (with_file name None f) (with_file name None g)
with_same name f g same n other = ap (λ (o : Option (List ℕ)). cond (same_name n name) None o) (same n other)

pub without_more : (entries : List Entry) (i : ℕ) (e : Entry) (f : Folder) → i < length entries
    → without (take (i + 1) entries) f ≡ with_file (Ltx (get_or entries i e).min (get_or entries i e).max) None (without (take i entries) f)
without_more entries i e f within = fold_more (λ (g : Folder) (x : Entry). with_file (Ltx x.min x.max) None g) f entries i e within

-- the run so far: i files are gone
pub record Clearing (entries : List Entry) (i : ℕ) (h mid : History) : Type 0 where
  pub seen : Same (without (take i entries) (now h)) (now mid)
  pub settled : IsSettledBut Staged mid
  pub runs : EachMoment h mid (IsThinned entries (now h))

pub begins : (entries : List Entry) (h : History) → IsSettledBut Staged h → Clearing entries 0 h h
begins entries h settled = record {
  seen = λ n. refl;
  settled = settled;
  runs = started h (IsThinned entries (now h)) (λ c may. record { gone = 0; no_more = omega arith; rest = settled c may });
}

module _ {T E : Type 0} (result : Result T E) (entries : List Entry) (i : ℕ) (e : Entry) (h mid new : History) (more : i < length entries)
    (so_far : Clearing entries i h mid) (ticks : Ticks result mid new) where
  abbrev name : FileName
  name = Ltx (get_or entries i e).min (get_or entries i e).max

  so : (d : Folder) → may_leave mid d → SameBut Staged (without (take i entries) (now h)) d
  so d may n other = so_far.settled d may n other ∙ so_far.seen n

  gone : (d c : Folder) → may_leave mid d → SetsFile name None d c → SameBut Staged (without (take (i + 1) entries) (now h)) c
  gone d c may sets n other =
      sets_same name d c sets n ∙ with_same name (without (take i entries) (now h)) d (so d may) n other ∙ sym (λ j. without_more entries i e (now h) more j n)

  pub removed : Moves (SetsFile name None) (SetsFile name None) mid new → Clearing entries (i + 1) h new
  removed moves =
      let seen : Same (without (take (i + 1) entries) (now h)) (now new) =
      λ n. sets_same name (now mid) (now new) moves.seen n ∙ ap (λ (o : Option (List ℕ)). cond (same_name n name) None o) (so_far.seen n) ∙ sym (λ j. without_more entries i e (now h) more j n) in
      let left : (c : Folder) → may_leave new c → SameBut Staged (without (take (i + 1) entries) (now h)) c = λ c may. let from = moves.left c may in gone from.0 c from.1 from.2 in
      record {
        seen = seen;
        settled = λ c may n other. left c may n other ∙ sym (seen n);
        runs = goes_on result h mid new (IsThinned entries (now h)) so_far.runs ticks (λ c may. record { gone = i + 1; no_more = omega arith; rest = left c may });
      }

  pub not_removed : (sees : Step) → Moves sees (Perhaps (SetsFile name None)) mid new → EachMoment h new (IsThinned entries (now h))
  not_removed sees moves =
      goes_on result h mid new (IsThinned entries (now h)) so_far.runs ticks
      (λ c may.
      let from = moves.left c may in
      elim from.2 [
        | inl same ↦ record { gone = i; no_more = omega arith; rest = λ n other. same n ∙ so from.0 from.1 n other }
        | inr sets ↦ record { gone = i + 1; no_more = omega arith; rest = gone from.0 c from.1 sets }
      ])

-- every file but those of the log stays
pub without-other : (entries : List Entry) (f : Folder) (n : FileName) → ((a b : ℕ) → same_name n (Ltx a b) ≡ false) → without entries f n ≡ f n
without-other [] f n other = refl
without-other (e ∷ es) f n other =
    without-other es (with_file (Ltx e.min e.max) None f) n other ∙ ap (λ (b : Bool). cond b None (f n)) (other e.min e.max)

-- where no others are there, none is left
pub cleared_all : (entries : List Entry) (f : Folder) (h : History) → HasNoOthers entries f → IsCleared entries f h → (a b : ℕ) → now h (Ltx a b) ≡ None
cleared_all entries f h others cleared a b = cleared.seen (Ltx a b) ∙ others a b
