-- Texts of pages, one after another.
use Rattle.std.proofs.Common.{◌≡◌, ℕ, ◌+◌, ◌-◌, ◌*◌, ◌≤◌, map, List, ◌++◌, Option, Some, None, arith, subst}
use Rattle.std.specs.Prelude.{IfSome}
use Rattle.std.specs.List.{concat, range_with_len}
use Rattle.std.proofs.lemmas.Grind.{common_steps}
use Rattle.std.proofs.lemmas.List.Folds.{concat-append}
use Rattle.std.proofs.lemmas.List.FromFn.{map-range_with_len_more}
use Rattle.lf_sqlite_pages.specs.Image.{DatabaseImage}
use Rattle.lf_sqlite_pages.specs.declared.page_store.PageStore.{Ghosts}
use Rattle.database_file.specs.Fault.{SameBase}

-- the text of one more page
pub concat-more : (f : ℕ → List ℕ) (a n j : ℕ) → a + n ≡ j →
    concat (map f (range_with_len a (n + 1))) ≡ concat (map f (range_with_len a n)) ++ f j
concat-more f a n j e = rw (map-range_with_len_more f a n j e, concat-append) (grind (arith, common_steps))

-- the same where an image is told
pub told_more : (told : Option DatabaseImage) (f : DatabaseImage → ℕ → List ℕ) (a n j : ℕ) (old new : List ℕ) → a + n ≡ j →
    IfSome told (λ i. old ≡ concat (map (f i) (range_with_len a n))) →
    IfSome told (λ i. new ≡ old ++ f i j) →
    IfSome told (λ i. new ≡ concat (map (f i) (range_with_len a (n + 1))))
told_more None f a n j old new e before step = tt
told_more (Some i) f a n j old new e before step = rw (concat-more (f i) a n j e, ← before) step

-- the same, as a loop over the numbers goes on
pub told_on : (told later : Option DatabaseImage) (f : DatabaseImage → ℕ → List ℕ) (a n : ℕ) (old new : List ℕ) → a ≤ n → later ≡ told →
    IfSome told (λ i. old ≡ concat (map (f i) (range_with_len (a + 1) (n - a)))) →
    IfSome later (λ i. new ≡ old ++ f i (n + 1)) →
    IfSome told (λ i. new ≡ concat (map (f i) (range_with_len (a + 1) (n + 1 - a))))
told_on told later f a n old new order same before step =
    let one : n - a + 1 ≡ n + 1 - a = omega arith in
    let sum : a + 1 + (n - a) ≡ n + 1 = omega arith in
    let now : IfSome told (λ i. new ≡ old ++ f i (n + 1)) = subst (λ (o : Option DatabaseImage). IfSome o (λ i. new ≡ old ++ f i (n + 1))) same step in
    rw (← one) (told_more told f (a + 1) (n - a) (n + 1) old new sum before now)

-- the base stays over two calls
pub SameBase-trans : {S : Type 0} {s : Ghosts S} {a b c : S} → SameBase s a b → SameBase s b c → SameBase s a c
SameBase-trans one two = record { image = cc; page_size = cc; commit = cc; wal_mode = cc; is_broken = cc }

-- the bytes of one page more

pub times_more : (n a s x y : ℕ) → a ≤ n → x ≡ (n - a) * s → y ≡ x + s → y ≡ (n + 1 - a) * s
times_more n a s x y order is more =
    let k : n + 1 - a ≡ (n - a) + 1 = omega arith in
    rw (k, more, is) (grind (arith, common_steps))
