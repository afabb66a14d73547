-- Zeros that are kept over an image.
use Rattle.std.proofs.Common.{◌≡◌, ◌≢◌, ℕ, ◌+◌, ◌<◌, ◌≤◌, length, List, replicate, Bool, true, false, inl, inr, Option, Some, None, refl, sym, ap, ◌∙◌, subst, arith}
use Rattle.std.specs.Prelude.{IfSome, cond, max, nat_le, if◌then◌else◌}
use Rattle.std.proofs.lemmas.Bool.{cases_lt}
use Rattle.std.specs.Cmp.{nat_cmp_total}
use Rattle.std.specs.FinMap as pages
use Rattle.std.specs.FinMap.{get-retain_keys, nat_cmp-IsAntisymmetric, same_map}
use Rattle.std.proofs.lemmas.Bool.Decides.{nat_tests}
use Rattle.lf_sqlite_pages.specs.LockPage.{lock_page_of, IsDataPage}
use Rattle.lf_sqlite_pages.specs.Image.{DatabaseImage, IsImage, page_at}
use Rattle.database_file.specs.WritingParts.{Pages, KeepsZero, KeepsZeros, MayKeepZeros, TellsSame}
use Rattle.database_file.proofs.PutLemmas.{get-removed, get-removed_other, get-inserted, get-inserted_other}

-- within an image the lock page is zeros
pub lock_page_same : (told : Option DatabaseImage) (commit n : ℕ) (blank : List ℕ) → IfSome told (λ i. length blank ≡ i.page_size) →
    IfSome told (λ i. commit ≡ length i.pages) → IfSome told IsImage → n ≡ lock_page_of (length blank) → n ≤ commit → blank ≡ replicate (length blank) 0 →
    TellsSame told n blank true
lock_page_same None commit n blank size count valid is within zeros = tt
lock_page_same (Some i) commit n blank size count valid is within zeros =
    let here : lock_page_of i.page_size ≡ n = sym (is ∙ ap lock_page_of size) in
    let reaches : lock_page_of i.page_size ≤ length i.pages = rw (here, ← count) within in
    let same : replicate i.page_size 0 ≡ blank = sym (zeros ∙ ap (λ k. replicate k 0) size) in
    (λ _. sym (ap (page_at i) here) ∙ valid.blank reaches ∙ ap Some same, λ no. absurd (cc))

-- what a cut map has
pub get_cut : (m : Pages) (count n : ℕ) → pages.get (pages.retain_keys m (λ k. nat_le k count)) n ≡ cond (nat_le n count) (pages.get m n) None
get_cut m count n =
    let p : ℕ → Bool = λ k. nat_le k count in
    get-retain_keys m p n (λ x tied. ap p (sym (nat_cmp-IsAntisymmetric n x tied)))

-- after zeros were put or dropped at a number
pub blank_others : (m new : Pages) (n k : ℕ) (page : List ℕ) (b : Bool) → new ≡ (if b then pages.remove m n else pages.insert m n page) → k ≢ n →
    pages.get new k ≡ pages.get m k
blank_others m new n k page true e ne = rw e (get-removed_other m n k ne)
blank_others m new n k page false e ne = rw e (get-inserted_other m n k page ne)

pub blank_is : (m new : Pages) (n : ℕ) (page found : List ℕ) (b : Bool) → new ≡ (if b then pages.remove m n else pages.insert m n page) →
    pages.get new n ≡ Some found → (found ≡ page) × (b ≡ false)
blank_is m new n page found true e is = let none = ap (λ (p : Pages). pages.get p n) e in let gone = get-removed m n in absurd (cc (none, gone, is))
blank_is m new n page found false e is =
    let some = ap (λ (p : Pages). pages.get p n) e in
    let there = get-inserted m n page in
    (cc (some, there, is), refl)

keeps_zero : (m new : Pages) (n size : ℕ) (page : List ℕ) (b : Bool) (image : DatabaseImage) → new ≡ (if b then pages.remove m n else pages.insert m n page) →
    page ≡ replicate size 0 → (b ≡ true → page_at image n ≡ Some page) → (b ≡ false → page_at image n ≢ Some page) → KeepsZero new n size image
keeps_zero m new n size page true image e zeros same other = record {
  read = rw (e, get-removed m n, same refl) zeros;
  differ = λ found is. absurd (let no : true ≡ false = (blank_is m new n page found true e is).1 in cc);
}
keeps_zero m new n size page false image e zeros same other = record {
  read = rw (e, get-inserted m n page) zeros;
  differ = λ found is. rw ((blank_is m new n page found false e is).0) (other refl);
}

pub blank_told : (told : Option DatabaseImage) (m new : Pages) (n size : ℕ) (page : List ℕ) (b : Bool) →
    new ≡ (if b then pages.remove m n else pages.insert m n page) → page ≡ replicate size 0 → TellsSame told n page b →
    IfSome told (KeepsZero new n size)
blank_told None m new n size page b e zeros same = tt
blank_told (Some i) m new n size page b e zeros same = keeps_zero m new n size page b i e zeros same.0 same.1

-- zeros for no page
pub zeros_none : (m new : Pages) (from to size : ℕ) → to ≤ from → new ≡ m → MayKeepZeros m from to size new
zeros_none m new from to size h e = record {
  before = λ n _. ap (λ (p : Pages). pages.get p n) e;
  zeros = λ n page a b is. absurd (omega (arith, h, a, b));
  behind = λ n _ _. ap (λ (p : Pages). pages.get p n) e;
}

-- zeros for one page more
pub zeros_more : (old m new : Pages) (from at size : ℕ) → from ≤ at → MayKeepZeros old from at size m →
    ((k : ℕ) → k ≢ at + 1 → pages.get new k ≡ pages.get m k) →
    ((page : List ℕ) → pages.get new (at + 1) ≡ Some page → (page ≡ replicate size 0) × IsDataPage size (at + 1)) →
    MayKeepZeros old from (at + 1) size new
zeros_more old m new from at size order zeros others here = record {
  before = λ n h. others n (λ e. omega (arith, h, e, order)) ∙ zeros.before n h;
  zeros = λ n page a b is. elim (cases_lt at n) [
    | inl last ↦
        let e : n ≡ at + 1 = omega (arith, last, b) in
        rw e (here page (sym (ap (pages.get new) e) ∙ is))
    | inr earlier ↦ zeros.zeros n page a earlier (sym (others n (λ e. omega (arith, earlier, e))) ∙ is)
  ];
  behind = λ n a b. others n (λ e. omega (arith, b, e)) ∙ zeros.behind n a (omega (arith, b));
}

same_zero : (m new : Pages) (n size : ℕ) (image : DatabaseImage) → pages.get new n ≡ pages.get m n → KeepsZero m n size image → KeepsZero new n size image
same_zero m new n size image same zero = record {
  read = rw same zero.read;
  differ = λ page is. zero.differ page (sym same ∙ is);
}

keeps_one_more : (m new : Pages) (from at size : ℕ) (image : DatabaseImage) → ((k : ℕ) → k ≢ at + 1 → pages.get new k ≡ pages.get m k) →
    KeepsZeros m from at size image → KeepsZero new (at + 1) size image → KeepsZeros new from (at + 1) size image
keeps_one_more m new from at size image others before here = λ n a b. elim (cases_lt at n) [
  | inl last ↦
      let e : n ≡ at + 1 = omega (arith, last, b) in
      let P : ℕ → Type 0 = λ k. KeepsZero new k size image in
      subst P (sym e) here
  | inr earlier ↦ same_zero m new n size image (others n (λ e. omega (arith, earlier, e))) (before n a earlier)
]

pub keeps_more : (told later : Option DatabaseImage) (m new : Pages) (from at size : ℕ) → later ≡ told → ((k : ℕ) → k ≢ at + 1 → pages.get new k ≡ pages.get m k) →
    IfSome told (KeepsZeros m from at size) → IfSome later (KeepsZero new (at + 1) size) → IfSome told (KeepsZeros new from (at + 1) size)
keeps_more None later m new from at size same others before here = tt
keeps_more (Some i) later m new from at size same others before here =
    keeps_one_more m new from at size i others before (subst (λ (o : Option DatabaseImage). IfSome o (KeepsZero new (at + 1) size)) same here)

no_zeros : (m : Pages) (from size : ℕ) (image : DatabaseImage) → KeepsZeros m from from size image
no_zeros m from size image = λ n a b. absurd (omega (arith, a, b))

pub keeps_none : (told : Option DatabaseImage) (m : Pages) (from size : ℕ) → IfSome told (KeepsZeros m from from size)
keeps_none None m from size = tt
keeps_none (Some i) m from size = no_zeros m from size i

fewer_zeros : (m : Pages) (from at to size : ℕ) (image : DatabaseImage) → to ≤ at → KeepsZeros m from at size image → KeepsZeros m from to size image
fewer_zeros m from at to size image reached zeros = λ n a b. zeros n a (omega (arith, b, reached))

pub keeps_end : (told : Option DatabaseImage) (m : Pages) (from at to size : ℕ) → to ≤ at → IfSome told (KeepsZeros m from at size) →
    IfSome told (KeepsZeros m from to size)
keeps_end None m from at to size reached zeros = tt
keeps_end (Some i) m from at to size reached zeros = fewer_zeros m from at to size i reached zeros

pub zeros_end : (old m : Pages) (from at to size : ℕ) → to ≤ at → at ≤ max from to → MayKeepZeros old from at size m → MayKeepZeros old from to size m
zeros_end old m from at to size reached end zeros = record {
  before = zeros.before;
  zeros = λ n page a b is. zeros.zeros n page a (omega (arith, b, reached)) is;
  behind = λ n a b. zeros.behind n a (omega (arith, a, b, end));
}

-- a cut takes back what was kept past a number
pub cut_back : (old m : Pages) (from : ℕ) → ((n : ℕ) → n ≤ from → pages.get m n ≡ pages.get old n) →
    ((n : ℕ) (page : List ℕ) → pages.get old n ≡ Some page → n ≤ from) → pages.retain_keys m (λ n. nat_le n from) ≡ old
cut_back old m from before none =
    same_map nat_cmp_total nat_cmp-IsAntisymmetric (pages.retain_keys m (λ n. nat_le n from)) old (λ q. get_cut m from q ∙ back q) where
      missing : (q : ℕ) (o : Option (List ℕ)) → pages.get old q ≡ o → from < q → pages.get old q ≡ None
      missing q None e past = e
      missing q (Some page) e past = absurd (omega (arith, past, none q page e))

      back : (q : ℕ) → cond (nat_le q from) (pages.get m q) None ≡ pages.get old q
      back q = elim (cases_lt from q) [
        | inl past ↦
            let test : nat_le q from ≡ false = grind (arith, nat_tests) in
            rw test (sym (missing q (pages.get old q) refl past))
        | inr within ↦
            let test : nat_le q from ≡ true = grind (arith, nat_tests) in
            rw test (before q within)
      ]
