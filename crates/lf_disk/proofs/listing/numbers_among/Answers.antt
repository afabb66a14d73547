use Rattle.std.proofs.Common.{◌≡◌, inl, inr, ◌+◌, List, [], ◌∷◌, ◌++◌, drop, get_or, sym, ◌∙◌, ap, subst}
use Rattle.std.specs.List.{IsDistinct}
use Rattle.std.proofs.lemmas.List.{drop_more, drop_all}
use Rattle.lf_disk.specs.declared.name.FileName.{FileName}
use Rattle.lf_disk.specs.declared.name.FileName.TheVariants.{Database}
use Rattle.lf_disk.specs.Folder.{same_name}
use Rattle.lf_disk.specs.declared.listing.Numbers.{Numbers}
use Rattle.lf_disk.specs.Listing.{Has, Names}
use Rattle.lf_disk.proofs.Listings.{Among, pushed, passed}
use Rattle.lf_disk.proofs.NamedOnce.{names_of, once_named}
use Rattle.lf_disk.proofs.listing.numbers_among.Goals as goal
use Rattle.lf_disk.proofs.listing.numbers_among.Goals.{in-Ltx+in_ok-push, in_default}

pub loop-name-init : goal.loop-name-init
loop-name-init c = record {
  sound = λ a b has. absurd (let h : Has [] a b = subst (λ (es : List Numbers). Has es a b) c.new-found.ensures.items has in h);
  rest = λ a b named. named;
  whole = λ a b all. inr all;
  narrow = λ a b has. absurd (let h : Has [] a b = subst (λ (es : List Numbers). Has es a b) c.new-found.ensures.items has in h);
  once = λ distinct. subst (λ (es : List Numbers). IsDistinct same_name (names_of es ++ c.args.names.now)) (sym c.new-found.ensures.items) distinct;
}

pub loop-name-preserved : goal.loop-name-preserved
loop-name-preserved c =
    let names = c.args.names.now in
    let i = c.loop-name.name-index in
    let left = drop (c.loop-name.name-index + 1) c.args.names.now in
    let es = c.loop-name.found.items in
    let split : drop i names ≡ get_or names i Database ∷ drop (i + 1) names = drop_more names i Database c.loop-name-test.true in
    let so_far : Among names (get_or names i Database ∷ left) es = subst (λ (l : List FileName). Among names l es) split c.loop-name.invariant in
    elim c.match-name.branch [
      | in-Ltx+in_ok-push w ↦
          subst (λ (x : List Numbers). Among names left x) (sym (ap (λ v. v.items) w.found-is ∙ w.in_ok-push.ensures.items))
          (pushed names left es (get_or names i Database) _ (rw w.new.ensures.value w.in-Ltx.is) (rw w.new.ensures.value w.new.ensures.narrow) so_far)
      | in_default w ↦
          subst (λ (x : List Numbers). Among names left x) (sym (ap (λ v. v.items) w.found-is))
          (passed names left es (get_or names i Database) w.in_default.not-Ltx so_far)
    ]

pub returns-clause-has : goal.returns-clause-has
returns-clause-has c a b = (
  c.loop-name.invariant.sound a b,
  λ named. elim (c.loop-name.invariant.whole a b named) [
    | inl has ↦ has
    | inr left ↦
        let none : drop c.loop-name.name-index c.args.names.now ≡ [] = drop_all c.loop-name.name-index c.args.names.now c.loop-name-test.false in
        absurd (let h : Names [] a b = subst (λ (l : List FileName). Names l a b) none left in h)
  ],
)

pub returns-clause-once : goal.returns-clause-once
returns-clause-once c distinct =
    let none : drop c.loop-name.name-index c.args.names.now ≡ [] = drop_all c.loop-name.name-index c.args.names.now c.loop-name-test.false in
    once_named c.loop-name.found.items
    (subst (λ (l : List FileName). IsDistinct same_name (names_of c.loop-name.found.items ++ l)) none (c.loop-name.invariant.once distinct))

pub returns-clause-narrow : goal.returns-clause-narrow
returns-clause-narrow c = c.loop-name.invariant.narrow
