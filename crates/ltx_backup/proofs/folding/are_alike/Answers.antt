use Rattle.std.proofs.Common.{◌≡◌, ◌+◌, List, ◌∷◌, [], drop, get_or, refl, sym, subst, arith}
use Rattle.std.proofs.lemmas.List.{drop_more, drop_all}
use Rattle.std.proofs.lemmas.Bool.{false≢true}
use Rattle.std.proofs.lemmas.Bool.Decides.{nat_tests}
use Rattle.ltx_backup.specs.Moving.{AreAlike}
use Rattle.ltx_backup.specs.declared.entry.Entry.{Entry}
use Rattle.ltx_backup.proofs.Lists.{no_entry}
use Rattle.ltx_backup.proofs.folding.are_alike.Goals as goal

pub loop-entry-preserved : goal.loop-entry-preserved
loop-entry-preserved c =
    let es = c.args.entries.now in
    let i = c.loop-entry.entry-index in
    let split : drop i es ≡ get_or es i no_entry ∷ drop (i + 1) es = drop_more es i no_entry c.loop-entry-test.true in
    let same : (get_or es i no_entry).page_size ≡ c.args.size = grind (arith, nat_tests) in (
      λ all. (subst (λ (l : List Entry). AreAlike c.args.size l) split (c.loop-entry.invariant.0 all)).1,
      λ rest. c.loop-entry.invariant.1 (subst (λ (l : List Entry). AreAlike c.args.size l) (sym split) (same, rest)),
    )

pub returns-then-entry-size : goal.returns-then-entry-size
returns-then-entry-size c =
    let es = c.args.entries.now in
    let i = c.loop-entry.entry-index in
    let split : drop i es ≡ get_or es i no_entry ∷ drop (i + 1) es = drop_more es i no_entry c.loop-entry-test.true in (
      λ no. absurd (false≢true no),
      λ all.
          let same : (get_or es i no_entry).page_size ≡ c.args.size = (subst (λ (l : List Entry). AreAlike c.args.size l) split (c.loop-entry.invariant.0 all)).0 in
          absurd (grind (arith, nat_tests)),
    )

pub returns : goal.returns
returns c =
    let es = c.args.entries.now in
    let i = c.loop-entry.entry-index in
    let none : drop i es ≡ [] = drop_all i es c.loop-entry-test.false in
    (λ yes. c.loop-entry.invariant.1 (subst (λ (l : List Entry). AreAlike c.args.size l) (sym none) tt), λ all. refl)
