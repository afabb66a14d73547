use Rattle.std.proofs.Common.{◌≡◌, inl, inr, ◌+◌, List, ◌∷◌, [], drop, get_or, refl, sym, subst, arith}
use Rattle.std.proofs.lemmas.List.{drop_more, drop_all}
use Rattle.std.proofs.lemmas.Bool.{false≢true}
use Rattle.std.proofs.lemmas.Bool.Decides.{nat_tests}
use Rattle.ltx_backup.specs.Applying.{Ends}
use Rattle.ltx_backup.specs.declared.entry.Entry.{Entry}
use Rattle.ltx_backup.proofs.Lists.{no_entry}
use Rattle.ltx_backup.proofs.restoring.ends.Goals as goal

pub loop-entry-preserved : goal.loop-entry-preserved
loop-entry-preserved c =
    let es = c.args.entries.now in
    let i = c.loop-entry.entry-index in
    let split : drop i es ≡ get_or es i no_entry ∷ drop (i + 1) es = drop_more es i no_entry c.loop-entry-test.true in (
      λ ends. elim (subst (λ (l : List Entry). Ends l c.args.txid) split (c.loop-entry.invariant.0 ends)) [
        | inl here ↦ absurd (let at : (get_or es i no_entry).max ≡ c.args.txid = here in grind (arith, nat_tests))
        | inr later ↦ later
      ],
      λ later. c.loop-entry.invariant.1 (subst (λ (l : List Entry). Ends l c.args.txid) (sym split) (inr later)),
    )

pub returns-then-entry-txid : goal.returns-then-entry-txid
returns-then-entry-txid c =
    let es = c.args.entries.now in
    let i = c.loop-entry.entry-index in
    let split : drop i es ≡ get_or es i no_entry ∷ drop (i + 1) es = drop_more es i no_entry c.loop-entry-test.true in
    let here : (get_or es i no_entry).max ≡ c.args.txid = grind (arith, nat_tests) in
    (λ yes. c.loop-entry.invariant.1 (subst (λ (l : List Entry). Ends l c.args.txid) (sym split) (inl here)), λ ends. refl)

pub returns : goal.returns
returns c =
    let es = c.args.entries.now in
    let i = c.loop-entry.entry-index in
    let none : drop i es ≡ [] = drop_all i es c.loop-entry-test.false in
    (λ no. absurd (false≢true no), λ ends. absurd (let nothing : Ends [] c.args.txid = subst (λ (l : List Entry). Ends l c.args.txid) none (c.loop-entry.invariant.0 ends) in nothing))
