-- A number is among them or isn't.
use Rattle.std.proofs.Common.{◌≡◌, ◌∙◌, sym, true, false, None}
use Rattle.std.specs.Prelude.{◌==◌}
use Rattle.std.specs.List.{list_any}
use Rattle.std.specs.FinMap as pages
use Rattle.std.proofs.lemmas.Bool.{cond-true, cond-false}
use Rattle.database_file.proofs.PassLemmas.{get-passed}
use Rattle.database_file.proofs.database_file.DatabaseFile.kept_without.Goals as goal

pub returns : goal.returns
returns c =
    let off : list_any (λ number. number == c.args.n) c.args.passed.now ≡ false = sym c.contains.ensures.value ∙ c.if-contains.false in
    c.kept.ensures ∙ sym (get-passed c.args.self.now.kept c.args.passed.now c.args.n ∙ cond-false _ None (pages.get c.args.self.now.kept c.args.n) off)

pub returns-then-contains : goal.returns-then-contains
returns-then-contains c =
    let on : list_any (λ number. number == c.args.n) c.args.passed.now ≡ true = sym c.contains.ensures.value ∙ c.if-contains.true in
    sym (get-passed c.args.self.now.kept c.args.passed.now c.args.n ∙ cond-true _ None (pages.get c.args.self.now.kept c.args.n) on)
