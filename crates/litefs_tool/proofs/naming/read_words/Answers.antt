use Rattle.std.proofs.Common.{◌∙◌, sym}
use Rattle.clap.specs.Words.{app_of, kind_of}
use Rattle.clap.proofs.WalkLemmas.{list_any-map}
use Rattle.litefs_tool.proofs.CommandLineLemmas.{dashed, refused, taken}
use Rattle.litefs_tool.proofs.naming.read_words.Goals as goal

pub returns-then-contains : goal.returns-then-contains
returns-then-contains c = dashed _ (sym (list_any-map _ (λ word. word.now) c.args.words.now) ∙ sym c.contains.ensures.value ∙ c.if-contains.true)

pub returns-in-Ok : goal.returns-in-Ok
returns-in-Ok c = taken (app_of c.in_ok-program.program) c.in_ok-program.ensures _
    (sym (list_any-map _ (λ word. word.now) c.args.words.now) ∙ sym c.contains.ensures.value ∙ c.if-contains.false)
    _ c.in-Ok.ensures.kinds c.in-Ok.ensures.matches _ c.name_matched.ensures

pub returns-in-Err : goal.returns-in-Err
returns-in-Err c = refused (app_of c.in_ok-program.program) c.in_ok-program.ensures _ (kind_of c.in-Err.error) c.in-Err.ensures.passes _ c.refuse.ensures
