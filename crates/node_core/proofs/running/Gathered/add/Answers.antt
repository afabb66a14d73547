use Rattle.std.proofs.Common.{◌∙◌, ◌++◌, ◌∷◌, [], ap}
use Rattle.std.proofs.lemmas.List.Elements.{All-push, All-same}
use Rattle.ltx_codec.specs.Format.{IsFile}
use Rattle.ltx_codec.specs.declared.file.Ltx.{Ltx}
use Rattle.node_core.proofs.Gathered.{one_file}
use Rattle.node_core.proofs.running.Gathered.add.Goals as goal

pub returns-clause-added : goal.returns-clause-added
returns-clause-added c done file is = c.in-Ok-push.ensures.items ∙ ap (λ (f : Ltx). c.args.self.now.files.items ++ f ∷ []) (one_file c.args.bytes.now c.in-Ok.file file c.in-Ok.ensures.ok is)

pub returns-clause-valid : goal.returns-clause-valid
returns-clause-valid c done all =
    let old = c.args.self.now.files.items in
    All-same IsFile _ (old ++ c.in-Ok.file ∷ []) c.in-Ok-push.ensures.items (All-push IsFile old c.in-Ok.file all c.in-Ok.ensures.ok.valid)
