use Rattle.std.proofs.Common.{◌≡◌, ◌∙◌, ◌-◌, ◌*◌, ℕ, List, replicate, refl, ap}
use Rattle.lf_base.specs.FileBytes.{read_into}
use Rattle.lf_disk.specs.Folder.{bytes_of}
use Rattle.lf_disk.specs.History.{now}
use Rattle.lf_disk.specs.declared.name.FileName.TheVariants.{Database}
use Rattle.node_recovery.proofs.Summings.{read_padded}
use Rattle.node_recovery.proofs.summing.read_page.Goals as goal

pub returns-in-Ok-clause-page : goal.returns-in-Ok-clause-page
returns-in-Ok-clause-page g c honest =
    let bytes = bytes_of (now (g.D.Disk.history c.args.disk.now) Database) in
    let zeros : c.blank.new.page ≡ replicate c.args.size 0 = c.blank.ensures ∙ ap (λ (k : ℕ). replicate k 0) c.requires.room in
    let at : c.from.result * c.from-2.result ≡ (c.args.n - 1) * c.args.size = rw (c.from.ensures, c.from-2.ensures) refl in
    (c.in-Ok.ensures.read honest).front
    ∙ ap (λ (k : ℕ). read_into k bytes c.blank.new.page) at
    ∙ ap (λ (b : List ℕ). read_into ((c.args.n - 1) * c.args.size) bytes b) zeros
    ∙ read_padded c.args.size c.args.n bytes
