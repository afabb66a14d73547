use Rattle.std.proofs.Common.{◌≡◌, ◌∙◌, refl, sym, ap, arith}
use Rattle.lf_disk.specs.Folder.{bytes_of}
use Rattle.lf_disk.specs.History.{now}
use Rattle.lf_disk.specs.declared.name.FileName.TheVariants.{Database}
use Rattle.node_recovery.specs.declared.outline.Outline.{Outline}
use Rattle.node_recovery.specs.Summing.{KnowsPages}
use Rattle.node_recovery.proofs.Agreements.{total_is, is_summed}
use Rattle.node_recovery.proofs.agreeing.judge_sum.Goals as goal

pub returns-then-got-outline-clause-judges : goal.returns-then-got-outline-clause-judges
returns-then-got-outline-clause-judges g c honest file valid same tallied =
    let bytes = bytes_of (now (g.D.Disk.history c.args.disk.now) Database) in
    let size : file.change.page_size ≡ c.args.outline.now.header.page_size = valid.block.page_size ∙ ap (λ (o : Outline). o.header.page_size) (sym same) in
    let knows : KnowsPages file.change bytes c.add_pages.new.tally = c.in_ok-add_pages.ensures.known honest file.change valid.block.pages size tallied in (
      refl,
      record {
        want_is = ap (λ (o : Outline). o.post) same;
        got_is = c.total-got.ensures ∙ total_is file.change bytes c.add_pages.new.tally.sums.sums valid.block.pages knows.sums;
        differ = λ e. c.if-got-outline.true (sym e);
      },
    )

pub returns-clause-judges : goal.returns-clause-judges
returns-clause-judges g c honest file valid same tallied =
    let bytes = bytes_of (now (g.D.Disk.history c.args.disk.now) Database) in
    let size : file.change.page_size ≡ c.args.outline.now.header.page_size = valid.block.page_size ∙ ap (λ (o : Outline). o.header.page_size) (sym same) in
    let knows : KnowsPages file.change bytes c.add_pages.new.tally = c.in_ok-add_pages.ensures.known honest file.change valid.block.pages size tallied in
    let said : c.total-got.result ≡ file.post = omega (arith, c.if-got-outline.false, ap (λ (o : Outline). o.post) same) in
    is_summed file bytes c.add_pages.new.tally valid.block.pages knows (sym c.total-got.ensures ∙ said)
