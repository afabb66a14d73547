use Rattle.std.proofs.Common.{ap, subst, sym}
use Rattle.node_objects.specs.Keeping.{told_by}
use Rattle.node_objects.specs.Making.{TakesBack, gave}
use Rattle.node_objects.specs.MemMaker.{Making}
use Rattle.node_objects.specs.declared.asked.Wanted.TheVariants as wants
use Rattle.node_objects.proofs.mem_maker.MemMakerMaker.http.Goals as goal

pub returns-clause-asked : goal.returns-clause-asked
returns-clause-asked c =
    let what = wants.Http c.args.address.now in
    let before = ap (λ (m : Making). told_by m.asked) c.begin.ensures.called in
    let after = sym (ap (λ (m : Making). told_by m.asked) c.self-2.view_is) in
    subst (λ told. TakesBack (gave what) told (told_by c.self-2.inside.asked)) before
    (subst (λ told. TakesBack (gave what) (told_by c.begin.new.self.asked) told) after (c.note-2.ensures.asked what c.http-wanted.ensures))
