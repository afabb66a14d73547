use Rattle.std.proofs.Common.{None, sym, ◌∙◌}
use Rattle.lf_disk.proofs.SlotLemmas.{was, folder-absent, absent}
use Rattle.lf_disk.proofs.slots.find.Goals as goal

pub returns-in-Some : goal.returns-in-Some
returns-in-Some c =
    c.bytes_in.ensures ∙ was c.args.name c.args.slots.now c.in-Some.place c.index-slots-place.result None (sym c.place.ensures ∙ c.in-Some.is) c.index-slots-place.is

pub returns-in-None : goal.returns-in-None
returns-in-None c = sym (folder-absent c.args.name c.args.slots.now (absent c.args.name c.args.slots.now (sym c.place.ensures ∙ c.in-None.is)))
