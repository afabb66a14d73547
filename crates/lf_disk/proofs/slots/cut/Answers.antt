use Rattle.lf_disk.proofs.slots.cut.Goals as goal

pub put-requires : goal.put-requires
put-requires c = c.take-file.ensures.names.standing _ c.in_ok-add.ensures.stands
