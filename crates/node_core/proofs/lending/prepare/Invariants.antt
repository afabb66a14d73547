use Rattle.node_core.specs.Stores.{fields_of, history_of}
use Rattle.node_core.proofs.lending.prepare.Given as goal

-- the store as it was
abbrev pub ghosts-prepare_lent : goal.ghosts-prepare_lent
ghosts-prepare_lent g a = record { name = a.store.ghost_name; history = history_of a.store.now; fields = fields_of a.store.now }
