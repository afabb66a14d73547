use Rattle.std.proofs.Common.{◌∙◌, inr}
use Rattle.node_core.specs.Stores.{fields_of, history_of}
use Rattle.node_core.proofs.Gathered.{run-since}
use Rattle.node_core.proofs.Reading.{rests_join}
use Rattle.node_core.proofs.running.next_from.Goals as goal

pub returns-in-Some-clause-next : goal.returns-in-Some-clause-next
returns-in-Some-clause-next g c =
    let s = c.args.store.now in
    let t = c.read_file.new.store in
    let run = c.in-Some.run' in
    inr (run-since (history_of s) (history_of t) (fields_of s) (fields_of t) c.args.first run.ltx run.after c.read_file.ensures.looked c.in-Some.ensures.run)

pub returns-in-Some-clause-rests : goal.returns-in-Some-clause-rests
returns-in-Some-clause-rests g c honest =
    let t = c.read_file.new.store in
    rests_join (history_of c.args.store.now) (history_of t) (history_of c.run_from.new.store) (c.read_file.ensures.rests honest) (c.run_from.ensures.rests (c.read_file.ensures.honest ∙ honest))
