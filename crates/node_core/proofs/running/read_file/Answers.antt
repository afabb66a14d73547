use Rattle.std.proofs.Common.{ap}
use Rattle.node_core.specs.Stores.{fields_of}
use Rattle.node_core.proofs.Looked.{same-but-faults}
use Rattle.node_core.proofs.Refusing.{gives-reads, reads-later}
use Rattle.node_core.proofs.running.read_file.Goals as goal

pub returns-clause-looked : goal.returns-clause-looked
returns-clause-looked g c =
    let s = c.args.store.now in
    let t = c.file.new.self in
    let f = c.file.ensures.fields in
    record {
      same = same-but-faults (fields_of s) (fields_of t) c.file.ensures.honest f.2 f.3 f.0 (ap (λ x. x.sums) f.1) f.4 f.5 f.6 f.7 f.8 f.9 f.10;
      faults = reads-later s.broken (fields_of s).faults (fields_of t).faults c.file.result (gives-reads s.broken (fields_of s).faults (fields_of t).faults c.file.result c.file.ensures.cause);
      state = λ honest. (c.file.ensures.store honest).0;
      failed = λ honest. (c.file.ensures.store honest).1;
    }
