use Rattle.std.proofs.Common.{ap}
use Rattle.node_core.specs.Stores.{fields_of, history_of}
use Rattle.node_core.proofs.Reading.{counts_lent, faults_rise, read_on, refused_stay, same_fields}
use Rattle.node_core.proofs.lending.LentPageStore.page.Goals as goal

pub invariant_of-self : goal.invariant_of-self
invariant_of-self g c =
    let s = c.args.self.now.store.now in
    let t = c.read_page.new.self in
    let old = fields_of s in
    let new = fields_of t in
    let f = c.read_page.ensures.fields in
    record {
      named = c.args.self.now.named;
      read = read_on g.K.Before.history (history_of s) (history_of t) g.K.Before.fields old new c.args.self.now.read record {
        rests = ∣ c.read_page.ensures.rests ∣₁;
        same = same_fields old new c.read_page.ensures.honest f.2 f.3 f.0 (ap (λ sums. sums.sums) f.1) f.4 f.5 f.6 f.7 f.8 f.9;
        faults = faults_rise old new c.read_page.result c.read_page.ensures.cause;
        refused = refused_stay old new c.read_page.result c.read_page.ensures.cause;
        state = λ honest. (c.read_page.ensures.store honest).0;
        failed = λ honest. (c.read_page.ensures.store honest).1;
      };
    }

pub returns-clause-cause : goal.returns-clause-cause
returns-clause-cause g c =
    let s = c.args.self.now.store.now in
    let t = c.read_page.new.self in
    counts_lent (fields_of s) (fields_of t) c.read_page.result c.read_page.ensures.cause c.read_page.ensures.fields.6
