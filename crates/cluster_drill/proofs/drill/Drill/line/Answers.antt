use Rattle.std.proofs.Common.{◌∙◌, ◌++◌, ℕ, List, ap, refl}
use Rattle.lf_base.specs.declared.pos.Pos.{Pos}
use Rattle.cluster_drill.specs.Line.{drill_line}
use Rattle.cluster_drill.specs.Nodes.{place}
use Rattle.cluster_drill.proofs.Looking.{looked-twice, shows-then}
use Rattle.cluster_drill.proofs.drill.Drill.line.Goals as goal

-- the primary is asked where it stands, and then all three are looked at
pub returns-in_err-count-clause-looked : goal.returns-in_err-count-clause-looked
returns-in_err-count-clause-looked c =
    let looked = c.in_err-count.ensures.looked in
    record {
      number = looked.number;
      primary = looked-twice _ _ _ c.in-Some.ensures.kept looked.primary;
      left = looked.left;
      right = looked.right;
      fates = looked.fates;
    }

pub returns-in_err-put_line-clause-looked : goal.returns-in_err-put_line-clause-looked
returns-in_err-put_line-clause-looked c =
    let looked = c.in_ok-count.ensures.looked in
    record {
      number = looked.number;
      primary = looked-twice _ _ _ c.in-Some.ensures.kept looked.primary;
      left = looked.left;
      right = looked.right;
      fates = looked.fates;
    }

pub returns-clause-looked : goal.returns-clause-looked
returns-clause-looked c =
    let looked = c.in_ok-count.ensures.looked in
    record {
      number = looked.number;
      primary = looked-twice _ _ _ c.in-Some.ensures.kept looked.primary;
      left = looked.left;
      right = looked.right;
      fates = looked.fates;
    }

pub returns-clause-told : goal.returns-clause-told
returns-clause-told c =
    let count = c.in_ok-count.count in
    let here = c.args.self.now in
    let n = c.in_ok-count.ensures.counted in (
      drill_line here.number (place here.primary).txid count,
      c.in_ok-put_line.ensures.ok
          ∙ ap (λ (l : List ℕ). c.args.out.now.items ++ l)
          (ap (λ (n : ℕ). drill_line n c.in-Some.at.txid count) c.in_ok-count.ensures.looked.number
          ∙ ap (λ (p : Pos). drill_line here.number p.txid count) c.in-Some.ensures.at),
      record {
        count = count;
        counted = record {
          primary = n.primary;
          left = n.left;
          right = n.right;
          shows_primary = shows-then here.primary c.position.new.node c.count.new.self.primary refl c.in-Some.ensures.kept n.primary n.shows_primary;
          shows_left = n.shows_left;
          shows_right = n.shows_right;
          first = n.first;
          second = n.second;
          third = n.third;
          counts_primary = n.counts_primary;
          counts_left = n.counts_left;
          counts_right = n.counts_right;
          is = n.is;
        };
        is = refl;
      },
    )
