use Rattle.std.proofs.Common.{◌∙◌, Bool, Ok, refl, sym, subst, arith}
use Rattle.std.proofs.lemmas.Bool.{false≢true}
use Rattle.ltx_backup.specs.Settling.{GoesOn}
use Rattle.ltx_backup.proofs.Loops.{kept_none, standing_settled, keeps_more, stops_more}
use Rattle.ltx_backup.proofs.Refusals.{has_ended, has_refused}
use Rattle.ltx_backup.proofs.backup.Backup.settle.Goals as goal

pub returns-then-broken-clause-stops : goal.returns-then-broken-clause-stops
returns-then-broken-clause-stops g c honest levels kept =
    standing_settled levels c.args.self.now.index (g.D.Disk.history c.args.self.now.low) (g.D.Disk.history c.args.self.now.middle) (g.D.Disk.history c.args.self.now.high) kept

pub folds-init : goal.folds-init
folds-init g c = record {
  sound = c.if-broken.false;
  honest = (refl, refl, refl);
  faults = record { low = refl; middle = refl; high = refl };
  end = refl;
  fewer = omega arith;
  keeps = λ honest levels kept. kept_none levels c.args.self.now.index (g.D.Disk.history c.args.self.now.low) (g.D.Disk.history c.args.self.now.middle) (g.D.Disk.history c.args.self.now.high) kept;
  stops = λ honest levels kept. standing_settled levels c.args.self.now.index (g.D.Disk.history c.args.self.now.low) (g.D.Disk.history c.args.self.now.middle) (g.D.Disk.history c.args.self.now.high) kept;
}

pub folds-preserved : goal.folds-preserved
folds-preserved g c =
    let l = g.D.Disk.history c.folds.self.low in
    let m = g.D.Disk.history c.folds.self.middle in
    let h = g.D.Disk.history c.folds.self.high in
    let l_now = g.D.Disk.history c.fold_next.new.self.low in
    let m_now = g.D.Disk.history c.fold_next.new.self.middle in
    let h_now = g.D.Disk.history c.fold_next.new.self.high in
    let inv = c.folds.invariant in
    record {
      sound = c.in-Ok-true.ensures.breaks ∙ inv.sound;
      honest = (c.fold_next.ensures.honest.0 ∙ inv.honest.0, c.fold_next.ensures.honest.1 ∙ inv.honest.1, c.fold_next.ensures.honest.2 ∙ inv.honest.2);
      faults = record { low = c.in-Ok-true.ensures.cause.low ∙ inv.faults.low; middle = c.in-Ok-true.ensures.cause.middle ∙ inv.faults.middle; high = c.in-Ok-true.ensures.cause.high ∙ inv.faults.high };
      end = c.fold_next.ensures.end ∙ inv.end;
      fewer = let less = c.in-Ok-true.ensures.fewer c.in-Ok-true.field-0-test in omega (arith, less, inv.fewer);
      keeps = λ honest levels kept.
          let mid = inv.keeps honest levels kept in
          keeps_more levels c.folds.count c.folds.self.index l m h mid c.fold_next.new.self.index l_now m_now h_now c.in-Ok-true.field-0 c.in-Ok-true.field-0-test
          (c.in-Ok-true.ensures.goes_on (inv.honest.0 ∙ honest.0, inv.honest.1 ∙ honest.1, inv.honest.2 ∙ honest.2) mid.levels mid.kept);
      stops = λ honest levels kept.
          let mid = inv.keeps honest levels kept in
          stops_more levels c.folds.count c.folds.self.index l m h mid
          (g.D.Disk.history c.args.self.now.low) (g.D.Disk.history c.args.self.now.middle) (g.D.Disk.history c.args.self.now.high) l_now m_now h_now (inv.stops honest levels kept)
          (c.fold_next.ensures.stops (inv.honest.0 ∙ honest.0, inv.honest.1 ∙ honest.1, inv.honest.2 ∙ honest.2) mid.levels mid.kept);
    }

pub returns-in-Ok-false-clause-settles : goal.returns-in-Ok-false-clause-settles
returns-in-Ok-false-clause-settles g c honest sound levels kept =
    let inv = c.folds.invariant in
    let mid = inv.keeps honest levels kept in
    has_ended mid.levels c.fold_next.new.self.index (g.D.Disk.history c.fold_next.new.self.low) (g.D.Disk.history c.fold_next.new.self.middle) (g.D.Disk.history c.fold_next.new.self.high)
    levels c.folds.count mid.settles
    (subst (λ (b : Bool). GoesOn mid.levels (Ok b) c.fold_next.new.self.index (g.D.Disk.history c.fold_next.new.self.low) (g.D.Disk.history c.fold_next.new.self.middle) (g.D.Disk.history c.fold_next.new.self.high))
    c.in-Ok-false.field-0-test (c.in-Ok-false.ensures.goes_on (inv.honest.0 ∙ honest.0, inv.honest.1 ∙ honest.1, inv.honest.2 ∙ honest.2) mid.levels mid.kept))

pub returns-in-Ok-false-clause-stops : goal.returns-in-Ok-false-clause-stops
returns-in-Ok-false-clause-stops g c honest levels kept =
    let inv = c.folds.invariant in
    let mid = inv.keeps honest levels kept in
    stops_more levels c.folds.count c.folds.self.index (g.D.Disk.history c.folds.self.low) (g.D.Disk.history c.folds.self.middle) (g.D.Disk.history c.folds.self.high) mid
    (g.D.Disk.history c.args.self.now.low) (g.D.Disk.history c.args.self.now.middle) (g.D.Disk.history c.args.self.now.high)
    (g.D.Disk.history c.fold_next.new.self.low) (g.D.Disk.history c.fold_next.new.self.middle) (g.D.Disk.history c.fold_next.new.self.high) (inv.stops honest levels kept)
    (c.fold_next.ensures.stops (inv.honest.0 ∙ honest.0, inv.honest.1 ∙ honest.1, inv.honest.2 ∙ honest.2) mid.levels mid.kept)

pub returns-in-Err-clause-settles : goal.returns-in-Err-clause-settles
returns-in-Err-clause-settles g c honest sound levels kept =
    let inv = c.folds.invariant in
    let mid = inv.keeps honest levels kept in
    has_refused mid.levels c.fold_next.new.self.index (g.D.Disk.history c.fold_next.new.self.low) (g.D.Disk.history c.fold_next.new.self.middle) (g.D.Disk.history c.fold_next.new.self.high)
    levels c.folds.count mid.settles c.in-Err.why
    (c.in-Err.ensures.goes_on (inv.honest.0 ∙ honest.0, inv.honest.1 ∙ honest.1, inv.honest.2 ∙ honest.2) mid.levels mid.kept)

pub returns-in-Err-clause-stops : goal.returns-in-Err-clause-stops
returns-in-Err-clause-stops g c honest levels kept =
    let inv = c.folds.invariant in
    let mid = inv.keeps honest levels kept in
    stops_more levels c.folds.count c.folds.self.index (g.D.Disk.history c.folds.self.low) (g.D.Disk.history c.folds.self.middle) (g.D.Disk.history c.folds.self.high) mid
    (g.D.Disk.history c.args.self.now.low) (g.D.Disk.history c.args.self.now.middle) (g.D.Disk.history c.args.self.now.high)
    (g.D.Disk.history c.fold_next.new.self.low) (g.D.Disk.history c.fold_next.new.self.middle) (g.D.Disk.history c.fold_next.new.self.high) (inv.stops honest levels kept)
    (c.fold_next.ensures.stops (inv.honest.0 ∙ honest.0, inv.honest.1 ∙ honest.1, inv.honest.2 ∙ honest.2) mid.levels mid.kept)

pub returns-then-broken-clause-broken : goal.returns-then-broken-clause-broken
returns-then-broken-clause-broken g c is = (refl, refl, refl, refl, refl)

pub returns-in-Ok-false-clause-broken : goal.returns-in-Ok-false-clause-broken
returns-in-Ok-false-clause-broken g c is = absurd (false≢true (sym c.if-broken.false ∙ is))

pub returns-in-Err-clause-broken : goal.returns-in-Err-clause-broken
returns-in-Err-clause-broken g c is = absurd (false≢true (sym c.if-broken.false ∙ is))
