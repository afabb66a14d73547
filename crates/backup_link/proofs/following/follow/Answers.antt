use Rattle.std.proofs.Common.{◌∙◌, ◌++◌, ◌∷◌, [], Ok, Err, false, refl, ap, arith}
use Rattle.ltx_backup.specs.Causes.{AreHonest}
use Rattle.backup_link.specs.Following.{ended_by}
use Rattle.backup_link.proofs.Keeps.{keeps_next, keeps_none}
use Rattle.backup_link.proofs.Streams.{ended_at, follows_last, follows_next, follows_none, is_level, is_refused}
use Rattle.backup_link.proofs.following.follow.Goals as goal

pub frames-init : goal.frames-init
frames-init g c = record {
  files = [];
  on = follows_none g.L.Link c.args.name.now c.args.link.now c.args.frames.now.piece;
  kept = keeps_none _ _;
  sound = c.requires.sound;
  between = c.requires.between;
  honest = (refl, refl, refl);
  faults = record { low = refl; middle = refl; high = refl };
  turns = omega arith;
  count = refl;
}

pub frames-preserved : goal.frames-preserved
frames-preserved g c =
    let inv = c.frames.invariant in
    let still :
    AreHonest (g.D.Disk.honest c.args.backup.now.low) (g.D.Disk.honest c.args.backup.now.middle) (g.D.Disk.honest c.args.backup.now.high)
    → AreHonest (g.D.Disk.honest c.frames.backup.low) (g.D.Disk.honest c.frames.backup.middle) (g.D.Disk.honest c.frames.backup.high)
    = λ h. (inv.honest.0 ∙ h.0, inv.honest.1 ∙ h.1, inv.honest.2 ∙ h.2)
    in
    let next = c.follow_next.ensures.next (c.in-Ok-false.is ∙ ap Ok c.in-Ok-false.field-0-test) in
    record {
      files = inv.files ++ next.file ∷ [];
      on = follows_next g.L.Link c.args.name.now c.args.link.now c.frames.link c.follow_next.new.link c.args.frames.now.piece c.frames.frames.piece c.follow_next.new.frames.piece
          inv.files _ inv.on next;
      kept = keeps_next _ _ _ _ _ inv.files next.file still inv.kept next.kept;
      sound = c.in-Ok-false.ensures.breaks ∙ inv.sound;
      between = c.in-Ok-false.ensures.between;
      honest = (c.follow_next.ensures.honest.0 ∙ inv.honest.0, c.follow_next.ensures.honest.1 ∙ inv.honest.1, c.follow_next.ensures.honest.2 ∙ inv.honest.2);
      faults = record {
        low = c.in-Ok-false.ensures.cause.low ∙ inv.faults.low;
        middle = c.in-Ok-false.ensures.cause.middle ∙ inv.faults.middle;
        high = c.in-Ok-false.ensures.cause.high ∙ inv.faults.high;
      };
      turns = omega (arith, c.in-Ok-false.ensures.less, inv.turns);
      count = c.in-Ok-false.ensures.fault ∙ inv.count;
    }

pub returns-in-Ok-true-clause-follows : goal.returns-in-Ok-true-clause-follows
returns-in-Ok-true-clause-follows g c =
    let inv = c.frames.invariant in
    let still : AreHonest (g.D.Disk.honest c.args.backup.now.low) (g.D.Disk.honest c.args.backup.now.middle) (g.D.Disk.honest c.args.backup.now.high)
    → AreHonest (g.D.Disk.honest c.frames.backup.low) (g.D.Disk.honest c.frames.backup.middle) (g.D.Disk.honest c.frames.backup.high)
    = λ h. (inv.honest.0 ∙ h.0, inv.honest.1 ∙ h.1, inv.honest.2 ∙ h.2)
    in
    let last =
    ended_at g.L.Link c.args.name.now c.frames.link c.follow_next.new.link c.frames.frames.piece _ (ended_by c.follow_next.result) (Ok tt)
    (ap ended_by c.in-Ok-true.is) (c.follow_next.ensures.last (is_level c.in-Ok-true.field-0 c.follow_next.result (Ok false) c.in-Ok-true.is refl c.in-Ok-true.field-0-test))
    in
    follows_last g.L.Link c.args.name.now c.args.link.now c.frames.link c.follow_next.new.link c.args.frames.now.piece c.frames.frames.piece inv.files _ _ _ _ _ (Ok tt)
    inv.on still inv.kept last

pub returns-in-Err-clause-follows : goal.returns-in-Err-clause-follows
returns-in-Err-clause-follows g c =
    let inv = c.frames.invariant in
    let still : AreHonest (g.D.Disk.honest c.args.backup.now.low) (g.D.Disk.honest c.args.backup.now.middle) (g.D.Disk.honest c.args.backup.now.high)
    → AreHonest (g.D.Disk.honest c.frames.backup.low) (g.D.Disk.honest c.frames.backup.middle) (g.D.Disk.honest c.frames.backup.high)
    = λ h. (inv.honest.0 ∙ h.0, inv.honest.1 ∙ h.1, inv.honest.2 ∙ h.2)
    in
    let last =
    ended_at g.L.Link c.args.name.now c.frames.link c.follow_next.new.link c.frames.frames.piece _ (ended_by c.follow_next.result)
    (Err c.in-Err.why) (ap ended_by c.in-Err.is) (c.follow_next.ensures.last (is_refused c.follow_next.result (Ok false) c.in-Err.why c.in-Err.is refl))
    in
    follows_last g.L.Link c.args.name.now c.args.link.now c.frames.link c.follow_next.new.link c.args.frames.now.piece c.frames.frames.piece inv.files _ _ _ _ _
    (Err c.in-Err.why) inv.on still inv.kept last
