use Rattle.std.proofs.Common.{◌≡◌, ◌∙◌, ◌+◌, ◌<◌, ◌≤◌, ℕ, List, length, length-append, take, drop, ap, arith}
use Rattle.lf_disk.specs.Folder.{bytes_of}
use Rattle.lf_disk.specs.History.{now}
use Rattle.ltx_backup.proofs.Comings.{comes_on, all_came}
use Rattle.ltx_backup.proofs.Stills.{rests_now, rests_join}
use Rattle.ltx_backup.proofs.reading.take_pieces.Goals as goal

pub loop-at-preserved : goal.loop-at-preserved
loop-at-preserved g c =
    let h = g.D.Disk.history c.args.disk.now in
    let mid = g.D.Disk.history c.loop-at.disk in
    let inv = c.loop-at.invariant in
    let at = c.loop-at.at in
    let len = c.min-len.result in
    let file = bytes_of (now h c.args.name) in
    let same : bytes_of (now mid c.args.name) ≡ file = ap bytes_of (rests_now h mid inv.rests c.args.name) in
    let within : at + len ≤ c.args.size = omega (arith, c.min-len.ensures, c.loop-at-test.true) in
    let some : 0 < len = omega (arith, c.min-len.ensures, c.loop-at-test.true, inv.room) in
    let long : length c.split_at_mut-front.result.0.now ≡ len = c.split_at_mut-front.ensures.front_len in
    let fresh : length c.take_piece.new.out ≡ len = c.take_piece.ensures.length ∙ long in
    record {
      honest = c.take_piece.ensures.honest ∙ inv.honest;
      faults = c.in-Ok.ensures.cause ∙ inv.faults;
      rests = rests_join h mid (g.D.Disk.history c.take_piece.new.disk) inv.rests c.take_piece.ensures.rests;
      room = omega (arith, some, fresh, length-append c.take_piece.new.out c.split_at_mut-front.result.1.now);
      within = within;
      come = comes_on _ file at len c.loop-at.coming c.in-Ok.next c.take_piece.new.out inv.come c.in-Ok.ensures.come
          (λ is. c.in-Ok.ensures.read (inv.honest ∙ is.0) (omega (arith, within, long, is.1, ap length same))
          ∙ ap (λ (k : ℕ). take k (drop at (bytes_of (now mid c.args.name)))) long
          ∙ ap (λ (l : List ℕ). take len (drop at l)) same);
    }

pub returns-clause-come : goal.returns-clause-come
returns-clause-come g c =
    let file = bytes_of (now (g.D.Disk.history c.args.disk.now) c.args.name) in
    all_came _ file c.loop-at.at c.loop-at.coming c.loop-at.invariant.come (λ is. omega (arith, is.1, c.loop-at-test.false))
