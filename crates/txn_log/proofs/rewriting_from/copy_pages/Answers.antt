use Rattle.std.proofs.Common.{◌≡◌, ◌∙◌, ◌+◌, List, ℕ, length, length-append, ap, refl, arith, IsTrue}
use Rattle.lf_disk.specs.Folder.{bytes_of}
use Rattle.lf_disk.specs.History.{now}
use Rattle.txn_log.specs.Republishing.{StandsAt}
use Rattle.txn_log.proofs.Modes.{page_size-most}
use Rattle.txn_log.proofs.Republishings.{moments_written, written_next, passed_next, copied_all}
use Rattle.txn_log.proofs.rewriting_from.copy_pages.Goals as goal
use Rattle.txn_log.proofs.rewriting_from.copy_pages.Goals.{then-number-gt0+in_ok-write, else-number-gt0}

pub split_at_mut-room-requires : goal.split_at_mut-room-requires
split_at_mut-room-requires g c = omega (arith, page_size-most c.args.header.now.page_size c.requires.sized, c.loop-at.invariant.room)

pub returns-in_err-write-clause-moments : goal.returns-in_err-write-clause-moments
returns-in_err-write-clause-moments g c honest =
    let h = g.D.Disk.history c.args.disk.now in
    let mid = g.D.Disk.history c.loop-at.disk in
    let one = g.D.Disk.history c.read_block.new.disk in
    let inv = c.loop-at.invariant in
    let room : length c.split_at_mut-room.result.0.now ≡ c.args.header.now.page_size = c.split_at_mut-room.ensures.front_len in
    let long : length c.read_block.new.page ≡ c.args.header.now.page_size = c.read_block.ensures.long ∙ room in
    moments_written (g.D.Disk.honest c.args.disk.now) c.args.name c.args.header.now c.args.len c.loop-at.at h mid c.requires.apart inv.copied c.loop-at-test.true one c.read_block.ensures.rests
    c.in_ok-number.number c.read_block.new.page (λ is number bytes there same. c.in_ok-number.ensures.block (inv.honest ∙ is) number bytes there (same ∙ c.read_block.ensures.long)) long
    _ (rw (c.from.ensures, c.from-then-number-gt0.ensures) refl) _ (g.D.Disk.history c.write.new.self) c.write.ensures.ticks _
    (λ is. c.in_err-write.ensures.failed (c.read_block.ensures.honest ∙ inv.honest ∙ is)) honest

pub loop-at-preserved : goal.loop-at-preserved
loop-at-preserved g c =
    let h = g.D.Disk.history c.args.disk.now in
    let mid = g.D.Disk.history c.loop-at.disk in
    let one = g.D.Disk.history c.read_block.new.disk in
    let inv = c.loop-at.invariant in
    let room : length c.split_at_mut-room.result.0.now ≡ c.args.header.now.page_size = c.split_at_mut-room.ensures.front_len in
    let long : length c.read_block.new.page ≡ c.args.header.now.page_size = c.read_block.ensures.long ∙ room in
    let back : length c.read_block.new.page + length c.split_at_mut-room.result.1.now ≡ 65536 = omega (arith, c.read_block.ensures.long, c.split_at_mut-room.ensures.front_len, c.split_at_mut-room.ensures.back_len, inv.room) in
    let reads = λ (is : IsTrue (g.D.Disk.honest c.args.disk.now)) (number : ℕ) (bytes : List ℕ) (there : StandsAt (bytes_of (now mid c.args.name)) c.loop-at.at number bytes) (same : length bytes ≡ length c.read_block.new.page).
    c.in_ok-number.ensures.block (inv.honest ∙ is) number bytes there (same ∙ c.read_block.ensures.long)
    in
    elim c.if-number-gt0.branch [
      | then-number-gt0+in_ok-write w ↦ rw (w.disk-is, c.from-in-loop-at.ensures) (record {
        honest = w.write.ensures.honest ∙ c.read_block.ensures.honest ∙ inv.honest;
        faults = w.in_ok-write.ensures.cause ∙ c.in_ok-number.ensures.cause ∙ inv.faults;
        room = ap length w.page-is ∙ length-append c.read_block.new.page c.split_at_mut-room.result.1.now ∙ back;
        size = refl;
        copied = written_next (g.D.Disk.honest c.args.disk.now) c.args.name c.args.header.now c.args.len c.loop-at.at h mid c.requires.apart inv.copied c.loop-at-test.true one c.read_block.ensures.rests
            c.in_ok-number.number c.read_block.new.page reads long
            _ (rw (w.from.ensures, w.from-then-number-gt0.ensures) refl) _ (g.D.Disk.history w.write.new.self) w.write.ensures.ticks
            (λ is. w.in_ok-write.ensures.done (c.read_block.ensures.honest ∙ inv.honest ∙ is));
      })
      | else-number-gt0 w ↦ rw (w.disk-is, c.from-in-loop-at.ensures) (record {
        honest = c.read_block.ensures.honest ∙ inv.honest;
        faults = c.in_ok-number.ensures.cause ∙ inv.faults;
        room = ap length w.page-is ∙ length-append c.read_block.new.page c.split_at_mut-room.result.1.now ∙ back;
        size = refl;
        copied = passed_next (g.D.Disk.honest c.args.disk.now) c.args.name c.args.header.now c.args.len c.loop-at.at h mid c.requires.apart inv.copied c.loop-at-test.true one c.read_block.ensures.rests
            c.in_ok-number.number c.read_block.new.page reads long (omega (arith, w.if-number-gt0.false));
      })
    ]

pub returns-clause-seen : goal.returns-clause-seen
returns-clause-seen g c honest file holds =
    copied_all (g.D.Disk.honest c.args.disk.now) c.args.name c.args.header.now c.args.len c.loop-at.at (g.D.Disk.history c.args.disk.now) (g.D.Disk.history c.loop-at.disk) c.loop-at.invariant.copied c.loop-at-test.false honest file holds
