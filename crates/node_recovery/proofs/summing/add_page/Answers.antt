use Rattle.std.proofs.Common.{◌≡◌, ◌≢◌, ◌∙◌, ◌≤◌, ◌-◌, ℕ, ap, sym, arith}
use Rattle.std.specs.Prelude.{slice_index}
use Rattle.lf_disk.specs.Folder.{bytes_of}
use Rattle.lf_disk.specs.History.{now}
use Rattle.lf_disk.specs.declared.name.FileName.TheVariants.{Database}
use Rattle.lf_sqlite_pages.specs.LockPage.{lock_page_of}
use Rattle.lf_sqlite_pages.proofs.LockPages.{page_size-positive}
use Rattle.node_recovery.specs.Summing.{padded}
use Rattle.node_recovery.proofs.Summings.{known_lock, known_there, known_read}
use Rattle.node_recovery.proofs.summing.add_page.Goals as goal
use Rattle.node_recovery.proofs.summing.add_page.Goals.{then-n-lock_page-via-then-n-lock_page, then-n-lock_page-via-else-n-lock_page+then-get-ne0}

pub lock_page-requires : goal.lock_page-requires
lock_page-requires g c = page_size-positive c.args.size c.requires.sized

pub returns-then-n-lock_page-clause-known : goal.returns-then-n-lock_page-clause-known
returns-then-n-lock_page-clause-known g c honest change valid size so_far =
    let bytes = bytes_of (now (g.D.Disk.history c.args.disk.now) Database) in
    let last : c.args.n ≤ change.commit = omega (arith, c.requires.last, so_far.count) in
    elim c.then-n-lock_page.branch [
      | then-n-lock_page-via-then-n-lock_page w ↦
          known_lock change bytes valid c.args.n c.args.tally.now c.requires.first last so_far (omega (arith, w.if-n-lock_page.true, c.lock_page.ensures) ∙ ap lock_page_of (sym size))
      | then-n-lock_page-via-else-n-lock_page+then-get-ne0 w ↦
          known_there change bytes valid c.args.n c.args.tally.now c.requires.first last so_far (λ zero. omega (arith, zero, w.get.ensures, w.if-get-ne0.true))
    ]

pub returns-clause-known : goal.returns-clause-known
returns-clause-known g c honest change valid size so_far =
    let bytes = bytes_of (now (g.D.Disk.history c.args.disk.now) Database) in
    let last : c.args.n ≤ change.commit = omega (arith, c.requires.last, so_far.count) in
    let other : c.args.n ≢ lock_page_of change.page_size = λ same. omega (arith, same ∙ ap lock_page_of size, c.lock_page.ensures, c.if-n-lock_page.false) in
    let zero : slice_index c.args.tally.now.sums.sums (c.args.n - 1) ≡ 0 = omega (arith, c.get.ensures, c.if-get-ne0.false) in
    let is : c.read_page.new.page ≡ padded change.page_size c.args.n bytes = c.in_ok-read_page.ensures.page honest ∙ ap (λ (s : ℕ). padded s c.args.n bytes) (sym size) in
    known_read change bytes valid c.args.n c.args.tally.now c.requires.first last so_far c.add.new.self c.read_page.new.page other zero is c.add.ensures.sums c.add.ensures.wal
