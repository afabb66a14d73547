use Rattle.std.proofs.Common.{◌≡◌, ◌≢◌, ℕ, ◌-◌, ◌*◌, List, length, replicate, refl, sym, ◌∙◌, ap}
use Rattle.lf_base.specs.FileBytes.{read_into}
use Rattle.lf_disk.specs.declared.name.FileName.TheVariants.{Database}
use Rattle.lf_disk.specs.Folder.{bytes_of}
use Rattle.lf_disk.specs.History.{now}
use Rattle.lf_sqlite_pages.specs.LockPage.{lock_page_of}
use Rattle.txn_log.proofs.PagesRead.{reads_lock}
use Rattle.snapshot.proofs.PageLemmas.{page_read}
use Rattle.snapshot.proofs.reading.read_page.Goals as goal

pub returns-then-n-lock_page-clause-bytes : goal.returns-then-n-lock_page-clause-bytes
returns-then-n-lock_page-clause-bytes g c honest commit last has =
    reads_lock (length c.args.out.now) commit (now (g.D.Disk.history c.args.disk.now)) c.args.n c.args.out.now c.zero.new.out c.requires.first last
    (c.if-n-lock_page.true ∙ c.lock_page.ensures) refl c.zero.ensures

pub returns-clause-bytes : goal.returns-clause-bytes
returns-clause-bytes g c honest commit last has =
    let size = length c.args.out.now in
    let bytes : List ℕ = bytes_of (now (g.D.Disk.history c.args.disk.now) Database) in
    let place : c.from.result * c.from-2.result ≡ (c.args.n - 1) * size = rw (c.from.ensures, c.from-2.ensures) refl in
    let data_page : c.args.n ≢ lock_page_of size = λ same. c.if-n-lock_page.false (same ∙ sym c.lock_page.ensures) in
    let filled : c.zero.new.out ≡ replicate size 0 = c.zero.ensures in
    let read = (c.in_ok-read.ensures.read honest).front in
    page_read size commit (now (g.D.Disk.history c.args.disk.now)) c.args.n c.args.out.now c.read.new.out has c.requires.first last data_page refl
    (read ∙ ap (λ (a : ℕ). read_into a bytes c.zero.new.out) place ∙ ap (λ (b : List ℕ). read_into ((c.args.n - 1) * size) bytes b) filled)
