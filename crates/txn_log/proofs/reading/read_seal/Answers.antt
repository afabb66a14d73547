use Rattle.std.proofs.Common.{◌≡◌, ◌∙◌, ℕ, ◌-◌, List, replicate, ap}
use Rattle.lf_base.specs.Endian.{be64_at}
use Rattle.lf_base.specs.FileBytes.{read_into}
use Rattle.lf_disk.specs.Folder.{Folder, bytes_of}
use Rattle.lf_disk.specs.History.{now}
use Rattle.txn_log.proofs.Resting.{same_now}
use Rattle.txn_log.proofs.Seals.{seal_read}
use Rattle.txn_log.proofs.reading.read_seal.Goals as goal

pub returns-clause-seal : goal.returns-clause-seal
returns-clause-seal g c honest long =
    let h = g.D.Disk.history c.args.disk.now in
    let mid = g.D.Disk.history c.size_of.new.disk in
    let bytes : List ℕ = bytes_of (now h c.args.name) in
    let at = c.saturating_sub.ensures ∙ ap (λ (n : ℕ). n - 8) (c.in_ok-size.ensures.size honest) in
    let same : bytes_of (now mid c.args.name) ≡ bytes = ap (λ (f : Folder). bytes_of (f c.args.name)) (same_now h mid c.size_of.ensures.rests) in
    let read = c.in_ok-read_at.ensures.bytes (c.size_of.ensures.honest ∙ honest) in
    c.be64_at.ensures ∙ ap (λ (l : List ℕ). be64_at 0 l) (read ∙ (λ i. read_into (at i) (same i) (replicate 8 0))) ∙ seal_read bytes long
