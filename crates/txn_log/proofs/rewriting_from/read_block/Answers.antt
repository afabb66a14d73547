use Rattle.std.proofs.Common.{◌≡◌, ◌∙◌, ◌+◌, List, ℕ, drop, sym, ap, refl}
use Rattle.std.specs.Int.{w32, to_be_bytes, from_be_bytes}
use Rattle.std.proofs.lemmas.Nat.{from_be_bytes-to_be_bytes_4}
use Rattle.std.proofs.Common.{append_assoc, ◌++◌}
use Rattle.lf_disk.specs.Folder.{bytes_of}
use Rattle.lf_disk.specs.History.{now}
use Rattle.txn_log.proofs.Fittings.{reads_on}
use Rattle.txn_log.proofs.Republishings.{reads_piece, behind_number}
use Rattle.txn_log.proofs.rewriting_from.read_block.Goals as goal

pub returns-clause-block : goal.returns-clause-block
returns-clause-block g c honest number page stands same =
    let h = g.D.Disk.history c.args.disk.now in
    let mid = g.D.Disk.history c.read.new.self in
    let bytes : List ℕ = bytes_of (now h c.args.name) in
    let first : c.read.new.out ≡ to_be_bytes w32 number =
    reads_piece bytes c.args.at _ c.read.new.out _ (to_be_bytes w32 number) (page ++ stands.rest) (c.in_ok-read.ensures.read honest) (stands.encoding ∙ append_assoc (to_be_bytes w32 number) page stands.rest) refl in
    let there : drop (c.args.at + 4) (bytes_of (now mid c.args.name)) ≡ page ++ stands.rest =
    ap (λ o. drop (c.args.at + 4) (bytes_of o)) (reads_on h mid c.read.ensures.rests c.args.name) ∙ behind_number bytes c.args.at number page stands in (
      c.from_be_bytes.ensures ∙ ap (from_be_bytes w32) first ∙ from_be_bytes-to_be_bytes_4 number stands.low,
      reads_piece (bytes_of (now mid c.args.name)) (c.args.at + 4) _ c.read-2.new.out _ page stands.rest (c.in_ok-read-2.ensures.read (c.read.ensures.honest ∙ honest)) there (c.fill.ensures.len ∙ sym same),
    )
