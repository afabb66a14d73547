use Rattle.std.proofs.Common.{◌∙◌, ℕ, List, sym, subst}
use Rattle.ltx_codec.specs.Format.{file_encoding, no_meaning}
use Rattle.txn_log.specs.Kept.{LogFile}
use Rattle.txn_log.specs.Placing.{IsTried}
use Rattle.txn_log.proofs.Placings.{ready, moments, tried}
use Rattle.txn_log.proofs.publishing.place.Goals as goal

pub returns-in-Ok-put_staged-clause-places : goal.returns-in-Ok-put_staged-clause-places
returns-in-Ok-put_staged-clause-places g c honest image files over =
    let h = g.D.Disk.history c.args.disk.now in
    let mid = g.D.Disk.history c.stage_file.new.disk in
    let new = g.D.Disk.history c.put_staged.new.disk in
    let still = c.stage_file.ensures.honest ∙ honest in
    let ltx = c.args.file.now in
    let encoding : List ℕ = file_encoding ltx no_meaning in
    let file : LogFile = record { min = ltx.header.min; max = ltx.header.max; encoding = encoding } in
    let is = ready image files c.args.dropped encoding ltx.change h mid over (c.in-Ok.ensures.staged honest) in (
      moments image files c.args.dropped encoding ltx.change h mid over new file (c.stage_file.ensures.moments honest) (c.put_staged.ensures.moments still image files encoding is over.empty),
      c.in-Ok-put_staged.ensures.done still image files encoding is over.empty,
    )

pub returns-in-Err-put_staged-clause-places : goal.returns-in-Err-put_staged-clause-places
returns-in-Err-put_staged-clause-places g c honest image files over =
    let h = g.D.Disk.history c.args.disk.now in
    let mid = g.D.Disk.history c.stage_file.new.disk in
    let new = g.D.Disk.history c.put_staged.new.disk in
    let still = c.stage_file.ensures.honest ∙ honest in
    let ltx = c.args.file.now in
    let encoding : List ℕ = file_encoding ltx no_meaning in
    let file : LogFile = record { min = ltx.header.min; max = ltx.header.max; encoding = encoding } in
    let staged = c.in-Ok.ensures.staged honest in
    let is = ready image files c.args.dropped encoding ltx.change h mid over staged in
    let run = c.put_staged.ensures.moments still image files encoding is over.empty in (
      moments image files c.args.dropped encoding ltx.change h mid over new file (c.stage_file.ensures.moments honest) run,
      subst (λ (t : ℕ). IsTried encoding t new) (sym c.moment-tried.ensures) (tried image files c.args.dropped encoding ltx.change h mid over new _ staged run),
    )
