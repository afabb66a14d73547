use Rattle.std.proofs.Common.{◌∙◌, ◌∷◌, [], false, refl, sym, subst, arith}
use Rattle.lf_disk.specs.declared.name.FileName.TheVariants.{Staged}
use Rattle.lf_disk.specs.Folder.{SameBut}
use Rattle.lf_disk.specs.Publish.{IsStaged}
use Rattle.lf_disk.proofs.Moments.{joined}
use Rattle.lf_sqlite_pages.specs.Complete.{completed}
use Rattle.ltx_codec.specs.Format.{file_encoding, no_meaning}
use Rattle.ltx_codec.specs.declared.file.Ltx.{Ltx}
use Rattle.ltx_codec.specs.declared.header.Header.{Header}
use Rattle.txn_log.specs.Kept.{IsAtRest}
use Rattle.txn_log.proofs.Placings.{settled, there}
use Rattle.txn_log.proofs.PlacingsFrom.{whole_staging, whole_front}
use Rattle.txn_log.proofs.PlacingsAnewFrom.{header_is, change_is, commit_is as commit_of, post_is, stays, ready, held, goes, tried}
use Rattle.txn_log.proofs.Takings.{last_inside}
use Rattle.txn_log.proofs.placing_from.place_anew_from.Goals as goal

pub pass_rest-requires : goal.pass_rest-requires
pass_rest-requires g c =
    let k = c.requires.known in
    omega (arith, k.3.last, last_inside k.1 k.2, k.4)

pub returns-in-Err-clause-places : goal.returns-in-Err-clause-places
returns-in-Err-clause-places g c honest before image made files dropped change file over holds =
    stays before image files dropped made c.args.received c.args.sums.now.sums c.args.count c.args.entries.now c.args.post change file over
    (g.D.Disk.history c.args.disk.now) (g.D.Disk.history c.pass_rest.new.disk) (c.pass_rest.ensures.moments honest before change over.valid over.up holds)

pub returns-in-Err-seal-clause-places : goal.returns-in-Err-seal-clause-places
returns-in-Err-seal-clause-places g c honest before image made files dropped change file over holds =
    let h = g.D.Disk.history c.args.disk.now in
    let one = g.D.Disk.history c.pass_rest.new.disk in
    let two = g.D.Disk.history c.seal.new.disk in
    let r = c.args.received in
    let s = c.args.sums.now.sums in
    let still = c.pass_rest.ensures.honest ∙ honest in
    let header = header_is before image files dropped made r s c.args.count c.args.entries.now c.args.post change file over in
    let pages = change_is before image files dropped made r s c.args.count c.args.entries.now c.args.post change file over in
    let commit_is = commit_of before image files dropped made r s c.args.count c.args.entries.now c.args.post change file over in
    let passed = c.in-Ok.ensures.passed change over.valid over.up in
    let staging = whole_staging r c.pass_rest.new.self s c.args.count change commit_is passed c.in-Ok.ensures.counts.0 c.in-Ok.ensures.counts.1 file header pages in
    let front = whole_front r c.pass_rest.new.self s c.args.count change commit_is passed c.in-Ok.ensures.counts.0 c.in-Ok.ensures.counts.1 file header pages before one (c.in-Ok.ensures.staged honest before change over.valid over.up holds) in
    stays before image files dropped made r s c.args.count c.args.entries.now c.args.post change file over h two
    (joined h one two (SameBut Staged before) (c.pass_rest.ensures.moments honest before change over.valid over.up holds) (c.seal.ensures.moments still before file.header file.change.pages staging front))

pub put_anew_from-requires-clause-settled : goal.put_anew_from-requires-clause-settled
put_anew_from-requires-clause-settled g c yet =
    let still = sym c.seal.ensures.honest ∙ yet in
    let honest = sym c.pass_rest.ensures.honest ∙ still in
    let k = c.requires.known in
    let r = c.args.received in
    let s = c.args.sums.now.sums in
    let one = g.D.Disk.history c.pass_rest.new.disk in
    let file : Ltx = record { header = r.header; change = completed k.1 c.args.count; post = c.args.post } in
    let passed = c.in-Ok.ensures.passed k.1 k.2 k.3 in
    let staging = whole_staging r c.pass_rest.new.self s c.args.count k.1 k.4 passed c.in-Ok.ensures.counts.0 c.in-Ok.ensures.counts.1 file refl refl in
    let front = whole_front r c.pass_rest.new.self s c.args.count k.1 k.4 passed c.in-Ok.ensures.counts.0 c.in-Ok.ensures.counts.1 file refl refl k.0 one (c.in-Ok.ensures.staged honest k.0 k.1 k.2 k.3 (k.5 honest)) in
    settled k.0 (file_encoding file no_meaning) (g.D.Disk.history c.seal.new.disk) (c.in-Ok-seal.ensures.staged still k.0 file staging refl front)

pub put_anew_from-requires-clause-there : goal.put_anew_from-requires-clause-there
put_anew_from-requires-clause-there g c yet =
    let still = sym c.seal.ensures.honest ∙ yet in
    let honest = sym c.pass_rest.ensures.honest ∙ still in
    let k = c.requires.known in
    let r = c.args.received in
    let s = c.args.sums.now.sums in
    let one = g.D.Disk.history c.pass_rest.new.disk in
    let file : Ltx = record { header = r.header; change = completed k.1 c.args.count; post = c.args.post } in
    let passed = c.in-Ok.ensures.passed k.1 k.2 k.3 in
    let staging = whole_staging r c.pass_rest.new.self s c.args.count k.1 k.4 passed c.in-Ok.ensures.counts.0 c.in-Ok.ensures.counts.1 file refl refl in
    let front = whole_front r c.pass_rest.new.self s c.args.count k.1 k.4 passed c.in-Ok.ensures.counts.0 c.in-Ok.ensures.counts.1 file refl refl k.0 one (c.in-Ok.ensures.staged honest k.0 k.1 k.2 k.3 (k.5 honest)) in
    there k.0 (file_encoding file no_meaning) (g.D.Disk.history c.seal.new.disk) (c.in-Ok-seal.ensures.staged still k.0 file staging refl front)

pub returns-in-Ok-put_anew_from-clause-places : goal.returns-in-Ok-put_anew_from-clause-places
returns-in-Ok-put_anew_from-clause-places g c honest before image made files dropped change file over holds =
    let h = g.D.Disk.history c.args.disk.now in
    let one = g.D.Disk.history c.pass_rest.new.disk in
    let two = g.D.Disk.history c.seal.new.disk in
    let new = g.D.Disk.history c.put_anew_from.new.disk in
    let r = c.args.received in
    let s = c.args.sums.now.sums in
    let still = c.pass_rest.ensures.honest ∙ honest in
    let yet = c.seal.ensures.honest ∙ still in
    let header = header_is before image files dropped made r s c.args.count c.args.entries.now c.args.post change file over in
    let pages = change_is before image files dropped made r s c.args.count c.args.entries.now c.args.post change file over in
    let post = post_is before image files dropped made r s c.args.count c.args.entries.now c.args.post change file over in
    let commit_is = commit_of before image files dropped made r s c.args.count c.args.entries.now c.args.post change file over in
    let passed = c.in-Ok.ensures.passed change over.valid over.up in
    let to_end = c.in-Ok.ensures.counts.1 in
    let staging = whole_staging r c.pass_rest.new.self s c.args.count change commit_is passed c.in-Ok.ensures.counts.0 to_end file header pages in
    let front = whole_front r c.pass_rest.new.self s c.args.count change commit_is passed c.in-Ok.ensures.counts.0 to_end file header pages before one (c.in-Ok.ensures.staged honest before change over.valid over.up holds) in
    let staged : IsStaged before (file_encoding file no_meaning) two = c.in-Ok-seal.ensures.staged still before file staging post front in
    let first = joined h one two (SameBut Staged before) (c.pass_rest.ensures.moments honest before change over.valid over.up holds) (c.seal.ensures.moments still before file.header file.change.pages staging front) in
    let is = ready before image files dropped made r s c.args.count c.args.entries.now c.args.post change file over two staged in
    let has = held before image files dropped made r s c.args.count c.args.entries.now c.args.post change file over two c.pass_rest.new.self _ staged to_end staging refl in (
      goes before image files dropped made r s c.args.count c.args.entries.now c.args.post change file over h two new c.pass_rest.new.self.header to_end first
          (c.put_anew_from.ensures.moments yet before made (file_encoding file no_meaning) file is has),
      subst (λ (x : Header). IsAtRest made (record { min = x.min; max = x.max; encoding = file_encoding file no_meaning } ∷ []) false new) to_end
          (c.in-Ok-put_anew_from.ensures.done yet before made (file_encoding file no_meaning) file is has),
    )

pub returns-in-Err-put_anew_from-clause-places : goal.returns-in-Err-put_anew_from-clause-places
returns-in-Err-put_anew_from-clause-places g c honest before image made files dropped change file over holds =
    let h = g.D.Disk.history c.args.disk.now in
    let one = g.D.Disk.history c.pass_rest.new.disk in
    let two = g.D.Disk.history c.seal.new.disk in
    let new = g.D.Disk.history c.put_anew_from.new.disk in
    let r = c.args.received in
    let s = c.args.sums.now.sums in
    let still = c.pass_rest.ensures.honest ∙ honest in
    let yet = c.seal.ensures.honest ∙ still in
    let header = header_is before image files dropped made r s c.args.count c.args.entries.now c.args.post change file over in
    let pages = change_is before image files dropped made r s c.args.count c.args.entries.now c.args.post change file over in
    let post = post_is before image files dropped made r s c.args.count c.args.entries.now c.args.post change file over in
    let commit_is = commit_of before image files dropped made r s c.args.count c.args.entries.now c.args.post change file over in
    let passed = c.in-Ok.ensures.passed change over.valid over.up in
    let to_end = c.in-Ok.ensures.counts.1 in
    let staging = whole_staging r c.pass_rest.new.self s c.args.count change commit_is passed c.in-Ok.ensures.counts.0 to_end file header pages in
    let front = whole_front r c.pass_rest.new.self s c.args.count change commit_is passed c.in-Ok.ensures.counts.0 to_end file header pages before one (c.in-Ok.ensures.staged honest before change over.valid over.up holds) in
    let staged : IsStaged before (file_encoding file no_meaning) two = c.in-Ok-seal.ensures.staged still before file staging post front in
    let first = joined h one two (SameBut Staged before) (c.pass_rest.ensures.moments honest before change over.valid over.up holds) (c.seal.ensures.moments still before file.header file.change.pages staging front) in
    let is = ready before image files dropped made r s c.args.count c.args.entries.now c.args.post change file over two staged in
    let has = held before image files dropped made r s c.args.count c.args.entries.now c.args.post change file over two c.pass_rest.new.self _ staged to_end staging refl in
    let run = c.put_anew_from.ensures.moments yet before made (file_encoding file no_meaning) file is has in (
      goes before image files dropped made r s c.args.count c.args.entries.now c.args.post change file over h two new c.pass_rest.new.self.header to_end first run,
      tried before image files dropped made r s c.args.count c.args.entries.now c.args.post change file over two new _ c.moment-tried.result c.moment-tried.ensures staged run,
    )
