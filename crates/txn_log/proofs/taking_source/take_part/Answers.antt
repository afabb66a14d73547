use Rattle.std.proofs.Common.{Option, Some, refl, sym, subst, arith}
use Rattle.lf_disk.specs.declared.name.FileName.TheVariants.{Staged}
use Rattle.lf_disk.specs.Folder.{SameBut}
use Rattle.lf_disk.proofs.Moments.{started}
use Rattle.txn_log.specs.Coming.{change_after}
use Rattle.txn_log.specs.Taking.{TakenIn, StagedIn}
use Rattle.txn_log.specs.TakingSource.{Came}
use Rattle.txn_log.specs.declared.coming.Part.{Part}
use Rattle.txn_log.specs.declared.taking_source.Intake.{Intake}
use Rattle.txn_log.proofs.TakingSources.{quiet_of, more_taken, header_taken, header_staged, page_valid, page_refused, page_taken, page_staged}
use Rattle.txn_log.proofs.taking_source.take_part.Goals as goal

pub returns-then-header-room-clause-moments : goal.returns-then-header-room-clause-moments
returns-then-header-room-clause-moments g c honest before encoding longer change came taken staged =
    started (g.D.Disk.history c.args.disk.now) (SameBut Staged before) (quiet_of c.args.taken before change c.args.count (g.D.Disk.history c.args.disk.now) staged).left

pub returns-in-More-clause-taken : goal.returns-in-More-clause-taken
returns-in-More-clause-taken g c encoding longer change came taken =
    subst (λ (p : Part). TakenIn c.args.taken c.args.table.now.sums c.args.old.now.sums c.args.count c.args.wal c.args.room longer (change_after p c.args.coming.now change)) (sym c.in-More.is)
    (more_taken c.args.coming.now c.args.taken c.args.table.now.sums c.args.old.now.sums c.args.count c.args.wal c.args.room encoding longer change
    (subst (λ (p : Part). Came c.args.coming.now p encoding longer change) c.in-More.is came) taken)

pub returns-in-Ok-clause-staged : goal.returns-in-Ok-clause-staged
returns-in-Ok-clause-staged g c honest before encoding longer change came taken staged =
    let h = g.D.Disk.history c.args.disk.now in
    let end = g.D.Disk.history c.take_header.new.disk in
    let it = subst (λ (p : Part). Came c.args.coming.now p encoding longer change) c.in-Header.is came in
    subst (λ (p : Part). StagedIn (Some c.in-Ok.intake) before (change_after p c.args.coming.now change) c.args.count end) (sym c.in-Header.is)
    (header_staged c.args.coming.now encoding longer change it c.header-header.result c.header-header.ensures c.in-Ok.intake before c.args.count h end
    (quiet_of c.args.taken before change c.args.count h staged) (c.in-Ok.ensures.staged honest))

pub returns-in-Ok-clause-taken : goal.returns-in-Ok-clause-taken
returns-in-Ok-clause-taken g c encoding longer change came taken =
    let it = subst (λ (p : Part). Came c.args.coming.now p encoding longer change) c.in-Header.is came in
    subst (λ (p : Part). TakenIn (Some c.in-Ok.intake) c.take_header.new.table.sums c.args.old.now.sums c.args.count c.args.wal c.args.room longer (change_after p c.args.coming.now change)) (sym c.in-Header.is)
    (header_taken c.args.coming.now encoding longer change it c.header-header.result c.header-header.ensures c.in-Ok.intake c.take_header.new.table.sums c.args.old.now.sums c.args.count c.args.wal c.args.room
    (omega (arith, c.if-header-room.false)) c.in-Ok.ensures.header c.in-Ok.ensures.taken)

pub returns-in-None-clause-taken : goal.returns-in-None-clause-taken
returns-in-None-clause-taken g c encoding longer change came taken =
    let it = subst (λ (p : Part). Came c.args.coming.now p encoding longer change) c.in-Page.is came in
    page_refused c.args.coming.now encoding longer change c.in-Page.number it _ refl c.args.table.now.sums c.args.table.now.sums c.args.old.now.sums c.args.count c.args.wal c.args.room
    (subst (λ (o : Option Intake). TakenIn o c.args.table.now.sums c.args.old.now.sums c.args.count c.args.wal c.args.room encoding change) c.in-None.is taken)

pub returns-in-Ok-take_page-clause-moments : goal.returns-in-Ok-take_page-clause-moments
returns-in-Ok-take_page-clause-moments g c honest before encoding longer change came taken staged =
    let had = subst (λ (o : Option Intake). TakenIn o c.args.table.now.sums c.args.old.now.sums c.args.count c.args.wal c.args.room encoding change) c.in-Some.is taken in
    let held = subst (λ (o : Option Intake). StagedIn o before change c.args.count (g.D.Disk.history c.args.disk.now)) c.in-Some.is staged in
    c.take_page.ensures.moments honest before c.args.wal change had.3 held

pub returns-in-Ok-take_page-clause-staged : goal.returns-in-Ok-take_page-clause-staged
returns-in-Ok-take_page-clause-staged g c honest before encoding longer change came taken staged =
    let end = g.D.Disk.history c.take_page.new.disk in
    let it = subst (λ (p : Part). Came c.args.coming.now p encoding longer change) c.in-Page.is came in
    let had = subst (λ (o : Option Intake). TakenIn o c.args.table.now.sums c.args.old.now.sums c.args.count c.args.wal c.args.room encoding change) c.in-Some.is taken in
    let held = subst (λ (o : Option Intake). StagedIn o before change c.args.count (g.D.Disk.history c.args.disk.now)) c.in-Some.is staged in
    subst (λ (p : Part). StagedIn (Some c.in-Ok-take_page.next) before (change_after p c.args.coming.now change) c.args.count end) (sym c.in-Page.is)
    (page_staged c.args.coming.now encoding longer change c.in-Page.number it c.page.result.now c.page.ensures c.in-Ok-take_page.next before c.args.count end
    (c.in-Ok-take_page.ensures.staged honest before c.args.wal change had.3 held))

pub returns-in-Ok-take_page-clause-taken : goal.returns-in-Ok-take_page-clause-taken
returns-in-Ok-take_page-clause-taken g c encoding longer change came taken =
    let it = subst (λ (p : Part). Came c.args.coming.now p encoding longer change) c.in-Page.is came in
    let had = subst (λ (o : Option Intake). TakenIn o c.args.table.now.sums c.args.old.now.sums c.args.count c.args.wal c.args.room encoding change) c.in-Some.is taken in
    subst (λ (p : Part). TakenIn (Some c.in-Ok-take_page.next) c.take_page.new.table.sums c.args.old.now.sums c.args.count c.args.wal c.args.room longer (change_after p c.args.coming.now change)) (sym c.in-Page.is)
    (page_taken c.args.coming.now encoding longer change c.in-Page.number it c.page.result.now c.page.ensures c.in-Some.intake c.in-Ok-take_page.next c.args.table.now.sums c.take_page.new.table.sums c.args.old.now.sums
    c.args.count c.args.wal c.args.room had c.in-Ok-take_page.ensures.header
    (c.in-Ok-take_page.ensures.taken c.args.wal change had.3 (page_valid c.args.coming.now encoding longer change c.in-Page.number it c.page.result.now c.page.ensures)))

pub returns-in-Err-take_page-clause-moments : goal.returns-in-Err-take_page-clause-moments
returns-in-Err-take_page-clause-moments g c honest before encoding longer change came taken staged =
    let had = subst (λ (o : Option Intake). TakenIn o c.args.table.now.sums c.args.old.now.sums c.args.count c.args.wal c.args.room encoding change) c.in-Some.is taken in
    let held = subst (λ (o : Option Intake). StagedIn o before change c.args.count (g.D.Disk.history c.args.disk.now)) c.in-Some.is staged in
    c.take_page.ensures.moments honest before c.args.wal change had.3 held
