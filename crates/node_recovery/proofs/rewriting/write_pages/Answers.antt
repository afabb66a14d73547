use Rattle.std.proofs.Common.{◌≡◌, ◌-◌, ◌*◌, ℕ, List, false, Bool, ap, subst, ◌∙◌, refl}
use Rattle.lf_sqlite_pages.specs.Change.{PageChange}
use Rattle.lf_disk.specs.Folder.{Folder}
use Rattle.txn_log.proofs.Wearing.{wears_path}
use Rattle.node_recovery.specs.declared.part.Part.{Part}
use Rattle.node_recovery.specs.declared.part.Part.TheVariants as part
use Rattle.node_recovery.specs.Reading.{IsFilled, HasCome, Comes}
use Rattle.node_recovery.proofs.Judgings.{same_now}
use Rattle.node_recovery.proofs.Rewritings.{Passed, opened, passes_on, passes_part, first_is, page_wears, passes_page, all_passed, stretch_rests}
use Rattle.node_recovery.proofs.rewriting.write_pages.Goals as goal

pub parts-init : goal.parts-init
parts-init g c = record {
  honest = c.open.ensures.honest;
  faults = c.in_ok-open.ensures.cause;
  passed = opened _ c.args.name c.args.header.now (g.D.Disk.history c.args.disk.now) c.requires (g.D.Disk.history c.open.new.disk) c.open.new.self c.open.ensures.rests c.in_ok-open.ensures.begins (λ is. c.in_ok-open.ensures.here is);
}

pub returns-in_err-refill-clause-moments : goal.returns-in_err-refill-clause-moments
returns-in_err-refill-clause-moments g c honest file holds =
    let h = g.D.Disk.history c.args.disk.now in
    stretch_rests h (g.D.Disk.history c.parts.disk) (g.D.Disk.history c.refill.new.disk) _ (wears_path file.change) (c.parts.invariant.passed.moments honest file holds) c.refill.ensures.rests

pub overflow_sub-number : goal.overflow_sub-number
overflow_sub-number g c =
    let h = g.D.Disk.history c.args.disk.now in
    let mid = g.D.Disk.history c.parts.disk in
    let new = g.D.Disk.history c.refill.new.disk in
    let inv = c.parts.invariant in
    let same = c.refill.ensures.same in
    let on : Passed (g.D.Disk.honest c.args.disk.now) c.args.name c.args.header.now h new c.refill.new.self =
    passes_on (g.D.Disk.honest c.args.disk.now) c.args.name c.args.header.now h c.requires mid new c.parts.reader c.refill.new.self c.refill.ensures.rests same.0 same.1 same.2 (λ is encoding. c.in_ok-refill.ensures.here (inv.honest ∙ is) encoding) inv.passed in
    let number = c.in-Page.number in
    let comes : (encoding : List ℕ) (change : PageChange) → HasCome c.refill.new.self encoding change → Comes c.refill.new.self c.step.new.self encoding change (part.Page number) =
    λ encoding change come. subst (λ (p : Part). Comes c.refill.new.self c.step.new.self encoding change p) c.in-Page.is (c.step.ensures.comes encoding change come) in
    first_is (g.D.Disk.honest c.args.disk.now) c.args.name c.args.header.now h c.requires new c.refill.new.self c.step.new.self number c.step.ensures.same.0 c.step.ensures.same.1 comes on

pub parts-preserved-in_ok-write : goal.parts-preserved-in_ok-write
parts-preserved-in_ok-write g c =
    let h = g.D.Disk.history c.args.disk.now in
    let mid = g.D.Disk.history c.parts.disk in
    let new = g.D.Disk.history c.refill.new.disk in
    let inv = c.parts.invariant in
    let same = c.refill.ensures.same in
    let on : Passed (g.D.Disk.honest c.args.disk.now) c.args.name c.args.header.now h new c.refill.new.self =
    passes_on (g.D.Disk.honest c.args.disk.now) c.args.name c.args.header.now h c.requires mid new c.parts.reader c.refill.new.self c.refill.ensures.rests same.0 same.1 same.2 (λ is encoding. c.in_ok-refill.ensures.here (inv.honest ∙ is) encoding) inv.passed in
    let number = c.in-Page.number in
    let comes : (encoding : List ℕ) (change : PageChange) → HasCome c.refill.new.self encoding change → Comes c.refill.new.self c.step.new.self encoding change (part.Page number) =
    λ encoding change come. subst (λ (p : Part). Comes c.refill.new.self c.step.new.self encoding change p) c.in-Page.is (c.step.ensures.comes encoding change come) in
    let place : c.from.result * c.from-in-Page.result ≡ (number - 1) * c.args.header.now.page_size = rw (c.from.ensures, c.from-in-Page.ensures) refl in
    record {
      honest = c.write.ensures.honest ∙ c.refill.ensures.honest ∙ inv.honest;
      faults = c.in_ok-write.ensures.cause ∙ c.in_ok-refill.ensures.cause ∙ inv.faults;
      passed = passes_page (g.D.Disk.honest c.args.disk.now) c.args.name c.args.header.now h c.requires new c.refill.new.self c.step.new.self number c.step.ensures.same.0 c.step.ensures.same.1 comes on
          _ (g.D.Disk.history c.write.new.self) _ _ place c.page.ensures
          (λ is. (c.write.ensures.ticks, c.in_ok-write.ensures.done (c.refill.ensures.honest ∙ inv.honest ∙ is)));
    }

pub returns-in_err-write-clause-moments : goal.returns-in_err-write-clause-moments
returns-in_err-write-clause-moments g c honest file holds =
    let h = g.D.Disk.history c.args.disk.now in
    let mid = g.D.Disk.history c.parts.disk in
    let new = g.D.Disk.history c.refill.new.disk in
    let inv = c.parts.invariant in
    let same = c.refill.ensures.same in
    let on : Passed (g.D.Disk.honest c.args.disk.now) c.args.name c.args.header.now h new c.refill.new.self =
    passes_on (g.D.Disk.honest c.args.disk.now) c.args.name c.args.header.now h c.requires mid new c.parts.reader c.refill.new.self c.refill.ensures.rests same.0 same.1 same.2 (λ is encoding. c.in_ok-refill.ensures.here (inv.honest ∙ is) encoding) inv.passed in
    let number = c.in-Page.number in
    let comes : (encoding : List ℕ) (change : PageChange) → HasCome c.refill.new.self encoding change → Comes c.refill.new.self c.step.new.self encoding change (part.Page number) =
    λ encoding change come. subst (λ (p : Part). Comes c.refill.new.self c.step.new.self encoding change p) c.in-Page.is (c.step.ensures.comes encoding change come) in
    let place : c.from.result * c.from-in-Page.result ≡ (number - 1) * c.args.header.now.page_size = rw (c.from.ensures, c.from-in-Page.ensures) refl in
    page_wears (g.D.Disk.honest c.args.disk.now) c.args.name c.args.header.now h c.requires new c.refill.new.self c.step.new.self number c.step.ensures.same.0 c.step.ensures.same.1 comes on honest file holds
    _ (g.D.Disk.history c.write.new.self) _ _ place c.page.ensures c.write.ensures.ticks _ (c.in_err-write.ensures.failed (c.refill.ensures.honest ∙ inv.honest ∙ honest))

pub parts-preserved : goal.parts-preserved
parts-preserved g c =
    let h = g.D.Disk.history c.args.disk.now in
    let mid = g.D.Disk.history c.parts.disk in
    let new = g.D.Disk.history c.refill.new.disk in
    let inv = c.parts.invariant in
    let same = c.refill.ensures.same in
    let on : Passed (g.D.Disk.honest c.args.disk.now) c.args.name c.args.header.now h new c.refill.new.self =
    passes_on (g.D.Disk.honest c.args.disk.now) c.args.name c.args.header.now h c.requires mid new c.parts.reader c.refill.new.self c.refill.ensures.rests same.0 same.1 same.2 (λ is encoding. c.in_ok-refill.ensures.here (inv.honest ∙ is) encoding) inv.passed in
    record {
      honest = c.refill.ensures.honest ∙ inv.honest;
      faults = c.in_ok-refill.ensures.cause ∙ inv.faults;
      passed = passes_part (g.D.Disk.honest c.args.disk.now) c.args.name c.args.header.now h c.requires new c.refill.new.self c.step.new.self c.step.result c.step.ensures.same.0 c.step.ensures.same.1 c.step.ensures.comes on
          c.in_default.not-Page;
    }

pub returns-clause-moments : goal.returns-clause-moments
returns-clause-moments g c honest file holds =
    let h = g.D.Disk.history c.args.disk.now in
    stretch_rests h (g.D.Disk.history c.parts.disk) (g.D.Disk.history c.refill.new.disk) _ (wears_path file.change) (c.parts.invariant.passed.moments honest file holds) c.refill.ensures.rests

pub returns-clause-seen : goal.returns-clause-seen
returns-clause-seen g c honest file holds =
    let inv = c.parts.invariant in
    let same = c.refill.ensures.same in
    let filled : IsFilled c.refill.new.self false = subst (λ (b : Bool). IsFilled c.refill.new.self b) c.if-not-branch.true c.in_ok-refill.ensures.filled in
    all_passed (g.D.Disk.honest c.args.disk.now) c.args.name c.args.header.now (g.D.Disk.history c.args.disk.now) c.requires (g.D.Disk.history c.parts.disk) (g.D.Disk.history c.refill.new.disk) c.parts.reader c.refill.new.self
    c.refill.ensures.rests same.0 same.1 same.2 (λ is encoding. c.in_ok-refill.ensures.here (inv.honest ∙ is) encoding) filled inv.passed honest file holds

pub returns-clause-others : goal.returns-clause-others
returns-clause-others g c honest n other =
    ap (λ (f : Folder). f n) (same_now (g.D.Disk.history c.parts.disk) (g.D.Disk.history c.refill.new.disk) c.refill.ensures.rests) ∙ c.parts.invariant.passed.others honest n other
