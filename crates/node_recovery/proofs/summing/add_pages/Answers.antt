use Rattle.std.proofs.Common.{◌≡◌, ◌+◌, ◌-◌, ◌∙◌, ℕ, length, ap, sym, subst, arith}
use Rattle.lf_disk.specs.Folder.{Folder, bytes_of}
use Rattle.lf_disk.specs.History.{now}
use Rattle.lf_disk.specs.declared.name.FileName.TheVariants.{Database}
use Rattle.std.proofs.lemmas.List.{with_items_is}
use Rattle.txn_log.proofs.Resting.{same_now}
use Rattle.node_recovery.specs.Summing.{AreKnown}
use Rattle.node_recovery.proofs.Judgings.{rests_both}
use Rattle.node_recovery.proofs.Summings.{all_known}
use Rattle.node_recovery.proofs.summing.add_pages.Goals as goal

pub loop-before-preserved : goal.loop-before-preserved
loop-before-preserved g c =
    let h = g.D.Disk.history c.args.disk.now in
    let mid = g.D.Disk.history c.loop-before.disk in
    let inv = c.loop-before.invariant in
    let n = c.loop-before.before in
    record {
      honest = c.add_page.ensures.honest ∙ inv.honest;
      faults = c.in_ok-add_page.ensures.cause ∙ inv.faults;
      rests = rests_both h mid (g.D.Disk.history c.add_page.new.disk) inv.rests c.add_page.ensures.rests;
      long = ap length (with_items_is c.loop-before.page c.add_page.new.page (omega (arith, c.add_page.ensures.long, c.as_mut_slice.ensures.len))) ∙ omega (arith, c.add_page.ensures.long, c.as_mut_slice.ensures.len, inv.long);
      count = c.add_page.ensures.count ∙ inv.count;
      known = λ honest change valid size tallied.
          let here : n + 1 - 1 ≡ n = omega arith in
          let all = c.in_ok-add_page.ensures.known (inv.honest ∙ honest) change valid size in
          subst (λ (f : Folder). AreKnown change (bytes_of (f Database)) (n + 1) c.add_page.new.tally) (same_now h mid inv.rests)
          (all (subst (λ (k : ℕ). AreKnown change (bytes_of (now mid Database)) k c.loop-before.tally) (sym here)
          (subst (λ (f : Folder). AreKnown change (bytes_of (f Database)) n c.loop-before.tally) (sym (same_now h mid inv.rests)) (inv.known honest change valid size tallied))));
    }

pub returns-clause-known : goal.returns-clause-known
returns-clause-known g c honest change valid size tallied =
    let bytes = bytes_of (now (g.D.Disk.history c.args.disk.now) Database) in
    let known = c.loop-before.invariant.known honest change valid size tallied in
    let all : c.loop-before.before ≡ change.commit = omega (arith, c.loop-before-test.false, c.loop-before.auto.before-end, known.count, c.loop-before.invariant.count) in
    all_known change bytes valid c.loop-before.tally (subst (λ (k : ℕ). AreKnown change bytes k c.loop-before.tally) all known)
