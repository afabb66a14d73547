-- One run more.
use Rattle.std.proofs.Common.{◌≡◌, ◌+◌, ◌≤◌, ◌++◌, ℕ, List, length, length-append, append_assoc, take, drop, sym, ◌∙◌, ap, subst, arith}
use Rattle.std.proofs.Math.Seq.{take-add}
use Rattle.lf_disk.specs.Folder.{Folder, bytes_of}
use Rattle.lf_disk.specs.declared.name.FileName.TheVariants.{Database}
use Rattle.lf_disk.specs.History.{now}
use Rattle.txn_log.proofs.Resting.{same_now}
use Rattle.snapshot.proofs.ExportLemmas.{rests_twice, starts_more}
use Rattle.snapshot.proofs.exporting.append_front.Goals as goal

pub loop-done-preserved : goal.loop-done-preserved
loop-done-preserved g c =
    let h = g.D.Disk.history c.args.disk.now in
    let mid = g.D.Disk.history c.loop-done.disk in
    let run : List ℕ = c.split_at_mut-run.result.0.now in
    let long : length c.append_run.new.room ≡ length run = c.append_run.ensures.room in
    let count : length run ≡ c.min.result = c.split_at_mut-run.ensures.front_len in
    let more : c.loop-done.done + length run ≤ c.args.len = omega (arith, count, c.min.ensures, c.loop-done-test.true) in
    record {
      within = omega (arith, more, long);
      room = omega (arith, length-append c.append_run.new.room c.split_at_mut-run.result.1.now, long, count, c.split_at_mut-run.ensures.back_len, c.loop-done.invariant.room, c.min.ensures);
      counts = omega (arith, c.in-Ok-append_run.ensures.counts, c.loop-done.invariant.counts, long);
      bytes = λ honest is.
          let same = same_now h mid c.loop-done.invariant.rests in
          let file : List ℕ = bytes_of (now h Database) in
          let inside : c.loop-done.done + length run ≤ length (bytes_of (now mid Database)) =
          subst (λ (f : Folder). c.loop-done.done + length run ≤ length (bytes_of (f Database))) (sym same) (omega (arith, more, is)) in
          let step : c.append_run.new.out.items ≡ c.loop-done.out.items ++ take (length run) (drop c.loop-done.done file) =
          subst (λ (f : Folder). c.append_run.new.out.items ≡ c.loop-done.out.items ++ take (length run) (drop c.loop-done.done (bytes_of (f Database)))) same
          (c.in-Ok-append_run.ensures.bytes (c.loop-done.invariant.honest ∙ honest) inside) in
          step
          ∙ ap (λ (l : List ℕ). l ++ take (length run) (drop c.loop-done.done file)) (c.loop-done.invariant.bytes honest is)
          ∙ append_assoc c.args.out.now.items (take c.loop-done.done file) (take (length run) (drop c.loop-done.done file))
          ∙ ap (λ (l : List ℕ). c.args.out.now.items ++ l) (sym (take-add c.loop-done.done (length run) file))
          ∙ ap (λ (n : ℕ). c.args.out.now.items ++ take (c.loop-done.done + n) file) (sym long);
      grows = starts_more c.args.out.now.items c.loop-done.out.items c.append_run.new.out.items c.loop-done.invariant.grows c.append_run.ensures.grows;
      rests = rests_twice h mid _ c.loop-done.invariant.rests c.append_run.ensures.rests;
      honest = c.append_run.ensures.honest ∙ c.loop-done.invariant.honest;
      faults = c.in-Ok-append_run.ensures.cause.1 ∙ c.loop-done.invariant.faults;
    }
