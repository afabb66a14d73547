-- By the lemmas on a write that was prepared.
use Rattle.std.proofs.Common.{◌<◌, ◌∙◌, sym, ap, subst, ℕ, Option, Some, None, arith}
use Rattle.lf_base.specs.FileBytes.{written}
use Rattle.lf_sqlite_pages.specs.Change.{PageChange}
use Rattle.lf_sqlite_pages.specs.Image.{DatabaseImage}
use Rattle.wal_watch.specs.File.{contents_of}
use Rattle.wal_watch.specs.Frames.{committed_count}
use Rattle.file_view.specs.HeldParts.{IsSettled}
use Rattle.file_view.proofs.PrepareLemmas.{step-sized, stored, settled-none, settled-some}
use Rattle.file_view.proofs.log.holding.write_or_prepare.Goals as goal

pub settle_commit-requires : goal.settle_commit-requires
settle_commit-requires g c = record {
  sized = λ many.
      let ready = (rw c.in-Waiting.is at c.in_ok-prepare_log_write.ensures.ok).0 in
      let base = c.in_ok-prepare_log_write.ensures.base in
      let some : 0 < committed_count (written c.args.at c.args.bytes.now (contents_of c.args.log.now)) = omega (arith, ready.more) in
      let size = step-sized (contents_of c.args.log.now) c.args.bytes.now (g.S.PageStore.page_size c.args.base.now) (g.S.PageStore.commit c.args.base.now) c.args.at c.requires.sound
      c.sound_store.ensures.sized some (omega (arith, many, base.commit)) in
      base.page_size ∙ sym size ∙ sym (ap (λ (x : PageChange). x.page_size) ready.change);
}

pub returns-in-Stored-clause-done : goal.returns-in-Stored-clause-done
returns-in-Stored-clause-done g c =
    let is = rw c.in-Stored.is at c.in_ok-prepare_log_write.ensures.ok in
    let told = rw c.in-Stored.is at c.in_ok-prepare_log_write.ensures.told in
    stored (g.S.PageStore.image c.args.base.now) (g.S.PageStore.page_size c.args.base.now) (g.S.PageStore.commit c.args.base.now) c.args.at c.args.bytes.now
    c.args.file.now c.prepare_log_write.new.file c.args.log.now c.prepare_log_write.new.log is c.requires.header c.requires.follows told

pub returns-in-Some-clause-done : goal.returns-in-Some-clause-done
returns-in-Some-clause-done g c =
    let ready = rw c.in-Waiting.is at c.in_ok-prepare_log_write.ensures.ok in
    let told = rw c.in-Waiting.is at c.in_ok-prepare_log_write.ensures.told in
    let base = c.in_ok-prepare_log_write.ensures.base in
    let some = rw c.in-Some.is at c.in_ok-commit-in-Waiting.ensures.settled in
    let one = subst (λ (i : Option DatabaseImage). IsSettled i (g.S.PageStore.commit c.prepare_log_write.new.base) c.in-Waiting.commit c.prepare_log_write.new.file (Some c.in-Some.commit) c.settle_commit.new.file) base.image some in
    let two = subst (λ (n : ℕ). IsSettled (g.S.PageStore.image c.args.base.now) n c.in-Waiting.commit c.prepare_log_write.new.file (Some c.in-Some.commit) c.settle_commit.new.file) base.commit one in
    settled-some (g.S.PageStore.image c.args.base.now) (g.S.PageStore.page_size c.args.base.now) (g.S.PageStore.commit c.args.base.now) c.args.at c.args.bytes.now
    c.args.file.now c.prepare_log_write.new.file c.settle_commit.new.file c.args.log.now c.prepare_log_write.new.log c.in-Waiting.commit c.in-Some.commit
    ready.0 ready.1 c.requires.header told two

pub returns-in-None-clause-done : goal.returns-in-None-clause-done
returns-in-None-clause-done g c =
    let ready = rw c.in-Waiting.is at c.in_ok-prepare_log_write.ensures.ok in
    let told = rw c.in-Waiting.is at c.in_ok-prepare_log_write.ensures.told in
    let base = c.in_ok-prepare_log_write.ensures.base in
    let none = rw c.in-None.is at c.in_ok-commit-in-Waiting.ensures.settled in
    let one = subst (λ (i : Option DatabaseImage). IsSettled i (g.S.PageStore.commit c.prepare_log_write.new.base) c.in-Waiting.commit c.prepare_log_write.new.file None c.settle_commit.new.file) base.image none in
    let two = subst (λ (n : ℕ). IsSettled (g.S.PageStore.image c.args.base.now) n c.in-Waiting.commit c.prepare_log_write.new.file None c.settle_commit.new.file) base.commit one in
    settled-none (g.S.PageStore.image c.args.base.now) (g.S.PageStore.page_size c.args.base.now) (g.S.PageStore.commit c.args.base.now) c.args.at c.args.bytes.now
    c.args.file.now c.prepare_log_write.new.file c.settle_commit.new.file c.args.log.now c.prepare_log_write.new.log c.write_within.new.self c.in-Waiting.commit
    ready.0 ready.1 c.requires.header c.requires.sound c.sound_store.ensures.sized told two c.write_within.ensures
