-- By the laws of the file under its log.
use Rattle.std.proofs.Common.{◌≡◌, ◌<◌, ℕ, List, Some, None, rules, sym, ap, ◌∙◌, subst, arith}
use Rattle.lf_base.specs.FileBytes.{written}
use Rattle.wal_watch.specs.File.{contents_of}
use Rattle.wal_watch.specs.Frames.{page_size_in, committed_count}
use Rattle.wal_watch.specs.News.{first_new, change_between}
use Rattle.wal_watch.specs.Refusals.{IsSoundWrite, KeepsCommitted}
use Rattle.database_under_log.specs.Fault.{wanted_size}
use Rattle.database_under_log.specs.LogChange.{log_change}
use Rattle.database_under_log.proofs.ReadyLemmas.{news-facts, sized-log, told-commits, told-stored}
use Rattle.database_under_log.proofs.writing.prepare_log_write.Goals as goal

pub limited_commit-commit-requires-clause-sized : goal.limited_commit-commit-requires-clause-sized
limited_commit-commit-requires-clause-sized g c = λ count.
    let contents : contents_of c.write.new.self ≡ written c.args.at c.args.bytes.now (contents_of c.args.log.now) = ap contents_of c.in_ok-write.ensures.contents in
    let news : Some c.in-Committed.news ≡ change_between (contents_of c.args.log.now) (contents_of c.write.new.self) = search rules in
    let facts = news-facts (contents_of c.args.log.now) (contents_of c.write.new.self) c.in-Committed.news news in
    let some : 0 < committed_count (contents_of c.write.new.self) = omega (arith, facts.0) in
    let sound : IsSoundWrite (contents_of c.args.log.now) (wanted_size (g.S.PageStore.page_size c.args.base.now) (g.S.PageStore.commit c.args.base.now)) c.args.at c.args.bytes.now =
    subst (λ (s : ℕ). IsSoundWrite (contents_of c.args.log.now) s c.args.at c.args.bytes.now) c.wanted_size-page_size.ensures.value c.in_ok-write.ensures.sound in
    sized-log c.args.file.now (g.S.PageStore.page_size c.args.base.now) (g.S.PageStore.commit c.args.base.now) c.args.at (contents_of c.args.log.now) c.args.bytes.now c.requires.follows
    c.wanted_size-page_size.ensures.sqlite sound (subst (λ (t : List ℕ). 0 < committed_count t) contents some) count
    ∙ ap page_size_in (sym contents)

pub returns-in-Stored-clause-told : goal.returns-in-Stored-clause-told
returns-in-Stored-clause-told g c =
    let contents : contents_of c.write.new.self ≡ written c.args.at c.args.bytes.now (contents_of c.args.log.now) = ap contents_of c.in_ok-write.ensures.contents in
    let none : change_between (contents_of c.args.log.now) (contents_of c.write.new.self) ≡ None = search rules in
    told-stored (g.S.PageStore.image c.args.base.now) c.args.file.now (contents_of c.args.log.now) (written c.args.at c.args.bytes.now (contents_of c.args.log.now))
    (subst (λ (t : List ℕ). KeepsCommitted (contents_of c.args.log.now) t) contents c.in_ok-write.ensures.kept)
    (subst (λ (t : List ℕ). change_between (contents_of c.args.log.now) t ≡ None) contents none)

pub returns-in_ok-commit-in-Committed-clause-told : goal.returns-in_ok-commit-in-Committed-clause-told
returns-in_ok-commit-in-Committed-clause-told g c =
    let old : List ℕ = contents_of c.args.log.now in
    let new : List ℕ = written c.args.at c.args.bytes.now (contents_of c.args.log.now) in
    let contents : contents_of c.write.new.self ≡ written c.args.at c.args.bytes.now (contents_of c.args.log.now) = ap contents_of c.in_ok-write.ensures.contents in
    let news : Some c.in-Committed.news ≡ change_between (contents_of c.args.log.now) (contents_of c.write.new.self) = search rules in
    let facts = news-facts (contents_of c.args.log.now) (contents_of c.write.new.self) c.in-Committed.news news in
    let more : first_new (contents_of c.args.log.now) (written c.args.at c.args.bytes.now (contents_of c.args.log.now)) < committed_count (written c.args.at c.args.bytes.now (contents_of c.args.log.now)) =
    subst (λ (t : List ℕ). first_new (contents_of c.args.log.now) t < committed_count t) contents facts.0 in
    let sound : IsSoundWrite (contents_of c.args.log.now) (wanted_size (g.S.PageStore.page_size c.args.base.now) (g.S.PageStore.commit c.args.base.now)) c.args.at c.args.bytes.now =
    subst (λ (s : ℕ). IsSoundWrite (contents_of c.args.log.now) s c.args.at c.args.bytes.now) c.wanted_size-page_size.ensures.value c.in_ok-write.ensures.sound in
    let change : c.in_ok-commit-in-Committed.field-0.change ≡ log_change c.args.file.now (contents_of c.args.log.now) (contents_of c.write.new.self) (g.S.PageStore.commit c.args.base.now) =
    c.in_ok-commit-in-Committed.ensures.change (first_new (contents_of c.args.log.now) (contents_of c.write.new.self)) facts.1 in
    told-commits (g.S.PageStore.image c.args.base.now) c.args.file.now c.limited_commit-commit.new.file (contents_of c.args.log.now) (written c.args.at c.args.bytes.now (contents_of c.args.log.now))
    (g.S.PageStore.page_size c.args.base.now) (g.S.PageStore.commit c.args.base.now) c.in_ok-commit-in-Committed.field-0 c.wanted_size-page_size.ensures.size c.wanted_size-page_size.ensures.count
    (subst (λ (t : List ℕ). KeepsCommitted (contents_of c.args.log.now) t) contents c.in_ok-write.ensures.kept) more c.requires.fits
    (sized-log c.args.file.now (g.S.PageStore.page_size c.args.base.now) (g.S.PageStore.commit c.args.base.now) c.args.at (contents_of c.args.log.now) c.args.bytes.now c.requires.follows
    c.wanted_size-page_size.ensures.sqlite sound (omega (arith, more)))
    (subst (λ (t : List ℕ). c.in_ok-commit-in-Committed.field-0.change ≡ log_change c.args.file.now (contents_of c.args.log.now) t (g.S.PageStore.commit c.args.base.now)) contents change)
    c.in_ok-commit-in-Committed.ensures.told
