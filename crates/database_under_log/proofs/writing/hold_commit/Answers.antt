-- By the lemmas on what is ready once a write waits.
use Rattle.std.proofs.Common.{◌≡◌, ◌<◌, ℕ, List, [], rules, refl, sym, ap, ◌∙◌, subst, arith}
use Rattle.lf_sqlite_pages.specs.PageSize.{IsPageSize}
use Rattle.lf_sqlite_pages.specs.Change.{PageChange}
use Rattle.wal_watch.specs.File.{contents_of}
use Rattle.wal_watch.specs.Frames.{page_size_in}
use Rattle.wal_watch.proofs.LawLemmas.{last_some}
use Rattle.database_file.specs.WalCommit.{change_over}
use Rattle.database_under_log.specs.LogChange.{log_news}
use Rattle.database_under_log.specs.Staying.{without}
use Rattle.database_under_log.proofs.ReadyLemmas.{change-complete, went-back, fits-later, same-sized, told-ready}
use Rattle.database_under_log.proofs.writing.hold_commit.Goals as goal

pub hold_pages-requires-clause-complete : goal.hold_pages-requires-clause-complete
hold_pages-requires-clause-complete g c =
    rw (← c.commit-before.ensures.value) (change-complete c.args.file.now (log_news (contents_of c.args.log.now) c.requires.news.0 c.commit-before.result) c.in_ok-change.change c.commit-before.result
    (c.in_ok-change.ensures c.requires.news.0 c.requires.news.1))

pub returns-in-Ok-clause-ready : goal.returns-in-Ok-clause-ready
returns-in-Ok-clause-ready g c =
    let is : c.in_ok-change.change ≡ change_over c.args.file.now (log_news (contents_of c.args.log.now) c.requires.news.0 c.commit-before.result) c.commit-before.result =
    c.in_ok-change.ensures c.requires.news.0 c.requires.news.1 in
    let some : 0 < c.commit-commit.result = omega (arith, c.commit-commit.ensures, ap (λ (x : PageChange). x.commit) is, last_some (contents_of c.args.log.now) c.requires.some) in
    let size : c.in_ok-change.change.page_size ≡ page_size_in (contents_of c.args.log.now) = ap (λ (x : PageChange). x.page_size) is in
    record {
      at_is = refl;
      bytes_are = search rules;
      back = went-back c.args.file.now c.hold_pages.new.file (record { at = c.args.piece.now.at; bytes = c.of-bytes.result; added = c.hold_pages.new.held.added.items; same = c.hold_pages.new.held.same.items; before = c.commit-before.result; commit = c.commit-commit.result }) c.in-Ok.ensures.back c.in-Ok.ensures.shape.0 c.in-Ok.ensures.shape.1;
      fits = c.in-Ok.ensures.fits;
      later = rw (← c.commit-commit.ensures) (fits-later c.hold_pages.new.file (record { at = c.args.piece.now.at; bytes = c.of-bytes.result; added = c.hold_pages.new.held.added.items; same = c.hold_pages.new.held.same.items; before = c.commit-before.result; commit = c.commit-commit.result }) (g.S.PageStore.page_size c.args.base.now) (g.S.PageStore.commit c.args.base.now) c.in_ok-change.change.page_size c.in-Ok.ensures.fits
          c.commit-before.ensures.value some (subst IsPageSize c.page_size.ensures.value c.page_size.ensures.sqlite)
          (same-sized c.args.file.now c.hold_pages.new.file (g.S.PageStore.page_size c.args.base.now) (g.S.PageStore.commit c.args.base.now) c.in_ok-change.change.page_size c.in-Ok.ensures.shape.0 c.in-Ok.ensures.shape.1
          (λ many. c.requires.sized many ∙ sym size)));
    }

pub returns-in-Ok-clause-told : goal.returns-in-Ok-clause-told
returns-in-Ok-clause-told g c =
    let is : c.in_ok-change.change ≡ change_over c.args.file.now (log_news (contents_of c.args.log.now) c.requires.news.0 c.commit-before.result) c.commit-before.result =
    c.in_ok-change.ensures c.requires.news.0 c.requires.news.1 in
    let some : 0 < c.in_ok-change.change.commit = omega (arith, ap (λ (x : PageChange). x.commit) is, last_some (contents_of c.args.log.now) c.requires.some) in
    told-ready (g.S.PageStore.image c.args.base.now) c.args.file.now c.hold_pages.new.file (record { at = c.args.piece.now.at; bytes = c.of-bytes.result; added = c.hold_pages.new.held.added.items; same = c.hold_pages.new.held.same.items; before = c.commit-before.result; commit = c.commit-commit.result }) c.in_ok-change.change (g.S.PageStore.page_size c.args.base.now) (g.S.PageStore.commit c.args.base.now)
    (rw (← c.commit-before.ensures.value) c.commit-before.ensures.told) c.commit-before.ensures.value c.commit-commit.ensures some c.in-Ok.ensures.shape.0 c.in-Ok.ensures.shape.1 c.in-Ok.ensures.fits
    c.in-Ok.ensures.told

pub returns-in-Err-clause-err : goal.returns-in-Err-clause-err
returns-in-Err-clause-err g c =
    c.let_go.ensures
    ∙ ap (λ (ns : List ℕ). record c.hold_pages.new.file { kept = without c.hold_pages.new.file.kept ns }) c.as_slice.ensures.value
    ∙ went-back c.args.file.now c.hold_pages.new.file (record { at = 0; bytes = []; added = c.hold_pages.new.held.added.items; same = []; before = 0; commit = 0 }) c.in-Err.ensures.back
    c.in-Err.ensures.shape.0 c.in-Err.ensures.shape.1
