use Rattle.std.proofs.Common.{ℕ, List, ap, sym, subst}
use Rattle.lf_sqlite_pages.specs.Change.{IsChange, empty_change, with_page}
use Rattle.ltx_codec.specs.Decoding.{header_shown}
use Rattle.ltx_codec.specs.declared.header.Header.{Header}
use Rattle.node_recovery.specs.declared.part.Part.{Part}
use Rattle.node_recovery.specs.Reading.{change_after, IsSound}
use Rattle.node_recovery.specs.Summing.{IsTallied}
use Rattle.node_recovery.proofs.Tallies.{page_tallied}
use Rattle.node_recovery.proofs.reading.note.Goals as goal

pub returns-in_ok-tally-in-Header : goal.returns-in_ok-tally-in-Header
returns-in_ok-tally-in-Header c encoding next change sound tallied =
    let shown : Header = header_shown c.args.reader.now.decoder in
    subst (λ (p : Part). IsTallied (change_after p c.args.reader.now change) c.in_ok-tally-in-Header.field-0) (sym c.in-Header.is)
    (subst (λ (pages : ℕ). IsTallied (empty_change shown.page_size pages) c.in_ok-tally-in-Header.field-0) (ap (λ (h : Header). h.commit) c.header.ensures)
    (c.in_ok-tally-in-Header.ensures shown.page_size))

pub returns-in-Page : goal.returns-in-Page
returns-in-Page c encoding next change sound tallied =
    let number = c.in-Page.number in
    let new = c.add.new.self in
    let valid : IsChange (change_after (Part.Page number) c.args.reader.now change) = (subst (λ (p : Part). IsSound p encoding next (change_after p c.args.reader.now change)) c.in-Page.is sound).1.valid in
    subst (λ (p : Part). IsTallied (change_after p c.args.reader.now change) new) (sym c.in-Page.is)
    (subst (λ (page : List ℕ). IsTallied (with_page change number page) new) c.page.ensures
    (page_tallied change number c.page.result.now c.args.tally.now new (subst (λ (page : List ℕ). IsChange (with_page change number page)) (sym c.page.ensures) valid) c.add.ensures.sums c.add.ensures.wal tallied))
