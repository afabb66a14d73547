use Rattle.std.proofs.Common.{◌≡◌, ℕ, List, ◌++◌, length, take, Ok, arith, refl, sym, ap, subst, inr, ◌∙◌}
use Rattle.std.proofs.Math.Logic.{∥∥₁_elim}
use Rattle.std.proofs.Math.Bridge.{le_prop}
use denote.Struct.Props.{props}
use Rattle.std.proofs.lemmas.Result.{err_from_is_err_and}
use Rattle.lf_sqlite_pages.specs.PageSize.{IsPageSize}
use Rattle.lf_sqlite_pages.specs.Change.{PageChange, empty_change, with_page}
use Rattle.ltx_codec.specs.Fields.{AreBytes, stated_page_size}
use Rattle.ltx_codec.specs.Decoding.{FeedGives}
use Rattle.ltx_codec.specs.WholePages.{HasTaken, largest_page}
use Rattle.ltx_codec.specs.steps.ReadingParts.{ReadsPart, CountsSome}
use Rattle.ltx_codec.specs.declared.decoder.Decoder.{Decoder}
use Rattle.ltx_codec.specs.declared.header.Header.{Header}
use Rattle.ltx_codec.specs.declared.seen.Seen.{Seen}
use Rattle.ltx_codec.specs.declared.seen.Seen.TheVariants as seen
use Rattle.ltx_codec.proofs.ReaderLemmas.{refused_at, shown_size, taken_header, page_fits, taken_page, taken_more}
use Rattle.ltx_codec.proofs.FileLemmas.{taken_file}
use Rattle.ltx_codec.proofs.whole_pages.read_part.Goals as goal

-- what the decoder gives counts some of the piece
counts_some : (d : Decoder) (encoding piece : List ℕ) (s : Seen) → FeedGives d largest_page encoding piece (Ok s) → CountsSome piece s
counts_some d encoding piece seen.More gives = tt
counts_some d encoding piece (seen.Header used) gives = (gives.0, gives.1)
counts_some d encoding piece (seen.Page used number) gives = (gives.0, gives.1)
counts_some d encoding piece (seen.Whole used) gives = (gives.0, gives.1)

-- and that is a proposition
counts_prop : (piece : List ℕ) (s : Seen) → IsProp (CountsSome piece s)
counts_prop piece seen.More = hlevel props
counts_prop piece (seen.Header used) = hlevel le_prop
counts_prop piece (seen.Page used number) = hlevel le_prop
counts_prop piece (seen.Whole used) = hlevel le_prop

-- where neither a header nor a page ends, the change stays
part_or_file : (old new : Decoder) (change : PageChange) (encoding piece : List ℕ) (s : Seen) → HasTaken old change encoding → AreBytes piece → FeedGives new largest_page encoding piece (Ok s)
    → ((used : ℕ) → s ≡ seen.Header used → ⊥) → ((used number : ℕ) → s ≡ seen.Page used number → ⊥) → ReadsPart new change encoding piece (Ok s)
part_or_file old new change encoding piece seen.More taken fits gives no-header no-page = taken_more old new change encoding piece taken gives.0 gives.1
part_or_file old new change encoding piece (seen.Header used) taken fits gives no-header no-page = absurd (no-header used refl)
part_or_file old new change encoding piece (seen.Page used number) taken fits gives no-header no-page = absurd (no-page used number refl)
part_or_file old new change encoding piece (seen.Whole used) taken fits gives no-header no-page = record {
  is = taken_file old new change encoding piece used taken gives.1 fits gives.2 gives.3;
  fed = gives.3.fed;
}

pub returns-in_err-seen-clause-gives : goal.returns-in_err-seen-clause-gives
returns-in_err-seen-clause-gives c encoding taken =
    let p = err_from_is_err_and c.from_residual.result c.from_residual.ensures.1 in
    rw (p.1, p.2) (inr (refused_at (encoding ++ c.args.piece.now) c.in_err-seen.field-0.0 (c.in_err-seen.ensures.gives largest_page encoding taken.fed).0))

pub new-requires : goal.new-requires
new-requires c = ∥∥₁_elim c.requires (search props) (λ x.
    let gives = subst (λ (s : Seen). FeedGives c.feed.new.self largest_page x.0 c.args.piece.now (Ok s)) c.in-Header.is (c.in_ok-seen.ensures.gives largest_page x.0 x.1.fed) in
    let size : c.header-header.result.page_size ≡ stated_page_size (x.0 ++ take c.in-Header.used c.args.piece.now) = ap (λ (h : Header). h.page_size) (c.header-header.ensures ∙ gives.3.shown) in
    subst (λ (n : ℕ). IsPageSize n) (sym size) (shown_size c.feed.new.self (x.0 ++ take c.in-Header.used c.args.piece.now) gives.3))

pub returns-in-Header-clause-gives : goal.returns-in-Header-clause-gives
returns-in-Header-clause-gives c encoding taken =
    let gives = subst (λ (s : Seen). FeedGives c.feed.new.self largest_page encoding c.args.piece.now (Ok s)) c.in-Header.is (c.in_ok-seen.ensures.gives largest_page encoding taken.fed) in
    let header = c.header-header.ensures ∙ gives.3.shown in
    let same = c.new.ensures ∙ ap (λ (h : Header). empty_change h.page_size h.commit) header in
    subst (λ (change : PageChange). HasTaken c.feed.new.self change (encoding ++ take c.in-Header.used c.args.piece.now)) (sym same) (taken_header c.feed.new.self (encoding ++ take c.in-Header.used c.args.piece.now) gives.3)

pub returns-in-Header-clause-some : goal.returns-in-Header-clause-some
returns-in-Header-clause-some c = ∥∥₁_elim c.requires (counts_prop c.args.piece.now (seen.Header c.in-Header.used)) (λ x.
    counts_some c.feed.new.self x.0 c.args.piece.now (seen.Header c.in-Header.used)
    (subst (λ (s : Seen). FeedGives c.feed.new.self largest_page x.0 c.args.piece.now (Ok s)) c.in-Header.is (c.in_ok-seen.ensures.gives largest_page x.0 x.1.fed)))

pub push-requires-clause-ascending : goal.push-requires-clause-ascending
push-requires-clause-ascending c = ∥∥₁_elim c.requires (search props) (λ x.
    let gives = subst (λ (s : Seen). FeedGives c.feed.new.self largest_page x.0 c.args.piece.now (Ok s)) c.in-Page.is (c.in_ok-seen.ensures.gives largest_page x.0 x.1.fed) in
    (page_fits c.args.decoder.now c.feed.new.self c.args.change.now x.0 c.args.piece.now c.in-Page.used c.in-Page.number x.1 gives.0 gives.1 gives.2 gives.3).above)

pub push-requires-clause-within : goal.push-requires-clause-within
push-requires-clause-within c = ∥∥₁_elim c.requires (search props) (λ x.
    let gives = subst (λ (s : Seen). FeedGives c.feed.new.self largest_page x.0 c.args.piece.now (Ok s)) c.in-Page.is (c.in_ok-seen.ensures.gives largest_page x.0 x.1.fed) in
    (page_fits c.args.decoder.now c.feed.new.self c.args.change.now x.0 c.args.piece.now c.in-Page.used c.in-Page.number x.1 gives.0 gives.1 gives.2 gives.3).within)

pub push-requires-clause-holds_data : goal.push-requires-clause-holds_data
push-requires-clause-holds_data c lock = ∥∥₁_elim c.requires (λ x y. absurd x) (λ x.
    let gives = subst (λ (s : Seen). FeedGives c.feed.new.self largest_page x.0 c.args.piece.now (Ok s)) c.in-Page.is (c.in_ok-seen.ensures.gives largest_page x.0 x.1.fed) in
    (page_fits c.args.decoder.now c.feed.new.self c.args.change.now x.0 c.args.piece.now c.in-Page.used c.in-Page.number x.1 gives.0 gives.1 gives.2 gives.3).holds_data lock)

pub push-requires-clause-whole : goal.push-requires-clause-whole
push-requires-clause-whole c = ∥∥₁_elim c.requires (search props) (λ x.
    let gives = subst (λ (s : Seen). FeedGives c.feed.new.self largest_page x.0 c.args.piece.now (Ok s)) c.in-Page.is (c.in_ok-seen.ensures.gives largest_page x.0 x.1.fed) in
    ap length c.page.ensures ∙ (page_fits c.args.decoder.now c.feed.new.self c.args.change.now x.0 c.args.piece.now c.in-Page.used c.in-Page.number x.1 gives.0 gives.1 gives.2 gives.3).whole)

pub returns-in_ok-push-in-Page-clause-gives : goal.returns-in_ok-push-in-Page-clause-gives
returns-in_ok-push-in-Page-clause-gives c encoding taken =
    let gives = subst (λ (s : Seen). FeedGives c.feed.new.self largest_page encoding c.args.piece.now (Ok s)) c.in-Page.is (c.in_ok-seen.ensures.gives largest_page encoding taken.fed) in
    let same = c.in_ok-push-in-Page.ensures.ok ∙ ap (λ (page : List ℕ). with_page c.args.change.now c.in-Page.number page) c.page.ensures in
    subst (λ (change : PageChange). HasTaken c.feed.new.self change (encoding ++ take c.in-Page.used c.args.piece.now)) (sym same)
    (taken_page c.args.decoder.now c.feed.new.self c.args.change.now encoding c.args.piece.now c.in-Page.used c.in-Page.number taken gives.0 gives.1 gives.2 gives.3)

pub returns-in_ok-push-in-Page-clause-some : goal.returns-in_ok-push-in-Page-clause-some
returns-in_ok-push-in-Page-clause-some c = ∥∥₁_elim c.requires (counts_prop c.args.piece.now (seen.Page c.in-Page.used c.in-Page.number)) (λ x.
    counts_some c.feed.new.self x.0 c.args.piece.now (seen.Page c.in-Page.used c.in-Page.number)
    (subst (λ (s : Seen). FeedGives c.feed.new.self largest_page x.0 c.args.piece.now (Ok s)) c.in-Page.is (c.in_ok-seen.ensures.gives largest_page x.0 x.1.fed)))

pub returns-in_default-clause-gives : goal.returns-in_default-clause-gives
returns-in_default-clause-gives c encoding taken =
    part_or_file c.args.decoder.now c.feed.new.self c.args.change.now encoding c.args.piece.now c.in_ok-seen.seen taken (λ i. omega (arith, c.type_inv.piece i))
    (c.in_ok-seen.ensures.gives largest_page encoding taken.fed) c.in_default.not-Header c.in_default.not-Page

pub returns-in_default-clause-some : goal.returns-in_default-clause-some
returns-in_default-clause-some c = ∥∥₁_elim c.requires (counts_prop c.args.piece.now c.in_ok-seen.seen) (λ x.
    counts_some c.feed.new.self x.0 c.args.piece.now c.in_ok-seen.seen (c.in_ok-seen.ensures.gives largest_page x.0 x.1.fed))
