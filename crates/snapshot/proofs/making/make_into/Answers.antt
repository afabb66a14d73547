use Rattle.std.proofs.Common.{◌≡◌, ◌<◌, ℕ, List, [], inl, inr, length, refl, sym, ◌∙◌, ap, subst, arith}
use Rattle.std.specs.Io.KnownBytes.{Appends}
use Rattle.std.proofs.KnownBytes.{Appends-nil}
use Rattle.std.proofs.lemmas.Bool.{cases_lt}
use Rattle.lf_disk.specs.History.{now}
use Rattle.lf_sqlite_pages.specs.Writes.{data_writes}
use Rattle.lf_sqlite_pages.proofs.LockPages.{page_size-positive}
use Rattle.ltx_codec.specs.Format.{file_encoding, no_meaning, pages_encoding}
use Rattle.world_laws.specs.Answers.{snapshot_of}
use Rattle.txn_log.proofs.Moves.{moved-none}
use Rattle.txn_log.proofs.PagesRead.{count}
use Rattle.txn_log.specs.Store.{image_in, state_of, failed_of}
use Rattle.snapshot.specs.Output.{AppendsPrefix}
use Rattle.snapshot.specs.Pages.{HasPages}
use Rattle.snapshot.specs.Parts.{parts_encoding}
use Rattle.snapshot.proofs.MakeLemmas.{snapshot_encoding}
use Rattle.snapshot.proofs.OutputLemmas.{map_on_ok, map_on_err}
use Rattle.snapshot.proofs.StoreLemmas.{kept_still, left_still, mode_still, moved_still, has_pages, image_now, page_size-most}
use Rattle.snapshot.proofs.making.make_into.Goals as goal

pub returns-then-store-clause-prefix : goal.returns-then-store-clause-prefix
returns-then-store-clause-prefix g c honest = ([], (_, refl), Appends-nil (g.K.Sink.taken c.args.sink.now))

pub returns-then-store-clause-went : goal.returns-then-store-clause-went
returns-then-store-clause-went g c honest =
    let s = c.args.store.now in
    let h = g.D.Disk.history s.disk in
    moved-none (state_of h s.page_size s.commit s.entries.items s.dropped s.broken s.whole) (failed_of h s.broken s.attempt s.tried) h (s.left honest)

pub split_at_mut-page-requires : goal.split_at_mut-page-requires
split_at_mut-page-requires g c = elim (cases_lt 0 c.args.store.now.page_size) [
  | inl some ↦ omega (arith, page_size-most c.args.store.now.page_size (c.args.store.now.sized.sized some), c.requires.room)
  | inr none ↦ omega (arith, none)
]

pub write_parts-requires-clause-some : goal.write_parts-requires-clause-some
write_parts-requires-clause-some g c some =
    let has : 0 < c.args.store.now.commit = subst (λ h. 0 < h.commit) c.header_of-header.ensures some in
    omega (arith, page_size-positive c.args.store.now.page_size (c.args.store.now.sized.pages has), c.split_at_mut-page.ensures.front_len)

pub invariant_of-store : goal.invariant_of-store
invariant_of-store g c =
    let s = c.args.store.now in
    let h = g.D.Disk.history s.disk in
    let new = g.D.Disk.history c.write_parts.new.disk in
    let rests = c.write_parts.ensures.rests in
    record {
      shaped = s.shaped;
      sized = s.sized;
      kept = λ still. kept_still h new rests s.page_size s.commit s.entries.items s.dropped s.broken s.whole c.if-store.false s.sums.sums s.tried (s.kept (sym c.write_parts.ensures.honest ∙ still));
      left = λ still. left_still h new rests s.page_size s.commit s.entries.items s.dropped s.broken s.whole c.if-store.false s.attempt s.tried (s.left (sym c.write_parts.ensures.honest ∙ still));
      mode = λ still. mode_still h new rests s.page_size s.commit s.entries.items s.dropped s.broken s.whole c.if-store.false s.wal (s.mode (sym c.write_parts.ensures.honest ∙ still));
    }

pub returns-clause-went : goal.returns-clause-went
returns-clause-went g c honest =
    let s = c.args.store.now in
    moved_still (g.D.Disk.history s.disk) (g.D.Disk.history c.write_parts.new.disk) c.write_parts.ensures.rests s.page_size s.commit s.entries.items s.dropped s.broken s.whole c.if-store.false s.attempt s.tried (s.left honest)

pub returns-clause-whole : goal.returns-clause-whole
returns-clause-whole g c honest =
    let s = c.args.store.now in
    let h = g.D.Disk.history s.disk in
    let store = state_of h s.page_size s.commit s.entries.items s.dropped s.broken s.whole in
    let size : length c.split_at_mut-page.result.0.now ≡ s.page_size = c.split_at_mut-page.ensures.front_len in
    let has = has_pages h s.page_size s.commit s.entries.items s.dropped s.broken s.sums.sums s.whole s.tried c.if-store.false (s.kept honest) in
    let commit : c.header_of-header.result.commit ≡ s.commit = ap (λ k. k.commit) c.header_of-header.ensures in
    let has_it : HasPages (length c.split_at_mut-page.result.0.now) c.header_of-header.result.commit (now h) =
    subst (λ (n : ℕ). HasPages n c.header_of-header.result.commit (now h)) (sym size) (subst (λ (n : ℕ). HasPages s.page_size n (now h)) (sym commit) has) in
    let image = image_in s.page_size s.commit (now h) in
    let encoding : parts_encoding c.header_of-header.result (pages_encoding (data_writes image)) c.pos-position.result.sum ≡ file_encoding (snapshot_of store) no_meaning =
    snapshot_encoding store image c.header_of-header.result s.commit c.pos-position.result c.parts_are_the_encoding.ensures.finish
    (image_now h s.page_size s.commit s.whole s.broken c.if-store.false) c.header_of-header.ensures (count s.page_size s.commit (now h)) (c.pos-position.ensures.told honest) in
    let same : parts_encoding c.header_of-header.result (pages_encoding (data_writes (image_in (length c.split_at_mut-page.result.0.now) c.header_of-header.result.commit (now h)))) c.pos-position.result.sum ≡ file_encoding (snapshot_of store) no_meaning =
    (λ i. parts_encoding c.header_of-header.result (pages_encoding (data_writes (image_in (size i) (commit i) (now h)))) c.pos-position.result.sum) ∙ encoding in
    map_on_ok c.write_parts.result _ _ (λ whole. subst (λ (l : List ℕ). Appends (g.K.Sink.taken c.args.sink.now) (g.K.Sink.taken c.write_parts.new.sink) l) same whole) (c.write_parts.ensures.whole honest has_it)

pub returns-clause-prefix : goal.returns-clause-prefix
returns-clause-prefix g c honest =
    let s = c.args.store.now in
    let h = g.D.Disk.history s.disk in
    let store = state_of h s.page_size s.commit s.entries.items s.dropped s.broken s.whole in
    let size : length c.split_at_mut-page.result.0.now ≡ s.page_size = c.split_at_mut-page.ensures.front_len in
    let has = has_pages h s.page_size s.commit s.entries.items s.dropped s.broken s.sums.sums s.whole s.tried c.if-store.false (s.kept honest) in
    let commit : c.header_of-header.result.commit ≡ s.commit = ap (λ k. k.commit) c.header_of-header.ensures in
    let has_it : HasPages (length c.split_at_mut-page.result.0.now) c.header_of-header.result.commit (now h) =
    subst (λ (n : ℕ). HasPages n c.header_of-header.result.commit (now h)) (sym size) (subst (λ (n : ℕ). HasPages s.page_size n (now h)) (sym commit) has) in
    let image = image_in s.page_size s.commit (now h) in
    let encoding : parts_encoding c.header_of-header.result (pages_encoding (data_writes image)) c.pos-position.result.sum ≡ file_encoding (snapshot_of store) no_meaning =
    snapshot_encoding store image c.header_of-header.result s.commit c.pos-position.result c.parts_are_the_encoding.ensures.finish
    (image_now h s.page_size s.commit s.whole s.broken c.if-store.false) c.header_of-header.ensures (count s.page_size s.commit (now h)) (c.pos-position.ensures.told honest) in
    let same : parts_encoding c.header_of-header.result (pages_encoding (data_writes (image_in (length c.split_at_mut-page.result.0.now) c.header_of-header.result.commit (now h)))) c.pos-position.result.sum ≡ file_encoding (snapshot_of store) no_meaning =
    (λ i. parts_encoding c.header_of-header.result (pages_encoding (data_writes (image_in (size i) (commit i) (now h)))) c.pos-position.result.sum) ∙ encoding in
    map_on_err c.write_parts.result _ _ (λ prefix. subst (λ (l : List ℕ). AppendsPrefix (g.K.Sink.taken c.args.sink.now) (g.K.Sink.taken c.write_parts.new.sink) l) same prefix) (c.write_parts.ensures.prefix honest has_it)
