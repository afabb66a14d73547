use Rattle.std.proofs.Common.{◌≡◌, ◌<◌, ◌∙◌, sym, ap, ℕ, List, arith}
use Rattle.wal_watch.specs.File.{Wal, contents_of}
use Rattle.wal_watch.specs.Frames.{committed_count, page_size_in}
use Rattle.wal_watch.proofs.ChangeLemmas.{latest_among}
use Rattle.wal_watch.proofs.PartLemmas.{contents-held}
use Rattle.wal_watch.proofs.file.WalFile.latest.Goals as goal

pub fill_page-requires-clause-size : goal.fill_page-requires-clause-size
fill_page-requires-clause-size c =
    let contents = contents_of c.args.self.now in
    let contents-is : contents_of c.args.self.now ≡ c.self.inside.contents.bytes = ap (λ (w : Wal). contents_of w) (sym c.self.view_is) ∙ contents-held c.self.inside c.self.invariant in
    let less = latest_among contents c.args.n 0 (committed_count contents) c.in-Some.frame (sym c.in-Some.ensures.latest) in
    c.page_size.ensures (omega (arith, less)) ∙ ap (λ (t : List ℕ). page_size_in t) contents-is

pub fill_page-requires-clause-whole : goal.fill_page-requires-clause-whole
fill_page-requires-clause-whole c =
    let contents = contents_of c.args.self.now in
    let less = latest_among contents c.args.n 0 (committed_count contents) c.in-Some.frame (sym c.in-Some.ensures.latest) in
    let some : 0 < committed_count (contents_of c.args.self.now) = omega (arith, less) in
    c.requires some ∙ sym (c.page_size.ensures some)
