use Rattle.std.proofs.Common.{◌≡◌, ◌+◌, ◌-◌, ◌∙◌, sym, ap, ℕ, List, arith}
use Rattle.wal_watch.specs.File.{Wal, contents_of}
use Rattle.wal_watch.specs.Frames.{committed_count}
use Rattle.wal_watch.proofs.CommitLemmas.{has_committed}
use Rattle.wal_watch.proofs.PartLemmas.{contents-held}
use Rattle.wal_watch.proofs.file.WalFile.last_size.Goals as goal

pub size_in-requires-clause-there : goal.size_in-requires-clause-there
size_in-requires-clause-there c =
    let contents-is : contents_of c.args.self.now ≡ c.self.inside.contents.bytes = ap (λ (w : Wal). contents_of w) (sym c.self.view_is) ∙ contents-held c.self.inside c.self.invariant in
    let count-is : c.committed-count.result ≡ committed_count c.self.inside.contents.bytes = c.committed-count.ensures ∙ ap (λ (t : List ℕ). committed_count t) contents-is in
    let back : c.committed-count.result - 1 + 1 ≡ c.committed-count.result = omega arith in
    rw back (has_committed c.self.inside.contents.bytes c.committed-count.result count-is (omega arith)).room
