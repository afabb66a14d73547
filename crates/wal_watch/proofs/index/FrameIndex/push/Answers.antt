use Rattle.std.proofs.Common.{ap, ◌∷◌, [], ◌++◌, ◌∙◌, ℕ, Option, arith}
use Rattle.wal_watch.proofs.IndexLemmas.{index-more}
use Rattle.wal_watch.proofs.index.FrameIndex.push.Goals as goal

pub returns-clause-index : goal.returns-clause-index
returns-clause-index c = λ contents h is.
    let old = c.args.self.now in
    let put = rw c.len-frame.ensures at c.in-Ok.ensures.updates in
    index-more contents c.args.self.now _ c.args.page h is (omega (arith, c.args.self.now.earlier.ok.0)) put
    (c.push_reserved.ensures.items ∙ ap (λ (e : Option ℕ). old.earlier.items ++ e ∷ []) c.in-Ok.ensures.old) c.push_reserved.ensures.len
