-- The last sums are taken out.
use Rattle.std.proofs.Common.{◌≡◌, ◌∙◌, ℕ, List, ap, drop, take, arith}
use Rattle.std.specs.Prelude.{bit_xor}
use Rattle.page_checksum.specs.Sums.{joined}
use Rattle.page_checksum.specs.Table.{PageSums}
use Rattle.page_checksum.proofs.JoinedLemmas.{joined-front, joined-short}
use Rattle.page_checksum.proofs.table.Sums.joined_to.Goals as goal

pub returns-then-len-pages : goal.returns-then-len-pages
returns-then-len-pages c =
    c.self.invariant.kept
    ∙ joined-short c.args.pages c.self.inside.sums.items (omega (arith, c.len.ensures, c.if-len-pages.true))
    ∙ ap (λ (t : PageSums). joined (take c.args.pages t.sums)) c.self.view_is

pub returns : goal.returns
returns c =
    let items : List ℕ = c.self.inside.sums.items in
    let past : c.joined_of.result ≡ joined (drop c.args.pages items) =
    c.joined_of.ensures ∙ ap joined (c.split_at.ensures.back ∙ ap (drop c.args.pages) c.as_slice.ensures.value) in
    ap (λ (x : ℕ). bit_xor x c.joined_of.result) c.self.invariant.kept
    ∙ ap (bit_xor (joined items)) past
    ∙ joined-front c.args.pages items
    ∙ ap (λ (t : PageSums). joined (take c.args.pages t.sums)) c.self.view_is
