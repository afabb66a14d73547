use Rattle.std.proofs.Common.{◌≡◌, ℕ, Bool, true, false, cond, List, [], None, ap, sym, subst, ◌∙◌}
use Rattle.std.specs.Prelude.{codes}
use Rattle.httparse.specs.Spans.{header_bytes}
use Rattle.stream_wire.specs.Head.{is_called}
use Rattle.txid_proxy.specs.Cookies.{nothing, pairs_behind, SaysFirst}
use Rattle.txid_proxy.proofs.cookies.field_says.Goals as goal

pub returns-then-is_called : goal.returns-then-is_called
returns-then-is_called c =
    let f = header_bytes c.args.bytes.now c.args.header in
    let e : is_called (codes "cookie") f.0 ≡ true = ap (is_called (codes "cookie")) (sym c.of.ensures) ∙ sym c.is_called.ensures ∙ c.if-is_called.true in
    subst (λ (b : Bool). SaysFirst (cond b (pairs_behind [] f.1) []) c.pairs_say.result) (sym e)
    (subst (λ (v : List ℕ). SaysFirst (pairs_behind [] v) c.pairs_say.result) c.of-then-is_called.ensures c.pairs_say.ensures)

pub returns-else-is_called : goal.returns-else-is_called
returns-else-is_called c =
    let f = header_bytes c.args.bytes.now c.args.header in
    let e : is_called (codes "cookie") f.0 ≡ false = ap (is_called (codes "cookie")) (sym c.of.ensures) ∙ sym c.is_called.ensures ∙ c.if-is_called.false in
    subst (λ (b : Bool). SaysFirst (cond b (pairs_behind [] f.1) []) None) (sym e) nothing
