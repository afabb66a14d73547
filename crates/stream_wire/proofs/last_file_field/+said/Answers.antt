use Rattle.std.proofs.Common.{ℕ, List, ◌∙◌, ap, sym, subst, map, drop, get_or, codes, Some}
use Rattle.httparse.specs.declared.spans.HeaderSpan.{HeaderSpan}
use Rattle.httparse.specs.Spans.{header_bytes}
use Rattle.stream_wire.specs.Head.{is_called}
use Rattle.stream_wire.specs.LastFile.{values_of, GoesOn, Values}
use Rattle.stream_wire.proofs.LastFields.{called, head_rest, all_behind}
use Rattle.stream_wire.proofs.last_file_field.+said.Goals as goal

pub returns : goal.returns
returns t c =
    let bytes = c.args.bytes.now in
    let headers = c.args.headers.now in
    let word = codes "litefs-last-file" in
    let none : HeaderSpan = record { name = record { start = 0; end = 0 }; value = record { start = 0; end = 0 } } in
    let is = sym (ap (λ (n : List ℕ). is_called word n) c.of.ensures) ∙ sym c.is_called.ensures ∙ c.if-not-is_called.false in
    let value = subst (λ (v : List ℕ). Values c.args.before v c.with_value-next.result) c.of-2.ensures c.with_value-next.ensures in
    let rest = subst (λ (hs : List HeaderSpan). GoesOn (Some c.with_value-next.result) (values_of (map (header_bytes bytes) hs)) c.said-2.result) (all_behind headers) c.said-2.ensures in
    subst (λ (hs : List HeaderSpan). GoesOn c.args.before (values_of (map (header_bytes bytes) hs)) c.said-2.result) (sym (head_rest headers none c.in-len1-up.len_at_least))
    (called c.args.before (header_bytes bytes (get_or headers 0 none)) (map (header_bytes bytes) (drop 1 headers)) c.with_value-next.result c.said-2.result is value rest)
