use Rattle.std.proofs.Common.{ℕ, List, [], ◌∷◌, ◌++◌, ◌∙◌, ap, sym, length, take, drop, append_assoc}
use Rattle.std.specs.List.{filter}
use Rattle.std.proofs.Math.Seq.{drop-append_seam}
use Rattle.httparse.specs.Grammar.{print_section}
use Rattle.txid_proxy.specs.Passing.{close_field, is_passed}
use Rattle.txid_proxy.proofs.FieldLines.{take_front, then_ok}
use Rattle.txid_proxy.proofs.Starts.{cut_request}
use Rattle.txid_proxy.proofs.passing.put_passed.Goals as goal

pub returns : goal.returns
returns c = then_ok c.put_fields.result _ _
    (λ more. λ h is e.
    let cut = cut_request h is in
    let section : List ℕ = print_section h.fields h.last in
    let passed : List ℕ = print_section (filter is_passed h.fields ++ close_field ∷ []) h.last in
    let parts = e ∙ cut.cut h.fields in
    let len = c.start_length.ensures.start cut.start section cut.is parts in
    let front = c.split_at.ensures.front ∙ ap (take c.start_length.result) parts ∙ take_front cut.start section c.start_length.result len in
    let behind = c.split_at.ensures.back ∙ ap (λ (n : ℕ). drop n c.args.head.now) len ∙ ap (drop (length cut.start)) parts ∙ drop-append_seam cut.start section in
    more h.fields h.last is.fields behind
    ∙ ap (λ (xs : List ℕ). xs ++ passed) (c.in_ok-put.ensures ∙ ap (λ (xs : List ℕ). c.args.out.now.items ++ xs) front)
    ∙ append_assoc c.args.out.now.items cut.start passed
    ∙ ap (λ (xs : List ℕ). c.args.out.now.items ++ xs) (sym (cut.cut (filter is_passed h.fields ++ close_field ∷ []))))
    c.put_fields.ensures
