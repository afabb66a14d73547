use Rattle.std.proofs.Common.{ℕ, List, refl, ◌∙◌, ap, ◌++◌}
use Rattle.std.proofs.KnownBytes.{Keeps-refl}
use Rattle.httparse.specs.Grammar.{print_response}
use Rattle.txid_proxy.specs.Passing.{marked_head}
use Rattle.txid_proxy.proofs.replies.give_back_marked.Goals as goal

pub returns-in-Ok-clause-end : goal.returns-in-Ok-clause-end
returns-in-Ok-clause-end g c =
    let head = c.requires.0 in
    let rest = c.requires.1 in (
      c.as_slice.result.now ++ c.split_at.result.1.now,
      record {
        head = head;
        rest = rest;
        begins = c.requires.2;
        is = ap (λ (xs : List ℕ). xs ++ c.split_at.result.1.now) c.as_slice.ensures.value ∙ ap (λ (xs : List ℕ). c.put_marked.new.out.items ++ xs) c.split_at.ensures.back
            ∙ c.in-Ok.ensures.marked head rest c.requires.2.reads ∙ ap (λ (xs : List ℕ). xs ++ (print_response
            (marked_head head c.args.txid) ++ rest)) c.new-front.ensures.items;
      },
      c.say.ensures.end,
    )

pub returns-clause-end : goal.returns-clause-end
returns-clause-end g c =
    let head = c.requires.0 in
    let rest = c.requires.1 in (
      print_response (marked_head head c.args.txid) ++ rest,
      record { head = head; rest = rest; begins = c.requires.2; is = refl },
      (Keeps-refl (g.L.Link.taken c.args.link.now), refl),
    )
