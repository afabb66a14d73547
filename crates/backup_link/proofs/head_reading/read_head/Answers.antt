use Rattle.std.proofs.Common.{◌≡◌, ◌∙◌, ◌++◌, ◌∷◌, [], List, ℕ, inl, refl, sym, ap, subst, rules, arith}
use Rattle.httparse.specs.Grammar.{HasNoResponse}
use Rattle.http_exchange.specs.Reading.{Gave}
use Rattle.http_exchange.proofs.Giving.{gave_none}
use Rattle.http_exchange.proofs.Replies.{refused}
use Rattle.stream_wire.specs.Head.{IsResponse, NeverTakesResponse}
use Rattle.stream_wire.proofs.Heads.{never_more}
use Rattle.backup_link.proofs.Heads.{all_of_it, byte_on, no_byte, none_is_no_head}
use Rattle.backup_link.proofs.head_reading.read_head.Goals as goal

pub bytes-init : goal.bytes-init
bytes-init g c =
    let empty : c.new-head.result.items ++ c.args.piece.now ≡ [] = ap (λ (l : List ℕ). l ++ c.args.piece.now) c.new-head.ensures.items ∙ c.requires in
    record {
      none = subst HasNoResponse (sym c.new-head.ensures.items) none_is_no_head;
      gave = subst (λ (bytes : List ℕ). Gave g.L.Link c.args.link.now c.args.link.now bytes) (sym empty) (gave_none g.L.Link c.args.link.now);
      turns = omega arith;
      count = refl;
    }

pub returns-in-Err-clause-none : goal.returns-in-Err-clause-none
returns-in-Err-clause-none g c =
    no_byte g.L.Link c.args.link.now c.bytes.link c.next_byte.new.link c.bytes.head.items c.bytes.piece c.in-Err.why c.bytes.invariant.none c.bytes.invariant.gave c.in-Err.ensures.none

pub returns-in-Err-push-clause-none : goal.returns-in-Err-push-clause-none
returns-in-Err-push-clause-none g c = record {
  bytes = (c.bytes.head.items ++ c.in-Ok.byte ∷ []) ++ c.next_byte.new.piece;
  gave = byte_on g.L.Link c.args.link.now c.bytes.link c.next_byte.new.link c.bytes.head.items c.bytes.piece c.next_byte.new.piece c.in-Ok.byte c.bytes.invariant.gave c.in-Ok.ensures.byte;
  why_is = tt;
}

pub returns-in-Ok-Whole-clause-head : goal.returns-in-Ok-Whole-clause-head
returns-in-Ok-Whole-clause-head g c =
    let bytes : c.as_slice.result.now ≡ c.bytes.head.items ++ c.in-Ok.byte ∷ [] = search rules in
    let is : IsResponse (c.bytes.head.items ++ c.in-Ok.byte ∷ []) c.in-Ok-Whole.field-0-0 c.in-Ok-Whole.status c.in-Ok-Whole.field-0-2 =
    subst (λ (l : List ℕ). IsResponse l c.in-Ok-Whole.field-0-0 c.in-Ok-Whole.status c.in-Ok-Whole.field-0-2) bytes (rw c.in-Ok-Whole.field-0-is at c.in-Ok-Whole.ensures)
    in
    record {
      head = c.bytes.head.items ++ c.in-Ok.byte ∷ [];
      gave = byte_on g.L.Link c.args.link.now c.bytes.link c.next_byte.new.link c.bytes.head.items c.bytes.piece c.next_byte.new.piece c.in-Ok.byte c.bytes.invariant.gave c.in-Ok.ensures.byte;
      whole = all_of_it c.bytes.head.items c.in-Ok.byte c.in-Ok-Whole.field-0-0 c.in-Ok-Whole.status c.in-Ok-Whole.field-0-2 c.bytes.invariant.none is;
    }

pub returns-in-Err-read_response-clause-none : goal.returns-in-Err-read_response-clause-none
returns-in-Err-read_response-clause-none g c =
    let bytes : c.as_slice.result.now ≡ c.bytes.head.items ++ c.in-Ok.byte ∷ [] = search rules in
    let never = subst NeverTakesResponse bytes (refused c.as_slice.result.now c.in-Err-read_response.field-0 c.in-Err-read_response.ensures) in
    record {
      bytes = (c.bytes.head.items ++ c.in-Ok.byte ∷ []) ++ c.next_byte.new.piece;
      gave = byte_on g.L.Link c.args.link.now c.bytes.link c.next_byte.new.link c.bytes.head.items c.bytes.piece c.next_byte.new.piece c.in-Ok.byte c.bytes.invariant.gave c.in-Ok.ensures.byte;
      why_is = inl (never_more (c.bytes.head.items ++ c.in-Ok.byte ∷ []) c.next_byte.new.piece never);
    }
