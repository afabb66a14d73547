use Rattle.std.proofs.Common.{◌≡◌, arith, sym, ap, ◌∙◌, None, Some, List, ℕ, subst}
use Rattle.stream_wire.specs.Head.{framing, framing_of}
use Rattle.stream_wire.specs.Call.{Names}
use Rattle.stream_wire.proofs.Heads.{never_large, never_framed, few_fields}
use Rattle.stream_wire.proofs.head_reading.heard.Goals as goal

pub returns-then-spans-gt-HEAD_MAX : goal.returns-then-spans-gt-HEAD_MAX
returns-then-spans-gt-HEAD_MAX c =
    let h = c.requires.head in
    never_large c.args.bytes.now h.0 _ h.1.reads (omega (arith, h.1.len, c.if-spans-gt-HEAD_MAX.true))

pub returns-in_default : goal.returns-in_default
returns-in_default c =
    let h = c.requires.head in
    never_framed c.args.bytes.now h.0 _ h.1.reads (ap (λ (fs : List (List ℕ × List ℕ)). framing None fs) (sym h.1.fields) ∙ sym c.framing.ensures ∙ c.in_default.is)

pub returns : goal.returns
returns c =
    let h = c.requires.head in
    let said : framing_of h.0.fields ≡ Some c.in-Some.length = ap (λ (fs : List (List ℕ × List ℕ)). framing None fs) (sym h.1.fields) ∙ sym c.framing.ensures ∙ c.in-Some.is in
    record {
      head = h.0;
      said = c.in-Some.length;
      reads = h.1.reads;
      size_is = h.1.len;
      taken = record {
        size_fits = omega (arith, c.if-spans-gt-HEAD_MAX.false);
        count = few_fields c.args.bytes.now c.args.headers.now c.args.spans.headers h.0.fields h.1.fields c.requires.room;
        framed = said;
      };
      names = subst (λ (t : List ℕ). Names h.0.method t c.in_ok-call.call) (c.of-2.ensures ∙ h.1.path)
          (subst (λ (m : List ℕ). Names m c.of-2.result.now c.in_ok-call.call) (c.of.ensures ∙ h.1.method) c.in_ok-call.ensures);
      len_is = c.unwrap_or.ensures;
    }
