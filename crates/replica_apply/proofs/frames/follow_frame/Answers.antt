use Rattle.std.proofs.Common.{ℕ, List, [], refl, sym, ap, ◌∙◌, append-nil}
use Rattle.stream_wire.specs.declared.frame.Frame.TheVariants as frame
use Rattle.stream_wire.specs.Frame.{frame_text}
use Rattle.replica_apply.specs.Asking.{file}
use Rattle.replica_apply.specs.Frames.{level}
use Rattle.replica_apply.proofs.frames.follow_frame.Goals as goal

pub returns-then-is_same-clause-end : goal.returns-then-is_same-clause-end
returns-then-is_same-clause-end g c =
    c.apply.ensures.end c.args.name.now (frame_text c.args.frame)
    (file c.in-Ltx.bytes (ap frame_text c.in-Ltx.is ∙ ap (λ (n : List ℕ). frame_text (frame.Ltx n c.in-Ltx.bytes)) c.if-is_same.ensures) refl)

pub returns-then-is_same-3-clause-end : goal.returns-then-is_same-3-clause-end
returns-then-is_same-3-clause-end g c = record {
  entries = [];
  round = level c.in-Ready.pos (ap frame_text c.in-Ready.is ∙ ap (λ (n : List ℕ). frame_text (frame.Ready n c.in-Ready.pos)) c.if-is_same-3.ensures) refl refl;
  asked = sym (append-nil (g.S.Steps.entries c.args.steps.now));
}
