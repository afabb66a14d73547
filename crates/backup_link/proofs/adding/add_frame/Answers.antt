use Rattle.std.proofs.Common.{◌≡◌, ◌≢◌, ◌∙◌, List, ℕ, refl, sym, ap, subst}
use Rattle.stream_wire.specs.Frame.{name_of}
use Rattle.stream_wire.specs.declared.frame.Frame.{Frame}
use Rattle.stream_wire.specs.declared.frame.Frame.TheVariants as frame
use Rattle.backup_link.specs.Fetching.{foreign}
use Rattle.backup_link.proofs.Streams.{stops_by_bytes}
use Rattle.backup_link.proofs.adding.add_frame.Goals as goal

pub returns-then-not-is_same-clause-stops : goal.returns-then-not-is_same-clause-stops
returns-then-not-is_same-clause-stops g c =
    foreign c.args.frame refl (subst (λ (f : Frame). name_of f ≢ c.args.name.now) (sym c.in-Ltx.is) c.if-not-is_same.ensures)

pub returns-in-Ltx-clause-stops : goal.returns-in-Ltx-clause-stops
returns-in-Ltx-clause-stops g c =
    let same : c.args.frame ≡ frame.Ltx c.args.name.now c.as_slice.result.now =
    c.in-Ltx.is ∙ ap (λ (n : List ℕ). frame.Ltx n c.in-Ltx.bytes) c.if-not-is_same.ensures ∙ ap (λ (b : List ℕ). frame.Ltx c.args.name.now b) (sym c.as_slice.ensures)
    in
    stops_by_bytes c.args.name.now c.as_slice.result.now c.args.frame c.in-Err.why same c.in-Err.ensures.refused

pub returns-in-Ready-clause-stops : goal.returns-in-Ready-clause-stops
returns-in-Ready-clause-stops g c =
    foreign c.args.frame refl (subst (λ (f : Frame). name_of f ≢ c.args.name.now) (sym c.in-Ready.is) c.if-is_same.ensures)

pub returns-in-Drop-clause-stops : goal.returns-in-Drop-clause-stops
returns-in-Drop-clause-stops g c =
    foreign c.args.frame refl (subst (λ (f : Frame). name_of f ≢ c.args.name.now) (sym c.in-Drop.is) c.if-is_same-2.ensures)
