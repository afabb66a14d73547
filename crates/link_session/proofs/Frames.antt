-- Frames of a stream as a feed.
use Rattle.std.proofs.Common.{◌≡◌, ℕ, ◌+◌, List, [], ◌∷◌, ◌++◌, length, take, drop, Option, Some, None, Ok, sym, ap, refl, ◌∙◌, subst, append_assoc}
use Rattle.std.proofs.lemmas.List.{length-append, length-take-le, take-append-drop}
use Rattle.stream_wire.specs.declared.frame.Frame.{Frame}
use Rattle.stream_wire.specs.declared.feed.Fed.TheVariants as fed
use Rattle.stream_wire.specs.declared.wire_fault.WireFault.{WireFault}
use Rattle.stream_wire.specs.Front.{whole, BeginsWith}
use Rattle.stream_wire.specs.Feeding.{Feeding, Feeds}
use Rattle.link_session.specs.declared.stage.Stage.TheVariants as stages
use Rattle.link_session.specs.Reading.{Took}
use Rattle.link_session.specs.Frames.{bytes_of, held_by, frame_stage, IsFrame, IsFramePart}

pub frames_open : (met : Option WireFault) (ready : Option Frame) (held : List ℕ) → frame_stage met ready held ≡ stages.Open → (met ≡ None) × (ready ≡ None)
frames_open None None held e = (refl, refl)
frames_open None (Some frame) [] e = absurd cc
frames_open None (Some frame) (x ∷ xs) e = absurd cc
frames_open (Some fault) None held e = absurd cc
frames_open (Some fault) (Some frame) [] e = absurd cc
frames_open (Some fault) (Some frame) (x ∷ xs) e = absurd cc

pub frames_ready : (met : Option WireFault) (ready : Option Frame) (held : List ℕ) → frame_stage met ready held ≡ stages.Whole
    → (frame : Frame) × (met ≡ None) × (ready ≡ Some frame) × (held ≡ [])
frames_ready None None held e = absurd cc
frames_ready None (Some frame) [] e = (frame, refl, refl, refl)
frames_ready None (Some frame) (x ∷ xs) e = absurd cc
frames_ready (Some fault) None held e = absurd cc
frames_ready (Some fault) (Some frame) [] e = absurd cc
frames_ready (Some fault) (Some frame) (x ∷ xs) e = absurd cc

pub nothing_open : (old : Feeding) → frame_stage old.met old.ready old.held ≡ stages.Open → held_by old ≡ old.held
nothing_open old o = ap (λ r. bytes_of r old.held) (frames_open old.met old.ready old.held o).1

-- what a feed took of a piece that ended a frame
pub took_frame : (old new : Feeding) (piece : List ℕ) (used : ℕ) → frame_stage old.met old.ready old.held ≡ stages.Open → Feeds old piece (Ok (fed.Whole used)) new
    → Took (IsFrame old.limit) (IsFramePart old.limit) (held_by old) piece (held_by new) (frame_stage new.met new.ready new.held) (Some used)
took_frame old new piece used o f =
    let frame : Frame = f.0 in
    let text : List ℕ = old.held ++ take used piece in
    let glued : text ++ drop used piece ≡ old.held ++ piece = append_assoc old.held (take used piece) (drop used piece) ∙ ap (λ p. old.held ++ p) (take-append-drop used piece) in
    let count : length text ≡ length old.held + used = length-append old.held (take used piece) ∙ ap (λ n. length old.held + n) (length-take-le used piece f.1.within) in
    let begins : BeginsWith old.limit (text ++ drop used piece) (whole (length text)) =
    subst (λ (n : ℕ). BeginsWith old.limit (text ++ drop used piece) (whole n)) (sym count)
    (subst (λ (bytes : List ℕ). BeginsWith old.limit bytes (whole (length old.held + used))) (sym glued) f.1.ends) in
    let is : IsFrame old.limit text = record { more = drop used piece; begins = begins; frame = frame; bytes = f.1.text } in
    let held : held_by new ≡ text = ap held_by f.2 ∙ f.1.text in (
      subst (λ (bytes : List ℕ). IsFrame old.limit bytes) (sym held) is,
      f.1.within,
      held ∙ ap (λ bytes. bytes ++ take used piece) (sym (nothing_open old o)),
      ap (λ (n : Feeding). frame_stage n.met n.ready n.held) f.2,
    )

-- the same of a piece that ended none
pub took_part : (old new : Feeding) (piece : List ℕ) → frame_stage old.met old.ready old.held ≡ stages.Open → Feeds old piece (Ok fed.More) new
    → Took (IsFrame old.limit) (IsFramePart old.limit) (held_by old) piece (held_by new) (frame_stage new.met new.ready new.held) None
took_part old new piece o f =
    let held : held_by new ≡ old.held ++ piece = ap held_by f.1 in (
      subst (λ (bytes : List ℕ). IsFramePart old.limit bytes) (sym held) f.0,
      held ∙ ap (λ bytes. bytes ++ piece) (sym (nothing_open old o)),
      ap (λ (n : Feeding). frame_stage n.met n.ready n.held) f.1,
    )
