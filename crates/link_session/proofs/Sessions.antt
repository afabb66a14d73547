-- Sessions that go on.
use Rattle.std.proofs.Common.{◌≡◌, refl, ◌∙◌}
use Rattle.lf_base.specs.declared.clock.Clock.{Ghosts as ClockGhosts}
use Rattle.link_session.specs.declared.session.Session.{Session}
use Rattle.link_session.specs.declared.steps.Steps.{Ghosts as StepsGhosts}
use Rattle.link_session.specs.Sessions.{asker_of, SessionGoesOn}
use Rattle.link_session.proofs.Stands.{same_asker}

module _ {S L C P Q A O : Type 0} (s : StepsGhosts S Q A O) (c : ClockGhosts C) where
  pub goes_on_here : (at : Session L C P) (steps : S) → SessionGoesOn s c at at steps steps
  goes_on_here at steps = ((refl, refl, refl), (refl, refl, (λ front h. h), refl))

  -- one call and then another
  pub goes_on_then : (first then last : Session L C P) (s0 s1 s2 : S) → SessionGoesOn s c first then s0 s1 → SessionGoesOn s c then last s1 s2 → SessionGoesOn s c first last s0 s2
  goes_on_then first then last s0 s1 s2 one other = (
    (other.0.0 ∙ one.0.0, other.0.1 ∙ one.0.1, other.0.2 ∙ one.0.2),
    (other.1.0 ∙ one.1.0, other.1.1 ∙ one.1.1, (λ front h. other.1.2 front (one.1.2 front h)), other.1.3 ∙ one.1.3),
  )

  -- who asks stays the same
  pub same_asker_of : (old new : Session L C P) (s0 s1 : S) → SessionGoesOn s c old new s0 s1 → asker_of s c new s1 ≡ asker_of s c old s0
  same_asker_of old new s0 s1 on = same_asker _ _ _ _ on.1.1 on.1.3
