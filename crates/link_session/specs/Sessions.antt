-- A session and those by whom it asks, as contracts speak of them.
use Rattle.std.specs.Prelude.{◌≡◌}
use Rattle.lf_base.specs.declared.clock.Clock.{Ghosts as ClockGhosts}
use Rattle.lf_base.specs.declared.link.Link.{Ghosts as LinkGhosts}
use Rattle.turn_desk.specs.declared.history.Entry.{Entry}
use Rattle.link_session.specs.declared.session.Session.{Session}
use Rattle.link_session.specs.declared.steps.Steps.{Ghosts as StepsGhosts}
use Rattle.link_session.specs.Reading.{Held}
use Rattle.link_session.specs.Stands.{asker, stand, stand_with, AsksOn, Asker, Stand}

-- where it stands
abbrev pub stand_of : {S L C P Q A O : Type 0} → StepsGhosts S Q A O → LinkGhosts L → Session L C P → S → Stand (Entry Q A)
stand_of s l session steps = stand l session.link.now (s.entries steps)

-- the same, with what is held of its text
abbrev pub stand_holding : {S L C P Q A O : Type 0} → StepsGhosts S Q A O → LinkGhosts L → Held → Session L C P → S → Stand (Entry Q A)
stand_holding s l held session steps = stand_with l held session.link.now (s.entries steps)

-- who asks, and at which moments
abbrev pub asker_of : {S L C P Q A O : Type 0} → StepsGhosts S Q A O → ClockGhosts C → Session L C P → S → Asker
asker_of s c session steps = asker s c steps session.clock.now

-- it borrows the same of each
abbrev pub Borrows : {L C P : Type 0} → Session L C P → Session L C P → Type 0
Borrows old new = (new.link.ghost_name ≡ old.link.ghost_name) × (new.clock.ghost_name ≡ old.clock.ghost_name) × (new.pause.ghost_name ≡ old.pause.ghost_name)

-- IT GOES ON: it borrows the same, and asks by the same seat at the same desk, whose history goes on, and by a clock of the same test
abbrev pub SessionGoesOn : {S L C P Q A O : Type 0} → StepsGhosts S Q A O → ClockGhosts C → Session L C P → Session L C P → S → S → Type 0
SessionGoesOn s c old new steps steps_now = Borrows old new × AsksOn s c steps steps_now old.clock.now new.clock.now
