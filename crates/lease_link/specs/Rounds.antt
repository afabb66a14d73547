-- A round and those by whom it asks, as contracts speak of them.
use Rattle.std.specs.Prelude.{◌≡◌, List}
use Rattle.lf_base.specs.declared.clock.Clock.{Ghosts as ClockGhosts}
use Rattle.lf_base.specs.declared.dialer.Dialer.{Ghosts as DialerGhosts}
use Rattle.link_session.specs.declared.steps.Steps.{Ghosts as StepsGhosts}
use Rattle.link_session.specs.Stands.{asker, AsksOn, Asker}
use Rattle.lease_link.specs.declared.round.Round.{Round}
use Rattle.lease_link.specs.Asking.{DialStand, dial_stand}
use Rattle.lease_link.specs.Keeping.{KeepStand, keep_stand}

-- the dials and the faults of the one by whom it dials
abbrev pub dialed_by : {T V C P L : Type 0} → DialerGhosts T L → Round T V C P → DialStand
dialed_by d round = dial_stand (d.dials round.dialer.now) (d.faults round.dialer.now)

-- where it stands, with these entries of the one that asks
abbrev pub round_stand : {T V C P L E : Type 0} → DialerGhosts T L → List E → Round T V C P → KeepStand E V
round_stand d entries round = keep_stand entries (dialed_by d round) round.service.now

-- who asks, and at which moments
abbrev pub asker_of : {S T V C P Q A O : Type 0} → StepsGhosts S Q A O → ClockGhosts C → Round T V C P → S → Asker
asker_of s c round steps = asker s c steps round.clock.now

-- it borrows the same of each
abbrev pub Borrows : {T V C P : Type 0} → Round T V C P → Round T V C P → Type 0
Borrows old new = (new.dialer.ghost_name ≡ old.dialer.ghost_name) × (new.service.ghost_name ≡ old.service.ghost_name)
    × (new.clock.ghost_name ≡ old.clock.ghost_name) × (new.pause.ghost_name ≡ old.pause.ghost_name)

-- IT GOES ON: it borrows the same, and asks by the same seat at the same desk, whose history goes on, and by a clock of the same test
abbrev pub RoundGoesOn : {S T V C P Q A O : Type 0} → StepsGhosts S Q A O → ClockGhosts C → Round T V C P → Round T V C P → S → S → Type 0
RoundGoesOn s c old new steps steps_now = Borrows old new × AsksOn s c steps steps_now old.clock.now new.clock.now
