-- What a reader answers.
use Rattle.std.specs.Prelude.{◌≡◌, Bool, true, false, Result, Ok, Err}
use Rattle.node_settings.specs.declared.settings_fault.SettingsFault.{SettingsFault}
use Rattle.node_settings.specs.declared.settings_fault.SettingsFault.TheVariants as fault

-- Ok with a value of which P holds, and Config only where it holds of none
abbrev pub Reads : {A : Type 0} → (A → Type 0) → Result A SettingsFault → Type 0
Reads P (Ok a) = P a
Reads {A} P (Err fault.Config) = (a : A) → P a → ⊥
Reads P (Err fault.NoMemory) = Unit {0}

-- whether a reader gave a value
abbrev pub Judges : {A : Type 0} → Result A SettingsFault → Bool → Type 0
Judges (Ok a) read = read ≡ true
Judges (Err fault.Config) read = read ≡ false
Judges (Err fault.NoMemory) read = ⊥
