-- A file is sent to the primary, again while a lock holds it back there.
use Rattle.std.specs.Prelude.{◌≡◌, ℕ, ◌+◌, ◌<◌, ◌==◌, Bool, false, List, [], ◌∷◌, ◌++◌, codes, Result, Ok, Err}
use Rattle.http_exchange.specs.declared.told.Told.{Told}
use Rattle.http_exchange.specs.declared.told.Untold.{Untold}
use Rattle.http_exchange.specs.Exchange.{Asked}
use Rattle.turn_desk.specs.History.{entry}
use Rattle.node_core.specs.declared.ask.Ask.TheVariants as ask
use Rattle.node_core.specs.declared.answer.Answer.{Answer}
use Rattle.file_session.specs.Asking.{FileEntry}
use Rattle.file_session.specs.Primary.{Exchanges, Phone}

-- a lock holds it back: the whole reply is 409 Held
abbrev pub IsHeldBack : Result Told Untold → Type 0
IsHeldBack (Ok told) = (told.status ≡ 409) × (told.body ≡ codes "Held\n")
IsHeldBack (Err why) = ⊥

-- it is accepted: the whole reply is 200
abbrev pub is_accepted : Result Told Untold → Bool
is_accepted (Ok told) = told.status == 200
is_accepted (Err why) = false

-- so many exchanges, one after another, each of which a lock held back
pub data AreHeldBack (tell : Type 0) (asked : Asked) (old : Phone) : ℕ → Phone → Type 0 where
  none : (new : Phone) → new ≡ old → AreHeldBack tell asked old 0 new
  again : (before : ℕ) (mid new : Phone) (told : Result Told Untold) → AreHeldBack tell asked old before mid → Exchanges tell asked mid new told → IsHeldBack told
      → AreHeldBack tell asked old (before + 1) new

-- A FILE IS SENT: again only where it was held back, and at most 100 times
pub record IsSent (tell : Type 0) (asked : Asked) (old new : Phone) (told : Result Told Untold) : Type 0 where
  pub count : ℕ
  pub mid : Phone
  pub before : AreHeldBack tell asked old count mid
  pub last : Exchanges tell asked mid new told
  pub most : count < 100
  pub settled : IsHeldBack told → count ≡ 99

-- a file was sent, and this entry made, by what was told; or none
abbrev pub Hears : Type 0 → Asked → ℕ → Phone → Phone → List FileEntry → List FileEntry → Answer → Type 0
Hears tell asked caller old new before now given =
    (told : Result Told Untold) × IsSent tell asked old new told × (now ≡ before ++ entry caller (ask.Forwarded (is_accepted told)) given ∷ [])

abbrev pub Sends : Type 0 → Asked → Phone → Phone → Type 0
Sends tell asked old new = (told : Result Told Untold) × IsSent tell asked old new told
