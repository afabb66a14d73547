-- A file is sent, and the node hears what became of it.
use Rattle.std.proofs.Common.{◌≡◌, ℕ, ◌+◌, ◌<◌, ◌≤◌, Bool, List, [], ◌∷◌, ◌++◌, Result, Ok, Err, IfOk, OnErr, refl, subst, arith}
use Rattle.turn_desk.specs.History.{entry}
use Rattle.http_exchange.specs.declared.told.Told.{Told}
use Rattle.http_exchange.specs.declared.told.Untold.{Untold}
use Rattle.http_exchange.specs.declared.told.Untold.TheVariants as untold
use Rattle.http_exchange.specs.Exchange.{Asked}
use Rattle.node_core.specs.declared.ask.Ask.TheVariants as ask
use Rattle.node_core.specs.declared.answer.Answer.{Answer}
use Rattle.file_session.specs.Asking.{FileEntry}
use Rattle.file_session.specs.Forwarding.{is_accepted, AreHeldBack, Hears, IsHeldBack, IsSent, Sends, none}
use Rattle.file_session.specs.Primary.{Exchanges, Phone, no_memory}

-- it was not held back the last time
pub sent_on : (tell : Type 0) (asked : Asked) (old mid new : Phone) (count : ℕ) (told : Result Told Untold) → AreHeldBack tell asked old count mid → Exchanges tell asked mid new told
    → count < 99 → (IsHeldBack told → ⊥) → IsSent tell asked old new told
sent_on tell asked old mid new count told before last few never =
    record { count = count; mid = mid; before = before; last = last; most = omega (arith, few); settled = λ held. absurd (never held) }

-- it was sent the hundredth time
pub sent_last : (tell : Type 0) (asked : Asked) (old mid new : Phone) (count : ℕ) (told : Result Told Untold) → AreHeldBack tell asked old count mid → Exchanges tell asked mid new told
    → count ≡ 99 → IsSent tell asked old new told
sent_last tell asked old mid new count told before last all =
    record { count = count; mid = mid; before = before; last = last; most = omega (arith, all); settled = λ held. all }

pub unsent : (tell : Type 0) (asked : Asked) (old : Phone) → IsSent tell asked old old (Err untold.NoMemory)
unsent tell asked old = record { count = 0; mid = old; before = none old refl; last = no_memory refl refl; most = omega arith; settled = λ held. absurd held }

pub hears_reply : {F : Type 0} (tell : Type 0) (asked : Asked) (caller : ℕ) (old new : Phone) (before now : List FileEntry) (told : Result Told Untold) (ok : Bool) (r : Result Answer F)
    → IsSent tell asked old new told → ok ≡ is_accepted told → IfOk r (λ given. now ≡ before ++ entry caller (ask.Forwarded ok) given ∷ []) → IfOk r (Hears tell asked caller old new before now)
hears_reply tell asked caller old new before now told ok (Ok given) sent is e =
    (told, sent, subst (λ (o : Bool). now ≡ before ++ entry caller (ask.Forwarded o) given ∷ []) is e)
hears_reply tell asked caller old new before now told ok (Err why) sent is e = tt

pub on_err : {X F P : Type 0} (r : Result X F) → P → OnErr r P
on_err (Ok x) p = tt
on_err (Err e) p = p
