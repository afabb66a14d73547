-- What is asked to take a permit.
use Rattle.std.proofs.Common.{◌≡◌, ℕ, Bool, true, false, List, [], ◌∷◌, ◌++◌, refl, ap, ◌∙◌, append_assoc}
use Rattle.std.specs.List.{AllByRecursion}
use Rattle.turn_desk.specs.History.{entry}
use Rattle.node_core.specs.declared.ask.Ask.{Ask}
use Rattle.node_core.specs.declared.ask.Ask.TheVariants as ask
use Rattle.file_session.specs.Asking.{FileEntry}
use Rattle.file_session.specs.Halting.{is_taking, IsTaking, IsWait, MayTake, Reaches, WaitsFor}

all_both : (P : FileEntry → Type 0) (xs ys : List FileEntry) → AllByRecursion P xs → AllByRecursion P ys → AllByRecursion P (xs ++ ys)
all_both P [] ys all more = more
all_both P (x ∷ xs) ys all more = (all.0, all_both P xs ys all.1 more)

pub taking_on : (a b c : List FileEntry) → IsTaking a b → IsTaking b c → IsTaking a c
taking_on a b c (first, each, all) (more, every, after) =
    (first ++ more, all_both MayTake first more each every, after ∙ ap (λ (es : List FileEntry). es ++ more) all ∙ append_assoc a first more)

waits_take : (caller txid : ℕ) (waits : List FileEntry) → AllByRecursion (IsWait caller txid) waits → AllByRecursion MayTake waits
waits_take caller txid [] each = tt
waits_take caller txid (one ∷ more) each = (record { is = ap is_taking each.0.asked }, waits_take caller txid more each.1)

pub reaches_taking : (caller txid : ℕ) (old new : List FileEntry) → Reaches caller txid old new → IsTaking old new
reaches_taking caller txid old new r =
    taking_on old r.mid new (r.waits.waits, waits_take caller txid r.waits.waits r.waits.each, r.waits.all)
    (entry caller ask.Where r.there ∷ [], (record { is = refl }, tt), r.all)

pub waits_taking : (caller txid : ℕ) (old new : List FileEntry) (there : Bool) → WaitsFor caller txid old new there → IsTaking old new
waits_taking caller txid old new true r = reaches_taking caller txid old new r
waits_taking caller txid old new false w = (w.waits, waits_take caller txid w.waits w.each, w.all)
