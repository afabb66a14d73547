-- Logs that get one more file, and logs that lose a front.
use Rattle.std.proofs.Common.{◌≡◌, ℕ, suc, zero, ◌-◌, ◌<◌, ◌≤◌, List, [], ◌∷◌, ◌++◌, length, drop, refl, sym, ◌∙◌, arith}
use Rattle.std.specs.List.{Contains}
use Rattle.std.proofs.lemmas.List.Sums.{fold-append}
use Rattle.std.proofs.lemmas.List.Elements.{All-contains_itself, All-drop, All-contains}
use Rattle.lf_base.specs.declared.pos.Pos.{Pos}
use Rattle.ltx_codec.specs.declared.file.Ltx.{Ltx}
use Rattle.ltx_codec.specs.Positions.{after, before, nowhere}
use Rattle.world_laws.specs.Store.{LeadTo, end_of}

pub end_of-push : (log : List Ltx) (file : Ltx) → end_of (log ++ file ∷ []) ≡ after file
unfolding end_of
end_of-push log file = fold-append (λ (_ : Pos) (f : Ltx). after f) nowhere log (file ∷ [])

pub end_of-one : (file : Ltx) → end_of (file ∷ []) ≡ after file
unfolding end_of
end_of-one file = refl

pub end_of-none : end_of [] ≡ nowhere
unfolding end_of
end_of-none = refl

pub end_of-drop : (count : ℕ) (log : List Ltx) → count < length log → end_of (drop count log) ≡ end_of log
unfolding end_of
end_of-drop zero log within = refl
end_of-drop (suc n) [] within = absurd (omega arith)
end_of-drop (suc n) (f ∷ []) within = absurd (omega arith)
end_of-drop (suc n) (f ∷ g ∷ fs) within = let below : n < length (g ∷ fs) = omega arith in end_of-drop n (g ∷ fs) below

-- the end stays where one file at least stays
pub end_of-pruned : (count keep : ℕ) (log : List Ltx) → 1 ≤ keep → count ≤ length log - keep → end_of (drop count log) ≡ end_of log
end_of-pruned zero keep [] some within = refl
end_of-pruned (suc n) keep [] some within = refl
end_of-pruned count keep (f ∷ fs) some within = end_of-drop count (f ∷ fs) (omega arith)

pub LeadTo-push : (start end : Pos) (log : List Ltx) (file : Ltx) → LeadTo start log end → before file ≡ end → LeadTo start (log ++ file ∷ []) (after file)
LeadTo-push start end [] file leads joins = (joins ∙ sym leads, refl)
LeadTo-push start end (f ∷ fs) file leads joins = (leads.0, LeadTo-push (after f) end fs file leads.1 joins)

pub LeadTo-drop : (start end : Pos) (count : ℕ) (log : List Ltx) → LeadTo start log end → (from : Pos) × LeadTo from (drop count log) end
LeadTo-drop start end zero log leads = (start, leads)
LeadTo-drop start end (suc n) [] leads = (start, leads)
LeadTo-drop start end (suc n) (f ∷ fs) leads = LeadTo-drop (after f) end n fs leads.1

pub Contains-drop : {X : Type 0} (count : ℕ) (xs : List X) (x : X) → Contains (drop count xs) x → Contains xs x
Contains-drop count xs x here = All-contains (λ y. Contains xs y) (drop count xs) x (All-drop (λ y. Contains xs y) count xs (All-contains_itself xs)) here

pub drop-nothing : (count : ℕ) (log : List Ltx) → log ≡ [] → drop count log ≡ []
drop-nothing zero log none = none
drop-nothing (suc n) [] none = refl
drop-nothing (suc n) (f ∷ fs) none = cc
