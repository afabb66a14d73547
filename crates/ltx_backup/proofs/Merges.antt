-- Files that join one another become one.
use Rattle.std.proofs.Common.{◌≡◌, ◌∙◌, ℕ, ◌-◌, ◌<◌, ◌≤◌, List, [], length, refl, sym, subst, arith}
use Rattle.std.proofs.lemmas.Option.{slice_get_within}
use Rattle.ltx_codec.specs.declared.file.Ltx.{Ltx}
use Rattle.ltx_compact.specs.Joining.{Joins, DoNotJoin, AllJoin, StandAt, FirstFails, IsWhy}
use Rattle.ltx_compact.specs.declared.fault.CompactFault.{CompactFault}
use Rattle.ltx_compact.specs.declared.fault.CompactFault.TheVariants as fault

-- a file that stands in a list is one of its places
within : (files : List Ltx) (place : ℕ) (before file : Ltx) → StandAt files place before file → place ≤ length files
within files place before file stand = omega (arith, slice_get_within files (place - 1) file stand.file_is, stand.second)

-- what joins has no reason not to
no_reason : (before file : Ltx) (place : ℕ) (why : CompactFault) → Joins before file → DoNotJoin before file place why → ⊥
no_reason before file place fault.Empty joins fails = fails
no_reason before file place (fault.Gap at) joins fails = fails.1 joins.transactions
no_reason before file place (fault.SumGap at want got) joins fails = fails.4 (fails.2 ∙ sym joins.sum ∙ sym fails.3)
no_reason before file place (fault.PageSize at) joins fails = fails.3 joins.page_size
no_reason before file place fault.NoMemory joins fails = fails

none_fails : (files : List Ltx) (why : CompactFault) → AllJoin files → FirstFails files why → ⊥
none_fails files why all fails = no_reason fails.before fails.file fails.place why (all.join fails.place fails.before fails.file (within files fails.place fails.before fails.file fails.stand) fails.stand) fails.fails

pub not_joined : (files : List Ltx) (why : CompactFault) → (why ≡ fault.NoMemory → ⊥) → IsWhy files why → AllJoin files → ⊥
not_joined files fault.Empty not is all = let some : 0 < length {A = Ltx} [] = subst (λ (l : List Ltx). 0 < length l) is all.some in absurd (omega (arith, some))
not_joined files (fault.Gap at) not is all = none_fails files (fault.Gap at) all is
not_joined files (fault.SumGap at want got) not is all = none_fails files (fault.SumGap at want got) all is
not_joined files (fault.PageSize at) not is all = none_fails files (fault.PageSize at) all is
not_joined files fault.NoMemory not is all = absurd (not refl)
