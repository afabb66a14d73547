-- A store is the same with more room.
use Rattle.std.proofs.Common.{◌≡◌, ℕ, Bool, List, sym, subst}
use Rattle.lf_disk.specs.History.{History}
use Rattle.world_laws.specs.Store.{MayBeFound}
use Rattle.txn_log.specs.declared.entry.Entry.{Entry}
use Rattle.txn_log.specs.declared.entry.Attempt.{Attempt}
use Rattle.txn_log.specs.Calls.{RestsAs}
use Rattle.txn_log.specs.Store.{IsStore, IsShaped, state_of, failed_of}

module _ (entries entries' : List Entry) (sums sums' : List ℕ) (same_entries : entries' ≡ entries) (same_sums : sums' ≡ sums) where
  pub shaped-same : (commit : ℕ) (dropped : Bool) → IsShaped commit entries dropped sums → IsShaped commit entries' dropped sums'
  shaped-same commit dropped is =
      subst (λ (es : List Entry). IsShaped commit es dropped sums') (sym same_entries) (subst (λ (s : List ℕ). IsShaped commit entries dropped s) (sym same_sums) is)

  pub kept-same : (h : History) (size commit : ℕ) (dropped broken : Bool) (whole tried : ℕ) → IsStore h size commit entries dropped sums broken whole tried → IsStore h size commit entries' dropped sums' broken whole tried
  kept-same h size commit dropped broken whole tried is =
      subst (λ (es : List Entry). IsStore h size commit es dropped sums' broken whole tried) (sym same_entries) (subst (λ (s : List ℕ). IsStore h size commit entries dropped s broken whole tried) (sym same_sums) is)

  pub left-same : (h : History) (size commit : ℕ) (dropped broken : Bool) (whole tried : ℕ) (attempt : Attempt)
      → RestsAs (MayBeFound (state_of h size commit entries dropped broken whole) (failed_of h broken attempt tried)) h → RestsAs (MayBeFound (state_of h size commit entries' dropped broken whole) (failed_of h broken attempt tried)) h
  left-same h size commit dropped broken whole tried attempt is =
      subst (λ (es : List Entry). RestsAs (MayBeFound (state_of h size commit es dropped broken whole) (failed_of h broken attempt tried)) h) (sym same_entries) is
