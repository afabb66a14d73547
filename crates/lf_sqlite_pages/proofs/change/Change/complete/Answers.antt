-- The pages that were missing are put behind the change's own, and sorted.
use Rattle.std.proofs.Common.{◌≡◌, ◌++◌, [], length, subst, sym, ◌∙◌, rules}
use Rattle.std.specs.List.Sorted.{IsPermutation, IsNonDecreasingBy}
use Rattle.std.proofs.lemmas.List.Sorted.{IsNonDecreasingBy-from_sort_by_key}
use Rattle.std.proofs.lemmas.List.{nil_from_length}
use Rattle.lf_sqlite_pages.specs.Change.{PageChange, IsChange}
use Rattle.lf_sqlite_pages.specs.declared.page_write.PageWrite.{PageWrite}
use Rattle.lf_sqlite_pages.proofs.Completed.{completed-made, IsChange-made, completed-none_missing}
use Rattle.lf_sqlite_pages.proofs.change.Change.complete.Goals.{then-not-is_empty+in_ok-append, else-not-is_empty}
use Rattle.lf_sqlite_pages.proofs.change.Change.complete.Goals as goal

-- the sorted pages, as the parts of a change
pub invariant_of-self-then-not-is_empty : goal.invariant_of-self-then-not-is_empty
invariant_of-self-then-not-is_empty c =
    let rises : IsNonDecreasingBy (λ w. w.number) c.sort_unstable_by_key.new.self.items =
    IsNonDecreasingBy-from_sort_by_key (λ (w : PageWrite). w.number) _ c.sort_unstable_by_key.ensures.sorted (λ a r q k. search rules)
    in
    let moved : IsPermutation (c.self.inside.pages.items ++ c.in_ok-missing.missing.items) c.sort_unstable_by_key.new.self.items =
    rw c.in_ok-append.ensures.items at c.sort_unstable_by_key.ensures.permutation
    in
    IsChange-made _ c.args.self.now _ c.args.pages c.self.invariant c.self.view_is
    (completed-made
    (record { page_size = c.self.inside.page_size; commit = c.self.inside.commit; pages = c.self.inside.pages.items })
    c.args.self.now c.args.pages c.in_ok-missing.missing.items c.sort_unstable_by_key.new.self.items
    c.self.invariant c.self.view_is c.in_ok-missing.ensures moved rises)

pub returns-clause-ok : goal.returns-clause-ok
returns-clause-ok c =
    let P : PageChange → Type 0 = λ change. IsChange change in
    elim c.if-not-is_empty.branch [
      | then-not-is_empty+in_ok-append w ↦
          let rises : IsNonDecreasingBy (λ v. v.number) w.sort_unstable_by_key.new.self.items =
          IsNonDecreasingBy-from_sort_by_key (λ (v : PageWrite). v.number) _ w.sort_unstable_by_key.ensures.sorted (λ a r q k. search rules)
          in
          let moved : IsPermutation (c.self.inside.pages.items ++ c.in_ok-missing.missing.items) w.sort_unstable_by_key.new.self.items =
          rw w.in_ok-append.ensures.items at w.sort_unstable_by_key.ensures.permutation
          in
          w.self-is
          ∙ completed-made
          (record { page_size = c.self.inside.page_size; commit = c.self.inside.commit; pages = c.self.inside.pages.items })
          c.args.self.now c.args.pages c.in_ok-missing.missing.items w.sort_unstable_by_key.new.self.items
          c.self.invariant c.self.view_is c.in_ok-missing.ensures moved rises
      | else-not-is_empty w ↦
          let count : length c.in_ok-missing.missing.items ≡ 0 = search rules in
          let none : c.in_ok-missing.missing.items ≡ [] = nil_from_length c.in_ok-missing.missing.items count in
          w.self-is
          ∙ sym (completed-none_missing c.args.self.now c.args.pages (subst P c.self.view_is c.self.invariant) (sym c.in_ok-missing.ensures ∙ none))
    ]
