use Rattle.std.proofs.Common.{◌∙◌, All, List, [], ◌∷◌, ◌++◌, ap, subst, sym}
use Rattle.std.proofs.lemmas.List.Elements.{All-cons, All-nil}
use Rattle.node_objects.specs.MemMaker.{IsNewDisk}
use Rattle.tool_rows.proofs.backing.three_disks.Goals as goal

pub returns : goal.returns
returns g c =
    let first = c.in_ok-disk_with.field-0 in
    let second = c.in_ok-disk_with-2.field-0 in
    let third = c.in_ok-disk_with-3.field-0 in
    subst (λ l. All IsNewDisk l)
    (sym (c.in_ok-push-2.ensures.items ∙ ap (λ l. l ++ third ∷ []) (c.in_ok-push.ensures.items ∙ ap (λ l. l ++ second ∷ []) c.in_ok-disks.ensures)))
    (All-cons IsNewDisk first (second ∷ third ∷ []) c.in_ok-disk_with.ensures
    (All-cons IsNewDisk second (third ∷ []) c.in_ok-disk_with-2.ensures (All-cons IsNewDisk third [] c.in_ok-disk_with-3.ensures (All-nil IsNewDisk))))
