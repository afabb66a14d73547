use Rattle.std.proofs.Common.{List, ◌∷◌, [], ◌++◌, map, get_or, sym, ◌∙◌, ap}
use Rattle.std.proofs.lemmas.List.{map_push, take_more, take_all}
use Rattle.lf_disk.specs.declared.listing.Numbers.{Numbers}
use Rattle.txn_log.specs.declared.entry.Entry.{Entry}
use Rattle.node_recovery.specs.Listing.{numbers_of}
use Rattle.node_recovery.proofs.listing.entries_of.Goals as goal

pub loop-name-init : goal.loop-name-init
loop-name-init c = ap (λ (es : List Entry). map numbers_of es) c.new-entries.ensures.items

pub loop-name-preserved : goal.loop-name-preserved
loop-name-preserved c =
    let names = c.args.names.now in
    let i = c.loop-name.name-index in
    let none : Numbers = record { min = 0; max = 0 } in
    ap (λ (es : List Entry). map numbers_of es) c.in_ok-push.ensures.items
    ∙ map_push numbers_of c.loop-name.entries.items _
    ∙ ap (λ (ns : List Numbers). ns ++ get_or names i none ∷ []) c.loop-name.invariant
    ∙ sym (take_more names i none c.loop-name-test.true)

pub returns : goal.returns
returns c = c.loop-name.invariant ∙ take_all c.loop-name.name-index c.args.names.now c.loop-name-test.false
