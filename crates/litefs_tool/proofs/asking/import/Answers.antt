use Rattle.std.proofs.Common.{◌∙◌, refl, subst, sym}
use Rattle.litefs_tool.specs.Asking.{IsPositionLine}
use Rattle.litefs_tool.specs.declared.command.Command.TheVariants.{Import}
use Rattle.litefs_tool.specs.declared.failure.Failure.TheVariants as failure
use Rattle.litefs_tool.proofs.AskLemmas.{ends_as, import_asked, other_body, other_status, succeeds, unread_goes, untold_goes, unwritten_goes, written_goes}
use Rattle.litefs_tool.proofs.asking.import.Goals as goal

pub returns-in_err-database : goal.returns-in_err-database
returns-in_err-database g c =
    ends_as _ (Import c.args.remote) _ _ _ _ _ _ c.from_residual.ensures.1
    (unread_goes _ c.args.remote _ _ _ _ _ c.in_err-database.ensures.lost c.in_err-database.ensures.cause refl)

pub returns-in_err-told : goal.returns-in_err-told
returns-in_err-told g c =
    let read = c.in_ok-database.ensures.whole in
    ends_as _ (Import c.args.remote) _ _ _ _ _ _ c.from_residual-in_err-told.ensures.1
    (untold_goes _ (Import c.args.remote) _ _ _ _ _ _
    (import_asked _ c.args.remote _ _ _ read.0 _ _ read.1 c.in_ok-database.ensures.cause (c.as_slice.ensures.value ∙ read.2)
    c.in_err-told.ensures.back c.in_err-told.ensures.cause))

pub returns-in_err-line : goal.returns-in_err-line
returns-in_err-line g c =
    let read = c.in_ok-database.ensures.whole in
    ends_as _ (Import c.args.remote) _ _ _ _ _ _ c.from_residual-in_err-line.ensures.1
    (rw c.in_err-line.ensures.0 (other_status _ (Import c.args.remote) _ _ _ _ _ c.in_ok-told.told c.in_err-line.ensures.1
    (import_asked _ c.args.remote _ _ _ read.0 _ _ read.1 c.in_ok-database.ensures.cause (c.as_slice.ensures.value ∙ read.2)
    c.in_ok-told.ensures.back c.in_ok-told.ensures.cause)))

pub returns-then-not-is_position_line : goal.returns-then-not-is_position_line
returns-then-not-is_position_line g c =
    let read = c.in_ok-database.ensures.whole in
    let has =
    import_asked _ c.args.remote _ _ _ read.0 _ _ read.1 c.in_ok-database.ensures.cause (c.as_slice.ensures.value ∙ read.2)
    c.in_ok-told.ensures.back c.in_ok-told.ensures.cause
    in
    other_body _ (Import c.args.remote) _ _ _ _ _ c.in_ok-line.line
    (λ bytes prints. let yes = c.if-not-is_position_line.ensures.1 (subst IsPositionLine (sym c.as_slice-2.ensures) prints.0) in absurd (cc))
    (succeeds _ (Import c.args.remote) _ _ _ c.in_ok-told.told _ c.in_ok-line.ensures has)

pub returns-in_err-say_imported : goal.returns-in_err-say_imported
returns-in_err-say_imported g c =
    let read = c.in_ok-database.ensures.whole in
    let has =
    import_asked _ c.args.remote _ _ _ read.0 _ _ read.1 c.in_ok-database.ensures.cause (c.as_slice.ensures.value ∙ read.2)
    c.in_ok-told.ensures.back c.in_ok-told.ensures.cause
    in
    let line = subst IsPositionLine c.as_slice-2.ensures (c.if-not-is_position_line.ensures.0 refl) in
    let prefix = rw c.as_slice-3.ensures at c.in_err-say_imported.ensures.prefix in
    ends_as _ (Import c.args.remote) _ _ _ _ failure.Output _ c.from_residual-in_err-say_imported.ensures.1
    (unwritten_goes _ (Import c.args.remote) _ _ _ _ c.in_ok-line.line _ (line, refl) prefix c.in_err-say_imported.ensures.cause
    (succeeds _ (Import c.args.remote) _ _ _ c.in_ok-told.told _ c.in_ok-line.ensures has))

pub returns : goal.returns
returns g c =
    let read = c.in_ok-database.ensures.whole in
    let has =
    import_asked _ c.args.remote _ _ _ read.0 _ _ read.1 c.in_ok-database.ensures.cause (c.as_slice.ensures.value ∙ read.2)
    c.in_ok-told.ensures.back c.in_ok-told.ensures.cause
    in
    let line = subst IsPositionLine c.as_slice-2.ensures (c.if-not-is_position_line.ensures.0 refl) in
    let whole = rw c.as_slice-3.ensures at c.in_ok-say_imported.ensures.whole in
    written_goes _ (Import c.args.remote) _ _ _ _ c.in_ok-line.line _ (line, refl) whole c.in_ok-say_imported.ensures.cause
    (succeeds _ (Import c.args.remote) _ _ _ c.in_ok-told.told _ c.in_ok-line.ensures has)
