use Rattle.std.proofs.Common.{IsSomeAnd, codes}
use Rattle.toml.specs.View.{table_view}
use Rattle.node_settings.specs.declared.fuse_table.FuseSettings.{FuseSettings}
use Rattle.node_settings.specs.declared.fuse_table.FuseTable.{FuseTable}
use Rattle.node_settings.specs.Configuration.{IsFuse, IsFuseTable, dir_of, program_of}
use Rattle.node_settings.specs.Values.{section}
use Rattle.node_settings.proofs.Answering.{passed}
use Rattle.node_settings.proofs.fuse_table.fuse.Goals as goal

pub returns-in_err-table : goal.returns-in_err-table
returns-in_err-table c =
    let found = section (codes "fuse") (table_view c.args.root.now) in
    passed (λ (x : FuseTable). IsSomeAnd found (λ t. IsFuseTable t x.socket x.dir x.program)) (λ (x : FuseSettings). IsSomeAnd found (λ t. IsFuse t x.socket x.mount)) _
    c.from_residual.result (λ (s : FuseSettings) is. (record { socket = s.socket; dir = dir_of s.mount; program = program_of s.mount }, is)) c.from_residual.ensures.1 c.in_err-table.ensures
