-- What the cluster is told of the served files and of a node between two steps.
use Rattle.std.proofs.Common.{◌≡◌, Bool, true, false, Option, None, Some, refl, ap, subst}
use Rattle.std.specs.Prelude.{is_some, if◌then◌else◌}
use Rattle.std.specs.Option.{option_map}
use Rattle.byte_locks.specs.declared.owner.Owner.{Owner}
use Rattle.lf_disk.specs.History.{History}
use Rattle.lf_sqlite_pages.specs.Image.{DatabaseImage}
use Rattle.database_file.specs.DatabaseFile.{clean}
use Rattle.database_under_log.specs.Over.{Agrees}
use Rattle.file_view.specs.declared.view.Role.{Role}
use Rattle.file_view.specs.declared.view.Role.TheVariants as role
use Rattle.file_view.specs.Overlay.{IsOverImage}
use Rattle.file_view.specs.Served.{Served, log_contents}
use Rattle.world_laws.specs.Node as laws
use Rattle.world_laws.specs.Node.{IsSoundNode}
use Rattle.world_laws.specs.Served.{IsUnder, MeetsOverlay, ShareForReading}
use Rattle.node_core.specs.Nodes.{NodeParts, role_in, seen, served_over, writer_in}
use Rattle.node_core.specs.Roles.{law_role}
use Rattle.node_core.specs.Stores.{state}
use Rattle.node_core.proofs.Overlay.{agrees-but, agrees-clean, agrees-whole}

-- with a writer or without one
under : (s : Served) (image : DatabaseImage) (writer : Option Owner) → s.writer ≡ writer → IsOverImage s image
    → IsUnder (served_over s image) (option_map (writer_in s.database image) writer) image
under s image None none over =
    agrees-whole s.database image (log_contents s)
    (subst (λ (w : Option Owner). Agrees (if is_some w then clean s.database else s.database) image (log_contents s)) none over.agrees)
under s image (Some owner) some over = (
  agrees-but s.database image,
  agrees-clean s.database image (log_contents s)
      (subst (λ (w : Option Owner). Agrees (if is_some w then clean s.database else s.database) image (log_contents s)) some over.agrees),
)

-- files that stand over an image meet the overlay equation
pub meets : (s : Served) (image : DatabaseImage) → IsOverImage s image → MeetsOverlay (served_over s image) image
meets s image over = under s image s.writer refl over

-- what the laws name a replica is one
pub is-replica : (r : Role) → law_role r ≡ laws.Replica → r ≡ role.Replica
is-replica role.Replica same = refl
is-replica role.Primary same = absurd cc
is-replica role.Halted same = absurd cc

-- a primary is one to the laws
pub leads : (r : Role) → r ≡ role.Primary → law_role r ≡ laws.Primary
leads r is = ap law_role is

-- and no replica
pub apart : role.Primary ≡ role.Replica → ⊥
apart same = cc

-- what always holds of a node
pub sound : (h : History) (n : NodeParts) → IsOverImage n.files (state h n.store).image → ShareForReading n.files.locks → (role_in n ≡ role.Replica → n.files.writer ≡ None)
    → IsSoundNode (seen h n)
sound h n over shares replica = record {
  overlay = meets n.files (state h n.store).image over;
  shares = shares;
  replica = λ same. ap (λ w. option_map (writer_in n.files.database (state h n.store).image) w) (replica (is-replica (role_in n) same));
}
