-- Nodes that are looked at, once and again.
use Rattle.std.proofs.Common.{◌≡◌, ◌∙◌, ◌==◌, [], Bool, IsTrue, Option, Some, None, if◌then◌else◌, inl, inr, sym, ap, subst, arith}
use Rattle.lf_base.specs.declared.pos.Pos.{Pos}
use Rattle.lf_sqlite_pages.specs.Image.{image_bytes}
use Rattle.world_laws.specs.Store.{StoreState}
use Rattle.lf_disk.specs.declared.disk.Disk.{Ghosts}
use Rattle.node_core.specs.declared.node.Node.{Node}
use Rattle.node_core.specs.Nodes.{NodeParts, history, parts_of}
use Rattle.node_core.specs.Stores.{StoreFields, position, state}
use Rattle.node_core.proofs.Committed.{rose-on}
use Rattle.cluster_drill.specs.Nodes.{IsAsBefore, IsUnread, Shows, database, place}
use Rattle.cluster_drill.specs.declared.shown.Shown.{Shown}

module _ {D : Type 0} {G : Ghosts D} where
  -- it stands where it stood
  pub place-kept : (old new : Node D G) → IsAsBefore old new → place new ≡ place old
  place-kept old new kept = ap (λ (s : StoreFields). position s) kept.read.same

  honest-kept : (old new : Node D G) → IsAsBefore old new → IsTrue (parts_of old).store.honest → IsTrue (parts_of new).store.honest
  honest-kept old new kept honest = subst (λ (b : Bool). IsTrue b) (sym (ap (λ (s : StoreFields). s.honest) kept.read.same)) honest

  -- looked at once and again
  pub looked-twice : (old mid new : Node D G) → IsAsBefore old mid → IsAsBefore mid new → IsAsBefore old new
  looked-twice old mid new one two = record {
    same = two.same ∙ ap (λ (p : NodeParts). record p { store = (parts_of new).store }) one.same;
    read = record {
      same = two.read.same ∙ ap (λ (s : StoreFields). record s { faults = (parts_of new).store.faults }) one.read.same;
      faults = omega (arith, one.read.faults, two.read.faults);
      state = λ honest. two.read.state (honest-kept old mid one honest) ∙ one.read.state honest;
      failed = λ honest. two.read.failed (honest-kept old mid one honest) ∙ one.read.failed honest;
    };
  }

  -- it could not be read, and was looked at behind that
  pub unread-since : (old mid new : Node D G) → IsUnread old mid → IsAsBefore mid new → IsUnread old new
  unread-since old mid new (inl broken) two = inl broken
  unread-since old mid new (inr rose) two = inr (omega (arith, rose.0, two.read.faults), omega (arith, rose.1, two.read.faults))

  -- it was looked at, and then could not be read
  pub unread-then : (old mid new : Node D G) → IsAsBefore old mid → IsUnread mid new → IsUnread old new
  unread-then old mid new one (inl broken) = inl (sym (ap (λ (s : StoreFields). s.broken) one.read.same) ∙ broken)
  unread-then old mid new one (inr rose) = inr (rose-on _ _ _ one.read.faults rose)

  -- it has the bytes that it had
  database-kept : (old new : Node D G) → IsAsBefore old new → IsTrue (parts_of old).store.honest → database new ≡ database old
  database-kept old new kept honest =
      ap (λ (p : Pos). if p.txid == 0 then [] else image_bytes (state (history new) (parts_of new).store).image) (place-kept old new kept)
      ∙ ap (λ (s : StoreState). if (place old).txid == 0 then [] else image_bytes s.image) (kept.read.state honest)

  -- it was looked at, and then shows what it showed
  pub shows-then : (old mid new : Node D G) → IsTrue (parts_of old).store.honest → IsAsBefore old mid → (shown : Option Shown) → Shows mid new shown
      → Shows old new shown
  shows-then old mid new honest one (Some shown) shows = (shows.0 ∙ place-kept old mid one, shows.1 ∙ database-kept old mid one honest)
  shows-then old mid new honest one None unread = unread-then old mid new one unread
