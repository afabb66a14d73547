-- News of leases and of permits.
use Rattle.std.proofs.Common.{◌≡◌, ◌∙◌, ◌++◌, true, false, List, [], ◌∷◌, Option, None, Some, inl, refl, sym, ap, subst}
use Rattle.std.specs.Option.{option_map}
use Rattle.lf_disk.specs.History.{History}
use Rattle.lf_disk.proofs.Moments.{past_stays}
use Rattle.lf_sqlite_pages.specs.Image.{DatabaseImage}
use Rattle.file_view.specs.declared.view.Role.{Role}
use Rattle.file_view.specs.declared.view.Role.TheVariants as role
use Rattle.file_view.specs.Endings.{dropped}
use Rattle.file_view.specs.Overlay.{IsOverImage}
use Rattle.file_view.specs.Served.{Served, log_contents}
use Rattle.txn_log.specs.Calls.{Moved, RestsAs}
use Rattle.txn_log.proofs.Moves.{moved-none}
use Rattle.world_laws.specs.Answers.{Answers, LeavesUndone}
use Rattle.world_laws.specs.Node as laws
use Rattle.world_laws.specs.Node.{Answer, IsPlain, IsSoundNode, NodeState}
use Rattle.world_laws.specs.Served.{ShareForReading}
use Rattle.world_laws.specs.Step.{KeepsRole, Steady, nothing}
use Rattle.world_laws.specs.Store.{FailedBefore, Failure, MayBeFound, StoreCall}
use Rattle.node_core.specs.declared.standing.Standing.{Standing}
use Rattle.node_core.specs.Leasing.{StepsAs}
use Rattle.node_core.specs.Nodes.{NodeParts, file_over, frames_of, role_in, seen, stands}
use Rattle.node_core.specs.Roles.{files_at}
use Rattle.node_core.specs.Stores.{state}
use Rattle.node_core.proofs.Expired.{files-field, files-over, files-still, files-writer, role-in-force}
use Rattle.node_core.proofs.Sound.{is-replica, sound}
use Rattle.node_core.proofs.Steady.{steady-files}

none_some : {X : Type 0} (x : X) → None ≡ Some x → ⊥
none_some x same = cc

false_true : false ≡ true → ⊥
false_true same = cc

-- an ask after which the node may have another role, and of whose answer the laws say nothing
pub record IsNews (ask : laws.Ask) : Type 0 where
  pub keeps : (role later : laws.Role) → KeepsRole ask role later
  pub says : (old : NodeState) (role : laws.Role) (did : List StoreCall) (failed : Option Failure) (answer : Answer) (new : NodeState) → Answers old role ask did failed answer new

pub lease-news : IsNews laws.Lease
lease-news = record { keeps = λ role later. tt; says = λ old role did failed answer new. tt }

pub permit-news : IsNews laws.Permit
permit-news = record { keeps = λ role later. tt; says = λ old role did failed answer new. tt }

-- a step of news makes no call, and changes the role after it
news-safely : (h : History) (old new : NodeState) (ask : laws.Ask) (answer : Answer) → IsNews ask → new.store ≡ old.store → Moved old.store old.failed h [] None new.store new.failed h → LeavesUndone answer [] →
    (IsPlain old → IsPlain new → Steady old new) → IsSoundNode new → StepsAs old ask answer new h h
news-safely h old new ask answer news store moved undone steady sound_new = (
  record {
    facts = record {
      role = old.role;
      role_was = inl refl;
      role_is = news.keeps old.role new.role;
      did = [];
      failed = None;
      makes = nothing;
      tries = λ same. absurd (none_some FailedBefore same);
      can = moved.can;
      whole = moved.whole;
      store = moved.store;
      broken = moved.broken;
      rose = λ some. absurd (false_true some);
      answers = news.says old old.role [] None answer new;
      refused = undone;
      steady = λ plain still lock held. steady plain still;
      keeps = λ was. sound_new;
    };
    later = moved.moments.later;
    past = ∣ past_stays h ∣₁;
    moments = λ t c early late left. moved.moments.each t c early late left;
    rests = moved.rests;
  },
  refl,
)

module _ (ask : laws.Ask) (news : IsNews ask) (h : History) (old : NodeParts) (rests : RestsAs (MayBeFound (seen h old).store (seen h old).failed) h) (over : IsOverImage old.files (state h old.store).image)
    (locks : ShareForReading old.files.locks) (replica : role_in old ≡ role.Replica → old.files.writer ≡ None) where
  moved : Moved (seen h old).store (seen h old).failed h [] None (seen h old).store (seen h old).failed h
  moved = moved-none (seen h old).store (seen h old).failed h rests

  -- nothing is changed that the cluster sees
  pub unseen-safely : (new : NodeParts) (answer : Answer) → seen h new ≡ seen h old → LeavesUndone answer [] → StepsAs (seen h old) ask answer (seen h new) h h
  unseen-safely new answer same undone =
      subst (λ (s : NodeState). StepsAs (seen h old) ask answer s h h) (sym same)
      (news-safely h (seen h old) (seen h old) ask answer news refl moved undone (λ plain still. steady-files h h old old.store old.files refl refl refl) (sound h old over locks replica))

  -- the node stands otherwise, and where it is a replica then its uncommitted pages went
  stands-safely : (new : NodeParts) → new.store ≡ old.store → new.files ≡ files_at (role_in new) old.files → StepsAs (seen h old) ask laws.Done (seen h new) h h
  stands-safely new store files =
      let there : NodeParts = record new { store = old.store; files = files_at (role_in new) old.files } in
      let image : DatabaseImage = (state h old.store).image in
      let is : new ≡ there = λ i. record new { store = store i; files = files i } in
      subst (λ (m : NodeParts). StepsAs (seen h old) ask laws.Done (seen h m) h h) (sym is)
      (news-safely h (seen h old) (seen h there) ask laws.Done news refl moved tt
      (λ plain still.
      let same = files-still old.files (replica (is-replica (role_in old) plain.role)) (role_in new) in record {
        position = refl;
        image = refl;
        file = ap (λ (s : Served). file_over s.database image) same;
        frames = ap (λ (s : Served). frames_of (log_contents s)) same;
      })
      (sound h there (files-over old.files image over (role_in new)) (subst ShareForReading (sym (files-field old.files (λ (s : Served). s.locks) (λ owner. refl) (role_in new))) locks)
      (files-writer old.files (role_in new))))

  -- it stands so
  stands-so : (s : Standing) → StepsAs (seen h old) ask laws.Done (seen h (stands s old)) h h
  stands-so s = stands-safely (stands s old) refl (ap (λ (r : Role). files_at r old.files) (sym (role-in-force s)))

  pub stood : (s : Standing) (end : History) (new : NodeParts) → end ≡ h → new ≡ stands s old → StepsAs (seen h old) ask laws.Done (seen end new) h end
  stood s end new alike is =
      subst (λ (e : History). StepsAs (seen h old) ask laws.Done (seen e new) h e) (sym alike)
      (subst (λ (n : NodeParts). StepsAs (seen h old) ask laws.Done (seen h n) h h) (sym is) (stands-so s))
