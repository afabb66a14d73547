-- A transaction that another node made: the call that it asks for, and what its bytes are to the laws.
use Rattle.std.proofs.Common.{◌≡◌, ◌∙◌, ℕ, false, List, [], ◌∷◌, None, Result, Ok, Err, refl, sym, ap, subst}
use Rattle.lf_base.specs.declared.pos.Pos.{Pos}
use Rattle.lf_disk.specs.History.{History}
use Rattle.lf_sqlite_pages.specs.Complete.{completed}
use Rattle.ltx_codec.specs.Fields.{AreBytes}
use Rattle.ltx_codec.specs.FileIn.{file_in}
use Rattle.ltx_codec.specs.Format.{IsLtx}
use Rattle.ltx_codec.specs.declared.file.Ltx.{Ltx}
use Rattle.file_view.specs.declared.view.Role.TheVariants as role
use Rattle.txn_log.specs.declared.fault.StoreFault.{StoreFault}
use Rattle.txn_log.specs.declared.fault.StoreFault.TheVariants as fault
use Rattle.txn_log.specs.Apply.{whole_file}
use Rattle.txn_log.specs.Calls.{Went}
use Rattle.txn_log.specs.Store.{meant}
use Rattle.txn_log.proofs.PagesRead.{count}
use Rattle.world_laws.specs.Answers.{Answers, completed_over}
use Rattle.world_laws.specs.Node as laws
use Rattle.world_laws.specs.Node.{NodeState, Role}
use Rattle.world_laws.specs.Step.{KeepsRole, Makes, accepts}
use Rattle.world_laws.specs.Store.{Commit}
use Rattle.node_core.specs.Calls.{Changes}
use Rattle.node_core.specs.Errors.{refusal_of}
use Rattle.node_core.specs.Forwarding.{Accepts, IsNotAccepted, RefusesCommit}
use Rattle.node_core.specs.Nodes.{NodeParts, role_in, seen}
use Rattle.node_core.specs.Safely.{IsForwardOf}
use Rattle.node_core.specs.Stores.{StoreFields, failed, state}
use Rattle.node_core.proofs.Calls.{Begins, changes, err-same, no_failure}
use Rattle.node_core.proofs.Sound.{leads}

-- the file that is committed is made complete over the pages that the store counts
pub call-commit : (h : History) (s : StoreFields) (file : Ltx) → Commit (whole_file s.commit file) ≡ Commit (completed_over (state h s) file)
call-commit h s file = ap (λ (k : ℕ). Commit (record file { change = completed file.change k })) (sym (count s.page_size s.commit (h.seen (meant h s.broken s.whole))))

-- to the laws a primary may commit it
pub makes-accept : (h : History) (old : NodeParts) (file : Ltx) → role_in old ≡ role.Primary
    → Makes (seen h old).store (seen h old).role (seen h old).waits (laws.Forward file) (Commit (completed_over (state h old.store) file) ∷ [])
makes-accept h old file primary =
    subst (λ (r : laws.Role). Makes (seen h old).store r (seen h old).waits (laws.Forward file) (Commit (completed_over (state h old.store) file) ∷ [])) (sym (leads (role_in old) primary)) accepts

-- it is committed only by a store that is whole
pub accept-whole : (s : StoreFields) (file : Ltx) (result : Result Pos StoreFault) → Accepts s file result → Begins result → s.broken ≡ false
accept-whole s file (Ok told) given begun = given.0
accept-whole s file (Err fault.Disk) given begun = given.0
accept-whole s file (Err fault.Broken) given begun = absurd begun
accept-whole s file (Err fault.Limit) given begun = absurd begun
accept-whole s file (Err fault.NoMemory) given begun = absurd begun
accept-whole s file (Err (fault.NotNext have want)) given begun = absurd begun
accept-whole s file (Err (fault.SumDiffers want got)) given begun = absurd begun
accept-whole s file (Err (fault.PageSize have want)) given begun = absurd begun

-- what it made of the store
pub accept-changes : (start end : History) (old new : StoreFields) (file : Ltx) (result : Result Pos StoreFault) → Accepts old file result
    → Went (state start old) (failed start old) start (Commit (completed_over (state start old) file)) result (state end new) (failed end new) end
    → Changes (state start old) (failed start old) (Commit (completed_over (state start old) file)) result (state end new) (failed end new)
accept-changes start end old new file result given went =
    changes (state start old) (state end new) (failed start old) (failed end new) start end (Commit (completed_over (state start old) file)) result
    (λ begun. no_failure start old.broken old.attempt old.tried (accept-whole old file result given begun)) went

-- one that is not committed leaves it
pub accept-same : (start end : History) (old new : StoreFields) (file : Ltx) (why : StoreFault) → Accepts old file (Err why)
    → Went {T = Pos} (state start old) (failed start old) start (Commit (completed_over (state start old) file)) (Err why) (state end new) (failed end new) end → state end new ≡ state start old
accept-same start end old new file why given went =
    err-same Pos (state start old) (state end new) (failed start old) (failed end new) (Commit (completed_over (state start old) file)) why (accept-changes start end old new file (Err why) given went)

-- the refusal of one that the store didn't commit
pub refuses-commit : (start : History) (old : NodeParts) (file : Ltx) (why : StoreFault) (end : History) (new : NodeParts) → IsNotAccepted start old file why end new
    → RefusesCommit start old file (refusal_of why) end new
refuses-commit start old file fault.Disk end new is = is
refuses-commit start old file fault.Broken end new is = is
refuses-commit start old file fault.Limit end new is = is
refuses-commit start old file fault.NoMemory end new is = is
refuses-commit start old file (fault.NotNext have want) end new is = is
refuses-commit start old file (fault.SumDiffers want got) end new is = is
refuses-commit start old file (fault.PageSize have want) end new is = is

-- whatever the bytes are, a refusal says nothing to the laws
pub forward-says : (old new : NodeState) (role : Role) (bytes : List ℕ) (law : laws.Ask) → IsForwardOf bytes law → (why : laws.Refusal) → Answers old role law [] None (laws.Refused why) new
forward-says old new role bytes (laws.Forward file) is why = tt
forward-says old new role bytes laws.NoFile is why = tt
forward-says old new role bytes law is why = absurd is

-- and its step leaves the role
pub forward-keeps : (bytes : List ℕ) (law : laws.Ask) → IsForwardOf bytes law → (role later : Role) → KeepsRole law role later → role ≡ later
forward-keeps bytes (laws.Forward file) is role later keeps = keeps
forward-keeps bytes laws.NoFile is role later keeps = keeps
forward-keeps bytes law is role later keeps = absurd is

-- the bytes of a file are that transaction alone
pub forward-is : ((bytes : List ℕ) (file : Ltx) → AreBytes bytes → IsLtx bytes file → file_in bytes ≡ file) → (bytes : List ℕ) (file : Ltx) → AreBytes bytes → IsLtx bytes file
    → (law : laws.Ask) → IsForwardOf bytes law → law ≡ laws.Forward file
forward-is read bytes file octets is (laws.Forward other) also = ap laws.Forward (sym (read bytes other octets also) ∙ read bytes file octets is)
forward-is read bytes file octets is laws.NoFile none = absurd (none (subst (λ (f : Ltx). IsLtx bytes f) (sym (read bytes file octets is)) is))
forward-is read bytes file octets is law other = absurd other
