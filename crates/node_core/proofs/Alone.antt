-- While a permit is out, the node that gave it out commits nothing of its own.
use Rattle.std.proofs.Common.{eqb, ◌≡◌, ◌∙◌, ◌⊎◌, ℕ, ◌-◌, Bool, true, false, IsTrue, List, [], ◌∷◌, ◌++◌, length, Option, None, Some, IsSome, inl, inr, refl, sym, ap, subst, append-nil, arith}
use Rattle.std.specs.Prelude.{All, ◌||◌, ◌==◌, is_some, if◌then◌else◌}
use Rattle.std.proofs.lemmas.Bool.Decides.{nat_tests}
use Rattle.std.proofs.lemmas.List.Elements.{All-cons, All-nil}
use Rattle.lf_base.specs.declared.errno.Errno.{Errno}
use Rattle.lf_base.specs.declared.pos.Pos.{Pos}
use Rattle.fuse_msgs.specs.declared.request.Request.{Request}
use Rattle.lf_disk.specs.History.{History}
use Rattle.ltx_codec.specs.declared.file.Ltx.{Ltx}
use Rattle.ltx_codec.specs.Positions.{after, before}
use Rattle.halt_forward.specs.declared.halt_fault.HaltFault.TheVariants.{HaltGone}
use Rattle.halt_forward.specs.declared.halt_pass.HaltPass.{HaltPass}
use Rattle.halt_forward.specs.Permits.{gone_unless, pass_out}
use Rattle.file_view.specs.declared.view.Role.{Role}
use Rattle.file_view.specs.declared.view.Role.TheVariants as role
use Rattle.file_view.specs.Errno.{EAGAIN, EPERM, EROFS}
use Rattle.file_view.specs.Endings.{first_blocking}
use Rattle.file_view.specs.Refusal.{IsAllowed, Row, first_refusal}
use Rattle.file_view.specs.Roles.{is_replica}
use Rattle.world_laws.specs.Answers.{LeavesUndone, completed_over}
use Rattle.world_laws.specs.Node as laws
use Rattle.world_laws.specs.Node.{NodeState}
use Rattle.world_laws.specs.Step.{Makes, StepFacts, accepts, calls_of, commits, commits_and_prunes, drops, finishes, imports, nothing, prunes, takes, unlinks}
use Rattle.world_laws.specs.Store.{Apply, CanDoAll, Commit, DropAll, Failure, PruneTo, StoreCall, StoreState, all_done, at, begun_by, broken_by, end_of, with_file}
use Rattle.world_laws.proofs.Stores.{end_of-none, end_of-pruned, end_of-push}
use Rattle.node_core.specs.declared.answer.Answer.{Answer}
use Rattle.node_core.specs.declared.answer.Answer.TheVariants as answers
use Rattle.node_core.specs.declared.ask.Ask.{Ask}
use Rattle.node_core.specs.declared.ask.Ask.TheVariants as asks
use Rattle.node_core.specs.declared.sent.Sent.{Sent}
use Rattle.node_core.specs.HoldingBack.{is_kept_out}
use Rattle.node_core.specs.Importing.{AnswersImport, TakesUnless}
use Rattle.node_core.specs.Locking.{commit_refusal, commit_refusal_by, is_barred}
use Rattle.node_core.specs.Nodes.{NodeParts, at_moment, role_in, seen}
use Rattle.node_core.specs.Forwarding.{AnswersForward}
use Rattle.node_core.specs.PermitLaw.{IsPrune, IsUnder}
use Rattle.node_core.specs.Pruning.{kept_of}
use Rattle.node_core.specs.Replying.{AnswersForwarded}
use Rattle.node_core.specs.Roles.{is_halted, law_role, out_by, permit_out, permits_of, role_of}
use Rattle.node_core.specs.Safely.{IsAskOf, IsFrameOf, law_answer}
use Rattle.node_core.specs.Serving.{ServesFiles}
use Rattle.node_core.specs.Steps.{AnswersFile, AnswersServed, IsStep, at_ask}
use Rattle.node_core.specs.Stores.{StoreFields, state}
use Rattle.node_core.specs.Unlinking.{UnlinksDatabase, unlink_rows, unlinks_database}

-- asks that make no commit at a primary
abbrev Rests : laws.Ask → Type 0
Rests laws.File = ⊥
Rests laws.EndSession = Unit {0}
Rests laws.Where = Unit {0}
Rests (laws.Hello position last) = Unit {0}
Rests (laws.Frame file) = Unit {0}
Rests laws.Drop = Unit {0}
Rests laws.Import = ⊥
Rests laws.Export = Unit {0}
Rests (laws.Forward file) = ⊥
Rests (laws.Forwarded ok) = ⊥
Rests laws.NoFile = Unit {0}
Rests (laws.Prune keep) = Unit {0}
Rests laws.Permit = Unit {0}
Rests laws.Lease = Unit {0}

prunes-only : {store : StoreState} {r : laws.Role} {waits : Option Ltx} {ask : laws.Ask} {calls : List StoreCall} → Makes store r waits ask calls → r ≡ laws.Primary → Rests ask → All IsPrune calls
prunes-only nothing leads rests = All-nil IsPrune
prunes-only commits leads rests = absurd rests
prunes-only commits_and_prunes leads rests = absurd rests
prunes-only unlinks leads rests = absurd rests
prunes-only imports leads rests = absurd rests
prunes-only accepts leads rests = absurd rests
prunes-only (takes other) leads rests = absurd (other leads)
prunes-only (drops other) leads rests = absurd (other leads)
prunes-only finishes leads rests = absurd rests
prunes-only (prunes {keep = k}) leads rests = All-cons IsPrune (PruneTo k) [] tt (All-nil IsPrune)

-- a commit leads on
leads-on : (store : StoreState) (file : Ltx) → CanDoAll store (Commit file ∷ []) → after file ≡ at store → ⊥
leads-on store file can same =
    let follows : file.header.min - 1 ≡ (at store).txid = ap (λ (p : Pos). p.txid) can.0.1.next in
    let stays : file.header.max ≡ (at store).txid = ap (λ (p : Pos). p.txid) same in
    omega (arith, follows, stays, can.0.2, can.0.0.header.min)

-- so a request that leaves the store made no call
file-none : {store : StoreState} {r : laws.Role} {waits : Option Ltx} {ask : laws.Ask} {calls : List StoreCall} → Makes store r waits ask calls → ask ≡ laws.File → CanDoAll store calls →
    all_done store calls ≡ store → calls ≡ []
file-none nothing file can same = refl
file-none {store = s} (commits {file = f}) file can same = absurd (leads-on s f can (sym (end_of-push s.log f) ∙ ap at same))
file-none {store = s} (commits_and_prunes {file = f} {keep = k}) file can same =
    let log = s.log ++ f ∷ [] in
    absurd (leads-on s f (can.0, tt) (sym (end_of-push s.log f) ∙ sym (end_of-pruned (length log - k) k log can.1.0 (omega arith)) ∙ ap at same))
file-none {store = s} unlinks file can same =
    let none : 0 ≡ (at s).txid = ap (λ (p : Pos). p.txid) (sym end_of-none ∙ ap at same) in
    absurd (omega (arith, none, can.0))
file-none imports file can same = absurd (let no : laws.Import ≡ laws.File = file in cc)
file-none (accepts {file = f}) file can same = absurd (let no : laws.Forward f ≡ laws.File = file in cc)
file-none (takes {file = f} other) file can same = absurd (let no : laws.Frame f ≡ laws.File = file in cc)
file-none (drops other) file can same = absurd (let no : laws.Drop ≡ laws.File = file in cc)
file-none finishes file can same = absurd (let no : laws.Forwarded true ≡ laws.File = file in cc)
file-none (prunes {keep = k}) file can same = absurd (let no : laws.Prune k ≡ laws.File = file in cc)

-- and so did a reply that leaves it
applied-on : (store : StoreState) (file : Ltx) → CanDoAll store (Apply file ∷ []) → after file ≡ at store → ⊥
applied-on store file can same =
    let follows : file.header.min - 1 ≡ (at store).txid = ap (λ (p : Pos). p.txid) can.0.1.next in
    let stays : file.header.max ≡ (at store).txid = ap (λ (p : Pos). p.txid) same in
    omega (arith, follows, stays, can.0.0.header.min, can.0.0.header.max)

reply-none : {store : StoreState} {r : laws.Role} {waits : Option Ltx} {ask : laws.Ask} {calls : List StoreCall} → Makes store r waits ask calls → (ok : Bool) → ask ≡ laws.Forwarded ok → CanDoAll store calls →
    all_done store calls ≡ store → calls ≡ []
reply-none nothing ok is can same = refl
reply-none commits ok is can same = absurd (let no : laws.File ≡ laws.Forwarded ok = is in cc)
reply-none commits_and_prunes ok is can same = absurd (let no : laws.File ≡ laws.Forwarded ok = is in cc)
reply-none unlinks ok is can same = absurd (let no : laws.File ≡ laws.Forwarded ok = is in cc)
reply-none imports ok is can same = absurd (let no : laws.Import ≡ laws.Forwarded ok = is in cc)
reply-none (accepts {file = f}) ok is can same = absurd (let no : laws.Forward f ≡ laws.Forwarded ok = is in cc)
reply-none (takes {file = f} other) ok is can same = absurd (let no : laws.Frame f ≡ laws.Forwarded ok = is in cc)
reply-none (drops other) ok is can same = absurd (let no : laws.Drop ≡ laws.Forwarded ok = is in cc)
reply-none {store = s} (finishes {file = f}) ok is can same = absurd (applied-on s (completed_over s f) can (sym (end_of-push s.log (completed_over s f)) ∙ ap at same))
reply-none (prunes {keep = k}) ok is can same = absurd (let no : laws.Prune k ≡ laws.Forwarded ok = is in cc)

-- a store that is broken now where it was has no call that failed
no-failure : (broken before : Bool) → broken ≡ before → (was now : Failure) (failed : Option Failure) → (if broken then Some now else None) ≡ broken_by (if before then Some was else None) failed →
    (IsSome (if before then Some was else None) → failed ≡ None) → failed ≡ None
no-failure true true same was now failed is whole = whole refl
no-failure false false same was now failed is whole = sym is
no-failure true false same was now failed is whole = absurd (let no : true ≡ false = same in cc)
no-failure false true same was now failed is whole = absurd (let no : false ≡ true = same in cc)

-- a step that is refused, or a request or a reply that leaves the store, in which no call failed
no-calls : (old new : NodeState) (law : laws.Ask) (answer : laws.Answer) (facts : StepFacts old law answer new) → facts.failed ≡ None →
    (answer ≡ laws.Refused laws.Other) ⊎ (((law ≡ laws.File) ⊎ ((ok : Bool) × (law ≡ laws.Forwarded ok))) × (new.store ≡ old.store)) → All IsPrune (calls_of facts)
no-calls old new law answer facts none outcome = subst (All IsPrune) (sym (go outcome)) (All-nil IsPrune) where
  are : calls_of facts ≡ facts.did
  are = ap (λ (f : Option Failure). facts.did ++ begun_by f) none ∙ append-nil facts.did

  undone : (a : laws.Answer) → a ≡ laws.Refused laws.Other → (did : List StoreCall) → LeavesUndone a did → did ≡ []
  undone a is did left = subst (λ (b : laws.Answer). LeavesUndone b did → did ≡ []) (sym is) (λ l. l) left

  stays : new.store ≡ old.store → all_done old.store (calls_of facts) ≡ old.store
  stays same = ap (all_done old.store) are ∙ sym facts.store ∙ same

  go : (answer ≡ laws.Refused laws.Other) ⊎ (((law ≡ laws.File) ⊎ ((ok : Bool) × (law ≡ laws.Forwarded ok))) × (new.store ≡ old.store)) → calls_of facts ≡ []
  go (inl refused) = are ∙ undone answer refused facts.did facts.refused
  go (inr (inl file, same)) = file-none facts.makes file facts.can (stays same)
  go (inr (inr reply, same)) = reply-none facts.makes reply.0 reply.1 facts.can (stays same)

-- what is done while a permit is out
abbrev pub Holds : History → NodeParts → Answer → History → NodeParts → Type 0
Holds start old answer end new =
    (new.store.broken ≡ old.store.broken) × ((law_answer answer ≡ laws.Refused laws.Other) ⊎ (IsTrue old.store.honest → state end new.store ≡ state start old.store))

out-leads : (r : Role) (out : Option HaltPass) → IsSome (out_by r out) → r ≡ role.Primary
out-leads role.Primary out some = refl
out-leads role.Replica out some = absurd (let no : false ≡ true = some in cc)
out-leads role.Halted out some = absurd (let no : false ≡ true = some in cc)

no-leave : (r : Role) (out : Option HaltPass) → IsSome out → commit_refusal_by r out ≡ None → ⊥
no-leave r None some leave = let no : false ≡ true = some in cc
no-leave role.Primary (Some pass) some leave = let no : Some EAGAIN ≡ None = leave in cc
no-leave role.Replica (Some pass) some leave = let no : Some EROFS ≡ None = leave in cc
no-leave role.Halted (Some pass) some leave = let no : Some EROFS ≡ None = leave in cc

not-allowed : (replica halted : Bool) (out : Option HaltPass) (rows : List Row) → IsSome out → IsAllowed ((replica, EROFS) ∷ (halted, EPERM) ∷ (is_some out, EAGAIN) ∷ rows) → ⊥
not-allowed true halted out rows some allowed = let no : Some EROFS ≡ None = allowed in cc
not-allowed false true out rows some allowed = let no : Some EPERM ≡ None = allowed in cc
not-allowed false false None rows some allowed = let no : false ≡ true = some in cc
not-allowed false false (Some pass) rows some allowed = let no : Some EAGAIN ≡ None = allowed in cc

module _ (start : History) (old : NodeParts) (end : History) (new : NodeParts) (said : Option Errno) (out : IsSome (permit_out old.standing)) where
  barred : commit_refusal old.standing ≡ None → ⊥
  barred leave = no-leave (role_of old.standing) (permit_out old.standing) out leave

  not-unlinked : IsAllowed (unlink_rows old) → ⊥
  not-unlinked allowed =
      not-allowed (is_replica (role_in old)) (is_halted (role_in old)) (permit_out old.standing) ((is_some (first_blocking old.files old.store.wal), EAGAIN) ∷ []) out allowed

  serves-nothing : (caller : ℕ) (request : Request) (answer : Answer) → ServesFiles start old caller request answer end new said → Holds start old answer end new
  serves-nothing caller request (answers.Done reply) (inl served) = (ap (λ (s : StoreFields). s.broken) served.read.same, inr served.read.state)
  serves-nothing caller request (answers.Done reply) (inr committed) = absurd (barred committed.leave)
  serves-nothing caller request answers.Quiet served = (ap (λ (s : StoreFields). s.broken) served.read.same, inr served.read.state)
  serves-nothing caller request (answers.Refuse number) (inl refused) = (ap (λ (s : StoreFields). s.broken) refused.read.same, inl refl)
  serves-nothing caller request (answers.Refuse number) (inr (inl asked)) = absurd (barred asked.leave)
  serves-nothing caller request (answers.Refuse number) (inr (inr (inl left))) = (ap (λ (s : StoreFields). s.broken) left.read.same, inl refl)
  serves-nothing caller request (answers.Refuse number) (inr (inr (inr unsent))) = (ap (λ (s : StoreFields). s.broken) unsent.read.same, inl refl)
  serves-nothing caller request (answers.Send number ltx) sent = (ap (λ (s : StoreFields). s.broken) sent.read.same, inr sent.read.state)
  serves-nothing caller request (answers.At here) served = absurd served
  serves-nothing caller request (answers.Level here) served = absurd served
  serves-nothing caller request (answers.Item ltx to) served = absurd served
  serves-nothing caller request answers.Gone served = absurd served
  serves-nothing caller request (answers.Applied here) served = absurd served
  serves-nothing caller request (answers.Same here) served = absurd served
  serves-nothing caller request (answers.Held lock) served = absurd served
  serves-nothing caller request (answers.Pruned count) served = absurd served
  serves-nothing caller request (answers.Pass pass) served = absurd served
  serves-nothing caller request (answers.Bytes bytes) served = absurd served
  serves-nothing caller request (answers.Info info) served = absurd served
  serves-nothing caller request (answers.Watched info files) served = absurd served
  serves-nothing caller request (answers.Refused why) served = absurd served

  unlinks-nothing : (answer : Answer) → UnlinksDatabase start old answer end new said → Holds start old answer end new
  unlinks-nothing (answers.Done reply) dropped = absurd (not-unlinked dropped.1)
  unlinks-nothing (answers.Refuse number) (inl refused) = (ap (λ (n : NodeParts). n.store.broken) refused.1, inl refl)
  unlinks-nothing (answers.Refuse number) (inr asked) = absurd (not-unlinked asked.0)
  unlinks-nothing answers.Quiet dropped = absurd dropped
  unlinks-nothing (answers.At here) dropped = absurd dropped
  unlinks-nothing (answers.Level here) dropped = absurd dropped
  unlinks-nothing (answers.Item ltx to) dropped = absurd dropped
  unlinks-nothing answers.Gone dropped = absurd dropped
  unlinks-nothing (answers.Applied here) dropped = absurd dropped
  unlinks-nothing (answers.Same here) dropped = absurd dropped
  unlinks-nothing (answers.Held lock) dropped = absurd dropped
  unlinks-nothing (answers.Pruned count) dropped = absurd dropped
  unlinks-nothing (answers.Pass pass) dropped = absurd dropped
  unlinks-nothing (answers.Send number ltx) dropped = absurd dropped
  unlinks-nothing (answers.Bytes bytes) dropped = absurd dropped
  unlinks-nothing (answers.Info info) dropped = absurd dropped
  unlinks-nothing (answers.Watched info files) dropped = absurd dropped
  unlinks-nothing (answers.Refused why) dropped = absurd dropped

  served : (off : Bool) (caller : ℕ) (request : Request) (answer : Answer) → AnswersServed off start old caller request answer end new said → Holds start old answer end new
  served true caller request answer does = (ap (λ (n : NodeParts). n.store.broken) does.1.0, inl (ap law_answer does.0))
  served false caller request answer does = serves-nothing caller request answer does

  holds : (unlinks : Bool) (caller : ℕ) (request : Request) (answer : Answer) → AnswersFile unlinks start old caller request answer end new said → Holds start old answer end new
  holds true caller request answer does = unlinks-nothing answer does
  holds false caller request answer does = served (is_kept_out old caller request || is_barred old request) caller request answer does

  -- an import is refused
  abbrev Refuses : Answer → Type 0
  Refuses answer = (new.store.broken ≡ old.store.broken) × (law_answer answer ≡ laws.Refused laws.Other)

  takes-nothing : (bytes : List ℕ) (answer : Answer) (pass : Option HaltPass) → IsSome pass → TakesUnless pass start old bytes answer end new → Refuses answer
  takes-nothing bytes answer None some does = absurd (let no : false ≡ true = some in cc)
  takes-nothing bytes answer (Some pass) some does = (ap (λ (n : NodeParts). n.store.broken) does.1.0, ap law_answer does.0)

  imports-nothing : (bytes : List ℕ) (answer : Answer) → AnswersImport start old bytes answer end new → Refuses answer
  imports-nothing bytes answer (inl other) = absurd (other.0 (out-leads (role_of old.standing) _ out))
  imports-nothing bytes answer (inr does) = takes-nothing bytes answer (permit_out old.standing) out does.1

-- a reply brings nothing
none-out : (out : Option HaltPass) → IsSome out → out ≡ None → ⊥
none-out None some none = let no : false ≡ true = some in cc
none-out (Some pass) some none = let no : Some pass ≡ None = none in cc

module _ (start : History) (old : NodeParts) (end : History) (new : NodeParts) (said : Option Errno) (out : IsSome (permit_out old.standing)) where
  replies-nothing : (sent : Option Sent) (ok : Bool) (answer : Answer) → AnswersForwarded sent ok start old answer end new said →
      (new.store.broken ≡ old.store.broken) × ((law_answer answer ≡ laws.Refused laws.Other) ⊎ (IsTrue old.store.honest → state end new.store ≡ state start old.store))
  replies-nothing None ok answer does = (ap (λ (n : NodeParts). n.store.broken) does.1.0, inl (ap law_answer does.0))
  replies-nothing (Some sent) false answer does = (ap (λ (n : NodeParts). n.store.broken) does.1.0, inl (ap law_answer does.0))
  replies-nothing (Some sent) true answer (inl due) = absurd (none-out (permit_out old.standing) out due.0.free)
  replies-nothing (Some sent) true answer (inr other) = (ap (λ (n : NodeParts). n.store.broken) other.2.0, inr other.2.1.state)

-- a permit that refuses no use of this number is the one of that number
same-number : (b : Bool) (number : ℕ) → (if b then None else Some (HaltGone number)) ≡ None → b ≡ true
same-number true number open_ = refl
same-number false number open_ = absurd (let no : Some (HaltGone number) ≡ None = open_ in cc)

comes-under : (out : Option HaltPass) (now number : ℕ) (bytes : List ℕ) → gone_unless out number ≡ None → IsUnder out (asks.Forward now number bytes)
comes-under None now number bytes open_ = absurd (let no : Some (HaltGone number) ≡ None = open_ in cc)
comes-under (Some pass) now number bytes open_ =
    let test : eqb pass.number number ≡ true = same-number (pass.number == number) number open_ in
    grind (arith, nat_tests)

primary-out : (r : Role) (out : Option HaltPass) → r ≡ role.Primary → out_by r out ≡ out
primary-out role.Primary out is = refl
primary-out role.Replica out is = absurd (let no : role.Replica ≡ role.Primary = is in cc)
primary-out role.Halted out is = absurd (let no : role.Halted ≡ role.Primary = is in cc)

-- a transaction that doesn't come under the permit that is out is refused
module _ (start : History) (old : NodeParts) (end : History) (new : NodeParts) (said : Option Errno) (out : IsSome (permit_out old.standing)) where
  forwards-nothing : (now number : ℕ) (bytes : List ℕ) (answer : Answer) → (IsUnder (permit_out old.standing) (asks.Forward now number bytes) → ⊥) → AnswersForward start old number bytes answer end new
      → (new.store.broken ≡ old.store.broken) × (law_answer answer ≡ laws.Refused laws.Other)
  forwards-nothing now number bytes answer under (inl other) = absurd (other.0 (out-leads (role_of old.standing) _ out))
  forwards-nothing now number bytes answer under (inr (leads, inl (why, gone, is, untouched))) = (ap (λ (n : NodeParts). n.store.broken) untouched.0, ap law_answer is)
  forwards-nothing now number bytes answer under (inr (leads, inr (open_, taken))) =
      absurd (under (subst (λ (o : Option HaltPass). IsUnder o (asks.Forward now number bytes)) (sym (primary-out (role_of old.standing) (pass_out (permits_of old.standing)) leads))
      (comes-under (pass_out (permits_of old.standing)) now number bytes open_)))

rests-frame : (bytes : List ℕ) (law : laws.Ask) → IsFrameOf bytes law → Rests law
rests-frame bytes laws.File is = absurd is
rests-frame bytes laws.EndSession is = tt
rests-frame bytes laws.Where is = tt
rests-frame bytes (laws.Hello position last) is = tt
rests-frame bytes (laws.Frame file) is = tt
rests-frame bytes laws.Drop is = tt
rests-frame bytes laws.Import is = absurd is
rests-frame bytes laws.Export is = tt
rests-frame bytes (laws.Forward file) is = absurd is
rests-frame bytes (laws.Forwarded ok) is = absurd is
rests-frame bytes laws.NoFile is = tt
rests-frame bytes (laws.Prune keep) is = tt
rests-frame bytes laws.Permit is = tt
rests-frame bytes laws.Lease is = tt

module _ (start : History) (old : NodeParts) (caller : ℕ) (answer : Answer) (end : History) (new : NodeParts) (said : Option Errno) where
  abbrev Alone : (ask : Ask) → IsStep start old caller ask answer end new said → Type 0
  Alone ask step = (disk : IsTrue old.store.honest) (law : laws.Ask) (is : IsAskOf ask law) → IsSome (permit_out (at_ask old ask).standing) → (IsUnder (permit_out (at_ask old ask).standing) ask → ⊥) → All IsPrune (calls_of (step.safe disk law is).facts)

  -- an ask that makes no commit at a primary
  rested : (ask : Ask) (step : IsStep start old caller ask answer end new said) → ((law : laws.Ask) → IsAskOf ask law → Rests law) → Alone ask step
  rested ask step rests disk law is out under =
      prunes-only (step.safe disk law is).facts.makes (step.role disk law is ∙ ap law_role (out-leads (role_of (at_ask old ask).standing) _ out)) (rests law is)

  -- an ask that is this one of the laws alone
  rested-as : (ask : Ask) (step : IsStep start old caller ask answer end new said) (told : laws.Ask) → ((law : laws.Ask) → IsAskOf ask law → law ≡ told) → Rests told → Alone ask step
  rested-as ask step told only rests = rested ask step (λ law is. subst Rests (sym (only law is)) rests)

  pub alone : (ask : Ask) (step : IsStep start old caller ask answer end new said) → Alone ask step
  alone (asks.File now request) step disk law is out under =
      let n : NodeParts = at_moment old now in
      let held = holds start n end new said out (unlinks_database n.config request) caller request answer step.does in
      let facts = (step.safe disk law is).facts in
      let none : facts.failed ≡ None = no-failure new.store.broken old.store.broken held.0 _ _ facts.failed facts.broken (λ some. (facts.whole some).1) in
      no-calls (seen start old) (seen end new) law (law_answer answer) facts none (elim held.1 [
        | inl refused ↦ inl refused
        | inr same ↦ inr (inl is, same disk)
      ])
  alone (asks.Import now bytes) step disk law is out under =
      let n : NodeParts = at_moment old now in
      let held = imports-nothing start n end new said out bytes answer step.does in
      let facts = (step.safe disk law is).facts in
      let none : facts.failed ≡ None = no-failure new.store.broken old.store.broken held.0 _ _ facts.failed facts.broken (λ some. (facts.whole some).1) in
      no-calls (seen start old) (seen end new) law (law_answer answer) facts none (inl held.1)
  alone (asks.Forward now number bytes) step disk law is out under =
      let n : NodeParts = at_moment old now in
      let held = forwards-nothing start n end new said out now number bytes answer under step.does in
      let facts = (step.safe disk law is).facts in
      let none : facts.failed ≡ None = no-failure new.store.broken old.store.broken held.0 _ _ facts.failed facts.broken (λ some. (facts.whole some).1) in
      no-calls (seen start old) (seen end new) law (law_answer answer) facts none (inl held.1)
  alone (asks.Forwarded ok) step disk law is out under =
      let held = replies-nothing start old end new said out old.sent ok answer step.does in
      let facts = (step.safe disk law is).facts in
      let none : facts.failed ≡ None = no-failure new.store.broken old.store.broken held.0 _ _ facts.failed facts.broken (λ some. (facts.whole some).1) in
      no-calls (seen start old) (seen end new) law (law_answer answer) facts none (elim held.1 [
        | inl refused ↦ inl refused
        | inr same ↦ inr (inr (ok, is), same disk)
      ])
  alone asks.EndSession step disk law is out under = rested-as asks.EndSession step laws.EndSession (λ law is. is) tt disk law is out under
  alone asks.Where step disk law is out under = rested-as asks.Where step laws.Where (λ law is. is) tt disk law is out under
  alone (asks.Hello now from last) step disk law is out under = rested-as (asks.Hello now from last) step (laws.Hello from last) (λ law is. is) tt disk law is out under
  alone (asks.Frame now bytes) step disk law is out under = rested (asks.Frame now bytes) step (rests-frame bytes) disk law is out under
  alone (asks.Drop now) step disk law is out under = rested-as (asks.Drop now) step laws.Drop (λ law is. is) tt disk law is out under
  alone asks.Export step disk law is out under = rested-as asks.Export step laws.Export (λ law is. is) tt disk law is out under
  alone (asks.Prune keep) step disk law is out under = rested-as (asks.Prune keep) step (laws.Prune (kept_of keep)) (λ law is. is) tt disk law is out under
  alone (asks.Info now) step disk law is out under = rested-as (asks.Info now) step laws.Where (λ law is. is) tt disk law is out under
  alone (asks.Watch now from) step disk law is out under = rested-as (asks.Watch now from) step laws.Where (λ law is. is) tt disk law is out under
  alone (asks.Lease now news) step disk law is out under = rested-as (asks.Lease now news) step laws.Lease (λ law is. is) tt disk law is out under
  alone (asks.HaltAsk now node) step disk law is out under = rested-as (asks.HaltAsk now node) step laws.Permit (λ law is. is) tt disk law is out under
  alone (asks.HaltBack now number) step disk law is out under = rested-as (asks.HaltBack now number) step laws.Permit (λ law is. is) tt disk law is out under
  alone (asks.HaltGot now pass) step disk law is out under = rested-as (asks.HaltGot now pass) step laws.Permit (λ law is. is) tt disk law is out under
  alone (asks.HaltLost number) step disk law is out under = rested-as (asks.HaltLost number) step laws.Permit (λ law is. is) tt disk law is out under
