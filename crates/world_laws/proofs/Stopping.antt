-- A stop inside a step, as a step that fails.
use Rattle.std.proofs.Common.{◌≡◌, ℕ, ◌+◌, ◌-◌, true, List, [], ◌∷◌, ◌++◌, Option, Some, None, IsSome, inl, inr, refl, sym, ap, subst, ◌∙◌, append_assoc, arith, length}
use Rattle.ltx_codec.specs.declared.file.Ltx.{Ltx}
use Rattle.world_laws.specs.Answers.{Answers, LeavesUndone, snapshot_of}
use Rattle.world_laws.specs.Node.{Answer, Ask, Disk, Done, Drop, EndSession, Export, File, Forward, Forwarded, Frame, Hello, Import, IsPlain, Lease, NoFile, NodeState, Permit, Primary, Prune, Refused, Role, Where}
use Rattle.world_laws.specs.Served.{untouched}
use Rattle.world_laws.specs.Step.{IsRoleAt, KeepsRole, Makes, accepts, commits, commits_and_prunes, drops, finishes, imports, nothing, prunes, takes, unlinks}
use Rattle.world_laws.specs.StopLaw.{IsCut, StopIsTwoEvents, StopOfBroken, StopsAreCuts}
use Rattle.world_laws.specs.Store.{Apply, CanDoAll, Commit, DropAll, FailedBefore, FailedIn, Failure, Install, MayBeFound, MayLeave, PruneTo, StoreCall, StoreState, all_done, begun_by, broken_by, done}
use Rattle.world_laws.proofs.Calls.{CanDoAll-split}
use Rattle.world_laws.proofs.Made.{Made}
use Rattle.world_laws.proofs.Nodes.{some_none}

-- a store after a call that went well is one that the call may leave
after-leaves : (store : StoreState) (call : StoreCall) → MayLeave store call (done store call)
after-leaves store (Commit file) = inr refl
after-leaves store (Apply file) = inr refl
after-leaves store (Install file) = inr refl
after-leaves store (PruneTo keep) = (length store.log - keep, omega arith, refl)
after-leaves store DropAll = inr refl

later-cut : (store left : StoreState) (call : StoreCall) (calls : List StoreCall) → IsCut (done store call) calls left → IsCut store (call ∷ calls) left
later-cut store left call calls cut = record {
  did = call ∷ cut.did;
  call = cut.call;
  rest = cut.rest;
  split = ap (λ (cs : List StoreCall). call ∷ cs) cut.split;
  leaves = cut.leaves;
}

first-cut : (store left : StoreState) (call : StoreCall) (calls : List StoreCall) → MayLeave store call left → IsCut store (call ∷ calls) left
first-cut store left call calls leaves = record { did = []; call = call; rest = calls; split = refl; leaves = leaves }

pub stops_are_cuts-of : StopsAreCuts
stops_are_cuts-of store left [] is = inl (refl, is)
stops_are_cuts-of store left (call ∷ calls) (inl leaves) = inr (first-cut store left call calls leaves)
stops_are_cuts-of store left (call ∷ calls) (inr later) = elim (stops_are_cuts-of (done store call) left calls later) [
  | inl none_at ↦ inr (first-cut store left call calls (subst (λ (s : StoreState). MayLeave store call s) (sym none_at.1) (after-leaves store call)))
  | inr cut ↦ inr (later-cut store left call calls cut)
]

no_end : (did : List StoreCall) (call : StoreCall) (rest : List StoreCall) → [] ≡ did ++ call ∷ rest → ⊥
no_end [] call rest same = cc
no_end (d ∷ ds) call rest same = cc

head_same : (a b : StoreCall) (more bs : List StoreCall) → a ∷ more ≡ b ∷ bs → a ≡ b
head_same a b more bs same = cc

tail_same : (a b : StoreCall) (more bs : List StoreCall) → a ∷ more ≡ b ∷ bs → more ≡ bs
tail_same a b more bs same = cc

single : (store : StoreState) (role : Role) (waits : Option Ltx) (ask : Ask) (only : StoreCall) → Makes store role waits ask (only ∷ []) → (did : List StoreCall) (call : StoreCall) (rest : List StoreCall) →
    only ∷ [] ≡ did ++ call ∷ rest → Makes store role waits ask (did ++ call ∷ [])
single store role waits ask only makes [] call rest same = subst (λ (c : StoreCall). Makes store role waits ask (c ∷ [])) (head_same only call [] rest same) makes
single store role waits ask only makes (d ∷ ds) call rest same = absurd (no_end ds call rest (tail_same only d [] (ds ++ call ∷ rest) same))

double : (store : StoreState) (waits : Option Ltx) (file : Ltx) (keep : ℕ) (did : List StoreCall) (call : StoreCall) (rest : List StoreCall) → Commit file ∷ PruneTo keep ∷ [] ≡ did ++ call ∷ rest →
    Makes store Primary waits File (did ++ call ∷ [])
double store waits file keep [] call rest same =
    subst (λ (c : StoreCall). Makes store Primary waits File (c ∷ [])) (head_same (Commit file) call (PruneTo keep ∷ []) rest same) commits
double store waits file keep (d ∷ []) call rest same =
    let more : PruneTo keep ∷ [] ≡ call ∷ rest = tail_same (Commit file) d (PruneTo keep ∷ []) (call ∷ rest) same in
    subst (λ (c : StoreCall). Makes store Primary waits File (d ∷ c ∷ [])) (head_same (PruneTo keep) call [] rest more)
    (subst (λ (c : StoreCall). Makes store Primary waits File (c ∷ PruneTo keep ∷ [])) (head_same (Commit file) d (PruneTo keep ∷ []) (call ∷ rest) same) commits_and_prunes)
double store waits file keep (d ∷ e ∷ es) call rest same =
    let more : PruneTo keep ∷ [] ≡ e ∷ (es ++ call ∷ rest) = tail_same (Commit file) d (PruneTo keep ∷ []) (e ∷ (es ++ call ∷ rest)) same in
    absurd (no_end es call rest (tail_same (PruneTo keep) e [] (es ++ call ∷ rest) more))

-- an ask that may make calls may make those of a front
makes-front : {store : StoreState} {role : Role} {waits : Option Ltx} {ask : Ask} {calls : List StoreCall} → Makes store role waits ask calls → (did : List StoreCall) (call : StoreCall) (rest : List StoreCall) →
    calls ≡ did ++ call ∷ rest → Makes store role waits ask (did ++ call ∷ [])
makes-front nothing did call rest same = absurd (no_end did call rest same)
makes-front (commits {waits = w} {file = f}) did call rest same = single _ Primary w File (Commit f) commits did call rest same
makes-front (commits_and_prunes {waits = w} {file = f} {keep = k}) did call rest same = double _ w f k did call rest same
makes-front (unlinks {waits = w}) did call rest same = single _ Primary w File DropAll unlinks did call rest same
makes-front (imports {waits = w} {file = f}) did call rest same = single _ Primary w Import (Commit f) imports did call rest same
makes-front (accepts {waits = w} {file = f}) did call rest same = single _ Primary w (Forward f) _ accepts did call rest same
makes-front (takes {role = r} {waits = w} {file = f} other) did call rest same = single _ r w (Frame f) _ (takes other) did call rest same
makes-front (drops {role = r} {waits = w} other) did call rest same = single _ r w Drop DropAll (drops other) did call rest same
makes-front (finishes {role = r} {file = f}) did call rest same = single _ r (Some f) (Forwarded true) _ finishes did call rest same
makes-front (prunes {role = r} {waits = w} {keep = k}) did call rest same = single _ r w (Prune k) (PruneTo k) prunes did call rest same

failed-answers : {store : StoreState} {role : Role} {waits : Option Ltx} {ask : Ask} {calls : List StoreCall} → Makes store role waits ask calls → (did : List StoreCall) (call : StoreCall) → calls ≡ did ++ call ∷ [] →
    (old new : NodeState) → Answers old role ask did (Some (FailedIn call)) (Refused Disk) new
failed-answers nothing did call same old new = absurd (no_end did call [] same)
failed-answers commits did call same old new = tt
failed-answers commits_and_prunes did call same old new = tt
failed-answers unlinks did call same old new = tt
failed-answers imports did call same old new = tt
failed-answers accepts did call same old new = tt
failed-answers (takes other) did call same old new = refl
failed-answers (drops other) did call same old new = refl
failed-answers finishes did call same old new = λ none. absurd (some_none (FailedIn call) none)
failed-answers prunes did call same old new = tt

-- the answer of a step that fails in this call, after these went well
record CutAnswer (old new : NodeState) (role : Role) (ask : Ask) (did : List StoreCall) (call : StoreCall) : Type 0 where
  pub answer : Answer
  pub answers : Answers old role ask did (Some (FailedIn call)) answer new
  pub refused : LeavesUndone answer did

too_long : (only d : StoreCall) (ds : List StoreCall) (call : StoreCall) → only ∷ [] ≡ (d ∷ ds) ++ call ∷ [] → ⊥
too_long only d ds call same = no_end ds call [] (tail_same only d [] (ds ++ call ∷ []) same)

cut-later : {store : StoreState} {role : Role} {waits : Option Ltx} {ask : Ask} {calls : List StoreCall} → Makes store role waits ask calls → (d : StoreCall) (ds : List StoreCall) (call : StoreCall) → calls ≡ (d ∷ ds) ++ call ∷ [] →
    (old new : NodeState) → CutAnswer old new role ask (d ∷ ds) call
cut-later nothing d ds call same old new = absurd (no_end (d ∷ ds) call [] same)
cut-later (commits {file = f}) d ds call same old new = absurd (too_long (Commit f) d ds call same)
cut-later commits_and_prunes d ds call same old new = record { answer = Done; answers = tt; refused = tt }
cut-later unlinks d ds call same old new = absurd (too_long DropAll d ds call same)
cut-later (imports {file = f}) d ds call same old new = absurd (too_long (Commit f) d ds call same)
cut-later (accepts {file = f}) d ds call same old new = absurd (too_long _ d ds call same)
cut-later (takes {file = f} other) d ds call same old new = absurd (too_long _ d ds call same)
cut-later (drops other) d ds call same old new = absurd (too_long DropAll d ds call same)
cut-later (finishes {file = f}) d ds call same old new = absurd (too_long _ d ds call same)
cut-later (prunes {keep = k}) d ds call same old new = absurd (too_long (PruneTo k) d ds call same)

cut-answer : {store : StoreState} {role : Role} {waits : Option Ltx} {ask : Ask} {calls : List StoreCall} → Makes store role waits ask calls → (did : List StoreCall) (call : StoreCall) → calls ≡ did ++ call ∷ [] →
    (old new : NodeState) → CutAnswer old new role ask did call
cut-answer makes [] call same old new = record { answer = Refused Disk; answers = failed-answers makes [] call same old new; refused = refl }
cut-answer makes (d ∷ ds) call same old new = cut-later makes d ds call same old new

none_some : (let nothing_there : Option Failure = None in IsSome nothing_there) → ⊥
none_some some = cc

before_not_in : (call : StoreCall) → Some (FailedIn call) ≡ Some FailedBefore → ⊥
before_not_in call same = cc

waiting_plain : (n : NodeState) (file : Ltx) → n.waits ≡ Some file → IsPlain n → ⊥
waiting_plain n file waits plain = let none : Some file ≡ None = sym waits ∙ plain.waits in cc

-- a role stays what it is
pub role-stays : (ask : Ask) (role : Role) → KeepsRole ask role role
role-stays File role = refl
role-stays EndSession role = refl
role-stays Where role = refl
role-stays (Hello position last) role = refl
role-stays (Frame file) role = refl
role-stays Drop role = refl
role-stays Import role = refl
role-stays Export role = refl
role-stays (Forward file) role = refl
role-stays (Forwarded ok) role = refl
role-stays NoFile role = refl
role-stays (Prune keep) role = refl
role-stays Permit role = tt
role-stays Lease role = tt

-- a step of the same ask that fails in one of its calls
pub record FailedStep (old : NodeState) (ask : Ask) (calls : List StoreCall) (left : StoreState) : Type 0 where
  pub did : List StoreCall
  pub call : StoreCall
  pub rest : List StoreCall
  pub split : calls ≡ did ++ call ∷ rest
  pub mid : NodeState
  pub answer : Answer
  pub made : Made old mid ask answer did (Some (FailedIn call))
  pub failed : mid.failed ≡ Some (FailedIn call)
  pub leaves : MayBeFound mid.store mid.failed left

-- the node once it has failed. Nothing is told of its files, nor of what waits there
pub failed-step : (old : NodeState) (ask : Ask) (role : Role) (calls : List StoreCall) (left : StoreState) → IsRoleAt old.role role → old.failed ≡ None → Makes old.store role old.waits ask calls → CanDoAll old.store calls →
    IsCut old.store calls left → FailedStep old ask calls left
failed-step old ask role calls left was whole makes can cut =
    let mid : NodeState = record {
      store = all_done old.store cut.did;
      failed = Some (FailedIn cut.call);
      faults = old.faults + 1;
      role = role;
      waits = Some (snapshot_of old.store);
      served = untouched (all_done old.store cut.did).image;
    } in
    let front : Makes old.store role old.waits ask (cut.did ++ cut.call ∷ []) = makes-front makes cut.did cut.call cut.rest cut.split in
    let regroup : (cut.did ++ cut.call ∷ []) ++ cut.rest ≡ calls = append_assoc cut.did (cut.call ∷ []) cut.rest ∙ sym cut.split in
    let told = cut-answer front cut.did cut.call refl old mid in
    record {
      did = cut.did;
      call = cut.call;
      rest = cut.rest;
      split = cut.split;
      mid = mid;
      answer = told.answer;
      made = record {
        facts = record {
          role = role;
          role_was = was;
          role_is = role-stays ask role;
          did = cut.did;
          failed = Some (FailedIn cut.call);
          makes = front;
          tries = λ same. absurd (before_not_in cut.call same);
          can = (CanDoAll-split old.store (cut.did ++ cut.call ∷ []) cut.rest (subst (λ (cs : List StoreCall). CanDoAll old.store cs) (sym regroup) can)).0;
          whole = λ some. absurd (none_some (subst (λ (f : Option Failure). IsSome f) whole some));
          store = refl;
          broken = sym (ap (λ (f : Option Failure). broken_by f (Some (FailedIn cut.call))) whole);
          rose = λ some. (omega arith, omega arith);
          answers = told.answers;
          refused = told.refused;
          steady = λ plain again lock held. absurd (waiting_plain mid (snapshot_of old.store) refl again);
          keeps = λ sound. record { overlay = refl; shares = λ k d within. absurd (omega arith); replica = λ same. refl };
        };
        did_is = refl;
        failed_is = refl;
      };
      failed = refl;
      leaves = cut.leaves;
    }

pub stop_is_two_events-of : StopIsTwoEvents
stop_is_two_events-of old new ask answer left facts whole candidate =
    elim (stops_are_cuts-of old.store left (facts.did ++ begun_by facts.failed) candidate) [
      | inl none_at ↦ inl none_at.1
      | inr cut ↦
          let step : FailedStep old ask (facts.did ++ begun_by facts.failed) left =
          failed-step old ask facts.role (facts.did ++ begun_by facts.failed) left facts.role_was whole facts.makes facts.can cut
          in
          inr record { mid = step.mid; call = step.call; answer = step.answer; facts = step.made.facts; failed = step.failed; leaves = step.leaves }
    ]

broken-kept : (was : Option Failure) → IsSome was → broken_by was None ≡ was
broken-kept None some = absurd (none_some some)
broken-kept (Some failure) some = refl

pub stop_of_broken-of : StopOfBroken
stop_of_broken-of old new ask answer facts some =
    let none = facts.whole some in (
      ap (λ (ds : List StoreCall). ds ++ begun_by facts.failed) none.0 ∙ ap (λ (f : Option Failure). begun_by f) none.1,
      facts.store ∙ ap (λ (ds : List StoreCall). all_done old.store ds) none.0,
      facts.broken ∙ ap (λ (f : Option Failure). broken_by old.failed f) none.1 ∙ broken-kept old.failed some,
    )
