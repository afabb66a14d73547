-- Asks that are made for a request's sake.
use Rattle.std.proofs.Common.{◌≡◌, ℕ, ◌+◌, List, [], ◌∷◌, ◌++◌, length, Option, Result, Ok, Err, IfOk, Bool, refl, sym, ap}
use Rattle.std.proofs.Common.{subst, ◌∙◌, arith, append_assoc, append-nil}
use Rattle.std.specs.List.{AllByRecursion}
use Rattle.lf_base.specs.declared.session_end.SessionEnd.{SessionEnd}
use Rattle.lf_base.specs.declared.session_end.SessionEnd.TheVariants as ends
use Rattle.fuse_msgs.specs.declared.request.Op.{Op}
use Rattle.turn_desk.specs.History.{entry}
use Rattle.link_session.specs.Asking.{AskedInVain, AskedUntil, IsAgain}
use Rattle.link_session.specs.Spending.{MovesFor}
use Rattle.link_session.specs.Stands.{Asker, Spends, Stand}
use Rattle.node_core.specs.declared.answer.Answer.{Answer}
use Rattle.node_core.specs.declared.ask.Ask.TheVariants as asks
use Rattle.txid_proxy.specs.Asking.{below, file_request, AsksOwn, IsFileAsked, IsOwnAsk, IsOwnOp, NodeEntry, OpensHost, ReadsHost}
use Rattle.txid_proxy.specs.Spending.{SpendsAsks}

-- by its own asks
abbrev pub IsOwn : ℕ → NodeEntry → Type 0
IsOwn caller one = (one.caller ≡ caller) × IsOwnAsk one.ask

each_append : {X : Type 0} (P : X → Type 0) (xs ys : List X) → AllByRecursion P xs → AllByRecursion P ys → AllByRecursion P (xs ++ ys)
each_append P [] ys a b = b
each_append P (x ∷ xs) ys a b = (a.0, each_append P xs ys a.1 b)

each_by : {X : Type 0} (P Q : X → Type 0) (xs : List X) → ((x : X) → P x → Q x) → AllByRecursion P xs → AllByRecursion Q xs
each_by P Q [] f a = tt
each_by P Q (x ∷ xs) f a = (f x a.0, each_by P Q xs f a.1)

pub own_none : (caller : ℕ) (old new : List NodeEntry) → new ≡ old → AsksOwn caller old new
own_none caller old new same = record { more = []; own = tt; are = same ∙ sym (append-nil old) }

pub own_on : (caller : ℕ) (a b c : List NodeEntry) → AsksOwn caller a b → AsksOwn caller b c → AsksOwn caller a c
own_on caller a b c x y = record {
  more = x.more ++ y.more;
  own = each_append (IsOwn caller) x.more y.more x.own y.own;
  are = y.are ∙ ap (λ (xs : List NodeEntry). xs ++ y.more) x.are ∙ append_assoc a x.more y.more;
}

pub own_file : (who : Asker) (node : ℕ) (op : Op) (old new : List NodeEntry) (answer : Answer) → IsOwnOp node op → IsFileAsked who node op old new answer
    → AsksOwn who.caller old new
own_file who node op old new answer own is = record {
  more = entry who.caller (asks.File is.now (file_request node op)) answer ∷ [];
  own = ((refl, own), tt);
  are = is.entries;
}

again_own : (who : Asker) (floor : ℕ) (one : NodeEntry) → IsAgain (below who floor) asks.Where one → IsOwn who.caller one
again_own who floor one is = (is.caller, subst IsOwnAsk (sym is.asked.is) tt)

pub own_vain : (who : Asker) (floor : ℕ) (old new : List NodeEntry) → AskedInVain (below who floor) asks.Where old new → AsksOwn who.caller old new
own_vain who floor old new v = record {
  more = v.repeated;
  own = each_by (IsAgain (below who floor) asks.Where) (IsOwn who.caller) v.repeated (again_own who floor) v.each;
  are = v.entries;
}

pub own_until : (who : Asker) (floor : ℕ) (old new : List NodeEntry) (answer : Answer) → AskedUntil (below who floor) asks.Where old new answer
    → AsksOwn who.caller old new
own_until who floor old new answer u = record {
  more = u.repeated ++ entry who.caller u.last answer ∷ [];
  own = each_append (IsOwn who.caller) u.repeated (entry who.caller u.last answer ∷ []) (each_by (IsAgain (below who floor) asks.Where) (IsOwn who.caller) u.repeated
      (again_own who floor) u.each)
      ((refl, subst IsOwnAsk (sym u.asked.is) tt), tt);
  are = u.entries;
}

-- ---- the budget

-- asks that came to no end, while nothing was written
pub spends_unsaid : {E : Type 0} (turns turns_now : ℕ) (old new : Stand E) (end : SessionEnd) → new.moves ≡ old.moves
    → SpendsAsks {E = E} {T = Unit {0}} turns old.place.entries turns_now new.place.entries (Err end) → Spends {T = Unit {0}} turns old turns_now new (Err end)
spends_unsaid turns turns_now old new ends.Turns same a = λ less. (omega (arith, same), omega (arith, same, a))
spends_unsaid turns turns_now old new ends.Worn same a = tt
spends_unsaid turns turns_now old new ends.Closed same a = tt
spends_unsaid turns turns_now old new ends.ReadFault same a = tt
spends_unsaid turns turns_now old new ends.WriteFault same a = tt
spends_unsaid turns turns_now old new ends.BadMessage same a = tt
spends_unsaid turns turns_now old new ends.NoMemory same a = tt

-- asks, and then a reply
pub spends_reply : {E : Type 0} (turns mid turns_now : ℕ) (old new : Stand E) (end : SessionEnd) → mid + length new.place.entries ≡ turns + length old.place.entries
    → MovesFor {T = Unit {0}} (Err end) mid old.moves turns_now new.moves → Spends {T = Unit {0}} turns old turns_now new (Err end)
spends_reply turns mid turns_now old new ends.Turns h m = λ less. let p = m.1 less in (p.0, omega (arith, p.0, p.1, h))
spends_reply turns mid turns_now old new ends.Worn h m = tt
spends_reply turns mid turns_now old new ends.Closed h m = tt
spends_reply turns mid turns_now old new ends.ReadFault h m = tt
spends_reply turns mid turns_now old new ends.WriteFault h m = tt
spends_reply turns mid turns_now old new ends.BadMessage h m = tt
spends_reply turns mid turns_now old new ends.NoMemory h m = tt

-- ---- by whom, where that is the same

pub same_who : (who now : Asker) → now.caller ≡ who.caller → now.may ≡ who.may → now ≡ who
same_who who now c m =
    let make : ℕ → (ℕ → Bool) → Asker = λ caller may. record { caller = caller; may = may } in
    ap (λ (n : ℕ). make n now.may) c ∙ ap (λ (t : ℕ → Bool). make who.caller t) m

pub reads_as : {node fh : ℕ} {old new : List NodeEntry} {host : Option (List ℕ)} (a b : Asker) → b ≡ a → ReadsHost b node fh old new host
    → ReadsHost a node fh old new host
reads_as {node} {fh} {old} {new} {host} a b same r = subst (λ (who : Asker). ReadsHost who node fh old new host) same r

pub opens_as : {node : ℕ} {old new : List NodeEntry} {host : Option (List ℕ)} (a b : Asker) → b ≡ a → OpensHost b node old new host → OpensHost a node old new host
opens_as {node} {old} {new} {host} a b same r = subst (λ (who : Asker). OpensHost who node old new host) same r

pub ok_by : {T E : Type 0} (r : Result T E) (P Q : T → Type 0) → ((x : T) → P x → Q x) → IfOk r P → IfOk r Q
ok_by (Ok x) P Q f p = f x p
ok_by (Err e) P Q f p = tt
