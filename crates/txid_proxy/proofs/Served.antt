-- A request served: its leave, and what comes behind it.
use Rattle.std.proofs.Common.{◌≡◌, ℕ, ◌+◌, ◌≤◌, Bool, true, false, List, [], ◌++◌, length, take, drop, Option, Some, None, Result, Err}
use Rattle.std.proofs.Common.{refl, sym, ap, subst, ◌∙◌, arith}
use Rattle.std.specs.Io.KnownBytes.{Keeps}
use Rattle.std.proofs.lemmas.Grind.{common_steps}
use Rattle.httparse.specs.Grammar.{IsRequestHead, RequestHead, print_request}
use Rattle.httparse.proofs.GrammarLemmas.{request_unique}
use Rattle.lf_base.specs.Dials.{Dial}
use Rattle.lf_base.specs.declared.link.Link.{Ghosts as LinkGhosts}
use Rattle.lf_base.specs.declared.session_end.SessionEnd.{SessionEnd}
use Rattle.lf_base.specs.declared.session_end.SessionEnd.TheVariants as ends
use Rattle.link_session.specs.Spending.{Moves, MovesFor}
use Rattle.link_session.specs.Stands.{Asker, Spends, Stand}
use Rattle.link_session.specs.declared.unread.Unread.{Unread}
use Rattle.link_session.specs.declared.unread.Unread.TheVariants as unread
use Rattle.link_session.specs.Unread.{LeavesUnread, end_of}
use Rattle.http_exchange.specs.declared.told.Untold.{Untold}
use Rattle.http_exchange.specs.declared.told.Untold.TheVariants as untold
use Rattle.http_exchange.specs.Exchange.{TurnsBy}
use Rattle.txid_proxy.specs.Dialing.{PassesOnce}
use Rattle.txid_proxy.specs.declared.asked.Asked.{Asked}
use Rattle.txid_proxy.specs.declared.denial.Denial.{Denial}
use Rattle.txid_proxy.specs.declared.denial.Denial.TheVariants as denial
use Rattle.txid_proxy.specs.declared.wish.Wish.{Wish}
use Rattle.txid_proxy.specs.Asking.{AsksOwn, NodeEntry, database_node, probe}
use Rattle.txid_proxy.specs.Leave.{Grants, GrantsBy}
use Rattle.txid_proxy.specs.Passing.{passed, passed_head}
use Rattle.txid_proxy.specs.Requests.{head_size, BeginsNone, HasRequest, IsPart, IsWhole, Request}
use Rattle.txid_proxy.specs.Session.{asked_on, denied, no_request, post, refused, stopped, told, unfound, Denies, Ends, EndsUnread, HasRead, IsUndialed}
use Rattle.txid_proxy.specs.Session.{PassesOn, Post, Serves}
use Rattle.txid_proxy.specs.Wishes.{IsWish}
use Rattle.txid_proxy.proofs.OwnAsks.{own_file, own_on, own_until, own_vain}

-- ---- the asks of a leave are its own

pub own_granted : (who : Asker) (reads : Bool) (floor : ℕ) (old new : List NodeEntry) (why : Option Denial) → GrantsBy reads who floor old new why
    → AsksOwn who.caller old new
own_granted who true floor old new None g = own_until who floor old new g.0 g.1
own_granted who true floor old new (Some denial.Behind) g = own_vain who floor old new g.0
own_granted who true floor old new (Some denial.NotPrimary) g = absurd g
own_granted who false floor old new None g = own_file who database_node probe old new _ (refl, refl) g
own_granted who false floor old new (Some denial.NotPrimary) g = own_file who database_node probe old new g.0 (refl, refl) g.1
own_granted who false floor old new (Some denial.Behind) g = absurd g

-- ---- the budget

-- asks, and behind them what came to an end
pub spends_behind : (turns mid turns_now : ℕ) (old new : Stand NodeEntry) (between : List NodeEntry) (end : SessionEnd)
    → mid + length between ≡ turns + length old.place.entries
    → Spends {T = Unit {0}} mid (record old { place = record old.place { entries = between } }) turns_now new (Err end)
    → Spends {T = Unit {0}} turns old turns_now new (Err end)
spends_behind turns mid turns_now old new between ends.Turns h s = λ less. let p = s less in (p.0, omega (arith, p.0, p.1, h))
spends_behind turns mid turns_now old new between ends.Worn h s = tt
spends_behind turns mid turns_now old new between ends.Closed h s = tt
spends_behind turns mid turns_now old new between ends.ReadFault h s = tt
spends_behind turns mid turns_now old new between ends.WriteFault h s = tt
spends_behind turns mid turns_now old new between ends.BadMessage h s = tt
spends_behind turns mid turns_now old new between ends.NoMemory h s = tt

-- ---- a denial behind the leave

pub denied_behind : (who : Asker) (tell : Type 0) (request : Request) (wish : Wish) (why : Denial) (budget mid_turns turns : ℕ) (old new : Post)
    (mid : List NodeEntry) (end : SessionEnd)
    → IsWish request.head wish → Grants who wish old.client.place.entries mid (Some why) → mid_turns + length mid ≡ budget + length old.client.place.entries
    → IsUndialed old new
    → Denies who why mid_turns (asked_on old mid) new turns end → Serves who tell request budget old new turns end
denied_behind who tell request wish why budget mid_turns turns old new mid end is grants spent undialed (told host finds says spends) =
    denied wish why mid host is grants finds says undialed (spends_behind budget mid_turns turns old.client new.client mid end spent spends)
denied_behind who tell request wish why budget mid_turns turns old new mid end is grants spent undialed (unfound asked silent ends spends) =
    stopped (own_on who.caller old.client.place.entries mid new.client.place.entries (own_granted who wish.reads wish.floor old.client.place.entries mid
    (Some why) grants) asked) (record { written = silent.written; count = silent.count }) undialed ends
    (spends_behind budget mid_turns turns old.client new.client mid end spent spends)

-- ---- the text that is passed on

-- the head and the body by the sizes that were read
pub record Cuts (bytes : List ℕ) (size len : ℕ) (request : Request) : Type 0 where
  pub head : take size bytes ≡ print_request request.head
  pub body : take len (drop size bytes) ≡ request.body

take_front : (xs ys : List ℕ) → take (length xs) (xs ++ ys) ≡ xs
take_front xs ys = grind (arith, common_steps)

pub cuts : (bytes : List ℕ) (size len : ℕ) (request : Request) → IsWhole bytes size len → HasRequest bytes len request → Cuts bytes size len request
cuts bytes size len request whole has =
    let reads = has.begins.says.reads in
    let same = request_unique bytes whole.head request.head (drop (head_size whole.head) bytes) (drop (head_size request.head) bytes) whole.begins.says.reads reads in
    let size_is : size ≡ head_size request.head = whole.size_is ∙ ap head_size same.0 in record {
      head = ap (λ (n : ℕ). take n bytes) size_is ∙ ap (take (head_size request.head)) reads.1
          ∙ take_front (print_request request.head) (drop (head_size request.head) bytes);
      body = ap (λ (n : ℕ). take len (drop n bytes)) size_is ∙ sym has.body;
    }

-- what is written is the request as it is passed on
pub text_is : (bytes : List ℕ) (size len : ℕ) (request : Request) (front slice head body none : List ℕ) → IsWhole bytes size len → HasRequest bytes len request
    → head ≡ take size bytes
    → body ≡ take len (drop size bytes) → slice ≡ front → none ≡ []
    → ((h : RequestHead) → IsRequestHead h → head ≡ print_request h → front ≡ none ++ print_request (passed_head h)) → slice ++ body ≡ passed request.head request.body
text_is bytes size len request front slice head body none whole has h b s n put =
    let cut = cuts bytes size len request whole has in
    let front_is : front ≡ print_request (passed_head request.head) = put request.head has.begins.says.reads.0 (h ∙ cut.head)
    ∙ ap (λ (xs : List ℕ). xs ++ print_request (passed_head request.head)) n in
    ap (λ (xs : List ℕ). xs ++ body) (s ∙ front_is) ∙ ap (λ (xs : List ℕ). print_request (passed_head request.head) ++ xs) (b ∙ cut.body)

pub passes_text : {tell : Type 0} {old new : Option (List Dial)} {result : Result (List ℕ) Untold} (a b : List ℕ) → a ≡ b → PassesOnce a tell old new result
    → PassesOnce b tell old new result
passes_text {tell} {old} {new} {result} a b is p = subst (λ (text : List ℕ). PassesOnce text tell old new result) is p

-- a link that used the turns up left none
pub turns_out : (before now : ℕ) (r : Result (List ℕ) Untold) → TurnsBy before now r → r ≡ Err untold.Turns → now ≡ 0
turns_out before now r t is = subst (λ (x : Result (List ℕ) Untold). TurnsBy before now x) is t

-- ---- a request that was read

pub the_request : (bytes : List ℕ) (size len : ℕ) → IsWhole bytes size len → Request
the_request bytes size len whole = record { head = whole.head; body = take len (drop (head_size whole.head) bytes) }

pub has_request : (bytes : List ℕ) (size len : ℕ) (whole : IsWhole bytes size len) → HasRequest bytes len (the_request bytes size len whole)
unfolding the_request
has_request bytes size len whole = record {
  begins = whole.begins;
  fits = whole.fits;
  whole = subst (λ (n : ℕ). n + len ≤ length bytes) whole.size_is whole.whole;
  body = refl;
}

-- the client's link was read alone
pub has_read : (budget turns : ℕ) (old new : Post) → Keeps old.client.place.taken new.client.place.taken → new.client.place.entries ≡ old.client.place.entries
    → new.client.faults ≡ old.client.faults
    → new.dials ≡ old.dials → new.faults ≡ old.faults → Moves budget old.client.moves turns new.client.moves → HasRead budget old new turns
has_read budget turns old new kept asked count dials faults moves = record {
  still = record { written = kept; asked = asked };
  count = count;
  undialed = record { dials = dials; faults = faults };
  spent = λ less. let p = moves less in (p.0, omega (arith, p.1, ap length asked));
}

-- a reading that ended the session
pub spends_reading : (turns turns_now : ℕ) (old new : Stand NodeEntry) (end : SessionEnd) → new.place.entries ≡ old.place.entries
    → MovesFor {T = Unit {0}} (Err end) turns old.moves turns_now new.moves → Spends {T = Unit {0}} turns old turns_now new (Err end)
spends_reading turns turns_now old new ends.Turns same m = λ less. let p = m.1 less in (p.0, omega (arith, p.1, ap length same))
spends_reading turns turns_now old new ends.Worn same m = tt
spends_reading turns turns_now old new ends.Closed same m = tt
spends_reading turns turns_now old new ends.ReadFault same m = tt
spends_reading turns turns_now old new ends.WriteFault same m = tt
spends_reading turns turns_now old new ends.BadMessage same m = tt
spends_reading turns turns_now old new ends.NoMemory same m = tt

-- by whom, where that is the same
pub passes_as : {reads : Bool} {tell : Type 0} {text : List ℕ} {old new : Post} {turns : ℕ} {end : SessionEnd} (a b : ℕ) → b ≡ a
    → PassesOn b reads tell text old new turns end
    → PassesOn a reads tell text old new turns end
passes_as {reads} {tell} {text} {old} {new} {turns} {end} a b same p = subst (λ (n : ℕ). PassesOn n reads tell text old new turns end) same p

pub denies_as : {why : Denial} {budget : ℕ} {old new : Post} {turns : ℕ} {end : SessionEnd} (a b : Asker) → b ≡ a → Denies b why budget old new turns end
    → Denies a why budget old new turns end
denies_as {why} {budget} {old} {new} {turns} {end} a b same d = subst (λ (who : Asker). Denies who why budget old new turns end) same d

-- ---- no request was read

quiet : {L : Type 0} (l : LinkGhosts L) (who : Asker) (tell : Type 0) (budget left turns : ℕ) (a b c : L) (entries : List NodeEntry) (dials : Option (List Dial))
    (faults : ℕ) (why : Unread)
    (end : SessionEnd) → (why ≡ unread.Broken → ⊥) → LeavesUnread {T = Unit {0}} true IsPart BeginsNone (l.left a) (l.left b) (l.faults a) (l.faults b) left
    (Err why) → Keeps (l.taken a) (l.taken b)
    → MovesFor {T = Unit {0}} (Err (end_of why)) budget (l.moves a) left (l.moves b) → (end ≡ end_of why) × (c ≡ b) × (turns ≡ left)
    → Ends who tell budget (post l a entries dials faults) (post l c entries dials faults) turns end
quiet {L} l who tell budget left turns a b c entries dials faults why end not leaves kept moves e =
    let old = post l a entries dials faults in
    let mid = post l b entries dials faults in
    let at : Ends who tell budget old mid left (end_of why) = no_request why not (record {
      cause = leaves;
      still = record { written = kept; asked = refl };
      undialed = record { dials = refl; faults = refl };
      spent = spends_reading budget left old.client mid.client (end_of why) refl moves;
    }) refl in
    subst (λ (x : L). Ends who tell budget old (post l x entries dials faults) turns end) (sym e.1)
    (subst (λ (t : ℕ). Ends who tell budget old mid t end) (sym e.2) (subst (λ (x : SessionEnd). Ends who tell budget old mid left x) (sym e.0) at))

pub unread_ends : {L : Type 0} (l : LinkGhosts L) (who : Asker) (tell : Type 0) (budget left turns : ℕ) (a b c : L) (entries : List NodeEntry) (dials : Option
    (List Dial)) (faults : ℕ)
    (why : Unread) (end : SessionEnd) → LeavesUnread {T = Asked} true IsPart BeginsNone (l.left a) (l.left b) (l.faults a) (l.faults b) left (Err why)
    → Keeps (l.taken a) (l.taken b)
    → MovesFor {T = Asked} (Err (end_of why)) budget (l.moves a) left (l.moves b) → (why ≡ unread.Broken → (left ≤ budget) × Moves budget (l.moves a) left (l.moves b))
    → EndsUnread l why b c left turns end → Ends who tell budget (post l a entries dials faults) (post l c entries dials faults) turns end
unread_ends l who tell budget left turns a b c entries dials faults unread.Broken end leaves kept moves broken e =
    let old = post l a entries dials faults in
    let mid = post l b entries dials faults in
    let new = post l c entries dials faults in
    refused mid left leaves.0 (has_read budget left old mid kept refl leaves.1 refl refl (broken refl).1) (record {
      says = e.0;
      unasked = refl;
      undialed = record { dials = refl; faults = refl };
      spent = spends_reading left turns mid.client new.client end refl e.1;
    })
unread_ends l who tell budget left turns a b c entries dials faults unread.Ended end leaves kept moves broken e =
    quiet l who tell budget left turns a b c entries dials faults unread.Ended end (λ is. absurd (cc)) leaves kept moves e
unread_ends l who tell budget left turns a b c entries dials faults unread.Cut end leaves kept moves broken e =
    quiet l who tell budget left turns a b c entries dials faults unread.Cut end (λ is. absurd (cc)) leaves kept moves e
unread_ends l who tell budget left turns a b c entries dials faults unread.ReadFault end leaves kept moves broken e =
    quiet l who tell budget left turns a b c entries dials faults unread.ReadFault end (λ is. absurd (cc)) leaves kept moves e
unread_ends l who tell budget left turns a b c entries dials faults unread.Turns end leaves kept moves broken e =
    quiet l who tell budget left turns a b c entries dials faults unread.Turns end (λ is. absurd (cc)) leaves kept moves e
unread_ends l who tell budget left turns a b c entries dials faults unread.NoMemory end leaves kept moves broken e =
    quiet l who tell budget left turns a b c entries dials faults unread.NoMemory end (λ is. absurd (cc)) leaves kept moves e
