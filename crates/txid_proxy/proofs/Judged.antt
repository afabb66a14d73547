-- What bytes begin with, where a request is to come, and with more bytes behind them.
use Rattle.std.proofs.Common.{◌≡◌, true, ℕ, ◌≤◌, List, [], ◌∷◌, ◌++◌, length, drop, Option, Some, None, Err, IfSome, refl, ap, sym, subst}
use Rattle.std.proofs.Common.{◌∙◌, arith, append_assoc, length-append}
use Rattle.std.specs.Io.KnownBytes.{Consumes, IsAtEnd}
use lib.Seq.{drop-append-le}
use Rattle.httparse.specs.Grammar.{RequestHead, ReadsRequest, print_request}
use Rattle.httparse.proofs.GrammarLemmas.{ReadsRequest-append}
use Rattle.stream_wire.specs.declared.call.Call.{Call}
use Rattle.stream_wire.specs.declared.wire_fault.WireFault.{WireFault}
use Rattle.stream_wire.specs.declared.wire_fault.WireFault.TheVariants as wire
use Rattle.stream_wire.specs.Head.{HearsRequest, IsRequest, IsTaken, NeverTakesRequest, TakesRequest}
use Rattle.lf_base.specs.Faults.{Rose}
use Rattle.lf_base.specs.declared.link.Link.{Ghosts as LinkGhosts}
use Rattle.lf_base.specs.declared.session_end.SessionEnd.{SessionEnd}
use Rattle.lf_base.specs.declared.session_end.SessionEnd.TheVariants as ends
use Rattle.link_session.specs.Spending.{MovesFor}
use Rattle.link_session.specs.Unread.{LeavesUnread, end_of}
use Rattle.http_exchange.specs.Reading.{EndsMore, Gave}
use Rattle.http_exchange.proofs.Giving.{gave_no_more, gave_on}
use Rattle.txid_proxy.specs.Requests.{head_size, no_head, too_old, BeginsNone, IsPart, SaysBody}
use Rattle.txid_proxy.specs.Unread.{unread_by}

-- a head that is refused never comes
pub never : (bytes : List ℕ) (f : WireFault) → (f ≡ wire.NoMemory → ⊥) → HearsRequest bytes (Err f) → NeverTakesRequest bytes
never bytes wire.Head some h = h
never bytes wire.NoMemory some h = absurd (some refl)
never bytes (wire.Kind kind) some h = absurd h
never bytes wire.NameText some h = absurd h
never bytes wire.Length some h = absurd h
never bytes (wire.TooLong len) some h = absurd h

-- a head that names a call says its body
pub says_body : (bytes : List ℕ) (size len : ℕ) (called : Call) (h : IsRequest bytes size called len) → SaysBody bytes h.head len
says_body bytes size len called h = record {
  said = h.said;
  reads = subst (λ (n : ℕ). ReadsRequest bytes h.head (drop n bytes)) h.size_is h.reads;
  taken = subst (λ (n : ℕ). IsTaken n h.head.fields h.said) h.size_is h.taken;
  len_is = h.len_is;
}

pub head_within : (bytes : List ℕ) (head : RequestHead) (len : ℕ) → SaysBody bytes head len → head_size head ≤ length bytes
head_within bytes head len h = omega (arith, ap length h.reads.1, length-append (print_request head) (drop (head_size head) bytes))

pub new_enough : (minor : ℕ) → minor ≤ 1 → (minor ≡ 0 → ⊥) → minor ≡ 1
new_enough minor low some = omega (arith, low, some)

-- ---- more bytes behind

longer_body : (bytes more : List ℕ) (head : RequestHead) (len : ℕ) → SaysBody bytes head len → SaysBody (bytes ++ more) head len
longer_body bytes more head len h = record {
  said = h.said;
  reads = subst (λ (rest : List ℕ). ReadsRequest (bytes ++ more) head rest) (sym (drop-append-le (head_size head) bytes more (head_within bytes head len h)))
      (ReadsRequest-append bytes head (drop (head_size head) bytes) more h.reads);
  taken = h.taken;
  len_is = h.len_is;
}

pub begins_none : (bytes more : List ℕ) → BeginsNone bytes → BeginsNone (bytes ++ more)
begins_none bytes more (no_head n) = no_head (λ rest takes. n (more ++ rest) (subst TakesRequest (append_assoc bytes more rest) takes))
begins_none bytes more (too_old head len says old) = too_old head len (longer_body bytes more head len says) old

pub none_in : (text left : Option (List ℕ)) (bytes : List ℕ) → Consumes text left bytes → BeginsNone bytes → IfSome text BeginsNone
none_in None left bytes c n = tt
none_in (Some t) None bytes c n = absurd c
none_in (Some t) (Some l) bytes c n = subst BeginsNone (sym c) (begins_none bytes l n)

-- ---- no request was read

none_came : (text left : Option (List ℕ)) → Consumes text left [] → IsAtEnd left → IsAtEnd text
none_came None left c end = tt
none_came (Some t) None c end = absurd c
none_came (Some t) (Some l) c end = c ∙ end

at_close : {L : Type 0} (U : Type 0) (l : LinkGhosts L) (a c : L) (held : List ℕ) (turns : ℕ) → Gave l a c held → IsAtEnd (l.left c) → l.faults c ≡ l.faults a
    → IsPart held
    → LeavesUnread {T = U} true IsPart BeginsNone (l.left a) (l.left c) (l.faults a) (l.faults c) turns (Err (unread_by ends.Closed held))
at_close U l a c [] turns g end same part = (none_came (l.left a) (l.left c) g.left end, end, same)
at_close U l a c (b ∷ held) turns g end same part = (record { bytes = b ∷ held; some = λ e. absurd (cc); part = part; read = g.left; end = end }, same)

pub asked_ends : {L : Type 0} (U : Type 0) (l : LinkGhosts L) (a b c : L) (held now : List ℕ) (turns : ℕ) (end : SessionEnd) → Gave l a b held
    → l.faults b ≡ l.faults a → IsPart held
    → EndsMore {T = Unit {0}} l b c held now turns (Err end)
    → LeavesUnread {T = U} true IsPart BeginsNone (l.left a) (l.left c) (l.faults a) (l.faults c) turns (Err (unread_by end held))
asked_ends U l a b c held now turns ends.Closed g same part e = at_close U l a c held turns (gave_no_more l a b c held g e.0) e.1 (e.2 ∙ same) part
asked_ends U l a b c held now turns ends.ReadFault g same part e =
    (record { bytes = held; part = part; read = (gave_no_more l a b c held g e.0).left }, subst (λ (n : ℕ). Rose n (l.faults c)) same e.1)
asked_ends U l a b c held now turns ends.Turns g same part e = (record { bytes = held; part = part; read = (gave_no_more l a b c held g e.0).left }, e.1, e.2 ∙ same)
asked_ends U l a b c held now turns ends.NoMemory g same part e = (refl, (held ++ e.0.0, (gave_on l a b c held e.0.0 g e.0.1).left), e.1 ∙ same)
asked_ends U l a b c held now turns ends.WriteFault g same part e = absurd e
asked_ends U l a b c held now turns ends.BadMessage g same part e = absurd e
asked_ends U l a b c held now turns ends.Worn g same part e = absurd e

closed_spent : (T U : Type 0) (held : List ℕ) (turns moves turns_now moves_now : ℕ) → turns_now ≤ turns
    → MovesFor {T = U} (Err (end_of (unread_by ends.Closed held))) turns moves turns_now moves_now
closed_spent T U [] turns moves turns_now moves_now f = f
closed_spent T U (b ∷ held) turns moves turns_now moves_now f = f

pub asked_spent : (T U : Type 0) (end : SessionEnd) (held : List ℕ) (turns moves turns_now moves_now : ℕ) → (end ≡ ends.Worn → ⊥)
    → MovesFor {T = T} (Err end) turns moves turns_now moves_now
    → MovesFor {T = U} (Err (end_of (unread_by end held))) turns moves turns_now moves_now
asked_spent T U ends.Closed held turns moves turns_now moves_now not f = closed_spent T U held turns moves turns_now moves_now f
asked_spent T U ends.ReadFault held turns moves turns_now moves_now not f = f
asked_spent T U ends.WriteFault held turns moves turns_now moves_now not f = f
asked_spent T U ends.BadMessage held turns moves turns_now moves_now not f = f
asked_spent T U ends.Turns held turns moves turns_now moves_now not f = f
asked_spent T U ends.Worn held turns moves turns_now moves_now not f = absurd (not refl)
asked_spent T U ends.NoMemory held turns moves turns_now moves_now not f = f

pub not_worn : {L : Type 0} (l : LinkGhosts L) (b c : L) (held now : List ℕ) (turns : ℕ) (end : SessionEnd) → EndsMore {T = Unit {0}} l b c held now turns (Err end)
    → end ≡ ends.Worn → ⊥
not_worn l b c held now turns end e is = subst (λ (x : SessionEnd). EndsMore {T = Unit {0}} l b c held now turns (Err x)) is e
