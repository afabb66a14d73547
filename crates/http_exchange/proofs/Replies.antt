-- Replies whose head was read.
use Rattle.std.proofs.Common.{◌≡◌, ℕ, ◌+◌, ◌<◌, ◌≤◌, true, false, List, [], ◌++◌, length, take, drop, Option, Some, None, Result, Ok, Err, OnOk, IfErr, ap, sym, subst, ◌∙◌, arith, length-append}
use Rattle.std.specs.Io.KnownBytes.{IsAtEnd}
use Rattle.std.proofs.lemmas.List.{length-drop}
use lib.Seq.{drop-append-le}
use Rattle.httparse.specs.Grammar.{print_response, ReadsResponse}
use Rattle.httparse.proofs.GrammarLemmas.{ReadsResponse-append}
use Rattle.lf_base.specs.declared.link.Link.{Ghosts as LinkGhosts}
use Rattle.lf_base.specs.declared.session_end.SessionEnd.{SessionEnd}
use Rattle.lf_base.specs.declared.session_end.SessionEnd.TheVariants as ends
use Rattle.stream_wire.specs.declared.wire_fault.WireFault.{WireFault}
use Rattle.stream_wire.specs.declared.wire_fault.WireFault.TheVariants as fault
use Rattle.stream_wire.specs.Head.{HearsResponse, IsResponse, NeverTakesResponse}
use Rattle.http_exchange.specs.declared.told.Told.{Told}
use Rattle.http_exchange.specs.declared.told.Untold.{Untold}
use Rattle.http_exchange.specs.declared.told.Untold.TheVariants as untold
use Rattle.http_exchange.specs.Exchange.{untold_by, EndsUnending, ReadsNone, ReadsReply, ReadsRest}
use Rattle.http_exchange.specs.Reading.{EndsFewer, Gave, GaveFewer, GaveMore, KeepsEnough}
use Rattle.http_exchange.specs.Reply.{came, cut, in_body, no_length, said, short, to_the_end, unending, with_length, IsShort, Terms}
use Rattle.http_exchange.proofs.Giving.{gave_none, gave_on}

-- a response that is refused is never taken
pub refused : (bytes : List ℕ) (f : WireFault) → HearsResponse bytes (Err f) → NeverTakesResponse bytes
refused bytes fault.Head h = h
refused bytes fault.NoMemory h = absurd h
refused bytes (fault.Kind kind) h = absurd h
refused bytes fault.NameText h = absurd h
refused bytes fault.Length h = absurd h
refused bytes (fault.TooLong len) h = absurd h

-- a head lies within the bytes that begin with it
pub within : (bytes : List ℕ) (size status : ℕ) (len : Option ℕ) → IsResponse bytes size status len → size ≤ length bytes
within bytes size status len h = omega (arith, ap length h.reads.1, length-append (print_response h.head) (drop size bytes), h.size_is)

-- what stands behind it, with more bytes
pub behind : (bytes more : List ℕ) (size status : ℕ) (len : Option ℕ) → IsResponse bytes size status len → drop size (bytes ++ more) ≡ drop size bytes ++ more
behind bytes more size status len h = drop-append-le size bytes more (within bytes size status len h)

-- a head stays one, whatever bytes follow
pub longer : (bytes more : List ℕ) (size status : ℕ) (len : Option ℕ) → IsResponse bytes size status len → IsResponse (bytes ++ more) size status len
longer bytes more size status len h = record {
  head = h.head;
  reads = subst (λ (rest : List ℕ). ReadsResponse (bytes ++ more) h.head rest) (sym (behind bytes more size status len h))
      (ReadsResponse-append bytes h.head (drop size bytes) more h.reads);
  size_is = h.size_is;
  taken = h.taken;
  status_is = h.status_is;
}

-- so many bytes came behind a head and what came with it
counted : (bytes more : List ℕ) (size : ℕ) → size ≤ length bytes → size + length (drop size bytes ++ more) ≡ length (bytes ++ more)
counted bytes more size fits = omega (arith, length-append (drop size bytes) more, length-append bytes more, length-drop size bytes, fits)

-- ---- a reply that says its length

-- its body came
pub rest_sized : {L : Type 0} (l : LinkGhosts L) (terms : Terms) (bytes body : List ℕ) (a b : L) (size status len : ℕ) (kept : List ℕ) → IsResponse bytes size status (Some len)
    → body ≡ drop size bytes → len ≤ terms.limit → KeepsEnough l a b body len kept → ReadsRest l terms bytes a b status kept
rest_sized l terms bytes body a b size status len kept h is fits k =
    let more : List ℕ = k.0.more in
    let all : body ++ more ≡ drop size (bytes ++ more) = ap (λ (xs : List ℕ). xs ++ more) is ∙ sym (behind bytes more size status (Some len) h) in
    let enough : len ≤ length (drop size bytes ++ more) = subst (λ (xs : List ℕ). len ≤ length (xs ++ more)) is k.0.enough in
    record {
      more = more;
      gave = k.0.gave;
      whole = with_length size len (record { head = longer bytes more size status (Some len) h; fits = fits })
          (omega (arith, enough, counted bytes more size (within bytes size status (Some len) h)))
          (k.1 ∙ ap (λ (xs : List ℕ). take len xs) all);
    }

-- less of its body came
short_body : {L : Type 0} (l : LinkGhosts L) (terms : Terms) (bytes body : List ℕ) (a b : L) (size status len : ℕ) → IsResponse bytes size status (Some len) → body ≡ drop size bytes
    → len ≤ terms.limit → (g : GaveFewer l a b body len) → IsShort terms (bytes ++ g.more)
short_body l terms bytes body a b size status len h is fits g =
    let less : length (drop size bytes ++ g.more) < len = subst (λ (xs : List ℕ). length (xs ++ g.more) < len) is g.fewer in
    in_body size status len (record { head = longer bytes g.more size status (Some len) h; fits = fits })
    (omega (arith, less, counted bytes g.more size (within bytes size status (Some len) h)))

pub none_sized : {L : Type 0} (l : LinkGhosts L) (terms : Terms) (bytes body : List ℕ) (a b : L) (size status len turns : ℕ) (end : SessionEnd)
    → IsResponse bytes size status (Some len) → body ≡ drop size bytes → len ≤ terms.limit → EndsFewer {T = Unit {0}} l a b body len turns (Err end)
    → ReadsNone l terms bytes a b (untold_by end)
none_sized l terms bytes body a b size status len turns ends.BadMessage h is fits e =
    record { more = e.0.more; gave = e.0.gave; why_is = cut (short_body l terms bytes body a b size status len h is fits e.0) e.1 }
none_sized l terms bytes body a b size status len turns ends.ReadFault h is fits e =
    record { more = e.0.more; gave = e.0.gave; why_is = short (short_body l terms bytes body a b size status len h is fits e.0) }
none_sized l terms bytes body a b size status len turns ends.Turns h is fits e =
    record { more = e.0.more; gave = e.0.gave; why_is = short (short_body l terms bytes body a b size status len h is fits e.0) }
none_sized l terms bytes body a b size status len turns ends.NoMemory h is fits e = record { more = e.0.0; gave = e.0.1; why_is = tt }
none_sized l terms bytes body a b size status len turns ends.Closed h is fits e = absurd e
none_sized l terms bytes body a b size status len turns ends.WriteFault h is fits e = absurd e
none_sized l terms bytes body a b size status len turns ends.Worn h is fits e = absurd e

-- the length is past the limit
pub none_long : {L : Type 0} (l : LinkGhosts L) (terms : Terms) (bytes : List ℕ) (a : L) (size status len : ℕ) → IsResponse bytes size status (Some len) → terms.limit < len
    → ReadsNone l terms bytes a a untold.TooLong
none_long l terms bytes a size status len h past =
    record { more = []; gave = gave_none l a; why_is = said size status len (longer bytes [] size status (Some len) h) past }

-- ---- a reply that says none

pub none_unsaid : {L : Type 0} (l : LinkGhosts L) (terms : Terms) (bytes : List ℕ) (a : L) (size status : ℕ) → IsResponse bytes size status None → terms.sized ≡ true
    → ReadsNone l terms bytes a a untold.Unfit
none_unsaid l terms bytes a size status h wanted =
    record { more = []; gave = gave_none l a; why_is = no_length size status (longer bytes [] size status None h) wanted }

pub rest_unsaid : {L : Type 0} (l : LinkGhosts L) (terms : Terms) (bytes body now : List ℕ) (a b : L) (size status : ℕ) → IsResponse bytes size status None → body ≡ drop size bytes
    → terms.sized ≡ false → GaveMore l a b body now → IsAtEnd (l.left b) → length now ≤ terms.limit → ReadsRest l terms bytes a b status now
rest_unsaid l terms bytes body now a b size status h is free m end fits = record {
  more = m.more;
  gave = m.gave;
  whole = to_the_end size (record { head = longer bytes m.more size status None h; taken = free }) end
      (m.behind ∙ ap (λ (xs : List ℕ). xs ++ m.more) is ∙ sym (behind bytes m.more size status None h)) fits;
}

-- what came behind the head
came_of : (bytes body more : List ℕ) (size status : ℕ) (P : List ℕ → Type 0) → IsResponse bytes size status None → body ≡ drop size bytes → P (body ++ more) → P (drop size (bytes ++ more))
came_of bytes body more size status P h is p =
    subst P (ap (λ (xs : List ℕ). xs ++ more) is ∙ sym (behind bytes more size status None h)) p

pub none_unending : {L : Type 0} (l : LinkGhosts L) (terms : Terms) (bytes body : List ℕ) (a b : L) (size status : ℕ) (why : Untold) → IsResponse bytes size status None
    → body ≡ drop size bytes → terms.sized ≡ false → EndsUnending {T = Unit {0}} l a b body terms.limit (Err why) → ReadsNone l terms bytes a b why
none_unending l terms bytes body a b size status untold.TooLong h is free e = record {
  more = e.0;
  gave = e.1;
  why_is = came size status (record { head = longer bytes e.0 size status None h; taken = free })
      (came_of bytes body e.0 size status (λ (xs : List ℕ). terms.limit < length xs) h is e.2);
}
none_unending l terms bytes body a b size status untold.Fault h is free e = record {
  more = e.0;
  gave = e.1;
  why_is = unending size status (record { head = longer bytes e.0 size status None h; taken = free })
      (came_of bytes body e.0 size status (λ (xs : List ℕ). length xs ≤ terms.limit) h is e.2);
}
none_unending l terms bytes body a b size status untold.Turns h is free e = record {
  more = e.0;
  gave = e.1;
  why_is = unending size status (record { head = longer bytes e.0 size status None h; taken = free })
      (came_of bytes body e.0 size status (λ (xs : List ℕ). length xs ≤ terms.limit) h is e.2);
}
none_unending l terms bytes body a b size status untold.NoMemory h is free e = record { more = e.0; gave = e.1; why_is = tt }
none_unending l terms bytes body a b size status untold.Unfit h is free e = absurd e

-- what became of a reply whose head says no length
pub unsaid_whole : {L T F : Type 0} (l : LinkGhosts L) (terms : Terms) (body now : List ℕ) (a b : L) (len : Option ℕ) (r : Result T F) → len ≡ None → terms.sized ≡ false
    → OnOk r (GaveMore l a b body now × IsAtEnd (l.left b) × (length now ≤ terms.limit))
    → OnOk r ((bytes : List ℕ) (size status : ℕ) → IsResponse bytes size status len → body ≡ drop size bytes → ReadsRest l terms bytes a b status now)
unsaid_whole l terms body now a b len (Ok x) none free w = λ bytes size status h is.
    rest_unsaid l terms bytes body now a b size status (subst (λ (n : Option ℕ). IsResponse bytes size status n) none h) is free w.0 w.1 w.2
unsaid_whole l terms body now a b len (Err e) none free w = tt

pub unsaid_untold : {L T : Type 0} (l : LinkGhosts L) (terms : Terms) (body : List ℕ) (a b : L) (len : Option ℕ) (r : Result T Untold) → len ≡ None → terms.sized ≡ false
    → EndsUnending l a b body terms.limit r
    → IfErr r (λ why. (bytes : List ℕ) (size status : ℕ) → IsResponse bytes size status len → body ≡ drop size bytes → ReadsNone l terms bytes a b why)
unsaid_untold l terms body a b len (Ok x) none free e = tt
unsaid_untold l terms body a b len (Err why) none free e = λ bytes size status h is.
    none_unending l terms bytes body a b size status why (subst (λ (n : Option ℕ). IsResponse bytes size status n) none h) is free e

-- ---- the whole reply

-- no head was read
pub untold_head : {L : Type 0} (l : LinkGhosts L) (terms : Terms) (a b : L) (why : Untold) → ReadsNone l terms [] a b why → ReadsReply l terms a b (Err why)
untold_head l terms a b why n = record { read = n.more; gave = n.gave; tells = n.why_is }

-- a head was, and no more of a reply
pub untold_rest : {L : Type 0} (l : LinkGhosts L) (terms : Terms) (a b c : L) (held : List ℕ) (why : Untold) → Gave l a b held → ReadsNone l terms held b c why
    → ReadsReply l terms a c (Err why)
untold_rest l terms a b c held why g n = record { read = held ++ n.more; gave = gave_on l a b c held n.more g n.gave; tells = n.why_is }

-- the reply is whole
pub told_rest : {L : Type 0} (l : LinkGhosts L) (terms : Terms) (a b c : L) (held : List ℕ) (told : Told) → Gave l a b held → ReadsRest l terms held b c told.status told.body
    → ReadsReply l terms a c (Ok told)
told_rest l terms a b c held told g r = record { read = held ++ r.more; gave = gave_on l a b c held r.more g r.gave; tells = r.whole }

-- memory ran out
pub untold_memory : {L : Type 0} (l : LinkGhosts L) (terms : Terms) (a b : L) (held : List ℕ) → Gave l a b held → ReadsReply l terms a b (Err untold.NoMemory)
untold_memory l terms a b held g = record { read = held; gave = g; tells = tt }
