-- Requests whose head was read.
use Rattle.std.proofs.Common.{◌≡◌, ◌≢◌, ◌⊎◌, inl, inr, ℕ, true, ◌+◌, ◌<◌, ◌≤◌, List, [], ◌∷◌, ◌++◌, length, take, drop, Option, Some, None, Err, refl, sym, ap, ◌∙◌, subst, append_assoc, length-append, arith}
use Rattle.std.specs.Option.{IfSome}
use Rattle.std.specs.Io.KnownBytes.{Consumes, IsAtEnd}
use Rattle.std.proofs.KnownBytes.{Consumes-nil, Consumes-trans}
use Rattle.std.proofs.lemmas.Bool.{cases_lt}
use Rattle.std.proofs.lemmas.List.{length-drop, take-append-le}
use lib.Seq.{drop-append-le}
use Rattle.httparse.specs.Ascii.{space}
use Rattle.httparse.specs.Grammar.{print_blank, print_end, print_request, print_section, print_version, ReadsRequest, RequestHead}
use Rattle.httparse.proofs.GrammarLemmas.{cons-append, ReadsRequest-append}
use Rattle.lf_base.specs.Faults.{Rose}
use Rattle.lf_base.specs.declared.link.Link.{Ghosts as LinkGhosts}
use Rattle.lf_base.specs.declared.session_end.SessionEnd.{SessionEnd}
use Rattle.lf_base.specs.declared.session_end.SessionEnd.TheVariants as ends
use Rattle.link_session.specs.Reading.{broken, cut, EndsReading, IsCut, IsUnread}
use Rattle.stream_wire.specs.declared.call.Call.{Call}
use Rattle.stream_wire.specs.declared.wire_fault.WireFault.{WireFault}
use Rattle.stream_wire.specs.declared.wire_fault.WireFault.TheVariants as fault
use Rattle.stream_wire.specs.Head.{HearsRequest, IsRequest, NeverTakesRequest, TakesRequest}
use Rattle.http_exchange.specs.declared.called.Body.TheVariants as body
use Rattle.http_exchange.specs.declared.called.Called.{Called}
use Rattle.http_exchange.specs.declared.wants.Kept.{Kept}
use Rattle.http_exchange.specs.declared.wants.Kept.TheVariants as kept
use Rattle.http_exchange.specs.declared.wants.Wants.{Ghosts as WantsGhosts}
use Rattle.http_exchange.specs.Called.{end_behind, end_by, in_body, IsHeadPart, IsPart, KeepsBody, LeavesUnread, PassesOver, ReadsBody, RefusesHead, WasCalled}
use Rattle.http_exchange.specs.Reading.{EndsFewer, EndsMore, Gave, GaveEnough, GaveFewer, KeepsEnough}
use Rattle.http_exchange.proofs.Giving.{gave_no_more, gave_on}

-- a head that is refused is refused for the session too
pub call_refused : (bytes : List ℕ) (f : WireFault) → HearsRequest bytes (Err f) → RefusesHead bytes (end_by f)
call_refused bytes fault.Head h = h
call_refused bytes fault.NoMemory h = tt
call_refused bytes (fault.Kind kind) h = absurd h
call_refused bytes fault.NameText h = absurd h
call_refused bytes fault.Length h = absurd h
call_refused bytes (fault.TooLong len) h = absurd h

-- a head lies within the bytes that begin with it
pub call_within : (bytes : List ℕ) (size len : ℕ) (called : Call) → IsRequest bytes size called len → size ≤ length bytes
call_within bytes size len called h = omega (arith, ap length h.reads.1, length-append (print_request h.head) (drop size bytes), h.size_is)

behind : (bytes more : List ℕ) (size len : ℕ) (called : Call) → IsRequest bytes size called len → drop size (bytes ++ more) ≡ drop size bytes ++ more
behind bytes more size len called h = drop-append-le size bytes more (call_within bytes size len called h)

-- a head stays one, whatever bytes follow
pub longer_call : (bytes more : List ℕ) (size len : ℕ) (called : Call) → IsRequest bytes size called len → IsRequest (bytes ++ more) size called len
longer_call bytes more size len called h = record {
  head = h.head;
  said = h.said;
  reads = subst (λ (rest : List ℕ). ReadsRequest (bytes ++ more) h.head rest) (sym (behind bytes more size len called h)) (ReadsRequest-append bytes h.head (drop size bytes) more h.reads);
  size_is = h.size_is;
  taken = h.taken;
  names = h.names;
  len_is = h.len_is;
}

-- so many bytes came behind a head and what came with it
counted : (bytes more : List ℕ) (size : ℕ) → size ≤ length bytes → size + length (drop size bytes ++ more) ≡ length (bytes ++ more)
counted bytes more size fits = omega (arith, length-append (drop size bytes) more, length-append bytes more, length-drop size bytes, fits)

-- ---- a head that could not be read

-- a text that begins with bytes of which no head comes begins none
never_text : (text left : Option (List ℕ)) (bytes : List ℕ) → Consumes text left bytes → NeverTakesRequest bytes → IfSome text NeverTakesRequest
never_text None left bytes c n = tt
never_text (Some t) None bytes c n = absurd c
never_text (Some t) (Some l) bytes c n = λ more takes. n (l ++ more) (subst TakesRequest (ap (λ x. x ++ more) c ∙ append_assoc bytes l more) takes)

-- bytes that begin no request, of a text that begins with them
pub unheard : (T : Type 0) (text left : Option (List ℕ)) (bytes : List ℕ) (before now turns : ℕ) (end : SessionEnd) → Consumes text left bytes → RefusesHead bytes end
    → now ≡ before → EndsReading {T = T} true IsHeadPart NeverTakesRequest text left before now turns (Err end)
unheard T text left bytes before now turns ends.BadMessage c r same = (broken (never_text text left bytes c r), same)
unheard T text left bytes before now turns ends.NoMemory c r same = (refl, (bytes, c), same)
unheard T text left bytes before now turns ends.Closed c r same = absurd r
unheard T text left bytes before now turns ends.ReadFault c r same = absurd r
unheard T text left bytes before now turns ends.WriteFault c r same = absurd r
unheard T text left bytes before now turns ends.Turns c r same = absurd r
unheard T text left bytes before now turns ends.Worn c r same = absurd r

-- a text of which nothing came up to its end was at its end
none_came : (text left : Option (List ℕ)) → Consumes text left [] → IsAtEnd left → IsAtEnd text
none_came None left c end = tt
none_came (Some t) None c end = absurd c
none_came (Some t) (Some l) c end = c ∙ end

-- it could not be read on, at no end of the input
other_ends : {L : Type 0} (U : Type 0) (l : LinkGhosts L) (a b c : L) (held now : List ℕ) (turns : ℕ) (end : SessionEnd) → Gave l a b held → l.faults b ≡ l.faults a → IsHeadPart held
    → (end ≡ ends.Closed → ⊥) → EndsMore {T = Unit {0}} l b c held now turns (Err end)
    → EndsReading {T = U} true IsHeadPart NeverTakesRequest (l.left a) (l.left c) (l.faults a) (l.faults c) turns (Err end)
other_ends U l a b c held now turns ends.Closed g same part not e = absurd (not refl)
other_ends U l a b c held now turns ends.ReadFault g same part not e =
    (record { bytes = held; part = part; read = (gave_no_more l a b c held g e.0).left }, subst (λ (n : ℕ). Rose n (l.faults c)) same e.1)
other_ends U l a b c held now turns ends.Turns g same part not e =
    (record { bytes = held; part = part; read = (gave_no_more l a b c held g e.0).left }, e.1, e.2 ∙ same)
other_ends U l a b c held now turns ends.NoMemory g same part not e = (refl, (held ++ e.0.0, (gave_on l a b c held e.0.0 g e.0.1).left), e.1 ∙ same)
other_ends U l a b c held now turns ends.WriteFault g same part not e = absurd e
other_ends U l a b c held now turns ends.BadMessage g same part not e = absurd e
other_ends U l a b c held now turns ends.Worn g same part not e = absurd e

-- the input's end behind a part of a head
cut_head : {L : Type 0} (l : LinkGhosts L) (a b c : L) (x : ℕ) (xs : List ℕ) → Gave l a b (x ∷ xs) → IsHeadPart (x ∷ xs) → Gave l b c [] → IsAtEnd (l.left c)
    → IsCut IsHeadPart (l.left a) (l.left c)
cut_head l a b c x xs g part none end = record {
  bytes = x ∷ xs;
  some = λ e. absurd cc;
  part = part;
  read = (gave_no_more l a b c (x ∷ xs) g none).left;
  end = end;
}

pub call_head_ends : {L : Type 0} (U : Type 0) (l : LinkGhosts L) (a b c : L) (held now : List ℕ) (turns : ℕ) (end : SessionEnd) → Gave l a b held → l.faults b ≡ l.faults a → IsHeadPart held
    → EndsMore {T = Unit {0}} l b c held now turns (Err end)
    → EndsReading {T = U} true IsHeadPart NeverTakesRequest (l.left a) (l.left c) (l.faults a) (l.faults c) turns (Err (end_behind held end))
call_head_ends U l a b c [] now turns ends.Closed g same part e =
    (none_came (l.left a) (l.left c) (gave_no_more l a b c [] g e.0).left e.1, e.1, e.2 ∙ same)
call_head_ends U l a b c (x ∷ xs) now turns ends.Closed g same part e = (cut (cut_head l a b c x xs g part e.0 e.1), e.2 ∙ same)
call_head_ends U l a b c [] now turns ends.ReadFault g same part e = other_ends U l a b c [] now turns ends.ReadFault g same part (λ is. absurd cc) e
call_head_ends U l a b c (x ∷ xs) now turns ends.ReadFault g same part e = other_ends U l a b c (x ∷ xs) now turns ends.ReadFault g same part (λ is. absurd cc) e
call_head_ends U l a b c [] now turns ends.Turns g same part e = other_ends U l a b c [] now turns ends.Turns g same part (λ is. absurd cc) e
call_head_ends U l a b c (x ∷ xs) now turns ends.Turns g same part e = other_ends U l a b c (x ∷ xs) now turns ends.Turns g same part (λ is. absurd cc) e
call_head_ends U l a b c [] now turns ends.NoMemory g same part e = other_ends U l a b c [] now turns ends.NoMemory g same part (λ is. absurd cc) e
call_head_ends U l a b c (x ∷ xs) now turns ends.NoMemory g same part e = other_ends U l a b c (x ∷ xs) now turns ends.NoMemory g same part (λ is. absurd cc) e
call_head_ends U l a b c held now turns ends.WriteFault g same part e = absurd e
call_head_ends U l a b c held now turns ends.BadMessage g same part e = absurd e
call_head_ends U l a b c held now turns ends.Worn g same part e = absurd e

-- the same, where these are the bytes that are held
pub call_head_ended : {L : Type 0} (U : Type 0) (l : LinkGhosts L) (a b c : L) (held now shown : List ℕ) (turns : ℕ) (end : SessionEnd) → shown ≡ held → Gave l a b held → l.faults b ≡ l.faults a
    → IsHeadPart held → EndsMore {T = Unit {0}} l b c held now turns (Err end)
    → EndsReading {T = U} true IsHeadPart NeverTakesRequest (l.left a) (l.left c) (l.faults a) (l.faults c) turns (Err (end_behind shown end))
call_head_ended U l a b c held now shown turns end is g same part e =
    subst (λ (bytes : List ℕ). EndsReading {T = U} true IsHeadPart NeverTakesRequest (l.left a) (l.left c) (l.faults a) (l.faults c) turns (Err (end_behind bytes end))) (sym is)
    (call_head_ends U l a b c held now turns end g same part e)

-- ---- a head has bytes

abbrev behind_method : RequestHead → List ℕ
behind_method h = h.target ++ (space ∷ print_version h.minor) ++ print_end h.line_end ++ print_section h.fields h.last

parts : (h : RequestHead) → print_request h ≡ print_blank h.blank ++ (h.method ++ (space ∷ behind_method h))
unfolding print_request
parts h = simp (append_assoc, cons-append)

ends_some : (front mid rest : List ℕ) (byte : ℕ) → front ++ (mid ++ (byte ∷ rest)) ≢ []
ends_some [] [] rest byte e = absurd cc
ends_some [] (b ∷ mid) rest byte e = absurd cc
ends_some (b ∷ front) mid rest byte e = absurd cc

head_has_bytes : (h : RequestHead) → print_request h ≢ []
head_has_bytes h e = ends_some (print_blank h.blank) h.method (behind_method h) space (sym (parts h) ∙ e)

appended_some : (bytes more : List ℕ) → bytes ≢ [] → bytes ++ more ≢ []
appended_some [] more some none = some refl
appended_some (b ∷ bytes) more some none = absurd cc

some_head : (bytes : List ℕ) (size len : ℕ) (called : Call) → IsRequest bytes size called len → bytes ≢ []
some_head bytes size len called h none = appended_some (print_request h.head) (drop size bytes) (head_has_bytes h.head) (sym h.reads.1 ∙ none)

-- ---- a body that could not be read

-- a head and a part of its body are a part of a request
body_part : {L : Type 0} (l : LinkGhosts L) (b c : L) (bytes held : List ℕ) (size len : ℕ) (called : Call) → IsRequest bytes size called len → held ≡ drop size bytes
    → (g : GaveFewer l b c held len) → IsPart (bytes ++ g.more)
body_part l b c bytes held size len called h is g =
    let less : length (drop size bytes ++ g.more) < len = subst (λ (xs : List ℕ). length (xs ++ g.more) < len) is g.fewer in
    in_body size len (called, longer_call bytes g.more size len called h) (omega (arith, less, counted bytes g.more size (call_within bytes size len called h)))

body_unread : {L : Type 0} (l : LinkGhosts L) (b c : L) (bytes held : List ℕ) (size len : ℕ) (called : Call) (text : Option (List ℕ)) → IsRequest bytes size called len → held ≡ drop size bytes
    → Consumes text (l.left b) bytes → GaveFewer l b c held len → IsUnread IsPart text (l.left c)
body_unread l b c bytes held size len called text h is read g = record {
  bytes = bytes ++ g.more;
  part = body_part l b c bytes held size len called h is g;
  read = Consumes-trans text (l.left b) (l.left c) bytes g.more read g.gave.left;
}

body_cut : {L : Type 0} (l : LinkGhosts L) (b c : L) (bytes held : List ℕ) (size len : ℕ) (called : Call) (text : Option (List ℕ)) → IsRequest bytes size called len → held ≡ drop size bytes
    → Consumes text (l.left b) bytes → GaveFewer l b c held len → IsAtEnd (l.left c) → IsCut IsPart text (l.left c)
body_cut l b c bytes held size len called text h is read g end = record {
  bytes = bytes ++ g.more;
  some = appended_some bytes g.more (some_head bytes size len called h);
  part = body_part l b c bytes held size len called h is g;
  read = Consumes-trans text (l.left b) (l.left c) bytes g.more read g.gave.left;
  end = end;
}

pub call_body_ends : {L : Type 0} (T U : Type 0) (l : LinkGhosts L) (b c : L) (bytes held : List ℕ) (size len : ℕ) (called : Call) (text : Option (List ℕ)) (before turns : ℕ) (end : SessionEnd)
    → IsRequest bytes size called len → held ≡ drop size bytes → Consumes text (l.left b) bytes → l.faults b ≡ before → EndsFewer {T = T} l b c held len turns (Err end)
    → EndsReading {T = U} true IsPart NeverTakesRequest text (l.left c) before (l.faults c) turns (Err end)
call_body_ends T U l b c bytes held size len called text before turns ends.BadMessage h is read same e =
    (cut (body_cut l b c bytes held size len called text h is read e.0 e.1), e.2 ∙ same)
call_body_ends T U l b c bytes held size len called text before turns ends.ReadFault h is read same e =
    (body_unread l b c bytes held size len called text h is read e.0, subst (λ (n : ℕ). Rose n (l.faults c)) same e.1)
call_body_ends T U l b c bytes held size len called text before turns ends.Turns h is read same e =
    (body_unread l b c bytes held size len called text h is read e.0, e.1, e.2 ∙ same)
call_body_ends T U l b c bytes held size len called text before turns ends.NoMemory h is read same e =
    (refl, (bytes ++ e.0.0, Consumes-trans text (l.left b) (l.left c) bytes e.0.0 read e.0.1.left), e.1 ∙ same)
call_body_ends T U l b c bytes held size len called text before turns ends.Closed h is read same e = absurd e
call_body_ends T U l b c bytes held size len called text before turns ends.WriteFault h is read same e = absurd e
call_body_ends T U l b c bytes held size len called text before turns ends.Worn h is read same e = absurd e

-- ---- a body that was read, or left

pub body_left : (kept : Kept) (bytes : List ℕ) (size len : ℕ) (text : Option (List ℕ)) → LeavesUnread kept len → ReadsBody kept bytes size len text text body.Unread
body_left kept bytes size len text unread = record { more = []; has = unread; read = Consumes-nil text }

-- one that is neither kept nor left is passed over
pub passes : (kept : Kept) (len : ℕ) → (LeavesUnread kept len → ⊥) → (KeepsBody kept len → ⊥) → PassesOver kept len
passes kept.Nothing len u k = tt
passes (kept.Line limit) len u k = either (cases_lt limit len)
  where
    either : (limit < len) ⊎ (len ≤ limit) → limit < len
    either (inl past) = past
    either (inr fits) = absurd (k fits)
passes (kept.All limit) len u k = either (cases_lt limit len)
  where
    either : (limit < len) ⊎ (len ≤ limit) → ⊥
    either (inl past) = u past
    either (inr fits) = k fits

pub body_passed : {L : Type 0} (l : LinkGhosts L) (kept : Kept) (b c : L) (bytes held : List ℕ) (size len : ℕ) (called : Call) → IsRequest bytes size called len → held ≡ drop size bytes
    → PassesOver kept len → GaveEnough l b c held len → ReadsBody kept bytes size len (l.left b) (l.left c) body.Passed
body_passed l kept b c bytes held size len called h is over g =
    let enough : len ≤ length (drop size bytes ++ g.more) = subst (λ (xs : List ℕ). len ≤ length (xs ++ g.more)) is g.enough in
    record {
      more = g.more;
      has = (over, omega (arith, enough, counted bytes g.more size (call_within bytes size len called h)));
      read = g.gave.left;
    }

pub body_kept : {L : Type 0} (l : LinkGhosts L) (kept : Kept) (b c : L) (bytes held content : List ℕ) (size len : ℕ) (called : Call) → IsRequest bytes size called len → held ≡ drop size bytes
    → KeepsBody kept len → KeepsEnough l b c held len content → ReadsBody kept bytes size len (l.left b) (l.left c) (body.Whole content)
body_kept l kept b c bytes held content size len called h is keeps k =
    let more : List ℕ = k.0.more in
    let enough : len ≤ length (drop size bytes ++ more) = subst (λ (xs : List ℕ). len ≤ length (xs ++ more)) is k.0.enough in
    record {
      more = more;
      has = (
        keeps,
        omega (arith, enough, counted bytes more size (call_within bytes size len called h)),
        k.1 ∙ ap (λ (xs : List ℕ). take len (xs ++ more)) is ∙ ap (λ (xs : List ℕ). take len xs) (sym (behind bytes more size len called h)),
      );
      read = k.0.gave.left;
    }

-- a head and what is wanted of its body are a request
pub was_called : {W : Type 0} (w : WantsGhosts W) (wants : W) (text mid left : Option (List ℕ)) (bytes : List ℕ) (size len : ℕ) (called : Called) → IsRequest bytes size called.call len
    → called.head ≡ take size bytes → Consumes text mid bytes → ReadsBody (w.keeps wants called.call) bytes size len mid left called.body → WasCalled w wants text left called
was_called w wants text mid left bytes size len called h front read b = record {
  bytes = bytes ++ b.more;
  size = size;
  len = len;
  head = longer_call bytes b.more size len called.call h;
  head_is = front ∙ sym (take-append-le size bytes b.more (call_within bytes size len called.call h));
  body = b.has;
  read = Consumes-trans text mid left bytes b.more read b.read;
}
