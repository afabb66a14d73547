-- Reading messages.
use Rattle.std.proofs.Common.{◌≡◌, ℕ, Bool, List, [], ◌++◌, Option, None, Some, Result, Ok, Err, sym, ap, refl, ◌∙◌, subst, append_assoc, append-nil}
use Rattle.std.specs.Option.{IfSome}
use Rattle.std.specs.Io.KnownBytes.{Keeps, Consumes, prepend_known}
use Rattle.link_session.specs.declared.unread.Unread.{Unread}
use Rattle.link_session.specs.declared.unread.Unread.TheVariants as why
use Rattle.link_session.specs.Reading.{broken, cut, EndsReading, IsUnread, text_of}
use Rattle.link_session.specs.Unread.{ended, LeavesUnread}

pub kept_consumes : (a b : Option (List ℕ)) (bs : List ℕ) → Keeps a (prepend_known bs b) → Consumes a b bs
kept_consumes None b bs p = tt
kept_consumes (Some x) None bs p = absurd p
kept_consumes (Some x) (Some y) bs p = sym p

-- what was fed is the same text
pub fed_on_text : (a b : Option (List ℕ)) (feed piece fed rest : List ℕ) → Keeps a (text_of feed piece b) → fed ++ rest ≡ feed ++ piece
    → rest ≡ [] → Keeps a (prepend_known fed b)
fed_on_text a b feed piece fed rest k e n =
    let same : feed ++ piece ≡ fed = sym e ∙ ap (λ r. fed ++ r) n ∙ append-nil fed in
    subst (λ text. Keeps a (prepend_known text b)) same k

pub refilled : (a b c : Option (List ℕ)) (fed piece : List ℕ) → Keeps a (prepend_known fed b) → Consumes b c piece
    → Keeps a (text_of fed piece c)
refilled None b c fed piece k r = tt
refilled (Some x) None c fed piece k r = absurd k
refilled (Some x) (Some y) None fed piece k r = absurd r
refilled (Some x) (Some y) (Some z) fed piece k r = append_assoc fed piece z ∙ ap (λ t. fed ++ t) (sym r) ∙ k

pub unread : (Partial : List ℕ → Type 0) (a b : Option (List ℕ)) (fed : List ℕ) → Keeps a (prepend_known fed b) → Partial fed → IsUnread Partial a b
unread Partial a b fed k p = record { bytes = fed; part = p; read = kept_consumes a b fed k }

pub broken_text : (Broken : List ℕ → Type 0) (lasts : (text more : List ℕ) → Broken text → Broken (text ++ more))
    (a b : Option (List ℕ)) (bs : List ℕ) → Keeps a (prepend_known bs b) → Broken bs → IfSome a Broken
broken_text Broken lasts None b bs k i = tt
broken_text Broken lasts (Some x) None bs k i = absurd k
broken_text Broken lasts (Some x) (Some y) bs k i = subst Broken k (lasts bs y i)

-- nothing more was read
pub none_read : (a b c : Option (List ℕ)) (fed piece : List ℕ) → Keeps a (prepend_known fed b) → Consumes b c piece
    → piece ≡ [] → Keeps a (prepend_known fed c)
none_read a b c fed piece k r e =
    fed_on_text a c fed piece fed piece (refilled a b c fed piece k r) refl e

-- why no message could be read is how the session ends
pub reading_ends : {T : Type 0} (memory : Bool) (Partial Broken : List ℕ → Type 0) (text left : Option (List ℕ)) (before now turns : ℕ) (r : Result T Unread)
    → LeavesUnread memory Partial Broken text left before now turns r → EndsReading memory Partial Broken text left before now turns (ended r)
reading_ends memory Partial Broken text left before now turns (Ok x) l = l
reading_ends memory Partial Broken text left before now turns (Err why.Ended) l = l
reading_ends memory Partial Broken text left before now turns (Err why.Cut) l = (cut l.0, l.1)
reading_ends memory Partial Broken text left before now turns (Err why.Broken) l = (broken l.0, l.1)
reading_ends memory Partial Broken text left before now turns (Err why.ReadFault) l = l
reading_ends memory Partial Broken text left before now turns (Err why.Turns) l = l
reading_ends memory Partial Broken text left before now turns (Err why.NoMemory) l = l
