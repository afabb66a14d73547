-- What a link gave, one piece behind another.
use Rattle.std.proofs.Common.{ℕ, List, [], ◌++◌, Option, Some, None, subst, sym, ap, ◌∙◌, append_assoc, append-nil}
use Rattle.std.specs.Io.KnownBytes.{Appends, Keeps}
use Rattle.std.proofs.KnownBytes.{Appends-nil, Appends-trans, Consumes-nil, Consumes-trans, Keeps-refl, Keeps-trans}
use Rattle.lf_base.specs.declared.link.Link.{Ghosts as LinkGhosts}
use Rattle.http_exchange.specs.Reading.{Gave, GaveMore}

pub gave_none : {L : Type 0} (l : LinkGhosts L) (link : L) → Gave l link link []
gave_none l link = record {
  left = Consumes-nil (l.left link);
  given = Appends-nil (l.given link);
  taken = Keeps-refl (l.taken link);
}

pub gave_on : {L : Type 0} (l : LinkGhosts L) (a b c : L) (bytes more : List ℕ) → Gave l a b bytes → Gave l b c more → Gave l a c (bytes ++ more)
gave_on l a b c bytes more g h = record {
  left = Consumes-trans (l.left a) (l.left b) (l.left c) bytes more g.left h.left;
  given = Appends-trans (l.given a) (l.given b) (l.given c) bytes more g.given h.given;
  taken = Keeps-trans (l.taken a) (l.taken b) (l.taken c) g.taken h.taken;
}

pub gave_no_more : {L : Type 0} (l : LinkGhosts L) (a b c : L) (bytes : List ℕ) → Gave l a b bytes → Gave l b c [] → Gave l a c bytes
gave_no_more l a b c bytes g h = subst (λ (all : List ℕ). Gave l a c all) (append-nil bytes) (gave_on l a b c bytes [] g h)

-- nothing came yet
pub none_more : {L : Type 0} (l : LinkGhosts L) (link : L) (held : List ℕ) → GaveMore l link link held held
none_more l link held = record { more = []; gave = gave_none l link; behind = sym (append-nil held) }

-- more came behind what had come
pub more_on : {L : Type 0} (l : LinkGhosts L) (a b c : L) (held mid now : List ℕ) → GaveMore l a b held mid → GaveMore l b c mid now → GaveMore l a c held now
more_on l a b c held mid now g h = record {
  more = g.more ++ h.more;
  gave = gave_on l a b c g.more h.more g.gave h.gave;
  behind = h.behind ∙ ap (λ (xs : List ℕ). xs ++ h.more) g.behind ∙ append_assoc held g.more h.more;
}

-- the same of a link of which all that is held was given
pub all_on : {L : Type 0} (l : LinkGhosts L) (a b c : L) (held now : List ℕ) → Gave l a b held → GaveMore l b c held now → Gave l a c now
all_on l a b c held now g h = subst (λ (all : List ℕ). Gave l a c all) (sym h.behind) (gave_on l a b c held h.more g h.gave)

pub kept_appends : (old mid new : Option (List ℕ)) (bytes : List ℕ) → Keeps old mid → Appends mid new bytes → Appends old new bytes
kept_appends None mid new bytes k a = tt
kept_appends (Some x) None new bytes k a = absurd k
kept_appends (Some x) (Some y) None bytes k a = absurd a
kept_appends (Some x) (Some y) (Some z) bytes k a = a ∙ ap (λ xs. xs ++ bytes) k

-- what stays as it is grew by nothing
pub kept_nothing : (old new : Option (List ℕ)) → Keeps old new → Appends old new []
kept_nothing old new k = kept_appends old new new [] k (Appends-nil new)
