-- Bodies that are passed over.
use Rattle.std.proofs.Common.{◌≡◌, ℕ, ◌-◌, ◌<◌, ◌≤◌, List, [], ◌++◌, length, length-append, append-nil, drop, sym, ap, ◌∙◌, subst, arith}
use Rattle.std.proofs.Math.Seq.{drop-length}
use Rattle.std.specs.Io.KnownBytes.{Consumes, Keeps}
use Rattle.lf_base.specs.declared.link.Link.{Ghosts as LinkGhosts}
use Rattle.http_exchange.specs.Reading.{Gave, GaveEnough, GaveFewer}
use Rattle.http_exchange.proofs.Giving.{gave_no_more, gave_none, gave_on, kept_nothing}

-- bytes came behind those that are held, and so many are still wanted
pub record GaveUpTo {L : Type 0} (l : LinkGhosts L) (old new : L) (held : List ℕ) (len left : ℕ) : Type 0 where
  pub more : List ℕ
  pub gave : Gave l old new more
  pub left_is : left ≡ len - length (held ++ more)

pub none_passed : {L : Type 0} (l : LinkGhosts L) (link : L) (held : List ℕ) (len left : ℕ) → left ≡ len - length held → GaveUpTo l link link held len left
none_passed l link held len left is = record {
  more = [];
  gave = gave_none l link;
  left_is = subst (λ (all : List ℕ). left ≡ len - length all) (sym (append-nil held)) is;
}

pub passed_on : {L : Type 0} (l : LinkGhosts L) (a b c : L) (held more : List ℕ) (len left left_now : ℕ) → GaveUpTo l a b held len left → Gave l b c more → left_now ≡ left - length more
    → GaveUpTo l a c held len left_now
passed_on l a b c held more len left left_now g h is = record {
  more = g.more ++ more;
  gave = gave_on l a b c g.more more g.gave h;
  left_is = omega (arith, is, g.left_is, length-append held g.more, length-append held (g.more ++ more), length-append g.more more);
}

-- none are wanted
pub passed_enough : {L : Type 0} (l : LinkGhosts L) (a b : L) (held : List ℕ) (len left : ℕ) → GaveUpTo l a b held len left → left ≤ 0 → GaveEnough l a b held len
passed_enough l a b held len left g none = record { more = g.more; gave = g.gave; enough = omega (arith, g.left_is, none) }

-- some are, and no more came
pub passed_fewer : {L : Type 0} (l : LinkGhosts L) (a b c : L) (held : List ℕ) (len left : ℕ) → GaveUpTo l a b held len left → 0 < left → Gave l b c [] → GaveFewer l a c held len
passed_fewer l a b c held len left g some h =
    record { more = g.more; gave = gave_no_more l a b c g.more g.gave h; fewer = omega (arith, g.left_is, some) }

-- behind all that came nothing is left
pub none_behind : (came held now : List ℕ) → came ≡ held → now ≡ drop (length came) held → now ≡ []
none_behind came held now is e = e ∙ ap (λ (xs : List ℕ). drop (length xs) held) is ∙ drop-length held

-- a call of a link that gave nothing
pub gave_nothing : {L : Type 0} (l : LinkGhosts L) (b c : L) (bytes : List ℕ) → bytes ≡ [] → Consumes (l.left b) (l.left c) bytes → Keeps (l.given b) (l.given c) → Keeps (l.taken b) (l.taken c)
    → Gave l b c []
gave_nothing l b c bytes none left given taken = record {
  left = subst (λ (xs : List ℕ). Consumes (l.left b) (l.left c) xs) none left;
  given = kept_nothing (l.given b) (l.given c) given;
  taken = taken;
}
