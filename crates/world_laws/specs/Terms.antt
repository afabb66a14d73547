-- Terms of the lease: who may commit in which, and that its commits are one line.
use Rattle.std.specs.Prelude.{◌≡◌, ℕ, ◌==◌, List, [], ◌∷◌, length, Option, None, Some, IfSome, if◌then◌else◌}
use Rattle.lf_base.specs.declared.pos.Pos.{Pos}
use Rattle.ltx_codec.specs.Positions.{after, before}
use Rattle.world_laws.specs.World.{Act, Committed, Departed}

-- the node that a term was granted to
abbrev pub holder_of : List ℕ → ℕ → Option ℕ
holder_of [] term = None
holder_of (k ∷ ks) term = if term == length (k ∷ ks) then Some k else holder_of ks term

-- where a node's last commit led, if it took no file of another's and dropped nothing since
abbrev pub tip : ℕ → List Act → Option Pos
tip k [] = None
tip k (Committed term node file ∷ acts) = if node == k then Some (after file) else tip k acts
tip k (Departed node ∷ acts) = if node == k then None else tip k acts

-- only a term's holder commits in it, and the commits of a node are one line while it takes no file of another's and
-- drops nothing
abbrev pub AreInLine : List ℕ → List Act → Type 0
AreInLine granted [] = Unit {0}
AreInLine granted (Committed term node file ∷ acts) =
    (holder_of granted term ≡ Some node) × IfSome (tip node acts) (λ p. before file ≡ p) × AreInLine granted acts
AreInLine granted (Departed node ∷ acts) = AreInLine granted acts
