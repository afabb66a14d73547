-- Disks that come back to their maker.
use Rattle.std.proofs.Common.{◌≡◌, ◌∙◌, List, [], ◌∷◌, ◌++◌, Option, Some, None, refl, sym, ap, subst, append_assoc}
use Rattle.node_objects.specs.Making.{TakesBack}
use Rattle.node_mount.specs.Returns.{GivesBack}

-- one object came back
pub gives_one : {B : Type 0} (object : B) (old mid new : Option (List B)) → mid ≡ old → TakesBack object mid new → GivesBack (object ∷ []) old new
gives_one {B} object old mid new same takes = go old new (subst (λ (m : Option (List B)). TakesBack object m new) same takes)
  where
    go : (old new : Option (List B)) → TakesBack object old new → GivesBack (object ∷ []) old new
    go old None takes = tt
    go None (Some new) takes = takes
    go (Some old) (Some new) takes = takes

-- and one more
pub gives_more : {B : Type 0} (objects : List B) (object : B) (old mid new : Option (List B)) → GivesBack objects old mid → TakesBack object mid new
    → GivesBack (objects ++ object ∷ []) old new
gives_more objects object old mid None gives takes = tt
gives_more objects object old None (Some new) gives takes = absurd takes
gives_more objects object None (Some mid) (Some new) gives takes = absurd gives
gives_more {B} objects object (Some old) (Some mid) (Some new) gives takes = takes ∙ ap (λ (l : List B). l ++ object ∷ []) gives ∙ append_assoc old objects (object ∷ [])

-- and then others
pub gives_both : {B : Type 0} (front behind : List B) (old mid new : Option (List B)) → GivesBack front old mid → GivesBack behind mid new → GivesBack (front ++ behind) old new
gives_both front behind old mid None first next = tt
gives_both front behind old None (Some new) first next = absurd next
gives_both front behind None (Some mid) (Some new) first next = absurd first
gives_both {B} front behind (Some old) (Some mid) (Some new) first next = next ∙ ap (λ (l : List B). l ++ behind) first ∙ append_assoc old front behind

-- the same list, seen from before
pub gives_from : {B : Type 0} (objects : List B) (old mid new : Option (List B)) → mid ≡ old → GivesBack objects mid new → GivesBack objects old new
gives_from {B} objects old mid new same gives = subst (λ (m : Option (List B)). GivesBack objects m new) same gives
