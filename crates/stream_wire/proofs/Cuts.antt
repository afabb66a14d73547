-- Where bytes stop in a text of parts.
use Rattle.std.proofs.Common.{◌≡◌, ℕ, ◌<◌, ◌⊎◌, inl, inr, List, [], ◌∷◌, ◌++◌, length, drop, refl, arith}

-- the bytes stop inside the first part
pub record StopsInside (bytes more first rest : List ℕ) : Type 0 where
  pub left : List ℕ
  pub first_is : first ≡ bytes ++ left
  pub more_is : more ≡ left ++ rest
  pub some : 0 < length left

-- or behind it
pub record GoesPast (bytes more first rest : List ℕ) : Type 0 where
  pub behind : List ℕ
  pub bytes_are : bytes ≡ first ++ behind
  pub rest_is : behind ++ more ≡ rest

pub cut : (bytes more first rest : List ℕ) → bytes ++ more ≡ first ++ rest → StopsInside bytes more first rest ⊎ GoesPast bytes more first rest
cut [] more [] rest e = inr (record { behind = []; bytes_are = refl; rest_is = e })
cut [] more (c ∷ first) rest e = inl (record { left = c ∷ first; first_is = refl; more_is = e; some = omega arith })
cut (d ∷ bytes) more [] rest e = inr (record { behind = d ∷ bytes; bytes_are = refl; rest_is = e })
cut (d ∷ bytes) more (c ∷ first) rest e = on (cut bytes more first rest (cc))
  where
    same : d ≡ c
    same = cc

    on : StopsInside bytes more first rest ⊎ GoesPast bytes more first rest → StopsInside (d ∷ bytes) more (c ∷ first) rest ⊎ GoesPast (d ∷ bytes) more (c ∷ first) rest
    on (inl x) = inl (record { left = x.left; first_is = cc (x.first_is, same); more_is = x.more_is; some = x.some })
    on (inr x) = inr (record { behind = x.behind; bytes_are = cc (x.bytes_are, same); rest_is = x.rest_is })

-- a text's end from a place on
pub data IsEndOf : List ℕ → List ℕ → Type 0 where
  end_at : (text : List ℕ) (at : ℕ) → IsEndOf text (drop at text)
