-- A bytes that ends in a zero byte.
use Rattle.std.proofs.Common.{◌≡◌, ℕ, ◌+◌, ◌-◌, ◌<◌, List, [], ◌∷◌, ◌++◌, length, get_or, take, sym, arith, ◌∙◌, ap, refl}
use Rattle.std.proofs.Common.{true}
use Rattle.std.proofs.lemmas.List.{take_more, take_all, take_at, get_or_at, length-append}
use Rattle.fuse_msgs.specs.Names.{IsTerminatedName, is_terminated_name}

-- all but the last byte, and a zero byte
pub name_then_zero : (bytes : List ℕ) (end : ℕ) → end ≡ length bytes - 1 → 0 < length bytes
    → get_or bytes end 0 ≡ 0 → bytes ≡ take end bytes ++ 0 ∷ []
name_then_zero bytes end e filled last =
    let lt : end < length bytes = omega arith in
    let all : take (end + 1) bytes ≡ bytes = take_all (end + 1) bytes (omega arith) in
    sym all ∙ take_more bytes end 0 lt ∙ ap (λ b. take end bytes ++ b ∷ []) last

-- the name before the zero byte
pub name_before_zero : (bytes name : List ℕ) → bytes ≡ name ++ 0 ∷ [] → name ≡ take (length bytes - 1) bytes
name_before_zero bytes name e =
    let len : length name ≡ length (name ++ 0 ∷ []) - 1 = omega (arith, length-append name (0 ∷ [])) in
    rw e (sym (take_at name (0 ∷ []) (length (name ++ 0 ∷ []) - 1) len))

-- a name and a zero byte pass the test
pub is_terminated_name-of : (bytes name : List ℕ) → IsTerminatedName bytes name → is_terminated_name bytes ≡ true
unfolding is_terminated_name
is_terminated_name-of bytes name h =
    let len : length name ≡ length (name ++ 0 ∷ []) - 1 = omega (arith, length-append name (0 ∷ [])) in
    rw (
      h.1,
      take_at name (0 ∷ []) (length (name ++ 0 ∷ []) - 1) len,
      get_or_at name 0 [] 0
          (length (name ++ 0 ∷ []) - 1) len,
    ) (rw h.0 refl)
