-- Bytes that are awaited, as far as they came.
use Rattle.std.proofs.Common.{◌≡◌, ℕ, ◌+◌, ◌-◌, ◌<◌, ◌≤◌, List, length, take, drop, length-drop, sym, ap, ◌∙◌, subst, arith}
use Rattle.std.specs.Io.KnownBytes.{Consumes, IsAtEnd, Keeps}
use Rattle.std.proofs.KnownBytes.{Consumes-kept}
use Rattle.lf_base.specs.Faults.{Rose}
use Rattle.run_child.specs.declared.filling.Unfilled.TheVariants as why
use Rattle.run_child.specs.Filling.{IsFilledPart}
use Rattle.run_child.specs.Talk.{Heard, Place}
use Rattle.run_child.proofs.Lists.{heard_two, length_front, take_two}

-- n more bytes behind those that are done
pub heard_more : (done n : ℕ) (xs ys : List ℕ) (a b c : Place) → Heard (take done xs) a b → take done ys ≡ take done xs
    → Consumes b.left c.left (take n (drop done ys)) → b.room ≡ c.room + n → done + n ≤ length ys → Heard (take (done + n) ys) a c
heard_more done n xs ys a b c h same read counted within =
    let long : length (take n (drop done ys)) ≡ n = length_front n (drop done ys) (omega (arith, within, length-drop done ys)) in
    let first : Heard (take done ys) a b = subst (λ bytes. Heard bytes a b) (sym same) h in
    let second : Heard (take n (drop done ys)) b c = record { read = read; counted = counted ∙ ap (λ m. c.room + m) (sym long) } in
    subst (λ bytes. Heard bytes a c) (take_two done n ys) (heard_two a b c (take done ys) (take n (drop done ys)) first second)

-- no more may be read
pub part_spent : (done : ℕ) (xs : List ℕ) (a b : Place) → done < length xs → Heard (take done xs) a b → b.room ≡ 0
    → b.faults ≡ a.faults → IsFilledPart xs a b why.Turns
part_spent done xs a b some h r f = record { count = done; short = some; heard = h; lacks = (r, f) }

-- no more came
pub part_ended : (done : ℕ) (xs ys : List ℕ) (a b c : Place) → done < length ys → Heard (take done xs) a b → take done ys ≡ take done xs
    → Consumes b.left c.left (take 0 (drop done ys)) → c.room ≡ b.room → IsAtEnd c.left → c.faults ≡ a.faults → IsFilledPart ys a c why.Ended
part_ended done xs ys a b c some h same read r e f =
    let still : done + 0 ≡ done = omega arith in
    let more : Heard (take (done + 0) ys) a c = heard_more done 0 xs ys a b c h same read (omega (arith, r)) (omega (arith, some)) in
    record { count = done; short = some; heard = subst (λ (m : ℕ). Heard (take m ys) a c) still more; lacks = (e, f) }

-- the link failed
pub part_failed : (done : ℕ) (xs ys : List ℕ) (a b c : Place) → done < length ys → Heard (take done xs) a b → take done ys ≡ take done xs
    → Keeps b.left c.left → c.room ≡ b.room → Rose b.faults c.faults → b.faults ≡ a.faults → IsFilledPart ys a c why.ReadFault
part_failed done xs ys a b c some h same k r rose f = record {
  count = done;
  short = some;
  heard = record {
    read = subst (λ bytes. Consumes a.left c.left bytes) (sym same) (Consumes-kept a.left b.left c.left (take done xs) h.read k);
    counted = h.counted ∙ ap (λ n. n + length (take done xs)) (sym r) ∙ ap (λ bytes. c.room + length bytes) (sym same);
  };
  lacks = subst (λ n. Rose n c.faults) f rose;
}
