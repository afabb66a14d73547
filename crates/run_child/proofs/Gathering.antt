-- A reply's head and its body.
use Rattle.std.proofs.Common.{◌≡◌, ℕ, ◌+◌, ◌<◌, ◌≤◌, List, [], ◌++◌, length, take, drop, refl, sym, ap, ◌∙◌, subst, arith, append_assoc}
use Rattle.std.proofs.lemmas.Bool.{le-ltb, lt-ltb, eq-eqb, ne_eqb}
use Rattle.std.proofs.lemmas.List.{length-append}
use Rattle.lf_base.specs.Endian.{le32_at}
use Rattle.lf_base.specs.Faults.{Rose}
use Rattle.fuse_msgs.specs.declared.request.Op.{Op}
use Rattle.run_child.specs.declared.filling.Unfilled.{Unfilled}
use Rattle.run_child.specs.declared.filling.Unfilled.TheVariants as why
use Rattle.run_child.specs.Filling.{IsFilledPart, IsGathered, IsGatheredPart, LacksMore}
use Rattle.run_child.specs.Replies.{awaited, body_size, len_of}
use Rattle.run_child.specs.Talk.{Heard, Place}
use Rattle.run_child.proofs.Lists.{heard_two, length_front, take_front, take_self}

-- the length stands in the first four bytes
len_front : (head more : List ℕ) → length head ≡ 16 → len_of (head ++ more) ≡ len_of head
unfolding le32_at
len_front head more e = rw (take_front 4 head more (omega (arith, e))) refl

take_whole : (head more : List ℕ) → take (length head) (head ++ more) ≡ head
take_whole head more = take_front (length head) head more (omega arith) ∙ take_self head

all_front : (head more : List ℕ) (n : ℕ) → length head ≡ n → take n (head ++ more) ≡ head
all_front head more n e = rw (← e) (take_whole head more)

-- ---- how many bytes are awaited

of_head : (asked : Op) (head : List ℕ) → length head ≡ 16 → (len_of head ≡ 16 + body_size asked → ⊥) → awaited asked head ≡ 16
of_head asked head e other = rw (le-ltb (length head) 16 (omega (arith, e))) (rw (ne_eqb (len_of head) (16 + body_size asked) other) refl)

of_both : (asked : Op) (head body : List ℕ) → length head ≡ 16 → len_of head ≡ 16 + body_size asked → awaited asked (head ++ body) ≡ 16 + body_size asked
of_both asked head body e same =
    rw (le-ltb (length (head ++ body)) 16 (omega (arith, e, length-append head body)))
    (rw (eq-eqb (len_of (head ++ body)) (16 + body_size asked) (len_front head body e ∙ same)) refl)

of_part : (asked : Op) (bytes : List ℕ) → length bytes < 16 → awaited asked bytes ≡ 16
of_part asked bytes h = rw (lt-ltb (length bytes) 16 h) refl

-- ---- what was gathered

pub gathered_head : (asked : Op) (head more : List ℕ) (a b : Place) → length head ≡ 16 → (len_of head ≡ 16 + body_size asked → ⊥)
    → Heard head a b → b.faults ≡ a.faults → IsGathered asked (take 16 (head ++ more)) a b
gathered_head asked head more a b e other h f = subst (λ bytes. IsGathered asked bytes a b) (sym (all_front head more 16 e))
    (record { heard = h; whole = e ∙ sym (of_head asked head e other); well = f })

pub gathered_both : (asked : Op) (head body more : List ℕ) (a b c : Place) → length head ≡ 16 → len_of head ≡ 16 + body_size asked
    → length body ≡ body_size asked → Heard head a b → b.faults ≡ a.faults → Heard body b c → c.faults ≡ b.faults
    → IsGathered asked (take (16 + body_size asked) (head ++ (body ++ more))) a c
gathered_both asked head body more a b c e same size h f k g =
    let long : length (head ++ body) ≡ 16 + body_size asked = omega (arith, e, size, length-append head body) in
    subst (λ bytes. IsGathered asked bytes a c)
    (sym (ap (λ bytes. take (16 + body_size asked) bytes) (sym (append_assoc head body more)) ∙ all_front (head ++ body) more (16 + body_size asked) long))
    (record { heard = heard_two a b c head body h k; whole = long ∙ sym (of_both asked head body e same); well = g ∙ f })

-- the body's length by another name
pub gathered_both_of : (asked : Op) (n : ℕ) (head body more : List ℕ) (a b c : Place) → n ≡ body_size asked → length head ≡ 16 → len_of head ≡ 16 + n
    → length body ≡ n → Heard head a b → b.faults ≡ a.faults → Heard body b c → c.faults ≡ b.faults
    → IsGathered asked (take (16 + n) (head ++ (body ++ more))) a c
gathered_both_of asked n head body more a b c same e first size h f k g =
    subst (λ (m : ℕ). IsGathered asked (take (16 + m) (head ++ (body ++ more))) a c) (sym same)
    (gathered_both asked head body more a b c e (first ∙ ap (λ (m : ℕ). 16 + m) same) (size ∙ same) h f k g)

lacks_from : (cause : Unfilled) (a b c : Place) → b.faults ≡ a.faults → LacksMore cause b c → LacksMore cause a c
lacks_from why.Ended a b c f l = (l.0, l.1 ∙ f)
lacks_from why.Turns a b c f l = (l.0, l.1 ∙ f)
lacks_from why.ReadFault a b c f l = subst (λ n. Rose n c.faults) f l

pub part_of_head : (asked : Op) (head : List ℕ) (cause : Unfilled) (a b : Place) → length head ≡ 16 → IsFilledPart head a b cause
    → IsGatheredPart asked a b cause
part_of_head asked head cause a b e p =
    let short : length (take p.count head) ≡ p.count = length_front p.count head (omega (arith, p.short)) in
    record {
      bytes = take p.count head;
      heard = p.heard;
      short = rw (of_part asked (take p.count head) (omega (arith, e, short, p.short))) (omega (arith, e, short, p.short));
      lacks = p.lacks;
    }

pub part_of_body : (asked : Op) (head body : List ℕ) (cause : Unfilled) (a b c : Place) → length head ≡ 16
    → len_of head ≡ 16 + body_size asked → length body ≡ body_size asked → Heard head a b → b.faults ≡ a.faults
    → IsFilledPart body b c cause → IsGatheredPart asked a c cause
part_of_body asked head body cause a b c e same size h f p =
    let short : length (take p.count body) ≡ p.count = length_front p.count body (omega (arith, p.short)) in
    record {
      bytes = head ++ take p.count body;
      heard = heard_two a b c head (take p.count body) h p.heard;
      short = rw (of_both asked head (take p.count body) e same) (omega (arith, e, size, short, p.short, length-append head (take p.count body)));
      lacks = lacks_from cause a b c f p.lacks;
    }
