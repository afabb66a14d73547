-- Where a byte stands first.
use Rattle.std.proofs.Common.{◌≡◌, ℕ, zero, suc, ◌+◌, ◌<◌, ◌==◌, Bool, true, false, not, ltb, cond, List, [], ◌∷◌, ◌++◌, length, length-append, drop, All, Option}
use Rattle.std.proofs.Common.{Some, None, refl, sym, ap, ◌∙◌, arith, append_assoc}
use Rattle.std.proofs.lemmas.Bool.Decides.{nat_tests}
use Rattle.std.proofs.Math.Seq.{drop-append_seam}
use Rattle.std.specs.List.{position, position_or_len}
use Rattle.txid_proxy.specs.Lines.{Lacks, is_line_end, IsStart}

-- the first that passes a test stands behind those that don't
first_at : (p : ℕ → Bool) (xs ys : List ℕ) (y : ℕ) → All (λ x. p x ≡ false) xs → p y ≡ true → position_or_len p (xs ++ y ∷ ys) ≡ length xs
first_at p [] ys y none here = rw here refl
first_at p (x ∷ xs) ys y none here =
    let head : p x ≡ false = none zero zero (omega arith) in
    let rest = first_at p xs ys y (λ k d l. none (suc k) d (omega arith)) here in
    let step : 1 + position_or_len p (xs ++ y ∷ ys) ≡ suc (length xs) = omega (arith, rest) in
    rw head step

some_at : (p : ℕ → Bool) (xs ys : List ℕ) (y : ℕ) → All (λ x. p x ≡ false) xs → p y ≡ true → position p (xs ++ y ∷ ys) ≡ Some (length xs)
some_at p xs ys y none here =
    let at = first_at p xs ys y none here in
    let less : length xs < length (xs ++ y ∷ ys) = omega (arith, length-append xs (y ∷ ys)) in
    let test : ltb (length xs) (length (xs ++ y ∷ ys)) ≡ true = grind (arith, nat_tests, less) in
    rw at (ap (λ (b : Bool). cond b (Some (length xs)) None) test)

pub found : (bytes line rest : List ℕ) (b : ℕ) → Lacks b line → bytes ≡ line ++ b ∷ rest → position (λ x. x == b) bytes ≡ Some (length line)
found bytes line rest b lacks is =
    let here : (b == b) ≡ true = grind (arith, nat_tests) in
    ap (λ (xs : List ℕ). position (λ x. x == b) xs) is ∙ some_at (λ x. x == b) line rest b lacks here

pub found_at : (bytes line rest : List ℕ) (b : ℕ) (at : ℕ) (o : Option ℕ) → Lacks b line → bytes ≡ line ++ b ∷ rest → o ≡ position (λ x. x == b) bytes → o ≡ Some at
    → at ≡ length line
found_at bytes line rest b at o lacks is by some =
    let same : Some at ≡ Some (length line) = sym some ∙ by ∙ found bytes line rest b lacks is in cc

pub found_none : (bytes line rest : List ℕ) (b : ℕ) (o : Option ℕ) → Lacks b line → bytes ≡ line ++ b ∷ rest → o ≡ position (λ x. x == b) bytes → o ≡ None → ⊥
found_none bytes line rest b o lacks is by none =
    let same : None ≡ Some (length line) = sym none ∙ by ∙ found bytes line rest b lacks is in cc

-- ---- a start line

-- the bytes by their start
start_parts : (bytes start rest : List ℕ) (is : IsStart start) → bytes ≡ start ++ rest → bytes ≡ is.blank ++ is.first ∷ (is.more ++ 10 ∷ rest)
start_parts bytes start rest is e =
    e ∙ ap (λ (xs : List ℕ). xs ++ rest) is.are ∙ append_assoc (is.blank ++ is.first ∷ is.more) (10 ∷ []) rest ∙ append_assoc is.blank (is.first ∷ is.more) (10 ∷ rest)

pub line_found : (bytes start rest : List ℕ) (is : IsStart start) → bytes ≡ start ++ rest → position (λ b. not (is_line_end b)) bytes ≡ Some (length is.blank)
line_found bytes start rest is e =
    ap (λ (xs : List ℕ). position (λ b. not (is_line_end b)) xs) (start_parts bytes start rest is e)
    ∙ some_at (λ b. not (is_line_end b)) is.blank (is.more ++ 10 ∷ rest) is.first (λ k d l. ap not (is.ends k d l)) (ap not is.begins)

-- behind the empty lines
pub line_behind : (bytes start rest behind : List ℕ) (is : IsStart start) (blank : ℕ) → bytes ≡ start ++ rest → blank ≡ length is.blank → behind ≡ drop blank bytes
    → behind ≡ (is.first ∷ is.more) ++ 10 ∷ rest
line_behind bytes start rest behind is blank e len by =
    by ∙ ap (λ (n : ℕ). drop n bytes) len ∙ ap (λ (xs : List ℕ). drop (length is.blank) xs) (start_parts bytes start rest is e)
    ∙ drop-append_seam is.blank (is.first ∷ (is.more ++ 10 ∷ rest))

pub line_lacks : (start : List ℕ) (is : IsStart start) → Lacks 10 (is.first ∷ is.more)
line_lacks start is zero d less = first_no_feed is.first is.begins
  where
    first_no_feed : (b : ℕ) → is_line_end b ≡ false → (b == 10) ≡ false
    first_no_feed b h = grind (arith, nat_tests)
line_lacks start is (suc k) d less = is.line k d (omega arith)

pub start_len : (start : List ℕ) (is : IsStart start) → length start ≡ length is.blank + (length (is.first ∷ is.more) + 1)
start_len start is = ap length is.are ∙ omega (arith, length-append (is.blank ++ is.first ∷ is.more) (10 ∷ []), length-append is.blank (is.first ∷ is.more))
