-- A sink that takes bytes in several calls.
use Rattle.std.proofs.Common.{◌≡◌, ℕ, List, ◌++◌, Option, Result, Ok, Err, OnOk, OnErr, sym, ap, ◌∙◌, append_assoc}
use Rattle.std.specs.Io.KnownBytes.{Appends}
use Rattle.std.proofs.KnownBytes.{Appends-trans}
use Rattle.snapshot.specs.Output.{AppendsPrefix}

-- some bytes were taken whole, and then a prefix of more
pub AppendsPrefix-after : (a b c : Option (List ℕ)) (bytes more all : List ℕ) → all ≡ bytes ++ more → Appends a b bytes → AppendsPrefix b c more → AppendsPrefix a c all
AppendsPrefix-after a b c bytes more all is whole prefix =
    let joined : all ≡ (bytes ++ prefix.0) ++ prefix.1.0 = is ∙ ap (λ l. bytes ++ l) prefix.1.1 ∙ sym (append_assoc bytes prefix.0 prefix.1.0) in
    (bytes ++ prefix.0, (prefix.1.0, joined), Appends-trans a b c bytes prefix.0 whole prefix.2)

-- a prefix of some bytes is one of those and more
pub AppendsPrefix-more : (a b : Option (List ℕ)) (bytes more : List ℕ) → AppendsPrefix a b bytes → AppendsPrefix a b (bytes ++ more)
AppendsPrefix-more a b bytes more prefix =
    let longer : bytes ++ more ≡ prefix.0 ++ (prefix.1.0 ++ more) = ap (λ l. l ++ more) prefix.1.1 ∙ append_assoc prefix.0 prefix.1.0 more in
    (prefix.0, (prefix.1.0 ++ more, longer), prefix.2)

-- what holds in any case holds on an error
pub on_err : {T E : Type 0} (r : Result T E) (P : Type 0) → P → OnErr r P
on_err (Ok x) P p = tt
on_err (Err e) P p = p

-- what follows from a fact on an error, or where it went well
pub map_on_err : {T E : Type 0} (r : Result T E) (P Q : Type 0) → (P → Q) → OnErr r P → OnErr r Q
map_on_err (Ok x) P Q step p = tt
map_on_err (Err e) P Q step p = step p

pub map_on_ok : {T E : Type 0} (r : Result T E) (P Q : Type 0) → (P → Q) → OnOk r P → OnOk r Q
map_on_ok (Ok x) P Q step p = step p
map_on_ok (Err e) P Q step p = tt
