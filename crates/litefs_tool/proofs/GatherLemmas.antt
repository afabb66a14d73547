-- Bytes that are added part by part to those that a sink took and those that are held.
use Rattle.std.proofs.Common.{◌≡◌, ℕ, List, [], ◌++◌, Option, Result, Ok, Err, OnOk, refl, sym, ap, subst, ◌∙◌, append_assoc, append-nil}
use Rattle.std.specs.Io.KnownBytes.{Appends}
use Rattle.std.proofs.KnownBytes.{Appends-nil, Appends-trans}
use Rattle.litefs_tool.specs.Output.{AppendsPrefix}
use Rattle.litefs_tool.specs.steps.Buffer.{AppendsAllBut}
use Rattle.litefs_tool.proofs.OutputLemmas.{AppendsAllBut-more, AppendsPrefix-held, AppendsPrefix-middle}

-- of all bytes some were added, and the rest is left
pub record HasAdded (before now : Option (List ℕ)) (all rest held : List ℕ) : Type 0 where
  pub done : List ℕ
  pub split : all ≡ done ++ rest
  pub taken : AppendsAllBut before now done held

pub HasAdded-start : (known : Option (List ℕ)) (held more : List ℕ) → HasAdded known known (held ++ more) more held
HasAdded-start known held more = record { done = held; split = refl; taken = ([], refl, Appends-nil known) }

-- one part more
pub HasAdded-more : (a b c : Option (List ℕ)) (all part rest held held_now : List ℕ) → HasAdded a b all (part ++ rest) held →
    AppendsAllBut b c (held ++ part) held_now → HasAdded a c all rest held_now
HasAdded-more a b c all part rest held held_now so_far step = record {
  done = so_far.done ++ part;
  split = so_far.split ∙ sym (append_assoc so_far.done part rest);
  taken = AppendsAllBut-more a b c so_far.done held part held_now so_far.taken step;
}

-- the last part
pub HasAdded-last : (a b c : Option (List ℕ)) (all part held held_now : List ℕ) → HasAdded a b all part held →
    AppendsAllBut b c (held ++ part) held_now → AppendsAllBut a c all held_now
HasAdded-last a b c all part held held_now so_far step =
    let P : List ℕ → Type 0 = λ l. AppendsAllBut a c l held_now in
    subst P (sym so_far.split) (AppendsAllBut-more a b c so_far.done held part held_now so_far.taken step)

-- where nothing is left, all was added
pub HasAdded-all : (a b : Option (List ℕ)) (all held : List ℕ) → HasAdded a b all [] held → AppendsAllBut a b all held
HasAdded-all a b all held so_far =
    let P : List ℕ → Type 0 = λ l. AppendsAllBut a b l held in
    subst P (sym (so_far.split ∙ append-nil so_far.done)) so_far.taken

-- a fault while those that are held are written
pub HasAdded-fails : (a b c : Option (List ℕ)) (all rest held : List ℕ) → HasAdded a b all rest held → AppendsPrefix b c held → AppendsPrefix a c all
HasAdded-fails a b c all rest held so_far prefix = AppendsPrefix-held a b c so_far.done held rest all so_far.taken prefix so_far.split

-- a fault while those that are held and a part are written
pub HasAdded-fails_within : (a b c : Option (List ℕ)) (all part rest held : List ℕ) → HasAdded a b all (part ++ rest) held →
    AppendsPrefix b c (held ++ part) → AppendsPrefix a c all
HasAdded-fails_within a b c all part rest held so_far prefix =
    let first : List ℕ = so_far.taken.0 in
    let split : all ≡ first ++ ((held ++ part) ++ rest) =
    so_far.split ∙ ap (λ (l : List ℕ). l ++ (part ++ rest)) so_far.taken.1 ∙ append_assoc first held (part ++ rest)
    ∙ ap (λ (l : List ℕ). first ++ l) (sym (append_assoc held part rest))
    in
    AppendsPrefix-middle a b c first (held ++ part) rest all split so_far.taken.2 prefix

-- those that are held and the last part were written
pub HasAdded-written : (a b c : Option (List ℕ)) (all part held : List ℕ) → HasAdded a b all part held → Appends b c (held ++ part) → Appends a c all
HasAdded-written a b c all part held so_far appends =
    let first : List ℕ = so_far.taken.0 in
    let split : all ≡ first ++ (held ++ part) = so_far.split ∙ ap (λ (l : List ℕ). l ++ part) so_far.taken.1 ∙ append_assoc first held part in
    let P : List ℕ → Type 0 = λ l. Appends a c l in
    subst P (sym split) (Appends-trans a b c first (held ++ part) so_far.taken.2 appends)

-- those that are held were written
pub Appends-held : (a b c : Option (List ℕ)) (all held : List ℕ) → AppendsAllBut a b all held → Appends b c held → Appends a c all
Appends-held a b c all held so_far appends =
    let P : List ℕ → Type 0 = λ l. Appends a c l in
    subst P (sym so_far.1) (Appends-trans a b c so_far.0 held so_far.2 appends)

-- or a prefix of them
pub AppendsPrefix-all : (a b c : Option (List ℕ)) (all held : List ℕ) → AppendsAllBut a b all held → AppendsPrefix b c held → AppendsPrefix a c all
AppendsPrefix-all a b c all held so_far prefix = AppendsPrefix-held a b c all held [] all so_far prefix (sym (append-nil all))

-- what is left, said otherwise
pub HasAdded-as : (a b : Option (List ℕ)) (all rest other held : List ℕ) → rest ≡ other → HasAdded a b all rest held → HasAdded a b all other held
HasAdded-as a b all rest other held same so_far =
    let P : List ℕ → Type 0 = λ l. HasAdded a b all l held in
    subst P same so_far

-- what follows from a fact where it went well
pub map_on_ok : {T E : Type 0} (r : Result T E) (P Q : Type 0) → (P → Q) → OnOk r P → OnOk r Q
map_on_ok (Ok x) P Q step p = step p
map_on_ok (Err e) P Q step p = tt
