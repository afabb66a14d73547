-- Two texts, one behind the other.
use Rattle.std.proofs.Common.{ℕ, List, ◌++◌, ◌+◌, length, take, Option, Result, Ok, Err, OnErr, sym, subst, length-append, arith}
use Rattle.std.specs.Io.KnownBytes.{Appends}
use Rattle.std.proofs.KnownBytes.{Appends-trans}
use Rattle.std.proofs.lemmas.List.{take-append-le}
use Rattle.std.proofs.Math.Seq.{take-append-add}
use Rattle.link_session.specs.Writing.{AppendsPart}

pub part_of_front : (old new : Option (List ℕ)) (front back : List ℕ) → AppendsPart old new front → AppendsPart old new (front ++ back)
part_of_front old new front back a = (
  a.0,
  omega (arith, length-append front back, a.1),
  subst (λ (text : List ℕ). Appends old new text) (sym (take-append-le a.0 front back (omega (arith, a.1)))) a.2,
)

pub part_of_back : (old mid new : Option (List ℕ)) (front back : List ℕ) → Appends old mid front → AppendsPart mid new back → AppendsPart old new (front ++ back)
part_of_back old mid new front back w a = (
  length front + a.0,
  omega (arith, length-append front back, a.1),
  subst (λ (text : List ℕ). Appends old new text) (sym (take-append-add front back a.0)) (Appends-trans old mid new front (take a.0 back) w a.2),
)

pub back_in_part : {T F : Type 0} (old mid new : Option (List ℕ)) (front back : List ℕ) (r : Result T F) → Appends old mid front → OnErr r (AppendsPart mid new back)
    → OnErr r (AppendsPart old new (front ++ back))
back_in_part old mid new front back (Ok x) w a = tt
back_in_part old mid new front back (Err e) w a = part_of_back old mid new front back w a
