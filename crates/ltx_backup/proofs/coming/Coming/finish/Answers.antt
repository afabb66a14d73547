use Rattle.std.proofs.Common.{◌≡◌, List, ℕ, [], ◌++◌, sym, subst}
use Rattle.std.proofs.lemmas.List.{append-nil}
use Rattle.ltx_codec.specs.Fields.{AreBytes}
use Rattle.ltx_codec.specs.Places.{IsRefused}
use Rattle.ltx_backup.specs.Coming.{IsSoFar, StaysRefused}
use Rattle.ltx_backup.specs.declared.coming.Coming.{Coming}
use Rattle.ltx_backup.proofs.coming.Coming.finish.Goals as goal

pub returns-clause-refused : goal.returns-clause-refused
returns-clause-refused c bytes come =
    let whole : bytes ++ [] ≡ bytes = append-nil bytes in
    let stays : StaysRefused bytes c.in-Faulty.fault = subst (λ (s : Coming). IsSoFar s bytes) c.in-Faulty.is come.so_far in
    subst (λ (l : List ℕ). IsRefused l c.in-Faulty.fault) whole (stays [] (subst (λ (l : List ℕ). AreBytes l) (sym whole) come.octets))
