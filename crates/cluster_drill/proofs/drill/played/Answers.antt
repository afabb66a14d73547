use Rattle.std.proofs.Common.{◌≡◌, ◌∙◌, ◌++◌, ℕ, List, sym, ap, subst}
use Rattle.cluster_drill.specs.Drill.{TellsLine}
use Rattle.cluster_drill.proofs.drill.played.Goals as goal

-- the line was appended to nothing
pub returns : goal.returns
returns c =
    let told = c.in_ok-line.ensures.told in
    let whole : c.of.result ≡ told.0 = c.of.ensures ∙ (told.1 ∙ ap (λ (l : List ℕ). l ++ told.0) c.new-line.ensures.items) in
    record {
      played = c.play.new.self;
      looked = c.line.new.self;
      number = c.in_ok-play.ensures.number;
      at = c.in_ok-play.ensures.at;
      tells = subst (TellsLine c.play.new.self c.line.new.self) (sym whole) told.2;
    }
