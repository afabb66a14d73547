-- A file that does not follow is refused.
use Rattle.std.proofs.Common.{inr, refl, ◌∙◌, ap, subst}
use Rattle.node_recovery.specs.Damage.{IsApart}
use Rattle.node_recovery.specs.declared.outline.Outline.{Outline}
use Rattle.node_recovery.proofs.judging.judge_file.Goals as goal

pub returns-in-Some-apart-clause-judges : goal.returns-in-Some-apart-clause-judges
returns-in-Some-apart-clause-judges g c honest =
    let is = (c.in_ok-read.ensures.reads honest).0 in
    let position = c.in-Some-position.before in (
      refl,
      inr (
        ∣ is.is ∣₁,
        inr (
          c.in_default.ensures.0 ∙ ap (λ (o : Outline). o.header.min) is.tells,
          c.in_default.ensures.1 ∙ ap (λ (o : Outline). o.header.max) is.tells,
          position,
          c.in-Some-position.is,
          subst (λ (o : Outline). IsApart position o c.in-Some-apart.want c.in-Some-apart.got) is.tells c.in-Some-apart.ensures,
        ),
      ),
    )
