use Rattle.std.proofs.Common.{◌≡◌, ◌∙◌, ◌+◌, ℕ, List, suc, ap, sym, subst, add-one, get_or, refl}
use Rattle.stream_primary.specs.Metric.{together, up_to}
use Rattle.stream_primary.proofs.histogram.up_to.Goals as goal

up_to-next : (buckets : List ℕ) (place count now : ℕ) → count ≡ up_to buckets place → now ≡ together count (get_or buckets (place + 1) 0) → now ≡ up_to buckets (place + 1)
unfolding up_to
up_to-next buckets place count now is added =
    subst (λ (n : ℕ). now ≡ up_to buckets n) (sym (add-one place))
    (subst (λ (n : ℕ). now ≡ together count (get_or buckets n 0)) (add-one place) added ∙ ap (λ (c : ℕ). together c (get_or buckets (suc place) 0)) is)

pub loop-below-init : goal.loop-below-init
unfolding up_to
loop-below-init c = refl

pub loop-below-preserved : goal.loop-below-preserved
loop-below-preserved c =
    up_to-next c.args.buckets.now c.loop-below.below c.loop-below.count c.together-count.result c.loop-below.invariant c.together-count.ensures
