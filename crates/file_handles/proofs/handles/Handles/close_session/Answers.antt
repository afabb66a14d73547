-- The handles that stay are those that the test keeps.
use Rattle.std.proofs.Common.{rules}
use Rattle.std.specs.Prelude.{not, nat_eq}
use Rattle.std.proofs.lemmas.Map.Made.{filter_same_pairs}
use Rattle.file_handles.proofs.handles.Handles.close_session.Goals as goal

pub returns : goal.returns
returns c =
    rw (← c.self.view_is)
    (filter_same_pairs _ (λ e. not (nat_eq e.0.0 c.args.session)) _ (λ k v b w f' t. search rules) _ _ c.retain.ensures.filtered)
