use Rattle.std.proofs.Common.{◌≡◌, ◌∙◌, ◌+◌, ◌++◌, ◌∷◌, [], List, ℕ, ap, append_assoc, codes, subst}
use Rattle.lf_base.specs.Name.{IsName}
use Rattle.backup_link.specs.LevelNames.{level_name}
use Rattle.backup_link.proofs.LevelNames.{level_refused}
use Rattle.backup_link.proofs.level_names.level_name.Goals as goal

pub want_of-requires : goal.want_of-requires
want_of-requires c =
    let front : c.extend_from_slice.new.self.items ≡ c.args.name.now ++ codes ".l" =
    c.in_ok-extend_from_slice.ensures.items ∙ ap (λ (l : List ℕ). l ++ codes ".l") (c.in_ok-text.ensures.items ∙ c.bytes.ensures.value)
    in
    let same : c.as_slice.result.now ≡ level_name c.args.name.now c.args.level =
    c.as_slice.ensures.value ∙ c.in_ok-push.ensures.items ∙ ap (λ (l : List ℕ). l ++ (48 + c.args.level) ∷ []) front
    ∙ append_assoc c.args.name.now (codes ".l") ((48 + c.args.level) ∷ [])
    in
    level_refused c.args.name.now c.as_slice.result.now c.args.level c.in-Err.fault same (subst IsName c.bytes.ensures.value c.bytes.ensures.name) c.requires.room c.requires.level
    c.in-Err.ensures.fault
