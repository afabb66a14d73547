-- The fields, joined.
use Rattle.std.proofs.Common.{◌∷◌, List, ℕ, ap}
use Rattle.shm_index.proofs.FieldLemmas.{joined}
use Rattle.shm_index.proofs.header.index_fields.Goals as goal

pub returns : goal.returns
returns c =
    rw (c.le32_bytes-change.ensures.value, c.le16_bytes-size.ensures.value, c.le32_bytes-pages.ensures.value, c.stated_size.ensures)
    (ap (λ (t : List ℕ). 24 ∷ 226 ∷ 45 ∷ 0 ∷ 0 ∷ 0 ∷ 0 ∷ 0 ∷ t)
    (joined _ _ _ _ c.le32_bytes-change.ensures.len (rw c.stated_size.ensures at c.le16_bytes-size.ensures.len) c.le32_bytes-pages.ensures.len))
