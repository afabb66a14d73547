-- A frame is its front and its body.
use Rattle.std.proofs.Common.{◌≡◌, ℕ, List, ◌++◌, length, sym, ap, ◌∙◌, append_assoc}
use Rattle.stream_wire.specs.Frame.{frame_of, front_of}

same_length : (kind : ℕ) (name body : List ℕ) → front_of kind name (length body) ++ body ≡ frame_of kind name body
unfolding front_of frame_of
same_length kind name body = simp append_assoc

pub front_written : (old new name : List ℕ) (count : ℕ) → new ≡ old ++ front_of 1 name count → (bytes : List ℕ) → length bytes ≡ count
    → new ++ bytes ≡ old ++ frame_of 1 name bytes
front_written old new name count e bytes l =
    ap (λ (x : List ℕ). x ++ bytes) e ∙ append_assoc old (front_of 1 name count) bytes
    ∙ ap (λ (x : List ℕ). old ++ x) (ap (λ (n : ℕ). front_of 1 name n ++ bytes) (sym l) ∙ same_length 1 name bytes)
