-- Lines written one after another.
use Rattle.std.proofs.Common.{◌≡◌, ℕ, ◌+◌, ◌<◌, List, ◌∷◌, ◌++◌, length, drop, sym, ap, ◌∙◌, append_assoc, add-one}
use Rattle.std.specs.Prelude.{slice_index_or}
use Rattle.std.proofs.Math.Seq.{drop-cons}
use Rattle.node_core.specs.declared.info.NodeInfo.{NodeInfo}
use Rattle.txn_log.specs.declared.entry.Entry.{Entry}
use Rattle.node_figures.specs.declared.figures.Refused.{Refused}
use Rattle.stream_primary.specs.EventLines.{tx_line, tx_lines}
use Rattle.stream_primary.specs.MetricsText.{refusal_line, refusal_lines}

-- those left from i on are the i-th and those left from i + 1 on
left_over : {A : Type 0} (xs : List A) (i : ℕ) (d : A) → i < length xs → drop i xs ≡ slice_index_or xs i d ∷ drop (i + 1) xs
left_over {A = A} xs i d below = drop-cons xs i d below ∙ ap (λ (n : ℕ). slice_index_or xs i d ∷ drop n xs) (sym (add-one i))

-- a line written, and those behind it
pub refusal_written : (all : List Refused) (i : ℕ) (d : Refused) (old new : List ℕ) → i < length all → new ≡ old ++ refusal_line (slice_index_or all i d)
    → new ++ refusal_lines (drop (i + 1) all) ≡ old ++ refusal_lines (drop i all)
refusal_written all i d old new below written =
    ap (λ (l : List ℕ). l ++ refusal_lines (drop (i + 1) all)) written
    ∙ append_assoc old (refusal_line (slice_index_or all i d)) (refusal_lines (drop (i + 1) all))
    ∙ ap (λ (l : List Refused). old ++ refusal_lines l) (sym (left_over all i d below))

pub file_written : (name : List ℕ) (info : NodeInfo) (all : List Entry) (i : ℕ) (d : Entry) (old new : List ℕ) → i < length all
    → new ≡ old ++ tx_line name info (slice_index_or all i d) → new ++ tx_lines name info (drop (i + 1) all) ≡ old ++ tx_lines name info (drop i all)
file_written name info all i d old new below written =
    ap (λ (l : List ℕ). l ++ tx_lines name info (drop (i + 1) all)) written
    ∙ append_assoc old (tx_line name info (slice_index_or all i d)) (tx_lines name info (drop (i + 1) all))
    ∙ ap (λ (l : List Entry). old ++ tx_lines name info l) (sym (left_over all i d below))
