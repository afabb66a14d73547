-- Pages that stand side by side, as they are gathered and written over a file.
use Rattle.std.proofs.Common.{◌≡◌, inl, inr, ℕ, ◌+◌, ◌-◌, ◌*◌, ◌<◌, ◌≤◌, List, [], ◌∷◌, ◌++◌, length, take, get_or, Result, refl, sym, ◌∙◌, ap, subst, arith}
use Rattle.std.proofs.lemmas.Bool.{cases_lt}
use Rattle.std.proofs.lemmas.List.Sums.{fold_more}
use Rattle.std.proofs.lemmas.List.{length-append, get_or_append_left, get_or-append_right, ext_get_or}
use Rattle.lf_base.specs.FileBytes.{overwritten, written}
use Rattle.lf_base.proofs.FileLemmas.{length-overwritten, overwritten_before, overwritten_within, overwritten_behind, written-some}
use Rattle.lf_disk.specs.declared.name.FileName.TheVariants.{Database}
use Rattle.lf_disk.specs.Folder.{Folder, bytes_of}
use Rattle.lf_disk.specs.Change.{Step, OnFile, TearsFile}
use Rattle.lf_disk.specs.History.{History, Ticks, Moves}
use Rattle.lf_disk.specs.Stretch.{Stretch}
use Rattle.lf_disk.proofs.Stretches.{goes_on}
use Rattle.lf_sqlite_pages.specs.Change.{PageChange, IsChange}
use Rattle.lf_sqlite_pages.specs.declared.page_write.PageWrite.{PageWrite}
use Rattle.lf_sqlite_pages.proofs.Applying.{WritesWhole, WritesWhole-at}
use Rattle.txn_log.specs.PageRun.{LeavesOut}
use Rattle.txn_log.specs.Pages.{Wears, patched}
use Rattle.txn_log.proofs.Places.{apart, page_end, same_page}
use Rattle.txn_log.proofs.Wearing.{other_number, wears_path}

-- two writes side by side are one
overwritten_both : (at : ℕ) (first second bytes : List ℕ) → overwritten at (first ++ second) bytes ≡ overwritten (at + length first) second (overwritten at first bytes)
overwritten_both at first second bytes =
    let both : length (first ++ second) ≡ length first + length second = length-append first second in
    let one : length (overwritten at (first ++ second) bytes) ≡ at + length (first ++ second) + (length bytes - (at + length (first ++ second))) = length-overwritten at (first ++ second) bytes in
    let mid : length (overwritten at first bytes) ≡ at + length first + (length bytes - (at + length first)) = length-overwritten at first bytes in
    let two : length (overwritten (at + length first) second (overwritten at first bytes)) ≡ at + length first + length second + (length (overwritten at first bytes) - (at + length first + length second)) =
    length-overwritten (at + length first) second (overwritten at first bytes) in
    ext_get_or 0 _ _ (omega (arith, both, one, mid, two)) (λ i under. elim (cases_lt i at) [
      | inl low ↦
          overwritten_before at (first ++ second) bytes i low
          ∙ sym (overwritten_before at first bytes i low)
          ∙ sym (overwritten_before (at + length first) second (overwritten at first bytes) i (omega arith))
      | inr from ↦ elim (cases_lt (i - at) (length first)) [
        | inl within ↦
            overwritten_within at (first ++ second) bytes i from (omega (arith, both, within))
            ∙ get_or_append_left first second 0 (i - at) within
            ∙ sym (overwritten_within at first bytes i from within)
            ∙ sym (overwritten_before (at + length first) second (overwritten at first bytes) i (omega (arith, from, within)))
        | inr past ↦ elim (cases_lt (i - (at + length first)) (length second)) [
          | inl inside ↦
              let place : i - at - length first ≡ i - (at + length first) = omega arith in
              overwritten_within at (first ++ second) bytes i from (omega (arith, both, inside, past, from))
              ∙ get_or-append_right first second (length first) (i - at) 0 refl past
              ∙ ap (λ (k : ℕ). get_or second k 0) place
              ∙ sym (overwritten_within (at + length first) second (overwritten at first bytes) i (omega (arith, from, past)) inside)
          | inr behind ↦
              overwritten_behind at (first ++ second) bytes i from (omega (arith, both, behind, past, from))
              ∙ sym (overwritten_behind at first bytes i from past)
              ∙ sym (overwritten_behind (at + length first) second (overwritten at first bytes) i (omega (arith, from, past)) behind)
        ]
      ]
    ])

pub written_both : (at : ℕ) (first second bytes : List ℕ) → 0 < length second → written at (first ++ second) bytes ≡ overwritten (at + length first) second (written at first bytes)
written_both at [] second bytes some =
    let here : at ≡ at + 0 = omega arith in
    written-some at second bytes some ∙ ap (λ (k : ℕ). overwritten k second bytes) here
written_both at (b ∷ bs) second bytes some = overwritten_both at (b ∷ bs) second bytes

-- nothing lies in no bytes
pub front_out : (change : PageChange) (at n : ℕ) → LeavesOut change at n → LeavesOut change at 0
front_out change at n out m first left = elim (out m first left) [
  | inl below ↦ inl below
  | inr above ↦ inr (omega (arith, above))
]

pub end_out : (change : PageChange) (at n end : ℕ) → end ≡ at + n → LeavesOut change at n → LeavesOut change end 0
end_out change at n end is out m first left = elim (out m first left) [
  | inl below ↦ inl (omega (arith, below, is))
  | inr above ↦ inr (omega (arith, above, is))
]

pub begins_out : (change : PageChange) → LeavesOut change 0 0
begins_out change m first left = inr (omega arith)

-- two ranges side by side
pub both_out : (change : PageChange) (at n k : ℕ) → 0 < change.page_size → LeavesOut change at n → LeavesOut change (at + n) k → LeavesOut change at (n + k)
both_out change at n k sized one two m first left = elim (one m first left) [
  | inl below ↦ inl below
  | inr above ↦ elim (two m first left) [
    | inl low ↦ absurd (omega (arith, above, low, sized, page_end change.page_size m first))
    | inr high ↦ inr (omega (arith, high))
  ]
]

-- a page that is written has its place alone
pub page_out : (change : PageChange) (w : PageWrite) (k at : ℕ) (piece : List ℕ) → IsChange change → k < length change.pages → w ≡ get_or change.pages k w
    → at ≡ (w.number - 1) * change.page_size → piece ≡ w.bytes → LeavesOut change at (length piece)
page_out change w k at piece valid within read place same m first left =
    let known : WritesWhole change w = WritesWhole-at change change.pages valid refl k w within read in
    let other : (w.number ≡ m → ⊥) = λ e. other_number change.pages m left.1 k w within (ap (λ (v : PageWrite). v.number) (sym read) ∙ e) in
    elim (apart change.page_size w.number m known.first first other) [
      | inl below ↦ inl (omega (arith, below, place))
      | inr above ↦ inr (omega (arith, above, place, ap length same, known.whole, page_end change.page_size w.number known.first))
    ]

-- a write of such a range wears no page that is left, whether it succeeds or not
pub range_wears : (change : PageChange) (at n : ℕ) → LeavesOut change at n → (f g : Folder) → TearsFile Database at n f g → OnFile Database (Wears change) f g
range_wears change at n out f g tears = record {
  here = record {
    stays = tears.here.stays;
    bytes = λ m first left long.
        let torn = tears.here.bytes in
        same_page change.page_size m (bytes_of (f Database)) (bytes_of (g Database)) first long (omega (arith, torn.no_shorter, long))
        (λ i low high. elim (out m first left) [
          | inl below ↦ torn.below i (omega (arith, high, long)) (omega (arith, high, below))
          | inr above ↦ torn.above i (omega (arith, high, long)) (omega (arith, low, above))
        ]);
  };
  elsewhere = tears.elsewhere;
}

pub range_runs : {T E : Type 0} (result : Result T E) (change : PageChange) (at n : ℕ) (sees : Step) (old mid new : History) → LeavesOut change at n
    → Stretch (OnFile Database (Wears change)) old mid → Ticks result mid new → Moves sees (TearsFile Database at n) mid new → Stretch (OnFile Database (Wears change)) old new
range_runs result change at n sees old mid new out so_far ticks moves =
    goes_on result old mid new (OnFile Database (Wears change)) sees (TearsFile Database at n) (wears_path change) so_far ticks moves (range_wears change at n out)

-- one page more is written over the bytes
pub patched_more : (size at : ℕ) (piece : List ℕ) (ws : List PageWrite) (i : ℕ) (w : PageWrite) (bytes : List ℕ) → i < length ws → w ≡ get_or ws i w → at ≡ (w.number - 1) * size → piece ≡ w.bytes
    → overwritten at piece (patched size bytes (take i ws)) ≡ patched size bytes (take (i + 1) ws)
patched_more size at piece ws i w bytes within read place same =
    let so_far : List ℕ = patched size bytes (take i ws) in
    let step : patched size bytes (take (i + 1) ws) ≡ overwritten (((get_or ws i w).number - 1) * size) (get_or ws i w).bytes so_far =
    fold_more (λ b (v : PageWrite). overwritten ((v.number - 1) * size) v.bytes b) bytes ws i w within in
    ap (λ (a : ℕ). overwritten a piece so_far) place
    ∙ ap (λ (l : List ℕ). overwritten ((w.number - 1) * size) l so_far) same
    ∙ ap (λ (v : PageWrite). overwritten ((v.number - 1) * size) v.bytes so_far) read
    ∙ sym step
