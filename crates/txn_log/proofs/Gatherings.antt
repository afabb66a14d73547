-- A file that is gathered, and staged part by part.
use Rattle.std.proofs.Common.{◌≡◌, ℕ, zero, suc, ◌+◌, ◌-◌, ◌<◌, ◌≤◌, List, [], ◌∷◌, ◌++◌, length, take, get_or, Result, inl, inr, refl, sym, ◌∙◌, ap, subst, arith}
use Rattle.std.proofs.lemmas.Bool.{cases_lt}
use Rattle.std.proofs.lemmas.List.{append-nil, append_assoc, length-append, take_more}
use Rattle.lf_disk.specs.declared.name.FileName.TheVariants.{Staged}
use Rattle.lf_disk.specs.Folder.{Folder, SameBut}
use Rattle.lf_disk.specs.Change.{Edit, Step, OnFile, Writes}
use Rattle.lf_disk.specs.History.{History, Ticks, Moves, EachMoment}
use Rattle.page_checksum.specs.Crc.{after_bytes}
use Rattle.page_checksum.proofs.CrcLemmas.{after_bytes-append}
use Rattle.lf_sqlite_pages.specs.Change.{AscendsAbove, PageChange, IsChange}
use Rattle.lf_sqlite_pages.specs.declared.page_write.PageWrite.{PageWrite}
use Rattle.ltx_codec.specs.Format.{page_encoding, pages_encoding}
use Rattle.ltx_codec.proofs.EncodingLemmas.{pages_encoding-push}
use Rattle.txn_log.specs.Staging.{HoldsSoFar, HasGathered}
use Rattle.txn_log.proofs.Stagings.{edits, holds_more, starts}

module _ (before : Folder) (at : ℕ) (gathered encoding : List ℕ) (old : History) (so_far : HasGathered before at gathered encoding old) where
  -- where nothing was done
  pub stays : EachMoment old old (SameBut Staged before)
  stays = starts before so_far.written old so_far.held

  -- a call on the staged file
  pub goes : {T E : Type 0} (result : Result T E) (new : History) (sees : Step) (edit : Edit) → Ticks result old new → Moves sees (OnFile Staged edit) old new → EachMoment old new (SameBut Staged before)
  goes result new sees edit ticks moves = edits before so_far.written old so_far.held result new sees edit ticks moves

  -- what is gathered was written
  pub written : (new : History) (edit : Edit) (to : ℕ) → to ≡ at + length gathered → Moves (OnFile Staged (Writes at gathered)) (OnFile Staged edit) old new → HasGathered before to [] encoding new
  written new edit to is moves = record {
    written = so_far.written ++ gathered;
    len = is ∙ ap (λ (k : ℕ). k + length gathered) so_far.len ∙ sym (length-append so_far.written gathered);
    whole = append-nil (so_far.written ++ gathered) ∙ so_far.whole;
    held = holds_more before so_far.written old so_far.held new at gathered edit so_far.len moves;
  }

  -- more was gathered
  pub more : (piece then : List ℕ) → then ≡ gathered ++ piece → HasGathered before at then (encoding ++ piece) old
  more piece then is = record {
    written = so_far.written;
    len = so_far.len;
    whole = ap (λ (l : List ℕ). so_far.written ++ l) is ∙ sym (append_assoc so_far.written gathered piece) ∙ ap (λ (l : List ℕ). l ++ piece) so_far.whole;
    held = so_far.held;
  }

  -- where all of it was written, the staged file has it
  pub all_written : gathered ≡ [] → HoldsSoFar before encoding old
  all_written none =
      let is : so_far.written ≡ encoding = sym (append-nil so_far.written) ∙ ap (λ (l : List ℕ). so_far.written ++ l) (sym none) ∙ so_far.whole in
      subst (λ (e : List ℕ). HoldsSoFar before e old) is so_far.held

-- nothing was gathered yet
pub begun : (before : Folder) (h : History) (at : ℕ) (gathered : List ℕ) → HoldsSoFar before [] h → at ≡ 0 → gathered ≡ [] → HasGathered before at gathered [] h
begun before h at gathered held first none = record { written = []; len = first; whole = none; held = held }

-- one page more
pages_more : (ws : List PageWrite) (i : ℕ) (w : PageWrite) → i < length ws → w ≡ get_or ws i w → pages_encoding (take (i + 1) ws) ≡ pages_encoding (take i ws) ++ page_encoding w.number w.bytes
pages_more ws i w within read =
    ap pages_encoding (take_more ws i w within ∙ ap (λ (v : PageWrite). take i ws ++ v ∷ []) (sym read)) ∙ pages_encoding-push (take i ws) w

pub pages_encoding-next : (encoding piece : List ℕ) (ws : List PageWrite) (i : ℕ) (w : PageWrite) → i < length ws → w ≡ get_or ws i w → piece ≡ w.bytes
    → (encoding ++ pages_encoding (take i ws)) ++ page_encoding w.number piece ≡ encoding ++ pages_encoding (take (i + 1) ws)
pages_encoding-next encoding piece ws i w within read same =
    ap (λ (l : List ℕ). (encoding ++ pages_encoding (take i ws)) ++ page_encoding w.number l) same
    ∙ append_assoc encoding (pages_encoding (take i ws)) (page_encoding w.number w.bytes)
    ∙ ap (λ (l : List ℕ). encoding ++ l) (sym (pages_more ws i w within read))

pub pages_register-next : (first register next : ℕ) (piece : List ℕ) (ws : List PageWrite) (i : ℕ) (w : PageWrite) → i < length ws → w ≡ get_or ws i w → piece ≡ w.bytes
    → register ≡ after_bytes first (pages_encoding (take i ws)) → next ≡ after_bytes register (page_encoding w.number piece) → next ≡ after_bytes first (pages_encoding (take (i + 1) ws))
pages_register-next first register next piece ws i w within read same so_far last =
    last
    ∙ ap (λ (l : List ℕ). after_bytes register (page_encoding w.number l)) same
    ∙ ap (λ (r : ℕ). after_bytes r (page_encoding w.number w.bytes)) so_far
    ∙ sym (after_bytes-append first (pages_encoding (take i ws)) (page_encoding w.number w.bytes))
    ∙ ap (after_bytes first) (sym (pages_more ws i w within read))

-- there are no more pages than numbers
above : (number : ℕ) (ws : List PageWrite) → AscendsAbove number ws → (i : ℕ) (d : PageWrite) → i < length ws → number + i < (get_or ws i d).number
above number [] ascends i d within = absurd (omega arith)
above number (w ∷ ws) ascends zero d within = omega (arith, ascends.0)
above number (w ∷ ws) ascends (suc i) d within = omega (arith, ascends.0, above w.number ws ascends.1 i d (omega arith))

pub pages_most : (change : PageChange) → IsChange change → length change.pages ≤ change.commit
pages_most change valid =
    let n : ℕ = length change.pages in
    let d : PageWrite = record { number = 0; bytes = [] } in
    elim (cases_lt 0 n) [
      | inl some ↦ omega (arith, some, above 0 change.pages valid.ascending (n - 1) d (omega arith), valid.within (n - 1) d (omega arith))
      | inr none ↦ omega (arith, none)
    ]
