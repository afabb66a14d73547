-- A file whose pages are being written.
use Rattle.std.proofs.Common.{◌≡◌, ◌≢◌, inl, inr, ℕ, zero, suc, ◌+◌, ◌-◌, ◌*◌, ◌<◌, true, eqb, Option, Some, None, Result, List, [], ◌∷◌, length, take, get_or, refl, sym, ◌∙◌, ap, subst, arith}
use Rattle.std.proofs.Math.Nat.{mul-le-mul_right}
use Rattle.std.proofs.lemmas.Bool.{cases_Bool}
use Rattle.std.proofs.lemmas.Bool.Decides.{nat_tests}
use Rattle.std.proofs.lemmas.List.Sums.{fold_more}
use Rattle.lf_disk.specs.declared.name.FileName.TheVariants.{Database}
use Rattle.lf_base.specs.FileBytes.{overwritten}
use Rattle.lf_disk.specs.Folder.{Folder, bytes_of}
use Rattle.lf_disk.specs.Change.{Step, OnFile, Torn, Writes, TearsFile, CropsFile}
use Rattle.lf_disk.specs.History.{History, Ticks, Moves}
use Rattle.lf_sqlite_pages.specs.Change.{PageChange, IsChange, written}
use Rattle.lf_sqlite_pages.specs.declared.page_write.PageWrite.{PageWrite}
use Rattle.lf_sqlite_pages.proofs.Applying.{WritesWhole, WritesWhole-at}
use Rattle.txn_log.specs.Pages.{Wears, Patches, patched}
use Rattle.txn_log.proofs.Places.{torn_page, cropped_page}
use Rattle.lf_disk.specs.Stretch.{Stretch}
use Rattle.lf_disk.proofs.Stretches.{IsPath, goes_on}

-- such an edit may be none, and two are one
pub wears_none : (change : PageChange) (file : Option (List ℕ)) → Wears change file file
wears_none change file = record { stays = λ some. some; bytes = λ n first kept long. record { long = long; same = refl } }

pub wears_both : (change : PageChange) (a b c : Option (List ℕ)) → Wears change a b → Wears change b c → Wears change a c
wears_both change a b c one two = record {
  stays = λ some. two.stays (one.stays some);
  bytes = λ n first kept long.
      let here = one.bytes n first kept long in
      let then = two.bytes n first kept here.long in
      record { long = then.long; same = then.same ∙ here.same };
}

pub wears_path : (change : PageChange) → IsPath (OnFile Database (Wears change))
wears_path change = record {
  stays = λ f. record { here = wears_none change (f Database); elsewhere = λ n other. refl };
  joins = λ f g h one two. record {
    here = wears_both change (f Database) (g Database) (h Database) one.here two.here;
    elsewhere = λ n other. two.elsewhere n other ∙ one.elsewhere n other;
  };
}

-- a page that is not written has another number than each that is
pub other_number : (ws : List PageWrite) (n : ℕ) → written ws n ≡ None → (k : ℕ) (d : PageWrite) → k < length ws → (get_or ws k d).number ≢ n
other_number [] n none k d within = absurd (omega arith)
other_number (w ∷ ws) n none k d within = elim (cases_Bool (eqb w.number n)) [
  | inl is ↦ let here : Some w.bytes ≡ None = rw is at none in absurd (cc)
  | inr isnt ↦
      let rest : written ws n ≡ None = rw isnt at none in
      elim k as (λ (i : ℕ). i < length (w ∷ ws) → (get_or (w ∷ ws) i d).number ≢ n) [
        | zero ↦ λ _ e. let is : eqb w.number n ≡ true = grind (arith, nat_tests) in absurd (cc)
        | suc i ↦ λ inside. other_number ws n rest i d (omega arith)
      ] within
]

pub written_rest : (w : PageWrite) (ws : List PageWrite) (n : ℕ) → written (w ∷ ws) n ≡ None → written ws n ≡ None
written_rest w ws n none = elim (cases_Bool (eqb w.number n)) [
  | inl is ↦ let here : Some w.bytes ≡ None = rw is at none in absurd (cc)
  | inr isnt ↦ rw isnt at none
]

-- a write of one of a change's pages wears no other
pub page_wears : (change : PageChange) (w : PageWrite) (k : ℕ) → IsChange change → k < length change.pages → w ≡ get_or change.pages k w →
    (f g : Folder) → TearsFile Database ((w.number - 1) * change.page_size) (length w.bytes) f g → OnFile Database (Wears change) f g
page_wears change w k valid within read f g tears =
    let known : WritesWhole change w = WritesWhole-at change change.pages valid refl k w within read in
    record {
      here = record {
        stays = tears.here.stays;
        bytes = λ n first left long.
            let torn : Torn ((w.number - 1) * change.page_size) change.page_size (bytes_of (f Database)) (bytes_of (g Database)) =
            subst (λ (m : ℕ). Torn ((w.number - 1) * change.page_size) m (bytes_of (f Database)) (bytes_of (g Database))) known.whole tears.here.bytes in
            let other : w.number ≢ n = λ e. other_number change.pages n left.1 k w within (ap (λ (v : PageWrite). v.number) (sym read) ∙ e) in
            torn_page change.page_size w.number n (bytes_of (f Database)) (bytes_of (g Database)) known.first first other torn long;
      };
      elsewhere = tears.elsewhere;
    }

-- so is a cut to the change's size
pub cut_wears : (change : PageChange) (f g : Folder) → CropsFile Database (change.commit * change.page_size) f g → OnFile Database (Wears change) f g
cut_wears change f g crops = record {
  here = record {
    stays = crops.here.stays;
    bytes = λ n first left long.
        cropped_page change.page_size (change.commit * change.page_size) n (bytes_of (f Database)) (bytes_of (g Database)) first (mul-le-mul_right change.page_size left.0) crops.here.bytes long;
  };
  elsewhere = crops.elsewhere;
}

-- one page more is written over a file
pub patches_more : (size : ℕ) (ws : List PageWrite) (i : ℕ) (w : PageWrite) (f g h : Folder) → i < length ws → w ≡ get_or ws i w → OnFile Database (Patches size (take i ws)) f g
    → OnFile Database (Writes ((w.number - 1) * size) w.bytes) g h → OnFile Database (Patches size (take (i + 1) ws)) f h
patches_more size ws i w f g h within read so_far more = record {
  here =
      let step : patched size (bytes_of (f Database)) (take (i + 1) ws) ≡ overwritten (((get_or ws i w).number - 1) * size) (get_or ws i w).bytes (patched size (bytes_of (f Database)) (take i ws)) =
      fold_more (λ b (v : PageWrite). overwritten ((v.number - 1) * size) v.bytes b) (bytes_of (f Database)) ws i w within in
      ap bytes_of more.here
      ∙ ap (λ (b : List ℕ). overwritten ((w.number - 1) * size) w.bytes b) so_far.here
      ∙ ap (λ (v : PageWrite). overwritten ((v.number - 1) * size) v.bytes (patched size (bytes_of (f Database)) (take i ws))) read
      ∙ sym step;
  elsewhere = λ n other. more.elsewhere n other ∙ so_far.elsewhere n other;
}

-- one round: the write of a page, whether it succeeds or not
pub wears_more : {T E : Type 0} (result : Result T E) (change : PageChange) (w : PageWrite) (k at : ℕ) (piece : List ℕ) (sees : Step) (old mid new : History)
    → IsChange change → k < length change.pages → w ≡ get_or change.pages k w → at ≡ (w.number - 1) * change.page_size → piece ≡ w.bytes
    → Stretch (OnFile Database (Wears change)) old mid → Ticks result mid new → Moves sees (TearsFile Database at (length piece)) mid new
    → Stretch (OnFile Database (Wears change)) old new
wears_more result change w k at piece sees old mid new valid within read place same so_far ticks moves =
    goes_on result old mid new (OnFile Database (Wears change)) sees (TearsFile Database at (length piece)) (wears_path change) so_far ticks moves
    (λ f g tears. page_wears change w k valid within read f g
    (subst (λ (b : List ℕ). TearsFile Database ((w.number - 1) * change.page_size) (length b) f g) same (subst (λ (a : ℕ). TearsFile Database a (length piece) f g) place tears)))

pub patches_by : (size at : ℕ) (piece : List ℕ) (ws : List PageWrite) (i : ℕ) (w : PageWrite) (f g h : Folder) → i < length ws → w ≡ get_or ws i w → at ≡ (w.number - 1) * size → piece ≡ w.bytes
    → OnFile Database (Patches size (take i ws)) f g → OnFile Database (Writes at piece) g h → OnFile Database (Patches size (take (i + 1) ws)) f h
patches_by size at piece ws i w f g h within read place same so_far more =
    patches_more size ws i w f g h within read so_far
    (subst (λ (b : List ℕ). OnFile Database (Writes ((w.number - 1) * size) b) g h) same (subst (λ (a : ℕ). OnFile Database (Writes a piece) g h) place more))
