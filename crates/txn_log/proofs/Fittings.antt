-- A file that is given a length.
use Rattle.std.proofs.Common.{◌≡◌, inl, inr, ℕ, Option, Some, None, Result, List, length, refl, sym, ◌∙◌, ap, subst, arith}
use Rattle.std.proofs.lemmas.List.{take_all}
use Rattle.std.specs.Option.{option_map}
use Rattle.lf_base.specs.FileBytes.{resized}
use Rattle.lf_base.proofs.FileLemmas.{resized-there}
use Rattle.lf_disk.specs.declared.name.FileName.{FileName}
use Rattle.lf_disk.specs.Folder.{Folder, bytes_of}
use Rattle.lf_disk.specs.Change.{Step, OnFile, Cuts, CropsFile}
use Rattle.lf_disk.specs.History.{History, now, Rests, Ticks, Moves}
use Rattle.lf_disk.specs.Stretch.{Stretch}
use Rattle.lf_disk.proofs.Moments.{past_joins}
use Rattle.std.proofs.lemmas.Bool.{cases_lt}

-- no change is one of these
pub crops_none : (name : FileName) (len : ℕ) (f : Folder) → CropsFile name len f f
crops_none name len f = record {
  here = record {
    stays = λ some. some;
    bytes = record { no_shorter = omega arith; no_longer = omega arith; below = λ i there within. refl };
  };
  elsewhere = λ n other. refl;
}

-- a call that changes nothing, and one that changes something behind it
module _ (step : Step) (stays : (f : Folder) → step f f) (old mid : History) (rests : Rests old mid) where
  pub rested : Stretch step old mid
  rested = record {
    later = omega (arith, rests.moment);
    each = λ t c early late left.
        let now_is : t ≡ old.moment = omega (arith, early, late, rests.moment) in
        (c, subst (λ (m : ℕ). old.leaves m c) now_is (rests.past.no_more t c (omega (arith, now_is)) left), stays c);
    past = rests.past;
  }

  pub then_moved : {T E : Type 0} (result : Result T E) (new : History) (sees : Step) → Ticks result mid new → Moves sees step mid new → Stretch step old new
  then_moved result new sees ticks moves = record {
    later = omega (arith, rests.moment, ticks.later);
    each = λ t c early late left. elim (cases_lt mid.moment t) [
      | inl after ↦
          let now_is : t ≡ new.moment = omega (arith, after, late, ticks.by_one) in
          let from = moves.left c (subst (λ (m : ℕ). new.leaves m c) now_is left) in
          (from.0, subst (λ (m : ℕ). old.leaves m from.0) rests.moment (rests.past.no_more mid.moment from.0 (omega (arith, rests.moment)) from.1), from.2)
      | inr before ↦ rested.each t c early before (ticks.past.no_more t c before left)
    ];
    past = past_joins old mid new (omega (arith, rests.moment)) rests.past ticks.past;
  }

-- what is read stays as well
pub reads_on : (old mid : History) → Rests old mid → (n : FileName) → now mid n ≡ now old n
reads_on old mid rests n = ap (λ (t : ℕ). mid.seen t n) rests.moment ∙ rests.past.seen old.moment n (omega arith)

-- a file that has this length is as after a cut to it
has_length : (len : ℕ) (file : Option (List ℕ)) → Some len ≡ option_map (λ (b : List ℕ). length b) file → file ≡ Some (resized len (bytes_of file))
has_length len None is = absurd (cc)
has_length len (Some bytes) is =
    let long : len ≡ length bytes = cc in
    ap Some (sym (resized-there len bytes (omega (arith, long)) ∙ take_all len bytes (omega (arith, long))))

pub fits_already : (name : FileName) (len : ℕ) (old mid : History) → Rests old mid → Some len ≡ option_map (λ (b : List ℕ). length b) (now old name) → OnFile name (Cuts len) (now old) (now mid)
fits_already name len old mid rests is = record {
  here = reads_on old mid rests name ∙ has_length len (now old name) is;
  elsewhere = λ n other. reads_on old mid rests n;
}

pub then_cut : (name : FileName) (len : ℕ) (old mid new : History) → Rests old mid → OnFile name (Cuts len) (now mid) (now new) → OnFile name (Cuts len) (now old) (now new)
then_cut name len old mid new rests cut = record {
  here = cut.here ∙ ap (λ (f : Option (List ℕ)). Some (resized len (bytes_of f))) (reads_on old mid rests name);
  elsewhere = λ n other. cut.elsewhere n other ∙ reads_on old mid rests n;
}
