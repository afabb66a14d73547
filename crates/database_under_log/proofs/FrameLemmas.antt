-- The latest frame of a page in a log that goes on.
use Rattle.std.proofs.Common.{◌≡◌, ◌≢◌, ℕ, ◌<◌, ◌≤◌, suc, zero, List, Option, Some, None, refl, ap, ◌∙◌, arith, inl, inr}
use Rattle.std.specs.Option.{option_map}
use Rattle.std.specs.Str.{bytes_eq}
use Rattle.std.proofs.lemmas.Bool.{cases_Bool}
use Rattle.std.proofs.lemmas.Slice.Eq.{bytes_eq-Decides}
use Rattle.wal_watch.specs.Frames.{page_in, number_in, committed_count}
use Rattle.wal_watch.specs.News.{latest_frame, latest_page, HasSameFrames}
use Rattle.wal_watch.proofs.ChangeLemmas.{latest_among}
use Rattle.wal_watch.proofs.IndexLemmas.{split_none, split_some}

-- the same frames hold the same pages
latest_same : (old new : List ℕ) (page n : ℕ) → ((k : ℕ) → k < n → number_in new k ≡ number_in old k) → latest_frame new page 0 n ≡ latest_frame old page 0 n
unfolding latest_frame
latest_same old new page zero same = refl
latest_same old new page (suc n) same =
    rw (same n (omega arith), latest_same old new page n (λ k less. same k (omega (arith, less)))) refl

page_same : (old new : List ℕ) (frame : Option ℕ) (n : ℕ) → ((k : ℕ) → frame ≡ Some k → k < n) → ((k : ℕ) → k < n → page_in new k ≡ page_in old k) →
    option_map (page_in new) frame ≡ option_map (page_in old) frame
page_same old new None n among same = refl
page_same old new (Some k) n among same = ap Some (same k (among k refl))

-- a page that no new frame holds is as under the old contents
pub latest_kept : (old new : List ℕ) (page : ℕ) → committed_count old ≤ committed_count new → HasSameFrames old new →
    latest_frame new page (committed_count old) (committed_count new) ≡ None → latest_page new page ≡ latest_page old page
latest_kept old new page grows frames none =
    let count : ℕ = committed_count old in
    let frame : latest_frame new page 0 (committed_count new) ≡ latest_frame old page 0 count =
    split_none new page count (committed_count new) grows none
    ∙ latest_same old new page count (λ k less. (frames k less).number) in
    ap (λ (f : Option ℕ). option_map (page_in new) f) frame
    ∙ page_same old new (latest_frame old page 0 count) count (λ k is. latest_among old page 0 count k is) (λ k less. (frames k less).page)

-- the page of the latest new frame is the latest of all
pub latest_new : (contents : List ℕ) (page first : ℕ) (bytes : List ℕ) → option_map (page_in contents) (latest_frame contents page first (committed_count contents)) ≡ Some bytes →
    latest_page contents page ≡ Some bytes
latest_new contents page first bytes is = looked (latest_frame contents page first (committed_count contents)) refl is where
  looked : (o : Option ℕ) → latest_frame contents page first (committed_count contents) ≡ o → option_map (page_in contents) o ≡ Some bytes → latest_page contents page ≡ Some bytes
  looked None e own = absurd cc
  looked (Some k) e own = ap (λ (f : Option ℕ). option_map (page_in contents) f) (split_some contents page first (committed_count contents) k e) ∙ own

pub no_frame : (contents : List ℕ) (o : Option ℕ) → option_map (page_in contents) o ≡ None → o ≡ None
no_frame contents None h = refl
no_frame contents (Some k) h = absurd cc

-- bytes that don't differ are the same
pub kept_bytes : (xs ys : List ℕ) → (xs ≢ ys → ⊥) → xs ≡ ys
kept_bytes xs ys h = elim (cases_Bool (bytes_eq xs ys)) [
  | inl equal ↦ (bytes_eq-Decides xs ys).0 equal
  | inr differ ↦ absurd (h (λ equal. let on = (bytes_eq-Decides xs ys).1 equal in cc (on, differ)))
]
