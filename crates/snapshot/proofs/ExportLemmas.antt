-- Pages that are appended one after another, while the disk rests.
use Rattle.std.proofs.Common.{◌≡◌, ℕ, ◌+◌, ◌<◌, ◌≤◌, List, [], ◌∷◌, ◌++◌, Some, length, length-append, get_or, take, drop, refl, sym, ◌∙◌, ap, arith, add-one, append_assoc, append-nil}
use Rattle.std.proofs.Math.Seq.{take-add, drop-cons, take-append_seam, take-length}
use Rattle.std.proofs.lemmas.List.{take-append-drop, take_all}
use Rattle.std.proofs.lemmas.List.Folds.{concat-append}
use Rattle.std.proofs.lemmas.Option.{slice_get_within, get_or_from_slice_get}
use Rattle.std.specs.Io.{StartsWith}
use Rattle.std.specs.List.{concat, slice_get}
use Rattle.lf_disk.specs.History.{History, Rests}
use Rattle.lf_sqlite_pages.specs.Image.{DatabaseImage, image_bytes}

-- two reads in a row
pub rests_twice : (a b c : History) → Rests a b → Rests b c → Rests a c
rests_twice a b c ab bc = record {
  moment = bc.moment ∙ ab.moment;
  past = record {
    seen = λ t n early. bc.past.seen t n (omega (arith, early, ab.moment)) ∙ ab.past.seen t n early;
    no_more = λ t f early may. ab.past.no_more t f early (bc.past.no_more t f (omega (arith, early, ab.moment)) may);
    no_fewer = λ t f early may. bc.past.no_fewer t f (omega (arith, early, ab.moment)) (ab.past.no_fewer t f early may);
  };
}

pub rests_still : (h : History) → Rests h h
rests_still h = record { moment = refl; past = record { seen = λ t n early. refl; no_more = λ t f early may. may; no_fewer = λ t f early may. may } }

-- the tail of a buffer that was written
pub tail_written : (len : ℕ) (old front page rest : List ℕ) → front ≡ old → length front + length page ≡ len → take len (front ++ page ++ rest) ≡ old ++ page
tail_written len old front page rest is long =
    let count : length (front ++ page) ≡ len = length-append front page ∙ long in
    ap (λ (k : ℕ). take k ((front ++ page) ++ rest)) (sym count)
    ∙ take-append_seam (front ++ page) rest
    ∙ ap (λ (l : List ℕ). l ++ page) is

-- what begins with something goes on to
pub starts_more : (old so_far new : List ℕ) → StartsWith so_far old → StartsWith new so_far → StartsWith new old
starts_more old so_far new one two =
    let within : (a b : List ℕ) → take (length a) b ≡ a → b ≡ a ++ drop (length a) b = λ a b is. sym (take-append-drop (length a) b) ∙ ap (λ (l : List ℕ). l ++ drop (length a) b) is in
    let split : new ≡ old ++ (drop (length old) so_far ++ drop (length so_far) new) =
    within so_far new two ∙ ap (λ (l : List ℕ). l ++ drop (length so_far) new) (within old so_far one) ∙ append_assoc old (drop (length old) so_far) (drop (length so_far) new) in
    ap (λ (l : List ℕ). take (length old) l) split ∙ take-append_seam old (drop (length old) so_far ++ drop (length so_far) new)

-- the pages from one on: that page, and those after it
drop-page : (pages : List (List ℕ)) (k : ℕ) (page : List ℕ) → slice_get pages k ≡ Some page → drop k pages ≡ page ∷ drop (k + 1) pages
drop-page pages k page found =
    let within : k < length pages = slice_get_within pages k page found in
    let here : get_or pages k page ≡ page = get_or_from_slice_get pages k page page found in
    rw (add-one, drop-cons pages k page within, here) refl

-- the bytes of the pages up to one and with it
pub concat-take : (pages : List (List ℕ)) (k : ℕ) (page : List ℕ) → slice_get pages k ≡ Some page →
    concat (take (k + 1) pages) ≡ concat (take k pages) ++ page
concat-take pages k page found =
    let next : take 1 (drop k pages) ≡ page ∷ [] = ap (take 1) (drop-page pages k page found) in
    ap concat (take-add k 1 pages ∙ ap (λ ps. take k pages ++ ps) next)
    ∙ concat-append (take k pages) (page ∷ [])
    ∙ ap (λ l. concat (take k pages) ++ l) (append-nil page)

-- all of its pages
pub pages_all : (image : DatabaseImage) (k : ℕ) → k ≡ length image.pages → concat (take k image.pages) ≡ image_bytes image
pages_all image k all = ap concat (ap (λ (n : ℕ). take n image.pages) all ∙ take-length image.pages)

-- the front of a buffer that was lengthened
pub front_kept : (start n : ℕ) (old more slice front : List ℕ) → start ≡ length old → start ≤ n → slice ≡ take n old ++ more → front ≡ take start slice → front ≡ old
front_kept start n old more slice front is low slice_is front_is =
    let whole : take n old ≡ old = take_all n old (omega (arith, is, low)) in
    front_is ∙ ap (take start) (slice_is ∙ ap (λ (l : List ℕ). l ++ more) whole) ∙ ap (λ (k : ℕ). take k (old ++ more)) is ∙ take-append_seam old more
