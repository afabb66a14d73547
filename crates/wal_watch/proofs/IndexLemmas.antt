-- The index of the frames of each page: how it grows, shrinks, and goes over to other contents.
use Rattle.std.proofs.Common.{◌≡◌, ℕ, zero, suc, ◌+◌, ◌-◌, ◌≤◌, ◌<◌, Option, Some, None, List, [], ◌∷◌, ◌++◌, length, take, get_or, refl, sym, ap, ◌∙◌, inl, inr, add-one, arith, nat_eq}
use Rattle.std.specs.Map.{lookup}
use Rattle.std.specs.HashMap.{get, Updates}
use Rattle.std.proofs.lemmas.Bool.{cases_lt, cases_eq, cond-true, eq-eqb, ne_eqb}
use Rattle.std.proofs.lemmas.List.{get_or_push, get_or_append_left, get_or-take}
use Rattle.std.proofs.lemmas.List.{take-take}
use Rattle.std.specs.Option.{IfSome, IfNone, option_map, unwrap_or}
use Rattle.wal_watch.specs.Frames.{number_in, page_in, frame_place, committed_count, committed_end}
use Rattle.wal_watch.specs.Scanning.{AreFinal}
use Rattle.wal_watch.specs.declared.scan.Marks.{Marks}
use Rattle.wal_watch.proofs.CommitLemmas.{frame_there}
use Rattle.wal_watch.proofs.ScanLemmas.{final-count}
use Rattle.wal_watch.proofs.LawLemmas.{end_is, keeps_count, keeps_frames}
use Rattle.wal_watch.specs.News.{latest_frame, HoldsAt}
use Rattle.wal_watch.specs.Indexing.{indexed, IsIndex, AreShared, AreLeft}
use Rattle.wal_watch.specs.declared.index.FrameIndex.{FrameIndex}
use Rattle.wal_watch.proofs.ChangeLemmas.{latest_here, latest_other, latest_none}

-- the latest frame of a page holds it, and is one of those that were looked at
pub record IsLatest (contents : List ℕ) (page first n k : ℕ) : Type 0 where
  pub from : first ≤ k
  pub among : k < n
  pub number : number_in contents k ≡ page
  pub last : (j : ℕ) → j < n → number_in contents j ≡ page → j ≤ k

pub latest_facts : (contents : List ℕ) (page first n k : ℕ) → latest_frame contents page first n ≡ Some k → IsLatest contents page first n k
latest_facts contents page first zero k is = absurd (let none : None ≡ Some k = sym (latest_none contents page first 0 (omega arith)) ∙ is in cc)
latest_facts contents page first (suc n) k is =
    let step : latest_frame contents page first (suc n) ≡ latest_frame contents page first (n + 1) = ap (λ (m : ℕ). latest_frame contents page first m) (sym (add-one n)) in
    elim (cases_lt n first) [
      | inl past ↦ absurd (let none : None ≡ Some k = sym (latest_none contents page first (suc n) (omega (arith, add-one n))) ∙ is in cc)
      | inr from ↦ elim (cases_eq (number_in contents n) page) [
        | inl here ↦
            let same : Some n ≡ Some k = sym (latest_here contents page first n from here) ∙ sym step ∙ is in
            let at : n ≡ k = cc in
            record { from = omega (arith, from, at); among = omega (arith, at, add-one n); number = rw (← at) here; last = λ j less own. omega (arith, less, at, add-one n) }
        | inr other ↦
            let before = latest_facts contents page first n k (sym (latest_other contents page first n other) ∙ sym step ∙ is) in
            record {
              from = before.from;
              among = omega (arith, before.among, add-one n);
              number = before.number;
              last = λ j less own. elim (cases_eq j n) [
                | inl same ↦ absurd (other (ap (λ (m : ℕ). number_in contents m) (sym same) ∙ own))
                | inr apart ↦ before.last j (omega (arith, less, apart, add-one n)) own
              ];
            }
      ]
    ]

-- where there is none no frame holds the page
pub latest_absent : (contents : List ℕ) (page first n j : ℕ) → latest_frame contents page first n ≡ None → first ≤ j → j < n → number_in contents j ≡ page → ⊥
latest_absent contents page first zero j none from less own = omega arith
latest_absent contents page first (suc n) j none from less own =
    let step : latest_frame contents page first (suc n) ≡ latest_frame contents page first (n + 1) = ap (λ (m : ℕ). latest_frame contents page first m) (sym (add-one n)) in
    elim (cases_eq (number_in contents n) page) [
      | inl here ↦ let some : Some n ≡ None = sym (latest_here contents page first n (omega (arith, from, less, add-one n)) here) ∙ sym step ∙ none in cc
      | inr other ↦ elim (cases_eq j n) [
        | inl same ↦ other (ap (λ (m : ℕ). number_in contents m) (sym same) ∙ own)
        | inr apart ↦ latest_absent contents page first n j (sym (latest_other contents page first n other) ∙ sym step ∙ none) from (omega (arith, less, apart, add-one n)) own
      ]
    ]

-- a frame with a page's number, behind which none has it, is the latest
pub latest_is : (contents : List ℕ) (page first n k : ℕ) → first ≤ k → k < n → number_in contents k ≡ page → ((j : ℕ) → k < j → j < n → number_in contents j ≡ page → ⊥)
    → latest_frame contents page first n ≡ Some k
latest_is contents page first zero k from less own none = absurd (omega arith)
latest_is contents page first (suc n) k from less own none =
    let step : latest_frame contents page first (suc n) ≡ latest_frame contents page first (n + 1) = ap (λ (m : ℕ). latest_frame contents page first m) (sym (add-one n)) in
    elim (cases_eq k n) [
      | inl same ↦ step ∙ rw (← same) (latest_here contents page first k from own)
      | inr apart ↦
          step ∙ latest_other contents page first n (none n (omega (arith, less, apart, add-one n)) (omega (arith, add-one n)))
          ∙ latest_is contents page first n k from (omega (arith, less, apart, add-one n)) own (λ j more under. none j more (omega (arith, under, add-one n)))
    ]

pub latest_is_none : (contents : List ℕ) (page first n : ℕ) → ((j : ℕ) → first ≤ j → j < n → number_in contents j ≡ page → ⊥) → latest_frame contents page first n ≡ None
latest_is_none contents page first zero none = latest_none contents page first 0 (omega arith)
latest_is_none contents page first (suc n) none =
    let step : latest_frame contents page first (suc n) ≡ latest_frame contents page first (n + 1) = ap (λ (m : ℕ). latest_frame contents page first m) (sym (add-one n)) in
    elim (cases_lt n first) [
      | inl past ↦ latest_none contents page first (suc n) (omega (arith, add-one n))
      | inr from ↦
          step ∙ latest_other contents page first n (none n from (omega (arith, add-one n)))
          ∙ latest_is_none contents page first n (λ j over under. none j over (omega (arith, under, add-one n)))
    ]

-- the latest frame splits at a frame number
pub split_some : (contents : List ℕ) (page first n k : ℕ) → latest_frame contents page first n ≡ Some k → latest_frame contents page 0 n ≡ Some k
split_some contents page first n k is =
    let h = latest_facts contents page first n k is in
    latest_is contents page 0 n k (omega arith) h.among h.number (λ j more under own. omega (arith, more, h.last j under own))

pub split_none : (contents : List ℕ) (page first n : ℕ) → first ≤ n → latest_frame contents page first n ≡ None → latest_frame contents page 0 n ≡ latest_frame contents page 0 first
split_none contents page first zero le none = ap (λ (m : ℕ). latest_frame contents page 0 m) (omega arith)
split_none contents page first (suc n) le none =
    let step : latest_frame contents page 0 (suc n) ≡ latest_frame contents page 0 (n + 1) = ap (λ (m : ℕ). latest_frame contents page 0 m) (sym (add-one n)) in
    elim (cases_eq first (suc n)) [
      | inl all ↦ ap (λ (m : ℕ). latest_frame contents page 0 m) (sym all)
      | inr apart ↦
          let from : first ≤ n = omega (arith, apart, le, add-one n) in
          step ∙ latest_other contents page 0 n (λ own. latest_absent contents page first (suc n) n none from (omega (arith, add-one n)) own)
          ∙ split_none contents page first n from (latest_is_none contents page first n (λ j over under own. latest_absent contents page first (suc n) j none over (omega (arith, under, add-one n)) own))
    ]

-- frames of the same pages
pub latest_same : (old new : List ℕ) (page n : ℕ) → ((k : ℕ) → k < n → number_in new k ≡ number_in old k) → latest_frame new page 0 n ≡ latest_frame old page 0 n
latest_same old new page zero same = latest_none new page 0 0 (omega arith) ∙ sym (latest_none old page 0 0 (omega arith))
latest_same old new page (suc n) same =
    let here = same n (omega (arith, add-one n)) in
    let before = latest_same old new page n (λ k less. same k (omega (arith, less, add-one n))) in
    let step : (contents : List ℕ) → latest_frame contents page 0 (suc n) ≡ latest_frame contents page 0 (n + 1) = λ contents. ap (λ (m : ℕ). latest_frame contents page 0 m) (sym (add-one n)) in
    elim (cases_eq (number_in old n) page) [
      | inl own ↦ step new ∙ latest_here new page 0 n (omega arith) (here ∙ own) ∙ sym (latest_here old page 0 n (omega arith) own) ∙ sym (step old)
      | inr other ↦
          step new ∙ latest_other new page 0 n (λ own. other (sym here ∙ own)) ∙ before ∙ sym (latest_other old page 0 n other) ∙ sym (step old)
    ]

-- an index without frames is that of any contents
pub index-none : (contents : List ℕ) (index : FrameIndex) → indexed index ≡ 0 → index.latest.entries ≡ [] → IsIndex contents index
index-none contents index none empty = record {
  of_page = λ page. ap (λ (es : List (ℕ × ℕ)). lookup (nat_eq page) es) empty ∙ sym (latest_none contents page 0 (indexed index) (omega (arith, none)));
  of_frame = λ k d less. absurd (omega (arith, less, none));
}

-- the index of one contents is that of another with the same frames
pub index-stays : (old new : List ℕ) (index : FrameIndex) → IsIndex old index → ((k : ℕ) → k < indexed index → number_in new k ≡ number_in old k) → IsIndex new index
index-stays old new index h same = record {
  of_page = λ page. h.of_page page ∙ sym (latest_same old new page (indexed index) same);
  of_frame = λ k d less.
      h.of_frame k d less ∙ sym (latest_same old new (number_in old k) k (λ j under. same j (omega (arith, under, less))))
      ∙ ap (λ (page : ℕ). latest_frame new page 0 k) (sym (same k less));
}

-- the same index in another order, with more room
pub index-reserved : (contents : List ℕ) (old new : FrameIndex) → IsIndex contents old → ((q : ℕ) → get nat_eq new.latest q ≡ get nat_eq old.latest q) → new.earlier.items ≡ old.earlier.items
    → indexed new ≡ indexed old → IsIndex contents new
index-reserved contents old new h same items len = record {
  of_page = λ page. same page ∙ h.of_page page ∙ ap (λ (n : ℕ). latest_frame contents page 0 n) (sym len);
  of_frame = λ k d less. ap (λ (es : List (Option ℕ)). get_or es k d) items ∙ h.of_frame k d (omega (arith, less, len));
}

-- one more frame
pub index-more : (contents : List ℕ) (old new : FrameIndex) (page : ℕ) → IsIndex contents old → page ≡ number_in contents (indexed old) → length old.earlier.items ≡ indexed old
    → Updates nat_eq old.latest new.latest page (Some (indexed old)) → new.earlier.items ≡ old.earlier.items ++ get nat_eq old.latest page ∷ [] → indexed new ≡ indexed old + 1
    → IsIndex contents new
index-more contents old new page h is whole put items len =
    let n = indexed old in
    record {
      of_page = λ q. elim (cases_eq page q) [
        | inl same ↦ rw (← same) (put.1 ∙ sym (latest_here contents page 0 (indexed old) (omega arith) (sym is)) ∙ ap (λ (m : ℕ). latest_frame contents page 0 m) (sym len))
        | inr apart ↦
            put.2 q (ne_eqb page q apart) ∙ h.of_page q ∙ sym (latest_other contents q 0 (indexed old) (λ own. apart (is ∙ own)))
            ∙ ap (λ (m : ℕ). latest_frame contents q 0 m) (sym len)
      ];
      of_frame = λ k d less. ap (λ (es : List (Option ℕ)). get_or es k d) items ∙ elim (cases_eq k (indexed old)) [
        | inl last ↦
            get_or_push old.earlier.items (get nat_eq old.latest page) d k (whole ∙ sym last) ∙ h.of_page page
            ∙ ap (λ (p : ℕ). latest_frame contents p 0 (indexed old)) is ∙ ap (λ (m : ℕ). latest_frame contents (number_in contents m) 0 m) (sym last)
        | inr apart ↦
            get_or_append_left old.earlier.items (get nat_eq old.latest page ∷ []) d k (omega (arith, whole, apart, less, len))
            ∙ h.of_frame k d (omega (arith, apart, less, len))
      ];
    }

-- one frame less
pub index-less : (contents : List ℕ) (old new : FrameIndex) (page : ℕ) (earlier : Option ℕ) → IsIndex contents old → page ≡ number_in contents (indexed new) → indexed new + 1 ≡ indexed old
    → Some earlier ≡ Some (get_or old.earlier.items (indexed old - 1) None) → new.earlier.items ≡ take (indexed old - 1) old.earlier.items
    → Updates nat_eq old.latest new.latest page earlier → IsIndex contents new
index-less contents old new page earlier h is len last items put =
    let one_less : indexed old - 1 ≡ indexed new = omega (arith, len) in
    let popped : earlier ≡ get_or old.earlier.items (indexed old - 1) None = cc in
    let was : earlier ≡ get_or old.earlier.items (indexed new) None = popped ∙ ap (λ (m : ℕ). get_or old.earlier.items m None) one_less in
    let back : earlier ≡ latest_frame contents page 0 (indexed new) =
    was ∙ h.of_frame (indexed new) None (omega (arith, len)) ∙ ap (λ (p : ℕ). latest_frame contents p 0 (indexed new)) (sym is) in
    record {
      of_page = λ q. elim (cases_eq page q) [
        | inl same ↦ rw (← same) (put.1 ∙ back)
        | inr apart ↦
            put.2 q (ne_eqb page q apart) ∙ h.of_page q ∙ ap (λ (m : ℕ). latest_frame contents q 0 m) (sym len)
            ∙ latest_other contents q 0 (indexed new) (λ own. apart (is ∙ own))
      ];
      of_frame = λ k d less.
          ap (λ (es : List (Option ℕ)). get_or es k d) items ∙ get_or-take (indexed old - 1) old.earlier.items k d (omega (arith, less, one_less)) ∙ h.of_frame k d (omega (arith, less, len));
    }

-- the frames that are left once the latest of them was looked at
pub left-start : (contents : List ℕ) (count number : ℕ) (page : List ℕ) (next : Option ℕ) → next ≡ latest_frame contents number 0 count → AreLeft contents count number page next
left-start contents count number page next is = record { below = count; among = omega arith; next_is = is; rest = λ k at. at.among }

-- that frame holds the page
pub record IsHeld (contents : List ℕ) (count number frame : ℕ) : Type 0 where
  pub among : frame < count
  pub number_is : number_in contents frame ≡ number

pub left-held : (contents : List ℕ) (count number : ℕ) (page : List ℕ) (now : Option ℕ) (frame : ℕ) → AreLeft contents count number page now → now ≡ Some frame → IsHeld contents count number frame
left-held contents count number page now frame h is =
    let facts = latest_facts contents number 0 h.below frame (sym h.next_is ∙ is) in
    record { among = omega (arith, facts.among, h.among); number_is = facts.number }

pub left-next : (contents : List ℕ) (count number : ℕ) (page : List ℕ) (now : Option ℕ) (frame : ℕ) (next : Option ℕ) → AreLeft contents count number page now → now ≡ Some frame
    → (page_in contents frame ≡ page → ⊥) → next ≡ latest_frame contents number 0 frame → AreLeft contents count number page next
left-next contents count number page now frame next h is other next-is =
    let facts = latest_facts contents number 0 h.below frame (sym h.next_is ∙ is) in
    record {
      below = frame;
      among = omega (arith, facts.among, h.among);
      next_is = next-is;
      rest = λ k at. elim (cases_eq k frame) [
        | inl same ↦ absurd (other (ap (λ (m : ℕ). page_in contents m) (sym same) ∙ at.same))
        | inr apart ↦ let low = facts.last k (h.rest k at) at.number in omega (arith, low, apart)
      ];
    }

pub left-smaller : (contents : List ℕ) (number frame : ℕ) (now next : Option ℕ) → now ≡ Some frame → next ≡ latest_frame contents number 0 frame
    → unwrap_or (option_map (λ k. k + 1) next) 0 < unwrap_or (option_map (λ k. k + 1) now) 0
left-smaller contents number frame now None is next = rw is (omega arith)
left-smaller contents number frame now (Some j) is next = let low = (latest_facts contents number 0 frame j (sym next)).among in rw is (omega (arith, low))

pub left-none : (contents : List ℕ) (count number : ℕ) (page : List ℕ) (now : Option ℕ) (k : ℕ) → AreLeft contents count number page now → ((frame : ℕ) → now ≡ Some frame → ⊥)
    → HoldsAt contents count number page k → ⊥
left-none contents count number page None k h end at = latest_absent contents number 0 h.below k (sym h.next_is) (omega arith) (h.rest k at) at.number
left-none contents count number page (Some frame) k h end at = end frame refl

-- the last frame's page is in the index
pub index-last : (contents : List ℕ) (index : FrameIndex) (page n : ℕ) → IsIndex contents index → page ≡ number_in contents n → n + 1 ≡ indexed index → get nat_eq index.latest page ≡ Some n
index-last contents index page n h is len =
    h.of_page page ∙ ap (λ (m : ℕ). latest_frame contents page 0 m) (sym len) ∙ latest_here contents page 0 n (omega arith) (sym is)

-- a committed frame that is the latest is there
pub latest_there : (contents : List ℕ) (page n : ℕ) (frame : Option ℕ) → n ≤ committed_count contents → frame ≡ latest_frame contents page 0 n
    → IfSome frame (λ k. frame_place contents (k + 1) ≤ length contents)
latest_there contents page n None le latest = tt
latest_there contents page n (Some k) le latest =
    frame_there contents (committed_count contents) k refl (omega (arith, le, (latest_facts contents page 0 n k (sym latest)).among))

-- committed frames are shared with the contents of a log that begins with them
pub shared-front : (old new : List ℕ) (n : ℕ) → take (committed_end old) new ≡ take (committed_end old) old → n ≤ committed_count old → AreShared old new n
shared-front old new n front le = record {
  among = le;
  there = omega (arith, le, keeps_count old new front);
  same = λ k less. (keeps_frames old new front k (omega (arith, less, le))).number;
}

-- frames up to marks behind the committed ones are shared with the contents of a log that agrees up to there
pub shared-marks : (old new : List ℕ) (marks : Marks) (p : ℕ) → AreFinal old marks → marks.committed.place ≤ p → take p new ≡ take p old
    → AreShared old new marks.committed.frames
shared-marks old new marks p final le same =
    let count-is = final-count old marks final in
    let low : committed_end old ≤ p = elim (cases_eq (committed_count old) 0) [
      | inl none ↦ let end : committed_end old ≡ 0 = cond-true _ _ _ (eq-eqb _ _ none) in omega (arith, end)
      | inr some ↦ omega (arith, end_is old (omega (arith, some)), final.behind.committed.place, count-is, le, ap (λ (m : ℕ). frame_place old m) count-is)
    ] in
    let front : take (committed_end old) new ≡ take (committed_end old) old =
    sym (take-take (committed_end old) p new low) ∙ ap (λ (t : List ℕ). take (committed_end old) t) same ∙ take-take (committed_end old) p old low in
    shared-front old new marks.committed.frames front (omega (arith, count-is))

-- no frame is shared with any contents
pub shared-none : (old new : List ℕ) → AreShared old new 0
shared-none old new = record { among = omega arith; there = omega arith; same = λ k less. absurd (omega (arith, less)) }

-- the frames that the marks which a write kept are behind
pub shared-from : (old new : List ℕ) (from : Option Marks) (n : ℕ) → IfSome from (λ m. AreShared old new m.committed.frames) → IfNone from (n ≡ 0)
    → IfSome from (λ m. n ≡ m.committed.frames) → AreShared old new n
shared-from old new None n shared none some = rw none (shared-none old new)
shared-from old new (Some m) n shared none some = rw some shared
