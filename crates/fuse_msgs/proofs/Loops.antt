-- A loop that feeds the rest of a piece again gives the messages of the whole stream.
use Rattle.std.proofs.Common.{◌≡◌, ℕ, zero, suc, ◌+◌, ◌≤◌, false, List, [], ◌∷◌, ◌++◌, length, take, drop, Result, Ok, Err, IfOk, IfErr, refl, sym, ap, subst, ◌∙◌, arith, append_assoc, inl, inr}
use Rattle.std.specs.List.{flat_map}
use Rattle.std.proofs.lemmas.Bool.{cases_lt}
use Rattle.std.proofs.lemmas.List.{length-append, length-drop, take-append-drop, take_all, append-nil}
use Rattle.fuse_msgs.specs.declared.feed.Fed.{Fed}
use Rattle.fuse_msgs.specs.declared.feed.Fed.TheVariants as fed
use Rattle.fuse_msgs.specs.declared.fault.BadMessage.{BadMessage}
use Rattle.fuse_msgs.specs.declared.fault.BadMessage.TheVariants as bad
use Rattle.fuse_msgs.specs.Message.{len_of, is_length}
use Rattle.fuse_msgs.specs.Feed.{Beginning, part, whole, broken, beginning_of, is_whole, is_whole_beginning, says_whole, UsesSome, fed_on, feed_answer, answer_at, taken_at, IsWholeMessage, Splits, TakesAll, BeginsRefused}
use Rattle.fuse_msgs.specs.FeedLoop.{joined, After, Feeds, FeedsAll}
use Rattle.fuse_msgs.proofs.Feeding.{beginning_of-short, beginning_of-part, beginning_of-whole, beginning_of-broken}
use Rattle.fuse_msgs.proofs.Run.{bool_cases, fed_message, whole_as_answered, some_used, empty_unfinished, one_splitting, refused_again, refused_held}

abbrev Answer : Type 0
Answer = Result Fed BadMessage

-- ---- what an answer says of the bytes taken

took_all : (f : Beginning) (before more : ℕ) → answer_at before f ≡ Ok fed.More → taken_at before more f ≡ more
took_all part before more e = refl
took_all (whole len) before more e = absurd cc
took_all (broken len) before more e = absurd cc

took_used : (f : Beginning) (before more used : ℕ) → answer_at before f ≡ Ok (fed.Whole used) → taken_at before more f ≡ used
took_used part before more used e = absurd cc
took_used (whole len) before more used e = cc
took_used (broken len) before more used e = absurd cc

broke : (f : Beginning) (before : ℕ) (fault : BadMessage) → answer_at before f ≡ Err fault → (len : ℕ) × (f ≡ broken len) × (fault ≡ bad.Length len)
broke part before fault e = absurd cc
broke (whole len) before fault e = absurd cc
broke (broken len) before fault e = (len, refl, cc)

-- where no message is whole the piece is taken
fed_more : (held piece : List ℕ) → feed_answer held piece ≡ Ok fed.More → fed_on held piece ≡ held ++ piece
fed_more held piece e =
    let all = took_all (beginning_of (held ++ piece)) (length held) (length piece) e in
    ap (λ n. held ++ take n piece) all ∙ ap (λ z. held ++ z) (take_all (length piece) piece (omega arith))

-- where one is, it and the rest of the piece are all
fed_whole : (held piece : List ℕ) (used : ℕ) → feed_answer held piece ≡ Ok (fed.Whole used) → fed_on held piece ++ drop used piece ≡ held ++ piece
fed_whole held piece used e =
    let taken = took_used (beginning_of (held ++ piece)) (length held) (length piece) used e in
    ap (λ n. (held ++ take n piece) ++ drop used piece) taken
    ∙ append_assoc held (take used piece) (drop used piece) ∙ ap (λ z. held ++ z) (take-append-drop used piece)

-- ---- a refused length field

broken_says : (stream : List ℕ) (len : ℕ) → beginning_of stream ≡ broken len → BeginsRefused stream (bad.Length len)
broken_says stream len e =
    elim (cases_lt (length stream) 4) [
      | inl lt ↦ let f = beginning_of-short stream lt in absurd cc
      | inr le ↦ elim (bool_cases (is_length (len_of stream))) [
        | inr b ↦ let f = beginning_of-broken stream le b in record { field = le; refused = b; fault_is = cc }
        | inl g ↦ elim (cases_lt (length stream) (len_of stream)) [
          | inl lt ↦ let f = beginning_of-part stream le g lt in absurd cc
          | inr enough ↦ let f = beginning_of-whole stream le g enough in absurd cc
        ]
      ]
    ]

-- the stream begins with it
refused_stream : (held piece : List ℕ) (fault : BadMessage) → feed_answer held piece ≡ Err fault → BeginsRefused (held ++ piece) fault
refused_stream held piece fault e =
    let b = broke (beginning_of (held ++ piece)) (length held) fault e in
    subst (BeginsRefused (held ++ piece)) (sym b.2) (broken_says (held ++ piece) b.0 b.1)

-- and so does what is held
refused_kept : (held piece : List ℕ) (fault : BadMessage) → feed_answer held piece ≡ Err fault → BeginsRefused (fed_on held piece) fault
refused_kept held piece fault e =
    let b = broke (beginning_of (held ++ piece)) (length held) fault e in
    subst (BeginsRefused (fed_on held piece)) (sym b.2)
    (broken_says (fed_on held piece) b.0 (refused_held held piece b.0 (e ∙ ap (λ (f : BadMessage). Err f) b.2)))

-- what each answer says
pub answer_refuses : (held piece : List ℕ) (answer : Answer) → answer ≡ feed_answer held piece
    → IfErr answer (λ fault. BeginsRefused (held ++ piece) fault × BeginsRefused (fed_on held piece) fault)
answer_refuses held piece (Ok fed) e = tt
answer_refuses held piece (Err fault) e = (refused_stream held piece fault (sym e), refused_kept held piece fault (sym e))

pub answer_keeps_all : (held piece : List ℕ) (answer : Answer) → answer ≡ feed_answer held piece → IfOk answer (TakesAll held piece (fed_on held piece))
answer_keeps_all held piece (Ok fed.More) e = fed_more held piece (sym e)
answer_keeps_all held piece (Ok (fed.Whole used)) e = fed_whole held piece used (sym e)
answer_keeps_all held piece (Err fault) e = tt

-- a stream that goes on behind it has no message either
broken_more : (stream more : List ℕ) (len : ℕ) → beginning_of stream ≡ broken len → is_whole (stream ++ more) ≡ false
broken_more stream more len e =
    let b = broke (beginning_of (stream ++ more)) (length stream) (bad.Length len) (refused_again stream more len e) in
    ap is_whole_beginning b.1

-- ---- the loop

-- behind an answer, where the calls after it are the rest of the stream
answered_split : (calls : ℕ) (held piece : List ℕ) (pieces messages : List (List ℕ)) (rest : List ℕ) (answer : Answer)
    → ((held : List ℕ) (pieces messages : List (List ℕ)) → is_whole held ≡ false → Feeds calls held pieces messages rest → Splits (held ++ joined pieces) messages rest)
    → is_whole held ≡ false
    → feed_answer held piece ≡ answer
    → After answer (Feeds calls (fed_on held piece) pieces messages rest)
    (λ used. (later : List (List ℕ)) × (messages ≡ fed_on held piece ∷ later) × Feeds calls [] (drop used piece ∷ pieces) later rest)
    ((messages ≡ []) × (rest ≡ held ++ joined (piece ∷ pieces)))
    → Splits (held ++ joined (piece ∷ pieces)) messages rest
answered_split calls held piece pieces messages rest (Ok fed.More) go u e f =
    let next = go (fed_on held piece) pieces messages (whole_as_answered held piece u ∙ ap says_whole e) f in
    let stream : held ++ (piece ++ joined pieces) ≡ fed_on held piece ++ joined pieces
    = sym (append_assoc held piece (joined pieces)) ∙ ap (λ z. z ++ joined pieces) (sym (fed_more held piece e)) in
    record { stream_is = stream ∙ next.stream_is; each = next.each; partial = next.partial }
answered_split calls held piece pieces messages rest (Ok (fed.Whole used)) go u e (later, is, f) =
    let next = go [] (drop used piece ∷ pieces) later empty_unfinished f in
    let one : IsWholeMessage (fed_on held piece) = fed_message held piece u (whole_as_answered held piece u ∙ ap says_whole e) in
    let stream : held ++ (piece ++ joined pieces) ≡ fed_on held piece ++ (drop used piece ++ joined pieces)
    = sym (append_assoc held piece (joined pieces)) ∙ ap (λ z. z ++ joined pieces) (sym (fed_whole held piece used e))
    ∙ append_assoc (fed_on held piece) (drop used piece) (joined pieces) in
    rw is record {
      stream_is = stream ∙ ap (λ z. fed_on held piece ++ z) next.stream_is
          ∙ sym (append_assoc (fed_on held piece) (flat_map (λ (m : List ℕ). m) later) rest);
      each = (one, next.each);
      partial = next.partial;
    }
answered_split calls held piece pieces messages rest (Err fault) go u e (nothing, left) =
    let b = broke (beginning_of (held ++ piece)) (length held) fault e in
    let stream : (held ++ piece) ++ joined pieces ≡ held ++ (piece ++ joined pieces) = append_assoc held piece (joined pieces) in
    rw (nothing, left) record { stream_is = refl; each = tt; partial = sym (ap is_whole stream) ∙ broken_more (held ++ piece) (joined pieces) b.0 b.1 }

-- the messages and the rest are the stream
feeds_split : (calls : ℕ) (held : List ℕ) (pieces messages : List (List ℕ)) (rest : List ℕ) → is_whole held ≡ false
    → Feeds calls held pieces messages rest → Splits (held ++ joined pieces) messages rest
feeds_split zero held pieces messages rest u (none, nothing, left) = rw (none, nothing, left) record { stream_is = append-nil held; each = tt; partial = u }
feeds_split (suc calls) held [] messages rest u f = absurd f
feeds_split (suc calls) held (piece ∷ pieces) messages rest u f = answered_split calls held piece pieces messages rest (feed_answer held piece) (λ h ps ms v g. feeds_split calls h ps ms rest v g) u refl f

pub loop_splits : (pieces messages : List (List ℕ)) (rest : List ℕ) → FeedsAll pieces messages rest → Splits (joined pieces) messages rest
loop_splits pieces messages rest (calls, f) = feeds_split calls [] pieces messages rest empty_unfinished f

pub loop_once : (a b : List (List ℕ)) (ms ns : List (List ℕ)) (r s : List ℕ) → joined a ≡ joined b → FeedsAll a ms r → FeedsAll b ns s → (ms ≡ ns) × (r ≡ s)
loop_once a b ms ns r s same f g =
    one_splitting (joined b) ms ns r s (subst (λ stream. Splits stream ms r) same (loop_splits a ms r f)) (loop_splits b ns s g)

abbrev no_messages : List (List ℕ)
no_messages = []

abbrev Ends : List ℕ → List (List ℕ) → Type 0
Ends held pieces = (messages : List (List ℕ)) × (rest : List ℕ) × ((calls : ℕ) × Feeds calls held pieces messages rest)

answered_end : (bound : ℕ) (held piece : List ℕ) (pieces : List (List ℕ)) (answer : Answer)
    → ((held : List ℕ) (pieces : List (List ℕ)) → is_whole held ≡ false → length (joined pieces) + length pieces ≤ bound → Ends held pieces)
    → is_whole held ≡ false → feed_answer held piece ≡ answer
    → length (piece ++ joined pieces) + suc (length pieces) ≤ suc bound → Ends held (piece ∷ pieces)
answered_end bound held piece pieces (Ok fed.More) go u e le =
    let room : length (joined pieces) + length pieces ≤ bound = omega (arith, length-append piece (joined pieces), le) in
    let next = go (fed_on held piece) pieces (whole_as_answered held piece u ∙ ap says_whole e) room in (
      next.0,
      next.1,
      (
        suc next.2.0,
        subst (λ (a : Answer). After a (Feeds next.2.0 (fed_on held piece) pieces next.0 next.1)
            (λ used. (later : List (List ℕ)) × (next.0 ≡ fed_on held piece ∷ later) × Feeds next.2.0 [] (drop used piece ∷ pieces) later next.1)
            ((next.0 ≡ []) × (next.1 ≡ held ++ joined (piece ∷ pieces)))) (sym e) next.2.1,
      ),
    )
answered_end bound held piece pieces (Ok (fed.Whole used)) go u e le =
    let some : UsesSome (Ok (fed.Whole used)) (length piece) = subst (λ (a : Answer). UsesSome a (length piece)) e (some_used held piece u) in
    let one = some.0 in
    let all = some.1 in
    let room : length (drop used piece ++ joined pieces) + suc (length pieces) ≤ bound
    = omega (arith, length-append piece (joined pieces), length-append (drop used piece) (joined pieces), length-drop used piece, le, one, all) in
    let next = go [] (drop used piece ∷ pieces) empty_unfinished room in (
      fed_on held piece ∷ next.0,
      next.1,
      (
        suc next.2.0,
        subst (λ (a : Answer). After a (Feeds next.2.0 (fed_on held piece) pieces (fed_on held piece ∷ next.0) next.1)
            (λ used. (later : List (List ℕ)) × (fed_on held piece ∷ next.0 ≡ fed_on held piece ∷ later) × Feeds next.2.0 [] (drop used piece ∷ pieces) later next.1)
            ((fed_on held piece ∷ next.0 ≡ []) × (next.1 ≡ held ++ joined (piece ∷ pieces)))) (sym e) (next.0, refl, next.2.1),
      ),
    )
answered_end bound held piece pieces (Err fault) go u e le = (
  no_messages,
  held ++ joined (piece ∷ pieces),
  (
    1,
    subst (λ (a : Answer). After a (Feeds 0 (fed_on held piece) pieces no_messages (held ++ joined (piece ∷ pieces)))
        (λ used. (later : List (List ℕ)) × (no_messages ≡ fed_on held piece ∷ later) × Feeds 0 [] (drop used piece ∷ pieces) later (held ++ joined (piece ∷ pieces)))
        ((no_messages ≡ []) × (held ++ joined (piece ∷ pieces) ≡ held ++ joined (piece ∷ pieces)))) (sym e) (refl, refl),
  ),
)

feeds_end : (bound : ℕ) (held : List ℕ) (pieces : List (List ℕ)) → is_whole held ≡ false → length (joined pieces) + length pieces ≤ bound → Ends held pieces
feeds_end bound held [] u le = ([], held, (0, (refl, refl, refl)))
feeds_end zero held (piece ∷ pieces) u le = absurd (omega (arith, le))
feeds_end (suc bound) held (piece ∷ pieces) u le = answered_end bound held piece pieces (feed_answer held piece) (λ h ps v l. feeds_end bound h ps v l) u refl le

pub loop_ends : (pieces : List (List ℕ)) → (messages : List (List ℕ)) × (rest : List ℕ) × FeedsAll pieces messages rest
loop_ends pieces = feeds_end (length (joined pieces) + length pieces) [] pieces empty_unfinished (omega arith)
