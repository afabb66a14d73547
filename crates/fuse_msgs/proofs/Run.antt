-- Whatever the pieces of a stream, its messages come whole and in order.
use Rattle.std.proofs.Common.{◌≡◌, ℕ, ◌-◌, ◌<◌, ◌≤◌, ◌⊎◌, Bool, true, false, List, [], ◌∷◌, ◌++◌, length, take, drop, Result, Ok, Err, refl, sym, ap, ◌∙◌, arith, append_assoc, inl, inr}
use Rattle.std.specs.List.{flat_map, AllByRecursion}
use Rattle.std.proofs.lemmas.Bool.{cases_lt}
use Rattle.std.proofs.lemmas.List.{length-append, take_at, take_all, append-nil, append_cancel_left}
use Rattle.std.proofs.lemmas.List.Concat.{flat_map-cons}
use Rattle.std.proofs.lemmas.Grind.{flat_map-append}
use Rattle.fuse_msgs.specs.declared.feed.Fed.{Fed}
use Rattle.fuse_msgs.specs.declared.feed.Fed.TheVariants as fed
use Rattle.fuse_msgs.specs.declared.fault.BadMessage.{BadMessage}
use Rattle.fuse_msgs.specs.declared.fault.BadMessage.TheVariants as bad
use Rattle.fuse_msgs.specs.Message.{len_of, is_length}
use Rattle.fuse_msgs.specs.Feed.{part, whole, broken, beginning_of, is_whole, is_whole_beginning, says_whole, UsesSome, unfinished, finished, fed_on, feed_answer, answer_at, taken_of, bytes_taken, messages_of, left_of, IsWholeMessage, Splits}
use Rattle.fuse_msgs.proofs.Feeding.{len_of-append, beginning_of-short, beginning_of-part, beginning_of-whole, beginning_of-broken, prefix_then_rest, length-prefix, length_is_40, unfinished_below}

pub clash : {A : Type 0} → true ≡ false → A
clash e = absurd cc

-- ---- what a prefix says of the stream

same_whole : (m n : ℕ) → whole m ≡ whole n → m ≡ n
same_whole m n e = cc

same_broken : (m n : ℕ) → broken m ≡ broken n → m ≡ n
same_broken m n e = cc

-- which way each test of a stream went
pub data Case (stream : List ℕ) : Type 0 where
  short : length stream < 4 → beginning_of stream ≡ part → Case stream
  bad_len : 4 ≤ length stream → is_length (len_of stream) ≡ false → beginning_of stream ≡ broken (len_of stream) → Case stream
  complete : 4 ≤ length stream → is_length (len_of stream) ≡ true → len_of stream ≤ length stream
      → beginning_of stream ≡ whole (len_of stream) → Case stream
  partial : 4 ≤ length stream → is_length (len_of stream) ≡ true → length stream < len_of stream
      → beginning_of stream ≡ part → Case stream

pub bool_cases : (b : Bool) → (b ≡ true) ⊎ (b ≡ false)
bool_cases true = inl refl
bool_cases false = inr refl

case_of : (stream : List ℕ) → Case stream
case_of stream =
    elim (cases_lt (length stream) 4) [
      | inl lt ↦ short lt (beginning_of-short stream lt)
      | inr le ↦ elim (bool_cases (is_length (len_of stream))) [
        | inr b ↦ bad_len le b (beginning_of-broken stream le b)
        | inl g ↦ elim (cases_lt (length stream) (len_of stream)) [
          | inl lt ↦ partial le g lt (beginning_of-part stream le g lt)
          | inr enough ↦ complete le g enough (beginning_of-whole stream le g enough)
        ]
      ]
    ]

-- ---- a whole message

-- what is held is a prefix of what it is with a piece
taken_is : (held piece : List ℕ) (len : ℕ) → 4 ≤ len → len ≤ length (held ++ piece) → length held ≤ len
    → length (held ++ take (len - length held) piece) ≡ len
taken_is held piece len four enough below =
    let within : len - length held ≤ length piece = omega (arith, length-append held piece) in
    omega (arith, length-prefix held piece (len - length held) within)

-- the length field of a prefix
prefix_len : (held piece : List ℕ) (n : ℕ) → 4 ≤ length (held ++ take n piece)
    → len_of (held ++ take n piece) ≡ len_of (held ++ piece)
prefix_len held piece n four = sym (ap len_of (prefix_then_rest held piece n)
    ∙ len_of-append (held ++ take n piece) (drop n piece) four)

-- what is held ends before the message that the stream begins with
held_before : (held piece : List ℕ) → is_whole held ≡ false → is_length (len_of (held ++ piece)) ≡ true
    → length held < len_of (held ++ piece)
held_before held piece u g =
    elim (cases_lt (length held) 4) [
      | inl lt ↦ omega (arith, length_is_40 (len_of (held ++ piece)) g)
      | inr le ↦ let same = len_of-append held piece le in omega
          (arith, same, unfinished_below held le (sym (ap is_length same) ∙ g) u)
    ]

-- where a stream begins with a message, feeding ends with it
whole_fed : (held piece : List ℕ) → is_whole held ≡ false → 4 ≤ length (held ++ piece)
    → is_length (len_of (held ++ piece)) ≡ true → len_of (held ++ piece) ≤ length (held ++ piece)
    → IsWholeMessage (held ++ take (len_of (held ++ piece) - length held) piece)
whole_fed held piece u four g enough =
    let low : 4 ≤ len_of (held ++ piece) = omega (arith, length_is_40 (len_of (held ++ piece)) g) in
    let size : length (held ++ take (len_of (held ++ piece) - length held) piece) ≡ len_of (held ++ piece)
    = taken_is held piece (len_of (held ++ piece)) low enough
    (omega (arith, held_before held piece u g)) in
    let same : len_of (held ++ take (len_of (held ++ piece) - length held) piece) ≡ len_of (held ++ piece)
    = prefix_len held piece (len_of (held ++ piece) - length held) (omega (arith, size)) in
    beginning_of-whole (held ++ take (len_of (held ++ piece) - length held) piece) (omega (arith, size))
    (ap is_length same ∙ g) (omega (arith, size, same)) ∙ ap whole (same ∙ sym size)

-- where a stream begins with no length field of a message, feeding holds that field
broken_fed : (held piece : List ℕ) → 4 ≤ length (held ++ piece) → is_length (len_of (held ++ piece)) ≡ false
    → beginning_of (held ++ take (4 - length held) piece) ≡ broken (len_of (held ++ piece))
broken_fed held piece four b =
    let within : 4 - length held ≤ length piece = omega (arith, length-append held piece) in
    let size : 4 ≤ length (held ++ take (4 - length held) piece)
    = omega (arith, length-prefix held piece (4 - length held) within) in
    let same = prefix_len held piece (4 - length held) size in
    beginning_of-broken (held ++ take (4 - length held) piece) size (ap is_length same ∙ b) ∙ ap broken same

-- what feeding makes whole is one message
pub fed_message : (held piece : List ℕ) → is_whole held ≡ false → is_whole (fed_on held piece) ≡ true
    → IsWholeMessage (fed_on held piece)
fed_message held piece u w =
    elim (case_of (held ++ piece)) [
      | short lt f ↦ clash (sym w ∙ rw f (rw (take_all (length piece) piece (omega arith)) (ap is_whole_beginning f)))
      | partial four g lt f ↦ clash (sym w ∙ rw f
          (rw (take_all (length piece) piece (omega arith)) (ap is_whole_beginning f)))
      | bad_len four b f ↦ clash (sym w ∙ rw f (ap is_whole_beginning (broken_fed held piece four b)))
      | complete four g enough f ↦ rw f (whole_fed held piece u four g enough)
    ]

-- whether a message is whole then is what the answer says
pub whole_as_answered : (held piece : List ℕ) → is_whole held ≡ false
    → is_whole (fed_on held piece) ≡ says_whole (feed_answer held piece)
whole_as_answered held piece u =
    elim (case_of (held ++ piece)) [
      | short lt f ↦ rw f (rw (take_all (length piece) piece (omega arith)) (ap is_whole_beginning f))
      | partial four g lt f ↦ rw f (rw (take_all (length piece) piece (omega arith)) (ap is_whole_beginning f))
      | bad_len four b f ↦ rw f (ap is_whole_beginning (broken_fed held piece four b))
      | complete four g enough f ↦ rw f (ap is_whole_beginning (whole_fed held piece u four g enough))
    ]

-- a message that becomes whole uses some of the piece
pub some_used : (held piece : List ℕ) → is_whole held ≡ false → UsesSome (feed_answer held piece) (length piece)
some_used held piece u =
    elim (case_of (held ++ piece)) [
      | short lt f ↦ rw f tt
      | partial four g lt f ↦ rw f tt
      | bad_len four b f ↦ rw f tt
      | complete four g enough f ↦ rw f (
        omega (arith, held_before held piece u g),
        omega
            (arith, length-append held piece, enough),
      )
    ]

-- ---- the run

pub empty_unfinished : is_whole [] ≡ false
empty_unfinished = ap is_whole_beginning (beginning_of-short [] (omega arith))

pub unfinished_partial : (stream : List ℕ) → is_whole (unfinished stream) ≡ false
unfinished_partial stream =
    elim (bool_cases (is_whole stream)) [
      | inl w ↦ rw w empty_unfinished
      | inr u ↦ rw u u
    ]

apart : (stream : List ℕ) → stream ≡ flat_map (λ (m : List ℕ). m) (finished stream) ++ unfinished stream
apart stream =
    elim (bool_cases (is_whole stream)) [
      | inl w ↦ rw w (sym (append-nil (stream ++ []) ∙ append-nil stream))
      | inr u ↦ rw u refl
    ]

finished_each : (held piece : List ℕ) → is_whole held ≡ false
    → AllByRecursion IsWholeMessage (finished (fed_on held piece))
finished_each held piece u =
    elim (bool_cases (is_whole (fed_on held piece))) [
      | inl w ↦ rw w (fed_message held piece u w, tt)
      | inr v ↦ rw v tt
    ]

each_append : (a b : List (List ℕ)) → AllByRecursion IsWholeMessage a → AllByRecursion IsWholeMessage b
    → AllByRecursion IsWholeMessage (a ++ b)
each_append [] b p q = q
each_append (x ∷ a) b p q = (p.0, each_append a b p.1 q)

-- one more piece
step : (now stream : List ℕ) (messages : List (List ℕ)) (rest : List ℕ)
    → unfinished now ++ stream ≡ flat_map (λ (m : List ℕ). m) messages ++ rest
    → now ++ stream ≡ flat_map (λ (m : List ℕ). m) (finished now ++ messages) ++ rest
step now stream messages rest e =
    ap (λ (x : List ℕ). x ++ stream) (apart now)
    ∙ append_assoc (flat_map (λ (m : List ℕ). m) (finished now)) (unfinished now) stream
    ∙ ap (λ (x : List ℕ). flat_map (λ (m : List ℕ). m) (finished now) ++ x) e
    ∙ sym (append_assoc (flat_map (λ (m : List ℕ). m) (finished now)) (flat_map (λ (m : List ℕ). m) messages) rest)
    ∙ ap (λ (x : List ℕ). x ++ rest) (sym (flat_map-append (λ (m : List ℕ). m) (finished now) messages))

-- what is held and the bytes taken are the messages given and what is left
run_splits : (held : List ℕ) (pieces : List (List ℕ)) → is_whole held ≡ false
    → Splits (held ++ bytes_taken held pieces) (messages_of held pieces) (left_of held pieces)
run_splits held [] u = record { stream_is = append-nil held; each = tt; partial = u }
run_splits held (piece ∷ pieces) u =
    let next = run_splits (unfinished (fed_on held piece)) pieces (unfinished_partial (fed_on held piece)) in
    let joined : held ++ (taken_of held piece ++ bytes_taken (unfinished (fed_on held piece)) pieces)
    ≡ fed_on held piece ++ bytes_taken (unfinished (fed_on held piece)) pieces
    = sym (append_assoc held (taken_of held piece) (bytes_taken (unfinished (fed_on held piece)) pieces)) in
    record {
      stream_is = joined ∙ step (fed_on held piece) (bytes_taken (unfinished (fed_on held piece)) pieces)
          (messages_of (unfinished (fed_on held piece)) pieces)
          (left_of (unfinished (fed_on held piece)) pieces) next.stream_is;
      each = each_append (finished (fed_on held piece))
          (messages_of (unfinished (fed_on held piece)) pieces) (finished_each held piece u) next.each;
      partial = next.partial;
    }

-- ---- one splitting

part_whole : (n : ℕ) → part ≡ whole n → ⊥
part_whole n e = cc

part_broken : (n : ℕ) → part ≡ broken n → ⊥
part_broken n e = cc

broken_whole : (m n : ℕ) → broken m ≡ whole n → ⊥
broken_whole m n e = cc

whole_broken : (m n : ℕ) → whole m ≡ broken n → ⊥
whole_broken m n e = cc

abbrev said : Result Fed BadMessage → Result Fed BadMessage
said r = r

more_err : (len : ℕ) → said (Ok fed.More) ≡ Err (bad.Length len) → ⊥
more_err len e = cc

whole_err : (used len : ℕ) → said (Ok (fed.Whole used)) ≡ Err (bad.Length len) → ⊥
whole_err used len e = cc

length_err : (a b : ℕ) → said (Err (bad.Length a)) ≡ Err (bad.Length b) → a ≡ b
length_err a b e = cc

begun : (m rest : List ℕ) → len_of m ≡ length m → 4 ≤ length m → is_length (len_of m) ≡ true
    → beginning_of (m ++ rest) ≡ whole (length m)
begun m rest e four g =
    let same = len_of-append m rest four in
    beginning_of-whole (m ++ rest) (omega (arith, length-append m rest)) (ap is_length same ∙ g)
    (omega (arith, length-append m rest, same)) ∙ ap whole (same ∙ e)

cons_flat : (m : List ℕ) (ms : List (List ℕ)) (r : List ℕ) → flat_map (λ (x : List ℕ). x) (m ∷ ms) ++ r ≡ m
    ++ (flat_map (λ (x : List ℕ). x) ms ++ r)
cons_flat m ms r = ap (λ (x : List ℕ). x ++ r) (flat_map-cons (λ (x : List ℕ). x) m ms)
    ∙ append_assoc m (flat_map (λ (x : List ℕ). x) ms) r

refused_on : (held piece : List ℕ) (len : ℕ) → 4 ≤ length held → is_length (len_of held) ≡ false
    → len_of held ≡ len → feed_answer held piece ≡ Err (bad.Length len)
refused_on held piece len four b e =
    let same = len_of-append held piece four in
    ap (answer_at (length held)) (beginning_of-broken (held ++ piece) (omega (arith, length-append held piece))
    (ap is_length same ∙ b) ∙ ap broken (same ∙ e))

-- a stream that a whole message begins has its length field
begins : (m rest : List ℕ) → IsWholeMessage m → beginning_of (m ++ rest) ≡ whole (length m)
begins m rest h =
    elim (case_of m) [
      | short lt f ↦ absurd (part_whole (length m) (sym f ∙ h))
      | partial four g lt f ↦ absurd (part_whole (length m) (sym f ∙ h))
      | bad_len four b f ↦ absurd (broken_whole (len_of m) (length m) (sym f ∙ h))
      | complete four g enough f ↦ begun m rest (same_whole (len_of m) (length m) (sym f ∙ h)) four g
    ]

-- two messages that begin one stream are one
same_first : (m n x y : List ℕ) → IsWholeMessage m → IsWholeMessage n → m ++ x ≡ n ++ y → (m ≡ n) × (x ≡ y)
same_first m n x y p q e =
    let size : length m ≡ length n = same_whole (length m) (length n)
    (sym (begins m x p) ∙ ap beginning_of e ∙ begins n y q) in
    let prefix : m ≡ n = sym (take_at m x (length m) refl) ∙ ap (take (length m)) e
    ∙ take_at n y (length m) (sym size) in
    (prefix, append_cancel_left n x y (ap (λ (z : List ℕ). z ++ x) (sym prefix) ∙ e))

no_more : (m rest end : List ℕ) → IsWholeMessage m → is_whole end ≡ false → end ≡ m ++ rest → ⊥
no_more m rest end h u e = clash (sym (ap is_whole_beginning (ap beginning_of e ∙ begins m rest h)) ∙ u)

split_once : (ms ns : List (List ℕ)) (r s : List ℕ) → AllByRecursion IsWholeMessage ms
    → AllByRecursion IsWholeMessage ns → is_whole r ≡ false → is_whole s ≡ false
    → flat_map (λ (m : List ℕ). m) ms ++ r ≡ flat_map (λ (m : List ℕ). m) ns ++ s → (ms ≡ ns) × (r ≡ s)
split_once [] [] r s p q u v e = (refl, e)
split_once [] (n ∷ ns) r s p q u v e = absurd (no_more n (flat_map (λ (m : List ℕ). m) ns ++ s) r q.0 u
    (e ∙ cons_flat n ns s))
split_once (m ∷ ms) [] r s p q u v e = absurd (no_more m (flat_map (λ (m : List ℕ). m) ms ++ r) s p.0 v
    (sym e ∙ cons_flat m ms r))
split_once (m ∷ ms) (n ∷ ns) r s p q u v e =
    let first = same_first m n (flat_map (λ (m : List ℕ). m) ms ++ r) (flat_map (λ (m : List ℕ). m) ns ++ s)
    p.0 q.0 (sym (cons_flat m ms r) ∙ e ∙ cons_flat n ns s) in
    let others = split_once ms ns r s p.1 q.1 u v first.1 in
    (ap (λ (x : List ℕ). x ∷ ms) first.0 ∙ ap (λ (x : List (List ℕ)). n ∷ x) others.0, others.1)

-- a stream has one splitting
pub one_splitting : (stream : List ℕ) (ms ns : List (List ℕ)) (r s : List ℕ) → Splits stream ms r
    → Splits stream ns s → (ms ≡ ns) × (r ≡ s)
one_splitting stream ms ns r s p q = split_once ms ns r s p.each q.each p.partial q.partial (sym p.stream_is ∙ q.stream_is)

-- the pieces of a stream give its messages
pub pieces_split : (pieces : List (List ℕ)) → Splits (bytes_taken [] pieces) (messages_of [] pieces) (left_of [] pieces)
pieces_split pieces = run_splits [] pieces empty_unfinished

-- ---- a length field that no message has

-- it is refused whatever follows
pub refused_again : (held piece : List ℕ) (len : ℕ) → beginning_of held ≡ broken len
    → feed_answer held piece ≡ Err (bad.Length len)
refused_again held piece len h =
    elim (case_of held) [
      | short lt f ↦ absurd (part_broken len (sym f ∙ h))
      | partial four g lt f ↦ absurd (part_broken len (sym f ∙ h))
      | complete four g enough f ↦ absurd (whole_broken (len_of held) len (sym f ∙ h))
      | bad_len four b f ↦ refused_on held piece len four b (same_broken (len_of held) len (sym f ∙ h))
    ]

-- and is what is held then
pub refused_held : (held piece : List ℕ) (len : ℕ) → feed_answer held piece ≡ Err (bad.Length len)
    → beginning_of (fed_on held piece) ≡ broken len
refused_held held piece len h =
    elim (case_of (held ++ piece)) [
      | short lt f ↦ absurd (more_err len (sym (ap (answer_at (length held)) f) ∙ h))
      | partial four g lt f ↦ absurd (more_err len (sym (ap (answer_at (length held)) f) ∙ h))
      | complete four g enough f ↦ absurd (whole_err (len_of (held ++ piece) - length held) len
          (sym (ap (answer_at (length held)) f) ∙ h))
      | bad_len four b f ↦ rw f (broken_fed held piece four b
          ∙ ap broken (length_err (len_of (held ++ piece)) len (sym (ap (answer_at (length held)) f) ∙ h)))
    ]
