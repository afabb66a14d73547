-- What a stream begins with, as its pieces are taken.
use Rattle.std.proofs.Common.{◌≡◌, ℕ, zero, suc, ◌+◌, ◌-◌, ◌<◌, ◌≤◌, min, Bool, true, false, ◌&&◌, zero-add, suc-add, leb, List, [], ◌∷◌, ◌++◌, length, take, drop, Ok, Err, sym, ap, refl, ◌∙◌, arith, append_assoc, inl, inr}
use Rattle.std.proofs.lemmas.Bool.{leb-true, le-leb, lt-leb, lt-ltb, le-ltb, cases_lt}
use Rattle.std.proofs.lemmas.List.{length-append, length-take, take-append-drop, take-append-le}
use Rattle.fuse_msgs.specs.declared.feed.Fed.TheVariants as fed
use Rattle.fuse_msgs.specs.declared.fault.BadMessage.{BadMessage}
use Rattle.fuse_msgs.specs.declared.fault.BadMessage.TheVariants as bad
use Rattle.std.specs.Int.{w32, from_le_bytes}
use Rattle.lf_base.specs.Endian.{le32_at}
use Rattle.fuse_msgs.specs.Message.{len_of, is_length}
use Rattle.fuse_msgs.specs.Feed.{part, whole, broken, beginning_of, is_whole, is_whole_beginning, feed_answer, fed_on, BeginsRefused}

abbrev no_bytes : List ℕ
no_bytes = []

true_false : true ≡ false → ⊥
true_false e = cc

and-true_left : (a b : Bool) → (a && b) ≡ true → a ≡ true
and-true_left true b e = refl
and-true_left false b e = absurd (true_false (sym e))

take_nil : (m : ℕ) → take m [] ≡ no_bytes
take_nil zero = refl
take_nil (suc m) = refl

take_two : (n m : ℕ) (xs : List ℕ) → take n xs ++ take m (drop n xs) ≡ take (n + m) xs
take_two zero m xs = rw zero-add refl
take_two (suc n) m [] = rw (suc-add) (take_nil m)
take_two (suc n) m (x ∷ xs) = rw (suc-add) (ap (λ ys. x ∷ ys) (take_two n m xs))

-- ---- a stream and what it begins with

-- the length field of a stream is that of a prefix that has it
pub len_of-append : (a b : List ℕ) → 4 ≤ length a → len_of (a ++ b) ≡ len_of a
unfolding le32_at
len_of-append a b h = ap (from_le_bytes w32) (take-append-le 4 a b h)

pub beginning_of-short : (stream : List ℕ) → length stream < 4 → beginning_of stream ≡ part
unfolding beginning_of
beginning_of-short stream h = rw (lt-ltb (length stream) 4 h) refl

pub beginning_of-broken : (stream : List ℕ) → 4 ≤ length stream → is_length (len_of stream) ≡ false
    → beginning_of stream ≡ broken (len_of stream)
unfolding beginning_of
beginning_of-broken stream h b = rw (le-ltb (length stream) 4 h, b) refl

pub beginning_of-whole : (stream : List ℕ) → 4 ≤ length stream → is_length (len_of stream) ≡ true
    → len_of stream ≤ length stream → beginning_of stream ≡ whole (len_of stream)
unfolding beginning_of
beginning_of-whole stream h g l = rw (le-ltb (length stream) 4 h, g, le-leb (len_of stream) (length stream) l) refl

pub beginning_of-part : (stream : List ℕ) → 4 ≤ length stream → is_length (len_of stream) ≡ true
    → length stream < len_of stream → beginning_of stream ≡ part
unfolding beginning_of
beginning_of-part stream h g l = rw (le-ltb (length stream) 4 h, g, lt-leb (len_of stream) (length stream) l) refl

-- a stream that isn't whole is shorter than a length field that a message has
pub unfinished_below : (stream : List ℕ) → 4 ≤ length stream → is_length (len_of stream) ≡ true
    → is_whole stream ≡ false → length stream < len_of stream
unfinished_below stream h g u =
    elim (cases_lt (length stream) (len_of stream)) [
      | inl lt ↦ lt
      | inr le ↦ absurd (true_false (sym (ap is_whole_beginning (beginning_of-whole stream h g le)) ∙ u))
    ]

-- a stream that is refused stays refused, whatever follows
pub refusal_stays : (stream more : List ℕ) (fault : BadMessage) → BeginsRefused stream fault → BeginsRefused (stream ++ more) fault
refusal_stays stream more fault r = record {
  field = omega (arith, length-append stream more, r.field);
  refused = ap is_length (len_of-append stream more r.field) ∙ r.refused;
  fault_is = r.fault_is ∙ ap bad.Length (sym (len_of-append stream more r.field));
}

-- ---- the bytes that were taken

-- n bytes of the piece were taken to complete a length field, which says len
pub record Completes (held piece : List ℕ) (n len : ℕ) : Type 0 where
  pub count : n ≡ min (4 - length held) (length piece)
  pub enough : 4 ≤ length held + n
  pub len_is : len ≡ len_of (held ++ take n piece)

-- what is held and a prefix of the piece are a prefix of the whole stream
pub prefix_then_rest : (held piece : List ℕ) (n : ℕ) → held ++ piece ≡ (held ++ take n piece) ++ drop n piece
prefix_then_rest held piece n = ap (λ x. held ++ x) (sym (take-append-drop n piece))
    ∙ sym (append_assoc held (take n piece) (drop n piece))

pub length-prefix : (held piece : List ℕ) (n : ℕ) → n ≤ length piece → length (held ++ take n piece) ≡ length held + n
length-prefix held piece n h = omega (arith, length-append held (take n piece), length-take n piece)

-- the whole stream has the same length field
stream_len : (held piece : List ℕ) (n len : ℕ) → Completes held piece n len → len_of (held ++ piece) ≡ len
stream_len held piece n len k =
    let within : n ≤ length piece = omega (arith, k.count) in
    let long : 4 ≤ length (held ++ take n piece) = omega (arith, length-prefix held piece n within, k.enough) in
    ap len_of (prefix_then_rest held piece n) ∙ len_of-append (held ++ take n piece) (drop n piece) long ∙ sym k.len_is

stream_long : (held piece : List ℕ) (n len : ℕ) → Completes held piece n len → 4 ≤ length (held ++ piece)
stream_long held piece n len k = omega (arith, length-append held piece, k.count, k.enough)

-- a prefix of the piece, and a prefix of its rest
pub two_prefixes : (held piece : List ℕ) (n m : ℕ) → n ≤ length piece → (held ++ take n piece)
    ++ take m (drop n piece) ≡ held ++ take (n + m) piece
two_prefixes held piece n m within =
    append_assoc held (take n piece) (take m (drop n piece)) ∙ ap (λ x. held ++ x) (take_two n m piece)

-- a length that a message has is at least a header's
pub length_is_40 : (len : ℕ) → is_length len ≡ true → 40 ≤ len
length_is_40 len g = leb-true 40 len (and-true_left (leb 40 len) (leb len 135168) g)

grown : (held piece : List ℕ) (n len : ℕ) → Completes held piece n len → is_length len ≡ true
    → is_whole held ≡ false → 4 ≤ length held → length held + n < len
grown held piece n len k g u le =
    let nothing : n ≡ 0 = omega (arith, k.count) in
    let same : len ≡ len_of held = k.len_is ∙ len_of-append held (take n piece) le in
    omega (arith, nothing, same, unfinished_below held le (sym (ap is_length same) ∙ g) u)

-- what is held and was completed is shorter than the message
held_below : (held piece : List ℕ) (n len : ℕ) → Completes held piece n len → is_length len ≡ true
    → is_whole held ≡ false → length held + n < len
held_below held piece n len k g u =
    elim (cases_lt (length held) 4) [
      | inl lt ↦ omega (arith, k.count, k.enough, length_is_40 len g)
      | inr le ↦ grown held piece n len k g u le
    ]

-- ---- the four ends of feeding a piece

pub ends_short : (held piece : List ℕ) (n : ℕ) → n ≡ min (4 - length held) (length piece) → length held + n < 4
    → (Ok fed.More ≡ feed_answer held piece) × (held ++ take n piece ≡ fed_on held piece)
ends_short held piece n e short =
    let all : n ≡ length piece = omega (arith, e) in
    let f : beginning_of (held ++ piece) ≡ part
    = beginning_of-short (held ++ piece) (omega (arith, length-append held piece)) in
    (rw f refl, rw (f, all) refl)

pub ends_broken : (held piece : List ℕ) (n len : ℕ) → Completes held piece n len → is_length len ≡ false
    → (Err (bad.Length len) ≡ feed_answer held piece) × (held ++ take n piece ≡ fed_on held piece)
ends_broken held piece n len k b =
    let same : len_of (held ++ piece) ≡ len = stream_len held piece n len k in
    let f : beginning_of (held ++ piece) ≡ broken len
    = beginning_of-broken (held ++ piece) (stream_long held piece n len k) (ap is_length same ∙ b)
    ∙ ap broken same in
    let count : n ≡ 4 - length held = omega (arith, k.count, k.enough) in
    (rw f refl, rw (f, count) refl)

pub ends_more : (held piece : List ℕ) (n len m : ℕ) → Completes held piece n len → is_length len ≡ true
    → m ≡ min (len - (length held + n)) (length piece - n) → length held + n + m < len
    → (Ok fed.More ≡ feed_answer held piece) × ((held ++ take n piece) ++ take m (drop n piece) ≡ fed_on held piece)
ends_more held piece n len m k g e short =
    let within : n ≤ length piece = omega (arith, k.count) in
    let same : len_of (held ++ piece) ≡ len = stream_len held piece n len k in
    let all : n + m ≡ length piece = omega (arith, e) in
    let below : length (held ++ piece) < len_of (held ++ piece) = omega (arith, length-append held piece, same) in
    let f : beginning_of (held ++ piece) ≡ part
    = beginning_of-part (held ++ piece) (stream_long held piece n len k) (ap is_length same ∙ g) below in
    (rw f refl, two_prefixes held piece n m within ∙ rw (f, all) refl)

pub ends_whole : (held piece : List ℕ) (n len m : ℕ) → Completes held piece n len → is_length len ≡ true
    → is_whole held ≡ false
    → m ≡ min (len - (length held + n)) (length piece - n) → len ≤ length held + n + m
    → (Ok (fed.Whole (n + m)) ≡ feed_answer held piece)
    × ((held ++ take n piece) ++ take m (drop n piece) ≡ fed_on held piece)
ends_whole held piece n len m k g u e enough =
    let within : n ≤ length piece = omega (arith, k.count) in
    let same : len_of (held ++ piece) ≡ len = stream_len held piece n len k in
    let long : len_of (held ++ piece) ≤ length (held ++ piece) = omega (arith, length-append held piece, same, e) in
    let f : beginning_of (held ++ piece) ≡ whole len
    = beginning_of-whole (held ++ piece) (stream_long held piece n len k) (ap is_length same ∙ g) long
    ∙ ap whole same in
    let count : n + m ≡ len - length held = omega (arith, e, held_below held piece n len k g u) in
    (rw (f, count) refl, two_prefixes held piece n m within ∙ rw (f, count) refl)
