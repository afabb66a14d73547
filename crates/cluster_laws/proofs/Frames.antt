-- Frames, one behind the other: which frames a text of frames begins with.
use Rattle.std.proofs.Common.{◌≡◌, ℕ, ◌<◌, ◌^◌, List, [], ◌∷◌, ◌++◌, length, take, drop, refl, sym, ap, ◌∙◌, arith, length-append}
use Rattle.std.proofs.lemmas.Grind.{common_steps}
use Rattle.std.specs.List.{flat_map, AllByRecursion}
use Rattle.lf_base.specs.declared.pos.Pos.{Pos}
use Rattle.stream_wire.specs.declared.frame.Frame.{Frame}
use Rattle.stream_wire.specs.declared.frame.Frame.TheVariants as frame
use Rattle.stream_wire.specs.Frame.{be64, body_of, frame_of, frame_text, kind_of, name_of, pos_body}
use Rattle.stream_wire.specs.Front.{frame_len_at}
use Rattle.stream_wire.proofs.Fronts.{frame_len_at-append}
use Rattle.stream_wire.proofs.Reading.{body_len_in, length_in, name_len_in, same_parts}

-- the bytes of frames
abbrev pub texts : List Frame → List ℕ
texts frames = flat_map frame_text frames

-- a frame whose lengths fit their fields
abbrev pub Fits : Frame → Type 0
Fits f = (length (name_of f) < 2 ^ 32) × (length (body_of f) < 2 ^ 64)

pub all_joined : {T : Type 0} (P : T → Type 0) (front back : List T) → AllByRecursion P front → AllByRecursion P back → AllByRecursion P (front ++ back)
all_joined P [] back some all = all
all_joined P (x ∷ front) back some all = (some.0, all_joined P front back some.1 all)

take_front : (xs ys : List ℕ) (n : ℕ) → n ≡ length xs → take n (xs ++ ys) ≡ xs
take_front xs ys n e = grind (arith, common_steps)

drop_front : (xs ys : List ℕ) (n : ℕ) → n ≡ length xs → drop n (xs ++ ys) ≡ ys
drop_front xs ys n e = grind (arith, common_steps)

-- the bytes of a frame say how long it is
front_len : (k : ℕ) (name body more : List ℕ) → length name < 2 ^ 32 → length body < 2 ^ 64 → frame_len_at (frame_of k name body ++ more) ≡ length (frame_of k name body)
front_len k name body more n b =
    let long = length_in k name body in
    frame_len_at-append (frame_of k name body) more (omega (arith, long)) ∙ omega (arith, long, name_len_in k name body n, body_len_in k name body b)

-- two frames at the front of one text are one
pub two_frames : (j k : ℕ) (name body other_name other_body x y : List ℕ) → j < 2 ^ 32 → k < 2 ^ 32 → length name < 2 ^ 32 → length other_name < 2 ^ 32 → length body < 2 ^ 64 → length other_body < 2 ^ 64
    → frame_of j name body ++ x ≡ frame_of k other_name other_body ++ y → (j ≡ k) × (body ≡ other_body) × (x ≡ y)
two_frames j k name body other_name other_body x y hj hk hn hm hb hc e =
    let a : List ℕ = frame_of j name body in
    let b : List ℕ = frame_of k other_name other_body in
    let lens : length a ≡ length b = sym (front_len j name body x hn hb) ∙ ap frame_len_at e ∙ front_len k other_name other_body y hm hc in
    let fronts : a ≡ b = sym (take_front a x (length a) refl) ∙ ap (take (length a)) e ∙ take_front b y (length a) lens in
    let rests : x ≡ y = sym (drop_front a x (length a) refl) ∙ ap (drop (length a)) e ∙ drop_front b y (length a) lens in
    let parts = same_parts j k name body other_name other_body hj hk hn hm fronts in
    (parts.0, parts.2, rests)

kind_small : (f : Frame) → kind_of f < 2 ^ 32
kind_small (frame.Ltx name bytes) = omega arith
kind_small (frame.Ready name pos) = omega arith
kind_small frame.End = omega arith
kind_small (frame.Drop name) = omega arith

-- the first of the frames, by its kind and its body; and those behind it
pub record BeginsBy (k : ℕ) (body rest : List ℕ) (frames : List Frame) : Type 0 where
  pub first : Frame
  pub left : List Frame
  pub is : frames ≡ first ∷ left
  pub kind : kind_of first ≡ k
  pub body_is : body_of first ≡ body
  pub fit : AllByRecursion Fits left
  pub rest_is : rest ≡ texts left

pub reads_one : (k : ℕ) (name body rest : List ℕ) (frames : List Frame) → k < 2 ^ 32 → length name < 2 ^ 32 → length body < 2 ^ 64 → AllByRecursion Fits frames
    → frame_of k name body ++ rest ≡ texts frames → BeginsBy k body rest frames
reads_one k name body rest [] hk hn hb fit e =
    absurd (omega (arith, ap length e, length-append (frame_of k name body) rest, length_in k name body))
reads_one k name body rest (f ∷ left) hk hn hb fit e =
    let two = two_frames k (kind_of f) name body (name_of f) (body_of f) rest (texts left) hk (kind_small f) hn fit.0.0 hb fit.0.1 e in
    record { first = f; left = left; is = refl; kind = sym two.0; body_is = sym two.1; fit = fit.1; rest_is = two.2 }

pub pos_len : (pos : Pos) → length (pos_body pos) ≡ 16
unfolding pos_body be64
pos_len pos = refl
