-- The fields of a frame's bytes are those of the frame.
use Rattle.std.proofs.Common.{◌≡◌, ℕ, ◌+◌, ◌<◌, ◌^◌, List, ◌++◌, length, take, drop, refl, sym, ap, ◌∙◌, arith, length-append}
use Rattle.std.proofs.lemmas.Grind.{common_steps}
use Rattle.std.proofs.lemmas.Nat.{from_be_bytes-to_be_bytes_4, from_be_bytes-to_be_bytes_8}
use Rattle.lf_base.specs.Endian.{be32_at, be64_at}
use Rattle.lf_base.specs.declared.pos.Pos.{Pos}
use Rattle.stream_wire.specs.declared.frame.Frame.{Frame}
use Rattle.stream_wire.specs.declared.frame.Frame.TheVariants as frame
use Rattle.stream_wire.specs.Frame.{be32, be64, frame_of, pos_body, frame_text, kind_of, name_of, body_of, FitsFrame}
use Rattle.stream_wire.specs.Front.{kind_at, name_len_at, body_len_at}

pub kind_in : (k : ℕ) (name body : List ℕ) → k < 2 ^ 32 → kind_at (frame_of k name body) ≡ k
unfolding frame_of be32 be64 be32_at
kind_in k name body h = from_be_bytes-to_be_bytes_4 k h

pub name_len_in : (k : ℕ) (name body : List ℕ) → length name < 2 ^ 32 → name_len_at (frame_of k name body) ≡ length name
unfolding frame_of be32 be64 be32_at
name_len_in k name body h = from_be_bytes-to_be_bytes_4 (length name) h

pub body_len_in : (k : ℕ) (name body : List ℕ) → length body < 2 ^ 64 → body_len_at (frame_of k name body) ≡ length body
unfolding frame_of be32 be64 be64_at
body_len_in k name body h = from_be_bytes-to_be_bytes_8 (length body) h

pub rest_in : (k : ℕ) (name body : List ℕ) → drop 16 (frame_of k name body) ≡ name ++ body
unfolding frame_of be32 be64
rest_in k name body = refl

pub length_in : (k : ℕ) (name body : List ℕ) → length (frame_of k name body) ≡ 16 + length name + length body
unfolding frame_of be32 be64
length_in k name body = omega (arith, length-append name body)

take_front : (xs ys : List ℕ) (n : ℕ) → n ≡ length xs → take n (xs ++ ys) ≡ xs
take_front xs ys n e = grind (arith, common_steps)

drop_front : (xs ys : List ℕ) (n : ℕ) → n ≡ length xs → drop n (xs ++ ys) ≡ ys
drop_front xs ys n e = grind (arith, common_steps)

-- two frames' bytes that are equal have equal parts
pub same_parts : (j k : ℕ) (name body name' body' : List ℕ) → j < 2 ^ 32 → k < 2 ^ 32 → length name < 2 ^ 32 → length name' < 2 ^ 32
    → frame_of j name body ≡ frame_of k name' body' → (j ≡ k) × (name ≡ name') × (body ≡ body')
same_parts j k name body name' body' hj hk hn hm e =
    let kinds : j ≡ k = sym (kind_in j name body hj) ∙ ap kind_at e ∙ kind_in k name' body' hk in
    let lens : length name ≡ length name' = sym (name_len_in j name body hn) ∙ ap name_len_at e ∙ name_len_in k name' body' hm in
    let rests : name ++ body ≡ name' ++ body' = sym (rest_in j name body) ∙ ap (drop 16) e ∙ rest_in k name' body' in (
      kinds,
      sym (take_front name body (length name) refl) ∙ ap (take (length name)) rests ∙ take_front name' body' (length name) lens,
      sym (drop_front name body (length name) refl) ∙ ap (drop (length name)) rests ∙ drop_front name' body' (length name) lens,
    )

txid_in : (pos : Pos) → pos.txid < 2 ^ 64 → be64_at 0 (pos_body pos) ≡ pos.txid
unfolding pos_body be64 be64_at
txid_in pos h = from_be_bytes-to_be_bytes_8 pos.txid h

sum_in : (pos : Pos) → pos.sum < 2 ^ 64 → be64_at 8 (pos_body pos) ≡ pos.sum
unfolding pos_body be64 be64_at
sum_in pos h = from_be_bytes-to_be_bytes_8 pos.sum h

same_pos : (p q : Pos) → p.txid < 2 ^ 64 → p.sum < 2 ^ 64 → q.txid < 2 ^ 64 → q.sum < 2 ^ 64 → pos_body p ≡ pos_body q → p ≡ q
same_pos p q a b c d e =
    let t : p.txid ≡ q.txid = sym (txid_in p a) ∙ ap (be64_at 0) e ∙ txid_in q c in
    let s : p.sum ≡ q.sum = sym (sum_in p b) ∙ ap (be64_at 8) e ∙ sum_in q d in
    let make : ℕ → ℕ → Pos = λ x y. record { txid = x; sum = y } in
    ap (λ (x : ℕ). make x p.sum) t ∙ ap (λ (y : ℕ). make q.txid y) s

kind_small : (f : Frame) → kind_of f < 2 ^ 32
kind_small (frame.Ltx name bytes) = omega arith
kind_small (frame.Ready name pos) = omega arith
kind_small frame.End = omega arith
kind_small (frame.Drop name) = omega arith

name_small : (f : Frame) → FitsFrame f → length (name_of f) < 2 ^ 32
name_small (frame.Ltx name bytes) f = let l = f.0.fits in omega (arith, l)
name_small (frame.Ready name pos) f = let l = f.0.fits in omega (arith, l)
name_small frame.End f = omega arith
name_small (frame.Drop name) f = let l = f.fits in omega (arith, l)

by_parts : (a b : Frame) → FitsFrame a → FitsFrame b → kind_of a ≡ kind_of b → name_of a ≡ name_of b → body_of a ≡ body_of b → a ≡ b
by_parts (frame.Ltx n x) (frame.Ltx m y) f g k e h = cc
by_parts (frame.Ltx n x) (frame.Ready m q) f g k e h = absurd (omega (arith, k))
by_parts (frame.Ltx n x) frame.End f g k e h = absurd (omega (arith, k))
by_parts (frame.Ltx n x) (frame.Drop m) f g k e h = absurd (omega (arith, k))
by_parts (frame.Ready n p) (frame.Ltx m y) f g k e h = absurd (omega (arith, k))
by_parts (frame.Ready n p) (frame.Ready m q) f g k e h = let same = same_pos p q f.1 f.2 g.1 g.2 h in cc
by_parts (frame.Ready n p) frame.End f g k e h = absurd (omega (arith, k))
by_parts (frame.Ready n p) (frame.Drop m) f g k e h = absurd (omega (arith, k))
by_parts frame.End (frame.Ltx m y) f g k e h = absurd (omega (arith, k))
by_parts frame.End (frame.Ready m q) f g k e h = absurd (omega (arith, k))
by_parts frame.End frame.End f g k e h = refl
by_parts frame.End (frame.Drop m) f g k e h = absurd (omega (arith, k))
by_parts (frame.Drop n) (frame.Ltx m y) f g k e h = absurd (omega (arith, k))
by_parts (frame.Drop n) (frame.Ready m q) f g k e h = absurd (omega (arith, k))
by_parts (frame.Drop n) frame.End f g k e h = absurd (omega (arith, k))
by_parts (frame.Drop n) (frame.Drop m) f g k e h = cc

pub one_frame : (a b : Frame) → FitsFrame a → FitsFrame b → frame_text a ≡ frame_text b → a ≡ b
one_frame a b f g e =
    let same = same_parts (kind_of a) (kind_of b) (name_of a) (body_of a) (name_of b) (body_of b) (kind_small a) (kind_small b) (name_small a f) (name_small b g) e in
    by_parts a b f g same.0 same.1 same.2
