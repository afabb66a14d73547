-- A message has no fault.
use Rattle.std.proofs.Common.{◌≡◌, ℕ, ◌≤◌, true, false, List, length, drop, Option, None, refl, arith, ◌∙◌, ap, eqb, eq-eqb, leb, ltb}
use Rattle.std.proofs.lemmas.Bool.{le-leb, le-ltb}
use Rattle.fuse_msgs.specs.declared.request.Op.{Op}
use Rattle.fuse_msgs.specs.declared.request.Op.TheVariants as op
use Rattle.fuse_msgs.specs.declared.request.LockWish.{LockWish}
use Rattle.fuse_msgs.specs.declared.request.LockWish.TheVariants as wish
use Rattle.fuse_msgs.specs.declared.request.Request.{Request}
use Rattle.lf_base.specs.Endian.{le32_at}
use Rattle.fuse_msgs.specs.Opcodes.{opcode_of}
use Rattle.fuse_msgs.specs.ReadWrite.{IsWriteIn, has_data}
use Rattle.fuse_msgs.specs.Locks.{IsLkIn, lock_type, has_lock}
use Rattle.fuse_msgs.specs.Body.{IsBody, has_shape, has_name}
use Rattle.fuse_msgs.specs.Message.{IsMessage, refusal, body_of, len_of}
use Rattle.fuse_msgs.proofs.TerminatedName.{is_terminated_name-of}

lock_type-below : (kind : LockWish) → lock_type kind ≤ 2
lock_type-below wish.Read = omega arith
lock_type-below wish.Write = omega arith
lock_type-below wish.Unlock = omega arith

lock_has : (body : List ℕ) (fh owner start end : ℕ) (kind : LockWish) → IsLkIn body fh owner start end kind
    → has_lock body ≡ true
lock_has body fh owner start end kind h =
    let low : le32_at 32 body ≤ 2 = omega (arith, h.kind_is, lock_type-below kind) in
    rw (eq-eqb (length body) 48 h.whole, le-leb _ _ low) refl

data_has : (body : List ℕ) (fh at : ℕ) (owner : Option ℕ) (bytes : List ℕ)
    → IsWriteIn body fh at owner bytes → has_data body ≡ true
data_has body fh at owner bytes h =
    let size : le32_at 16 body ≡ length (drop 40 body) = h.size_is ∙ ap length h.data_is in
    let limit : length (drop 40 body) ≤ 131072 = rw (← h.data_is) h.limit in
    rw (le-leb 40 (length body) h.whole, eq-eqb _ _ size, le-leb _ _ limit) refl

shape_has : (body : List ℕ) (o : Op) → IsBody body o → has_shape (opcode_of o) body ≡ true
shape_has body (op.Lookup name) h = refl
shape_has body op.Forget h = eq-eqb _ _ h
shape_has body op.Getattr h = eq-eqb _ _ h
shape_has body (op.Setattr size owner) h = eq-eqb _ _ h.whole
shape_has body (op.Unlink name) h = refl
shape_has body op.Open h = eq-eqb _ _ h
shape_has body (op.Read fh at size owner) h = eq-eqb _ _ h.whole
shape_has body (op.Write fh at owner bytes) h = data_has body fh at owner bytes h
shape_has body (op.Release fh owner) h = eq-eqb _ _ h.whole
shape_has body (op.Fsync fh) h = eq-eqb _ _ h.whole
shape_has body (op.Flush fh owner) h = eq-eqb _ _ h.whole
shape_has body (op.Init major minor) h = le-leb _ _ h.whole
shape_has body (op.Getlk fh owner start end kind) h = lock_has body fh owner start end kind h
shape_has body (op.Setlk fh owner start end kind) h = lock_has body fh owner start end kind h
shape_has body (op.Setlkw fh owner start end kind) h = lock_has body fh owner start end kind h
shape_has body (op.Create name) h = le-leb _ _ h.0
shape_has body op.Destroy h = refl

name_has : (body : List ℕ) (o : Op) → IsBody body o → has_name (opcode_of o) body ≡ true
name_has body (op.Lookup name) h = is_terminated_name-of body name h
name_has body (op.Unlink name) h = is_terminated_name-of body name h
name_has body (op.Create name) h = is_terminated_name-of (drop 16 body) name h.1
name_has body op.Forget h = refl
name_has body op.Getattr h = refl
name_has body (op.Setattr size owner) h = refl
name_has body op.Open h = refl
name_has body (op.Read fh at size owner) h = refl
name_has body (op.Write fh at owner bytes) h = refl
name_has body (op.Release fh owner) h = refl
name_has body (op.Fsync fh) h = refl
name_has body (op.Flush fh owner) h = refl
name_has body (op.Init major minor) h = refl
name_has body (op.Getlk fh owner start end kind) h = refl
name_has body (op.Setlk fh owner start end kind) h = refl
name_has body (op.Setlkw fh owner start end kind) h = refl
name_has body op.Destroy h = refl

-- a message has no fault
pub refusal-message : (bytes : List ℕ) (request : Request) → IsMessage bytes request → refusal bytes ≡ None
unfolding refusal
refusal-message bytes request h =
    let long : ltb (length bytes) 40 ≡ false = le-ltb _ _ h.header in
    let low : leb 40 (len_of bytes) ≡ true = le-leb _ _ (omega (arith, h.len_is, h.header)) in
    let high : leb (len_of bytes) 135168 ≡ true = le-leb _ _ (omega (arith, h.len_is, h.limit)) in
    let same : eqb (len_of bytes) (length bytes) ≡ true = eq-eqb _ _ h.len_is in
    rw (
      long,
      low,
      high,
      same,
      h.opcode_is,
      shape_has (body_of bytes) request.op h.body_is,
      name_has
          (body_of bytes) request.op h.body_is,
    ) refl
