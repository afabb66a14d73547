-- Bytes are a message of one request at most.
use Rattle.std.proofs.Common.{◌≡◌, ℕ, zero, suc, ◌-◌, List, [], ◌∷◌, ◌++◌, length, take, drop, Some, sym, ap, ◌∙◌, refl}
use Rattle.fuse_msgs.specs.declared.request.Op.{Op}
use Rattle.fuse_msgs.specs.declared.request.Op.TheVariants as op
use Rattle.fuse_msgs.specs.declared.request.LockWish.{LockWish}
use Rattle.fuse_msgs.specs.declared.request.LockWish.TheVariants as wish
use Rattle.fuse_msgs.specs.declared.request.Request.{Request}
use Rattle.fuse_msgs.specs.declared.opcode.Opcode.{Opcode}
use Rattle.fuse_msgs.specs.declared.opcode.Opcode.TheVariants as opcode
use Rattle.fuse_msgs.specs.Fields.{is_set, given}
use Rattle.lf_base.specs.Endian.{le32_at, le64_at}
use Rattle.fuse_msgs.specs.Opcodes.{opcode_of}
use Rattle.fuse_msgs.specs.Locks.{lock_type}
use Rattle.fuse_msgs.specs.Body.{IsBody}
use Rattle.fuse_msgs.specs.Message.{IsMessage, body_of}
use Rattle.fuse_msgs.proofs.TerminatedName.{name_before_zero}

-- the bytes before the last
all_but_last : List ℕ → List ℕ
all_but_last bytes = take (length bytes - 1) bytes

name_is_prefix : (bytes name : List ℕ) → bytes ≡ name ++ 0 ∷ [] → name ≡ all_but_last bytes
unfolding all_but_last
name_is_prefix bytes name e = name_before_zero bytes name e

-- the lock that a type wishes for
wish_at : ℕ → LockWish
wish_at zero = wish.Read
wish_at (suc zero) = wish.Write
wish_at (suc (suc n)) = wish.Unlock

wish_is : (kind : LockWish) → kind ≡ wish_at (lock_type kind)
unfolding wish_at
wish_is wish.Read = refl
wish_is wish.Write = refl
wish_is wish.Unlock = refl

wish_from : (n : ℕ) (kind : LockWish) → n ≡ lock_type kind → kind ≡ wish_at n
wish_from n kind e = wish_is kind ∙ ap wish_at (sym e)

-- the one operation of a body
op_at : Opcode → List ℕ → Op
op_at opcode.Lookup body = op.Lookup (all_but_last body)
op_at opcode.Forget body = op.Forget
op_at opcode.Getattr body = op.Getattr
op_at opcode.Setattr body = op.Setattr (given (is_set (le32_at 0 body) 3) (le64_at 16 body))
    (given (is_set (le32_at 0 body) 9) (le64_at 24 body))
op_at opcode.Unlink body = op.Unlink (all_but_last body)
op_at opcode.Open body = op.Open
op_at opcode.Read body = op.Read (le64_at 0 body) (le64_at 8 body) (le32_at 16 body)
    (given (is_set (le32_at 20 body) 1) (le64_at 24 body))
op_at opcode.Write body = op.Write (le64_at 0 body) (le64_at 8 body)
    (given (is_set (le32_at 20 body) 1) (le64_at 24 body)) (drop 40 body)
op_at opcode.Release body = op.Release (le64_at 0 body) (le64_at 16 body)
op_at opcode.Fsync body = op.Fsync (le64_at 0 body)
op_at opcode.Flush body = op.Flush (le64_at 0 body) (le64_at 16 body)
op_at opcode.Init body = op.Init (le32_at 0 body) (le32_at 4 body)
op_at opcode.Getlk body = op.Getlk (le64_at 0 body) (le64_at 8 body) (le64_at 16 body) (le64_at 24 body)
    (wish_at (le32_at 32 body))
op_at opcode.Setlk body = op.Setlk (le64_at 0 body) (le64_at 8 body) (le64_at 16 body) (le64_at 24 body)
    (wish_at (le32_at 32 body))
op_at opcode.Setlkw body = op.Setlkw (le64_at 0 body) (le64_at 8 body) (le64_at 16 body) (le64_at 24 body)
    (wish_at (le32_at 32 body))
op_at opcode.Create body = op.Create (all_but_last (drop 16 body))
op_at opcode.Destroy body = op.Destroy

op_is : (body : List ℕ) (o : Op) → IsBody body o → o ≡ op_at (opcode_of o) body
unfolding op_at
op_is body (op.Lookup name) h = ap (λ n. op.Lookup n) (name_is_prefix body name h.1)
op_is body op.Forget h = refl
op_is body op.Getattr h = refl
op_is body (op.Setattr size owner) h = cc
op_is body (op.Unlink name) h = ap (λ n. op.Unlink n) (name_is_prefix body name h.1)
op_is body op.Open h = refl
op_is body (op.Read fh at size owner) h = cc
op_is body (op.Write fh at owner bytes) h = cc
op_is body (op.Release fh owner) h = cc
op_is body (op.Fsync fh) h = cc
op_is body (op.Flush fh owner) h = cc
op_is body (op.Init major minor) h = cc
op_is body (op.Getlk fh owner start end kind) h = cc (wish_from (le32_at 32 body) kind h.kind_is)
op_is body (op.Setlk fh owner start end kind) h = cc (wish_from (le32_at 32 body) kind h.kind_is)
op_is body (op.Setlkw fh owner start end kind) h = cc (wish_from (le32_at 32 body) kind h.kind_is)
op_is body (op.Create name) h = ap (λ n. op.Create n) (name_is_prefix (drop 16 body) name h.1.1)
op_is body op.Destroy h = refl

same_op : (body : List ℕ) (a b : Op) → opcode_of a ≡ opcode_of b → IsBody body a → IsBody body b → a ≡ b
same_op body a b e p q = op_is body a p ∙ ap (λ k. op_at k body) e ∙ sym (op_is body b q)

some_is : (k l : Opcode) → Some k ≡ Some l → k ≡ l
some_is k l e = cc

abbrev made : ℕ → ℕ → ℕ → Op → Request
made unique node pid op = record { unique = unique; node = node; pid = pid; op = op }

same_made : (u v n m p q : ℕ) (a b : Op) → u ≡ v → n ≡ m → p ≡ q → a ≡ b → made u n p a ≡ made v m q b
same_made u v n m p q a b eu en ep eo = ap (λ x. made x n p a) eu ∙ ap (λ x. made v x p a) en
    ∙ ap (λ x. made v m x a) ep ∙ ap (λ x. made v m q x) eo

-- bytes are a message of one request at most
pub one_request : (bytes : List ℕ) (a b : Request) → IsMessage bytes a → IsMessage bytes b → a ≡ b
one_request bytes a b p q =
    let kinds : opcode_of a.op ≡ opcode_of b.op
    = some_is (opcode_of a.op) (opcode_of b.op) (sym p.opcode_is ∙ q.opcode_is) in
    let ops : a.op ≡ b.op = same_op (body_of bytes) a.op b.op kinds p.body_is q.body_is in
    same_made a.unique b.unique a.node b.node a.pid b.pid a.op b.op (p.unique_is ∙ sym q.unique_is)
    (p.node_is ∙ sym q.node_is) (p.pid_is ∙ sym q.pid_is) ops
