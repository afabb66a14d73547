-- The bytes that a plain client writes for a request are a message of that request.
use Rattle.std.proofs.Common.{◌≡◌, ℕ, ◌+◌, ◌^◌, ◌<◌, ◌≤◌, Bool, true, false, ◌&&◌, leb, List, [], ◌∷◌, ◌++◌, length, drop, Option, Some, None, refl, sym, ap, ◌∙◌, arith, lit<}
use Rattle.std.specs.Prelude.{IsTrue, IfSome}
use Rattle.std.proofs.lemmas.Bool.{leb-true}
use Rattle.std.proofs.lemmas.List.{length-append}
use Rattle.std.proofs.lemmas.Nat.{from_le_bytes-to_le_bytes_4, from_le_bytes-to_le_bytes_8}
use Rattle.fuse_msgs.specs.declared.request.Op.{Op}
use Rattle.fuse_msgs.specs.declared.request.Op.TheVariants as op
use Rattle.fuse_msgs.specs.declared.request.LockWish.{LockWish}
use Rattle.fuse_msgs.specs.declared.request.LockWish.TheVariants as wish
use Rattle.fuse_msgs.specs.declared.request.Request.{Request}
use Rattle.fuse_msgs.specs.declared.opcode.Opcode.{Opcode}
use Rattle.fuse_msgs.specs.declared.opcode.Opcode.TheVariants as opcode
use Rattle.fuse_msgs.specs.Fields.{zeros, is_set}
use Rattle.lf_base.specs.Endian.{le32, le64, le32_at, le64_at}
use Rattle.fuse_msgs.specs.Opcodes.{opcode_named, number_of, opcode_of}
use Rattle.fuse_msgs.specs.Names.{is_name}
use Rattle.fuse_msgs.specs.Locks.{IsLkIn, lock_type}
use Rattle.fuse_msgs.specs.ReadWrite.{IsReadIn, IsWriteIn}
use Rattle.fuse_msgs.specs.Attributes.{IsSetattrIn}
use Rattle.fuse_msgs.specs.Body.{IsBody}
use Rattle.fuse_msgs.specs.Message.{IsMessage}
use Rattle.fuse_msgs.specs.Encoding.{body_bytes, setattr_in, read_in, lk_in, in_header, request_bytes, OpFits, ReadFits, LockFits, Fits}

-- each opcode has its number
no_true : false ≡ true → ⊥
no_true e = cc

named : (k : Opcode) → opcode_named (number_of k) ≡ Some k
named opcode.Lookup = refl
named opcode.Forget = refl
named opcode.Getattr = refl
named opcode.Setattr = refl
named opcode.Unlink = refl
named opcode.Open = refl
named opcode.Read = refl
named opcode.Write = refl
named opcode.Release = refl
named opcode.Fsync = refl
named opcode.Flush = refl
named opcode.Init = refl
named opcode.Getlk = refl
named opcode.Setlk = refl
named opcode.Setlkw = refl
named opcode.Create = refl
named opcode.Destroy = refl

number_fits : (k : Opcode) → number_of k < 2 ^ 32
number_fits opcode.Lookup = lit< tt
number_fits opcode.Forget = lit< tt
number_fits opcode.Getattr = lit< tt
number_fits opcode.Setattr = lit< tt
number_fits opcode.Unlink = lit< tt
number_fits opcode.Open = lit< tt
number_fits opcode.Read = lit< tt
number_fits opcode.Write = lit< tt
number_fits opcode.Release = lit< tt
number_fits opcode.Fsync = lit< tt
number_fits opcode.Flush = lit< tt
number_fits opcode.Init = lit< tt
number_fits opcode.Getlk = lit< tt
number_fits opcode.Setlk = lit< tt
number_fits opcode.Setlkw = lit< tt
number_fits opcode.Create = lit< tt
number_fits opcode.Destroy = lit< tt

-- ---- the bodies

read_is : (fh at size : ℕ) (owner : Option ℕ) → ReadFits fh at size owner
    → IsReadIn (read_in fh at size owner) fh at size owner
unfolding le32 le64 zeros le32_at le64_at is_set
read_is fh at size None h = record {
  whole = refl;
  fh_is = sym (from_le_bytes-to_le_bytes_8 fh h.fh_fits);
  at_is = sym (from_le_bytes-to_le_bytes_8 at h.at_fits);
  size_is = sym (from_le_bytes-to_le_bytes_4 size h.size_fits);
  owner_is = refl;
}
read_is fh at size (Some owner) h = record {
  whole = refl;
  fh_is = sym (from_le_bytes-to_le_bytes_8 fh h.fh_fits);
  at_is = sym (from_le_bytes-to_le_bytes_8 at h.at_fits);
  size_is = sym (from_le_bytes-to_le_bytes_4 size h.size_fits);
  owner_is = ap (λ n. Some n) (sym (from_le_bytes-to_le_bytes_8 owner h.owner_fits));
}

write_is : (fh at : ℕ) (owner : Option ℕ) (bytes : List ℕ) → ReadFits fh at 0 owner → length bytes ≤ 131072
    → IsWriteIn (read_in fh at (length bytes) owner ++ bytes) fh at owner bytes
unfolding le32 le64 zeros le32_at le64_at is_set
write_is fh at None bytes h l = record {
  whole = omega arith;
  fh_is = sym (from_le_bytes-to_le_bytes_8 fh h.fh_fits);
  at_is = sym (from_le_bytes-to_le_bytes_8 at h.at_fits);
  owner_is = refl;
  data_is = refl;
  size_is = from_le_bytes-to_le_bytes_4 (length bytes) (omega arith);
  limit = l;
}
write_is fh at (Some owner) bytes h l = record {
  whole = omega arith;
  fh_is = sym (from_le_bytes-to_le_bytes_8 fh h.fh_fits);
  at_is = sym (from_le_bytes-to_le_bytes_8 at h.at_fits);
  owner_is = ap (λ n. Some n) (sym (from_le_bytes-to_le_bytes_8 owner h.owner_fits));
  data_is = refl;
  size_is = from_le_bytes-to_le_bytes_4 (length bytes) (omega arith);
  limit = l;
}

setattr_is : (size owner : Option ℕ) → IfSome size (λ n. n < 2 ^ 64) → IfSome owner (λ n. n < 2 ^ 64)
    → IsSetattrIn (setattr_in size owner) size owner
unfolding le32 le64 zeros le32_at le64_at is_set
setattr_is None None hs ho = record { whole = refl; size_is = refl; owner_is = refl }
setattr_is None (Some owner) hs ho = record {
  whole = refl;
  size_is = refl;
  owner_is
      = ap (λ n. Some n) (sym (from_le_bytes-to_le_bytes_8 owner ho));
}
setattr_is (Some size) None hs ho = record {
  whole = refl;
  size_is
      = ap (λ n. Some n) (sym (from_le_bytes-to_le_bytes_8 size hs));
  owner_is = refl;
}
setattr_is (Some size) (Some owner) hs ho = record {
  whole = refl;
  size_is = ap (λ n. Some n) (sym (from_le_bytes-to_le_bytes_8 size hs));
  owner_is = ap (λ n. Some n) (sym (from_le_bytes-to_le_bytes_8 owner ho));
}

type_fits : (kind : LockWish) → lock_type kind < 2 ^ 32
type_fits wish.Read = lit< tt
type_fits wish.Write = lit< tt
type_fits wish.Unlock = lit< tt

lk_is : (fh owner start end : ℕ) (kind : LockWish) → LockFits fh owner start end
    → IsLkIn (lk_in fh owner start end kind) fh owner start end kind
unfolding le32 le64 zeros le32_at le64_at
lk_is fh owner start end kind h = record {
  whole = refl;
  fh_is = sym (from_le_bytes-to_le_bytes_8 fh h.fh_fits);
  owner_is = sym (from_le_bytes-to_le_bytes_8 owner h.owner_fits);
  start_is = sym (from_le_bytes-to_le_bytes_8 start h.start_fits);
  end_is = sym (from_le_bytes-to_le_bytes_8 end h.end_fits);
  kind_is = from_le_bytes-to_le_bytes_4 (lock_type kind) (type_fits kind);
}

body_is : (o : Op) → OpFits o → IsBody (body_bytes o) o
unfolding le32 le64 zeros le32_at le64_at
body_is (op.Lookup name) h = (h, refl)
body_is op.Forget h = refl
body_is op.Getattr h = refl
body_is (op.Setattr size owner) h = setattr_is size owner h.0 h.1
body_is (op.Unlink name) h = (h, refl)
body_is op.Open h = refl
body_is (op.Read fh at size owner) h = read_is fh at size owner h
body_is (op.Write fh at owner bytes) h = write_is fh at owner bytes h.0 h.1
body_is (op.Release fh owner) h = record {
  whole = refl;
  fh_is
      = sym (from_le_bytes-to_le_bytes_8 fh h.0);
  owner_is = sym (from_le_bytes-to_le_bytes_8 owner h.1);
}
body_is (op.Fsync fh) h = record { whole = refl; fh_is = sym (from_le_bytes-to_le_bytes_8 fh h) }
body_is (op.Flush fh owner) h = record {
  whole = refl;
  fh_is
      = sym (from_le_bytes-to_le_bytes_8 fh h.0);
  owner_is = sym (from_le_bytes-to_le_bytes_8 owner h.1);
}
body_is (op.Init major minor) h = record {
  whole = omega arith;
  major_is
      = sym (from_le_bytes-to_le_bytes_4 major h.0);
  minor_is = sym (from_le_bytes-to_le_bytes_4 minor h.1);
}
body_is (op.Getlk fh owner start end kind) h = lk_is fh owner start end kind h
body_is (op.Setlk fh owner start end kind) h = lk_is fh owner start end kind h
body_is (op.Setlkw fh owner start end kind) h = lk_is fh owner start end kind h
body_is (op.Create name) h = (omega arith, (h, refl))
body_is op.Destroy h = tt

-- ---- the lengths

middle : (a b c : Bool) → (a && b && c) ≡ true → b ≡ true
middle true true c e = refl
middle true false c e = absurd (no_true e)
middle false true c e = refl
middle false false c e = absurd (no_true e)

name_short : (name : List ℕ) → IsTrue (is_name name) → length name ≤ 80
name_short name h = leb-true (length name) 80 (middle (leb 1 (length name)) (leb (length name) 80) _ h)

body_short : (o : Op) → OpFits o → length (body_bytes o) ≤ 131112
unfolding le32 le64 zeros
body_short (op.Lookup name) h = omega (arith, length-append name (0 ∷ []), name_short name h)
body_short op.Forget h = omega arith
body_short op.Getattr h = omega arith
body_short (op.Setattr size owner) h = omega arith
body_short (op.Unlink name) h = omega (arith, length-append name (0 ∷ []), name_short name h)
body_short op.Open h = omega arith
body_short (op.Read fh at size owner) h = omega arith
body_short (op.Write fh at owner bytes) h = omega (arith, h.1)
body_short (op.Release fh owner) h = omega arith
body_short (op.Fsync fh) h = omega arith
body_short (op.Flush fh owner) h = omega arith
body_short (op.Init major minor) h = omega arith
body_short (op.Getlk fh owner start end kind) h = omega arith
body_short (op.Setlk fh owner start end kind) h = omega arith
body_short (op.Setlkw fh owner start end kind) h = omega arith
body_short (op.Create name) h = omega (arith, length-append name (0 ∷ []), name_short name h)
body_short op.Destroy h = omega arith

-- ---- the whole

record HasFields (len number unique node pid : ℕ) (body : List ℕ) : Type 0 where
  long : length (in_header len number unique node pid ++ body) ≡ 40 + length body
  len_is : le32_at 0 (in_header len number unique node pid ++ body) ≡ len
  number_is : le32_at 4 (in_header len number unique node pid ++ body) ≡ number
  unique_is : le64_at 8 (in_header len number unique node pid ++ body) ≡ unique
  node_is : le64_at 16 (in_header len number unique node pid ++ body) ≡ node
  pid_is : le32_at 32 (in_header len number unique node pid ++ body) ≡ pid
  rest : drop 40 (in_header len number unique node pid ++ body) ≡ body

header_has : (len number unique node pid : ℕ) (body : List ℕ) → len < 2 ^ 32 → number < 2 ^ 32
    → unique < 2 ^ 64 → node < 2 ^ 64 → pid < 2 ^ 32 → HasFields len number unique node pid body
unfolding le32 le64 zeros le32_at le64_at
header_has len number unique node pid body hl hn hu hd hp = record {
  long = omega arith;
  len_is = from_le_bytes-to_le_bytes_4 len hl;
  number_is = from_le_bytes-to_le_bytes_4 number hn;
  unique_is = from_le_bytes-to_le_bytes_8 unique hu;
  node_is = from_le_bytes-to_le_bytes_8 node hd;
  pid_is = from_le_bytes-to_le_bytes_4 pid hp;
  rest = refl;
}

-- the bytes of a request are a message of that request
pub encoding_is_message : (request : Request) → Fits request → IsMessage (request_bytes request) request
encoding_is_message request h =
    let short = body_short request.op h.op_fits in
    let f = header_has (40 + length (body_bytes request.op)) (number_of (opcode_of request.op))
    request.unique request.node request.pid (body_bytes request.op) (omega (arith, short))
    (number_fits (opcode_of request.op)) h.unique_fits h.node_fits h.pid_fits in
    record {
      header = omega (arith, f.long);
      limit = omega (arith, f.long, short);
      len_is = f.len_is ∙ sym f.long;
      opcode_is = ap opcode_named f.number_is ∙ named (opcode_of request.op);
      unique_is = sym f.unique_is;
      node_is = sym f.node_is;
      pid_is = sym f.pid_is;
      body_is = rw f.rest (body_is request.op h.op_fits);
    }
