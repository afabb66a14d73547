-- Each reply that a node gives is read as that reply.
use Rattle.std.proofs.Common.{◌≡◌, ℕ, ◌+◌, ◌-◌, ◌^◌, ◌<◌, ◌≤◌, ◌==◌, ◌&&◌, Bool, true, false, leb, eqb, List, [], ◌∷◌, ◌++◌, length, drop, Option, Some, None, Result, Ok, Err, refl, sym, ap, ◌∙◌, arith, lit<}
use Rattle.std.specs.Prelude.{if◌then◌else◌, nat_lt, nat_le, not}
use Rattle.std.proofs.lemmas.Bool.{le-leb, le-ltb, eq-eqb, ne_eqb}
use Rattle.std.proofs.lemmas.Nat.{from_le_bytes-to_le_bytes_4, from_le_bytes-to_le_bytes_8}
use Rattle.fuse_msgs.specs.declared.request.Op.{Op}
use Rattle.fuse_msgs.specs.declared.request.Op.TheVariants as op
use Rattle.fuse_msgs.specs.declared.request.LockWish.{LockWish}
use Rattle.fuse_msgs.specs.declared.request.LockWish.TheVariants as wish
use Rattle.fuse_msgs.specs.declared.reply.Reply.{Reply}
use Rattle.fuse_msgs.specs.declared.reply.Reply.TheVariants as reply
use Rattle.lf_base.specs.declared.errno.Errno.{Errno}
use Rattle.lf_base.specs.Endian.{le16, le32, le64, le32_at, le64_at}
use Rattle.fuse_msgs.specs.Fields.{zeros}
use Rattle.fuse_msgs.specs.Locks.{lock_type}
use Rattle.fuse_msgs.specs.Reply.{attr_out, entry_out, error_field, init_out, lk_out, open_out, out_message, reply_body, reply_bytes, write_out}
use Rattle.run_child.specs.declared.replies.BadReply.{BadReply}
use Rattle.run_child.specs.declared.replies.BadReply.TheVariants as bad
use Rattle.run_child.specs.Exchanges.{Exchange, IsPlain, looked_up, told, set, opened, read, written, begun, found, created, done, refused}
use Rattle.run_child.specs.Replies.{reading}
use Rattle.run_child.specs.Replies as spec

-- ---- the fields of a reply

record HasFields (error unique : ℕ) (body : List ℕ) : Type 0 where
  long : length (out_message error unique body) ≡ 16 + length body
  len_is : spec.len_of (out_message error unique body) ≡ 16 + length body
  error_is : spec.error_of (out_message error unique body) ≡ error
  rest : spec.body_of (out_message error unique body) ≡ body

fields_of : (error unique : ℕ) (body : List ℕ) → 16 + length body < 2 ^ 32 → error < 2 ^ 32 → HasFields error unique body
unfolding le32 le64 le32_at
fields_of error unique body hl he = record {
  long = omega arith;
  len_is = from_le_bytes-to_le_bytes_4 (16 + length body) hl;
  error_is = from_le_bytes-to_le_bytes_4 error he;
  rest = refl;
}

pub unique_is : (answer : Reply) (unique : ℕ) → unique < 2 ^ 64 → spec.unique_of (reply_bytes answer unique) ≡ unique
unfolding le32 le64 le64_at reply_bytes
unique_is answer unique h = from_le_bytes-to_le_bytes_8 unique h

-- ---- what reading a whole reply gives

whole : (asked : Op) (bytes : List ℕ) → 16 ≤ length bytes → spec.len_of bytes ≡ length bytes → spec.reading asked bytes ≡ spec.answered asked bytes
unfolding reading
whole asked bytes h e = rw (le-ltb (length bytes) 16 h) (rw (eq-eqb (spec.len_of bytes) (length bytes) e) refl)

message_read : (asked : Op) (error unique : ℕ) (body : List ℕ) → 16 + length body < 2 ^ 32 → error < 2 ^ 32
    → spec.reading asked (out_message error unique body) ≡ (if error == 0 then spec.said asked body else spec.refused error body)
message_read asked error unique body hl he =
    let f = fields_of error unique body hl he in
    whole asked (out_message error unique body) (omega (arith, f.long)) (f.len_is ∙ sym f.long) ∙ rw f.error_is (rw f.rest refl)

-- ---- the bodies

-- a reply whose numbers are these
abbrev gives : Reply → Result Reply BadReply
gives answer = Ok answer

one_same : (f : ℕ → Reply) (a x : ℕ) → a ≡ x → gives (f a) ≡ gives (f x)
one_same f a x p = ap (λ (n : ℕ). gives (f n)) p

two_same : (f : ℕ → ℕ → Reply) (a b x y : ℕ) → a ≡ x → b ≡ y → gives (f a b) ≡ gives (f x y)
two_same f a b x y p q = ap (λ (n : ℕ). gives (f n b)) p ∙ ap (λ (n : ℕ). gives (f x n)) q

three_same : (f : ℕ → ℕ → ℕ → Reply) (a b c x y z : ℕ) → a ≡ x → b ≡ y → c ≡ z → gives (f a b c) ≡ gives (f x y z)
three_same f a b c x y z p q r = ap (λ (n : ℕ). gives (f n b c)) p ∙ two_same (f x) b c y z q r

entry_said : (name : List ℕ) (node size : ℕ) → node < 2 ^ 64 → size < 2 ^ 64
    → spec.said (op.Lookup name) (entry_out node size) ≡ Ok (reply.Entry node size)
unfolding le32 le64 zeros le64_at
entry_said name node size hn hs =
    two_same (λ a b. reply.Entry a b) _ _ node size (from_le_bytes-to_le_bytes_8 node hn) (from_le_bytes-to_le_bytes_8 size hs)

attr_said : (node size : ℕ) → node < 2 ^ 64 → size < 2 ^ 64
    → spec.said op.Getattr (attr_out node size) ≡ Ok (reply.Attr node size)
unfolding le32 le64 zeros le64_at
attr_said node size hn hs =
    two_same (λ a b. reply.Attr a b) _ _ node size (from_le_bytes-to_le_bytes_8 node hn) (from_le_bytes-to_le_bytes_8 size hs)

opened_said : (fh : ℕ) → fh < 2 ^ 64 → spec.said op.Open (open_out fh) ≡ Ok (reply.Opened fh)
unfolding le32 le64 zeros le64_at
opened_said fh h = one_same (λ a. reply.Opened a) _ fh (from_le_bytes-to_le_bytes_8 fh h)

read_said : (fh at size : ℕ) (owner : Option ℕ) (bytes : List ℕ) → length bytes ≤ size
    → spec.said (op.Read fh at size owner) bytes ≡ Ok (reply.Bytes bytes)
read_said fh at size owner bytes h = rw (le-leb (length bytes) size h) refl

written_said : (fh at : ℕ) (owner : Option ℕ) (bytes : List ℕ) (size : ℕ) → size < 2 ^ 32
    → spec.said (op.Write fh at owner bytes) (write_out size) ≡ Ok (reply.Written size)
unfolding le32 zeros le32_at
written_said fh at owner bytes size h = one_same (λ a. reply.Written a) _ size (from_le_bytes-to_le_bytes_4 size h)

init_said : (major minor : ℕ) → spec.said (op.Init major minor) init_out ≡ Ok reply.Init
unfolding le16 le32 zeros
init_said major minor = refl

kind_named : (held : LockWish) → spec.wish_named (lock_type held) ≡ Some held
kind_named wish.Read = refl
kind_named wish.Write = refl
kind_named wish.Unlock = refl

type_fits : (held : LockWish) → lock_type held < 2 ^ 32
type_fits wish.Read = lit< tt
type_fits wish.Write = lit< tt
type_fits wish.Unlock = lit< tt

lock_same : (a b c x y : ℕ) (held : LockWish) → a ≡ x → b ≡ y → c ≡ lock_type held
    → spec.lock_said a b (spec.wish_named c) ≡ Ok (reply.Lock x y held)
lock_same a b c x y held p q r =
    ap (λ (n : ℕ). spec.lock_said n b (spec.wish_named c)) p
    ∙ ap (λ (n : ℕ). spec.lock_said x n (spec.wish_named c)) q
    ∙ ap (λ (n : ℕ). spec.lock_said x y (spec.wish_named n)) r
    ∙ ap (λ (k : Option LockWish). spec.lock_said x y k) (kind_named held)

lock_said : (fh owner start end : ℕ) (kind : LockWish) (first last : ℕ) (held : LockWish) → first < 2 ^ 64 → last < 2 ^ 64
    → spec.said (op.Getlk fh owner start end kind) (lk_out first last held) ≡ Ok (reply.Lock first last held)
unfolding le32 le64 zeros le32_at le64_at
lock_said fh owner start end kind first last held hf hl =
    lock_same _ _ _ first last held (from_le_bytes-to_le_bytes_8 first hf) (from_le_bytes-to_le_bytes_8 last hl)
    (from_le_bytes-to_le_bytes_4 (lock_type held) (type_fits held))

created_said : (name : List ℕ) (node size fh : ℕ) → node < 2 ^ 64 → size < 2 ^ 64 → fh < 2 ^ 64
    → spec.said (op.Create name) (entry_out node size ++ open_out fh) ≡ Ok (reply.Created node size fh)
unfolding le32 le64 zeros le64_at
created_said name node size fh hn hs hf =
    three_same (λ a b c. reply.Created a b c) _ _ _ node size fh (from_le_bytes-to_le_bytes_8 node hn) (from_le_bytes-to_le_bytes_8 size hs)
    (from_le_bytes-to_le_bytes_8 fh hf)

plain_said : (plain : Op) → IsPlain plain → spec.said plain [] ≡ Ok reply.Empty
plain_said (op.Lookup name) h = absurd h
plain_said op.Forget h = absurd h
plain_said op.Getattr h = absurd h
plain_said (op.Setattr size owner) h = absurd h
plain_said (op.Unlink name) h = refl
plain_said op.Open h = absurd h
plain_said (op.Read fh at size owner) h = absurd h
plain_said (op.Write fh at owner bytes) h = absurd h
plain_said (op.Release fh owner) h = refl
plain_said (op.Fsync fh) h = refl
plain_said (op.Flush fh owner) h = refl
plain_said (op.Init major minor) h = absurd h
plain_said (op.Getlk fh owner start end kind) h = absurd h
plain_said (op.Setlk fh owner start end kind) h = refl
plain_said (op.Setlkw fh owner start end kind) h = refl
plain_said (op.Create name) h = absurd h
plain_said op.Destroy h = refl

-- ---- the whole

-- a reply with a body of this length and no error
good : (asked : Op) (unique : ℕ) (body : List ℕ) (answer : Reply) → 16 + length body < 2 ^ 32 → spec.said asked body ≡ Ok answer
    → spec.reading asked (out_message 0 unique body) ≡ Ok answer
good asked unique body answer h s = message_read asked 0 unique body h (lit< tt) ∙ s

refused_said : (any : Op) (errno : Errno) → 1 ≤ errno.0 → errno.0 ≤ 4095
    → (if (4294967296 - errno.0) == 0 then spec.said any [] else spec.refused (4294967296 - errno.0) []) ≡ Ok (reply.Error errno)
refused_said any errno low high =
    let some : eqb (4294967296 - errno.0) 0 ≡ false = ne_eqb (4294967296 - errno.0) 0 (λ e. omega (arith, e, low, high)) in
    let big : leb 4294963201 (4294967296 - errno.0) ≡ true = le-leb 4294963201 (4294967296 - errno.0) (omega (arith, low, high)) in
    let back : 4294967296 - (4294967296 - errno.0) ≡ errno.0 = omega (arith, low, high) in
    rw some (rw big (ap (λ n. Ok (reply.Error (record { 0 = n }))) back))

pub exchange_read : (asked : Op) (answer : Reply) (unique : ℕ) → Exchange asked answer → spec.reading asked (reply_bytes answer unique) ≡ Ok answer
unfolding reply_bytes le16 le32 le64 zeros
exchange_read _ _ unique (looked_up name node size hn hs) =
    good (op.Lookup name) unique (entry_out node size) (reply.Entry node size) (lit< tt) (entry_said name node size hn hs)
exchange_read _ _ unique (told node size hn hs) =
    good op.Getattr unique (attr_out node size) (reply.Attr node size) (lit< tt) (attr_said node size hn hs)
exchange_read _ _ unique (set want owner node size hn hs) =
    good (op.Setattr want owner) unique (attr_out node size) (reply.Attr node size) (lit< tt) (attr_said node size hn hs)
exchange_read _ _ unique (opened fh h) = good op.Open unique (open_out fh) (reply.Opened fh) (lit< tt) (opened_said fh h)
exchange_read _ _ unique (read fh at size owner bytes h l) =
    good (op.Read fh at size owner) unique bytes (reply.Bytes bytes) (omega (arith, l)) (read_said fh at size owner bytes h)
exchange_read _ _ unique (written fh at owner bytes size h) =
    good (op.Write fh at owner bytes) unique (write_out size) (reply.Written size) (lit< tt) (written_said fh at owner bytes size h)
exchange_read _ _ unique (begun major minor) = good (op.Init major minor) unique init_out reply.Init (lit< tt) (init_said major minor)
exchange_read _ _ unique (found fh owner start end kind first last held hf hl) =
    good (op.Getlk fh owner start end kind) unique (lk_out first last held) (reply.Lock first last held) (lit< tt)
    (lock_said fh owner start end kind first last held hf hl)
exchange_read _ _ unique (created name node size fh hn hs hf) =
    good (op.Create name) unique (entry_out node size ++ open_out fh) (reply.Created node size fh) (lit< tt) (created_said name node size fh hn hs hf)
exchange_read _ _ unique (done plain h) = good plain unique [] reply.Empty (lit< tt) (plain_said plain h)
exchange_read _ _ unique (refused any errno low high) =
    message_read any (4294967296 - errno.0) unique [] (lit< tt) (omega (arith, low)) ∙ refused_said any errno low high
