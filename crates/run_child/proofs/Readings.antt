-- Which answers a reading can give.
use Rattle.std.proofs.Common.{◌≡◌, ◌⊎◌, inl, inr, ℕ, Bool, true, false, List, Result, Ok, Err, refl, sym, ap, ◌∙◌, subst}
use Rattle.std.specs.Prelude.{if◌then◌else◌, not, length, ◌==◌, ◌&&◌, ◌-◌}
use Rattle.fuse_msgs.specs.declared.request.Op.{Op}
use Rattle.fuse_msgs.specs.declared.request.Request.{Request}
use Rattle.fuse_msgs.specs.declared.reply.Reply.{Reply}
use Rattle.fuse_msgs.specs.declared.reply.Reply.TheVariants as reply
use Rattle.run_child.specs.declared.replies.BadReply.{BadReply}
use Rattle.run_child.specs.declared.replies.BadReply.TheVariants as bad
use Rattle.run_child.specs.Filling.{IsNoError}
use Rattle.run_child.specs.Replies.{TakesBytes, body_of, error_of, is_errno, len_of, reading, refused, said, sized}
use Rattle.run_child.specs.Requests.{init, look_up, open_file, take_lock}
use Rattle.run_child.specs.Talk.{Asked, IsUnfit, Place, by_form}

by_test : (b : Bool) (given answer : Reply) (fault : BadReply) → (if b then Ok given else Err fault) ≡ Ok answer → given ≡ answer
by_test true given answer fault e = cc
by_test false given answer fault e = cc

sized_gives : (n : ℕ) (body : List ℕ) (given answer : Reply) → sized n body given ≡ Ok answer → given ≡ answer
sized_gives n body given answer e = by_test (length body == n) given answer bad.Body e

no_error : (answer given : Reply) → given ≡ answer → IsNoError answer → IsNoError given
no_error answer given e h = subst (λ r. IsNoError r) (sym e) h

refused_gives : (field : ℕ) (body : List ℕ) (answer : Reply) → refused field body ≡ Ok answer → IsNoError answer → ⊥
refused_gives field body answer e h =
    no_error answer (reply.Error (record { 0 = 4294967296 - field })) (by_test (is_errno field && (length body == 0)) _ answer bad.Body e) h

tests : (a b c : Bool) (x y : Result Reply BadReply) (answer : Reply)
    → (if a then Err bad.Short else if not b then Err bad.Length else if c then x else y) ≡ Ok answer
    → (x ≡ Ok answer) ⊎ (y ≡ Ok answer)
tests true b c x y answer e = absurd cc
tests false false c x y answer e = absurd cc
tests false true true x y answer e = inl e
tests false true false x y answer e = inr e

either : (asked : Op) (bytes : List ℕ) (answer : Reply) → reading asked bytes ≡ Ok answer
    → (said asked (body_of bytes) ≡ Ok answer) ⊎ (refused (error_of bytes) (body_of bytes) ≡ Ok answer)
unfolding reading
either asked bytes answer e = tests _ (len_of bytes == length bytes) (error_of bytes == 0) _ _ answer e

-- an answer that is no error is what the body says
reading_gives : (asked : Op) (bytes : List ℕ) (answer : Reply) → reading asked bytes ≡ Ok answer → IsNoError answer
    → said asked (body_of bytes) ≡ Ok answer
reading_gives asked bytes answer e h = elim (either asked bytes answer e) [
  | inl s ↦ s
  | inr r ↦ absurd (refused_gives (error_of bytes) (body_of bytes) answer r h)
]

-- ---- the answers to the first four requests

pub init_answer : (answer : Reply) (old new : Place) → Asked init answer old new → IsNoError answer → answer ≡ reply.Init
init_answer answer old new a h = sym (sized_gives _ _ _ answer (reading_gives _ a.bytes answer a.says.reads h))

pub look_up_answer : (name : List ℕ) (answer : Reply) (old new : Place) → Asked (look_up name) answer old new → IsNoError answer
    → (node size : ℕ) × (answer ≡ reply.Entry node size)
look_up_answer name answer old new a h = (_, _, sym (sized_gives _ _ _ answer (reading_gives _ a.bytes answer a.says.reads h)))

pub open_answer : (node : ℕ) (answer : Reply) (old new : Place) → Asked (open_file node) answer old new → IsNoError answer
    → (fh : ℕ) × (answer ≡ reply.Opened fh)
open_answer node answer old new a h = (_, sym (sized_gives _ _ _ answer (reading_gives _ a.bytes answer a.says.reads h)))

pub lock_answer : (node fh : ℕ) (answer : Reply) (old new : Place) → Asked (take_lock node fh) answer old new → IsNoError answer
    → answer ≡ reply.Empty
lock_answer node fh answer old new a h = sym (sized_gives _ _ _ answer (reading_gives _ a.bytes answer a.says.reads h))

-- ---- bytes that are no reply

pub unfit_by_form : (request : Request) (bytes : List ℕ) (r : Result Reply BadReply) (fault : BadReply)
    → (r ≡ reading request.op bytes) ⊎ (r ≡ Err bad.NoMemory) → (r ≡ Err bad.NoMemory → TakesBytes request.op) → (TakesBytes request.op → ⊥)
    → r ≡ Err fault → IsUnfit request bytes
unfit_by_form request bytes r fault read memory plain is = elim read [
  | inl e ↦ by_form fault (sym e ∙ is)
  | inr e ↦ absurd (plain (memory e))
]
