-- What the answer of a reading says of the bytes.
use Rattle.std.proofs.Common.{◌≡◌, ℕ, List, Result, Ok, Err, Some, None, Option, refl, inl, inr, ap, subst}
use Rattle.fuse_msgs.specs.declared.request.Request.{Request}
use Rattle.fuse_msgs.specs.declared.fault.BadMessage.{BadMessage}
use Rattle.fuse_msgs.specs.declared.fault.BadMessage.TheVariants as bad
use Rattle.fuse_msgs.specs.Message.{IsMessage, refusal}
use Rattle.fuse_msgs.specs.Decoding.{IsUnlessMemory, TakesMemoryToRead}
use Rattle.fuse_msgs.specs.steps.Reading.{IsDecoding}
use Rattle.fuse_msgs.proofs.OneReading.{one_request}
use Rattle.fuse_msgs.proofs.Refusals.{refusal-message}

none_some : (f : BadMessage) (o : Option BadMessage) → o ≡ None → o ≡ Some f → ⊥
none_some f o e g = cc

some_same : (a b : BadMessage) (o : Option BadMessage) → o ≡ Some a → o ≡ Some b → a ≡ b
some_same a b o e g = cc

-- a message of a request is read as that request
pub accepts : (bytes : List ℕ) (result : Result Request BadMessage) → IsDecoding bytes result
    → (request : Request) → IsMessage bytes request → IsUnlessMemory result (Ok request)
accepts bytes (Ok r) d request h = inl (ap (λ x. Ok x) (one_request bytes r request d h))
accepts bytes (Err bad.NoMemory) d request h = inr refl
accepts bytes (Err bad.Short) d request h = absurd (none_some _ _ (refusal-message bytes request h) d)
accepts bytes (Err (bad.Length len)) d request h = absurd (none_some _ _ (refusal-message bytes request h) d)
accepts bytes (Err (bad.Opcode number unique)) d request h
    = absurd (none_some _ _ (refusal-message bytes request h) d)
accepts bytes (Err (bad.Body unique)) d request h = absurd (none_some _ _ (refusal-message bytes request h) d)
accepts bytes (Err (bad.NameText unique)) d request h = absurd (none_some _ _ (refusal-message bytes request h) d)

-- the first fault of the bytes is the answer
pub refuses : (bytes : List ℕ) (result : Result Request BadMessage) → IsDecoding bytes result
    → (fault : BadMessage) → refusal bytes ≡ Some fault → result ≡ Err fault
refuses bytes (Ok r) d fault h = absurd (none_some _ _ (refusal-message bytes r d) h)
refuses bytes (Err bad.NoMemory) d fault h = absurd (none_some _ _ d.1 h)
refuses bytes (Err bad.Short) d fault h = ap (λ x. Err x) (some_same _ _ _ d h)
refuses bytes (Err (bad.Length len)) d fault h = ap (λ x. Err x) (some_same _ _ _ d h)
refuses bytes (Err (bad.Opcode number unique)) d fault h = ap (λ x. Err x) (some_same _ _ _ d h)
refuses bytes (Err (bad.Body unique)) d fault h = ap (λ x. Err x) (some_same _ _ _ d h)
refuses bytes (Err (bad.NameText unique)) d fault h = ap (λ x. Err x) (some_same _ _ _ d h)

-- memory runs out only for a message whose reading takes memory
pub takes_memory : (bytes : List ℕ) (result : Result Request BadMessage) → IsDecoding bytes result
    → result ≡ Err bad.NoMemory → TakesMemoryToRead bytes
takes_memory bytes result d e = subst (IsDecoding bytes) e d
