-- Bytes that are a file, or none.
use Rattle.std.proofs.Common.{◌≡◌, ◌∙◌, ℕ, ◌<◌, ◌≤◌, ◌++◌, List, [], None, length, inl, inr, sym, ap, subst, arith}
use Rattle.std.proofs.lemmas.List.{append-nil}
use Rattle.ltx_codec.specs.Fields.{AreBytes}
use Rattle.ltx_codec.specs.FileIn.{file_in}
use Rattle.ltx_codec.specs.Format.{IsLtx}
use Rattle.ltx_codec.specs.Places.{IsBroken, IsEarliest, IsRefused, last_place}
use Rattle.ltx_codec.specs.declared.fault.LtxFault.{LtxFault}
use Rattle.ltx_codec.specs.declared.fault.LtxFault.TheVariants as fault
use Rattle.ltx_codec.specs.declared.file.Ltx.{Ltx}
use Rattle.world_laws.specs.Answers.{Answers}
use Rattle.world_laws.specs.Node as laws
use Rattle.world_laws.specs.Node.{NodeState, Role}
use Rattle.world_laws.specs.Step.{KeepsRole}
use Rattle.node_core.specs.declared.answer.Answer.TheVariants as answers
use Rattle.node_core.specs.Errors.{refusal_of_encoding}
use Rattle.node_core.specs.Framing.{RefusesBytes}
use Rattle.node_core.specs.Safely.{IsFrameOf, law_answer}

-- an encoding has no earliest fault
none-earliest : ((encoding rest : List ℕ) (file : Ltx) (f : LtxFault) (place : ℕ) → AreBytes (encoding ++ rest) → IsLtx encoding file → IsBroken (encoding ++ rest) f place → (f ≡ fault.Tail) × (length encoding < place))
    → (bytes : List ℕ) (file : Ltx) (f : LtxFault) → AreBytes bytes → IsLtx bytes file → IsEarliest bytes f → ⊥
none-earliest law bytes file f octets is earliest =
    let nil : bytes ++ [] ≡ bytes = append-nil bytes in
    let both = law bytes [] file f earliest.place (subst (λ (l : List ℕ). AreBytes l) (sym nil) octets) is (subst (λ (l : List ℕ). IsBroken l f earliest.place) (sym nil) earliest.broken) in
    let there : earliest.place ≤ last_place bytes fault.Tail = subst (λ (g : LtxFault). earliest.place ≤ last_place bytes g) both.0 earliest.broken.there in
    omega (arith, both.1, there)

-- a fault that is not want of memory
named : (bytes : List ℕ) (f : LtxFault) → (f ≡ fault.NoMemory → ⊥) → IsRefused bytes f → IsEarliest bytes f
named bytes f other (inl same) = absurd (other same)
named bytes f other (inr earliest) = earliest

-- why the bytes are refused
pub refuses-bytes : (bytes : List ℕ) (f : LtxFault) → IsRefused bytes f → RefusesBytes bytes (answers.Refused (refusal_of_encoding f))
refuses-bytes bytes fault.NoMemory is = tt
refuses-bytes bytes fault.Short is = named bytes fault.Short (λ same. cc) is
refuses-bytes bytes fault.Magic is = named bytes fault.Magic (λ same. cc) is
refuses-bytes bytes fault.Compressed is = named bytes fault.Compressed (λ same. cc) is
refuses-bytes bytes fault.UnknownFlags is = named bytes fault.UnknownFlags (λ same. cc) is
refuses-bytes bytes fault.PageSize is = named bytes fault.PageSize (λ same. cc) is
refuses-bytes bytes fault.Txid is = named bytes fault.Txid (λ same. cc) is
refuses-bytes bytes fault.Commit is = named bytes fault.Commit (λ same. cc) is
refuses-bytes bytes fault.PreSum is = named bytes fault.PreSum (λ same. cc) is
refuses-bytes bytes fault.PageOrder is = named bytes fault.PageOrder (λ same. cc) is
refuses-bytes bytes fault.PageRange is = named bytes fault.PageRange (λ same. cc) is
refuses-bytes bytes fault.NotWhole is = named bytes fault.NotWhole (λ same. cc) is
refuses-bytes bytes fault.PostSum is = named bytes fault.PostSum (λ same. cc) is
refuses-bytes bytes (fault.FileSum want got) is = named bytes (fault.FileSum want got) (λ same. cc) is
refuses-bytes bytes fault.Tail is = named bytes fault.Tail (λ same. cc) is

module _ (old new : NodeState) (role : Role) (bytes : List ℕ) where
  -- whatever they are, the primary takes nothing
  pub not-replica : role ≡ laws.Primary → (law : laws.Ask) → IsFrameOf bytes law → Answers old role law [] None (laws.Refused laws.NotReplica) new
  not-replica primary (laws.Frame file) is = primary
  not-replica primary laws.NoFile is = tt
  not-replica primary law is = absurd is

  -- as the laws say it
  module _ (rules : (encoding rest : List ℕ) (file : Ltx) (f : LtxFault) (place : ℕ) → AreBytes (encoding ++ rest) → IsLtx encoding file → IsBroken (encoding ++ rest) f place → (f ≡ fault.Tail) × (length encoding < place))
      (octets : AreBytes bytes) where
    wanting : (file : Ltx) (f : LtxFault) → IsLtx bytes file → IsRefused bytes f → f ≡ fault.NoMemory
    wanting file f is (inl same) = same
    wanting file f is (inr earliest) = absurd (none-earliest rules bytes file f octets is earliest)

    pub bytes-refused : (f : LtxFault) → IsRefused bytes f → (law : laws.Ask) → IsFrameOf bytes law → Answers old role law [] None (law_answer (answers.Refused (refusal_of_encoding f))) new
    bytes-refused f refused (laws.Frame file) is =
        subst (λ (g : LtxFault). Answers old role (laws.Frame file) [] None (law_answer (answers.Refused (refusal_of_encoding g))) new) (sym (wanting file f is refused)) tt
    bytes-refused f refused laws.NoFile is = tt
    bytes-refused f refused law is = absurd is

-- a step of a frame leaves the role
pub frame-keeps : (bytes : List ℕ) (law : laws.Ask) → IsFrameOf bytes law → (role later : Role) → KeepsRole law role later → role ≡ later
frame-keeps bytes (laws.Frame file) is role later keeps = keeps
frame-keeps bytes laws.NoFile is role later keeps = keeps
frame-keeps bytes law is role later keeps = absurd is

-- the bytes of a file are that frame alone
pub frame-is : ((bytes : List ℕ) (file : Ltx) → AreBytes bytes → IsLtx bytes file → file_in bytes ≡ file) → (bytes : List ℕ) (file : Ltx) → AreBytes bytes → IsLtx bytes file
    → (law : laws.Ask) → IsFrameOf bytes law → law ≡ laws.Frame file
frame-is read bytes file octets is (laws.Frame other) also = ap laws.Frame (sym (read bytes other octets also) ∙ read bytes file octets is)
frame-is read bytes file octets is laws.NoFile none = absurd (none (subst (λ (f : Ltx). IsLtx bytes f) (sym (read bytes file octets is)) is))
frame-is read bytes file octets is law other = absurd other
