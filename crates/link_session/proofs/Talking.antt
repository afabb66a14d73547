-- Conversations.
use Rattle.std.proofs.Common.{◌≡◌, ℕ, List, [], ◌∷◌, ◌++◌, Option, None, Some, sym, ap, refl, ◌∙◌, subst, append_assoc, append-nil}
use Rattle.std.specs.List.{flat_map}
use Rattle.std.specs.Io.KnownBytes.{Appends, Keeps, Consumes}
use Rattle.std.proofs.KnownBytes.{Appends-trans, Appends-kept, Appends-nil, Consumes-trans, Consumes-kept, Consumes-nil}
use Rattle.std.proofs.lemmas.List.Concat.{flat_map-append}
use Rattle.link_session.proofs.Lists.{all_pushed}
use Rattle.link_session.specs.declared.stage.Stage.TheVariants as stages
use Rattle.link_session.specs.Reading.{text_of, Held, coming}
use Rattle.link_session.specs.Rounds.{Round, Place, Talked, Answered}

-- nothing was said
pub nothing_said : {E : Type 0} (Is : Round E → Type 0) (place : Place E) → Talked Is place place
nothing_said Is place = record {
  rounds = [];
  each = tt;
  read = Consumes-nil place.text;
  written = Appends-nil place.taken;
  asked = sym (append-nil place.entries);
}

-- what changes nothing that is known changes nothing of the conversation
pub as_said : {E : Type 0} (Is : Round E → Type 0) (old mid new : Place E) → Talked Is old mid → Keeps mid.text new.text → Keeps mid.taken new.taken
    → new.entries ≡ mid.entries → Talked Is old new
as_said Is old mid new t k w e = record {
  rounds = t.rounds;
  each = t.each;
  read = Consumes-kept old.text mid.text new.text _ t.read k;
  written = Appends-kept old.taken mid.taken new.taken _ t.written w;
  asked = e ∙ t.asked;
}

-- one more message
pub one_more : {E : Type 0} (Is : Round E → Type 0) (old mid new : Place E) (message : List ℕ) → Talked Is old mid
    → Answered Is message mid.taken new.taken mid.entries new.entries → Consumes mid.text new.text message → Talked Is old new
one_more {E} Is old mid new message t a r =
    let round : Round E = record { message = message; entries = a.entries; reply = a.reply } in
    record {
      rounds = t.rounds ++ round ∷ [];
      each = all_pushed Is t.rounds round t.each a.round;
      read = subst (λ bs. Consumes old.text new.text bs)
          (ap (λ bs. flat_map (λ (x : Round E). x.message) t.rounds ++ bs) (sym (append-nil message))
          ∙ sym (flat_map-append (λ (x : Round E). x.message) t.rounds (round ∷ [])))
          (Consumes-trans old.text mid.text new.text _ message t.read r);
      written = subst (λ bs. Appends old.taken new.taken bs)
          (ap (λ bs. flat_map (λ (x : Round E). x.reply) t.rounds ++ bs) (sym (append-nil a.reply))
          ∙ sym (flat_map-append (λ (x : Round E). x.reply) t.rounds (round ∷ [])))
          (Appends-trans old.taken mid.taken new.taken _ a.reply t.written a.written);
      asked = a.asked ∙ ap (λ es. es ++ a.entries) t.asked
          ∙ append_assoc old.entries (flat_map (λ (x : Round E). x.entries) t.rounds) a.entries
          ∙ ap (λ es. old.entries ++ es)
          (ap (λ es. flat_map (λ (x : Round E). x.entries) t.rounds ++ es) (sym (append-nil a.entries))
          ∙ sym (flat_map-append (λ (x : Round E). x.entries) t.rounds (round ∷ [])));
    }

-- behind the message that was served
behind : (left : Option (List ℕ)) (message ahead : List ℕ) → Consumes (text_of message ahead left) (text_of [] ahead left) message
behind None message ahead = tt
behind (Some x) message ahead = append_assoc message ahead x

pub text_kept : (message ahead : List ℕ) (a b : Option (List ℕ)) → Keeps a b → Keeps (text_of message ahead a) (text_of message ahead b)
text_kept message ahead None b k = tt
text_kept message ahead (Some x) None k = absurd k
text_kept message ahead (Some x) (Some y) k = ap (λ t. (message ++ ahead) ++ t) k

-- a message was read, answered and cleared
pub round_served : {E : Type 0} (Is : Round E → Type 0) (start : Place E) (i0 i1 i2 : Held) (l0 l1 l2 t0 t1 t2 : Option (List ℕ)) (e0 e1 : List E)
    → Talked Is start (record { text = coming i0 l0; taken = t0; entries = e0 })
    → Keeps (coming i0 l0) (coming i1 l1) → Keeps t0 t1
    → Answered Is i1.message t1 t2 e0 e1 → Keeps l1 l2 → i2 ≡ record i1 { message = []; stage = stages.Open }
    → Talked Is start (record { text = coming i2 l2; taken = t2; entries = e1 })
round_served {E} Is start i0 i1 i2 l0 l1 l2 t0 t1 t2 e0 e1 talked kept written one left next =
    let mid : Place E = record { text = coming i1 l1; taken = t1; entries = e0 } in
    let here = as_said Is start (record { text = coming i0 l0; taken = t0; entries = e0 }) mid talked kept written refl in
    let after : Place E = record { text = text_of [] i1.ahead l2; taken = t2; entries = e1 } in
    let there : Talked Is start after = one_more Is start mid after i1.message here one
    (Consumes-kept (coming i1 l1) (text_of [] i1.ahead l1) (text_of [] i1.ahead l2) i1.message (behind l1 i1.message i1.ahead) (text_kept [] i1.ahead l1 l2 left)) in
    subst (λ (i : Held). Talked Is start (record { text = coming i l2; taken = t2; entries = e1 })) (sym next) there
