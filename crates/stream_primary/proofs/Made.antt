-- What the bytes of a stream are made of.
use Rattle.std.proofs.Common.{◌≡◌, ◌≢◌, ◌⊎◌, inl, inr, Bool, true, false, IsTrue, ℕ, List, [], ◌∷◌, ◌++◌, None, refl, sym, ap, ◌∙◌, subst, append_assoc}
use Rattle.lf_base.specs.declared.pos.Pos.{Pos}
use Rattle.link_session.specs.Stands.{Asker}
use Rattle.node_core.specs.declared.answer.Answer.{Answer}
use Rattle.node_core.specs.declared.whereabouts.Whereabouts.{Whereabouts}
use Rattle.node_core.specs.declared.answer.Answer.TheVariants as answer
use Rattle.stream_wire.specs.declared.frame.Frame.TheVariants as frame
use Rattle.stream_wire.specs.Frame.{frame_text}
use Rattle.stream_wire.specs.Writing.{reply_head}
use Rattle.stream_primary.specs.declared.standing.Sent.{Sent}
use Rattle.stream_primary.specs.declared.standing.Sent.TheVariants as sent
use Rattle.stream_primary.specs.declared.standing.Standing.{Standing}
use Rattle.stream_primary.specs.OneRun.{IsLevelFirst, IsMadeOf, NeverLevel, behind_all, change_text, changes_of, is_level, level_at, nothing}
use Rattle.stream_primary.specs.Streaming.{AreHellos, NodeEntry, sent_by}
use Rattle.stream_primary.specs.Telling.{begun, goes_on, next, standing_at, words}

no_stream : {A : Type 0} → IsTrue false → A
no_stream goes = absurd (let no : false ≡ true = goes in cc)

begun_ready : (s : Sent) → s ≡ sent.Ready → begun s ≡ sent.Ready
begun_ready s is = ap begun is

begun_head : (s : Sent) → s ≡ sent.Head → begun s ≡ sent.Head
begun_head s is = ap begun is

-- ---- behind the first time that the follower was level

words_ready : (name : List ℕ) (given : Answer) → IsTrue (goes_on given) → words name sent.Ready given ≡ change_text name given
words_ready name (answer.Item ltx after) goes = refl
words_ready name answer.Gone goes = refl
words_ready name (answer.Level pos) goes = refl
words_ready name given goes = no_stream goes

next_ready : (at : Standing) (given : Answer) → at.sent ≡ sent.Ready → IsTrue (goes_on given) → (next at given).sent ≡ sent.Ready
next_ready at (answer.Item ltx after) is goes = begun_ready at.sent is
next_ready at answer.Gone is goes = begun_ready at.sent is
next_ready at (answer.Level pos) is goes = refl
next_ready at given is goes = no_stream goes

sent_ready : (who : Asker) (name : List ℕ) (at : Standing) (hellos : List NodeEntry) → at.sent ≡ sent.Ready → AreHellos who at hellos → sent_by name at hellos ≡ changes_of name hellos
sent_ready who name at [] is all = refl
sent_ready who name at (one ∷ more) is all =
    ap (λ (s : Sent). words name s one.answer ++ sent_by name (next at one.answer) more) is
    ∙ ap (λ (bytes : List ℕ). bytes ++ sent_by name (next at one.answer) more) (words_ready name one.answer all.1)
    ∙ ap (λ (bytes : List ℕ). change_text name one.answer ++ bytes) (sent_ready who name (next at one.answer) more (next_ready at one.answer is all.1) all.2)

-- ---- behind the head

-- the frames behind a head
data IsBehindHead (name : List ℕ) (hellos : List NodeEntry) (bytes : List ℕ) : Type 0 where
  never : NeverLevel hellos → bytes ≡ changes_of name hellos → IsBehindHead name hellos bytes
  level : (front : List NodeEntry) (pos : Pos) (back : List NodeEntry) → IsLevelFirst hellos front pos back
      → bytes ≡ changes_of name front ++ (frame_text (frame.Ready name pos) ++ changes_of name back) → IsBehindHead name hellos bytes

-- what an answer is to a follower that was sent a head and no Ready
data IsToldBehindHead (name : List ℕ) (at : Standing) (given : Answer) : Type 0 where
  a_change : is_level given ≡ false → words name sent.Head given ≡ change_text name given → (next at given).sent ≡ sent.Head → IsToldBehindHead name at given
  a_level : (pos : Pos) → given ≡ answer.Level pos → words name sent.Head given ≡ frame_text (frame.Ready name pos) → (next at given).sent ≡ sent.Ready → IsToldBehindHead name at given

told_behind_head : (name : List ℕ) (at : Standing) (given : Answer) → at.sent ≡ sent.Head → IsTrue (goes_on given) → IsToldBehindHead name at given
told_behind_head name at (answer.Item ltx after) is goes = a_change refl refl (begun_head at.sent is)
told_behind_head name at answer.Gone is goes = a_change refl refl (begun_head at.sent is)
told_behind_head name at (answer.Level pos) is goes = a_level pos refl refl refl
told_behind_head name at given is goes = no_stream goes

one_more : (name : List ℕ) (one : NodeEntry) (more : List NodeEntry) (first rest : List ℕ) → is_level one.answer ≡ false → first ≡ change_text name one.answer → IsBehindHead name more rest
    → IsBehindHead name (one ∷ more) (first ++ rest)
one_more name one more first rest unlevel is (never all same) =
    never (unlevel, all) (ap (λ (bytes : List ℕ). bytes ++ rest) is ∙ ap (λ (bytes : List ℕ). change_text name one.answer ++ bytes) same)
one_more name one more first rest unlevel is (level front pos back at same) =
    level (one ∷ front) pos back (record { one = at.one; is = ap (λ (l : List NodeEntry). one ∷ l) at.is; level = at.level; never_before = (unlevel, at.never_before) })
    (ap (λ (bytes : List ℕ). bytes ++ rest) is ∙ ap (λ (bytes : List ℕ). change_text name one.answer ++ bytes) same
    ∙ sym (append_assoc (change_text name one.answer) (changes_of name front) (frame_text (frame.Ready name pos) ++ changes_of name back)))

-- one Hello more, and what was sent for those behind it
by_first : (who : Asker) (name : List ℕ) (at : Standing) (one : NodeEntry) (more : List NodeEntry) → at.sent ≡ sent.Head → AreHellos who (next at one.answer) more
    → ((next at one.answer).sent ≡ sent.Head → IsBehindHead name more (sent_by name (next at one.answer) more)) → IsToldBehindHead name at one.answer
    → IsBehindHead name (one ∷ more) (words name at.sent one.answer ++ sent_by name (next at one.answer) more)
by_first who name at one more is all others (a_change unlevel told then) =
    one_more name one more (words name at.sent one.answer) (sent_by name (next at one.answer) more) unlevel (ap (λ (s : Sent). words name s one.answer) is ∙ told) (others then)
by_first who name at one more is all others (a_level pos level_is told then) =
    level [] pos more (record { one = one; is = refl; level = level_is; never_before = tt })
    (ap (λ (bytes : List ℕ). bytes ++ sent_by name (next at one.answer) more) (ap (λ (s : Sent). words name s one.answer) is ∙ told)
    ∙ ap (λ (bytes : List ℕ). frame_text (frame.Ready name pos) ++ bytes) (sent_ready who name (next at one.answer) more then all))

sent_behind_head : (who : Asker) (name : List ℕ) (at : Standing) (hellos : List NodeEntry) → at.sent ≡ sent.Head → AreHellos who at hellos → IsBehindHead name hellos (sent_by name at hellos)
sent_behind_head who name at [] is all = never tt refl
sent_behind_head who name at (one ∷ more) is all =
    by_first who name at one more is all.2 (λ then. sent_behind_head who name (next at one.answer) more then all.2) (told_behind_head name at one.answer is all.1)

-- ---- from the beginning

abbrev head : List ℕ
head = reply_head 200 None

-- a head was sent to the follower at this position, and nothing behind it
abbrev headed : Whereabouts → Standing
headed from = record { here = from; sent = sent.Head }

first_words : (name : List ℕ) (given : Answer) → IsTrue (goes_on given) → words name sent.Nothing given ≡ head ++ words name sent.Head given
first_words name (answer.Item ltx after) goes = refl
first_words name answer.Gone goes = refl
first_words name (answer.Level pos) goes = refl
first_words name given goes = no_stream goes

first_next : (from : Whereabouts) (given : Answer) → IsTrue (goes_on given) → next (standing_at from) given ≡ next (headed from) given
first_next from (answer.Item ltx after) goes = refl
first_next from answer.Gone goes = refl
first_next from (answer.Level pos) goes = refl
first_next from given goes = no_stream goes

some_hellos : (one : NodeEntry) (more : List NodeEntry) → (one ∷ more) ≢ []
some_hellos one more same = cc

with_head : (name : List ℕ) (one : NodeEntry) (more : List NodeEntry) (bytes rest : List ℕ) → bytes ≡ head ++ rest → IsBehindHead name (one ∷ more) rest → IsMadeOf name (one ∷ more) bytes
with_head name one more bytes rest is (never all same) = behind_all (some_hellos one more) all (is ∙ ap (λ (l : List ℕ). head ++ l) same)
with_head name one more bytes rest is (level front pos back at same) = level_at front pos back at (is ∙ ap (λ (l : List ℕ). head ++ l) same)

-- what was sent for Hellos that were all told
pub made_of : (who : Asker) (name : List ℕ) (from : Whereabouts) (hellos : List NodeEntry) → AreHellos who (standing_at from) hellos → IsMadeOf name hellos (sent_by name (standing_at from) hellos)
made_of who name from [] all = nothing refl refl
made_of who name from (one ∷ more) all =
    let then : next (standing_at from) one.answer ≡ next (headed from) one.answer = first_next from one.answer all.1 in
    let rest : List ℕ = sent_by name (headed from) (one ∷ more) in
    with_head name one more (sent_by name (standing_at from) (one ∷ more)) rest
    (ap (λ (bytes : List ℕ). bytes ++ sent_by name (next (standing_at from) one.answer) more) (first_words name one.answer all.1)
    ∙ append_assoc head (words name sent.Head one.answer) (sent_by name (next (standing_at from) one.answer) more)
    ∙ ap (λ (at : Standing). head ++ (words name sent.Head one.answer ++ sent_by name at more)) then)
    (sent_behind_head who name (headed from) (one ∷ more) refl (all.0, all.1, subst (λ (at : Standing). AreHellos who at more) then all.2))
