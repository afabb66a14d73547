-- Sessions: what was said so far, and how they end.
use Rattle.std.proofs.Common.{◌≡◌, ◌⊎◌, inl, inr, ℕ, length, false, List, [], ◌++◌, Option, Err, refl, ap, ◌∙◌, subst, arith}
use Rattle.std.specs.Io.KnownBytes.{Keeps}
use Rattle.lf_base.specs.declared.session_end.SessionEnd.{SessionEnd}
use Rattle.lf_base.specs.declared.session_end.SessionEnd.TheVariants as ends
use Rattle.fuse_msgs.specs.Feed.{IsWholeMessage}
use Rattle.link_session.specs.declared.stage.Stage.TheVariants as stages
use Rattle.link_session.specs.Messages.{IsPart, IsRefused}
use Rattle.link_session.specs.Reading.{Held, coming, EndsReading}
use Rattle.link_session.specs.Rounds.{Place, Talked, Answered}
use Rattle.link_session.specs.Spending.{Moves, MovesFor}
use Rattle.link_session.proofs.Reading.{kept_consumes}
use Rattle.link_session.proofs.Stands.{spent_on}
use Rattle.link_session.proofs.Talking.{as_said, nothing_said, round_served, text_kept}
use Rattle.link_session.specs.Stands.{Asker, IsStill, Spends, Spent, Stand}
use Rattle.file_session.specs.Asking.{FileEntry}
use Rattle.file_session.specs.Message.{IsRound, IsUnanswered, IsUnwritten, EndsMessage}
use Rattle.file_session.specs.Session.{starting, reading, answering, Conversation}

-- a message was read, answered and taken out
pub message_served : (who who_now : Asker) (start : Place FileEntry) (i0 i1 i2 : Held) (l0 l1 l2 t0 t1 t2 : Option (List ℕ)) (e0 e1 : List FileEntry) (message : List ℕ)
    → Talked (IsRound who) start (record { text = coming i0 l0; taken = t0; entries = e0 })
    → Keeps (coming i0 l0) (coming i1 l1) → Keeps t0 t1 → message ≡ i1.message → who_now ≡ who
    → Answered (IsRound who_now) message t1 t2 e0 e1 → Keeps l1 l2 → i2 ≡ record i1 { message = []; stage = stages.Open }
    → Talked (IsRound who) start (record { text = coming i2 l2; taken = t2; entries = e1 })
message_served who who_now start i0 i1 i2 l0 l1 l2 t0 t1 t2 e0 e1 message talked kept written is same answered left next =
    round_served (IsRound who) start i0 i1 i2 l0 l1 l2 t0 t1 t2 e0 e1 talked kept written
    (subst (λ (m : List ℕ). Answered (IsRound who) m t1 t2 e0 e1) is (subst (λ (w : Asker). Answered (IsRound w) message t1 t2 e0 e1) same answered)) left next

-- the end of a message says nothing of the text before it, nor of the calls so far
abbrev aside : (text : Option (List ℕ)) (moves : ℕ) → Stand FileEntry → Stand FileEntry
aside text moves s = record s { place = record s.place { text = text }; moves = moves }

silent_aside : (text : Option (List ℕ)) (moves : ℕ) (old new : Stand FileEntry) → IsStill old.place new.place → IsStill (aside text moves old).place new.place
silent_aside text moves old new s = record { written = s.written; asked = s.asked }

unanswered_aside : (who : Asker) (message : List ℕ) (text : Option (List ℕ)) (moves : ℕ) (old new : Stand FileEntry)
    → IsUnanswered who message old.place new.place → IsUnanswered who message (aside text moves old).place new.place
unanswered_aside who message text moves old new u = record { request = u.request; is = u.is; asked = u.asked; written = u.written }

unwritten_aside : (who : Asker) (message : List ℕ) (text : Option (List ℕ)) (moves : ℕ) (old new : Stand FileEntry)
    → IsUnwritten who message old.place new.place → IsUnwritten who message (aside text moves old).place new.place
unwritten_aside who message text moves old new u = record { entries = u.entries; reply = u.reply; round = u.round; asked = u.asked; written = u.written }

either : {A B C D : Type 0} → (A → C) → (B → D) → A ⊎ B → C ⊎ D
either f g (inl a) = inl (f a)
either f g (inr b) = inr (g b)

end_aside : (who : Asker) (message : List ℕ) (text : Option (List ℕ)) (moves : ℕ) (old new : Stand FileEntry) (left : ℕ) (end : SessionEnd)
    → EndsMessage {T = Unit {0}} who message old new left (Err end) → EndsMessage {T = Unit {0}} who message (aside text moves old) new left (Err end)
end_aside who message text moves old new left ends.Closed e = absurd e
end_aside who message text moves old new left ends.ReadFault e = absurd e
end_aside who message text moves old new left ends.WriteFault e = (unwritten_aside who message text moves old new e.0, e.1)
end_aside who message text moves old new left ends.BadMessage e = (e.0, silent_aside text moves old new e.1, e.2)
end_aside who message text moves old new left ends.Turns e =
    (either (unanswered_aside who message text moves old new) (unwritten_aside who message text moves old new) e.0, e.1, e.2)
end_aside who message text moves old new left ends.Worn e = (unanswered_aside who message text moves old new e.0, e.1)
end_aside who message text moves old new left ends.NoMemory e =
    (either (silent_aside text moves old new) (unwritten_aside who message text moves old new) e.0, e.1)

-- the turns of one call, and then of one that was ended
spends_on : (t0 t1 t2 : ℕ) (s0 s1 s2 : Stand FileEntry) (end : SessionEnd) → Spent t0 s0 t1 s1 → Spends {T = Unit {0}} t1 s1 t2 s2 (Err end) → Spends {T = Unit {0}} t0 s0 t2 s2 (Err end)
spends_on t0 t1 t2 s0 s1 s2 ends.Turns a b = spent_on t0 t1 t2 s0 s1 s2 a b
spends_on t0 t1 t2 s0 s1 s2 ends.Closed a b = tt
spends_on t0 t1 t2 s0 s1 s2 ends.ReadFault a b = tt
spends_on t0 t1 t2 s0 s1 s2 ends.WriteFault a b = tt
spends_on t0 t1 t2 s0 s1 s2 ends.BadMessage a b = tt
spends_on t0 t1 t2 s0 s1 s2 ends.Worn a b = tt
spends_on t0 t1 t2 s0 s1 s2 ends.NoMemory a b = tt

-- reading makes no entry
pub spent_reading : (t0 t1 t2 : ℕ) (s0 s1 s2 : Stand FileEntry) → Spent t0 s0 t1 s1 → Moves t1 s1.moves t2 s2.moves → s2.place.entries ≡ s1.place.entries → Spent t0 s0 t2 s2
spent_reading t0 t1 t2 s0 s1 s2 a m same = spent_on t0 t1 t2 s0 s1 s2 a (λ below. ((m below).0, omega (arith, (m below).1, ap length same)))

spends_reading : (t0 t1 t2 : ℕ) (s0 s1 s2 : Stand FileEntry) (end : SessionEnd) → Spent t0 s0 t1 s1 → MovesFor {T = Unit {0}} (Err end) t1 s1.moves t2 s2.moves
    → s2.place.entries ≡ s1.place.entries → Spends {T = Unit {0}} t0 s0 t2 s2 (Err end)
spends_reading t0 t1 t2 s0 s1 s2 ends.Turns a m same = spent_reading t0 t1 t2 s0 s1 s2 a m.1 same
spends_reading t0 t1 t2 s0 s1 s2 ends.Closed a m same = tt
spends_reading t0 t1 t2 s0 s1 s2 ends.ReadFault a m same = tt
spends_reading t0 t1 t2 s0 s1 s2 ends.WriteFault a m same = tt
spends_reading t0 t1 t2 s0 s1 s2 ends.BadMessage a m same = tt
spends_reading t0 t1 t2 s0 s1 s2 ends.Worn a m same = tt
spends_reading t0 t1 t2 s0 s1 s2 ends.NoMemory a m same = tt

-- no message could be read
pub read_failed : (who : Asker) (turns t1 t2 : ℕ) (start s1 s2 : Stand FileEntry) (end : SessionEnd)
    → Talked (IsRound who) start.place s1.place → s1.faults ≡ start.faults → Spent turns start t1 s1
    → EndsReading {T = Unit {0}} false IsPart IsRefused s1.place.text s2.place.text s1.faults s2.faults t2 (Err end)
    → Keeps s1.place.taken s2.place.taken → s2.place.entries ≡ s1.place.entries → MovesFor {T = Unit {0}} (Err end) t1 s1.moves t2 s2.moves
    → Conversation who turns start s2 end
read_failed who turns t1 t2 start s1 s2 end talked count spent cause taken same moves = record {
  place = s1.place;
  left = t2;
  talked = talked;
  ending = reading (subst (λ (f : ℕ). EndsReading {T = Unit {0}} false IsPart IsRefused s1.place.text s2.place.text f s2.faults t2 (Err end)) count cause)
      (record { written = taken; asked = same });
  spent = spends_reading turns t1 t2 start s1 s2 end spent moves same;
}

-- a message was read, and not answered whole
pub message_failed : (who who_now : Asker) (turns t0 t1 t2 : ℕ) (start s0 s1 s2 : Stand FileEntry) (held : Held) (message : List ℕ) (end : SessionEnd)
    → Talked (IsRound who) start.place s0.place → s0.faults ≡ start.faults → Spent turns start t0 s0
    → Keeps s0.place.text (coming held s1.place.text) → Keeps s0.place.taken s1.place.taken → s1.place.entries ≡ s0.place.entries
    → Moves t0 s0.moves t1 s1.moves → s1.faults ≡ s0.faults
    → message ≡ held.message → IsWholeMessage held.message → who_now ≡ who → Keeps s1.place.text s2.place.text
    → EndsMessage {T = Unit {0}} who_now message s1 s2 t2 (Err end) → Spends {T = Unit {0}} t1 s1 t2 s2 (Err end)
    → Conversation who turns start s2 end
message_failed who who_now turns t0 t1 t2 start s0 s1 s2 held message end talked count spent same taken entries moves faults is whole by left ends spends =
    let here : Place FileEntry = record { text = coming held s1.place.text; taken = s1.place.taken; entries = s1.place.entries } in
    let told : EndsMessage {T = Unit {0}} who held.message s1 s2 t2 (Err end) =
    subst (λ (m : List ℕ). EndsMessage {T = Unit {0}} who m s1 s2 t2 (Err end)) is
    (subst (λ (w : Asker). EndsMessage {T = Unit {0}} w message s1 s2 t2 (Err end)) by ends) in
    record {
      place = here;
      left = t2;
      talked = as_said (IsRound who) start.place s0.place here talked same taken entries;
      ending = answering held.message held.ahead whole
          (kept_consumes (coming held s1.place.text) s2.place.text (held.message ++ held.ahead) (text_kept held.message held.ahead s1.place.text s2.place.text left))
          (subst (λ (f : ℕ). EndsMessage {T = Unit {0}} who held.message (record { place = here; faults = f; moves = start.moves }) s2 t2 (Err end)) (faults ∙ count)
          (end_aside who held.message (coming held s1.place.text) start.moves s1 s2 t2 end told));
      spent = spends_on turns t1 t2 start s1 s2 end (spent_reading turns t0 t1 start s0 s1 spent moves entries) spends;
    }

-- there was no memory to begin with
pub not_begun : (who : Asker) (turns : ℕ) (here : Stand FileEntry) → Conversation who turns here here ends.NoMemory
not_begun who turns here = record {
  place = here.place;
  left = turns;
  talked = nothing_said (IsRound who) here.place;
  ending = starting refl refl refl;
  spent = tt;
}
