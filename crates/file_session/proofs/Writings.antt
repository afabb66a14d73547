-- What a session writes.
use Rattle.std.proofs.Common.{inl, inr, ℕ, ◌+◌, List, [], ◌∷◌, ◌++◌, length, take, Option, Err, sym, ap, ◌∙◌, subst, append-nil}
use Rattle.std.specs.List.{flat_map}
use Rattle.std.specs.Io.KnownBytes.{Appends, Keeps}
use Rattle.std.proofs.KnownBytes.{Keeps-refl, Appends-trans, Appends-kept}
use Rattle.std.proofs.Math.Seq.{take-length, take-append-add}
use Rattle.std.proofs.lemmas.List.Concat.{flat_map-append}
use Rattle.lf_base.specs.declared.session_end.SessionEnd.{SessionEnd}
use Rattle.lf_base.specs.declared.session_end.SessionEnd.TheVariants as ends
use Rattle.link_session.specs.Rounds.{Round, Place, Talked}
use Rattle.link_session.proofs.Lists.{all_pushed}
use Rattle.link_session.specs.Stands.{Asker, Stand}
use Rattle.file_session.specs.Asking.{FileEntry}
use Rattle.file_session.specs.Message.{IsRound, IsUnwritten, EndsMessage}
use Rattle.file_session.specs.Session.{Ends, starting, reading, answering, IsSession}
use Rattle.file_session.specs.Written.{WritesReplies}

abbrev replies : List (Round FileEntry) → List ℕ
replies rounds = flat_map (λ (round : Round FileEntry). round.reply) rounds

-- nothing was written behind the rounds
nothing_more : (who : Asker) (start place : Place FileEntry) (taken : Option (List ℕ)) → Talked (IsRound who) start place → Keeps place.taken taken → WritesReplies who start.taken taken
nothing_more who start place taken t k = record {
  rounds = t.rounds;
  count = length (replies t.rounds);
  each = t.each;
  written = subst (λ (bytes : List ℕ). Appends start.taken taken bytes) (sym (take-length (replies t.rounds)))
      (Appends-kept start.taken place.taken taken (replies t.rounds) t.written k);
}

-- a part of one more reply
part_more : (who : Asker) (message : List ℕ) (start place new : Place FileEntry) → Talked (IsRound who) start place → IsUnwritten who message place new
    → WritesReplies who start.taken new.taken
part_more who message start place new t u =
    let last : Round FileEntry = record { message = message; entries = u.entries; reply = u.reply } in
    record {
      rounds = t.rounds ++ last ∷ [];
      count = length (replies t.rounds) + u.written.0;
      each = all_pushed (IsRound who) t.rounds last t.each u.round;
      written = subst (λ (bytes : List ℕ). Appends start.taken new.taken bytes)
          (sym (take-append-add (replies t.rounds) u.reply u.written.0)
          ∙ ap (λ bytes. take (length (replies t.rounds) + u.written.0) (replies t.rounds ++ bytes)) (sym (append-nil u.reply))
          ∙ ap (take (length (replies t.rounds) + u.written.0)) (sym (flat_map-append (λ (round : Round FileEntry). round.reply) t.rounds (last ∷ []))))
          (Appends-trans start.taken place.taken new.taken (replies t.rounds) (take u.written.0 u.reply) t.written u.written.2);
    }

message_writes : (who : Asker) (message : List ℕ) (start : Place FileEntry) (old new : Stand FileEntry) (left : ℕ) (end : SessionEnd) → Talked (IsRound who) start old.place
    → EndsMessage {T = Unit {0}} who message old new left (Err end) → WritesReplies who start.taken new.place.taken
message_writes who message start old new left ends.Closed t e = absurd e
message_writes who message start old new left ends.ReadFault t e = absurd e
message_writes who message start old new left ends.WriteFault t e = part_more who message start old.place new.place t e.0
message_writes who message start old new left ends.BadMessage t e = nothing_more who start old.place new.place.taken t e.1.written
message_writes who message start old new left ends.Turns t (inl u, turns, more) = nothing_more who start old.place new.place.taken t u.written
message_writes who message start old new left ends.Turns t (inr u, turns, more) = part_more who message start old.place new.place t u
message_writes who message start old new left ends.Worn t e = nothing_more who start old.place new.place.taken t e.0.written
message_writes who message start old new left ends.NoMemory t (inl u, more) = nothing_more who start old.place new.place.taken t u.written
message_writes who message start old new left ends.NoMemory t (inr u, more) = part_more who message start old.place new.place t u

end_writes : (who : Asker) (start old new : Stand FileEntry) (left : ℕ) (end : SessionEnd) → Talked (IsRound who) start.place old.place → Ends who start old new left end
    → WritesReplies who start.place.taken new.place.taken
end_writes who start old new left end t (starting is here same) =
    nothing_more who start.place old.place new.place.taken t
    (subst (λ (s : Stand FileEntry). Keeps s.place.taken new.place.taken) (sym here) (subst (λ (s : Stand FileEntry). Keeps start.place.taken s.place.taken) (sym same) (Keeps-refl start.place.taken)))
end_writes who start old new left end t (reading cause silent) = nothing_more who start.place old.place new.place.taken t silent.written
end_writes who start old new left end t (answering message ahead whole read ended) = message_writes who message start.place old new left end t ended

pub session_writes : (who : Asker) (budget : ℕ) (old new : Stand FileEntry) (end : SessionEnd) → IsSession who budget old new end → WritesReplies who old.place.taken new.place.taken
session_writes who budget old new end s =
    end_writes who old (record old { place = s.conversation.place }) (record new { place = record new.place { entries = s.said } }) s.conversation.left s.end
    s.conversation.talked s.conversation.ending
