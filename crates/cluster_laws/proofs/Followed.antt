-- What a follower asks of a text that a stream wrote.
use Rattle.std.proofs.Common.{◌≡◌, ℕ, ◌+◌, ◌<◌, ◌^◌, Bool, List, [], ◌∷◌, ◌++◌, length, Option, None, Some, IfSome, Err, refl, sym, ap, ◌∙◌, subst, arith, append_assoc, append-nil, length-append}
use Rattle.std.specs.List.{flat_map, AllByRecursion}
use Rattle.std.specs.Io.KnownBytes.{Consumes, Keeps}
use Rattle.std.proofs.lemmas.List.{drop_all}
use Rattle.http.specs.StatusCode.{IsStatusCode}
use Rattle.httparse.specs.Grammar.{ReadsResponse, ResponseHead, status_code}
use Rattle.httparse.proofs.GrammarLemmas.{ReadsResponse-append, response_unique}
use Rattle.turn_desk.specs.History.{entry}
use Rattle.link_session.specs.Asking.{AskedUntil, IsAgain}
use Rattle.link_session.specs.Rounds.{Place, Round}
use Rattle.link_session.specs.Stands.{Asker, Stand}
use Rattle.node_core.specs.declared.answer.Answer.{Answer}
use Rattle.node_core.specs.declared.answer.Answer.TheVariants as answer
use Rattle.node_core.specs.declared.ask.Ask.{Ask}
use Rattle.node_core.specs.declared.ask.Ask.TheVariants as ask
use Rattle.stream_wire.specs.declared.frame.Frame.{Frame}
use Rattle.stream_wire.specs.declared.frame.Frame.TheVariants as frame
use Rattle.stream_wire.specs.Frame.{frame_text, pos_body}
use Rattle.stream_wire.specs.Writing.{reply_head}
use Rattle.stream_wire.proofs.Reading.{length_in}
use Rattle.stream_wire.proofs.Written.{code_value, phrase_of, reads_reply, reply_of}
use Rattle.replica_apply.specs.declared.follow_end.FollowEnd.{FollowEnd}
use Rattle.replica_apply.specs.declared.follow_end.FollowEnd.TheVariants as ends
use Rattle.replica_apply.specs.Asking.{IsAskOf, NodeEntry, drop as a_drop, file as a_file, manner}
use Rattle.replica_apply.specs.Following.{Ends, EndsAnswer, EndsFrames, Follows, SaysWhere, StopsAt, answered, asks_where, at_frame, between, no_stream, stream, unplaced, unsent}
use Rattle.replica_apply.specs.Frames.{EndsFrame, IsAnswered, IsHeldBack, IsRound, applied, had, level}
use Rattle.replica_apply.specs.Heads.{IsHead}
use Rattle.cluster_laws.specs.StreamLaw.{AsksInOrder, again, next, no_more}
use Rattle.cluster_laws.proofs.Frames.{BeginsBy, Fits, pos_len, reads_one, texts}
use Rattle.cluster_laws.proofs.Sent.{IsWritten, a_refusal, a_stream, asks_drop, asks_file, asks_in, asks_ready, frame_asks}

-- ---- texts that are known

kept_some : (xs : List ℕ) (b : Option (List ℕ)) → Keeps (Some xs) b → b ≡ Some xs
kept_some xs None kept = absurd kept
kept_some xs (Some ys) kept = ap (λ (l : List ℕ). Some l) kept

consumed_some : (xs bytes : List ℕ) (b : Option (List ℕ)) → Consumes (Some xs) b bytes → (ys : List ℕ) × (b ≡ Some ys) × (xs ≡ bytes ++ ys)
consumed_some xs bytes None read = absurd read
consumed_some xs bytes (Some ys) read = (ys, refl, read)

pub kept_on : (a b : Option (List ℕ)) (xs : List ℕ) → a ≡ Some xs → Keeps a b → b ≡ Some xs
kept_on a b xs known kept = kept_some xs b (subst (λ (o : Option (List ℕ)). Keeps o b) known kept)

pub read_on : (a b : Option (List ℕ)) (xs bytes : List ℕ) → a ≡ Some xs → Consumes a b bytes → (ys : List ℕ) × (b ≡ Some ys) × (xs ≡ bytes ++ ys)
read_on a b xs bytes known read = consumed_some xs bytes b (subst (λ (o : Option (List ℕ)). Consumes o b bytes) known read)

-- ---- the head

-- a head of status 200 in front of a text that begins with a reply's head is this head
pub head_is : (bytes rest body : List ℕ) (status : ℕ) (len : Option ℕ) → IsHead 200 bytes → IsStatusCode status → IfSome len (λ n. n < 2 ^ 64) → bytes ++ rest ≡ reply_head status len ++ body
    → (status ≡ 200) × (rest ≡ body)
head_is bytes rest body status len is code fits e =
    let h : ResponseHead = is.1.head in
    let written : ResponseHead = reply_of status (phrase_of status) len in
    let whole : ReadsResponse bytes h [] = subst (λ (l : List ℕ). ReadsResponse bytes h l) (drop_all (length bytes) bytes (omega arith)) is.1.reads in
    let read : ReadsResponse (reply_head status len ++ body) h rest = subst (λ (l : List ℕ). ReadsResponse l h rest) e (ReadsResponse-append bytes h [] rest whole) in
    let same = response_unique (reply_head status len ++ body) h written rest body read (reads_reply status len body code fits) in
    let read_code : 200 ≡ status_code h = is.1.status_is in
    (sym (read_code ∙ ap status_code same.0 ∙ code_value status code), same.1)

-- ---- one frame

-- asks of one frame, of which the last settles it
until_in_order : (who : Asker) (one : Ask) (asks : List Ask) (entries more : List NodeEntry) (given : Answer) → AskedUntil (manner who) one [] entries given → AsksInOrder asks more
    → AsksInOrder (one ∷ asks) (entries ++ more)
until_in_order who one asks entries more given a rest =
    subst (λ (es : List NodeEntry). AsksInOrder (one ∷ asks) (es ++ more)) (sym a.entries) (go a.repeated a.each)
  where
    go : (repeated : List NodeEntry) → AllByRecursion (IsAgain (manner who) one) repeated → AsksInOrder (one ∷ asks) ((repeated ++ entry who.caller a.last given ∷ []) ++ more)
    go [] each = next a.asked.now a.asked.is rest
    go (x ∷ repeated) each = again each.0.asked.now each.0.asked.is each.0.again (go repeated each.1)

-- asks of one that was held back to the end
vain_in_order : (who : Asker) (one : Ask) (asks : List Ask) (repeated : List NodeEntry) → AllByRecursion (IsAgain (manner who) one) repeated → AsksInOrder (one ∷ asks) repeated
vain_in_order who one asks [] each = no_more
vain_in_order who one asks (x ∷ repeated) each = again each.0.asked.now each.0.asked.is each.0.again (vain_in_order who one asks repeated each.1)

-- the frame that a follower read is the first of those that were written
record IsFirstFrame (asked : Ask) (rest : List ℕ) (frames : List Frame) : Type 0 where
  left : List Frame
  fit : AllByRecursion Fits left
  rest_is : rest ≡ texts left
  asks : asks_in frames ≡ asked ∷ asks_in left

first_of : (asked : Ask) (k : ℕ) (body rest : List ℕ) (frames : List Frame) (b : BeginsBy k body rest frames) → frame_asks b.first ≡ asked ∷ [] → IsFirstFrame asked rest frames
first_of asked k body rest frames b is = record {
  left = b.left;
  fit = b.fit;
  rest_is = b.rest_is;
  asks = ap asks_in b.is ∙ ap (λ (l : List Ask). l ++ asks_in b.left) is;
}

first_asked : (name text rest : List ℕ) (asked : Ask) (frames : List Frame) → length name < 2 ^ 32 → length text < 2 ^ 64 → AllByRecursion Fits frames → IsAskOf name text asked → text ++ rest ≡ texts frames
    → IsFirstFrame asked rest frames
first_asked name text rest asked frames fits few fit (a_file bytes is same) e =
    let written : frame_text (frame.Ltx name bytes) ++ rest ≡ texts frames = ap (λ (l : List ℕ). l ++ rest) (sym is) ∙ e in
    let short : length bytes < 2 ^ 64 = omega (arith, few, ap length is, length_in 1 name bytes) in
    let b : BeginsBy 1 bytes rest frames = reads_one 1 name bytes rest frames (omega arith) fits short fit written in
    first_of asked 1 bytes rest frames b (asks_file b.first bytes b.kind b.body_is ∙ ap (λ (q : Ask). q ∷ []) (sym same))
first_asked name text rest asked frames fits few fit (a_drop is same) e =
    let written : frame_text (frame.Drop name) ++ rest ≡ texts frames = ap (λ (l : List ℕ). l ++ rest) (sym is) ∙ e in
    let b : BeginsBy 4 [] rest frames = reads_one 4 name [] rest frames (omega arith) fits (omega arith) fit written in
    first_of asked 4 [] rest frames b (asks_drop b.first b.kind ∙ ap (λ (q : Ask). q ∷ []) (sym same))

-- ---- rounds

abbrev messages : List (Round NodeEntry) → List ℕ
messages rounds = flat_map (λ round. round.message) rounds

abbrev asked_in : List (Round NodeEntry) → List NodeEntry
asked_in rounds = flat_map (λ round. round.entries) rounds

-- behind these rounds the text is of these frames, and what is asked of them is asked behind the rounds' asks
record Behind (rounds : List (Round NodeEntry)) (rest : List ℕ) (frames : List Frame) : Type 0 where
  left : List Frame
  fit : AllByRecursion Fits left
  rest_is : rest ≡ texts left
  then : (more : List NodeEntry) → AsksInOrder (asks_in left) more → AsksInOrder (asks_in frames) (asked_in rounds ++ more)

-- a round of a frame that was asked until it was answered
round_behind : (who : Asker) (name : List ℕ) (round : Round NodeEntry) (rounds : List (Round NodeEntry)) (rest : List ℕ) (frames : List Frame) → length name < 2 ^ 32
    → length (round.message ++ messages rounds) < 2 ^ 64 → AllByRecursion Fits frames
    → ((left : List Frame) → AllByRecursion Fits left → messages rounds ++ rest ≡ texts left → Behind rounds rest left)
    → (asked : Ask) (given : Answer) → IsAskOf name round.message asked → AskedUntil (manner who) asked [] round.entries given
    → (round.message ++ messages rounds) ++ rest ≡ texts frames → Behind (round ∷ rounds) rest frames
round_behind who name round rounds rest frames fits few fit others asked given is until e =
    let here : length round.message < 2 ^ 64 = omega (arith, few, length-append round.message (messages rounds)) in
    let f : IsFirstFrame asked (messages rounds ++ rest) frames =
    first_asked name round.message (messages rounds ++ rest) asked frames fits here fit is (sym (append_assoc round.message (messages rounds) rest) ∙ e) in
    let b : Behind rounds rest f.left = others f.left f.fit f.rest_is in
    record {
      left = b.left;
      fit = b.fit;
      rest_is = b.rest_is;
      then = λ more x. subst (λ (asks : List Ask). AsksInOrder asks ((round.entries ++ asked_in rounds) ++ more)) (sym f.asks)
          (subst (λ (es : List NodeEntry). AsksInOrder (asked ∷ asks_in f.left) es) (sym (append_assoc round.entries (asked_in rounds) more))
          (until_in_order who asked (asks_in f.left) round.entries (asked_in rounds ++ more) given until (b.then more x)));
    }

one_behind : (who : Asker) (name : List ℕ) (round : Round NodeEntry) (rounds : List (Round NodeEntry)) (rest : List ℕ) (frames : List Frame) → length name < 2 ^ 32
    → length (round.message ++ messages rounds) < 2 ^ 64 → AllByRecursion Fits frames
    → ((left : List Frame) → AllByRecursion Fits left → messages rounds ++ rest ≡ texts left → Behind rounds rest left)
    → IsRound who name round → (round.message ++ messages rounds) ++ rest ≡ texts frames → Behind (round ∷ rounds) rest frames
one_behind who name round rounds rest frames fits few fit others (applied asked pos is until silent) e =
    round_behind who name round rounds rest frames fits few fit others asked (answer.Applied pos) is until e
one_behind who name round rounds rest frames fits few fit others (had asked pos is until silent) e =
    round_behind who name round rounds rest frames fits few fit others asked (answer.Same pos) is until e
one_behind who name round rounds rest frames fits few fit others (level pos is none silent) e =
    let written : frame_text (frame.Ready name pos) ++ (messages rounds ++ rest) ≡ texts frames =
    ap (λ (l : List ℕ). l ++ (messages rounds ++ rest)) (sym is) ∙ sym (append_assoc round.message (messages rounds) rest) ∙ e in
    let r : BeginsBy 2 (pos_body pos) (messages rounds ++ rest) frames =
    reads_one 2 name (pos_body pos) (messages rounds ++ rest) frames (omega arith) fits (omega (arith, pos_len pos)) fit written in
    let b : Behind rounds rest r.left = others r.left r.fit r.rest_is in
    let asks : asks_in frames ≡ asks_in r.left = ap asks_in r.is ∙ ap (λ (l : List Ask). l ++ asks_in r.left) (asks_ready r.first r.kind) in
    record {
      left = b.left;
      fit = b.fit;
      rest_is = b.rest_is;
      then = λ more x. subst (λ (qs : List Ask). AsksInOrder qs ((round.entries ++ asked_in rounds) ++ more)) (sym asks)
          (subst (λ (es : List NodeEntry). AsksInOrder (asks_in r.left) ((es ++ asked_in rounds) ++ more)) (sym none) (b.then more x));
    }

rounds_behind : (who : Asker) (name : List ℕ) (rounds : List (Round NodeEntry)) (rest : List ℕ) (frames : List Frame) → length name < 2 ^ 32 → length (messages rounds) < 2 ^ 64
    → AllByRecursion Fits frames → AllByRecursion (IsRound who name) rounds → messages rounds ++ rest ≡ texts frames → Behind rounds rest frames
rounds_behind who name [] rest frames fits few fit each e = record { left = frames; fit = fit; rest_is = e; then = λ more x. x }
rounds_behind who name (round ∷ rounds) rest frames fits few fit each e =
    one_behind who name round rounds rest frames fits few fit
    (λ left fine same. rounds_behind who name rounds rest left fits (omega (arith, few, length-append round.message (messages rounds))) fine each.1 same) each.0 e

-- ---- the last frame

-- what was asked behind the rounds
record LastAsked (asks : List Ask) (old new : List NodeEntry) : Type 0 where
  entries : List NodeEntry
  are : new ≡ old ++ entries
  in_order : AsksInOrder asks entries

none_asked : (asks : List Ask) (old new : List NodeEntry) → new ≡ old → LastAsked asks old new
none_asked asks old new same = record { entries = []; are = same ∙ sym (append-nil old); in_order = no_more }

module _ (who : Asker) (name text rest : List ℕ) (frames : List Frame) (fits : length name < 2 ^ 32) (few : length text < 2 ^ 64) (fit : AllByRecursion Fits frames) (e : text ++ rest ≡ texts frames)
    (old new : List NodeEntry) where
  answered_last : (given : Answer) → IsAnswered who name text given old new → LastAsked (asks_in frames) old new
  answered_last given a =
      let f : IsFirstFrame a.asked rest frames = first_asked name text rest a.asked frames fits few fit a.is e in
      let own : List NodeEntry = a.until.repeated ++ entry who.caller a.until.last given ∷ [] in
      let until : AskedUntil (manner who) a.asked [] own given =
      record { repeated = a.until.repeated; last = a.until.last; each = a.until.each; asked = a.until.asked; settled = a.until.settled; entries = refl } in
      record {
        entries = own;
        are = a.until.entries;
        in_order = subst (λ (asks : List Ask). AsksInOrder asks own) (sym f.asks)
            (subst (λ (es : List NodeEntry). AsksInOrder (a.asked ∷ asks_in f.left) es) (append-nil own)
            (until_in_order who a.asked (asks_in f.left) own [] given until no_more));
      }

  held_last : IsHeldBack who name text old new → LastAsked (asks_in frames) old new
  held_last h =
      let f : IsFirstFrame h.asked rest frames = first_asked name text rest h.asked frames fits few fit h.is e in
      record {
        entries = h.vain.repeated;
        are = h.vain.entries;
        in_order = subst (λ (asks : List Ask). AsksInOrder asks h.vain.repeated) (sym f.asks) (vain_in_order who h.asked (asks_in f.left) h.vain.repeated h.vain.each);
      }

  last_frame : (turns : ℕ) (end : FollowEnd) → EndsFrame {T = Unit {0}} who name text old new turns (Err end) → LastAsked (asks_in frames) old new
  last_frame turns ends.Ended x = none_asked (asks_in frames) old new x.1
  last_frame turns ends.BadFrame x = none_asked (asks_in frames) old new x.1
  last_frame turns (ends.Refused why) x = answered_last (answer.Refused why) x
  last_frame turns ends.Turns x = held_last x.0
  last_frame turns ends.Worn x = held_last x
  last_frame turns ends.OddAnswer x = answered_last x.0 x.1
  last_frame turns end x = absurd x

-- ---- all frames

-- what was asked of a text of these frames behind a head
module _ (who : Asker) (name : List ℕ) (frames : List Frame) (x got : List ℕ) (fits : length name < 2 ^ 32) (fit : AllByRecursion Fits frames) (few : length got < 2 ^ 64)
    (start new : Stand NodeEntry) (known : start.place.text ≡ Some got) (e : got ++ x ≡ texts frames) where
  stops_at : (place : Place NodeEntry) (l : List ℕ) (left : List Frame) (before turns : ℕ) (end : FollowEnd) → place.text ≡ Some l → length l < 2 ^ 64 → AllByRecursion Fits left → l ++ x ≡ texts left
      → StopsAt who name place before new turns end → LastAsked (asks_in left) place.entries new.place.entries
  stops_at place l left before turns end here short fine same (between why cause is still) = none_asked (asks_in left) place.entries new.place.entries still.asked
  stops_at place l left before turns end here short fine same (at_frame text ahead is read ended kept faults) =
      let on = read_on place.text new.place.text l (text ++ ahead) here read in
      let parts : l ≡ text ++ (ahead ++ on.0) = on.2 ∙ append_assoc text ahead on.0 in
      let rest : text ++ ((ahead ++ on.0) ++ x) ≡ texts left = sym (append_assoc text (ahead ++ on.0) x) ∙ ap (λ (bytes : List ℕ). bytes ++ x) (sym parts) ∙ same in
      last_frame who name text ((ahead ++ on.0) ++ x) left fits (omega (arith, short, ap length parts, length-append text (ahead ++ on.0))) fine rest place.entries new.place.entries turns end ended

  frames_asked : (turns : ℕ) (end : FollowEnd) → EndsFrames who name start new turns end → LastAsked (asks_in frames) start.place.entries new.place.entries
  frames_asked turns end f =
      let rounds : List (Round NodeEntry) = f.talked.rounds in
      let on = read_on start.place.text f.place.text got (messages rounds) known f.talked.read in
      let sizes : length got ≡ length (messages rounds) + length on.0 = ap length on.2 ∙ length-append (messages rounds) on.0 in
      let text : messages rounds ++ (on.0 ++ x) ≡ texts frames = sym (append_assoc (messages rounds) on.0 x) ∙ ap (λ (bytes : List ℕ). bytes ++ x) (sym on.2) ∙ e in
      let b : Behind rounds (on.0 ++ x) frames = rounds_behind who name rounds (on.0 ++ x) frames fits (omega (arith, few, sizes)) fit f.talked.each text in
      let last : LastAsked (asks_in b.left) f.place.entries new.place.entries =
      stops_at f.place on.0 b.left start.faults turns end on.1 (omega (arith, few, sizes)) b.fit b.rest_is f.stops in
      record {
        entries = asked_in rounds ++ last.entries;
        are = last.are ∙ ap (λ (es : List NodeEntry). es ++ last.entries) f.talked.asked ∙ append_assoc start.place.entries (asked_in rounds) last.entries;
        in_order = b.then last.entries last.in_order;
      }

-- ---- the whole of it

-- a reply that was asked for
answer_asked : (who : Asker) (name whole x got : List ℕ) (asks : List Ask) (old new : Stand NodeEntry) (turns : ℕ) (end : FollowEnd) → length name < 2 ^ 32 → length got < 2 ^ 64
    → old.place.text ≡ Some got → got ++ x ≡ whole → IsWritten asks whole → EndsAnswer who name old new turns end → LastAsked asks old.place.entries new.place.entries
answer_asked who name whole x got asks old new turns end fits few known e written (no_stream cause still) = none_asked asks old.place.entries new.place.entries still.asked
answer_asked who name whole x got asks old new turns end fits few known e (a_refusal status len body is odd code fit) (stream start read still faults more) =
    let on = read_on old.place.text start.place.text got read.head known read.read in
    let text : read.head ++ (on.0 ++ x) ≡ reply_head status len ++ body = sym (append_assoc read.head on.0 x) ∙ ap (λ (bytes : List ℕ). bytes ++ x) (sym on.2) ∙ e ∙ is in
    absurd (odd (head_is read.head (on.0 ++ x) body status len read.is code fit text).0)
answer_asked who name whole x got asks old new turns end fits few known e (a_stream frames is fit asks_are) (stream start read still faults more) =
    let on = read_on old.place.text start.place.text got read.head known read.read in
    let text : read.head ++ (on.0 ++ x) ≡ reply_head 200 None ++ texts frames = sym (append_assoc read.head on.0 x) ∙ ap (λ (bytes : List ℕ). bytes ++ x) (sym on.2) ∙ e ∙ is in
    let rest : on.0 ++ x ≡ texts frames = (head_is read.head (on.0 ++ x) (texts frames) 200 None read.is (omega arith, omega arith) tt text).1 in
    let last : LastAsked (asks_in frames) start.place.entries new.place.entries =
    frames_asked who name frames x on.0 fits fit (omega (arith, few, ap length on.2, length-append read.head on.0)) start new on.1 rest turns end more in
    record {
      entries = last.entries;
      are = last.are ∙ ap (λ (es : List NodeEntry). es ++ last.entries) still.asked;
      in_order = subst (λ (qs : List Ask). AsksInOrder qs last.entries) asks_are last.in_order;
    }

-- the question where the node stands, and what was asked behind it
pub record FollowerAsked (asks : List Ask) (old new : List NodeEntry) : Type 0 where
  pub place : List NodeEntry
  pub asks_where_it_stands : AllByRecursion (λ one. one.ask ≡ ask.Where) place
  pub asked : List NodeEntry
  pub entries : new ≡ old ++ (place ++ asked)
  pub in_order : AsksInOrder asks asked

nothing_asked : (asks : List Ask) (old new : List NodeEntry) → new ≡ old → FollowerAsked asks old new
nothing_asked asks old new same = record { place = []; asks_where_it_stands = tt; asked = []; entries = same ∙ sym (append-nil old); in_order = no_more }

where_asked : (caller : ℕ) (given : Answer) (asks : List Ask) (old mid new : List NodeEntry) → mid ≡ asks_where caller given old → LastAsked asks mid new → FollowerAsked asks old new
where_asked caller given asks old mid new same last = record {
  place = entry caller ask.Where given ∷ [];
  asks_where_it_stands = (refl, tt);
  asked = last.entries;
  entries = last.are ∙ ap (λ (es : List NodeEntry). es ++ last.entries) same ∙ append_assoc old (entry caller ask.Where given ∷ []) last.entries;
  in_order = last.in_order;
}

only_where : (caller : ℕ) (given : Answer) (asks : List Ask) (old new : List NodeEntry) → new ≡ asks_where caller given old → FollowerAsked asks old new
only_where caller given asks old new same = where_asked caller given asks old new new same (none_asked asks new new refl)

not_placed : (caller : ℕ) (asks : List Ask) (old new : List NodeEntry) (turns : ℕ) (end : FollowEnd) → SaysWhere caller old new turns (Err end) → FollowerAsked asks old new
not_placed caller asks old new turns (ends.Refused why) x = only_where caller (answer.Refused why) asks old new x
not_placed caller asks old new turns ends.Turns x = nothing_asked asks old new x.0
not_placed caller asks old new turns ends.Worn x = nothing_asked asks old new x
not_placed caller asks old new turns ends.OddAnswer x = only_where caller x.0 asks old new x.1
not_placed caller asks old new turns end x = absurd x

pub follower_asked : (who : Asker) (name whole x got : List ℕ) (asks : List Ask) (unknown : Bool) (budget : ℕ) (old new : Stand NodeEntry) (end : FollowEnd) → length name < 2 ^ 32 → length got < 2 ^ 64
    → old.place.text ≡ Some got → got ++ x ≡ whole → IsWritten asks whole → Follows who name unknown budget old new end → FollowerAsked asks old.place.entries new.place.entries
follower_asked who name whole x got asks unknown budget old new end fits few known e written f = go f.ends
  where
    go : Ends who name unknown old new f.left end → FollowerAsked asks old.place.entries new.place.entries
    go (unplaced says kept text faults) = not_placed who.caller asks old.place.entries new.place.entries f.left end says
    go (unsent pos same cause text) = only_where who.caller (answer.At pos) asks old.place.entries new.place.entries same
    go (answered pos asked_for same wrote kept faults ends_so) =
        where_asked who.caller (answer.At pos) asks old.place.entries asked_for.place.entries new.place.entries same
        (answer_asked who name whole x got asks asked_for new f.left end fits few (kept_on old.place.text asked_for.place.text got known kept) e written ends_so)
