-- Two nodes on a link.
use Rattle.std.proofs.Common.{◌≡◌, inl, inr, ℕ, ◌+◌, ◌<◌, ◌^◌, List, [], ◌∷◌, ◌++◌, length, Option, Some, refl, sym, ap, ◌∙◌, subst, arith, append_assoc, length-append}
use Rattle.std.specs.Prelude.{Contains}
use Rattle.std.specs.List.{AllByRecursion}
use Rattle.std.specs.Io.KnownBytes.{Appends}
use Rattle.lf_base.specs.Name.{IsName}
use Rattle.lf_base.specs.declared.pos.Pos.{Pos}
use Rattle.ltx_codec.specs.declared.file.Ltx.{Ltx}
use Rattle.ltx_codec.specs.FileIn.{file_in}
use Rattle.ltx_codec.specs.Format.{IsLtx}
use Rattle.world_laws.specs.declared.last_file.LastFile.{LastFile}
use Rattle.world_laws.specs.Node as laws
use Rattle.world_laws.specs.Premises.{WasSent}
use Rattle.world_laws.specs.World.{DropFrame, FileFrame, SentFrame, World, sent_by}
use Rattle.node_core.specs.declared.answer.Answer.{Answer}
use Rattle.node_core.specs.declared.answer.Answer.TheVariants as answer
use Rattle.node_core.specs.declared.ask.Ask.{Ask}
use Rattle.node_core.proofs.Deciding.{Decided, is_encoding}
use Rattle.node_core.specs.Moments.{ask_at}
use Rattle.node_core.specs.Safely.{IsAskOf, IsFrameOf, law_answer}
use Rattle.stream_primary.specs.Streaming.{NodeEntry}
use Rattle.stream_primary.specs.Telling.{file_of}
use Rattle.stream_primary.proofs.OneRun.{told_front}
use Rattle.cluster_laws.specs.StreamLaw.{AreShort, AsksInOrder, FollowersAskWhatWasSent, HasSent, IsHelloAsk, WereSent, again, asks_of, next, no_more, sent_asks}
use Rattle.cluster_laws.proofs.Followed.{follower_asked}
use Rattle.cluster_laws.proofs.Sent.{is_written}

-- ---- what was sent, in the ledger

-- an ask is of what was sent, as an ask of the laws
abbrev WasSentAs : World → Option Ltx → Ask → Type 0
WasSentAs w waits asked = (law : laws.Ask) × IsAskOf asked law × WasSent w waits law

-- and is so at whatever moment
abbrev IsSentAsk : World → Option Ltx → Ask → Type 0
IsSentAsk w waits one = (now : ℕ) → WasSentAs w waits (ask_at now one)

in_order_sent : (w : World) (waits : Option Ltx) {asks : List Ask} {entries : List NodeEntry} → AsksInOrder asks entries → AllByRecursion (IsSentAsk w waits) asks → WereSent w waits entries
in_order_sent w waits no_more all = tt
in_order_sent w waits (again now is held rest) all = (subst (WasSentAs w waits) (sym is) (all.0 now), in_order_sent w waits rest all)
in_order_sent w waits (next now is rest) all = (subst (WasSentAs w waits) (sym is) (all.0 now), in_order_sent w waits rest all.1)

-- bytes of which the file that is read in them was sent are such a file, or none
frame_sent : (w : World) (waits : Option Ltx) (bytes : List ℕ) → Contains w.sent (FileFrame (file_in bytes)) → Decided (IsLtx bytes (file_in bytes)) → (law : laws.Ask) × IsFrameOf bytes law × WasSent w waits law
frame_sent w waits bytes sent (inl is) = (laws.Frame (file_in bytes), is, sent)
frame_sent w waits bytes sent (inr none) = (laws.NoFile, none, tt)

-- what a Hello's answer sends
one_sent : (w : World) (waits : Option Ltx) (pos : Pos) (last : Option LastFile) (given : Answer) → ((frame : SentFrame) → Contains (sent_by (laws.Hello pos last) (law_answer given)) frame → Contains w.sent frame)
    → AllByRecursion (IsSentAsk w waits) (asks_of given)
one_sent w waits pos last (answer.Item ltx after) has = (λ now. frame_sent w waits ltx (has (FileFrame (file_in ltx)) (0, omega arith, refl)) (is_encoding ltx), tt)
one_sent w waits pos last answer.Gone has = (λ now. (laws.Drop, refl, has DropFrame (0, omega arith, refl)), tt)
one_sent w waits pos last given has = tt

pub joined : {T : Type 0} (P : T → Type 0) (front back : List T) → AllByRecursion P front → AllByRecursion P back → AllByRecursion P (front ++ back)
joined P [] back some all = all
joined P (x ∷ front) back some all = (some.0, joined P front back some.1 all)

pub second : {T : Type 0} (P : T → Type 0) (front back : List T) → AllByRecursion P (front ++ back) → AllByRecursion P back
second P [] back all = all
second P (x ∷ front) back all = second P front back all.1

all_sent : (w : World) (waits : Option Ltx) (hellos : List NodeEntry) → AllByRecursion IsHelloAsk hellos → HasSent w hellos → AllByRecursion (IsSentAsk w waits) (sent_asks hellos)
all_sent w waits [] each has = tt
all_sent w waits (one ∷ more) each has =
    let hello : laws.Ask = laws.Hello each.0.1 each.0.2 in
    let as_hello : IsAskOf one.ask hello = subst (λ (a : Ask). IsAskOf a hello) (sym each.0.3) refl in
    joined (IsSentAsk w waits) (asks_of one.answer) (sent_asks more) (one_sent w waits each.0.1 each.0.2 one.answer (has.0 hello as_hello)) (all_sent w waits more each.1 has.1)

-- ---- the law

name_few : (name : List ℕ) → IsName name → length name < 2 ^ 32
name_few name is = let l = is.fits in omega (arith, l)

known_appends : (a b : Option (List ℕ)) (bytes whole : List ℕ) → a ≡ Some [] → b ≡ Some whole → Appends a b bytes → whole ≡ bytes
known_appends a b bytes whole none some appends =
    subst (λ (o : Option (List ℕ)). Appends (Some []) o bytes) some (subst (λ (o : Option (List ℕ)). Appends o b bytes) none appends)

pub ask_what_was_sent : FollowersAskWhatWasSent
ask_what_was_sent who other name here from unknown budget turns stream_old stream_new old new end how is_name is_here streams follows link shorts =
    let t = told_front who name from stream_old stream_new turns end streams in
    let hellos : List NodeEntry = t.0 in
    let short : AreShort hellos = second (λ (one : NodeEntry). length (file_of one.answer) < 2 ^ 64) stream_old.place.entries hellos (subst AreShort t.2 shorts) in
    let w = is_written name from hellos (name_few name is_name) short in
    let sent_is : link.sent ≡ t.1 = known_appends stream_old.place.taken stream_new.place.taken t.1 link.sent link.new link.took t.4 in
    let lost : List ℕ = link.front.0 in
    let unsaid : List ℕ = t.5.0 in
    let beyond : List ℕ = w.2.0 in
    let x : List ℕ = lost ++ (unsaid ++ beyond) in
    let whole : link.got ++ x ≡ w.0 =
    sym (append_assoc link.got lost (unsaid ++ beyond)) ∙ ap (λ (bytes : List ℕ). bytes ++ (unsaid ++ beyond)) (link.front.1 ∙ sent_is)
    ∙ sym (append_assoc t.1 unsaid beyond) ∙ ap (λ (bytes : List ℕ). bytes ++ beyond) t.5.1 ∙ w.2.1 in
    let got_few : length link.got < 2 ^ 64 = omega (arith, link.short, ap length link.front.1, length-append link.got lost) in
    let f = follower_asked other here w.0 x link.got (sent_asks hellos) unknown budget old new how (name_few here is_here) got_few link.gave whole w.1 follows in
    record {
      hellos = hellos;
      told = t.2;
      each = t.3;
      place = f.place;
      asks_where = f.asks_where_it_stands;
      asked = f.asked;
      entries = f.entries;
      in_order = f.in_order;
      were_sent = λ world waits has. in_order_sent world waits f.in_order (all_sent world waits hellos t.3 has);
    }
