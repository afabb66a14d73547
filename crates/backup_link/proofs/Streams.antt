-- Frames, one behind another.
use Rattle.std.proofs.Common.{◌≡◌, ◌≢◌, ◌⊎◌, inl, inr, Bool, true, false, true≢false, ℕ, List, [], ◌∷◌, ◌++◌, length, Result, Ok, Err, refl, sym, ap, ◌∙◌, subst, append_assoc, append-nil, arith}
use Rattle.std.proofs.lemmas.Bool.{eqb-true}
use Rattle.std.specs.Io.KnownBytes.{IsAtEnd}
use Rattle.std.specs.Prelude.{◌==◌, IfErr}
use Rattle.lf_base.specs.declared.pos.Pos.{Pos}
use Rattle.lf_base.specs.declared.link.Link.{Ghosts as LinkGhosts}
use Rattle.http_exchange.specs.Reading.{Gave, GaveMore}
use Rattle.http_exchange.specs.declared.told.Untold.{Untold}
use Rattle.http_exchange.specs.declared.told.Untold.TheVariants as untold
use Rattle.http_exchange.proofs.Giving.{gave_none, gave_on, more_on}
use Rattle.ltx_codec.specs.declared.file.Ltx.{Ltx}
use Rattle.stream_wire.specs.Frame.{frame_text}
use Rattle.stream_wire.specs.Front.{part, BeginsWith}
use Rattle.stream_wire.specs.declared.frame.Frame.{Frame}
use Rattle.stream_wire.specs.declared.frame.Frame.TheVariants as frame
use Rattle.stream_wire.specs.declared.wire_fault.WireFault.{WireFault}
use Rattle.stream_wire.specs.declared.wire_fault.WireFault.TheVariants as wire
use Rattle.backup_link.specs.Adding.{RefusesBytes}
use Rattle.backup_link.specs.Endings.{IsStopped, of_backup, untold_of}
use Rattle.backup_link.specs.Fetching.{AreFileFrames, IsFileFrame, StopsAt, at_frame, level, no_file, unread}
use Rattle.backup_link.specs.Following.{AddsNext, Follows, GaveLast, ended_by}
use Rattle.backup_link.specs.Frames.{Breaks, GaveFrame, GaveNoFrame, UntellsFrame, frame_limit}
use Rattle.backup_link.specs.Keeping.{ButForDisk, KeepsAdded, Shelf}
use Rattle.backup_link.specs.declared.unfetched.Unfetched.{Unfetched}
use Rattle.backup_link.specs.declared.unfetched.Unfetched.TheVariants as unfetched
use Rattle.backup_link.proofs.Keeps.{but_for_disk, keeps_last}

-- ---- one frame

-- bytes that begin no frame are no fault of the link
no_fault : (f : WireFault) → untold.Fault ≡ untold_of f → ⊥
no_fault wire.Head e = absurd (cc)
no_fault wire.Length e = absurd (cc)
no_fault (wire.Kind kind) e = absurd (cc)
no_fault wire.NameText e = absurd (cc)
no_fault (wire.TooLong len) e = absurd (cc)
no_fault wire.NoMemory e = absurd (cc)

pub broken_untells : (bytes : List ℕ) (ended : Type 0) (why : Untold) → (why ≡ untold.NoMemory) ⊎ Breaks bytes why → UntellsFrame bytes ended why
broken_untells bytes ended untold.Unfit (inl e) = absurd (cc)
broken_untells bytes ended untold.Unfit (inr b) = inl b
broken_untells bytes ended untold.TooLong (inl e) = absurd (cc)
broken_untells bytes ended untold.TooLong (inr b) = b
broken_untells bytes ended untold.Fault (inl e) = absurd (cc)
broken_untells bytes ended untold.Fault (inr b) = absurd (no_fault b.fault b.why_is)
broken_untells bytes ended untold.Turns b = tt
broken_untells bytes ended untold.NoMemory b = tt

pub stopped_untells : (bytes : List ℕ) (ended : Type 0) (why : Untold) → BeginsWith frame_limit bytes part → IsStopped why → UntellsFrame bytes ended why
stopped_untells bytes ended untold.Fault begins stopped = begins
stopped_untells bytes ended untold.Turns begins stopped = tt
stopped_untells bytes ended untold.Unfit begins stopped = absurd stopped
stopped_untells bytes ended untold.TooLong begins stopped = absurd stopped
stopped_untells bytes ended untold.NoMemory begins stopped = absurd stopped

-- a piece came behind what is held
pub piece_on : {L : Type 0} (l : LinkGhosts L) (a b c : L) (first held piece : List ℕ) → GaveMore l a b first held → Gave l b c piece → GaveMore l a c first (held ++ piece)
piece_on l a b c first held piece g h = more_on l a b c first held (held ++ piece) g (record { more = piece; gave = h; behind = refl })

-- what is held is a frame and what was read behind it
pub frame_held : {L : Type 0} (l : LinkGhosts L) (a b : L) (first held piece : List ℕ) (f : Frame) → GaveMore l a b first held → held ≡ frame_text f ++ piece → GaveFrame l a b first piece f
frame_held l a b first held piece f g is = record { more = g.more; gave = g.gave; next = sym g.behind ∙ is }

-- no frame is whole
pub none_held : {L : Type 0} (l : LinkGhosts L) (a b : L) (first held : List ℕ) (why : Untold) → GaveMore l a b first held → UntellsFrame held (IsAtEnd (l.left b)) why → GaveNoFrame l a b first why
none_held l a b first held why g untells =
    record { more = g.more; gave = g.gave; why_is = subst (λ (bytes : List ℕ). UntellsFrame bytes (IsAtEnd (l.left b)) why) g.behind untells }

-- no bytes, by the test
pub no_bytes : (bytes : List ℕ) → (length bytes == 0) ≡ true → bytes ≡ []
no_bytes [] test = refl
no_bytes (b ∷ bytes) test = let none : length (b ∷ bytes) ≡ 0 = eqb-true (length (b ∷ bytes)) 0 test in absurd (omega (arith, none))

-- the input ended inside a frame
pub ended_inside : {L : Type 0} (l : LinkGhosts L) (a b c : L) (first held piece : List ℕ) → GaveMore l a b first held → Gave l b c piece → piece ≡ [] → BeginsWith frame_limit held part
    → IsAtEnd (l.left c) → GaveNoFrame l a c first untold.Unfit
ended_inside l a b c first held piece g h none begins end =
    let all : held ++ piece ≡ held = ap (λ (p : List ℕ). held ++ p) none ∙ append-nil held in
    none_held l a c first held untold.Unfit (subst (λ (now : List ℕ). GaveMore l a c first now) all (piece_on l a b c first held piece g h)) (inr (begins, end))

-- ---- a frame that adds nothing

-- why bytes of a file's frame are not added is why its frame is not
pub stops_by_bytes : (name bytes : List ℕ) (f : Frame) (why : Unfetched) → f ≡ frame.Ltx name bytes → RefusesBytes bytes why → StopsAt name (frame_text f) why
stops_by_bytes name bytes f (unfetched.Untold untold.Unfit) is h = no_file bytes (ap frame_text is) h
stops_by_bytes name bytes f (unfetched.Untold untold.NoMemory) is h = tt
stops_by_bytes name bytes f (unfetched.Untold untold.Fault) is h = absurd h
stops_by_bytes name bytes f (unfetched.Untold untold.TooLong) is h = absurd h
stops_by_bytes name bytes f (unfetched.Untold untold.Turns) is h = absurd h
stops_by_bytes name bytes f unfetched.Reply is h = absurd h
stops_by_bytes name bytes f unfetched.Dropped is h = absurd h
stops_by_bytes name bytes f (unfetched.Backup why) is h =
    record { file = h.0; is = record { bytes = bytes; is = h.1; text_is = ap frame_text is }; end = h.2; refused = h.3 }

-- the last frame that was read
pub last_frame : {L : Type 0} (l : LinkGhosts L) (name : List ℕ) (a b : L) (ahead ahead_now : List ℕ) (kept : Type 0) (f : Frame) (r : Result Bool Unfetched)
    → GaveFrame l a b ahead ahead_now f → (r ≡ Ok true → (pos : Pos) × (frame_text f ≡ frame_text (frame.Ready name pos))) → IfErr r (StopsAt name (frame_text f))
    → ButForDisk (of_backup (ended_by r)) kept → r ≢ Ok false → GaveLast l name a b ahead kept (ended_by r)
last_frame l name a b ahead ahead_now kept f (Ok true) g ready stops keeps other =
    let is = ready refl in
    record { more = g.more; gave = g.gave; ends = level is.0 ahead_now (g.next ∙ ap (λ (t : List ℕ). t ++ ahead_now) is.1) refl; keeps = keeps }
last_frame l name a b ahead ahead_now kept f (Ok false) g ready stops keeps other = absurd (other refl)
last_frame l name a b ahead ahead_now kept f (Err why) g ready stops keeps other =
    record { more = g.more; gave = g.gave; ends = at_frame (frame_text f) ahead_now why g.next stops refl; keeps = keeps }

-- none was read
pub last_none : {L : Type 0} (l : LinkGhosts L) (name : List ℕ) (a b : L) (ahead : List ℕ) (kept : Type 0) (why : Untold) → GaveNoFrame l a b ahead why → kept
    → GaveLast l name a b ahead kept (Err (unfetched.Untold why))
last_none l name a b ahead kept why g keeps = record { more = g.more; gave = g.gave; ends = unread why g.why_is refl; keeps = keeps }

pub no_turn : {L : Type 0} (l : LinkGhosts L) (name : List ℕ) (a : L) (ahead : List ℕ) (kept : Type 0) → kept → GaveLast l name a a ahead kept (Err (unfetched.Untold untold.Turns))
no_turn l name a ahead kept keeps = record { more = []; gave = gave_none l a; ends = unread untold.Turns tt refl; keeps = keeps }

pub ended_at : {L : Type 0} (l : LinkGhosts L) (name : List ℕ) (a b : L) (ahead : List ℕ) (kept : Type 0) (given result : Result (Unit {0}) Unfetched) → given ≡ result
    → GaveLast l name a b ahead kept given → GaveLast l name a b ahead kept result
ended_at l name a b ahead kept given result is last = subst (λ (r : Result (Unit {0}) Unfetched). GaveLast l name a b ahead kept r) is last

-- that the backup is level isn't that a file came
abbrev Answered : Type 0
Answered = Result Bool Unfetched

pub is_level : (b : Bool) (r more : Answered) → r ≡ Ok b → more ≡ Ok false → b ≡ true → r ≢ more
is_level b r more is none test e = absurd (true≢false (sym test ∙ ap value_of (sym is ∙ e ∙ none)))
  where
    value_of : Answered → Bool
    value_of (Ok value) = value
    value_of (Err why) = false

pub is_refused : (r more : Answered) (why : Unfetched) → r ≡ Err why → more ≡ Ok false → r ≢ more
is_refused r more why is none e = absurd (true≢false (ap refuses (sym is ∙ e ∙ none)))
  where
    refuses : Answered → Bool
    refuses (Ok value) = false
    refuses (Err why) = true

-- ---- frames of files

pub frames_on : (name : List ℕ) (files : List Ltx) (file : Ltx) (text front : List ℕ) → AreFileFrames name files text → IsFileFrame name front file
    → AreFileFrames name (files ++ file ∷ []) (text ++ front)
frames_on name [] file text front are is = (front, [], ap (λ (t : List ℕ). t ++ front) are ∙ sym (append-nil front), is, refl)
frames_on name (first ∷ files) file text front are is =
    (are.0, are.1 ++ front, ap (λ (t : List ℕ). t ++ front) are.2 ∙ append_assoc are.0 are.1 front, are.3, frames_on name files file are.1 front are.4 is)

-- so far the frames of these files were read, and what was read ahead
pub record FollowsOn {L : Type 0} (l : LinkGhosts L) (name : List ℕ) (a b : L) (first piece : List ℕ) (files : List Ltx) : Type 0 where
  pub more : List ℕ
  pub text : List ℕ
  pub gave : Gave l a b more
  pub split : first ++ more ≡ text ++ piece
  pub frames : AreFileFrames name files text

pub follows_none : {L : Type 0} (l : LinkGhosts L) (name : List ℕ) (a : L) (first : List ℕ) → FollowsOn l name a a first first []
follows_none l name a first = record { more = []; text = []; gave = gave_none l a; split = append-nil first; frames = refl }

pub follows_next : {L : Type 0} (l : LinkGhosts L) (name : List ℕ) (a b c : L) (first piece piece_now : List ℕ) (files : List Ltx) (Keep : List Ltx → Type 0)
    → FollowsOn l name a b first piece files → (next : AddsNext l name b c piece piece_now Keep) → FollowsOn l name a c first piece_now (files ++ next.file ∷ [])
follows_next l name a b c first piece piece_now files Keep on next = record {
  more = on.more ++ next.more;
  text = on.text ++ next.text;
  gave = gave_on l a b c on.more next.more on.gave next.gave;
  split = sym (append_assoc first on.more next.more) ∙ ap (λ (t : List ℕ). t ++ next.more) on.split ∙ append_assoc on.text piece next.more
      ∙ ap (λ (t : List ℕ). on.text ++ t) next.next ∙ sym (append_assoc on.text next.text piece_now);
  frames = frames_on name files next.file on.text next.text on.frames next.is;
}

-- and none more, by disks that are as honest as they were
pub follows_last : {L : Type 0} (l : LinkGhosts L) (name : List ℕ) (a b c : L) (first piece : List ℕ) (files : List Ltx) (honest honest_then : Type 0) (old mid new : Shelf)
    (result : Result (Unit {0}) Unfetched) → FollowsOn l name a b first piece files → (honest → honest_then) → KeepsAdded honest old mid files
    → GaveLast l name b c piece (KeepsAdded honest_then mid new []) result → Follows l name a c first (λ added. ButForDisk (of_backup result) (KeepsAdded honest old new added)) result
follows_last l name a b c first piece files honest honest_then old mid new result on still kept last = record {
  more = on.more ++ last.more;
  text = on.text;
  rest = piece ++ last.more;
  files = files;
  gave = gave_on l a b c on.more last.more on.gave last.gave;
  split = sym (append_assoc first on.more last.more) ∙ ap (λ (t : List ℕ). t ++ last.more) on.split ∙ append_assoc on.text piece last.more;
  frames = on.frames;
  ends = last.ends;
  kept = but_for_disk (of_backup result) (KeepsAdded honest_then mid new []) (KeepsAdded honest old new files) (keeps_last honest honest_then old mid new files still kept) last.keeps;
}
