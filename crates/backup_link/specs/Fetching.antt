-- A node's stream, asked for by one dial and followed until the backup is level.
use Rattle.std.specs.Prelude.{◌≡◌, ◌≢◌, ℕ, false, List, [], ◌∷◌, ◌++◌, length, Option, None, Result, Ok, Err}
use Rattle.std.specs.Io.KnownBytes.{Appends, IsAtEnd}
use Rattle.lf_base.specs.Dials.{Dial, failed, hung_up, TellsMore}
use Rattle.lf_base.specs.declared.pos.Pos.{Pos}
use Rattle.http_exchange.specs.declared.told.Untold.{Untold}
use Rattle.http_exchange.specs.declared.told.Untold.TheVariants as untold
use Rattle.ltx_backup.specs.Adding.{Adds}
use Rattle.ltx_backup.specs.declared.fault.BackupFault.{BackupFault}
use Rattle.ltx_codec.specs.Format.{IsLtx}
use Rattle.ltx_codec.specs.declared.file.Ltx.{Ltx}
use Rattle.stream_wire.specs.Frame.{frame_text, name_of}
use Rattle.stream_wire.specs.StreamLine.{stream_line}
use Rattle.stream_wire.specs.Writing.{stream_head}
use Rattle.stream_wire.specs.declared.frame.Frame.{Frame}
use Rattle.stream_wire.specs.declared.frame.Frame.TheVariants as frame
use Rattle.backup_link.specs.Endings.{has_failed}
use Rattle.backup_link.specs.Frames.{UntellsFrame}
use Rattle.backup_link.specs.Heads.{IsWhole, UntellsHead}
use Rattle.backup_link.specs.declared.unfetched.Unfetched.{Unfetched}
use Rattle.backup_link.specs.declared.unfetched.Unfetched.TheVariants as unfetched

-- the request for the stream of a database from a position on; nothing is said of a last file
abbrev pub stream_request : (address name : List ℕ) → Pos → List ℕ
stream_request address name here = stream_head address (length (stream_line name here)) None ++ stream_line name here

-- known bytes grow by a front of a text
abbrev pub AppendsFront : Option (List ℕ) → Option (List ℕ) → List ℕ → Type 0
AppendsFront old new text = (front : List ℕ) × (rest : List ℕ) × (text ≡ front ++ rest) × Appends old new front

-- what keeps a request from being written: a fault, or want of a turn or of memory
abbrev pub CanStop : {T : Type 0} → Result T Untold → Type 0
CanStop (Err untold.Unfit) = ⊥
CanStop (Err untold.TooLong) = ⊥
CanStop _ = Unit {0}

-- ---- frames

-- the frame of a file of this database
pub record IsFileFrame (name text : List ℕ) (file : Ltx) : Type 0 where
  pub bytes : List ℕ
  pub is : IsLtx bytes file
  pub text_is : text ≡ frame_text (frame.Ltx name bytes)

-- the frames of files of this database, one behind another
abbrev pub AreFileFrames : List ℕ → List Ltx → List ℕ → Type 0
AreFileFrames name [] text = text ≡ []
AreFileFrames name (file ∷ files) text =
    (front : List ℕ) × (rest : List ℕ) × (text ≡ front ++ rest) × IsFileFrame name front file × AreFileFrames name files rest

-- a frame that doesn't belong here: of another database, the stream's end, or with bytes that are no file
pub data IsOther (name text : List ℕ) : Type 0 where
  foreign : (f : Frame) → text ≡ frame_text f → name_of f ≢ name → IsOther name text
  over : text ≡ frame_text frame.End → IsOther name text
  no_file : (bytes : List ℕ) → text ≡ frame_text (frame.Ltx name bytes) → ((file : Ltx) → IsLtx bytes file → ⊥) → IsOther name text

-- the frame of a file that the backup refused
pub record IsRefusedFile (name text : List ℕ) (why : BackupFault) : Type 0 where
  pub file : Ltx
  pub is : IsFileFrame name text file
  pub end : Pos
  pub refused : Adds false end file (Err why)

-- a frame at which nothing more is added, and why
abbrev pub StopsAt : List ℕ → List ℕ → Unfetched → Type 0
StopsAt name text unfetched.Dropped = text ≡ frame_text (frame.Drop name)
StopsAt name text (unfetched.Backup why) = IsRefusedFile name text why
StopsAt name text (unfetched.Untold untold.Unfit) = IsOther name text
StopsAt name text (unfetched.Untold untold.NoMemory) = Unit {0}
StopsAt name text _ = ⊥

-- WHAT ENDED A STREAM, behind the files that were added: the node said that the backup is level; no frame was read; or one stopped it
pub data EndsStream (name bytes : List ℕ) (ended : Type 0) (result : Result (Unit {0}) Unfetched) : Type 0 where
  level : (pos : Pos) (ahead : List ℕ) → bytes ≡ frame_text (frame.Ready name pos) ++ ahead → result ≡ Ok tt → EndsStream name bytes ended result
  unread : (why : Untold) → UntellsFrame bytes ended why → result ≡ Err (unfetched.Untold why) → EndsStream name bytes ended result
  at_frame : (text ahead : List ℕ) (why : Unfetched) → bytes ≡ text ++ ahead → StopsAt name text why → result ≡ Err why → EndsStream name bytes ended result

-- ---- the reply

-- a reply's head says another status than 200
pub record Declines (bytes : List ℕ) : Type 0 where
  pub head : List ℕ
  pub ahead : List ℕ
  pub status : ℕ
  pub split : bytes ≡ head ++ ahead
  pub whole : IsWhole status head
  pub other : status ≢ 200

-- behind a head of status 200 stand the frames of these files, and then what ended the stream
pub record Streams (name bytes : List ℕ) (ended : Type 0) (files : List Ltx) (result : Result (Unit {0}) Unfetched) : Type 0 where
  pub head : List ℕ
  pub text : List ℕ
  pub rest : List ℕ
  pub split : bytes ≡ head ++ (text ++ rest)
  pub whole : IsWhole 200 head
  pub frames : AreFileFrames name files text
  pub ends : EndsStream name rest ended result

-- WHAT BECAME OF THE REPLY, by its bytes and the files that were added
pub data EndsReply (name bytes : List ℕ) (ended : Type 0) (files : List Ltx) (result : Result (Unit {0}) Unfetched) : Type 0 where
  no_head : (why : Untold) → UntellsHead bytes ended why → result ≡ Err (unfetched.Untold why) → files ≡ [] → EndsReply name bytes ended files result
  declined : Declines bytes → result ≡ Err unfetched.Reply → files ≡ [] → EndsReply name bytes ended files result
  stream : Streams name bytes ended files result → EndsReply name bytes ended files result

-- HOW A FETCH ENDED, by the bytes that its link gave and took: a front of the request was written, and nothing read; or all of it
pub data EndsFetch (request name read written : List ℕ) (ended : Type 0) (files : List Ltx) (result : Result (Unit {0}) Unfetched) : Type 0 where
  unsent : (rest : List ℕ) (why : Untold) → request ≡ written ++ rest → read ≡ [] → CanStop {T = Unit {0}} (Err why) → result ≡ Err (unfetched.Untold why) → files ≡ []
      → EndsFetch request name read written ended files result
  sent : written ≡ request → EndsReply name read ended files result → EndsFetch request name read written ended files result

-- the same on a link that may tell nothing of its bytes
pub record Talks (request name : List ℕ) (given given_now taken taken_now left_now : Option (List ℕ)) (files : List Ltx)
    (result : Result (Unit {0}) Unfetched) : Type 0 where
  pub read : List ℕ
  pub written : List ℕ
  pub gave : Appends given given_now read
  pub took : Appends taken taken_now written
  pub ends : EndsFetch request name read written (IsAtEnd left_now) files result

-- THE ONE DIAL: it failed, and nothing was added; or its link was hung up, which failed by a fault alone, and where links tell their bytes they are those of such an end
abbrev pub IsDialOf : (request name : List ℕ) → Type 0 → List Ltx → Result (Unit {0}) Unfetched → Dial → Type 0
IsDialOf request name tell files result failed = (result ≡ Err (unfetched.Untold untold.Fault)) × (files ≡ [])
IsDialOf request name tell files result (hung_up read written rest rose) =
    (rose ≡ has_failed result) × (tell → EndsFetch request name read written (rest ≡ []) files result)

-- ONE DIAL MORE is told, by which these files came, and they are kept
pub record Fetches (request name : List ℕ) (tell : Type 0) (old new : Option (List Dial)) (Keep : List Ltx → Type 0)
    (result : Result (Unit {0}) Unfetched) : Type 0 where
  pub files : List Ltx
  pub told : TellsMore (IsDialOf request name tell files result) old new
  pub kept : Keep files
