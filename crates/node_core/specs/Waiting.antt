-- A commit that was sent to the primary, and waits for its reply.
use Rattle.std.specs.Prelude.{◌≡◌, ℕ, ◌==◌, Bool, true, false, List, [], ◌∷◌, Option, Some, None}
use Rattle.std.proofs.Props.{props}
use Rattle.std.specs.Option.{option_map}
use Rattle.lf_sqlite_pages.specs.Apply.{apply}
use Rattle.lf_sqlite_pages.specs.Change.{AscendsAbove}
use Rattle.lf_sqlite_pages.specs.Image.{DatabaseImage}
use Rattle.lf_sqlite_pages.specs.declared.page_write.PageWrite.{PageWrite}
use Rattle.ltx_codec.specs.Format.{IsFile}
use Rattle.ltx_codec.specs.Positions.{before}
use Rattle.ltx_codec.specs.declared.file.Ltx.{Ltx}
use Rattle.file_view.specs.Endings.{committed}
use Rattle.file_view.specs.Overlay.{StandsOver}
use Rattle.file_view.specs.Served.{Served}
use Rattle.node_core.specs.declared.sent.Sent.{Sent}
use Rattle.node_core.specs.Stores.{StoreFields, position}

-- the file that was sent, if one was
abbrev pub file_sent : Option Sent → Option Ltx
file_sent sent = option_map (λ s. s.file) sent

-- whether this session's commit was sent
abbrev pub has_sent : Option Sent → ℕ → Bool
has_sent None caller = false
has_sent (Some sent) caller = sent.caller == caller

-- once the committed image is another one
abbrev pub overtaken : Option Sent → Option Sent
overtaken None = None
overtaken (Some sent) = Some (record sent { overtaken = true })

-- the file is of one transaction
pub record IsTransaction (file : Ltx) : Type 0 where
  pub valid : IsFile file
  pub single : file.header.max ≡ file.header.min

-- it follows the position, and once the request that waits is done the files stand over the image that it leads to
pub record IsAwaited (told : Option DatabaseImage) (store : StoreFields) (files : Served) (file : Ltx) : Type 0 where
  pub next : before file ≡ position store
  pub stands : StandsOver (option_map (λ i. apply i file.change) told) file.header.page_size file.header.commit (committed files)

-- what always holds of what was sent: it is a transaction, and is awaited unless another image came in between
abbrev pub Waits : Option DatabaseImage → StoreFields → Served → Option Sent → Type 0
Waits told store files None = Unit {0}
Waits told store files (Some sent) = IsTransaction sent.file × (sent.overtaken ≡ false → IsAwaited told store files sent.file)

-- these are propositions
AscendsAbove-prop : (number : ℕ) (pages : List PageWrite) → IsProp (AscendsAbove number pages)
AscendsAbove-prop number [] = hlevel props
AscendsAbove-prop number (w ∷ ws) = hlevel (props, AscendsAbove-prop w.number ws)

pub IsFile-prop : (file : Ltx) → IsProp (IsFile file)
IsFile-prop file = hlevel (props, AscendsAbove-prop)

StandsOver-prop : (over : Option DatabaseImage) (page_size commit : ℕ) (s : Served) → IsProp (StandsOver over page_size commit s)
StandsOver-prop None page_size commit s = hlevel props
StandsOver-prop (Some image) page_size commit s = hlevel props

IsAwaited-prop : (over : Option DatabaseImage) (store : StoreFields) (files : Served) (file : Ltx) → IsProp (IsAwaited over store files file)
IsAwaited-prop over store files file = hlevel (props, StandsOver-prop)

pub Waits-prop : (over : Option DatabaseImage) (store : StoreFields) (files : Served) (sent : Option Sent) → IsProp (Waits over store files sent)
Waits-prop over store files None = hlevel props
Waits-prop over store files (Some sent) = hlevel (props, IsFile-prop, IsAwaited-prop)
