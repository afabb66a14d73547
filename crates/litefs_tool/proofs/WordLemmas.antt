-- Arguments are one command's.
use Rattle.std.proofs.Common.{◌≡◌, ◌≢◌, ◌∙◌, ◌==◌, ◌<◌, ◌^◌, ℕ, List, [], ◌∷◌, ◌++◌, cond, get_or, Bor, Option, Some, None, MatchOption, codes, inl, inr, refl, sym, ap, ap₂, subst, append-nil, arith}
use Rattle.std.proofs.lemmas.List.{append_cancel_left}
use Rattle.std.specs.Str.Parse.{digits_value}
use Rattle.backup_link.specs.LevelNames.{HasRoom}
use Rattle.lf_base.specs.Hex.{hex_digits, number_after}
use Rattle.lf_base.proofs.HexLemmas.{sixteen}
use Rattle.litefs_tool.specs.Words.{AreApart, BeginsWithBoth, Follows, IsAddressIn, IsOption, SaysBackup, SaysBoth, SaysNumber, SaysRemote, SaysRestore, SaysTask, SaysValues, Spells, Words, name_of, name_text}
use Rattle.litefs_tool.specs.Words.{alone, both, in_order, turned}
use Rattle.litefs_tool.specs.declared.command.Command.{Command}
use Rattle.litefs_tool.specs.declared.command.Command.TheVariants.{Apply, Compact, Mount, Lease, Export, Import, Drill, Backup, Restore, Run}
use Rattle.litefs_tool.specs.declared.naming.CommandName.{CommandName}
use Rattle.litefs_tool.specs.declared.naming.CommandName.TheVariants as name
use Rattle.litefs_tool.specs.declared.remote.Remote.{Remote}
use Rattle.litefs_tool.specs.declared.task.Task.{Task}
use Rattle.litefs_tool.proofs.BothLemmas.{both_once, front_once, name_or_addr, name_or_txid, not_both, option_once, option_some, socket_or_name, tail_of}
use Rattle.litefs_tool.proofs.OptionLemmas.{first_of}

-- ---- names

-- each name has first letters of its own
abbrev by_letters : ℕ → ℕ → CommandName
by_letters letter next =
    cond (letter == 97) name.Apply (cond (letter == 99) name.Compact (cond (letter == 109) name.Mount (cond (letter == 108) name.Lease
    (cond (letter == 101) name.Export (cond (letter == 105) name.Import (cond (letter == 100) name.Drill (cond (letter == 98) name.Backup
    (cond (next == 101) name.Restore name.Run))))))))

letter_of : (a : CommandName) → by_letters (get_or (name_text a) 0 0) (get_or (name_text a) 1 0) ≡ a
letter_of name.Apply = refl
letter_of name.Compact = refl
letter_of name.Mount = refl
letter_of name.Lease = refl
letter_of name.Export = refl
letter_of name.Import = refl
letter_of name.Drill = refl
letter_of name.Backup = refl
letter_of name.Restore = refl
letter_of name.Run = refl

same_text : (a b : CommandName) → name_text a ≡ name_text b → a ≡ b
same_text a b e = sym (letter_of a) ∙ ap (λ text. by_letters (get_or text 0 0) (get_or text 1 0)) e ∙ letter_of b

-- ---- options

whole : (words : Words) → words ++ [] ≡ words
whole words = append-nil words

-- one option alone is no two
alone_or_both : (one other offered : List ℕ) (words : Words) → IsOption (codes "--name") one words → SaysBoth (codes "--name") (codes "--addr") other offered words → ⊥
alone_or_both one other offered words is (in_order a b split too also) =
    option_some (codes "--addr") offered b also (sym (option_once (codes "--name") one other words a [] b is too (whole words ∙ split)).1)
alone_or_both one other offered words is (turned a b split too also) =
    not_both (codes "--name") (codes "--addr") one offered words a [] b name_or_addr is too (whole words ∙ split)

-- words say one pair of values
values_once : (one given other offered : List ℕ) (words : Words) → SaysValues one given words → SaysValues other offered words
    → (one ≡ other) × (given ≡ offered)
values_once one given other offered words (alone is here) (alone too there) =
    ((option_once (codes "--name") one other words words [] [] is too refl).0, here ∙ sym there)
values_once one given other offered words (alone is here) (both too) = absurd (alone_or_both one other offered words is too)
values_once one given other offered words (both is) (alone too there) = absurd (alone_or_both other one given words too is)
values_once one given other offered words (both is) (both too) =
    both_once (codes "--name") (codes "--addr") one given other offered words name_or_addr is too

address_once : (given one other : List ℕ) → IsAddressIn given one → IsAddressIn given other → one ≡ other
address_once given one other (inl is) (inl too) = append_cancel_left (codes "http://") one other (sym is ∙ too)
address_once given one other (inl is) (inr too) = absurd (too.0 one is)
address_once given one other (inr is) (inl too) = absurd (is.0 other too)
address_once given one other (inr is) (inr too) = is.1 ∙ sym too.1

remote_once : (one other : Remote) (words : Words) → SaysRemote one words → SaysRemote other words → one ≡ other
remote_once one other words says too =
    let both = values_once one.name says.given other.name too.given words says.values too.values in
    let address : one.address ≡ other.address =
    address_once too.given one.address other.address (subst (λ g. IsAddressIn g one.address) both.1 says.address) too.address
    in
    let remote : List ℕ → List ℕ → Remote = λ name address. record { name = name; address = address } in
    ap₂ remote both.0 address

-- words say one number
number_once : (one other : ℕ) (words : Words) → SaysNumber one words → SaysNumber other words → one ≡ other
number_once one other words says too =
    let digits : says.digits ≡ too.digits = ap first_of (sym says.alone ∙ too.alone) in
    sym says.value ∙ ap (digits_value 10) digits ∙ too.value

-- 16 digits are of one number
digits_once : (one other : ℕ) → one < 2 ^ 64 → other < 2 ^ 64 → hex_digits 16 one ≡ hex_digits 16 other → one ≡ other
digits_once one other small too e = sym (sixteen one small) ∙ ap (number_after 0) e ∙ sixteen other too

-- words say one database and transaction to restore
restore_once : (one other : List ℕ) (txid another : ℕ) (words : Words) → SaysRestore one txid words → SaysRestore other another words
    → (one ≡ other) × (txid ≡ another)
restore_once one other txid another words says too =
    let values = both_once (codes "--name") (codes "--txid") one (hex_digits 16 txid) other (hex_digits 16 another) words name_or_txid says.values too.values in
    (values.0, digits_once txid another says.within too.within values.1)

-- words say one program, and where it is run
task_once : (one other : Task) (words : Words) → SaysTask one words → SaysTask other words → one ≡ other
task_once one other words says too =
    let once = front_once (codes "--socket") (codes "--name") says.socket one.name too.socket other.name says.options.0 too.options.0
    (codes "--" ∷ one.words) (codes "--" ∷ other.words) socket_or_name says.options.1 too.options.1 (sym says.options.2 ∙ too.options.2)
    in
    let address : one.address ≡ other.address = says.address ∙ ap (λ (path : List ℕ). codes "unix:" ++ path) once.0 ∙ sym too.address in
    let program : one.words ≡ other.words = ap tail_of once.2 in
    let task : List ℕ → List ℕ → Words → Task = λ name address program. record { name = name; address = address; words = program } in
    ap₂ (λ name address. task name address one.words) once.1 address ∙ ap (task other.name other.address) program

-- ---- what was read

-- two options are no one
pub values_by_both : (words : Words) (read : Option (Bor (List ℕ) × Bor (List ℕ))) → ((value : List ℕ) → IsOption (codes "--name") value words → ⊥)
    → MatchOption read ((one other : List ℕ) → SaysBoth (codes "--name") (codes "--addr") one other words → ⊥) (λ values. SaysBoth (codes "--name") (codes "--addr") values.0.now values.1.now words)
    → MatchOption read ((name address : List ℕ) → SaysValues name address words → ⊥) (λ values. SaysValues values.0.now values.1.now words)
values_by_both words (Some values) single is = both is
values_by_both words None single none = go
  where
    go : (name address : List ℕ) → SaysValues name address words → ⊥
    go name address (alone is _) = single name is
    go name address (both is) = none name address is

-- a name without room
pub backup_without_room : (one other : Remote) (words : Words) → SaysRemote one words → (HasRoom one.name → ⊥) → SaysBackup other words → ⊥
backup_without_room one other words says none too = none (subst (λ (r : Remote). HasRoom r.name) (sym (remote_once one other words says too.0)) too.1)

-- words that say two options say what is restored as these do
pub restore_values : (name digits other : List ℕ) (txid : ℕ) (words : Words) → SaysBoth (codes "--name") (codes "--txid") name digits words → SaysRestore other txid words
    → (name ≡ other) × (digits ≡ hex_digits 16 txid)
restore_values name digits other txid words says too =
    both_once (codes "--name") (codes "--txid") name digits other (hex_digits 16 txid) words name_or_txid says too.values

-- what stands behind the options of a program that is to be run
pub task_behind : (socket name : List ℕ) (words behind : Words) (task : Task) → BeginsWithBoth (codes "--socket") (codes "--name") socket name words behind
    → SaysTask task words → (name ≡ task.name) × (behind ≡ codes "--" ∷ task.words)
task_behind socket name words behind task begins_with says =
    let once = front_once (codes "--socket") (codes "--name") socket name says.socket task.name begins_with.0 says.options.0 behind (codes "--" ∷ task.words)
    socket_or_name begins_with.1 says.options.1 (sym begins_with.2 ∙ says.options.2)
    in
    (once.1, once.2)

pub restore_of_none : (words : Words) → ((name : List ℕ) (txid : ℕ) → SaysRestore name txid words → ⊥) → (command : Command) → Spells (name_text name.Restore ∷ words) command → ⊥
restore_of_none words none command spelled =
    let which : name.Restore ≡ name_of command = same_text name.Restore (name_of command) (ap first_of spelled.1) in
    go command which (subst (Follows command) (sym (ap tail_of spelled.1)) spelled.2)
  where
    go : (command : Command) → name.Restore ≡ name_of command → Follows command words → ⊥
    go (Restore name txid) e follows = none name txid follows
    go command e follows = absurd (cc)

-- ---- commands

follows_once : (command other : Command) (words : Words) → name_of command ≡ name_of other → Follows command words → Follows other words → command ≡ other
follows_once (Export one) (Export other) words e follows too = ap Export (remote_once one other words follows too)
follows_once (Import one) (Import other) words e follows too = ap Import (remote_once one other words follows too)
follows_once (Drill one) (Drill other) words e follows too = ap Drill (number_once one other words follows too)
follows_once (Backup one) (Backup other) words e follows too = ap Backup (remote_once one other words follows.0 too.0)
follows_once (Restore one txid) (Restore other another) words e follows too =
    let both = restore_once one other txid another words follows too in
    ap₂ Restore both.0 both.1
follows_once (Run one) (Run other) words e follows too = ap Run (task_once one other words follows too)
follows_once Apply Apply words e follows too = refl
follows_once Compact Compact words e follows too = refl
follows_once Mount Mount words e follows too = refl
follows_once Lease Lease words e follows too = refl
follows_once command other words e follows too = absurd (cc)

pub spelled_once : (arguments : Words) (command other : Command) → Spells arguments command → Spells arguments other → command ≡ other
spelled_once arguments command other spelled too =
    let both : name_text (name_of command) ∷ spelled.0 ≡ name_text (name_of other) ∷ too.0 = sym spelled.1 ∙ too.1 in
    let words : spelled.0 ≡ too.0 = ap tail_of both in
    follows_once command other too.0 (same_text (name_of command) (name_of other) (ap first_of both)) (subst (Follows command) words spelled.2) too.2
