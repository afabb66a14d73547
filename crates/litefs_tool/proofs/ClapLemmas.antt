-- What clap makes of words, by its own definitions.
use Rattle.std.proofs.Common.{◌≡◌, ◌∙◌, ◌⊎◌, ◌||◌, ◌++◌, Bool, cond, true, false, true≢false, ℕ, zero, suc, List, [], ◌∷◌, length, codes, Option, Some, None, option_map}
use Rattle.std.proofs.Common.{refl, sym, ap, subst, inl, inr, append_assoc, append-nil}
use Rattle.std.specs.Prelude.{slice_get}
use Rattle.std.specs.Bool.{Decides}
use Rattle.std.specs.List.{fold, list_any}
use Rattle.std.specs.Option.{option_map_or}
use Rattle.std.specs.Str.{bytes_eq, chars}
use Rattle.std.proofs.lemmas.Slice.Eq.{bytes_eq-Decides}
use Rattle.clap.specs.declared.error.kind.ErrorKind.TheVariants.{InvalidSubcommand, UnknownArgument}
use Rattle.clap.specs.Words.{Kinds, Row, Rule, Shape, Text, built, fault_of, is_simple_and_free, subcommand_of, takes}
use Rattle.clap.specs.Faults.{bundle_fault, bundle_step_fault, entered_fault, flag_word_fault, flags_fault, step_fault, turn_fault, walk_fault}
use Rattle.clap.specs.Kinds.{or_else}
use Rattle.clap.specs.Lexer.{long_of, short_of}
use Rattle.clap.specs.Simple.{built_leaf, inherited, names_of, new_shape}
use Rattle.clap.specs.Walk.{Held, Names, Outcome, Step, Walk, after_flag, bundle_met, bundle_step, idle, long_or_other, nothing_held, plain, short_or_plain, subcommand_met}
use Rattle.clap.specs.Walk.{value, walk, walk_from, walked}
use Rattle.clap.proofs.OnLiterals.{clap_on_literals}
use Rattle.litefs_tool.specs.Words.{name_text}
use Rattle.litefs_tool.specs.steps.CommandLine.{arguments_of, bare, program}
use Rattle.litefs_tool.specs.declared.naming.CommandName.{CommandName}
use Rattle.litefs_tool.specs.declared.naming.CommandName.TheVariants.{Apply, Compact, Mount, Lease, Export, Import, Drill, Backup, Restore, Run}

-- ---- words that are written out

abbrev pub name_in : Option (Text × List Row) → Option Text
name_in = option_map (λ entered. entered.0)

pub is_simple_program : is_simple_and_free program ≡ true
unfolding clap_on_literals
is_simple_program = refl

pub takes_command : (command : CommandName) → takes program (arguments_of command) ≡ true
unfolding clap_on_literals
takes_command Apply = refl
takes_command Compact = refl
takes_command Mount = refl
takes_command Lease = refl
takes_command Export = refl
takes_command Import = refl
takes_command Drill = refl
takes_command Backup = refl
takes_command Restore = refl
takes_command Run = refl

pub names_command : (command : CommandName) → name_in (subcommand_of program (arguments_of command)) ≡ Some (name_text command)
unfolding clap_on_literals
names_command Apply = refl
names_command Compact = refl
names_command Mount = refl
names_command Lease = refl
names_command Export = refl
names_command Import = refl
names_command Drill = refl
names_command Backup = refl
names_command Restore = refl
names_command Run = refl

pub names_none : name_in (subcommand_of program []) ≡ None
unfolding clap_on_literals
names_none = refl

-- ---- kinds of error

abbrev IsFault : Kinds → Type 0
IsFault [] = ⊥
IsFault (kind ∷ kinds) = Unit {0}

first_faults : (first next : Kinds) → IsFault first → IsFault (or_else first next)
first_faults [] next h = absurd h
first_faults (kind ∷ kinds) next h = h

next_faults : (first next : Kinds) → IsFault next → IsFault (or_else first next)
next_faults [] next h = h
next_faults (kind ∷ kinds) next h = tt

no_fault : (kinds : Kinds) → kinds ≡ [] → IsFault kinds → ⊥
no_fault kinds none h = subst IsFault none h

-- ---- a word that names no subcommand, where no argument is known

abbrev without_rules : Shape → Shape
without_rules shape = record shape { rules = [] }

-- the kinds of a flag word, and then those of the step that it comes to
abbrev and_step : Shape → Kinds → Held × Step → Kinds
and_step shape kinds met = or_else kinds (step_fault (without_rules shape) 1 met.0 met.1)

abbrev after_bundle : Text → Held × Outcome → Held × Step
after_bundle word met = after_flag [] idle word met.0 met.1

value_faults : (shape : Shape) → IsFault (and_step shape [] (nothing_held, value))
value_faults shape = elim shape.is_leaf as (λ leaf. IsFault (cond leaf (UnknownArgument ∷ []) (UnknownArgument ∷ InvalidSubcommand ∷ []))) [
  | true ↦ tt
  | false ↦ tt
]

bundle_faults : (shape : Shape) (word flags : Text) (count : ℕ)
    → IsFault (and_step shape (flags_fault [] shape.args_override_self count flags 0 nothing_held) (after_bundle word (bundle_met [] count flags 0 plain nothing_held)))
unfolding flags_fault bundle_met
bundle_faults shape word flags zero = value_faults shape
bundle_faults shape word flags (suc count) = elim (slice_get (chars flags) 0) as (λ flag. IsFault (and_step shape
    (bundle_step_fault [] shape.args_override_self flag flags 0 nothing_held (flags_fault [] shape.args_override_self count))
    (after_bundle word (bundle_step [] flag flags 0 plain nothing_held (bundle_met [] count))))) [
      | None ↦ value_faults shape
      | Some flag ↦ tt
    ]

short_faults : (shape : Shape) (word : Text) (flags : Option Text)
    → IsFault (and_step shape (option_map_or (λ flags. bundle_fault [] shape.args_override_self flags nothing_held) flags []) (short_or_plain [] idle word flags nothing_held))
short_faults shape word None = value_faults shape
short_faults shape word (Some flags) = bundle_faults shape word flags (length flags)

flag_faults : (shape : Shape) (word : Text)
    → IsFault (and_step shape (flag_word_fault [] shape.args_override_self (long_of word) word nothing_held) (long_or_other [] idle word (long_of word) nothing_held))
flag_faults shape word = elim (long_of word) as (λ long. IsFault (and_step shape
    (flag_word_fault [] shape.args_override_self long word nothing_held) (long_or_other [] idle word long nothing_held))) [
      | None ↦ short_faults shape word (short_of word)
      | Some long ↦ tt
    ]

abbrev dashes : Text
dashes = codes "--"

turn_faults : (shape : Shape) (known : Names) (word : Text) → subcommand_met known idle word ≡ None → bytes_eq word dashes ≡ false
    → IsFault (turn_fault (without_rules shape) known (walk_from nothing_held) word)
turn_faults shape known word unmet other = rw (unmet, other) (flag_faults shape word)

walk_faults : (shape : Shape) (known : Names) (word : Text) (rest : List Text) → subcommand_met known idle word ≡ None → bytes_eq word dashes ≡ false
    → IsFault (walk_fault (without_rules shape) known (walk_from nothing_held) (word ∷ rest))
unfolding walk_fault
walk_faults shape known word rest unmet other = first_faults _ _ (turn_faults shape known word unmet other)

-- ---- words after a command's name

abbrev top : Shape
top = (built program).top

abbrev names : Names
names = names_of (built program)

-- a subcommand of the program, built
abbrev leaf : Text → Shape
leaf name = built_leaf (inherited (bare (new_shape (codes "litefs"))) (new_shape name))

entered_faults : (command : CommandName) (word : Text) (rest : List Text) → bytes_eq word dashes ≡ false
    → IsFault (entered_fault (built program) (Some (name_text command, word ∷ rest)))
unfolding clap_on_literals
entered_faults Apply word rest other = first_faults _ _ (walk_faults (leaf (codes "apply")) [] word rest refl other)
entered_faults Compact word rest other = first_faults _ _ (walk_faults (leaf (codes "compact")) [] word rest refl other)
entered_faults Mount word rest other = first_faults _ _ (walk_faults (leaf (codes "mount")) [] word rest refl other)
entered_faults Lease word rest other = first_faults _ _ (walk_faults (leaf (codes "lease")) [] word rest refl other)
entered_faults Export word rest other = first_faults _ _ (walk_faults (leaf (codes "export")) [] word rest refl other)
entered_faults Import word rest other = first_faults _ _ (walk_faults (leaf (codes "import")) [] word rest refl other)
entered_faults Drill word rest other = first_faults _ _ (walk_faults (leaf (codes "drill")) [] word rest refl other)
entered_faults Backup word rest other = first_faults _ _ (walk_faults (leaf (codes "backup")) [] word rest refl other)
entered_faults Restore word rest other = first_faults _ _ (walk_faults (leaf (codes "restore")) [] word rest refl other)
entered_faults Run word rest other = first_faults _ _ (walk_faults (leaf (codes "run")) [] word rest refl other)

-- a walk that stopped at a subcommand hands it the words that are left
hands_down : (rules : List Rule) (known : Names) (stood : Walk) (name : Text) (handed rest : List Text)
    → (fold (walked rules known) (record stood { stopped = Some (name, handed) }) rest).stopped ≡ Some (name, handed ++ rest)
unfolding walked
hands_down rules known stood name handed [] = ap (λ words. Some (name, words)) (sym (append-nil handed))
hands_down rules known stood name handed (word ∷ rest) =
    hands_down rules known stood name (handed ++ word ∷ []) rest ∙ ap (λ words. Some (name, words)) (append_assoc handed (word ∷ []) rest)

stops : (command : CommandName) (word : Text) (rest : List Text)
    → (walk top.rules names nothing_held (name_text command ∷ word ∷ rest)).stopped ≡ Some (name_text command, word ∷ rest)
unfolding clap_on_literals
stops Apply word rest = hands_down [] names (walk_from nothing_held) (codes "apply") (word ∷ []) rest
stops Compact word rest = hands_down [] names (walk_from nothing_held) (codes "compact") (word ∷ []) rest
stops Mount word rest = hands_down [] names (walk_from nothing_held) (codes "mount") (word ∷ []) rest
stops Lease word rest = hands_down [] names (walk_from nothing_held) (codes "lease") (word ∷ []) rest
stops Export word rest = hands_down [] names (walk_from nothing_held) (codes "export") (word ∷ []) rest
stops Import word rest = hands_down [] names (walk_from nothing_held) (codes "import") (word ∷ []) rest
stops Drill word rest = hands_down [] names (walk_from nothing_held) (codes "drill") (word ∷ []) rest
stops Backup word rest = hands_down [] names (walk_from nothing_held) (codes "backup") (word ∷ []) rest
stops Restore word rest = hands_down [] names (walk_from nothing_held) (codes "restore") (word ∷ []) rest
stops Run word rest = hands_down [] names (walk_from nothing_held) (codes "run") (word ∷ []) rest

more_faults : (command : CommandName) (word : Text) (rest : List Text) → bytes_eq word dashes ≡ false → IsFault (fault_of program (name_text command ∷ word ∷ rest))
more_faults command word rest other =
    let entered = subst (λ stop. IsFault (entered_fault (built program) stop)) (sym (stops command word rest)) (entered_faults command word rest other) in
    next_faults _ _ (first_faults _ _ entered)

-- ---- all words

same_or_other : (name word : Text) → (name ≡ word) ⊎ (bytes_eq name word ≡ false)
same_or_other name word = go (bytes_eq name word) (bytes_eq-Decides name word)
  where
    go : (same : Bool) → Decides same (name ≡ word) → (name ≡ word) ⊎ (same ≡ false)
    go true decides = inl (decides.0 refl)
    go false decides = inr refl

named_or_unmet : (word : Text) → ((command : CommandName) × (word ≡ name_text command)) ⊎ (subcommand_met names idle word ≡ None)
named_or_unmet word = elim (same_or_other (codes "apply") word) [
  | inl is ↦ inl (Apply, sym is)
  | inr not_apply ↦ elim (same_or_other (codes "compact") word) [
    | inl is ↦ inl (Compact, sym is)
    | inr not_compact ↦ elim (same_or_other (codes "mount") word) [
      | inl is ↦ inl (Mount, sym is)
      | inr not_mount ↦ elim (same_or_other (codes "lease") word) [
        | inl is ↦ inl (Lease, sym is)
        | inr not_lease ↦ elim (same_or_other (codes "export") word) [
          | inl is ↦ inl (Export, sym is)
          | inr not_export ↦ elim (same_or_other (codes "import") word) [
            | inl is ↦ inl (Import, sym is)
            | inr not_import ↦ elim (same_or_other (codes "drill") word) [
              | inl is ↦ inl (Drill, sym is)
              | inr not_drill ↦ elim (same_or_other (codes "backup") word) [
                | inl is ↦ inl (Backup, sym is)
                | inr not_backup ↦ elim (same_or_other (codes "restore") word) [
                  | inl is ↦ inl (Restore, sym is)
                  | inr not_restore ↦ elim (same_or_other (codes "run") word) [
                    | inl is ↦ inl (Run, sym is)
                    | inr not_run ↦ inr (rw (not_apply, not_compact, not_mount, not_lease, not_export, not_import, not_drill, not_backup, not_restore, not_run) refl)
                  ]
                ]
              ]
            ]
          ]
        ]
      ]
    ]
  ]
]

abbrev pub has_dashes : List Text → Bool
has_dashes words = list_any (λ word. bytes_eq word dashes) words

pub undashed_command : (command : CommandName) → has_dashes (arguments_of command) ≡ false
undashed_command Apply = refl
undashed_command Compact = refl
undashed_command Mount = refl
undashed_command Lease = refl
undashed_command Export = refl
undashed_command Import = refl
undashed_command Drill = refl
undashed_command Backup = refl
undashed_command Restore = refl
undashed_command Run = refl

neither : (a b : Bool) → (a || b) ≡ false → (a ≡ false) × (b ≡ false)
neither true b h = absurd (true≢false h)
neither false b h = (refl, h)

-- words without `--` at which clap finds no fault are none, or a command's
pub faultless : (words : List Text) → has_dashes words ≡ false → fault_of program words ≡ [] → (words ≡ []) ⊎ (command : CommandName) × (words ≡ arguments_of command)
faultless [] undashed none = inl refl
faultless (word ∷ rest) undashed none = elim (named_or_unmet word) [
  | inl is ↦ inr (is.0, alone is.0 is.1 rest (neither _ _ undashed).1 none)
  | inr unmet ↦ absurd (no_fault _ none (first_faults _ _ (walk_faults top names word rest unmet (neither _ _ undashed).0)))
]
  where
    alone : (command : CommandName) → word ≡ name_text command → (rest : List Text) → has_dashes rest ≡ false → fault_of program (word ∷ rest) ≡ []
        → word ∷ rest ≡ arguments_of command
    alone command is [] undashed none = ap (λ name. name ∷ []) is
    alone command is (next ∷ rest) undashed none =
        absurd (no_fault _ (ap (λ name. fault_of program (name ∷ next ∷ rest)) (sym is) ∙ none) (more_faults command next rest (neither _ _ undashed).0))
