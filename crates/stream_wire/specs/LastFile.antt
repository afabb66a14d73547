-- What a follower says of the last file of its log, in a field of its request for a stream.
use Rattle.std.specs.Prelude.{◌≡◌, ◌⊎◌, ◌≤◌, ℕ, ◌<◌, ◌^◌, List, [], ◌∷◌, ◌++◌, codes, length, map, Option, Some, None, if◌then◌else◌}
use Rattle.httparse.specs.Grammar.{RequestHead, ReadsRequest}
use Rattle.httparse.specs.Spans.{name_and_value}
use Rattle.lf_base.specs.Hex.{hex_digits}
use Rattle.stream_wire.specs.Head.{is_called}
use Rattle.stream_wire.specs.declared.last_file.LastFile.{LastFile}
use Rattle.stream_wire.specs.declared.last_file.LastFile.TheVariants.{File, Unknown}

-- in print: its first and last transaction as in the file's name, and its checksum behind a slash
abbrev pub last_file_text : LastFile → List ℕ
last_file_text (File min max sum) = hex_digits 16 min ++ 45 ∷ (hex_digits 16 max ++ 47 ∷ hex_digits 16 sum)
last_file_text Unknown = codes "unknown"

-- numbers of 64 bits
abbrev pub FitsLastFile : LastFile → Type 0
FitsLastFile (File min max sum) = (min < 2 ^ 64) × (max < 2 ^ 64) × (sum < 2 ^ 64)
FitsLastFile Unknown = Unit {0}

-- the bytes are the print of none
abbrev pub IsNoLastFile : List ℕ → Type 0
IsNoLastFile bytes = (last : LastFile) → FitsLastFile last → bytes ≡ last_file_text last → ⊥

-- the last file whose print the bytes are, or nothing where there is none
abbrev pub ReadsLastFile : List ℕ → Option LastFile → Type 0
ReadsLastFile bytes (Some last) = bytes ≡ last_file_text last
ReadsLastFile bytes None = IsNoLastFile bytes

-- a value says the last file whose print it is, and any other value that it is unknown
abbrev pub SaysLastFile : List ℕ → LastFile → Type 0
SaysLastFile value said = (value ≡ last_file_text said) ⊎ (IsNoLastFile value × (said ≡ Unknown))

-- the values of the fields of this name
abbrev pub values_of : List (List ℕ × List ℕ) → List (List ℕ)
values_of [] = []
values_of (f ∷ fields) = if is_called (codes "litefs-last-file") f.0 then f.1 ∷ values_of fields else values_of fields

-- what such values say together: nothing where there is none, and unknown where there are several
abbrev pub SayTogether : List (List ℕ) → Option LastFile → Type 0
SayTogether [] said = said ≡ None
SayTogether (value ∷ []) None = ⊥
SayTogether (value ∷ []) (Some said) = SaysLastFile value said
SayTogether (value ∷ other ∷ values) said = said ≡ Some Unknown

-- what the request's head at the front of the bytes says of the last file
abbrev pub TellsLastFile : List ℕ → Option LastFile → Type 0
TellsLastFile bytes said =
    (h : RequestHead) (rest : List ℕ) → ReadsRequest bytes h rest → length h.fields ≤ 128 → SayTogether (values_of (map name_and_value h.fields)) said

-- the same of a value, and of values, behind what those in front of them said
abbrev pub Values : Option LastFile → List ℕ → LastFile → Type 0
Values None value said = SaysLastFile value said
Values (Some before) value said = said ≡ Unknown

abbrev pub GoesOn : Option LastFile → List (List ℕ) → Option LastFile → Type 0
GoesOn None values said = SayTogether values said
GoesOn (Some before) [] said = said ≡ Some before
GoesOn (Some before) (value ∷ values) said = said ≡ Some Unknown
