-- The last file of a log, as its encoding and as the file that it is.
use Rattle.std.proofs.Common.{◌≡◌, List, [], ◌∷◌, fold, Option, Some, None, refl, sym, ◌∙◌, ap}
use Rattle.ltx_codec.specs.declared.file.Ltx.{Ltx}
use Rattle.txn_log.specs.Kept.{LogFile, file_of, last_of}
use Rattle.node_recovery.specs.Damage.{last_file}

abbrev file_at_last : Option LogFile → Option Ltx
file_at_last None = None
file_at_last (Some g) = Some (file_of g.encoding)

lasts_from : (found : Option LogFile) (files : List LogFile) →
    fold (λ (_ : Option Ltx) (g : LogFile). Some (file_of g.encoding)) (file_at_last found) files ≡ file_at_last (fold (λ (_ : Option LogFile) (g : LogFile). Some g) found files)
lasts_from found [] = refl
lasts_from found (f ∷ fs) = lasts_from (Some f) fs

lasts : (files : List LogFile) → last_file files ≡ file_at_last (last_of files)
lasts files = lasts_from None files

-- the file that is last stands under a name
pub record LastIs (files : List LogFile) (file : Ltx) : Type 0 where
  pub named : LogFile
  pub last_is : last_of files ≡ Some named
  pub tells : file_of named.encoding ≡ file

pub last_named : (files : List LogFile) (file : Ltx) → Some file ≡ last_file files → LastIs files file
last_named files file is = pick (last_of files) refl
  where
    pick : (o : Option LogFile) → last_of files ≡ o → LastIs files file
    pick None same = let no : Some file ≡ None = is ∙ lasts files ∙ ap file_at_last same in absurd (cc)
    pick (Some g) same = record {
      named = g;
      last_is = same;
      tells = Rattle.std.proofs.lemmas.Option.same_Some (file_of g.encoding) file (sym (is ∙ lasts files ∙ ap file_at_last same));
    }
