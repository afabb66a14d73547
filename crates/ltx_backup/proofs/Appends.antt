-- A file is published behind those of a level.
use Rattle.std.proofs.Common.{◌≡◌, ◌∙◌, inl, inr, ℕ, ◌<◌, Bool, false, List, [], ◌∷◌, ◌++◌, Option, Some, IsSome, refl, sym, ap, subst, arith}
use Rattle.std.specs.Prelude.{◌==◌, ◌&&◌, if◌then◌else◌}
use Rattle.std.proofs.lemmas.Bool.{cases_Bool, and_parts, eqb-true}
use Rattle.std.proofs.lemmas.Bool.Decides.{nat_tests}
use Rattle.lf_base.specs.declared.pos.Pos.{Pos}
use Rattle.lf_disk.specs.declared.name.FileName.TheVariants.{Staged, Snapshot, Ltx as LtxName}
use Rattle.lf_disk.specs.Folder.{Folder, bytes_of, same_name, SameBut}
use Rattle.lf_disk.specs.Names.{same_name-refl}
use Rattle.lf_disk.specs.Publish.{with_bytes}
use Rattle.ltx_codec.specs.Format.{IsLtx}
use Rattle.ltx_codec.specs.Positions.{before, after}
use Rattle.ltx_codec.specs.declared.file.Ltx.{Ltx}
use Rattle.ltx_backup.specs.Entries.{entries_of, Lists}
use Rattle.ltx_backup.specs.Levels.{LeadOn, end_of, Stands, AllStand, Has, HasPast}
use Rattle.ltx_backup.specs.Stored.{stored}
use Rattle.ltx_backup.specs.declared.entry.Entry.{Entry}
use Rattle.ltx_backup.proofs.Holding.{stands_same, begins_past, some_same}
use Rattle.ltx_backup.proofs.Judges.{stand_join, has_left, has_right}
use Rattle.ltx_backup.proofs.Unique.{end_after}

-- a file has its entry
pub has_lists : (files : List Ltx) (a b : ℕ) → Has files a b → Lists (entries_of files) a b
has_lists [] a b has = absurd has
has_lists (x ∷ xs) a b (inl is) = inl is
has_lists (x ∷ xs) a b (inr has) = inr (has_lists xs a b has)

pub named_by : (entries : List Entry) (files : List Ltx) (f : Folder) → entries ≡ entries_of files → HasPast 0 files f → (a b : ℕ) → 0 < a → IsSome (f (LtxName a b)) → Lists entries a b
named_by entries files f are has a b above some = subst (λ (es : List Entry). Lists es a b) (sym are) (has_lists files a b (has.only a b above some))

-- files that begin before a number stand where only later ones changed
beside : (f g : Folder) (here : Pos) (files : List Ltx) (k : ℕ) → ((a b : ℕ) → a < k → g (LtxName a b) ≡ f (LtxName a b)) → (end_of here files).txid < k → AllStand f files → LeadOn here files → AllStand g files
beside f g here [] k same less stand lead = tt
beside f g here (file ∷ files) k same less stand lead =
    let later = end_after f (after file) files stand.1 lead.1 in
    let first : file.header.min < k = omega (arith, later, less, stand.0.valid.header.max) in
    (stands_same f g file (same file.header.min file.header.max first) stand.0, beside f g (after file) files k same less stand.1 lead.1)

module _ (f g : Folder) (file : Ltx) (is : IsLtx (stored file) file) (same : SameBut Staged (with_bytes (LtxName file.header.min file.header.max) (stored file) f) g) where
  pub new_there : g (LtxName file.header.min file.header.max) ≡ Some (stored file)
  new_there =
      same (LtxName file.header.min file.header.max) refl
      ∙ ap (λ (x : Bool). if x then Some (stored file) else f (LtxName file.header.min file.header.max)) (same_name-refl (LtxName file.header.min file.header.max))

  pub new_stands : Stands g file
  new_stands = subst (λ (o : Option (List ℕ)). IsLtx (bytes_of o) file) (sym new_there) is

  pub others_stay : (a b : ℕ) → same_name (LtxName a b) (LtxName file.header.min file.header.max) ≡ false → g (LtxName a b) ≡ f (LtxName a b)
  others_stay a b differs = same (LtxName a b) refl ∙ ap (λ (x : Bool). if x then Some (stored file) else f (LtxName a b)) differs

  pub snapshot_stays : g Snapshot ≡ f Snapshot
  snapshot_stays = same Snapshot refl

  lower : (a b : ℕ) → a < file.header.min → g (LtxName a b) ≡ f (LtxName a b)
  lower a b less =
      let isnt : (a == file.header.min) ≡ false = grind (arith, nat_tests) in
      others_stay a b (ap (λ (x : Bool). x && (b == file.header.max)) isnt)

  -- the level has one file more
  pub has_more : (n : ℕ) (here : Pos) (files : List Ltx) → HasPast n files f → LeadOn here files → before file ≡ end_of here files → HasPast n (files ++ file ∷ []) g
  has_more n here files has lead joins = record {
    stand = stand_join g files (file ∷ []) (beside f g here files file.header.min lower (begins_past g (end_of here files) file new_stands joins) has.stand lead) (new_stands, tt);
    only = λ a b above some. elim (cases_Bool (a == file.header.min && b == file.header.max)) [
      | inl it ↦
          let both = and_parts (a == file.header.min) (b == file.header.max) it in
          has_right files (file ∷ []) a b (inl (sym (eqb-true a file.header.min both.0), sym (eqb-true b file.header.max both.1)))
      | inr differs ↦ has_left files (file ∷ []) a b (has.only a b above (some_same (g (LtxName a b)) (f (LtxName a b)) (others_stay a b differs) some))
    ];
  }
