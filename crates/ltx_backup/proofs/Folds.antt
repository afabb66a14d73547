-- Eight files of a level become one of the next: what the two levels are then, and what their folders hold.
use Rattle.std.proofs.Common.{◌≡◌, ◌∙◌, ℕ, ◌-◌, ◌≤◌, List, [], ◌∷◌, ◌++◌, None, Some, take, drop, sym, ap, subst, arith}
use Rattle.std.specs.Prelude.{slice_get}
use Rattle.lf_base.specs.declared.pos.Pos.{Pos}
use Rattle.lf_disk.specs.declared.name.FileName.TheVariants.{Staged, Ltx as LtxName}
use Rattle.lf_disk.specs.Folder.{Folder, SameBut}
use Rattle.lf_disk.specs.History.{History, now}
use Rattle.lf_disk.specs.Publish.{with_bytes}
use Rattle.ltx_codec.specs.Positions.{before, after}
use Rattle.ltx_codec.specs.declared.file.Ltx.{Ltx}
use Rattle.ltx_codec.specs.declared.header.Header.{Header}
use Rattle.ltx_backup.specs.Entries.{entries_of}
use Rattle.ltx_backup.specs.Levels.{LeadOn, end_of, HasPast}
use Rattle.ltx_backup.specs.Moving.{IsEightOf}
use Rattle.ltx_backup.specs.Stored.{stored}
use Rattle.ltx_backup.specs.Trimming.{IsTrimmed, HasTrimmed}
use Rattle.ltx_backup.specs.declared.entry.Entry.{Entry}
use Rattle.ltx_backup.proofs.Appends.{has_more, named_by}
use Rattle.ltx_backup.proofs.Holding.{AllPast, begins_past, lead_past, has_higher, has_trimmed, has_alone, lead_front, lead_back, lead_join, end_join}
use Rattle.ltx_backup.proofs.Images.{take_drop, last_after, one_some}
use Rattle.ltx_backup.proofs.Unique.{has_tail}

-- where a file of this header begins
abbrev start_of : Header → Pos
start_of h = record { txid = h.min - 1; sum = h.pre }

-- the first of files begins where all of them do
first_before : (here : Pos) (files : List Ltx) (first : Ltx) → LeadOn here files → slice_get files 0 ≡ Some first → before first ≡ here
first_before here [] first lead is = absurd (let no : None ≡ Some first = is in cc)
first_before here (x ∷ xs) first lead is = ap before (sym (one_some x first is)) ∙ lead.0

-- the files behind some of a level
has_behind : (f : Folder) (n : ℕ) (here : Pos) (xs ys : List Ltx) → n ≤ here.txid → HasPast n (xs ++ ys) f → LeadOn here (xs ++ ys) → HasPast (end_of here xs).txid ys f
has_behind f n here [] ys less has lead = has_higher n here.txid ys f less has
has_behind f n here (x ∷ xs) ys less has lead =
    let past = begins_past f here x has.stand.0 lead.0 in
    has_behind f x.header.max (after x) xs ys (omega arith) (has_tail n x (xs ++ ys) f (omega (arith, past, less)) has) lead.1

module _ (here : Pos) (uppers files : List Ltx) (lead : LeadOn here (uppers ++ files)) (file : Ltx) (eight : IsEightOf files file) where
  lead_uppers : LeadOn here uppers
  lead_uppers = lead_front here uppers files lead

  lead_parts : LeadOn (end_of here uppers) (take 8 files ++ drop 8 files)
  lead_parts = subst (λ (l : List Ltx). LeadOn (end_of here uppers) l) (sym (take_drop 8 files)) (lead_back here uppers files lead)

  lead_eight : LeadOn (end_of here uppers) (take 8 files)
  lead_eight = lead_front (end_of here uppers) (take 8 files) (drop 8 files) lead_parts

  -- the one file stands between the positions of the eight
  pub begins : before file ≡ end_of here uppers
  begins = ap start_of eight.is.header ∙ first_before (end_of here uppers) (take 8 files) eight.is.first lead_eight eight.is.is_first

  pub ends : after file ≡ end_of (end_of here uppers) (take 8 files)
  ends =
      let max : file.header.max ≡ eight.is.last.header.max = ap (λ (h : Header). h.max) eight.is.header in
      let post : file.post ≡ eight.is.last.post = eight.is.post in
      (λ i. record { txid = max i; sum = post i }) ∙ last_after (end_of here uppers) (take 8 files) eight.is.last eight.is.is_last

  pub end_above : end_of here (uppers ++ file ∷ []) ≡ after file
  end_above = end_join here uppers (file ∷ [])

  lead_left : LeadOn (after file) (drop 8 files)
  lead_left = subst (λ (p : Pos). LeadOn p (drop 8 files)) (sym ends) (lead_back (end_of here uppers) (take 8 files) (drop 8 files) lead_parts)

  pub lead_now : LeadOn here ((uppers ++ file ∷ []) ++ drop 8 files)
  lead_now =
      lead_join here (uppers ++ file ∷ []) (drop 8 files) (lead_join here uppers (file ∷ []) lead_uppers (begins, tt))
      (subst (λ (p : Pos). LeadOn p (drop 8 files)) (sym end_above) lead_left)

  pub end_now : end_of here ((uppers ++ file ∷ []) ++ drop 8 files) ≡ end_of here (uppers ++ files)
  end_now =
      end_join here (uppers ++ file ∷ []) (drop 8 files) ∙ ap (λ (p : Pos). end_of p (drop 8 files)) (end_above ∙ ends)
      ∙ sym (end_join (end_of here uppers) (take 8 files) (drop 8 files)) ∙ ap (λ (l : List Ltx). end_of (end_of here uppers) l) (take_drop 8 files) ∙ sym (end_join here uppers files)

  module _ (f g : Folder) (has_files : HasPast 0 files f) (has_uppers : HasPast 0 uppers g) where
    pub uppers_more : (n : ℕ) (g_now : Folder) → SameBut Staged (with_bytes (LtxName file.header.min file.header.max) (stored file) g) g_now → HasPast n (uppers ++ file ∷ []) g_now
    uppers_more n g_now same = has_more g g_now file eight.reads_back same n here uppers (has_higher 0 n uppers g (omega arith) has_uppers) lead_uppers begins

    files_past : HasPast file.header.max (drop 8 files) f
    files_past =
        subst (λ (p : Pos). HasPast p.txid (drop 8 files) f) (sym ends)
        (has_behind f 0 (end_of here uppers) (take 8 files) (drop 8 files) (omega arith) (subst (λ (l : List Ltx). HasPast 0 l f) (sym (take_drop 8 files)) has_files) lead_parts)

    past_left : AllPast file.header.max (drop 8 files)
    past_left = lead_past f (after file) (drop 8 files) files_past.stand lead_left

    -- while the eight are removed the others are past the one file
    pub files_left : (f_now : Folder) → IsTrimmed file.header.max f f_now → HasPast file.header.max (drop 8 files) f_now
    files_left f_now trimmed = has_trimmed file.header.max file.header.max (drop 8 files) f f_now (omega arith) past_left trimmed files_past

    -- and then they are all that is left
    pub files_alone : (h : History) (entries : List Entry) → entries ≡ entries_of files → HasTrimmed file.header.max entries f h → HasPast 0 (drop 8 files) (now h)
    files_alone h entries are done = has_alone file.header.max (drop 8 files) f h entries past_left files_past (named_by entries files f are has_files) done
