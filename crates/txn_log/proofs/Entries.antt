-- The last of some entries.
use Rattle.std.proofs.Common.{◌≡◌, ℕ, suc, ◌-◌, List, [], ◌∷◌, ◌++◌, length, fold, map, Some, None, refl, sym, ◌∙◌, ap, arith}
use Rattle.std.specs.Prelude.{slice_get}
use Rattle.std.proofs.lemmas.List.Sums.{fold-append}
use Rattle.std.proofs.lemmas.Option.{same_Some}
use Rattle.lf_base.specs.declared.pos.Pos.{Pos}
use Rattle.ltx_codec.specs.Positions.{after, nowhere}
use Rattle.ltx_codec.specs.declared.file.Ltx.{Ltx}
use Rattle.world_laws.specs.Store.{end_of}
use Rattle.txn_log.specs.declared.entry.Entry.{Entry}
use Rattle.txn_log.specs.Kept.{LogFile, file_of}
use Rattle.txn_log.specs.Durable.{log_of}
use Rattle.txn_log.specs.Store.{end_of_entries, entry_of, AreEntries}

last-from : (position : Pos) (es : List Entry) (e : Entry) → slice_get es (length es - 1) ≡ Some e → fold (λ _ (x : Entry). x.post) position es ≡ e.post
last-from position [] e some = absurd (cc)
last-from position (x ∷ []) e some = ap (λ (y : Entry). y.post) (same_Some x e some)
last-from position (x ∷ y ∷ es) e some =
    let place : length (x ∷ y ∷ es) - 1 ≡ suc (length es) = omega arith in
    let place' : length (y ∷ es) - 1 ≡ length es = omega arith in
    last-from x.post (y ∷ es) e (ap (λ (i : ℕ). slice_get (y ∷ es) i) place' ∙ sym (ap (λ (i : ℕ). slice_get (x ∷ y ∷ es) i) place) ∙ some)

pub end-some : (es : List Entry) (e : Entry) → slice_get es (length es - 1) ≡ Some e → e.post ≡ end_of_entries es
unfolding end_of_entries
end-some es e some = sym (last-from nowhere es e some)

pub end-none : (es : List Entry) → slice_get es (length es - 1) ≡ None → nowhere ≡ end_of_entries es
unfolding end_of_entries
end-none [] none = refl
end-none (x ∷ es) none = absurd (there x es none)
  where
    there : (x : Entry) (es : List Entry) → slice_get (x ∷ es) (length (x ∷ es) - 1) ≡ None → ⊥
    there x [] none = cc
    there x (y ∷ es) none =
        let place : length (x ∷ y ∷ es) - 1 ≡ suc (length es) = omega arith in
        let place' : length (y ∷ es) - 1 ≡ length es = omega arith in
        there y es (ap (λ (i : ℕ). slice_get (y ∷ es) i) place' ∙ sym (ap (λ (i : ℕ). slice_get (x ∷ y ∷ es) i) place) ∙ none)

pub end-empty : end_of_entries [] ≡ nowhere
unfolding end_of_entries
end-empty = refl

pub end-push : (es : List Entry) (e : Entry) → end_of_entries (es ++ e ∷ []) ≡ e.post
unfolding end_of_entries
end-push es e = fold-append (λ (_ : Pos) (x : Entry). x.post) nowhere es (e ∷ [])

-- the end of the log is that of its entries
ends : (position : Pos) (files : List LogFile) → fold (λ _ (x : Entry). x.post) position (map (λ (f : LogFile). entry_of (file_of f.encoding)) files) ≡ fold (λ _ (g : Ltx). after g) position (log_of files)
ends position [] = refl
ends position (f ∷ fs) = ends (after (file_of f.encoding)) fs

pub end-log : (entries : List Entry) (files : List LogFile) → AreEntries entries files → end_of_entries entries ≡ end_of (log_of files)
unfolding end_of_entries end_of
end-log entries files are = ap (λ (es : List Entry). fold (λ _ (x : Entry). x.post) nowhere es) (sym are.same) ∙ ends nowhere files
