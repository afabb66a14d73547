-- Files of a log are read one after another, to become one.
use Rattle.std.proofs.Common.{◌≡◌, ◌≢◌, ◌∙◌, ℕ, ◌+◌, ◌-◌, ◌<◌, ◌≤◌, List, [], ◌∷◌, ◌++◌, length, drop, get_or, refl, sym, ap, subst, arith}
use Rattle.std.proofs.Math.Logic.{∥∥₁_elim}
use Rattle.std.proofs.Props.{props}
use Rattle.std.proofs.lemmas.List.{get_or-drop, length-drop, take_more}
use Rattle.lf_base.specs.declared.pos.Pos.{Pos}
use Rattle.lf_disk.specs.History.{History}
use Rattle.ltx_codec.specs.FileIn.{file_in}
use Rattle.ltx_codec.specs.Format.{IsLtx}
use Rattle.ltx_codec.specs.declared.file.Ltx.{Ltx}
use Rattle.ltx_codec.proofs.LawLemmas.{one_reading_lem}
use Rattle.txn_log.specs.declared.entry.Entry.{Entry}
use Rattle.txn_log.specs.Giving.{IsEncodingAt}
use Rattle.world_laws.specs.Store.{StoreState}
use Rattle.node_core.specs.Hello.{IsLookedInto}
use Rattle.node_core.specs.Running.{IsEncodingOfAll, IsRun, files_at}
use Rattle.node_core.specs.Stores.{StoreFields, state}

-- bytes are the encoding of one file
pub one_file : (bytes : List ℕ) (file other : Ltx) → IsLtx bytes file → IsLtx bytes other → file ≡ other
one_file bytes file other is also = (one_reading_lem bytes bytes [] [] file other is also refl).1

-- a run of a store that was looked into is one of the store from before
pub run-since : (start mid : History) (old between : StoreFields) (first : ℕ) (ltx : List ℕ) (to : Pos) → IsLookedInto start old mid between → IsRun between.entries first between.honest (state mid between).log ltx to
    → IsRun old.entries first old.honest (state start old).log ltx to
run-since start mid old between first ltx to looked run =
    let entries : between.entries ≡ old.entries = ap (λ (s : StoreFields). s.entries) looked.same in
    let as_before : between.honest ≡ old.honest = ap (λ (s : StoreFields). s.honest) looked.same in
    record {
      count = run.count;
      several = run.several;
      at_most = run.at_most;
      before_last = subst (λ (es : List Entry). first + run.count + 64 ≤ length es) entries run.before_last;
      later = λ d. subst (λ (es : List Entry). (get_or es first d).min ≢ 1) entries (run.later d);
      leads = λ d. run.leads d ∙ ap (λ (es : List Entry). (get_or es (first + run.count - 1) d).post) entries;
      encoding = λ honest. subst (λ (s : StoreState). IsEncodingOfAll (files_at s.log first run.count) ltx) (looked.state honest) (run.encoding (as_before ∙ honest));
    }

-- one file more
one_more : (log : List Ltx) (first n : ℕ) (files : List Ltx) (d : Ltx) → first + n < length log → files ≡ files_at log first n → files ++ get_or log (first + n) d ∷ [] ≡ files_at log first (n + 1)
one_more log first n files d there so_far =
    let back : length (drop first log) ≡ length log - first = length-drop first log in
    (λ i. so_far i ++ sym (get_or-drop first log n d) i ∷ []) ∙ sym (take_more (drop first log) n d (omega (arith, back, there)))

-- the file of these bytes was added
pub added : (log : List Ltx) (first n : ℕ) (bytes : List ℕ) (old new : List Ltx) → first + n < length log → IsEncodingAt log (first + n) bytes → old ≡ files_at log first n
    → ((file : Ltx) → IsLtx bytes file → new ≡ old ++ file ∷ []) → new ≡ files_at log first (n + 1)
added log first n bytes old new there encoding so_far more =
    let d : Ltx = file_in [] in
    ∥∥₁_elim (encoding d) (hlevel props) (λ (is : IsLtx bytes (get_or log (first + n) d)). more (get_or log (first + n) d) is ∙ one_more log first n old d there so_far)
