use Rattle.std.proofs.Common.{◌≡◌, ◌∙◌, ℕ, ◌+◌, List, [], ◌∷◌, ◌++◌, length, refl, sym, ap, subst, arith}
use Rattle.std.proofs.lemmas.List.Elements.{All-nil, All-same}
use Rattle.ltx_codec.specs.Format.{IsFile}
use Rattle.ltx_codec.specs.declared.file.Ltx.{Ltx}
use Rattle.txn_log.specs.Giving.{IsEncodingAt}
use Rattle.world_laws.specs.Store.{StoreState}
use Rattle.node_core.specs.Stores.{StoreFields, fields_of, history_of, state}
use Rattle.node_core.proofs.Gathered.{added}
use Rattle.node_core.proofs.Lookups.{looked-at-nothing, looked-on}
use Rattle.node_core.proofs.Owing.{length-log}
use Rattle.node_core.proofs.Reading.{rests_join, rests_stay}
use Rattle.node_core.proofs.running.gather.Goals as goal

pub loop-at-init : goal.loop-at-init
loop-at-init g c =
    let s = c.args.store.now in
    let h = history_of s in
    let log : List Ltx = (state h (fields_of s)).log in
    let none = c.new.ensures.items in
    let more = c.add.ensures in
    let yes = c.if-not-add.false in
    let place : c.args.first ≡ c.args.first + 0 = omega arith in
    record {
      count = more.more yes ∙ ap (λ (l : List Ltx). length l + 1) none;
      valid = more.valid yes (All-same IsFile _ [] none (All-nil IsFile));
      files = λ honest.
          let long : length log ≡ length s.entries.items = length-log h (fields_of s) (s.kept honest) in
          added log c.args.first 0 c.args.bytes.now [] c.add.new.self.files.items (omega (arith, long, c.requires.several, c.requires.there))
          (subst (λ (k : ℕ). IsEncodingAt log k c.args.bytes.now) place (c.requires.encoding honest)) refl
          (λ file is. more.added yes file is ∙ ap (λ (l : List Ltx). l ++ file ∷ []) none);
      looked = looked-at-nothing h (fields_of s);
      rests = λ honest. rests_stay h;
    }

pub loop-at-preserved : goal.loop-at-preserved
loop-at-preserved g c =
    let s = c.args.store.now in
    let h = history_of s in
    let log : List Ltx = (state h (fields_of s)).log in
    let mid = c.loop-at.store in
    let t = c.read_file.new.store in
    let inv = c.loop-at.invariant in
    let bytes : List ℕ = c.as_slice.result.now in
    let at : ℕ = c.args.first + c.loop-at.at in
    let more = c.add-in-loop-at.ensures in
    let yes = c.if-not-add-2.false in
    let as_before = ap (λ (x : StoreFields). x.honest) inv.looked.same in
    record {
      count = more.more yes ∙ ap (λ (n : ℕ). n + 1) inv.count;
      valid = more.valid yes inv.valid;
      files = λ honest.
          let long : length log ≡ length s.entries.items = length-log h (fields_of s) (s.kept honest) in
          let encoding : IsEncodingAt (state (history_of mid) (fields_of mid)).log at bytes = subst (λ (l : List ℕ). IsEncodingAt (state (history_of mid) (fields_of mid)).log at l) (sym c.as_slice.ensures.value) (c.in-Ok.ensures.encoding (as_before ∙ honest)) in
          added log c.args.first c.loop-at.at bytes c.loop-at.gathered.files.items c.add-in-loop-at.new.self.files.items (omega (arith, long, c.loop-at-test.true, c.requires.there))
          (subst (λ (st : StoreState). IsEncodingAt st.log at bytes) (inv.looked.state honest) encoding) (inv.files honest) (more.added yes);
      looked = looked-on h (history_of mid) (history_of t) (fields_of s) (fields_of mid) (fields_of t) inv.looked c.read_file.ensures.looked;
      rests = λ honest. rests_join h (history_of mid) (history_of t) (inv.rests honest) (c.read_file.ensures.rests (as_before ∙ honest));
    }
