use Rattle.std.proofs.Common.{◌≡◌, ◌++◌, ◌∷◌, [], List, ℕ, ap, refl, codes, append_assoc}
use Rattle.std.proofs.KnownBytes.{Appends-trans}
use Rattle.litefs_tool.proofs.OutputLemmas.{AppendsPrefix-more, AppendsPrefix-middle, on_err, map_on_err}
use Rattle.litefs_tool.proofs.report.write_line.Goals as goal

-- the line, its text and name apart
pieces : (text name : List ℕ) → codes "litefs: " ++ (text ++ name ++ 10 ∷ []) ≡ codes "litefs: " ++ (text ++ (name ++ 10 ∷ []))
pieces text name = ap (λ l. codes "litefs: " ++ l) (append_assoc text name (10 ∷ []))

pub returns-in_err-write_whole-clause-prefix : goal.returns-in_err-write_whole-clause-prefix
returns-in_err-write_whole-clause-prefix g c =
    on_err _ _ (AppendsPrefix-more _ _ (codes "litefs: ") (c.args.text.now ++ c.args.name.now ++ 10 ∷ []) c.in_err-write_whole.ensures.prefix)

pub returns-in_err-write_whole-2-clause-prefix : goal.returns-in_err-write_whole-2-clause-prefix
returns-in_err-write_whole-2-clause-prefix g c =
    let prefix = rw c.as_bytes.ensures.value at c.in_err-write_whole-2.ensures.prefix in
    on_err _ _
    (AppendsPrefix-middle _ _ _ (codes "litefs: ") c.args.text.now (c.args.name.now ++ 10 ∷ []) _ (pieces c.args.text.now c.args.name.now)
    c.in_ok-write_whole.ensures.whole prefix)

pub returns-in_err-write_whole-3-clause-prefix : goal.returns-in_err-write_whole-3-clause-prefix
returns-in_err-write_whole-3-clause-prefix g c =
    let text = rw c.as_bytes.ensures.value at c.in_ok-write_whole-2.ensures.whole in
    let prefix = rw c.as_bytes-2.ensures.value at c.in_err-write_whole-3.ensures.prefix in
    on_err _ _
    (AppendsPrefix-middle _ _ _ (codes "litefs: " ++ c.args.text.now) c.args.name.now (10 ∷ []) _ (pieces c.args.text.now c.args.name.now)
    (Appends-trans _ _ _ (codes "litefs: ") c.args.text.now c.in_ok-write_whole.ensures.whole text) prefix)

pub returns-clause-prefix : goal.returns-clause-prefix
returns-clause-prefix g c =
    let text = rw c.as_bytes.ensures.value at c.in_ok-write_whole-2.ensures.whole in
    let name = rw c.as_bytes-2.ensures.value at c.in_ok-write_whole-3.ensures.whole in
    let before =
    Appends-trans _ _ _ (codes "litefs: " ++ c.args.text.now) c.args.name.now
    (Appends-trans _ _ _ (codes "litefs: ") c.args.text.now c.in_ok-write_whole.ensures.whole text) name
    in
    map_on_err _ _ _ (AppendsPrefix-middle _ _ _ (codes "litefs: " ++ c.args.text.now ++ c.args.name.now) (10 ∷ []) [] _ refl before) c.write_whole-4.ensures.prefix
