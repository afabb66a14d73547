use Rattle.std.proofs.Common.{◌≡◌, ◌≢◌, ◌↔◌, List, ℕ, [], Result, Ok, Err, IsTrue, false, ◌∷◌, refl, subst}
use Rattle.std.specs.Result.{IsOk, is_ok}
use Rattle.ltx_codec.specs.Decoding.{HasFed}
use Rattle.ltx_codec.specs.declared.fault.LtxFault.{LtxFault}
use Rattle.ltx_codec.specs.declared.fault.LtxFault.TheVariants as fault
use Rattle.ltx_codec.specs.WholePages.{largest_page}
use Rattle.ltx_codec.proofs.file_reader.FileReader.is_between.Goals as goal

-- an encoding may end where it is empty
ends-between : (r : Result (Unit {0}) LtxFault) (encoding : List ℕ) → (encoding ≡ [] → IsOk r) → (encoding ≢ [] → r ≡ Err fault.Short) →
    IsTrue (is_ok r) ↔ (encoding ≡ [])
ends-between (Ok done) [] whole short = (λ _. refl, λ _. refl)
ends-between (Ok done) (byte ∷ encoding) whole short = let e : Ok done ≡ Err fault.Short = short (λ e. cc) in cc
ends-between (Err f) encoding whole short = (λ is. cc, λ e. let no : IsTrue false = whole e in cc)

-- src/file_reader.rt:48:5
pub returns-then-is_none-clause-between : goal.returns-then-is_none-clause-between
returns-then-is_none-clause-between c = λ encoding begun.
    rw c.is_ok.ensures.value
    (ends-between c.finish.result encoding
    (λ none. c.finish.ensures.whole largest_page (let P : List ℕ → Type 0 = λ l. HasFed c.args.self.now.decoder largest_page l in subst P none begun.fed))
    (λ some. c.finish.ensures.short largest_page encoding begun.fed some))
