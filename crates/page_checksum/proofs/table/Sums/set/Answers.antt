-- The sum that stood there goes out, and the new one comes in.
use Rattle.std.proofs.Common.{◌≡◌, ◌∙◌, ◌<◌, ◌-◌, ℕ, List, ap, arith, length, get_or}
use Rattle.std.specs.Prelude.{bit_xor}
use Rattle.std.proofs.lemmas.List.{get_or_default, length-set}
use Rattle.page_checksum.specs.Sums.{joined}
use Rattle.page_checksum.specs.Table.{PageSums}
use Rattle.page_checksum.proofs.JoinedLemmas.{joined-set}
use Rattle.page_checksum.proofs.table.Sums.set.Goals as goal

pub invariant_of-self : goal.invariant_of-self
invariant_of-self c =
    let items : List ℕ = c.self.inside.sums.items in
    let place : ℕ = c.args.n - 1 in
    let same : items ≡ c.args.self.now.sums = ap (λ (t : PageSums). t.sums) c.self.view_is in
    let within : place < length items = omega (arith, c.requires.first, c.requires.last, ap (λ (s : List ℕ). length s) same) in
    let old : c.index.result.now ≡ get_or items place 0 = c.index.ensures ∙ get_or_default items place c.index.result.now 0 within in
    record {
      fits = record { holds = omega (arith, length-set items place c.args.sum, c.self.invariant.fits.holds); there = c.self.invariant.fits.there };
      kept =
          ap (λ (x : ℕ). bit_xor x (bit_xor c.index.result.now c.args.sum)) c.self.invariant.kept
          ∙ ap (λ (x : ℕ). bit_xor (joined items) (bit_xor x c.args.sum)) old
          ∙ joined-set items place c.args.sum within;
    }
