-- What is new adds nothing to the sums.
use Rattle.std.proofs.Common.{◌≡◌, ◌∙◌, ℕ, ◌+◌, ◌-◌, ◌≤◌, Bool, true, List, ap, sym, arith, length, take, replicate, ◌++◌, vec_len}
use Rattle.std.specs.Prelude.{if◌then◌else◌}
use Rattle.std.specs.Result.{is_ok}
use Rattle.page_checksum.specs.Sums.{joined}
use Rattle.page_checksum.specs.Table.{PageSums}
use Rattle.page_checksum.proofs.JoinedLemmas.{joined-filled}
use Rattle.page_checksum.proofs.table.Sums.resize.Goals as goal

pub invariant_of-self : goal.invariant_of-self
invariant_of-self c =
    let items : List ℕ = c.self.inside.sums.items in
    let before : ℕ = vec_len c.self.inside.sums in
    let same : items ≡ c.args.self.now.sums = ap (λ (t : PageSums). t.sums) c.self.view_is in
    let enough : c.args.pages ≤ c.self.inside.room =
    omega (arith, c.requires, ap (λ (t : PageSums). length t.sums + t.spare) c.self.view_is, c.self.invariant.fits.holds) in
    let done : is_ok c.resize.result ≡ true = c.resize.ensures.succeeds (omega (arith, enough, c.self.invariant.fits.there)) in
    let count : vec_len c.resize.new.self ≡ c.args.pages = c.resize.ensures.len ∙ ap (λ (b : Bool). if b then c.args.pages else before) done in
    let new : c.resize.new.self.items ≡ take c.args.pages items ++ replicate (c.args.pages - before) 0 =
    c.resize.ensures.items ∙ ap (λ (b : Bool). if b then take c.args.pages items ++ replicate (c.args.pages - before) 0 else items) done in
    record {
      fits = record { holds = omega (arith, count, c.resize.new.self.ok.0, enough); there = omega (arith, c.resize.ensures.capacity, c.self.invariant.fits.there) };
      kept =
          c.joined_to-joined.ensures
          ∙ ap (λ (s : List ℕ). joined (take c.args.pages s)) (sym same)
          ∙ sym (joined-filled (take c.args.pages items) (c.args.pages - before))
          ∙ ap joined (sym new);
    }
