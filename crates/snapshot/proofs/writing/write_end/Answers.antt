use Rattle.std.proofs.Common.{◌≡◌, List, ℕ, refl, ap, ◌∙◌}
use Rattle.std.specs.Int.{w64, to_be_bytes}
use Rattle.std.proofs.KnownBytes.{Appends-trans}
use Rattle.page_checksum.specs.Crc.{after_bytes}
use Rattle.ltx_codec.specs.Format.{end_encoding, sealed}
use Rattle.snapshot.proofs.OutputLemmas.{AppendsPrefix-after, AppendsPrefix-more, on_err, map_on_err, map_on_ok}
use Rattle.snapshot.proofs.writing.write_end.Goals as goal

pub returns-in_err-register-clause-prefix : goal.returns-in_err-register-clause-prefix
returns-in_err-register-clause-prefix g c =
    let end : List ℕ = end_encoding c.args.post in
    let sum : List ℕ = to_be_bytes w64 (sealed (after_bytes c.args.register end)) in
    on_err _ _ (AppendsPrefix-more _ _ end sum (rw c.end_bytes.ensures at c.in_err-register.ensures.prefix))

pub returns-clause-whole : goal.returns-clause-whole
returns-clause-whole g c =
    let end : List ℕ = end_encoding c.args.post in
    let sum : List ℕ = to_be_bytes w64 (sealed (after_bytes c.args.register end)) in
    let sums : c.to_be_bytes.result ≡ sum =
    c.to_be_bytes.ensures ∙ ap (to_be_bytes w64) c.sealed-sum.ensures ∙ ap (λ r. to_be_bytes w64 (sealed r)) (c.in_ok-register.ensures.register ∙ ap (λ (l : List ℕ). after_bytes c.args.register l) c.end_bytes.ensures)
    in
    map_on_ok c.write_whole.result _ _ (λ appends. Appends-trans _ _ _ end sum (rw c.end_bytes.ensures at c.in_ok-register.ensures.whole) appends) (rw sums at c.write_whole.ensures.whole)

pub returns-clause-prefix : goal.returns-clause-prefix
returns-clause-prefix g c =
    let end : List ℕ = end_encoding c.args.post in
    let sum : List ℕ = to_be_bytes w64 (sealed (after_bytes c.args.register end)) in
    let sums : c.to_be_bytes.result ≡ sum =
    c.to_be_bytes.ensures ∙ ap (to_be_bytes w64) c.sealed-sum.ensures ∙ ap (λ r. to_be_bytes w64 (sealed r)) (c.in_ok-register.ensures.register ∙ ap (λ (l : List ℕ). after_bytes c.args.register l) c.end_bytes.ensures)
    in
    map_on_err c.write_whole.result _ _ (λ prefix. AppendsPrefix-after _ _ _ end sum _ refl (rw c.end_bytes.ensures at c.in_ok-register.ensures.whole) prefix) (rw sums at c.write_whole.ensures.prefix)
