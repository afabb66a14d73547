use Rattle.std.proofs.Common.{◌≡◌, ℕ, ◌/◌, List, [], get_or, take, ap, ◌∙◌}
use Rattle.std.specs.Simd.{first_chunks}
use Rattle.page_checksum.specs.Crc.{after_bytes}
use Rattle.page_checksum.proofs.PieceLemmas.{front_replaced}
use Rattle.page_checksum.proofs.blocks.enter_block.Goals as goal

pub returns : goal.returns
returns c =
    let word : get_or c.as_chunks.result.0.now 0 [] ≡ take 8 c.args.block.now =
    ap (λ (xs : List (List ℕ)). get_or xs 0 []) c.as_chunks.ensures.front ∙ ap (λ (n : ℕ). get_or (first_chunks 8 (n / 8) c.args.block.now) 0 []) c.told-block in
    front_replaced c.args.register 8 c.copy_from_slice.new.self c.args.block.now
    (ap (after_bytes 0) c.copy_from_slice.ensures.after ∙ c.enter_word.ensures ∙ ap (after_bytes c.args.register) word)
