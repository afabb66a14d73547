use Rattle.std.proofs.Common.{◌≡◌, ◌≤◌, length, ap, sym, ◌∙◌, arith, List, ℕ}
use Rattle.std.proofs.lemmas.List.{length-take, take_all}
use Rattle.lf_base.specs.FileBytes.{written}
use Rattle.wal_watch.proofs.WriteLemmas.{written-longer}
use Rattle.wal_watch.proofs.check.keeps_header.Goals as goal

pub returns-then-length_after-len : goal.returns-then-length_after-len
returns-then-length_after-len c = (
  λ off. cc,
  λ same.
      let contents = c.args.contents.now.bytes in
      let new = written c.args.at c.args.bytes.now c.args.contents.now.bytes in
      absurd (c.if-length_after-len.true (omega (
        arith,
        c.length_after.ensures,
        c.len-len.ensures.value,
        c.if-len-ge-HEADER_LENGTH.false,
        written-longer c.args.at c.args.bytes.now contents,
        ap (λ (l : List ℕ). length l) same,
        length-take 32 new,
        length-take 32 contents,
      ))),
)

pub returns : goal.returns
returns c =
    let contents = c.args.contents.now.bytes in
    let new = written c.args.at c.args.bytes.now c.args.contents.now.bytes in
    let len = c.len-len.result in
    let short : length c.args.contents.now.bytes ≤ 32 = omega (arith, c.len-len.ensures.value, c.if-len-ge-HEADER_LENGTH.false) in
    let here : length c.args.contents.now.bytes ≤ c.len-len.result = omega (arith, c.len-len.ensures.value) in
    let same_size : length (written c.args.at c.args.bytes.now c.args.contents.now.bytes) ≡ c.len-len.result = sym c.length_after.ensures ∙ c.if-length_after-len.false in
    let new_here : length (written c.args.at c.args.bytes.now c.args.contents.now.bytes) ≤ c.len-len.result = omega (arith, same_size) in
    let new_short : length (written c.args.at c.args.bytes.now c.args.contents.now.bytes) ≤ 32 = omega (arith, same_size, short, c.len-len.ensures.value) in (
      λ yes. take_all 32 new new_short ∙ sym (take_all len new new_here) ∙ c.keeps-2.ensures.0 yes ∙ take_all len contents here ∙ sym (take_all 32 contents short),
      λ same. c.keeps-2.ensures.1 (take_all len new new_here ∙ sym (take_all 32 new new_short) ∙ same ∙ take_all 32 contents short ∙ sym (take_all len contents here)),
    )
