use Rattle.std.proofs.Common.{◌≡◌, ◌++◌, List, ℕ, ap, ◌∙◌}
use Rattle.std.specs.Int.{w64, to_be_bytes}
use Rattle.page_checksum.specs.Crc.{after_bytes}
use Rattle.ltx_codec.specs.Format.{end_encoding, sealed}
use Rattle.litefs_tool.proofs.GatherLemmas.{HasAdded-start, HasAdded-more, HasAdded-last, HasAdded-fails, Appends-held, AppendsPrefix-all, map_on_ok}
use Rattle.litefs_tool.proofs.OutputLemmas.{on_err, map_on_err}
use Rattle.litefs_tool.proofs.file_output.write_end.Goals as goal

pub returns-in_err-add_bytes-clause-prefix : goal.returns-in_err-add_bytes-clause-prefix
returns-in_err-add_bytes-clause-prefix g c =
    let end : List ℕ = end_encoding c.args.post in
    let sum : List ℕ = to_be_bytes w64 (sealed (after_bytes c.args.register end)) in
    on_err _ _ (HasAdded-fails _ _ _ _ _ _ (HasAdded-start (g.S.Sink.taken c.args.sink.now) c.args.buffer.now.items (end ++ sum)) c.in_err-add_bytes.ensures.prefix)

pub returns-in_err-add_bytes-2-clause-prefix : goal.returns-in_err-add_bytes-2-clause-prefix
returns-in_err-add_bytes-2-clause-prefix g c =
    let end : List ℕ = end_encoding c.args.post in
    let sum : List ℕ = to_be_bytes w64 (sealed (after_bytes c.args.register end)) in
    let start = HasAdded-start (g.S.Sink.taken c.args.sink.now) c.args.buffer.now.items (end ++ sum) in
    let ended = HasAdded-more _ _ _ _ end sum _ _ start (rw c.end_bytes-end.ensures at c.in_ok-add_bytes.ensures.whole) in
    on_err _ _ (HasAdded-fails _ _ _ _ _ _ ended c.in_err-add_bytes-2.ensures.prefix)

pub returns-clause-whole : goal.returns-clause-whole
returns-clause-whole g c =
    let end : List ℕ = end_encoding c.args.post in
    let sum : List ℕ = to_be_bytes w64 (sealed (after_bytes c.args.register end)) in
    let start = HasAdded-start (g.S.Sink.taken c.args.sink.now) c.args.buffer.now.items (end ++ sum) in
    let ended = HasAdded-more _ _ _ _ end sum _ _ start (rw c.end_bytes-end.ensures at c.in_ok-add_bytes.ensures.whole) in
    let sums : c.to_be_bytes.result ≡ sum =
    c.to_be_bytes.ensures ∙ ap (to_be_bytes w64) c.sealed-sum.ensures ∙ ap (λ r. to_be_bytes w64 (sealed r)) (c.crc_feed.ensures ∙ ap (λ (l : List ℕ). after_bytes c.args.register l) c.end_bytes-end.ensures)
    in
    let all = HasAdded-last _ _ _ _ sum _ _ ended (rw sums at c.in_ok-add_bytes-2.ensures.whole) in
    let held = rw c.as_slice.ensures.value at c.write_whole.ensures.whole in
    map_on_ok c.write_whole.result _ _ (λ appends. Appends-held _ _ _ _ _ all appends) held

pub returns-clause-prefix : goal.returns-clause-prefix
returns-clause-prefix g c =
    let end : List ℕ = end_encoding c.args.post in
    let sum : List ℕ = to_be_bytes w64 (sealed (after_bytes c.args.register end)) in
    let start = HasAdded-start (g.S.Sink.taken c.args.sink.now) c.args.buffer.now.items (end ++ sum) in
    let ended = HasAdded-more _ _ _ _ end sum _ _ start (rw c.end_bytes-end.ensures at c.in_ok-add_bytes.ensures.whole) in
    let sums : c.to_be_bytes.result ≡ sum =
    c.to_be_bytes.ensures ∙ ap (to_be_bytes w64) c.sealed-sum.ensures ∙ ap (λ r. to_be_bytes w64 (sealed r)) (c.crc_feed.ensures ∙ ap (λ (l : List ℕ). after_bytes c.args.register l) c.end_bytes-end.ensures)
    in
    let all = HasAdded-last _ _ _ _ sum _ _ ended (rw sums at c.in_ok-add_bytes-2.ensures.whole) in
    let held = rw c.as_slice.ensures.value at c.write_whole.ensures.prefix in
    map_on_err c.write_whole.result _ _ (λ prefix. AppendsPrefix-all _ _ _ _ _ all prefix) held
