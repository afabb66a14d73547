use Rattle.std.proofs.Common.{List, sym, subst, map, drop, get_or, Some}
use Rattle.std.specs.List.{flat_map}
use Rattle.httparse.specs.declared.spans.HeaderSpan.{HeaderSpan}
use Rattle.httparse.specs.Spans.{header_bytes}
use Rattle.stream_wire.proofs.LastFields.{head_rest, all_behind}
use Rattle.txid_proxy.specs.Cookies.{pairs_of, CookiesSay}
use Rattle.txid_proxy.proofs.Pairs.{no_headers, said_behind, said_front}
use Rattle.txid_proxy.proofs.cookies.+cookies_say.Goals as goal

abbrev no_span : HeaderSpan
no_span = record { name = record { start = 0; end = 0 }; value = record { start = 0; end = 0 } }

pub returns-in_default : goal.returns-in_default
returns-in_default t c = no_headers c.args.bytes.now c.args.headers.now c.in_default.len_below

pub returns-in-Some : goal.returns-in-Some
returns-in-Some t c =
    let bytes = c.args.bytes.now in
    let headers = c.args.headers.now in
    subst (λ (hs : List HeaderSpan). CookiesSay (map (header_bytes bytes) hs) (Some c.in-Some.txid)) (sym (head_rest headers no_span c.in-len1-up.len_at_least))
    (said_front (pairs_of (header_bytes bytes (get_or headers 0 no_span))) (flat_map pairs_of (map (header_bytes bytes)
    (drop 1 headers))) c.in-Some.txid c.in-Some.ensures)

pub returns-in-None : goal.returns-in-None
returns-in-None t c =
    let bytes = c.args.bytes.now in
    let headers = c.args.headers.now in
    subst (λ (hs : List HeaderSpan). CookiesSay (map (header_bytes bytes) hs) c.cookies_say.result) (sym (head_rest headers no_span c.in-len1-up.len_at_least))
    (said_behind (pairs_of (header_bytes bytes (get_or headers 0 no_span))) (flat_map pairs_of (map (header_bytes bytes)
    (drop 1 headers))) c.cookies_say.result c.in-None.ensures
    (subst (λ (hs : List HeaderSpan). CookiesSay (map (header_bytes bytes) hs) c.cookies_say.result) (all_behind headers) c.cookies_say.ensures))
