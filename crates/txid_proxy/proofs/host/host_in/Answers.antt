use Rattle.std.proofs.Common.{ℕ, Option, ◌++◌, ap, sym, ◌∙◌}
use Rattle.std.specs.Option.{option_to_list}
use Rattle.std.specs.List.{list_all}
use Rattle.httparse.specs.Grammar.{is_value_byte}
use Rattle.txid_proxy.proofs.HostLines.{no_value}
use Rattle.txid_proxy.proofs.host.host_in.Goals as goal

pub returns-then-not-is_value : goal.returns-then-not-is_value
returns-then-not-is_value c =
    let rest = c.pop.new.self.items in
    no_value c.args.bytes rest (sym c.into_vec-host.ensures ∙ c.pop.ensures.items ∙ ap (λ (o : Option ℕ). rest ++ option_to_list o) c.if-not-is_feed.ensures)
    (ap (list_all is_value_byte) (sym c.as_slice.ensures.value) ∙ sym c.is_value.ensures ∙ c.if-not-is_value.true)
