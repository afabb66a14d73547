use Rattle.std.proofs.Common.{length}
use Rattle.node_settings.proofs.url_array.+urls_behind.Given as goal

abbrev pub decreases-urls_behind : goal.decreases-urls_behind
decreases-urls_behind l = length l.values.now
