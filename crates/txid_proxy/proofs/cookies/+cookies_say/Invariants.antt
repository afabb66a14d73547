use Rattle.std.proofs.Common.{length}
use Rattle.txid_proxy.proofs.cookies.+cookies_say.Given as goal

abbrev pub decreases-cookies_say : goal.decreases-cookies_say
decreases-cookies_say l = length l.headers.now
