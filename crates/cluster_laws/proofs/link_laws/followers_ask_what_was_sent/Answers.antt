use Rattle.cluster_laws.proofs.TwoNodes.{ask_what_was_sent}
use Rattle.cluster_laws.proofs.link_laws.followers_ask_what_was_sent.Goals as goal

pub returns : goal.returns
returns c = ask_what_was_sent
