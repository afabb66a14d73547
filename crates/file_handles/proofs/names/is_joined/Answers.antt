-- What is left behind the front is compared with the ending.
use Rattle.std.proofs.Common.{Some, None}
use Rattle.std.proofs.lemmas.Bool.Decides.{Decides-eqb}
use Rattle.std.proofs.lemmas.Slice.Eq.{strip_prefix_is}
use Rattle.file_handles.proofs.NameLemmas.{joined-some, joined-none}
use Rattle.file_handles.proofs.names.is_joined.Goals as goal

pub returns-in-Some : goal.returns-in-Some
returns-in-Some c =
    joined-some c.args.bytes.now c.args.front.now c.args.ending.now c.in-Some.rest.now _
    (strip_prefix_is Decides-eqb c.args.bytes.now c.args.front.now (Some c.in-Some.rest) c.in-Some.ensures.cases) c.eq.ensures

pub returns-in-None : goal.returns-in-None
returns-in-None c =
    joined-none c.args.bytes.now c.args.front.now c.args.ending.now
    (strip_prefix_is Decides-eqb c.args.bytes.now c.args.front.now None c.in-None.ensures.cases)
