use Rattle.std.proofs.Common.{◌∷◌, codes, subst, sym, ◌∙◌}
use Rattle.lf_base.specs.Name.{IsName}
use Rattle.litefs_tool.specs.Words.{BeginsWithBoth, IsNameRead, Words}
use Rattle.litefs_tool.proofs.BothLemmas.{socket_or_name}
use Rattle.litefs_tool.proofs.task.read_task.Goals as goal

pub returns-in_default : goal.returns-in_default
returns-in_default c task says = c.in_default.ensures says.socket task.name (codes "--" ∷ task.words) says.options

pub returns : goal.returns
returns c =
    let read = subst (IsNameRead c.in-Some.name.now) c.in-Some-2.is c.in_ok-name.ensures in
    let named = subst (λ n. BeginsWithBoth (codes "--socket") (codes "--name") c.in-Some.socket.now n c.args.words.now c.in-Some.behind.now) (sym read.0) c.in-Some.ensures in
    let behind = subst (BeginsWithBoth (codes "--socket") (codes "--name") c.in-Some.socket.now c.in-Some-2.name c.args.words.now) c.in-Some-program_in.ensures.0 named in
    let program = c.in_ok-words.ensures in
    record {
      socket = c.in-Some.socket.now;
      options = subst (λ (words : Words). BeginsWithBoth (codes "--socket") (codes "--name") c.in-Some.socket.now c.in-Some-2.name c.args.words.now (codes "--" ∷ words)) (sym program) behind;
      is_name = subst IsName (sym read.0) read.1;
      some = λ none. c.in-Some-program_in.ensures.1 (sym program ∙ none);
      address = c.in_ok-address.ensures;
    }
