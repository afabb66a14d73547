use Rattle.stream_primary.specs.EventLines.{changed_line}
use Rattle.stream_primary.proofs.event_lines.put_changed.Goals as goal

pub returns : goal.returns
unfolding changed_line
returns c = c.put_primary.ensures
