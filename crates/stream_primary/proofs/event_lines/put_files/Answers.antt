use Rattle.std.proofs.Common.{◌∙◌}
use Rattle.stream_primary.proofs.Lines.{file_written}
use Rattle.stream_primary.proofs.event_lines.put_files.Goals as goal

pub loop-file-preserved : goal.loop-file-preserved
loop-file-preserved c =
    file_written c.args.name.now c.args.info.now c.args.files.now c.loop-file.file-index _ c.loop-file.out.items c.put_file.new.out.items c.loop-file-test.true c.in_ok-put_file.ensures
    ∙ c.loop-file.invariant
