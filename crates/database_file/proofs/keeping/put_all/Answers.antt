-- One page more is put.
use Rattle.std.proofs.Common.{rules, arith, false}
use Rattle.std.proofs.lemmas.Option.{slice_get-get_or}
use Rattle.database_file.proofs.PutLemmas.{put-none, put-more}
use Rattle.database_file.proofs.keeping.put_all.Goals as goal

pub loop-at-init : goal.loop-at-init
loop-at-init c = record {
  room = search rules;
  put = put-none c.args.kept.now.pages c.args.first c.args.bytes.now c.args.size c.args.same.now;
}

pub loop-at-preserved : goal.loop-at-preserved
loop-at-preserved c = record {
  room = record {
    of_size = search rules;
    spare = omega (arith, c.put.ensures.spare, c.loop-at.invariant.room.spare);
  };
  put = put-more _ _ _ _ _ _ _ _ _ _ (slice_get-get_or c.args.same.now c.loop-at.at false c.loop-at-test.true) c.page_in.ensures.value c.put.ensures.pages
      c.loop-at.invariant.put;
}
