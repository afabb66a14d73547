use Rattle.ltx_codec.proofs.decoder.Decoder.feed.Goals as goal

pub returns-in-Ok-clause-gives : goal.returns-in-Ok-clause-gives
returns-in-Ok-clause-gives c limit encoding fed = c.in-Ok.ensures.gives limit encoding (c.begin_part.ensures.fed limit encoding fed)

pub returns-in-Err-clause-gives : goal.returns-in-Err-clause-gives
returns-in-Err-clause-gives c limit encoding fed = c.in-Err.ensures.gives limit encoding (c.begin_part.ensures.fed limit encoding fed)
