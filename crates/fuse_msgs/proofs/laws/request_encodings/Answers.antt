use Rattle.fuse_msgs.specs.Encoding.{request_bytes}
use Rattle.fuse_msgs.proofs.OneReading.{one_request}
use Rattle.fuse_msgs.proofs.Encodings.{encoding_is_message}
use Rattle.fuse_msgs.proofs.laws.request_encodings.Goals as goal

pub returns-clause-read : goal.returns-clause-read
returns-clause-read c = encoding_is_message

pub returns-clause-once : goal.returns-clause-once
returns-clause-once c = one_request

pub returns-clause-apart : goal.returns-clause-apart
returns-clause-apart c a b fa fb e = one_request (request_bytes b) a b (rw (← e) (encoding_is_message a fa))
    (encoding_is_message b fb)
