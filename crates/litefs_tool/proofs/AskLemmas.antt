-- What a command that asks a node comes to, by how the exchange ended.
use Rattle.std.proofs.Common.{◌≡◌, ◌≢◌, ℕ, List, [], Option, Result, Ok, Err, inl, inr, refl, sym, subst}
use Rattle.std.specs.Result.{IsErrAnd}
use Rattle.std.specs.Io.KnownBytes.{Appends, Consumes}
use Rattle.std.proofs.KnownBytes.{Appends-nil, Consumes-nil}
use Rattle.http_exchange.specs.declared.told.Told.{Told}
use Rattle.http_exchange.specs.declared.told.Untold.{Untold}
use Rattle.http_exchange.specs.declared.told.Untold.TheVariants as untold
use Rattle.node_objects.specs.declared.counts.Counts.{Counts}
use Rattle.stream_wire.specs.declared.call.Call.TheVariants as call
use Rattle.litefs_tool.specs.Asking.{AskBacks, Prints, asked, asked_at, success, unasked}
use Rattle.litefs_tool.specs.Output.{AppendsPrefix}
use Rattle.litefs_tool.specs.Streams.{Fails, Holds, IsStill, Stream, input_limit}
use Rattle.litefs_tool.specs.steps.Input.{CountsCause, LosesBytes, ReadsWhole}
use Rattle.litefs_tool.specs.steps.Performing.{CountsDial, GoesAsking, HasAsked}
use Rattle.litefs_tool.specs.declared.command.Command.{Command}
use Rattle.litefs_tool.specs.declared.command.Command.TheVariants.{Export, Import}
use Rattle.litefs_tool.specs.declared.failure.Failure.{Failure}
use Rattle.litefs_tool.specs.declared.failure.Failure.TheVariants as failure
use Rattle.litefs_tool.specs.declared.input.InputFault.{InputFault}
use Rattle.litefs_tool.specs.declared.input.InputFault.TheVariants as fault
use Rattle.litefs_tool.specs.declared.remote.Remote.{Remote}
use Rattle.litefs_tool.proofs.PerformLemmas.{unmoved}

module _ (backs : AskBacks) (command : Command) (input : Stream) (counts counts_after : Counts) where
  -- a command that ends with this failure
  pub ends_as : (output : Stream) (why : Failure) (result : Result (Unit {0}) Failure) → IsErrAnd result (λ f. f ≡ why)
      → GoesAsking backs command input output counts counts_after (Err why) → GoesAsking backs command input output counts counts_after result
  ends_as output why (Ok done) is goes = absurd is
  ends_as output why (Err f) is goes = rw is goes

  -- no whole reply was read
  pub untold_goes : (taken : Option (List ℕ)) (count : ℕ) (why : Untold) → HasAsked backs command input counts counts_after (Err why)
      → GoesAsking backs command input (unmoved taken count) counts counts_after (Err (failure.Untold why))
  untold_goes taken count untold.Fault has = record {
    read = has.read;
    written = [];
    reads = has.reads;
    writes = Appends-nil taken;
    cause = (has.holds, refl);
    network = has.cause;
    went = asked has.asks (Err untold.Fault) has.asked has.back (refl, refl);
  }
  untold_goes taken count untold.Unfit has = record {
    read = has.read;
    written = [];
    reads = has.reads;
    writes = Appends-nil taken;
    cause = (has.holds, refl);
    network = has.cause;
    went = asked has.asks (Err untold.Unfit) has.asked has.back (refl, refl);
  }
  untold_goes taken count untold.TooLong has = record {
    read = has.read;
    written = [];
    reads = has.reads;
    writes = Appends-nil taken;
    cause = (has.holds, refl);
    network = has.cause;
    went = asked has.asks (Err untold.TooLong) has.asked has.back (inl refl, refl);
  }
  untold_goes taken count untold.Turns has = record {
    read = has.read;
    written = [];
    reads = has.reads;
    writes = Appends-nil taken;
    cause = (has.holds, refl);
    network = has.cause;
    went = asked has.asks (Err untold.Turns) has.asked has.back (inr refl, refl);
  }
  untold_goes taken count untold.NoMemory has = record {
    read = has.read;
    written = [];
    reads = has.reads;
    writes = Appends-nil taken;
    cause = (has.holds, refl);
    network = has.cause;
    went = asked has.asks (Err untold.NoMemory) has.asked has.back (refl, refl);
  }

  -- the reply has another status
  pub other_status : (taken : Option (List ℕ)) (count : ℕ) (told : Told) → told.status ≢ 200 → HasAsked backs command input counts counts_after (Ok told)
      → GoesAsking backs command input (unmoved taken count) counts counts_after (Err failure.Reply)
  other_status taken count told other has = record {
    read = has.read;
    written = [];
    reads = has.reads;
    writes = Appends-nil taken;
    cause = (has.holds, refl);
    network = has.cause;
    went = asked has.asks (Ok told) has.asked has.back (inl (other, refl), refl);
  }

  -- its body is none that the command takes
  pub other_body : (taken : Option (List ℕ)) (count : ℕ) (body : List ℕ) → ((bytes : List ℕ) → Prints command body bytes → ⊥)
      → HasAsked backs command input counts counts_after (success body)
      → GoesAsking backs command input (unmoved taken count) counts counts_after (Err failure.BadReply)
  other_body taken count body none has = record {
    read = has.read;
    written = [];
    reads = has.reads;
    writes = Appends-nil taken;
    cause = (has.holds, refl);
    network = has.cause;
    went = asked has.asks (success body) has.asked has.back (inr (refl, none, refl), refl);
  }

  -- the reply has status 200 and this body
  pub succeeds : (told : Told) (body : List ℕ) → told ≡ record { status = 200; body = body } → HasAsked backs command input counts counts_after (Ok told)
      → HasAsked backs command input counts counts_after (success body)
  succeeds told body is has = subst (λ t. HasAsked backs command input counts counts_after (Ok t)) is has

  -- what the command writes was not written whole
  pub unwritten_goes : (output : Stream) (body bytes : List ℕ) → Prints command body bytes → AppendsPrefix output.bytes output.bytes_after bytes → Fails output
      → HasAsked backs command input counts counts_after (success body) → GoesAsking backs command input output counts counts_after (Err failure.Output)
  unwritten_goes output body bytes prints prefix fails has = record {
    read = has.read;
    written = prefix.0;
    reads = has.reads;
    writes = prefix.2;
    cause = (has.holds, fails);
    network = has.cause;
    went = asked has.asks (success body) has.asked has.back (body, bytes, refl, prints, prefix.1);
  }

  -- it was
  pub written_goes : (output : Stream) (body bytes : List ℕ) → Prints command body bytes → Appends output.bytes output.bytes_after bytes → Holds output
      → HasAsked backs command input counts counts_after (success body) → GoesAsking backs command input output counts counts_after (Ok tt)
  written_goes output body bytes prints appends holds has = record {
    read = has.read;
    written = bytes;
    reads = has.reads;
    writes = appends;
    cause = (has.holds, holds);
    network = has.cause;
    went = asked has.asks (success body) has.asked has.back (body, refl, prints);
  }

-- `export` has asked, and left its input alone
pub export_asked : (backs : AskBacks) (remote : Remote) (input : Stream) (counts counts_after : Counts) (end : Result Told Untold) → IsStill input
    → backs.asked (asked_at (call.Export remote.name) remote.address []) end → CountsDial counts counts_after end
    → HasAsked backs (Export remote) input counts counts_after end
export_asked backs remote input counts counts_after end still back cause = record {
  read = [];
  asks = asked_at (call.Export remote.name) remote.address [];
  reads = subst (λ after. Consumes input.bytes after []) (sym still.0) (Consumes-nil input.bytes);
  holds = still.1;
  asked = (refl, refl);
  back = back;
  cause = cause;
}

-- `import` has asked, with all of its input
pub import_asked : (backs : AskBacks) (remote : Remote) (input : Stream) (counts counts_after : Counts) (read body : List ℕ) (end : Result Told Untold)
    → ReadsWhole input_limit input.bytes input.bytes_after read → Holds input → body ≡ read
    → backs.asked (asked_at (call.Import remote.name) remote.address body) end → CountsDial counts counts_after end
    → HasAsked backs (Import remote) input counts counts_after end
import_asked backs remote input counts counts_after read body end whole holds is back cause = record {
  read = read;
  asks = asked_at (call.Import remote.name) remote.address read;
  reads = whole.read;
  holds = holds;
  asked = (whole.to_the_end, whole.within, refl);
  back = subst (λ b. backs.asked (asked_at (call.Import remote.name) remote.address b) end) is back;
  cause = cause;
}

-- the input was not read whole, and nothing is asked
pub unread_goes : (backs : AskBacks) (remote : Remote) (input : Stream) (counts : Counts) (taken : Option (List ℕ)) (count : ℕ) (why : InputFault)
    → LosesBytes input_limit input.bytes input.bytes_after why → CountsCause input.faults input.faults_after why → backs.nothing
    → GoesAsking backs (Import remote) input (unmoved taken count) counts counts (Err (failure.Input why))
unread_goes backs remote input counts taken count fault.Failed lost counts_input nothing = record {
  read = lost.bytes;
  written = [];
  reads = lost.read;
  writes = Appends-nil taken;
  cause = (counts_input, refl);
  network = refl;
  went = unasked tt refl nothing;
}
unread_goes backs remote input counts taken count fault.TooLong lost counts_input nothing = record {
  read = lost.bytes;
  written = [];
  reads = lost.read;
  writes = Appends-nil taken;
  cause = (counts_input, refl);
  network = refl;
  went = unasked (lost.past refl) refl nothing;
}
unread_goes backs remote input counts taken count fault.NoMemory lost counts_input nothing = record {
  read = lost.bytes;
  written = [];
  reads = lost.read;
  writes = Appends-nil taken;
  cause = (counts_input, refl);
  network = refl;
  went = unasked tt refl nothing;
}
