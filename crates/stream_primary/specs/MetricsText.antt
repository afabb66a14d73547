-- GET /metrics: what a node is and its figures, in Prometheus' text format.
use Rattle.std.specs.Prelude.{ℕ, List, [], ◌∷◌, ◌++◌, Bool, true, false, codes, decimal, nat_eq, not}
use Rattle.file_view.specs.declared.view.Role.{Role}
use Rattle.file_view.specs.declared.view.Role.TheVariants as role
use Rattle.node_core.specs.declared.info.NodeInfo.{NodeInfo}
use Rattle.node_figures.specs.declared.figures.Figures.{Figures}
use Rattle.node_figures.specs.declared.figures.Refused.{Refused}
use Rattle.stream_primary.specs.declared.metric_names.Metric.TheVariants as metric
use Rattle.stream_primary.specs.Metric.{counter, flag, gauge, heading, histogram, label, sample, seconds}

abbrev pub is_primary : Role → Bool
is_primary role.Primary = true
is_primary role.Replica = false
is_primary role.Halted = false

abbrev pub is_halted : Role → Bool
is_halted role.Primary = false
is_halted role.Replica = false
is_halted role.Halted = true

-- the media type
unfoldable pub metrics_type : List ℕ
metrics_type = codes "text/plain; version=0.0.4"

-- the node
unfoldable pub node_rows : NodeInfo → Figures → List ℕ
node_rows info figures =
    gauge metric.IsPrimary (flag (is_primary info.role))
    ++ gauge metric.IsHalted (flag (is_halted info.role))
    ++ gauge metric.StoreBroken (flag info.broken)
    ++ gauge metric.Uptime (seconds figures.uptime_ms)

-- who listens to it
unfoldable pub reader_rows : Figures → List ℕ
reader_rows figures =
    gauge metric.Subscribers (decimal figures.counts.followers)
    ++ gauge metric.Watchers (decimal figures.counts.watchers)

-- whether there is a database
abbrev pub has_database : NodeInfo → Bool
has_database info = not (nat_eq info.pos.txid 0)

-- the database
unfoldable pub database_rows : NodeInfo → List ℕ
database_rows info =
    gauge metric.Databases (flag (has_database info))
    ++ gauge metric.Txid (decimal info.pos.txid)
    ++ gauge metric.Pages (decimal info.commit)
    ++ gauge metric.PageBytes (decimal info.page_size)

-- its log
unfoldable pub log_rows : NodeInfo → Figures → List ℕ
log_rows info figures =
    gauge metric.FirstTxid (decimal info.first)
    ++ gauge metric.LogFiles (decimal info.files)
    ++ gauge metric.LogBytes (decimal figures.counts.log_bytes)

-- what happened since its start: to its log, and to its streams
unfoldable pub commit_rows : Figures → List ℕ
commit_rows figures =
    counter metric.Commits (decimal figures.counts.commits)
    ++ counter metric.Snapshots (decimal figures.counts.snapshots)

unfoldable pub stream_rows : Figures → List ℕ
stream_rows figures =
    counter metric.SentBytes (decimal figures.counts.sent_bytes)
    ++ counter metric.HeldFrames (decimal figures.counts.held_frames)

unfoldable pub counter_rows : Figures → List ℕ
counter_rows figures = commit_rows figures ++ stream_rows figures

-- the sample of an error number
unfoldable pub refusal_line : Refused → List ℕ
refusal_line one = sample metric.Refusals (label (codes "{errno=\"") (decimal one.errno)) (decimal one.count)

abbrev pub refusal_lines : List Refused → List ℕ
refusal_lines [] = []
refusal_lines (one ∷ more) = refusal_line one ++ refusal_lines more

unfoldable pub refusal_rows : List Refused → List ℕ
refusal_rows refusals =
    heading metric.Refusals (codes "counter")
    ++ refusal_lines refusals

-- how long it took
unfoldable pub time_rows : Figures → List ℕ
time_rows figures =
    histogram metric.CommitTime figures.counts.commit_time
    ++ histogram metric.Lag figures.counts.lag

-- THE METRICS
unfoldable pub metrics_text : NodeInfo → Figures → List ℕ
metrics_text info figures =
    node_rows info figures
    ++ reader_rows figures
    ++ database_rows info
    ++ log_rows info figures
    ++ counter_rows figures
    ++ refusal_rows figures.counts.refusals.items
    ++ time_rows figures
