-- Prometheus' text format: metrics, each with its samples.
use Rattle.std.specs.Prelude.{ℕ, ◌+◌, ◌/◌, ◌%◌, ◌^◌, zero, suc, min, ◌-◌, List, [], ◌∷◌, ◌++◌, Bool, true, false, codes, decimal, get_or}
use Rattle.node_figures.specs.declared.figures.Histogram.{Histogram}
use Rattle.stream_primary.specs.declared.metric_names.Metric.{Metric}
use Rattle.stream_primary.specs.MetricNames.{help_of, name_of}

-- the lines before a metric's samples: its name with what it is, and its name with its kind
unfoldable pub heading : Metric → List ℕ → List ℕ
heading metric kind = codes "# HELP " ++ name_of metric ++ codes " " ++ help_of metric ++ codes "\n# TYPE " ++ name_of metric ++ codes " " ++ kind ++ codes "\n"

-- a sample's line: the metric's name, what stands behind it, and the value
unfoldable pub sample : Metric → List ℕ → List ℕ → List ℕ
sample metric behind value = name_of metric ++ behind ++ codes " " ++ value ++ codes "\n"

-- a label's value, behind the front of it, and its end
unfoldable pub label : List ℕ → List ℕ → List ℕ
label front value = front ++ value ++ codes "\"}"

-- A METRIC of one sample, that rises and falls; and one that only rises
unfoldable pub gauge : Metric → List ℕ → List ℕ
gauge metric value = heading metric (codes "gauge") ++ sample metric [] value

unfoldable pub counter : Metric → List ℕ → List ℕ
counter metric value = heading metric (codes "counter") ++ sample metric [] value

-- a condition as a number
abbrev pub flag : Bool → List ℕ
flag true = codes "1"
flag false = codes "0"

-- milliseconds as seconds with three decimals
unfoldable pub seconds : ℕ → List ℕ
seconds ms = decimal (ms / 1000) ++ 46 ∷ (48 + ms / 100 % 10) ∷ (48 + ms / 10 % 10) ∷ (48 + ms % 10) ∷ []

-- ---- histograms

-- both counts; at a u64's end it stands
unfoldable pub together : ℕ → ℕ → ℕ
together count more = min (count + more) (2 ^ 64 - 1)

-- how often it took at most the bound of the bucket at this place: a bucket has none of those before it
unfoldable pub up_to : List ℕ → ℕ → ℕ
up_to buckets zero = get_or buckets 0 0
up_to buckets (suc place) = together (up_to buckets place) (get_or buckets (suc place) 0)

-- the sample of a bound
unfoldable pub bucket : Metric → List ℕ → ℕ → List ℕ
bucket metric bound count = sample metric (label (codes "_bucket{le=\"") bound) (decimal count)

unfoldable pub short_buckets : Metric → List ℕ → List ℕ
short_buckets metric buckets =
    bucket metric (codes "0.001") (up_to buckets 0)
    ++ bucket metric (codes "0.002") (up_to buckets 1)
    ++ bucket metric (codes "0.005") (up_to buckets 2)
    ++ bucket metric (codes "0.01") (up_to buckets 3)
    ++ bucket metric (codes "0.025") (up_to buckets 4)

unfoldable pub long_buckets : Metric → List ℕ → List ℕ
long_buckets metric buckets =
    bucket metric (codes "0.05") (up_to buckets 5)
    ++ bucket metric (codes "0.1") (up_to buckets 6)
    ++ bucket metric (codes "0.25") (up_to buckets 7)
    ++ bucket metric (codes "1") (up_to buckets 8)
    ++ bucket metric (codes "10") (up_to buckets 9)

-- A HISTOGRAM: the bounds in seconds, all of them, how long they took together, and how many there are
unfoldable pub histogram : Metric → Histogram → List ℕ
histogram metric h =
    heading metric (codes "histogram")
    ++ short_buckets metric h.buckets
    ++ long_buckets metric h.buckets
    ++ bucket metric (codes "+Inf") h.count
    ++ sample metric (codes "_sum") (seconds h.sum_ms)
    ++ sample metric (codes "_count") (decimal h.count)
