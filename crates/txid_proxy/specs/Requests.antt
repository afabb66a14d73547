-- A request that may be passed on, by the bytes of a link.
use Rattle.std.specs.Prelude.{◌≡◌, ℕ, ◌+◌, ◌<◌, ◌≤◌, List, length, take, drop, Option, Result, Ok, Err, unwrap_or}
use Rattle.std.specs.Io.KnownBytes.{Consumes}
use Rattle.httparse.specs.Grammar.{RequestHead, ReadsRequest, print_request}
use Rattle.stream_wire.specs.Head.{IsTaken, NeverTakesRequest}
use Rattle.http_exchange.specs.Called.{IsHeadPart}
use Rattle.link_session.specs.declared.feed.FeedFault.{FeedFault}
use Rattle.link_session.specs.declared.feed.FeedFault.TheVariants as fault
use Rattle.txid_proxy.specs.declared.asked.Asked.{Asked}
use Rattle.txid_proxy.specs.declared.asked.Asked.TheVariants as asked

-- the most bytes of a body that is passed on
abbrev pub body_max : ℕ
body_max = 67108864

-- how many bytes a head has
abbrev pub head_size : RequestHead → ℕ
head_size head = length (print_request head)

-- the bytes begin with a head that is taken, and that says a body of this length
pub record SaysBody (bytes : List ℕ) (head : RequestHead) (len : ℕ) : Type 0 where
  pub said : Option ℕ
  pub reads : ReadsRequest bytes head (drop (head_size head) bytes)
  pub taken : IsTaken (head_size head) head.fields said
  pub len_is : len ≡ unwrap_or said 0

-- THE BYTES BEGIN A REQUEST with such a head, of HTTP/1.1
pub record Begins (bytes : List ℕ) (head : RequestHead) (len : ℕ) : Type 0 where
  pub says : SaysBody bytes head len
  pub version : head.minor ≡ 1

-- they begin none, whatever follows: no head that is taken comes; or it is one of HTTP/1.0
pub data BeginsNone (bytes : List ℕ) : Type 0 where
  no_head : NeverTakesRequest bytes → BeginsNone bytes
  too_old : (head : RequestHead) (len : ℕ) → SaysBody bytes head len → head.minor ≡ 0 → BeginsNone bytes

-- less than a request, and one can still come: a part of its head, or its head and a part of its body
pub data IsPart (bytes : List ℕ) : Type 0 where
  in_head : IsHeadPart bytes → IsPart bytes
  in_body : (head : RequestHead) (len : ℕ) → Begins bytes head len → length bytes < head_size head + len → IsPart bytes

-- a request whose head has this size, and whose body this length, is whole
pub record IsWhole (bytes : List ℕ) (size len : ℕ) : Type 0 where
  pub head : RequestHead
  pub begins : Begins bytes head len
  pub size_is : size ≡ head_size head
  pub fits : len ≤ body_max
  pub whole : size + len ≤ length bytes

-- a request begins whose body is longer than what is passed on
pub record IsTooLong (bytes : List ℕ) : Type 0 where
  pub head : RequestHead
  pub len : ℕ
  pub begins : Begins bytes head len
  pub long : body_max < len

-- what bytes begin with, where a request is to come
abbrev pub Hears : List ℕ → Result Asked FeedFault → Type 0
Hears bytes (Ok asked.Part) = IsPart bytes
Hears bytes (Ok (asked.Whole size len)) = IsWhole bytes size len
Hears bytes (Ok asked.TooLong) = IsTooLong bytes
Hears bytes (Err fault.Broken) = BeginsNone bytes
Hears bytes (Err fault.NoMemory) = Unit {0}

-- what was read: a whole request, or the head of one that is too long
abbrev pub HearsAll : List ℕ → Asked → Type 0
HearsAll bytes asked.Part = ⊥
HearsAll bytes (asked.Whole size len) = IsWhole bytes size len
HearsAll bytes asked.TooLong = IsTooLong bytes

-- A REQUEST
pub record Request : Type 0 where
  pub head : RequestHead
  pub body : List ℕ

-- the bytes have this request at their front, whose body has this length, and perhaps more behind it
pub record HasRequest (bytes : List ℕ) (len : ℕ) (request : Request) : Type 0 where
  pub begins : Begins bytes request.head len
  pub fits : len ≤ body_max
  pub whole : head_size request.head + len ≤ length bytes
  pub body : request.body ≡ take len (drop (head_size request.head) bytes)

-- it was read of a text
pub record WasRead (text left : Option (List ℕ)) (request : Request) : Type 0 where
  pub bytes : List ℕ
  pub len : ℕ
  pub has : HasRequest bytes len request
  pub read : Consumes text left bytes

-- of a text the head was read of a request whose body is too long, and perhaps more behind it
pub record WasTooLong (text left : Option (List ℕ)) : Type 0 where
  pub bytes : List ℕ
  pub long : IsTooLong bytes
  pub read : Consumes text left bytes
