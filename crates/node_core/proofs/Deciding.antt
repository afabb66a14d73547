-- Whether bytes are the encoding of an LTX file, and so which ask of the laws an ask is. Each decision is what its type says; it is made
-- rule by rule.
use Rattle.std.proofs.Common.{◌≡◌, ◌≢◌, ◌⊎◌, ◌∙◌, ℕ, zero, suc, ◌+◌, ◌^◌, ◌<◌, ◌≤◌, Bool, true, false, IsTrue, IsSome, List, [], ◌∷◌, ◌++◌, length, take, drop, append_assoc, inl, inr, refl, sym, ap, subst, arith}
use Rattle.std.specs.Prelude.{All, is_some}
use Rattle.std.specs.Int.{w32, w64, to_be_bytes}
use Rattle.std.proofs.lemmas.Bool.{cases_eq, cases_lt}
use Rattle.std.proofs.lemmas.List.Elements.{All-cons, All-head, All-nil, All-tail}
use Rattle.std.proofs.Math.Seq.{take-append_seam}
use Rattle.lf_sqlite_pages.specs.Change.{AscendsAbove, HoldsEveryPage, IsChange, PageChange, written}
use Rattle.lf_sqlite_pages.specs.LockPage.{IsDataPage, IsWithinLimit, lock_page_of}
use Rattle.lf_sqlite_pages.specs.PageSize.{is_page_size}
use Rattle.lf_sqlite_pages.specs.declared.page_write.PageWrite.{PageWrite}
use Rattle.ltx_codec.specs.FileIn.{file_in}
use Rattle.ltx_codec.specs.Format.{FitsWidths, IsBlock, IsFile, IsHeader, IsLtx, IsPostSum, file_sum, file_encoding, header_encoding, pages_encoding, summed_encoding}
use Rattle.ltx_codec.specs.Sums.{sum_of_writes}
use Rattle.ltx_codec.specs.declared.file.Ltx.{Ltx}
use Rattle.ltx_codec.specs.declared.header.Header.{Header}
use Rattle.ltx_codec.proofs.LawLemmas.{header_length}
use Rattle.world_laws.specs.Node as laws
use Rattle.node_core.specs.declared.ask.Ask.TheVariants as asks
use Rattle.node_core.specs.Pruning.{kept_of}
use Rattle.node_core.specs.Safely.{EachIsAnAsk, IsForwardOf, IsFrameOf}

-- something holds, or it does not
abbrev pub Decided : Type 0 → Type 0
Decided P = P ⊎ (P → ⊥)

both : {A B : Type 0} → Decided A → Decided B → Decided (A × B)
both (inl a) (inl b) = inl (a, b)
both (inl a) (inr b) = inr (λ x. b x.1)
both (inr a) second = inr (λ x. a x.0)

implied : {A B : Type 0} → Decided A → Decided B → Decided (A → B)
implied (inl a) (inl b) = inl (λ x. b)
implied (inl a) (inr b) = inr (λ f. b (f a))
implied (inr a) second = inl (λ x. absurd (a x))

-- the same of what says the same
again : {A B : Type 0} → (A → B) → (B → A) → Decided A → Decided B
again to from (inl a) = inl (to a)
again to from (inr a) = inr (λ b. a (from b))

below : (a b : ℕ) → Decided (a < b)
below a b = elim (cases_lt a b) [
  | inl less ↦ inl less
  | inr more ↦ inr (λ less. omega (arith, less, more))
]

at_most : (a b : ℕ) → Decided (a ≤ b)
at_most a b = elim (cases_lt b a) [
  | inl more ↦ inr (λ less. omega (arith, less, more))
  | inr less ↦ inl less
]

within_limit : (page_size commit : ℕ) → Decided (IsWithinLimit page_size commit)
within_limit page_size commit = at_most _ _

equal : (a b : ℕ) → Decided (a ≡ b)
equal a b = cases_eq a b

other : (a b : ℕ) → Decided (a ≢ b)
other a b = elim (cases_eq a b) [
  | inl same ↦ inr (λ differ. differ same)
  | inr differ ↦ inl differ
]

tested : (b : Bool) → Decided (IsTrue b)
tested true = inl refl
tested false = inr (λ same. let no : false ≡ true = same in cc)

-- each number below one
each_below : (n : ℕ) (P : ℕ → Type 0) → ((k : ℕ) → Decided (P k)) → Decided ((k : ℕ) → k < n → P k)
each_below zero P decides = inl (λ k less. absurd (omega (arith, less)))
each_below (suc n) P decides = again to from (both (decides n) (each_below n P decides)) where
  to : P n × ((k : ℕ) → k < n → P k) → (k : ℕ) → k < suc n → P k
  to parts k less = elim (cases_eq k n) [
    | inl same ↦ subst P (sym same) parts.0
    | inr differ ↦ parts.1 k (omega (arith, less, differ))
  ]

  from : ((k : ℕ) → k < suc n → P k) → P n × ((k : ℕ) → k < n → P k)
  from whole = (whole n (omega arith), λ k less. whole k (omega (arith, less)))

-- each element of a list
each : {X : Type 0} (P : X → Type 0) → ((x : X) → Decided (P x)) → (xs : List X) → Decided (All P xs)
each P decides [] = inl (All-nil P)
each P decides (x ∷ xs) = again (λ parts. All-cons P x xs parts.0 parts.1) (λ all. (All-head P x xs all, All-tail P x xs all)) (both (decides x) (each P decides xs))

same_bytes : (xs ys : List ℕ) → Decided (xs ≡ ys)
same_bytes [] [] = inl refl
same_bytes [] (y ∷ ys) = inr (λ same. cc)
same_bytes (x ∷ xs) [] = inr (λ same. cc)
same_bytes (x ∷ xs) (y ∷ ys) = again (λ parts. λ i. parts.0 i ∷ parts.1 i) (λ same. (first same, rest same)) (both (cases_eq x y) (same_bytes xs ys)) where
  first : x ∷ xs ≡ y ∷ ys → x ≡ y
  first same = cc

  rest : x ∷ xs ≡ y ∷ ys → xs ≡ ys
  rest same = cc

ascending : (number : ℕ) (pages : List PageWrite) → Decided (AscendsAbove number pages)
ascending number [] = inl tt
ascending number (w ∷ ws) = both (below number w.number) (ascending w.number ws)

every_page : (change : PageChange) → Decided (HoldsEveryPage change)
every_page change = again to from (each_below (change.commit + 1) Holds decides) where
  Holds : ℕ → Type 0
  Holds n = 1 ≤ n → IsDataPage change.page_size n → IsSome (written change.pages n)

  decides : (n : ℕ) → Decided (Holds n)
  decides n = implied (at_most 1 n) (implied (other n (lock_page_of change.page_size)) (tested (is_some (written change.pages n))))

  to : ((n : ℕ) → n < change.commit + 1 → Holds n) → HoldsEveryPage change
  to all n first within data_page = all n (omega (arith, within)) first data_page

  from : HoldsEveryPage change → (n : ℕ) → n < change.commit + 1 → Holds n
  from holds n less first data_page = holds n first (omega (arith, less)) data_page

change_decided : (change : PageChange) → Decided (IsChange change)
change_decided change =
    again
    (λ p. record { of_a_page_size = p.0; ascending = p.1.0; within = p.1.1.0; data_pages = p.1.1.1.0; whole = p.1.1.1.1 })
    (λ c. (c.of_a_page_size, (c.ascending, (c.within, (c.data_pages, c.whole)))))
    (both (tested (is_page_size change.page_size)) (both (ascending 0 change.pages)
    (both (each (λ w. w.number ≤ change.commit) (λ w. at_most w.number change.commit) change.pages)
    (both (each (λ w. IsDataPage change.page_size w.number) (λ w. other w.number (lock_page_of change.page_size)) change.pages)
    (each (λ w. length w.bytes ≡ change.page_size) (λ w. equal (length w.bytes) change.page_size) change.pages)))))

widths_decided : (h : Header) → Decided (FitsWidths h)
widths_decided h =
    again
    (λ p. record { page_size = p.0; commit = p.1.0; min = p.1.1.0; max = p.1.1.1.0; stamp = p.1.1.1.1.0; pre = p.1.1.1.1.1.0; wal_offset = p.1.1.1.1.1.1.0; wal_size = p.1.1.1.1.1.1.1.0; wal_salt1 = p.1.1.1.1.1.1.1.1.0; wal_salt2 = p.1.1.1.1.1.1.1.1.1.0; node = p.1.1.1.1.1.1.1.1.1.1 })
    (λ w. (w.page_size, (w.commit, (w.min, (w.max, (w.stamp, (w.pre, (w.wal_offset, (w.wal_size, (w.wal_salt1, (w.wal_salt2, w.node)))))))))))
    (both (below h.page_size (2 ^ 32)) (both (below h.commit (2 ^ 32)) (both (below h.min (2 ^ 64)) (both (below h.max (2 ^ 64)) (both (below h.stamp (2 ^ 64)) (both (below h.pre (2 ^ 64))
    (both (below h.wal_offset (2 ^ 64)) (both (below h.wal_size (2 ^ 64)) (both (below h.wal_salt1 (2 ^ 32)) (both (below h.wal_salt2 (2 ^ 32)) (below h.node (2 ^ 64))))))))))))

header_decided : (h : Header) → Decided (IsHeader h)
header_decided h =
    again
    (λ p. record { widths = p.0; page_size = p.1.0; commit = p.1.1.0; min = p.1.1.1.0; max = p.1.1.1.1.0; snapshot_pre = p.1.1.1.1.1.0; delta_pre = p.1.1.1.1.1.1 })
    (λ w. (w.widths, (w.page_size, (w.commit, (w.min, (w.max, (w.snapshot_pre, w.delta_pre)))))))
    (both (widths_decided h) (both (tested (is_page_size h.page_size)) (both (within_limit h.page_size h.commit) (both (at_most 1 h.min) (both (at_most h.min h.max)
    (both (implied (equal h.min 1) (equal h.pre 0)) (implied (other h.min 1) (at_most (2 ^ 63) h.pre))))))))

block_decided : (h : Header) (change : PageChange) → Decided (IsBlock h change)
block_decided h change =
    again
    (λ p. record { page_size = p.0; commit = p.1.0; pages = p.1.1.0; snapshot_pages = p.1.1.1 })
    (λ b. (b.page_size, (b.commit, (b.pages, b.snapshot_pages))))
    (both (equal change.page_size h.page_size) (both (equal change.commit h.commit) (both (change_decided change) (implied (equal h.min 1) (every_page change)))))

sum_decided : (h : Header) (change : PageChange) (post : ℕ) → Decided (IsPostSum h change post)
sum_decided h change post =
    again
    (λ p. record { width = p.0; flagged = p.1.0; empty = p.1.1.0; snapshot = p.1.1.1 })
    (λ s. (s.width, (s.flagged, (s.empty, s.snapshot))))
    (both (below post (2 ^ 64)) (both (at_most (2 ^ 63) post) (both (implied (equal h.commit 0) (equal post (2 ^ 63))) (implied (equal h.min 1) (equal post (sum_of_writes change.pages))))))

file_decided : (file : Ltx) → Decided (IsFile file)
file_decided file =
    again
    (λ p. record { header = p.0; block = p.1.0; post = p.1.1 })
    (λ f. (f.header, (f.block, f.post)))
    (both (header_decided file.header) (both (block_decided file.header file.change) (sum_decided file.header file.change file.post)))

-- the reserved bytes of an encoding stand behind its first 80
abbrev reserved_in : List ℕ → List ℕ
reserved_in bytes = drop 80 (take 100 bytes)

reserved_is : (bytes : List ℕ) (file : Ltx) (is : IsLtx bytes file) → is.reserved ≡ reserved_in bytes
reserved_is bytes file is =
    let head : List ℕ = header_encoding file.header is.reserved in
    let pages : List ℕ = pages_encoding file.change.pages in
    let zero_encoding : List ℕ = to_be_bytes w32 0 in
    let post : List ℕ = to_be_bytes w64 file.post in
    let seal : List ℕ = to_be_bytes w64 (file_sum (summed_encoding file is.reserved)) in
    let tail : List ℕ = pages ++ (zero_encoding ++ (post ++ seal)) in
    let hundred : length head ≡ 100 = header_length file.header is.reserved is.room in
    let joined : file_encoding file is.reserved ≡ head ++ tail =
    append_assoc (head ++ pages ++ zero_encoding) post seal ∙ append_assoc (head ++ pages) zero_encoding (post ++ seal) ∙ append_assoc head pages (zero_encoding ++ (post ++ seal)) in
    let whole : bytes ≡ head ++ tail = is.encoding ∙ joined in
    let front : head ≡ take 100 bytes = sym (ap (λ (l : List ℕ). take 100 l) whole ∙ ap (λ (n : ℕ). take n (head ++ tail)) (sym hundred) ∙ take-append_seam head tail) in
    ap (λ (l : List ℕ). drop 80 l) front

encoding_decided : (bytes : List ℕ) (file : Ltx) → Decided (IsLtx bytes file)
encoding_decided bytes file =
    again
    (λ p. record { valid = p.0; reserved = reserved_in bytes; room = p.1.0; encoding = p.1.1 })
    (λ is. (is.valid, (ap length (sym (reserved_is bytes file is)) ∙ is.room, is.encoding ∙ ap (file_encoding file) (reserved_is bytes file is))))
    (both (file_decided file) (both (equal (length (reserved_in bytes)) 20) (same_bytes bytes (file_encoding file (reserved_in bytes)))))

-- whether the bytes are an encoding of the file that is read in them, which is the only one that they can be an encoding of
pub is_encoding : (bytes : List ℕ) → Decided (IsLtx bytes (file_in bytes))
is_encoding bytes = encoding_decided bytes (file_in bytes)

-- so bytes are a file, or none
pub frame-of : (bytes : List ℕ) → (law : laws.Ask) × IsFrameOf bytes law
frame-of bytes = go (is_encoding bytes) where
  go : Decided (IsLtx bytes (file_in bytes)) → (law : laws.Ask) × IsFrameOf bytes law
  go (inl is) = (laws.Frame (file_in bytes), is)
  go (inr none) = (laws.NoFile, none)

-- the same where they come under a permit
pub forward-of : (bytes : List ℕ) → (law : laws.Ask) × IsForwardOf bytes law
forward-of bytes = go (is_encoding bytes) where
  go : Decided (IsLtx bytes (file_in bytes)) → (law : laws.Ask) × IsForwardOf bytes law
  go (inl is) = (laws.Forward (file_in bytes), is)
  go (inr none) = (laws.NoFile, none)

-- and each ask is one of the laws
pub each-is-an-ask : EachIsAnAsk
each-is-an-ask (asks.File now request) = (laws.File, refl)
each-is-an-ask asks.EndSession = (laws.EndSession, refl)
each-is-an-ask asks.Where = (laws.Where, refl)
each-is-an-ask (asks.Hello now position last) = (laws.Hello position last, refl)
each-is-an-ask (asks.Frame now bytes) = frame-of bytes
each-is-an-ask (asks.Drop now) = (laws.Drop, refl)
each-is-an-ask asks.Export = (laws.Export, refl)
each-is-an-ask (asks.Import now bytes) = (laws.Import, refl)
each-is-an-ask (asks.Prune keep) = (laws.Prune (kept_of keep), refl)
each-is-an-ask (asks.Info now) = (laws.Where, refl)
each-is-an-ask (asks.Watch now from) = (laws.Where, refl)
each-is-an-ask (asks.Lease now news) = (laws.Lease, refl)
each-is-an-ask (asks.HaltAsk now node) = (laws.Permit, refl)
each-is-an-ask (asks.HaltBack now number) = (laws.Permit, refl)
each-is-an-ask (asks.Forward now number bytes) = forward-of bytes
each-is-an-ask (asks.HaltGot now pass) = (laws.Permit, refl)
each-is-an-ask (asks.HaltLost number) = (laws.Permit, refl)
each-is-an-ask (asks.Forwarded ok) = (laws.Forwarded ok, refl)
