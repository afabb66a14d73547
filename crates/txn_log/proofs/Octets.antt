-- The numbers in the encoding of a file that was taken in are bytes, so that it reads back.
use Rattle.std.proofs.Common.{◌≡◌, inl, inr, ℕ, zero, suc, ◌+◌, ◌<◌, eqb, Option, Some, None, List, [], ◌∷◌, ◌++◌, length, get_or, take, replicate, refl, sym, ◌∙◌, ap, subst, arith, unwrap_or}
use Rattle.std.specs.Prelude.{◌/◌, ◌%◌}
use Rattle.std.specs.Int.{w32, w64, to_be_bytes}
use Rattle.std.specs.List.{All}
use Rattle.std.proofs.lemmas.Bool.{cases_lt, cases_Bool}
use Rattle.std.proofs.lemmas.List.{get_or-replicate, get_or_past, length-replicate}
use Rattle.std.proofs.lemmas.List.Elements.{All-more, All-tail}
use Rattle.std.proofs.lemmas.List.FromFn.{get_or-map-range_with_len}
use Rattle.lf_sqlite_pages.specs.LockPage.{IsDataPage}
use Rattle.lf_sqlite_pages.specs.Change.{PageChange, written}
use Rattle.lf_sqlite_pages.specs.Complete.{completed_page}
use Rattle.lf_sqlite_pages.specs.declared.page_write.PageWrite.{PageWrite}
use Rattle.lf_sqlite_pages.proofs.Completing.{completed-lock_page, completed-within, completed-past}
use Rattle.lf_sqlite_pages.proofs.Writes.{All-writes_of, option_cases}
use Rattle.ltx_codec.specs.Fields.{AreBytes, stated_page_size}
use Rattle.ltx_codec.specs.Format.{IsLtx, magic, no_meaning, header_encoding, pages_encoding, file_encoding, file_sum, summed_encoding, IsFile}
use Rattle.ltx_codec.specs.Places.{write_in, number_place}
use Rattle.ltx_codec.specs.declared.header.Header.{Header}
use Rattle.ltx_codec.specs.declared.file.Ltx.{Ltx}
use Rattle.ltx_codec.proofs.FeedLemmas.{AreBytes-append}
use Rattle.ltx_codec.proofs.FileLemmas.{file_is}
use Rattle.ltx_codec.proofs.PartLaws.{file_read}
use Rattle.ltx_codec.proofs.EncodingLemmas.{AreBytes-drop, AreBytes-take}
use Rattle.txn_log.specs.Apply.{whole_file}
use Rattle.txn_log.specs.Bringing.{ReadsBack}
use Rattle.txn_log.specs.Kept.{file_of}

-- one byte more in front
front_byte : (x : ℕ) (xs : List ℕ) → x < 256 → AreBytes xs → AreBytes (x ∷ xs)
front_byte x xs low rest zero = low
front_byte x xs low rest (suc i) = rest i

no_bytes : AreBytes []
no_bytes i = omega arith

zero_bytes : (n : ℕ) → AreBytes (replicate n 0)
zero_bytes n i = elim (cases_lt i n) [
  | inl low ↦ omega (arith, get_or-replicate {A = ℕ} n i 0 0 low)
  | inr past ↦ omega (arith, get_or_past (replicate {A = ℕ} n 0) i 0 (omega (arith, past, length-replicate {A = ℕ} n 0)))
]

low_byte : (m : ℕ) → m % 256 < 256
low_byte m = omega arith

four : (a b c d : ℕ) → a < 256 → b < 256 → c < 256 → d < 256 → AreBytes (a ∷ b ∷ c ∷ d ∷ [])
four a b c d la lb lc ld = front_byte a (b ∷ c ∷ d ∷ []) la (front_byte b (c ∷ d ∷ []) lb (front_byte c (d ∷ []) lc (front_byte d [] ld no_bytes)))

magic_bytes : AreBytes magic
magic_bytes = four 76 84 88 49 (omega arith) (omega arith) (omega arith) (omega arith)

four_bytes : (n : ℕ) → AreBytes (to_be_bytes w32 n)
four_bytes n = four (n / 16777216 % 256) (n / 65536 % 256) (n / 256 % 256) (n % 256) (low_byte (n / 16777216)) (low_byte (n / 65536)) (low_byte (n / 256)) (low_byte n)

eight : (a b c d e f g h : ℕ) → a < 256 → b < 256 → c < 256 → d < 256 → e < 256 → f < 256 → g < 256 → h < 256 → AreBytes (a ∷ b ∷ c ∷ d ∷ e ∷ f ∷ g ∷ h ∷ [])
eight a b c d e f g h la lb lc ld le lf lg lh =
    front_byte a (b ∷ c ∷ d ∷ e ∷ f ∷ g ∷ h ∷ []) la (front_byte b (c ∷ d ∷ e ∷ f ∷ g ∷ h ∷ []) lb (front_byte c (d ∷ e ∷ f ∷ g ∷ h ∷ []) lc (front_byte d (e ∷ f ∷ g ∷ h ∷ []) ld (four e f g h le lf lg lh))))

eight_bytes : (n : ℕ) → AreBytes (to_be_bytes w64 n)
eight_bytes n =
    eight (n / 72057594037927936 % 256) (n / 281474976710656 % 256) (n / 1099511627776 % 256) (n / 4294967296 % 256) (n / 16777216 % 256) (n / 65536 % 256) (n / 256 % 256) (n % 256)
    (low_byte (n / 72057594037927936)) (low_byte (n / 281474976710656)) (low_byte (n / 1099511627776)) (low_byte (n / 4294967296)) (low_byte (n / 16777216)) (low_byte (n / 65536)) (low_byte (n / 256)) (low_byte n)

-- fourteen pieces
pieces : (a b c d e f g h i j k l m n : List ℕ) → AreBytes a → AreBytes b → AreBytes c → AreBytes d → AreBytes e → AreBytes f → AreBytes g → AreBytes h → AreBytes i → AreBytes j → AreBytes k → AreBytes l → AreBytes m → AreBytes n
    → AreBytes (a ++ b ++ c ++ d ++ e ++ f ++ g ++ h ++ i ++ j ++ k ++ l ++ m ++ n)
pieces a b c d e f g h i j k l m n ab bb cb db eb fb gb hb ib jb kb lb mb nb =
    AreBytes-append (a ++ b ++ c ++ d ++ e ++ f ++ g ++ h ++ i ++ j ++ k ++ l ++ m) n
    (AreBytes-append (a ++ b ++ c ++ d ++ e ++ f ++ g ++ h ++ i ++ j ++ k ++ l) m
    (AreBytes-append (a ++ b ++ c ++ d ++ e ++ f ++ g ++ h ++ i ++ j ++ k) l
    (AreBytes-append (a ++ b ++ c ++ d ++ e ++ f ++ g ++ h ++ i ++ j) k
    (AreBytes-append (a ++ b ++ c ++ d ++ e ++ f ++ g ++ h ++ i) j
    (AreBytes-append (a ++ b ++ c ++ d ++ e ++ f ++ g ++ h) i
    (AreBytes-append (a ++ b ++ c ++ d ++ e ++ f ++ g) h
    (AreBytes-append (a ++ b ++ c ++ d ++ e ++ f) g
    (AreBytes-append (a ++ b ++ c ++ d ++ e) f
    (AreBytes-append (a ++ b ++ c ++ d) e
    (AreBytes-append (a ++ b ++ c) d
    (AreBytes-append (a ++ b) c
    (AreBytes-append a b ab bb) cb) db) eb) fb) gb) hb) ib) jb) kb) lb) mb) nb

header_bytes : (h : Header) → AreBytes (header_encoding h no_meaning)
header_bytes h =
    pieces magic (to_be_bytes w32 0) (to_be_bytes w32 h.page_size) (to_be_bytes w32 h.commit) (to_be_bytes w64 h.min) (to_be_bytes w64 h.max) (to_be_bytes w64 h.stamp) (to_be_bytes w64 h.pre)
    (to_be_bytes w64 h.wal_offset) (to_be_bytes w64 h.wal_size) (to_be_bytes w32 h.wal_salt1) (to_be_bytes w32 h.wal_salt2) (to_be_bytes w64 h.node) no_meaning
    magic_bytes (four_bytes 0) (four_bytes h.page_size) (four_bytes h.commit) (eight_bytes h.min) (eight_bytes h.max) (eight_bytes h.stamp) (eight_bytes h.pre)
    (eight_bytes h.wal_offset) (eight_bytes h.wal_size) (four_bytes h.wal_salt1) (four_bytes h.wal_salt2) (eight_bytes h.node) (zero_bytes 20)

pages_bytes : (ws : List PageWrite) → All (λ (w : PageWrite). AreBytes w.bytes) ws → AreBytes (pages_encoding ws)
pages_bytes [] all = no_bytes
pages_bytes (w ∷ ws) all =
    AreBytes-append (to_be_bytes w32 w.number) (w.bytes ++ pages_encoding ws) (four_bytes w.number)
    (AreBytes-append w.bytes (pages_encoding ws) (all 0 w (omega arith)) (pages_bytes ws (All-tail (λ (v : PageWrite). AreBytes v.bytes) w ws all)))

file_bytes : (file : Ltx) → All (λ (w : PageWrite). AreBytes w.bytes) file.change.pages → AreBytes (file_encoding file no_meaning)
file_bytes file all =
    AreBytes-append (summed_encoding file no_meaning) (to_be_bytes w64 (file_sum (summed_encoding file no_meaning)))
    (AreBytes-append (header_encoding file.header no_meaning ++ pages_encoding file.change.pages ++ to_be_bytes w32 0) (to_be_bytes w64 file.post)
    (AreBytes-append (header_encoding file.header no_meaning ++ pages_encoding file.change.pages) (to_be_bytes w32 0)
    (AreBytes-append (header_encoding file.header no_meaning) (pages_encoding file.change.pages) (header_bytes file.header) (pages_bytes file.change.pages all))
    (four_bytes 0)) (eight_bytes file.post)) (eight_bytes (file_sum (summed_encoding file no_meaning)))

-- a page that is written is one of the pages
written_bytes : (ws : List PageWrite) (n : ℕ) (bytes : List ℕ) → All (λ (w : PageWrite). AreBytes w.bytes) ws → written ws n ≡ Some bytes → AreBytes bytes
written_bytes [] n bytes all some = absurd (cc)
written_bytes (w ∷ ws) n bytes all some = elim (cases_Bool (eqb w.number n)) [
  | inl here ↦
      let is : Some w.bytes ≡ Some bytes = rw here at some in
      let same : w.bytes ≡ bytes = cc in
      subst (λ (b : List ℕ). AreBytes b) same (all 0 w (omega arith))
  | inr other ↦
      let rest : written ws n ≡ Some bytes = rw other at some in
      written_bytes ws n bytes (All-tail (λ (v : PageWrite). AreBytes v.bytes) w ws all) rest
]

whole_bytes : (change : PageChange) (count n : ℕ) (bytes : List ℕ) → All (λ (w : PageWrite). AreBytes w.bytes) change.pages → completed_page change count n ≡ Some bytes → AreBytes bytes
whole_bytes change count n bytes all some =
    let other : IsDataPage change.page_size n = λ lock.
    let none : completed_page change count n ≡ None = ap (completed_page change count) lock ∙ completed-lock_page change count in
    let no : Some bytes ≡ None = sym some ∙ none in
    absurd (cc) in
    elim (cases_lt count n) [
      | inr within ↦ written_bytes change.pages n bytes all (sym (completed-within change count n other within) ∙ some)
      | inl past ↦
          let is : Some (unwrap_or (written change.pages n) (replicate change.page_size 0)) ≡ Some bytes = sym (completed-past change count n other past) ∙ some in
          let same : unwrap_or (written change.pages n) (replicate change.page_size 0) ≡ bytes = cc in
          elim (option_cases (written change.pages n)) [
            | inl none ↦ subst (λ (b : List ℕ). AreBytes b) (ap (λ (o : Option (List ℕ)). unwrap_or o (replicate change.page_size 0)) (sym none) ∙ same) (zero_bytes change.page_size)
            | inr found ↦
                let here : found.0 ≡ bytes = ap (λ (o : Option (List ℕ)). unwrap_or o (replicate change.page_size 0)) (sym found.1) ∙ same in
                subst (λ (b : List ℕ). AreBytes b) here (written_bytes change.pages n found.0 all found.1)
          ]
    ]

-- the pages of an encoding of bytes are bytes
encoding_pages : (encoding : List ℕ) (file : Ltx) → AreBytes encoding → IsLtx encoding file → All (λ (w : PageWrite). AreBytes w.bytes) file.change.pages
encoding_pages encoding file octets is k d within =
    let of = file_is encoding file is octets in
    let page : get_or file.change.pages k d ≡ write_in encoding k =
    ap (λ (ws : List PageWrite). get_or ws k d) (sym of.writes) ∙ get_or-map-range_with_len (write_in encoding) 0 (length file.change.pages) k k d within (omega arith) in
    subst (λ (w : PageWrite). AreBytes w.bytes) (sym page) (AreBytes-take (stated_page_size encoding) _ (AreBytes-drop (number_place encoding k + 4) encoding octets))

pub reads_back : (count : ℕ) (encoding : List ℕ) (file : Ltx) → AreBytes encoding → IsLtx encoding file → ReadsBack count file
unfolding file_of
reads_back count encoding file octets is whole =
    let made : Ltx = whole_file count file in
    let all : All (λ (w : PageWrite). AreBytes w.bytes) made.change.pages =
    All-writes_of (λ (w : PageWrite). AreBytes w.bytes) (completed_page file.change count) file.change.commit
    (λ n bytes first last some. whole_bytes file.change count n bytes (encoding_pages encoding file octets is) some) in
    file_read (file_encoding made no_meaning) made (file_bytes made all) (record { valid = whole; reserved = no_meaning; room = refl; encoding = refl })

-- and so does the encoding of any file whose pages are bytes
pub file_reads_back : (file : Ltx) → IsFile file → All (λ (w : PageWrite). AreBytes w.bytes) file.change.pages → file_of (file_encoding file no_meaning) ≡ file
unfolding file_of
file_reads_back file is all = file_read (file_encoding file no_meaning) file (file_bytes file all) (record { valid = is; reserved = no_meaning; room = refl; encoding = refl })

-- one page more
pub pages_bytes-next : (ws : List PageWrite) (i : ℕ) (w : PageWrite) (bytes : List ℕ) → i < length ws → w ≡ get_or ws i w → bytes ≡ w.bytes → AreBytes bytes
    → All (λ (v : PageWrite). AreBytes v.bytes) (take i ws) → All (λ (v : PageWrite). AreBytes v.bytes) (take (i + 1) ws)
pages_bytes-next ws i w bytes within read same octets so_far =
    All-more (λ (v : PageWrite). AreBytes v.bytes) ws i w within so_far (subst (λ (v : PageWrite). AreBytes v.bytes) read (subst (λ (b : List ℕ). AreBytes b) same octets))
