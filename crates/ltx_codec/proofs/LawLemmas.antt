-- Laws of the encodings of files.
use Rattle.std.proofs.Common.{◌≡◌, ℕ, ◌<◌, ◌≤◌, ◌^◌, List, [], ◌∷◌, ◌++◌, length, take, drop, arith, refl, sym, ap, subst, ◌∙◌, append_assoc}
use Rattle.std.specs.Prelude.{All}
use Rattle.std.specs.Int.{w32, w64, to_be_bytes, from_be_bytes}
use Rattle.std.proofs.lemmas.List.{append_cancel_left, take_at}
use Rattle.std.proofs.lemmas.List.Elements.{All-head, All-tail, All-weaker}
use Rattle.std.proofs.lemmas.Nat.{from_be_bytes-to_be_bytes_4, from_be_bytes-to_be_bytes_8}
use Rattle.lf_sqlite_pages.specs.Change.{PageChange, AscendsAbove}
use Rattle.lf_sqlite_pages.specs.declared.page_write.PageWrite.{PageWrite}
use Rattle.ltx_codec.specs.Fields.{header_in}
use Rattle.ltx_codec.specs.Format.{header_encoding, pages_encoding, summed_encoding, file_encoding, file_sum, FitsWidths, IsFile, IsLtx}
use Rattle.ltx_codec.specs.declared.header.Header.{Header}
use Rattle.ltx_codec.specs.declared.file.Ltx.{Ltx}
use Rattle.lf_base.specs.Endian.{be32_at, be64_at}

-- two lists that begin alike split alike
pub splits_alike : (a b x y : List ℕ) → length a ≡ length b → a ++ x ≡ b ++ y → (a ≡ b) × (x ≡ y)
splits_alike a b x y len same =
    let front : a ≡ b = sym (take_at a x (length a) refl) ∙ ap (λ (l : List ℕ). take (length a) l) same ∙ take_at b y (length a) (sym len) in
    (front, append_cancel_left a x y (same ∙ ap (λ (l : List ℕ). l ++ y) (sym front)))

-- the fields of a header's encoding are the header
pub header_again : (h : Header) (reserved rest : List ℕ) → FitsWidths h → header_in (header_encoding h reserved ++ rest) ≡ h
unfolding be32_at be64_at
header_again h reserved rest fits = rw (
  from_be_bytes-to_be_bytes_4 h.page_size fits.page_size,
  from_be_bytes-to_be_bytes_4 h.commit fits.commit,
  from_be_bytes-to_be_bytes_8 h.min fits.min,
  from_be_bytes-to_be_bytes_8 h.max fits.max,
  from_be_bytes-to_be_bytes_8 h.stamp fits.stamp,
  from_be_bytes-to_be_bytes_8 h.pre fits.pre,
  from_be_bytes-to_be_bytes_8 h.wal_offset fits.wal_offset,
  from_be_bytes-to_be_bytes_8 h.wal_size fits.wal_size,
  from_be_bytes-to_be_bytes_4 h.wal_salt1 fits.wal_salt1,
  from_be_bytes-to_be_bytes_4 h.wal_salt2 fits.wal_salt2,
  from_be_bytes-to_be_bytes_8 h.node fits.node,
) refl

-- a page's encoding is longer than nothing: its number isn't the 0 that ends a block
number_again : (n : ℕ) (rest : List ℕ) → n < 2 ^ 32 → from_be_bytes w32 (take 4 (to_be_bytes w32 n ++ rest)) ≡ n
number_again n rest small = from_be_bytes-to_be_bytes_4 n small

-- pages that a block may hold: whole, with numbers that fit
pub record AreWhole (size prev : ℕ) (ws : List PageWrite) : Type 0 where
  pub ascends : AscendsAbove prev ws
  pub small : All (λ (w : PageWrite). w.number < 2 ^ 32) ws
  pub whole : All (λ (w : PageWrite). length w.bytes ≡ size) ws

pub tail_whole : (size prev : ℕ) (w : PageWrite) (ws : List PageWrite) → AreWhole size prev (w ∷ ws) → AreWhole size w.number ws
tail_whole size prev w ws h = record {
  ascends = h.ascends.1;
  small = All-tail (λ (v : PageWrite). v.number < 2 ^ 32) w ws h.small;
  whole = All-tail (λ (v : PageWrite). length v.bytes ≡ size) w ws h.whole;
}

-- two blocks that begin alike hold the same pages
pub pages_alike : (size p q : ℕ) (vs ws : List PageWrite) (x y : List ℕ) → AreWhole size p vs → AreWhole size q ws
    → pages_encoding vs ++ (to_be_bytes w32 0 ++ x) ≡ pages_encoding ws ++ (to_be_bytes w32 0 ++ y) → (vs ≡ ws) × (x ≡ y)
pages_alike size p q [] [] x y hv hw same = (refl, append_cancel_left (to_be_bytes w32 0) x y same)
pages_alike size p q [] (w ∷ ws) x y hv hw same =
    let number : from_be_bytes w32 (take 4 (to_be_bytes w32 0 ++ x)) ≡ from_be_bytes w32 (take 4 (to_be_bytes w32 w.number ++ (w.bytes ++ pages_encoding ws ++ (to_be_bytes w32 0 ++ y)))) =
    ap (λ (l : List ℕ). from_be_bytes w32 (take 4 l)) same in
    let zero-is : 0 ≡ w.number = sym (number_again 0 x (omega arith)) ∙ number ∙ number_again w.number (w.bytes ++ pages_encoding ws ++ (to_be_bytes w32 0 ++ y)) (All-head (λ (v : PageWrite). v.number < 2 ^ 32) w ws hw.small) in
    absurd (omega (arith, hw.ascends.0, zero-is))
pages_alike size p q (v ∷ vs) [] x y hv hw same =
    let number : from_be_bytes w32 (take 4 (to_be_bytes w32 v.number ++ (v.bytes ++ pages_encoding vs ++ (to_be_bytes w32 0 ++ x)))) ≡ from_be_bytes w32 (take 4 (to_be_bytes w32 0 ++ y)) =
    ap (λ (l : List ℕ). from_be_bytes w32 (take 4 l)) same in
    let zero-is : v.number ≡ 0 = sym (number_again v.number (v.bytes ++ pages_encoding vs ++ (to_be_bytes w32 0 ++ x)) (All-head (λ (u : PageWrite). u.number < 2 ^ 32) v vs hv.small)) ∙ number ∙ number_again 0 y (omega arith) in
    absurd (omega (arith, hv.ascends.0, zero-is))
pages_alike size p q (v ∷ vs) (w ∷ ws) x y hv hw same =
    let left : List ℕ = v.bytes ++ pages_encoding vs ++ (to_be_bytes w32 0 ++ x) in
    let right : List ℕ = w.bytes ++ pages_encoding ws ++ (to_be_bytes w32 0 ++ y) in
    let numbers : to_be_bytes w32 v.number ++ left ≡ to_be_bytes w32 w.number ++ right = same in
    let number_encoding = splits_alike (to_be_bytes w32 v.number) (to_be_bytes w32 w.number) left right refl numbers in
    let number : v.number ≡ w.number =
    sym (from_be_bytes-to_be_bytes_4 v.number (All-head (λ (u : PageWrite). u.number < 2 ^ 32) v vs hv.small))
    ∙ ap (λ (l : List ℕ). from_be_bytes w32 l) number_encoding.0
    ∙ from_be_bytes-to_be_bytes_4 w.number (All-head (λ (u : PageWrite). u.number < 2 ^ 32) w ws hw.small) in
    let len : length v.bytes ≡ length w.bytes = All-head (λ (u : PageWrite). length u.bytes ≡ size) v vs hv.whole ∙ sym (All-head (λ (u : PageWrite). length u.bytes ≡ size) w ws hw.whole) in
    let pages : v.bytes ++ (pages_encoding vs ++ (to_be_bytes w32 0 ++ x)) ≡ w.bytes ++ (pages_encoding ws ++ (to_be_bytes w32 0 ++ y)) =
    sym (append_assoc v.bytes (pages_encoding vs) (to_be_bytes w32 0 ++ x)) ∙ number_encoding.1 ∙ append_assoc w.bytes (pages_encoding ws) (to_be_bytes w32 0 ++ y) in
    let page = splits_alike v.bytes w.bytes _ _ len pages in
    let more = pages_alike size v.number w.number vs ws x y (tail_whole size p v vs hv) (tail_whole size q w ws hw) page.1 in
    let one : v ≡ w = ap (λ (n : ℕ). record { number = n; bytes = v.bytes }) number ∙ ap (λ (b : List ℕ). record { number = w.number; bytes = b }) page.0 in
    (ap (λ (u : PageWrite). u ∷ vs) one ∙ ap (λ (l : List PageWrite). w ∷ l) more.0, more.1)

-- the pages of a file are whole
pub file_whole : (file : Ltx) → IsFile file → AreWhole file.header.page_size 0 file.change.pages
file_whole file valid =
    let block = valid.block in
    let commit : file.change.commit < 2 ^ 32 = omega (arith, block.commit, valid.header.widths.commit) in
    record {
      ascends = block.pages.ascending;
      small = All-weaker (λ (w : PageWrite). w.number ≤ file.change.commit) (λ (w : PageWrite). w.number < 2 ^ 32)
          (λ (w : PageWrite) (le : w.number ≤ file.change.commit). omega (arith, le, commit)) file.change.pages block.pages.within;
      whole = All-weaker (λ (w : PageWrite). length w.bytes ≡ file.change.page_size) (λ (w : PageWrite). length w.bytes ≡ file.header.page_size)
          (λ (w : PageWrite) (len : length w.bytes ≡ file.change.page_size). len ∙ block.page_size) file.change.pages block.pages.whole;
    }

regroup : (a b c d e x : List ℕ) → ((((a ++ b) ++ c) ++ d) ++ e) ++ x ≡ a ++ (b ++ (c ++ (d ++ (e ++ x))))
regroup a b c d e x = simp append_assoc

-- an encoding with what follows it, part by part
pub parts : (file : Ltx) (reserved rest : List ℕ) → file_encoding file reserved ++ rest ≡ header_encoding file.header reserved ++ (pages_encoding file.change.pages
    ++ (to_be_bytes w32 0 ++ (to_be_bytes w64 file.post ++ (to_be_bytes w64 (file_sum (summed_encoding file reserved)) ++ rest))))
parts file reserved rest = regroup (header_encoding file.header reserved) (pages_encoding file.change.pages) (to_be_bytes w32 0) (to_be_bytes w64 file.post)
    (to_be_bytes w64 (file_sum (summed_encoding file reserved))) rest

pub header_length : (h : Header) (reserved : List ℕ) → length reserved ≡ 20 → length (header_encoding h reserved) ≡ 100
header_length h reserved room = rw room refl

-- equal changes
pub change_alike : (a b : PageChange) → a.page_size ≡ b.page_size → a.commit ≡ b.commit → a.pages ≡ b.pages → a ≡ b
change_alike a b size commit pages =
    ap (λ (n : ℕ). record { page_size = n; commit = a.commit; pages = a.pages }) size
    ∙ ap (λ (n : ℕ). record { page_size = b.page_size; commit = n; pages = a.pages }) commit
    ∙ ap (λ (l : List PageWrite). record { page_size = b.page_size; commit = b.commit; pages = l }) pages

-- equal files
pub file_alike : (a b : Ltx) → a.header ≡ b.header → a.change ≡ b.change → a.post ≡ b.post → a ≡ b
file_alike a b header change post =
    ap (λ (h : Header). record { header = h; change = a.change; post = a.post }) header
    ∙ ap (λ (c : PageChange). record { header = b.header; change = c; post = a.post }) change
    ∙ ap (λ (n : ℕ). record { header = b.header; change = b.change; post = n }) post

-- two files whose encodings begin alike are one, and their reserved bytes are
read_alike : (a b : Ltx) (r s x y : List ℕ) → IsFile a → IsFile b → length r ≡ 20 → length s ≡ 20
    → file_encoding a r ++ x ≡ file_encoding b s ++ y → (a ≡ b) × (r ≡ s)
read_alike a b r s x y va vb ra sb same =
    let heads = splits_alike (header_encoding a.header r) (header_encoding b.header s) _ _ (header_length a.header r ra ∙ sym (header_length b.header s sb))
    (sym (parts a r x) ∙ same ∙ parts b s y) in
    let header : a.header ≡ b.header = sym (header_again a.header r [] va.header.widths)
    ∙ ap (λ (l : List ℕ). header_in (l ++ [])) heads.0 ∙ header_again b.header s [] vb.header.widths in
    let reserved : r ≡ s = ap (λ (l : List ℕ). drop 80 l) heads.0 in
    let size : b.header.page_size ≡ a.header.page_size = ap (λ (h : Header). h.page_size) (sym header) in
    let whole : AreWhole a.header.page_size 0 b.change.pages = subst (λ (n : ℕ). AreWhole n 0 b.change.pages) size (file_whole b vb) in
    let blocks = pages_alike a.header.page_size 0 0 a.change.pages b.change.pages _ _ (file_whole a va) whole heads.1 in
    let sums = splits_alike (to_be_bytes w64 a.post) (to_be_bytes w64 b.post) _ _ refl blocks.1 in
    let post : a.post ≡ b.post = sym (from_be_bytes-to_be_bytes_8 a.post va.post.width)
    ∙ ap (λ (l : List ℕ). from_be_bytes w64 l) sums.0 ∙ from_be_bytes-to_be_bytes_8 b.post vb.post.width in
    let change = change_alike a.change b.change
    (va.block.page_size ∙ ap (λ (h : Header). h.page_size) header ∙ sym vb.block.page_size)
    (va.block.commit ∙ ap (λ (h : Header). h.commit) header ∙ sym vb.block.commit) blocks.0 in
    (file_alike a b header change post, reserved)

-- an encoding has one reading
pub one_reading_lem : (encoding other rest more : List ℕ) (file second : Ltx) → IsLtx encoding file → IsLtx other second
    → encoding ++ rest ≡ other ++ more → (encoding ≡ other) × (file ≡ second)
one_reading_lem encoding other rest more file second is also same =
    let joined : file_encoding file is.reserved ++ rest ≡ file_encoding second also.reserved ++ more =
    ap (λ (l : List ℕ). l ++ rest) (sym is.encoding) ∙ same ∙ ap (λ (l : List ℕ). l ++ more) also.encoding in
    let both = read_alike file second is.reserved also.reserved rest more is.valid also.valid is.room also.room joined in
    (is.encoding ∙ ap (λ (f : Ltx). file_encoding f is.reserved) both.0 ∙ ap (λ (r : List ℕ). file_encoding second r) both.1 ∙ sym also.encoding, both.0)
