-- The encoding of a snapshot's pages, page by page.
use Rattle.std.proofs.Common.{◌≡◌, ◌≢◌, ℕ, zero, suc, ◌+◌, ◌-◌, ◌≤◌, Option, Some, List, [], ◌∷◌, ◌++◌, inl, inr, refl, sym, ap, ◌∙◌, arith, append_assoc, append-nil, subst}
use Rattle.std.specs.Io.KnownBytes.{Appends}
use Rattle.std.specs.Int.{w32, to_be_bytes}
use Rattle.std.proofs.KnownBytes.{Appends-trans}
use Rattle.page_checksum.specs.Crc.{after_bytes}
use Rattle.page_checksum.proofs.CrcLemmas.{after_bytes-append}
use Rattle.lf_sqlite_pages.specs.Image.{DatabaseImage, page_at}
use Rattle.lf_sqlite_pages.specs.LockPage.{lock_page_of}
use Rattle.lf_sqlite_pages.specs.Writes.{data_page_at, writes_of}
use Rattle.lf_sqlite_pages.specs.declared.page_write.PageWrite.{PageWrite}
use Rattle.lf_sqlite_pages.proofs.DataWrites.{data_page_at-lock_page, data_page_at-data}
use Rattle.lf_sqlite_pages.proofs.Writes.{option_cases, writes_of-none, writes_of-some}
use Rattle.ltx_codec.specs.Format.{page_encoding, pages_encoding}
use Rattle.lf_disk.specs.Folder.{Folder}
use Rattle.txn_log.specs.Store.{image_in}
use Rattle.snapshot.specs.Output.{AppendsPrefix, AppendsSome}
use Rattle.snapshot.proofs.OutputLemmas.{AppendsPrefix-after, AppendsPrefix-more}

pages_encoding-append : (ws vs : List PageWrite) → pages_encoding (ws ++ vs) ≡ pages_encoding ws ++ pages_encoding vs
pages_encoding-append [] vs = refl
pages_encoding-append (w ∷ ws) vs =
    ap (λ (l : List ℕ). to_be_bytes w32 w.number ++ (w.bytes ++ l)) (pages_encoding-append ws vs)
    ∙ ap (λ (l : List ℕ). to_be_bytes w32 w.number ++ l) (sym (append_assoc w.bytes (pages_encoding ws) (pages_encoding vs)))
    ∙ sym (append_assoc (to_be_bytes w32 w.number) (w.bytes ++ pages_encoding ws) (pages_encoding vs))

-- the encoding of the data pages up to a number
abbrev pub encoding_to : DatabaseImage → ℕ → List ℕ
encoding_to image n = pages_encoding (writes_of (data_page_at image) n)

one_page : (n : ℕ) (page : List ℕ) → pages_encoding (record { number = n; bytes = page } ∷ []) ≡ page_encoding n page
one_page n page = ap (λ (l : List ℕ). to_be_bytes w32 n ++ l) (append-nil page)

-- one page more
pub encoding-data : (image : DatabaseImage) (k : ℕ) (page : List ℕ) → k + 1 ≢ lock_page_of image.page_size → page_at image (k + 1) ≡ Some page →
    encoding_to image (k + 1) ≡ encoding_to image k ++ page_encoding (k + 1) page
encoding-data image k page is_data is =
    ap pages_encoding (writes_of-some (data_page_at image) k page (data_page_at-data image (k + 1) is_data ∙ is))
    ∙ pages_encoding-append (writes_of (data_page_at image) k) (record { number = k + 1; bytes = page } ∷ [])
    ∙ ap (λ (l : List ℕ). encoding_to image k ++ l) (one_page (k + 1) page)

pub encoding-lock : (image : DatabaseImage) (k : ℕ) → k + 1 ≡ lock_page_of image.page_size → encoding_to image (k + 1) ≡ encoding_to image k
encoding-lock image k lock = ap pages_encoding (writes_of-none (data_page_at image) k (ap (data_page_at image) lock ∙ data_page_at-lock_page image))

-- the encoding up to a number is the front of the encoding up to a later one
pub encoding-more : (image : DatabaseImage) (k d : ℕ) → (rest : List ℕ) × (encoding_to image (k + d) ≡ encoding_to image k ++ rest)
encoding-more image k zero =
    let same : k + 0 ≡ k = omega arith in
    ([], ap (encoding_to image) same ∙ sym (append-nil (encoding_to image k)))
encoding-more image k (suc d) =
    let next : k + suc d ≡ (k + d) + 1 = omega arith in
    let so_far = encoding-more image k d in
    elim (option_cases (data_page_at image ((k + d) + 1))) [
      | inl none ↦ (so_far.0, ap (encoding_to image) next ∙ ap pages_encoding (writes_of-none (data_page_at image) (k + d) none) ∙ so_far.1)
      | inr (bytes, some) ↦
          let last : List ℕ = pages_encoding (record { number = (k + d) + 1; bytes = bytes } ∷ []) in (
            so_far.0 ++ last,
            ap (encoding_to image) next ∙ ap pages_encoding (writes_of-some (data_page_at image) (k + d) bytes some)
                ∙ pages_encoding-append (writes_of (data_page_at image) (k + d)) (record { number = (k + d) + 1; bytes = bytes } ∷ [])
                ∙ ap (λ (l : List ℕ). l ++ last) so_far.1 ∙ append_assoc (encoding_to image k) so_far.0 last,
          )
    ]

-- a prefix of the next page is one of all
pub prefix_within : (image : DatabaseImage) (k count : ℕ) (page : List ℕ) (a b c : Option (List ℕ)) → k + 1 ≤ count → k + 1 ≢ lock_page_of image.page_size →
    page_at image (k + 1) ≡ Some page → Appends a b (encoding_to image k) → AppendsPrefix b c (page_encoding (k + 1) page) → AppendsPrefix a c (encoding_to image count)
prefix_within image k count page a b c within is_data is whole prefix =
    let rest = encoding-more image (k + 1) (count - (k + 1)) in
    let all : count ≡ (k + 1) + (count - (k + 1)) = omega (arith, within) in
    let split : encoding_to image count ≡ encoding_to image k ++ (page_encoding (k + 1) page ++ rest.0) =
    ap (encoding_to image) all ∙ rest.1 ∙ ap (λ (l : List ℕ). l ++ rest.0) (encoding-data image k page is_data is) ∙ append_assoc (encoding_to image k) (page_encoding (k + 1) page) rest.0 in
    AppendsPrefix-after a b c (encoding_to image k) (page_encoding (k + 1) page ++ rest.0) (encoding_to image count) split whole (AppendsPrefix-more b c (page_encoding (k + 1) page) rest.0 prefix)

-- a page more was taken
pub took_page : (image : DatabaseImage) (k : ℕ) (page : List ℕ) (a b c : Option (List ℕ)) → k + 1 ≢ lock_page_of image.page_size → page_at image (k + 1) ≡ Some page →
    Appends a b (encoding_to image k) → Appends b c (page_encoding (k + 1) page) → Appends a c (encoding_to image (k + 1))
took_page image k page a b c is_data is whole step =
    subst (λ (l : List ℕ). Appends a c l) (sym (encoding-data image k page is_data is)) (Appends-trans a b c (encoding_to image k) (page_encoding (k + 1) page) whole step)

pub register_page : (image : DatabaseImage) (k register mid after : ℕ) (page : List ℕ) → k + 1 ≢ lock_page_of image.page_size → page_at image (k + 1) ≡ Some page →
    mid ≡ after_bytes register (encoding_to image k) → after ≡ after_bytes mid (page_encoding (k + 1) page) → after ≡ after_bytes register (encoding_to image (k + 1))
register_page image k register mid after page is_data is so_far step =
    step ∙ ap (λ (r : ℕ). after_bytes r (page_encoding (k + 1) page)) so_far ∙ sym (after_bytes-append register (encoding_to image k) (page_encoding (k + 1) page))
    ∙ ap (after_bytes register) (sym (encoding-data image k page is_data is))

pub some_more : (a b c : Option (List ℕ)) → AppendsSome a b → AppendsSome b c → AppendsSome a c
some_more a b c one two = (one.0 ++ two.0, Appends-trans a b c one.0 two.0 one.1 two.1)

pub encoding_to-none : (image : DatabaseImage) → encoding_to image 0 ≡ []
unfolding writes_of
encoding_to-none image = refl

-- what was written of a page
abbrev pub Wrote : DatabaseImage → ℕ → ℕ → Option (List ℕ) → Option (List ℕ) → ℕ → Type 0
Wrote image n register a b after = (page : List ℕ) × (page_at image n ≡ Some page) × Appends a b (page_encoding n page) × (after ≡ after_bytes register (page_encoding n page))

abbrev pub WrotePrefix : DatabaseImage → ℕ → Option (List ℕ) → Option (List ℕ) → Type 0
WrotePrefix image n a b = (page : List ℕ) × (page_at image n ≡ Some page) × AppendsPrefix a b (page_encoding n page)

pub image_same : (s t commit : ℕ) (f k : Folder) → s ≡ t → f ≡ k → image_in s commit f ≡ image_in t commit k
image_same s t commit f k size folder = λ i. image_in (size i) commit (folder i)
