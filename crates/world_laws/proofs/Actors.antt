-- The files of a scenario: a first one, and the one after it.
use Rattle.std.proofs.Common.{◌≡◌, ◌≢◌, ℕ, zero, suc, ◌<◌, ◌≤◌, ◌^◌, bit_xor, IsSome, List, [], ◌∷◌, length, inl, inr, refl, sym, ap, subst, ◌∙◌, arith}
use Rattle.std.proofs.lemmas.Nat.{xor_lt, le_or_r}
use Rattle.std.proofs.lemmas.List.Elements.{All-cons, All-nil}
use Rattle.lf_base.specs.declared.pos.Pos.{Pos}
use Rattle.page_checksum.specs.Crc.{crc}
use Rattle.page_checksum.specs.Sums.{page_sum_of}
use Rattle.page_checksum.proofs.CrcLemmas.{crc_fits, flagged_fits}
use Rattle.lf_sqlite_pages.specs.PageSize.{IsPageSize, is_page_size}
use Rattle.lf_sqlite_pages.specs.LockPage.{lock_page_of, IsDataPage, IsWithinLimit}
use Rattle.lf_sqlite_pages.specs.Image.{empty_image, IsImage}
use Rattle.lf_sqlite_pages.specs.Change.{IsChange, HoldsEveryPage, written}
use Rattle.lf_sqlite_pages.specs.Apply.{apply}
use Rattle.lf_sqlite_pages.specs.declared.page_write.PageWrite.{PageWrite}
use Rattle.lf_sqlite_pages.proofs.Laws.{length-apply}
use Rattle.ltx_codec.specs.Fields.{AreBytes}
use Rattle.ltx_codec.specs.Format.{IsFile, IsFlagged}
use Rattle.ltx_codec.specs.Sums.{image_sum}
use Rattle.ltx_codec.specs.Positions.{Joins, after, nowhere}
use Rattle.ltx_codec.specs.declared.file.Ltx.{Ltx}
use Rattle.ltx_codec.proofs.ChangedSumLemmas.{image_sum-whole}
use Rattle.world_laws.specs.Scenario.{IsPage, file_of, first_file, one_page, second_file, sum_of_page}
use Rattle.world_laws.specs.SnapshotLaw.{IsFullStore}
use Rattle.world_laws.specs.Store.{at, empty_store, with_file}
use Rattle.world_laws.proofs.Images.{IsImage-apply, IsImage-empty}
use Rattle.world_laws.proofs.Stores.{end_of-push}

-- the first file of a database, whose snapshot is a file too
pub record IsFirst (file : Ltx) : Type 0 where
  pub sound : IsFile file
  pub joins : Joins empty_image nowhere file
  pub min : file.header.min ≡ 1
  pub max : file.header.max ≡ 1
  pub full : IsFullStore (with_file empty_store file)

-- the file that comes after it
pub record IsSecond (first file : Ltx) : Type 0 where
  pub sound : IsFile file
  pub joins : Joins (apply empty_image first.change) (after first) file
  pub every : HoldsEveryPage file.change
  pub min : file.header.min ≡ 2
  pub max : file.header.max ≡ 2

page_size-512 : IsPageSize 512
unfolding is_page_size
page_size-512 = refl

first_is_data : IsDataPage 512 1
unfolding lock_page_of
first_is_data same = cc

numbered-octets : (page : List ℕ) → AreBytes page → AreBytes (0 ∷ 0 ∷ 0 ∷ 1 ∷ page)
numbered-octets page octets zero = omega arith
numbered-octets page octets (suc zero) = omega arith
numbered-octets page octets (suc (suc zero)) = omega arith
numbered-octets page octets (suc (suc (suc zero))) = omega arith
numbered-octets page octets (suc (suc (suc (suc i)))) = octets i

page_sum-fits : (page : List ℕ) → AreBytes page → page_sum_of 1 page < 2 ^ 64
unfolding page_sum_of
page_sum-fits page octets = flagged_fits (crc (0 ∷ 0 ∷ 0 ∷ 1 ∷ page)) (crc_fits (0 ∷ 0 ∷ 0 ∷ 1 ∷ page) (numbered-octets page octets))

sum-width : (page : List ℕ) → IsPage page → sum_of_page page < 2 ^ 64
sum-width page is = flagged_fits (bit_xor (page_sum_of 1 page) 0) (xor_lt 64 (page_sum_of 1 page) 0 (page_sum-fits page is.octets) (omega arith))

sum-flagged : (page : List ℕ) → IsFlagged (sum_of_page page)
sum-flagged page = le_or_r (bit_xor (page_sum_of 1 page) 0) (2 ^ 63)

is-one_change : (page : List ℕ) → IsPage page → IsChange (one_page page)
is-one_change page is = record {
  of_a_page_size = page_size-512;
  ascending = (omega arith, tt);
  within = All-cons (λ (w : PageWrite). w.number ≤ 1) (record { number = 1; bytes = page }) [] (omega arith) (All-nil (λ w. w.number ≤ 1));
  data_pages = All-cons (λ (w : PageWrite). IsDataPage 512 w.number) (record { number = 1; bytes = page }) [] first_is_data (All-nil (λ w. IsDataPage 512 w.number));
  whole = All-cons (λ (w : PageWrite). length w.bytes ≡ 512) (record { number = 1; bytes = page }) [] is.size (All-nil (λ w. length w.bytes ≡ 512));
}

holds-one : (page : List ℕ) → HoldsEveryPage (one_page page)
holds-one page n low high data_page =
    let one : 1 ≡ n = omega (arith, low, high) in
    subst (λ (m : ℕ). IsSome (written (one_page page).pages m)) one refl

is-file : (txid sum : ℕ) (page : List ℕ) → IsPage page → 1 ≤ txid → txid < 2 ^ 64 → sum < 2 ^ 64 → (txid ≡ 1 → sum ≡ 0) → (txid ≢ 1 → IsFlagged sum) → IsFile (file_of txid sum page)
is-file txid sum page is some small width first later = record {
  header = record {
    widths = record {
      page_size = omega arith;
      commit = omega arith;
      min = small;
      max = small;
      stamp = omega arith;
      pre = width;
      wal_offset = omega arith;
      wal_size = omega arith;
      wal_salt1 = omega arith;
      wal_salt2 = omega arith;
      node = omega arith;
    };
    page_size = page_size-512;
    commit = omega arith;
    min = some;
    max = omega arith;
    snapshot_pre = first;
    delta_pre = later;
  };
  block = record { page_size = refl; commit = refl; pages = is-one_change page is; snapshot_pages = λ same. holds-one page };
  post = record {
    width = sum-width page is;
    flagged = sum-flagged page;
    empty = λ none. absurd (omega (arith, none));
    snapshot = λ same. refl;
  };
}

pub first-is : (page : List ℕ) → IsPage page → IsFirst (first_file page)
first-is page is =
    let file : Ltx = first_file page in
    let here : at (with_file empty_store file) ≡ after file = end_of-push [] file in
    let image : IsImage (apply empty_image (one_page page)) = IsImage-apply empty_image (one_page page) IsImage-empty (is-one_change page is) (inr (inl refl)) (omega arith) in
    let count : length (apply empty_image (one_page page)).pages ≡ 1 = length-apply empty_image (one_page page) in
    let sum : sum_of_page page ≡ image_sum (apply empty_image (one_page page)) = image_sum-whole empty_image (one_page page) (is-one_change page is) (holds-one page) in
    let txid : (at (with_file empty_store file)).txid ≡ 1 = ap (λ (p : Pos). p.txid) here in
    let post : (at (with_file empty_store file)).sum ≡ sum_of_page page = ap (λ (p : Pos). p.sum) here in
    record {
      sound = is-file 1 0 page is (omega arith) (omega arith) (omega arith) (λ same. refl) (λ other. absurd (other refl));
      joins = record { next = refl; fits = inr (inl refl); sum = sym sum };
      min = refl;
      max = refl;
      full = record {
        some = omega (arith, txid);
        txid = omega (arith, txid);
        image = image;
        page_size = page_size-512;
        size_small = omega arith;
        limit = subst (λ (n : ℕ). IsWithinLimit 512 n) (sym count) (omega arith);
        sum = post ∙ sum;
        width = subst (λ (n : ℕ). n < 2 ^ 64) (sym post) (sum-width page is);
        flagged = subst (λ (n : ℕ). IsFlagged n) (sym post) (sum-flagged page);
      };
    }

pub second-is : (old page : List ℕ) → IsPage old → IsPage page → IsSecond (first_file old) (second_file old page)
second-is old page was is = record {
  sound = is-file 2 (sum_of_page old) page is (omega arith) (omega arith) (sum-width old was) (λ same. absurd (omega (arith, same))) (λ other. sum-flagged old);
  joins = record {
    next = refl;
    fits = inl refl;
    sum = sym (image_sum-whole (apply empty_image (one_page old)) (one_page page) (is-one_change page is) (holds-one page));
  };
  every = holds-one page;
  min = refl;
  max = refl;
}
