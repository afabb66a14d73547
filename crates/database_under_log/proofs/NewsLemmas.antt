-- What the log writes, one page after another.
use Rattle.std.proofs.Common.{◌≡◌, ℕ, ◌-◌, ◌<◌, ◌≤◌, List, Bool, true, false, inl, inr, None, refl, sym, ap, ◌∙◌, arith}
use Rattle.std.specs.Prelude.{nat_le, ◌==◌, if◌then◌else◌}
use Rattle.std.proofs.lemmas.Bool.{cases_lt, cond-true, cond-false}
use Rattle.std.proofs.lemmas.Bool.Decides.{nat_tests}
use Rattle.lf_sqlite_pages.specs.Change.{PageChange, written}
use Rattle.lf_sqlite_pages.specs.Writes.{writes_of}
use Rattle.lf_sqlite_pages.proofs.Writes.{writes_of-same, written-writes_of}
use Rattle.wal_watch.specs.Frames.{page_size_in, size_in, committed_count}
use Rattle.wal_watch.specs.News.{last_size, change_of, changed_page}
use Rattle.wal_watch.proofs.WritesLemmas.{latest-writes}
use Rattle.database_file.specs.CommitParts.{WritesTo}
use Rattle.database_file.proofs.KeptLemmas.{same_change}
use Rattle.database_under_log.specs.LogChange.{newest_page, log_news}
use Rattle.database_under_log.specs.LogChangeParts.{joined_page, joined}
use Rattle.lf_sqlite_pages.specs.declared.page_write.PageWrite.{PageWrite}

-- within the image and past it
pub newest-within : (contents : List ℕ) (first commit n : ℕ) → n ≤ commit → newest_page contents first commit n ≡ changed_page contents first (committed_count contents) n
newest-within contents first commit n within =
    let test : nat_le n commit ≡ true = grind (arith, nat_tests) in
    ap (λ (b : Bool). changed_page contents (if b then first else 0) (committed_count contents) n) test

newest-past : (contents : List ℕ) (first commit n : ℕ) → commit < n → changed_page contents 0 (committed_count contents) n ≡ newest_page contents first commit n
newest-past contents first commit n past =
    let test : nat_le n commit ≡ false = grind (arith, nat_tests) in
    sym (ap (λ (b : Bool). changed_page contents (if b then first else 0) (committed_count contents) n) test)

pub last-is : (contents : List ℕ) → 0 < committed_count contents → last_size contents ≡ size_in contents (committed_count contents - 1)
last-is contents some =
    let test : (committed_count contents == 0) ≡ false = grind (arith, nat_tests) in
    cond-false _ _ _ test

-- the pages of the news
pub news-written : (contents : List ℕ) (first n : ℕ) (news : PageChange) → 0 < committed_count contents → news ≡ change_of contents first (committed_count contents) → 1 ≤ n → n ≤ last_size contents →
    written news.pages n ≡ changed_page contents first (committed_count contents) n
news-written contents first n news some is low high =
    ap (λ (c : PageChange). written c.pages n) is
    ∙ ap (λ ws. written ws n) (latest-writes contents first (committed_count contents) (size_in contents (committed_count contents - 1)))
    ∙ written-writes_of (changed_page contents first (committed_count contents)) (size_in contents (committed_count contents - 1)) n low (omega (arith, high, last-is contents some))

-- news that grow the image by nothing are what the log writes
pub news-same : (contents : List ℕ) (first commit : ℕ) (news : PageChange) → 0 < committed_count contents → news.commit ≡ last_size contents → news.commit ≤ commit →
    news ≡ change_of contents first (committed_count contents) → news ≡ log_news contents first commit
news-same contents first commit news some count few is =
    let last = last-is contents some in
    same_change news (page_size_in contents) (last_size contents) (writes_of (newest_page contents first commit) (last_size contents))
    (ap (λ (c : PageChange). c.page_size) is) count
    (ap (λ (c : PageChange). c.pages) is
    ∙ latest-writes contents first (committed_count contents) (size_in contents (committed_count contents - 1))
    ∙ ap (λ (c : ℕ). writes_of (changed_page contents first (committed_count contents)) c) (sym last)
    ∙ writes_of-same (changed_page contents first (committed_count contents)) (newest_page contents first commit) (last_size contents)
    (λ n low high. sym (newest-within contents first commit n (omega (arith, high, few, count)))))

-- the writes within a count of pages, and the log past it
pub joined-start : (ws : List PageWrite) (contents : List ℕ) (count : ℕ) (writes : List PageWrite) → WritesTo (written ws) count writes → WritesTo (joined_page ws contents count) count writes
joined-start ws contents count writes kept n = kept n ∙ either (nat_le n count) where
  either : (b : Bool) → (if b then written ws n else None) ≡ (if b then (if b then written ws n else changed_page contents 0 (committed_count contents) n) else None)
  either true = refl
  either false = refl

pub joined-past : (ws : List PageWrite) (contents : List ℕ) (count n : ℕ) → count < n → changed_page contents 0 (committed_count contents) n ≡ joined_page ws contents count n
joined-past ws contents count n past =
    let test : nat_le n count ≡ false = grind (arith, nat_tests) in
    sym (cond-false (nat_le n count) (written ws n) (changed_page contents 0 (committed_count contents) n) test)

joined-within : (ws : List PageWrite) (contents : List ℕ) (count n : ℕ) → n ≤ count → joined_page ws contents count n ≡ written ws n
joined-within ws contents count n within =
    let test : nat_le n count ≡ true = grind (arith, nat_tests) in
    cond-true (nat_le n count) (written ws n) (changed_page contents 0 (committed_count contents) n) test

pub joined-news : (contents : List ℕ) (first commit : ℕ) (news : PageChange) → 0 < committed_count contents → news ≡ change_of contents first (committed_count contents) →
    joined news.pages contents commit ≡ log_news contents first commit
joined-news contents first commit news some is =
    ap (λ (ws : List PageWrite). record { page_size = page_size_in contents; commit = last_size contents; pages = ws })
    (writes_of-same (joined_page news.pages contents commit) (newest_page contents first commit) (last_size contents)
    (λ n low high. elim (cases_lt commit n) [
      | inl past ↦ sym (joined-past news.pages contents commit n past) ∙ newest-past contents first commit n past
      | inr within ↦ joined-within news.pages contents commit n within ∙ news-written contents first n news some is low high ∙ sym (newest-within contents first commit n within)
    ]))
