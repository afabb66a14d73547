-- The file that is published where another's is taken.
use Rattle.std.proofs.Common.{◌≡◌, inl, inr, ℕ, Bool, false, Err, List, [], ◌∙◌, ap, arith}
use Rattle.lf_base.specs.declared.pos.Pos.{Pos}
use Rattle.lf_sqlite_pages.proofs.Completing.{IsChange-completed, HoldsEveryPage-completed}
use Rattle.ltx_codec.specs.Format.{IsFile}
use Rattle.ltx_codec.specs.declared.file.Ltx.{Ltx}
use Rattle.txn_log.specs.declared.entry.Entry.{Entry}
use Rattle.txn_log.specs.declared.fault.StoreFault.{StoreFault}
use Rattle.txn_log.specs.declared.fault.StoreFault.TheVariants as fault
use Rattle.txn_log.specs.Apply.{whole_file, IsTaken, Applies}
use Rattle.txn_log.specs.Causes.{IsDiskOrMemory}
use Rattle.txn_log.specs.Store.{end_of_entries, IsShaped}
use Rattle.txn_log.proofs.Drafts.{entries-cases, sum-anew}

module _ (size commit : ℕ) (entries : List Entry) (dropped : Bool) (sums : List ℕ) (file : Ltx) (shaped : IsShaped commit entries dropped sums) (valid : IsFile file)
    (taken : IsTaken (end_of_entries entries) size commit sums file) where
  -- a snapshot is taken by a store without files alone
  first : file.header.min ≡ 1 → entries ≡ []
  first one = elim (entries-cases entries) [
    | inl none ↦ none
    | inr some ↦ absurd (omega (arith, shaped.some some, one, ap (λ (p : Pos). p.txid) taken.next))
  ]

  pub is_whole : IsFile (whole_file commit file)
  is_whole = record {
    header = valid.header;
    block = record {
      page_size = valid.block.page_size;
      commit = valid.block.commit;
      pages = IsChange-completed file.change commit valid.block.pages;
      snapshot_pages = λ one. HoldsEveryPage-completed file.change commit (shaped.none (first one));
    };
    post = record {
      width = valid.post.width;
      flagged = valid.post.flagged;
      empty = valid.post.empty;
      snapshot = λ one. taken.sum ∙ sum-anew commit entries dropped sums file.change shaped valid.block.pages (first one);
    };
  }

-- what is refused for want of memory or by the disk was taken
pub applies-published : (broken : Bool) (position : Pos) (size commit : ℕ) (sums : List ℕ) (file : Ltx) (why : StoreFault)
    → broken ≡ false → IsTaken position size commit sums file → IsDiskOrMemory why → Applies broken position size commit sums file (Err why)
applies-published broken position size commit sums file fault.Disk open_ taken is = (open_, taken)
applies-published broken position size commit sums file fault.Broken open_ taken is = absurd is
applies-published broken position size commit sums file (fault.NotNext have want) open_ taken is = absurd is
applies-published broken position size commit sums file (fault.SumDiffers want got) open_ taken is = absurd is
applies-published broken position size commit sums file fault.Limit open_ taken is = absurd is
applies-published broken position size commit sums file fault.NoMemory open_ taken is = (open_, taken)
applies-published broken position size commit sums file (fault.PageSize have want) open_ taken is = absurd is
