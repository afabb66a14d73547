-- The one file that stands for the scenario's two.
use Rattle.std.proofs.Common.{◌≡◌, ℕ, List, [], ◌∷◌, refl, sym, ap, subst, arith, lit<}
use Rattle.std.proofs.lemmas.Option.{same_Some}
use Rattle.lf_sqlite_pages.specs.Change.{PageChange}
use Rattle.lf_sqlite_pages.specs.LockPage.{lock_page_of}
use Rattle.lf_sqlite_pages.specs.Writes.{writes_of}
use Rattle.ltx_codec.specs.Format.{IsFile}
use Rattle.ltx_codec.specs.declared.file.Ltx.{Ltx}
use Rattle.ltx_compact.specs.Compaction.{Compacts, change_of, page_of}
use Rattle.ltx_compact.specs.Joining.{AllJoin, Joins, StandAt}
use Rattle.world_laws.specs.Scenario.{IsPage, both, first_file, one_page, second_file}
use Rattle.world_laws.proofs.Actors.{first-is}

-- two files join, and the one file that stands for them is a file
pub record BecomeOne (first file : Ltx) : Type 0 where
  pub joined : AllJoin (first ∷ file ∷ [])
  pub sound : IsFile (both first file)

pub both-compacts : (first file : Ltx) → Compacts (first ∷ file ∷ []) (both first file)
both-compacts first file = record { first = first; last = file; is_first = refl; is_last = refl; header = refl; change = refl; post = refl }

two-join : (first file : Ltx) → Joins first file → AllJoin (first ∷ file ∷ [])
two-join first file joins = record {
  some = omega arith;
  join = λ place before behind within stand.
      let two : place ≡ 2 = omega (arith, within, stand.second) in
      let there : StandAt (first ∷ file ∷ []) 2 before behind = subst (λ (n : ℕ). StandAt (first ∷ file ∷ []) n before behind) two stand in
      let second : Joins first behind = subst (λ (f : Ltx). Joins first f) (same_Some file behind there.file_is) joins in
      subst (λ (f : Ltx). Joins f behind) (same_Some first before there.before_is) second;
}

-- what they leave is the second's page
two-leave : (old page : List ℕ) → change_of (first_file old ∷ second_file old page ∷ []) (second_file old page) ≡ one_page page
unfolding writes_of page_of lock_page_of
two-leave old page = refl

-- the first file of a page, but that it leads to the second transaction
abbrev longer : List ℕ → Ltx
longer page = let first : Ltx = first_file page in record first { header = record first.header { max = 2 } }

longer-sound : (page : List ℕ) → IsPage page → IsFile (longer page)
longer-sound page is =
    let first : IsFile (first_file page) = (first-is page is).sound in
    record {
      header = record {
        widths = record {
          page_size = first.header.widths.page_size;
          commit = first.header.widths.commit;
          min = first.header.widths.min;
          max = lit< tt;
          stamp = first.header.widths.stamp;
          pre = first.header.widths.pre;
          wal_offset = first.header.widths.wal_offset;
          wal_size = first.header.widths.wal_size;
          wal_salt1 = first.header.widths.wal_salt1;
          wal_salt2 = first.header.widths.wal_salt2;
          node = first.header.widths.node;
        };
        page_size = first.header.page_size;
        commit = first.header.commit;
        min = first.header.min;
        max = omega arith;
        snapshot_pre = first.header.snapshot_pre;
        delta_pre = first.header.delta_pre;
      };
      block = record {
        page_size = first.block.page_size;
        commit = first.block.commit;
        pages = first.block.pages;
        snapshot_pages = first.block.snapshot_pages;
      };
      post = record {
        width = first.post.width;
        flagged = first.post.flagged;
        empty = first.post.empty;
        snapshot = first.post.snapshot;
      };
    }

pub become-one : (old page : List ℕ) → IsPage page → BecomeOne (first_file old) (second_file old page)
become-one old page is = record {
  joined = two-join (first_file old) (second_file old page) record { transactions = refl; sum = refl; page_size = refl };
  sound = subst IsFile (sym (ap (λ (c : PageChange). let whole : Ltx = longer page in record whole { change = c }) (two-leave old page))) (longer-sound page is);
}
