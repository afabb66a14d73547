-- A page that is in no frame ends it.
use Rattle.std.proofs.Common.{◌≡◌, ◌<◌, ◌≤◌, ◌/◌, ◌+◌, ℕ, length, arith, inl, inr, List, rules}
use Rattle.std.proofs.lemmas.Bool.{cases_eq}
use Rattle.std.proofs.lemmas.Bool.Decides.{nat_tests}
use Rattle.wal_watch.specs.File.{contents_of}
use Rattle.wal_watch.specs.Frames.{page_size_in}
use Rattle.wal_watch.specs.News.{HoldsFrame}
use Rattle.database_file.specs.Writing.{page_in}
use Rattle.database_under_log.specs.Over.{AreFrames}
use Rattle.database_under_log.proofs.checkpoint.are_frames.Goals as goal

frames-of : (contents : List ℕ) (size first : ℕ) (bytes : List ℕ) → size ≡ page_size_in contents → 1 ≤ length bytes / size →
    ((k : ℕ) → k < length bytes / size → HoldsFrame contents (first + k) (page_in bytes size k)) → AreFrames contents first bytes
frames-of contents size first bytes is some frames = record { some = rw (← is) some; frames = rw (← is) frames }

of-frames : (contents : List ℕ) (size first : ℕ) (bytes : List ℕ) → size ≡ page_size_in contents → AreFrames contents first bytes →
    (1 ≤ length bytes / size) × ((k : ℕ) → k < length bytes / size → HoldsFrame contents (first + k) (page_in bytes size k))
of-frames contents size first bytes is are = (rw is are.some, rw is are.frames)

pub returns-then-not-holds_page : goal.returns-then-not-holds_page
returns-then-not-holds_page c =
    let size : c.args.page_size ≡ page_size_in (contents_of c.args.log.now) = c.requires.size in (
      λ never. absurd cc,
      λ are. absurd (let held = (of-frames (contents_of c.args.log.now) c.args.page_size c.args.first c.args.bytes.now size are).1 c.loop-at.at c.loop-at-test.true in
          let on = c.holds_page.ensures.1 held in let off = c.if-not-holds_page.true in cc (on, off)),
    )

pub loop-at-preserved : goal.loop-at-preserved
loop-at-preserved c = record {
  frames = λ k less. elim (cases_eq k c.loop-at.at) [
    | inl here ↦ rw here (c.holds_page.ensures.0 (search rules))
    | inr other ↦ c.loop-at.invariant.frames k (omega (arith, less, other))
  ];
}

pub returns : goal.returns
returns c =
    let size : c.args.page_size ≡ page_size_in (contents_of c.args.log.now) = c.requires.size in (
      λ some. frames-of (contents_of c.args.log.now) c.args.page_size c.args.first c.args.bytes.now size (grind (arith, nat_tests))
          (λ k less. c.loop-at.invariant.frames k (omega (arith, less, c.loop-at-test.false))),
      λ are. let some = (of-frames (contents_of c.args.log.now) c.args.page_size c.args.first c.args.bytes.now size are).0 in grind (arith, nat_tests),
    )
