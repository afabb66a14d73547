-- The contents of a file is that of its blocks, and committed frames hold whole pages.
use Rattle.std.proofs.Common.{◌≡◌, ℕ, ◌+◌, ◌<◌, List, [], Option, Some, None, length, drop, refl, sym, ap, ◌∙◌, inl, inr, arith}
use Rattle.std.specs.Prelude.{unwrap_or}
use Rattle.std.proofs.lemmas.Bool.{cases_Bool, cond-true, cond-false}
use Rattle.std.proofs.lemmas.List.{length-take, length-drop}
use Rattle.wal_watch.specs.File.{contents_of}
use Rattle.wal_watch.specs.FileParts.{wal_of, IsKept}
use Rattle.wal_watch.specs.Frames.{page_in, page_size_in, frame_place, committed_count}
use Rattle.wal_watch.specs.declared.file.WalFile.TheInside.{Inside}
use Rattle.wal_watch.proofs.ScanLemmas.{next_place}
use Rattle.wal_watch.proofs.CommitLemmas.{frame_there}

pub contents-held : (f : Inside) → IsKept f → contents_of (wal_of f) ≡ f.contents.bytes
contents-held f kept = elim (cases_Bool f.present) [
  | inl on ↦ ap (λ (t : Option (List ℕ)). unwrap_or t []) (cond-true f.present (Some f.contents.bytes) None on)
  | inr off ↦ ap (λ (t : Option (List ℕ)). unwrap_or t []) (cond-false f.present (Some f.contents.bytes) None off) ∙ sym (kept.absent off)
]

pub page-whole : (contents : List ℕ) (k : ℕ) → k < committed_count contents → length (page_in contents k) ≡ page_size_in contents
page-whole contents k less =
    omega (arith, frame_there contents (committed_count contents) k refl less, next_place contents k, length-take (page_size_in contents) (drop (frame_place contents k + 24) contents), length-drop (frame_place contents k + 24) contents)
