use Rattle.std.proofs.Common.{◌≡◌, ◌∙◌, ap}
use Rattle.lf_base.specs.FileBytes.{written}
use Rattle.wal_watch.specs.File.{Wal, contents_of}
use Rattle.wal_watch.proofs.CheckLemmas.{sound-keeps}
use Rattle.wal_watch.proofs.file.WalFile.write.Goals as goal

pub returns-in-Ok-clause-kept : goal.returns-in-Ok-clause-kept
returns-in-Ok-clause-kept c =
    let contents-is : contents_of c.write_within.new.self ≡ written c.args.at c.args.bytes.now (contents_of c.args.self.now) =
    ap (λ (w : Wal). contents_of w) c.write_within.ensures ∙ ap (λ (w : Wal). written c.args.at c.args.bytes.now (contents_of w)) c.in_ok-make_room.ensures.ok in
    rw contents-is (sound-keeps (contents_of c.args.self.now) (written c.args.at c.args.bytes.now (contents_of c.args.self.now)) c.in_ok-first.ensures.sound.part)
