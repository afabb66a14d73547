-- A write that no row refuses is short enough for its reply.
use Rattle.file_view.proofs.RequestLemmas.{database-short, log-short}
use Rattle.file_view.proofs.view.View.write_file.Goals as goal

pub written-requires : goal.written-requires
written-requires g c = database-short c.args.self.now c.args.scene.now c.args.write.now.given c.args.write.now.at c.args.write.now.bytes.now c.in_ok-write_database-in-Database.ensures.allowed

pub written-requires-in-Wal : goal.written-requires-in-Wal
written-requires-in-Wal g c = log-short c.args.self.now c.args.scene.now c.args.write.now.given c.args.write.now.at c.args.write.now.bytes.now c.in_ok-change-in-Wal.ensures.allowed
