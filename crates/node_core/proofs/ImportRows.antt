-- Worked rows of EXPORT and IMPORT. A database is one page of 512 zero bytes, at transaction 1. Two such pages are imported over it, of
-- which the first says in its bytes 16 and 17 that a page has 512 bytes.
use Rattle.std.proofs.Common.{◌≡◌, ◌≢◌, ◌∙◌, ◌≤◌, ℕ, false, IsTrue, List, [], ◌∷◌, ◌++◌, Option, None, Some, inl, inr, refl, sym, ap, subst, arith}
use Rattle.std.specs.Prelude.{replicate, take}
use Rattle.byte_locks.specs.declared.lock_entry.LockEntry.{LockEntry}
use Rattle.byte_locks.specs.declared.lock_id.LockId.{LockId}
use Rattle.byte_locks.specs.declared.lock_id.LockId.TheVariants as lock
use Rattle.byte_locks.specs.declared.lock_kind.LockKind.TheVariants as kind
use Rattle.byte_locks.specs.ModeLocks.{blocking_locks}
use Rattle.halt_forward.specs.declared.halt_fault.HaltFault.TheVariants.{HaltHeld}
use Rattle.halt_forward.specs.declared.halt_pass.HaltPass.{HaltPass}
use Rattle.lf_base.specs.declared.pos.Pos.{Pos}
use Rattle.lf_base.specs.Endian.{be16_at}
use Rattle.lf_disk.specs.History.{History}
use Rattle.lf_sqlite_pages.specs.Image.{DatabaseImage}
use Rattle.lf_sqlite_pages.specs.LockPage.{lock_page_of}
use Rattle.lf_sqlite_pages.specs.PageSize.{is_page_size}
use Rattle.lf_sqlite_pages.specs.Writes.{writes_of}
use Rattle.ltx_codec.specs.Positions.{after}
use Rattle.page_checksum.specs.Crc.{after_bit, after_byte, crc}
use Rattle.page_checksum.specs.Sums.{page_sum_of}
use Rattle.database_file.specs.Commit.{difference}
use Rattle.file_view.specs.declared.view.Role.TheVariants as role
use Rattle.file_view.specs.Endings.{first_blocking}
use Rattle.file_view.specs.Served.{Served}
use Rattle.snapshot.specs.Bytes.{AreDatabase, image_of_bytes}
use Rattle.snapshot.specs.declared.fault.ImportFault.TheVariants as import
use Rattle.txn_log.specs.declared.fault.StoreFault.TheVariants as fault
use Rattle.txn_log.specs.Draft.{drafted}
use Rattle.node_core.specs.declared.answer.Answer.{Answer}
use Rattle.node_core.specs.declared.answer.Answer.TheVariants as answers
use Rattle.node_core.specs.declared.refusal.Refusal.{Refusal}
use Rattle.node_core.specs.declared.refusal.Refusal.TheVariants as refusals
use Rattle.node_core.specs.Dropping.{IsFree}
use Rattle.node_core.specs.Exporting.{RefusesExport, TellsBytes}
use Rattle.node_core.specs.Importing.{AnswersImport, IsImported, RefusesImport, TakesImport, TakesUnless}
use Rattle.node_core.specs.Nodes.{NodeParts, role_in}
use Rattle.node_core.specs.Roles.{permit_out}
use Rattle.node_core.specs.Stores.{StoreFields, position, state}

abbrev zeros : List ℕ
zeros = replicate 512 0

abbrev two_pages : List ℕ
two_pages = (replicate 16 0 ++ 2 ∷ 0 ∷ replicate 494 0) ++ zeros

abbrev one_page : DatabaseImage
one_page = record { page_size = 512; pages = zeros ∷ [] }

-- the database of zeros, and where it stands
abbrev at_one : Pos
at_one = record { txid = 1; sum = 0xefb1f44fecd99000 }

pub record HasZeros (start : History) (n : NodeParts) : Type 0 where
  pub honest : IsTrue n.store.honest
  pub image : (state start n.store).image ≡ one_page
  pub commit : n.store.commit ≡ 1
  pub sums : n.store.sums ≡ page_sum_of 1 zeros ∷ []
  pub position : position n.store ≡ at_one

-- where the two pages lead to
leads_to : (stamp node : ℕ) → after (drafted at_one 1 (page_sum_of 1 zeros ∷ []) (difference one_page (image_of_bytes two_pages)) stamp node) ≡ record { txid = 2; sum = 0xb20aff5e38e38e38 }
unfolding after_bit after_byte be16_at crc is_page_size lock_page_of page_sum_of writes_of
leads_to stamp node = refl

second : (start end : History) (old new : NodeParts) (told : Pos) → HasZeros start old → IsImported start old two_pages told end new → told ≡ record { txid = 2; sum = 0xb20aff5e38e38e38 }
second start end old new told has is =
    let over : is.change ≡ difference one_page (image_of_bytes two_pages) = (is.imports.leads has.honest).1 ∙ ap (λ (i : DatabaseImage). difference i (image_of_bytes two_pages)) has.image in
    is.done.store.answers.3 ∙ (λ i. after (drafted (has.position i) (has.commit i) (has.sums i) (over i) old.standing.moment old.config.node)) ∙ leads_to old.standing.moment old.config.node

-- what is the image already is not committed again
twice : (start end : History) (old new : NodeParts) (told : Pos) (bytes : List ℕ) → IsTrue old.store.honest → (state start old.store).image ≡ image_of_bytes bytes → IsImported start old bytes told end new → ⊥
twice start end old new told bytes honest same is = (is.imports.leads honest).0 (sym (ap (λ (i : DatabaseImage). i.pages) same))

-- 600 bytes are no whole number of pages
short : AreDatabase (take 600 two_pages) → ⊥
unfolding be16_at is_page_size
short is = let left : 88 ≡ 0 = is.whole in omega (arith, left)

-- a database that was never written is absent
none : (s : StoreFields) → (position s).txid ≡ 0 → 1 ≤ (position s).txid → ⊥
none s zero some = omega (arith, zero, some)

refused : (old : StoreFields) (why : Refusal) (new : StoreFields) → (position old).txid ≡ 0 → RefusesExport old why new → why ≡ refusals.Absent
refused old refusals.Absent new zero is = refl
refused old (refusals.Store fault.Disk) new zero is = absurd (none old zero is.0)
refused old (refusals.Store fault.Broken) new zero is = absurd (none old zero is.0)
refused old (refusals.Store fault.Limit) new zero is = absurd is
refused old (refusals.Store fault.NoMemory) new zero is = absurd is
refused old (refusals.Store (fault.NotNext have want)) new zero is = absurd is
refused old (refusals.Store (fault.SumDiffers want got)) new zero is = absurd is
refused old (refusals.Store (fault.PageSize have want)) new zero is = absurd is
refused old refusals.NoMemory new zero is = absurd (none old zero is.0)
refused old refusals.NotPrimary new zero is = absurd is
refused old refusals.NotReplica new zero is = absurd is
refused old (refusals.Ltx why) new zero is = absurd is
refused old (refusals.Import why) new zero is = absurd is
refused old (refusals.Halt why) new zero is = absurd is

absent : (start : History) (old : StoreFields) (answer : Answer) (new : StoreFields) → (position old).txid ≡ 0 → TellsBytes start old answer new → answer ≡ answers.Refused refusals.Absent
absent start old (answers.Bytes bytes) new zero is = absurd (none old zero is.0)
absent start old (answers.Refused why) new zero is = ap (λ (r : Refusal). answers.Refused r) (refused old why new zero is)
absent start old (answers.Done reply) new zero is = absurd is
absent start old answers.Quiet new zero is = absurd is
absent start old (answers.Refuse number) new zero is = absurd is
absent start old (answers.At here) new zero is = absurd is
absent start old (answers.Level here) new zero is = absurd is
absent start old (answers.Item ltx to) new zero is = absurd is
absent start old answers.Gone new zero is = absurd is
absent start old (answers.Applied here) new zero is = absurd is
absent start old (answers.Same here) new zero is = absurd is
absent start old (answers.Held lock) new zero is = absurd is
absent start old (answers.Pruned count) new zero is = absurd is
absent start old (answers.Info info) new zero is = absurd is
absent start old (answers.Watched info files) new zero is = absurd is
absent start old (answers.Pass pass) new zero is = absurd is
absent start old (answers.Send number ltx) new zero is = absurd is

-- a reader in rollback mode holds an import back by SHARED
abbrev reader : LockEntry
reader = record { owner = record { session = 1; id = 1 }; lock = lock.Shared; kind = kind.Read }

reads : (s : Served) → s.locks ≡ reader ∷ [] → first_blocking s false ≡ Some lock.Shared
unfolding blocking_locks
reads s one = ap (λ locks. first_blocking (record s { locks = locks }) false) one

none_some : {X : Type 0} (x : X) → None ≡ Some x → ⊥
none_some x same = cc

module _ (start : History) (old : NodeParts) (bytes : List ℕ) (end : History) (new : NodeParts) (held : first_blocking old.files old.store.wal ≡ Some lock.Shared) where
  unfree : IsFree old → ⊥
  unfree free = none_some lock.Shared (sym free ∙ held)

  no_refusal : (why : Refusal) → RefusesImport start old bytes why end new → ⊥
  no_refusal (refusals.Import import.NotDatabase) is = unfree is.free
  no_refusal (refusals.Import import.Limit) is = unfree is.free
  no_refusal (refusals.Import (import.Store failed)) is = unfree is.free
  no_refusal (refusals.Import import.NoMemory) is = is
  no_refusal (refusals.Store fault.Disk) is = unfree is.free
  no_refusal (refusals.Store fault.Broken) is = unfree is.free
  no_refusal (refusals.Store fault.Limit) is = unfree is.free
  no_refusal (refusals.Store fault.NoMemory) is = is
  no_refusal (refusals.Store (fault.NotNext have want)) is = unfree is.free
  no_refusal (refusals.Store (fault.SumDiffers want got)) is = unfree is.free
  no_refusal (refusals.Store (fault.PageSize have want)) is = unfree is.free
  no_refusal refusals.NoMemory (inl is) = unfree is.free
  no_refusal refusals.NoMemory (inr is) = unfree is.free
  no_refusal refusals.NotPrimary is = is
  no_refusal refusals.NotReplica is = is
  no_refusal (refusals.Ltx why) is = is
  no_refusal refusals.Absent is = is
  no_refusal (refusals.Halt why) is = is

  waits : (answer : Answer) → TakesImport start old bytes answer end new → answer ≡ answers.Held lock.Shared
  waits (answers.Held which) is = ap (λ (l : LockId). answers.Held l) (let same : Some which ≡ Some lock.Shared = sym is.0 ∙ held in cc)
  waits (answers.Applied told) is = absurd (unfree is.free)
  waits (answers.Same here) is = absurd (unfree is.1.compared.free)
  waits (answers.Refused why) is = absurd (no_refusal why is)
  waits (answers.Done reply) is = absurd is
  waits answers.Quiet is = absurd is
  waits (answers.Refuse number) is = absurd is
  waits (answers.At here) is = absurd is
  waits (answers.Level here) is = absurd is
  waits (answers.Item ltx to) is = absurd is
  waits answers.Gone is = absurd is
  waits (answers.Pruned count) is = absurd is
  waits (answers.Bytes pages) is = absurd is
  waits (answers.Info info) is = absurd is
  waits (answers.Watched info files) is = absurd is
  waits (answers.Pass pass) is = absurd is
  waits (answers.Send number ltx) is = absurd is

under_a_reader : (start end : History) (old new : NodeParts) (bytes : List ℕ) (answer : Answer) → role_in old ≡ role.Primary → permit_out old.standing ≡ None → old.store.wal ≡ false
    → old.files.locks ≡ reader ∷ [] → AnswersImport start old bytes answer end new → answer ≡ answers.Held lock.Shared
under_a_reader start end old new bytes answer primary alone rollback one (inl elsewhere) = absurd (elsewhere.0 primary)
under_a_reader start end old new bytes answer primary alone rollback one (inr here) =
    waits start old bytes end new (ap (λ wal. first_blocking old.files wal) rollback ∙ reads old.files one) answer
    (subst (λ (p : Option HaltPass). TakesUnless p start old bytes answer end new) alone here.1)

-- while permit 3 is out, whatever locks are held
under_a_permit : (start end : History) (old new : NodeParts) (bytes : List ℕ) (answer : Answer) → role_in old ≡ role.Primary → permit_out old.standing ≡ Some (record { number = 3; until = 900 })
    → AnswersImport start old bytes answer end new → answer ≡ answers.Refused (refusals.Halt (HaltHeld 3 900))
under_a_permit start end old new bytes answer primary out (inl elsewhere) = absurd (elsewhere.0 primary)
under_a_permit start end old new bytes answer primary out (inr here) = (subst (λ (p : Option HaltPass). TakesUnless p start old bytes answer end new) out here.1).0

-- at a replica
at_a_replica : (start end : History) (old new : NodeParts) (bytes : List ℕ) (answer : Answer) → role_in old ≢ role.Primary → AnswersImport start old bytes answer end new
    → answer ≡ answers.Refused refusals.NotPrimary
at_a_replica start end old new bytes answer replica (inl elsewhere) = elsewhere.1
at_a_replica start end old new bytes answer replica (inr here) = absurd (replica here.0)
