-- A commit of a halted node is sent.
use Rattle.std.proofs.Common.{◌≡◌, ◌∙◌, ℕ, ◌+◌, ◌-◌, Bool, true, false, IsTrue, List, Option, None, Some, Result, Ok, Err, refl, sym, ap, subst, arith}
use Rattle.std.specs.Prelude.{if◌then◌else◌}
use Rattle.std.specs.Option.{option_map}
use Rattle.lf_base.specs.declared.pos.Pos.{Pos}
use Rattle.lf_disk.specs.History.{History}
use Rattle.lf_sqlite_pages.specs.Apply.{apply}
use Rattle.lf_sqlite_pages.specs.Change.{FitsOver, PageChange}
use Rattle.lf_sqlite_pages.specs.Complete.{completed}
use Rattle.lf_sqlite_pages.specs.Image.{DatabaseImage}
use Rattle.lf_sqlite_pages.proofs.Completing.{apply-complete}
use Rattle.ltx_codec.specs.FileIn.{file_in}
use Rattle.ltx_codec.specs.declared.file.Ltx.{Ltx}
use Rattle.halt_forward.specs.declared.halt_pass.HaltPass.{HaltPass}
use Rattle.halt_forward.specs.Permits.{unless_ended}
use Rattle.file_view.specs.declared.view.Role.{Role}
use Rattle.file_view.specs.declared.view.Role.TheVariants as role
use Rattle.file_view.specs.Endings.{abandoned, committed}
use Rattle.file_view.specs.Overlay.{IsOverImage, StandsOver}
use Rattle.file_view.specs.Served.{Served, log_contents}
use Rattle.txn_log.specs.declared.fault.StoreFault.{StoreFault}
use Rattle.txn_log.specs.declared.fault.StoreFault.TheVariants as fault
use Rattle.txn_log.specs.Calls.{RestsAs}
use Rattle.txn_log.specs.Draft.{Drafts, drafted}
use Rattle.txn_log.specs.Store.{meant}
use Rattle.txn_log.proofs.PagesRead.{count}
use Rattle.world_laws.specs.Node as laws
use Rattle.world_laws.specs.Served.{ShareForReading}
use Rattle.world_laws.specs.Store.{MayBeFound}
use Rattle.node_core.specs.declared.sent.Sent.{Sent}
use Rattle.node_core.specs.Nodes.{NodeParts, file_over, frames_of, role_in, seen}
use Rattle.node_core.specs.Roles.{held_by, law_role, write_permit}
use Rattle.node_core.specs.Safely.{StepsSafely}
use Rattle.node_core.specs.Sending.{ComesOfDraft, DraftsFile}
use Rattle.node_core.specs.Stores.{IsRead, StoreFields, failed, position, state, told}
use Rattle.node_core.specs.Waiting.{IsAwaited, file_sent}
use Rattle.node_core.proofs.Facts.{says-none}
use Rattle.node_core.proofs.Sound.{is-replica, sound}
use Rattle.node_core.proofs.Steady.{steps-still}

-- only a halted node writes under a permit
pub halted : (n : NodeParts) (pass : HaltPass) → write_permit n.standing ≡ Some pass → role_in n ≡ role.Halted
halted n pass some = go (role_in n) refl some where
  go : (r : Role) → role_in n ≡ r → held_by (role_in n) (unless_ended n.standing.moment n.standing.pass) ≡ Some pass → role_in n ≡ role.Halted
  go role.Halted is some = is
  go role.Primary is some = absurd (let no : None ≡ Some pass = sym (ap (λ (r : Role). held_by r (unless_ended n.standing.moment n.standing.pass)) is) ∙ some in cc)
  go role.Replica is some = absurd (let no : None ≡ Some pass = sym (ap (λ (r : Role). held_by r (unless_ended n.standing.moment n.standing.pass)) is) ∙ some in cc)

halted_replica : role.Halted ≡ role.Replica → ⊥
halted_replica same = cc

-- what the draft answers over the store before pages were read
pub drafts-old : (start mid : History) (old : NodeParts) (between : StoreFields) (change : PageChange) (result : Result Ltx StoreFault) → IsRead start old.store mid between
    → Drafts between.broken (position between) between.page_size between.commit between.sums change old.standing.moment old.config.node result → DraftsFile old change result
drafts-old start mid old between change result read drafts =
    subst (λ (s : StoreFields). Drafts s.broken (position s) s.page_size s.commit s.sums change old.standing.moment old.config.node result) read.same drafts

-- a change that fits has no file for one of three reasons
pub comes-of-draft : (n : NodeParts) (change : PageChange) (why : StoreFault) → DraftsFile n change (Err why) → FitsOver n.store.page_size n.store.commit change → ComesOfDraft why
comes-of-draft n change fault.Disk drafts fits = drafts
comes-of-draft n change fault.Broken drafts fits = tt
comes-of-draft n change fault.Limit drafts fits = tt
comes-of-draft n change fault.NoMemory drafts fits = tt
comes-of-draft n change (fault.NotNext have want) drafts fits = drafts
comes-of-draft n change (fault.SumDiffers want got) drafts fits = drafts
comes-of-draft n change (fault.PageSize have want) drafts fits = absurd (drafts.1 fits)

-- a change made complete leads to the same image
complete-told : (h : History) (s : StoreFields) (change : PageChange) → option_map (λ i. apply i (completed change s.commit)) (told h s) ≡ option_map (λ i. apply i change) (told h s)
complete-told h s change = go s.honest where
  image : DatabaseImage
  image = (state h s).image

  same : apply image (completed change s.commit) ≡ apply image change
  same =
      ap (λ (k : ℕ). apply image (completed change k)) (sym (count s.page_size s.commit (h.seen (meant h s.broken s.whole))))
      ∙ apply-complete image change

  go : (b : Bool) → option_map (λ i. apply i (completed change s.commit)) (if b then Some image else None) ≡ option_map (λ i. apply i change) (if b then Some image else None)
  go true = ap (λ (i : DatabaseImage). Some i) same
  go false = refl

-- the file of a draft follows the position
before-next : (p : Pos) → record { txid = p.txid + 1 - 1; sum = p.sum } ≡ p
before-next p = let same : p.txid + 1 - 1 ≡ p.txid = omega arith in λ i. record { txid = same i; sum = p.sum }

-- what is sent is awaited
pub awaits-sent : (start mid : History) (old store : StoreFields) (files : Served) (change : PageChange) (stamp node : ℕ) (file : Ltx)
    → Drafts store.broken (position store) store.page_size store.commit store.sums change stamp node (Ok file) → told mid store ≡ told start old
    → StandsOver (option_map (λ i. apply i change) (told start old)) change.page_size change.commit (committed files) → IsAwaited (told mid store) store files file
awaits-sent start mid old store files change stamp node file drafts same stands =
    let whole : Ltx = drafted (position store) store.commit store.sums change stamp node in
    let over : option_map (λ i. apply i change) (told start old) ≡ option_map (λ i. apply i whole.change) (told mid store) =
    ap (λ (o : Option DatabaseImage). option_map (λ i. apply i change) o) (sym same) ∙ sym (complete-told mid store change) in
    subst (λ (f : Ltx). IsAwaited (told mid store) store files f) (sym drafts.3) record {
      next = before-next (position store);
      stands = subst (λ (o : Option DatabaseImage). StandsOver o change.page_size change.commit (committed files)) over stands;
    }

-- A COMMIT IS SENT: pages were read, the request waits, and what a reader sees is as before
pub sends-safely : (start mid : History) (old : NodeParts) (store : StoreFields) (files : Served) (file : Ltx) (sent : Option Sent) → file_sent sent ≡ Some file → (pass : HaltPass) → write_permit old.standing ≡ Some pass
    → IsTrue old.store.honest → IsRead start old.store mid store → RestsAs (MayBeFound (state mid store) (failed mid store)) mid → IsOverImage files (state mid store).image → ShareForReading files.locks
    → abandoned files ≡ old.files → (ltx : List ℕ) → file_in ltx ≡ file
    → StepsSafely (seen start old) laws.File (laws.Send (file_in ltx)) (seen mid (record old { store = store; files = files; sent = sent })) start mid
sends-safely start mid old store files file sent is pass permit honest read rests over shares given ltx reads =
    let new : NodeParts = record old { store = store; files = files; sent = sent } in
    let role_is : role_in old ≡ role.Halted = halted old pass permit in
    steps-still (seen start old) (seen mid new) laws.File (laws.Send (file_in ltx)) start mid read.rests (read.state honest) (read.failed honest) rests
    (says-none (seen start old) (seen mid new) (seen start old).role laws.File (laws.Send (file_in ltx))
    (record {
      halted = ap law_role role_is;
      waits = is ∙ ap (λ (f : Ltx). Some f) (sym reads);
      undone = (refl, refl);
      served = (λ i. file_over ((given i).database) ((read.state honest) i).image, ap (λ (s : Served). frames_of (log_contents s)) given);
    })
    tt (λ plain still. absurd (halted_replica (sym role_is ∙ is-replica (role_in old) plain.role))) (sound mid new over shares (λ not. absurd (halted_replica (sym role_is ∙ not)))))
