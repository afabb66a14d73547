-- The scenario, step by step.
use Rattle.std.proofs.Common.{◌≡◌, ◌≢◌, ℕ, ◌≤◌, true, List, [], ◌∷◌, length, Some, None, inl, inr, refl, sym, ap, subst, ◌∙◌, arith}
use Rattle.std.specs.List.{Contains}
use Rattle.std.proofs.lemmas.List.Elements.{Contains-push, Contains-append_left}
use Rattle.lf_base.specs.declared.pos.Pos.{Pos}
use Rattle.ltx_codec.specs.Format.{IsFile}
use Rattle.ltx_codec.specs.declared.file.Ltx.{Ltx}
use Rattle.ltx_codec.specs.Positions.{after, nowhere}
use Rattle.lf_sqlite_pages.specs.Change.{PageChange}
use Rattle.lf_sqlite_pages.proofs.Completing.{completed-whole_change}
use Rattle.world_laws.specs.Answers.{by_file, by_run, by_snapshot, completed_over, snapshot_of}
use Rattle.world_laws.specs.Events.{Leases, Reopens, ends, goes}
use Rattle.world_laws.specs.Lineage.{Lineage}
use Rattle.world_laws.specs.Node.{Applied, Disk, Done, Drop, File, Forward, Forwarded, Frame, Gone, Halted, Hello, Item, NodeState, Permit, Primary, Refused, Replica, Send}
use Rattle.world_laws.specs.Scenario.{IsTold, SomethingHappens, both, first_file, second_file, store_of}
use Rattle.world_laws.specs.Step.{Makes, accepts, commits, drops, finishes, nothing, takes, unlinks}
use Rattle.world_laws.specs.Store.{Apply, Commit, DropAll, FailedIn, Install, StoreCall, StoreState, at, dropped_store, empty_store, installed, with_file}
use Rattle.world_laws.specs.World.{Act, Committed, Departed, DropFrame, FileFrame, Grown, SentFrame, World}
use Rattle.world_laws.proofs.Actors.{IsFirst, IsSecond, first-is, second-is}
use Rattle.world_laws.proofs.Both.{BecomeOne, become-one, both-compacts}
use Rattle.world_laws.proofs.CatchUp.{snapshot-first}
use Rattle.world_laws.proofs.Lineages.{position_of-nothing}
use Rattle.world_laws.proofs.Made.{Made}
use Rattle.world_laws.proofs.Scenes.{LedTurn, broken_node, fails, goes-apply, goes-commit, goes-drop, goes-idle, goes-install, leased, made, node, stays-2, turn-0, turn-1, turn-2, world}
use Rattle.world_laws.proofs.Stores.{end_of-none, end_of-one, end_of-push}
use Rattle.world_laws.proofs.StoryParts.{at-first, call-first, can-commit-first, copy-at, copy_of, empty-at, joins-copy, joins-store, lacks-other, one-image, position-first, replica_primary, snapshot-sent, some-first, some_same}

-- the steps
commits-first : (file : Ltx) → IsFirst file → Made (node Primary empty_store None) (node Primary (store_of file) None) File Done (Commit file ∷ []) None
commits-first file first = made Primary Primary empty_store (store_of file) None None File Done (Commit file ∷ []) commits (can-commit-first file first, tt) refl tt tt refl

sends-file : (file : Ltx) → IsFirst file → Made (node Primary (store_of file) None) (node Primary (store_of file) None) (Hello nowhere None) (Item file) [] None
sends-file file first =
    made Primary Primary (store_of file) (store_of file) None None (Hello nowhere None) (Item file) [] nothing tt refl
    (refl, by_file (Contains-push [] file) first.joins.next tt, first.sound) tt refl

installs : (file : Ltx) (old : StoreState) → IsFile file → file.header.min ≡ 1 → (position : Pos) → at (installed file) ≡ position →
    Made (node Replica old None) (node Replica (installed file) None) (Frame file) (Applied position) (Install file ∷ []) None
installs file old sound first position here =
    made Replica Replica old (installed file) None None (Frame file) (Applied position) (Install file ∷ [])
    (subst (λ (c : StoreCall). Makes old Replica None (Frame file) (c ∷ [])) (call-first old file first) (takes replica_primary))
    ((sound, first), tt) refl
    (ap (λ (c : StoreCall). c ∷ []) (sym (call-first old file first)), refl, sym here) tt refl

sends-snapshot : (here there : Ltx) → IsFirst here → IsFirst there → after here ≢ after there →
    Made (node Primary (store_of here) None) (node Primary (store_of here) None) (Hello (after there) None) (Item (snapshot_of (store_of here))) [] None
sends-snapshot here there is other differ =
    made Primary Primary (store_of here) (store_of here) None None (Hello (after there) None) (Item (snapshot_of (store_of here))) [] nothing tt refl
    (refl, by_snapshot (some-first here is) (lacks-other here there is other differ), snapshot-sent here is) tt refl

sends-both : (first file : Ltx) → IsFirst first → BecomeOne first file → let store : StoreState = with_file (store_of first) file in
    Made (node Primary store None) (node Primary store None) (Hello nowhere None) (Item (both first file)) [] None
sends-both first file is one =
    let store : StoreState = with_file (store_of first) file in
    made Primary Primary store store None None (Hello nowhere None) (Item (both first file)) [] nothing tt refl
    (refl, by_run {files = first ∷ file ∷ []} (record { front = []; behind = []; is = refl }) one.joined (both-compacts first file) is.joins.next tt, one.sound) tt refl

gets-permit : (store : StoreState) → Made (node Replica store None) (node Halted store None) Permit Done [] None
gets-permit store = made Replica Halted store store None None Permit Done [] nothing tt refl tt tt tt

sends-commit : (store : StoreState) (file : Ltx) → Made (node Halted store None) (node Halted store (Some file)) File (Send file) [] None
sends-commit store file =
    made Halted Halted store store None (Some file) File (Send file) [] nothing tt refl
    (record { halted = refl; waits = refl; undone = (refl, refl); served = (refl, refl) }) tt refl

-- the second file writes every page, so it is complete over any store
whole-over : (store : StoreState) (first file : Ltx) → IsSecond first file → completed_over store file ≡ file
whole-over store first file second =
    ap (λ (c : PageChange). record file { change = c }) (completed-whole_change file.change (length store.image.pages) second.sound.block.pages second.every)

accepts-commit : (first file : Ltx) → IsSecond first file →
    Made (node Primary (store_of first) None) (node Primary (with_file (store_of first) file) None) (Forward file) (Applied (after file)) (Commit file ∷ []) None
accepts-commit first file second =
    made Primary Primary (store_of first) (with_file (store_of first) file) None None (Forward file) (Applied (after file)) (Commit file ∷ [])
    (subst (λ (f : Ltx). Makes (store_of first) Primary None (Forward file) (Commit f ∷ [])) (whole-over (store_of first) first file second) accepts)
    ((second.sound, joins-store first file second, second.max ∙ sym second.min), tt) refl (ap (λ (f : Ltx). Commit f ∷ []) (sym (whole-over (store_of first) first file second)), refl) tt refl

is-told : (first file : Ltx) → IsFirst first → IsSecond first file →
    Made (node Halted (copy_of first) (Some file)) (node Halted (with_file (copy_of first) file) None) (Forwarded true) Done (Apply file ∷ []) None
is-told first file is second =
    made Halted Halted (copy_of first) (with_file (copy_of first) file) (Some file) None (Forwarded true) Done (Apply file ∷ [])
    (subst (λ (f : Ltx). Makes (copy_of first) Halted (Some file) (Forwarded true) (Apply f ∷ [])) (whole-over (copy_of first) first file second) finishes)
    ((second.sound, joins-copy first file is second), tt) refl (file, refl, end_of-push (copy_of first).log file) tt refl

written-second : (store : StoreState) (first file : Ltx) → IsSecond first file → 1 ≤ (at (with_file store file)).txid
written-second store first file second =
    let here : (at (with_file store file)).txid ≡ file.header.max = ap (λ (p : Pos). p.txid) (end_of-push store.log file) in
    omega (arith, here, second.max)

drops-it : (store : StoreState) → 1 ≤ (at store).txid → Made (node Primary store None) (node Primary dropped_store None) File Done (DropAll ∷ []) None
drops-it store some = made Primary Primary store dropped_store None None File Done (DropAll ∷ []) unlinks (some, tt) refl tt tt refl

says-gone : (first file : Ltx) → IsSecond first file → Made (node Primary dropped_store None) (node Primary dropped_store None) (Hello (after file) None) Gone [] None
says-gone first file second =
    made Primary Primary dropped_store dropped_store None None (Hello (after file) None) Gone [] nothing tt refl
    (refl, refl, λ same. let none : file.header.max ≡ 0 = ap (λ (p : Pos). p.txid) (same ∙ end_of-none) in omega (arith, none, second.max)) tt refl

halted_primary : Halted ≡ Primary → ⊥
halted_primary same = cc

drops-too : (store : StoreState) → 1 ≤ (at store).txid → Made (node Halted store None) (node Halted dropped_store None) Drop (Applied nowhere) (DropAll ∷ []) None
drops-too store some =
    made Halted Halted store dropped_store None None Drop (Applied nowhere) (DropAll ∷ []) (drops halted_primary) (some, tt) refl
    (inl (some, refl), refl, refl) tt refl

told : (lost won next_file : Ltx) → IsFirst lost → IsFirst won → IsSecond won next_file → BecomeOne won next_file → after lost ≢ after won → IsTold lost won next_file
told lost won next_file l w n becomes differ =
    let back : after won ≢ after lost = λ same. differ (sym same) in
    let a : StoreState = store_of lost in
    let b : StoreState = store_of won in
    let fa : Ltx = snapshot_of a in
    let fb : Ltx = snapshot_of b in
    let c : StoreState = with_file b next_file in
    let d : StoreState = with_file (copy_of won) next_file in
    let t0 : List Lineage = [] ∷ [] in
    let t1 : List Lineage = [] ∷ (lost.change ∷ []) ∷ [] in
    let t2 : List Lineage = [] ∷ (lost.change ∷ []) ∷ (won.change ∷ []) ∷ [] in
    let t3 : List Lineage = [] ∷ (lost.change ∷ []) ∷ (won.change ∷ []) ∷ (won.change ∷ next_file.change ∷ []) ∷ [] in
    let s1 : List SentFrame = FileFrame lost ∷ [] in
    let s2 : List SentFrame = FileFrame lost ∷ FileFrame fa ∷ [] in
    let s3 : List SentFrame = FileFrame lost ∷ FileFrame fa ∷ FileFrame fb ∷ [] in
    let s4 : List SentFrame = FileFrame lost ∷ FileFrame fa ∷ FileFrame fb ∷ FileFrame (both won next_file) ∷ [] in
    let s5 : List SentFrame = FileFrame lost ∷ FileFrame fa ∷ FileFrame fb ∷ FileFrame (both won next_file) ∷ DropFrame ∷ [] in
    let g1 : List ℕ = 0 ∷ [] in
    let g2 : List ℕ = 2 ∷ 0 ∷ [] in
    let k1 : List Act = Committed 1 0 lost ∷ [] in
    let k2 : List Act = Departed 1 ∷ k1 in
    let k3 : List Act = Committed 2 2 won ∷ k2 in
    let k4 : List Act = Departed 1 ∷ Departed 1 ∷ Departed 1 ∷ k3 in
    let k5 : List Act = Committed 2 2 next_file ∷ k4 in
    let k6 : List Act = Departed 1 ∷ k5 in
    let k7 : List Act = Departed 2 ∷ k6 in
    let k8 : List Act = Departed 1 ∷ k7 in
    let p : StoreState → NodeState = λ store. node Primary store None in
    let r : StoreState → NodeState = λ store. node Replica store None in
    let h : StoreState → NodeState = λ store. node Halted store None in
    let e : StoreState = empty_store in
    let w00 : World = world (p e) (r e) (p e) t0 [] [] [] None [] in
    let w01 : World = world (p e) (r e) (p e) t0 [] [] g1 (Some 0) [] in
    let w02 : World = world (p a) (r e) (p e) t1 [] [] g1 (Some 0) k1 in
    let w03 : World = world (p a) (r e) (p e) t1 s1 [] g1 (Some 0) k1 in
    let w04 : World = world (p a) (r (installed lost)) (p e) t1 s1 [] g1 (Some 0) k2 in
    let w05 : World = world (p a) (r (installed lost)) (p e) t1 s1 [] g2 (Some 2) k2 in
    let w06 : World = world (p a) (r (installed lost)) (broken_node (Commit won)) t1 s1 [] g2 (Some 2) k2 in
    let w07 : World = world (p a) (r (installed lost)) (p b) t2 s1 [] g2 (Some 2) k3 in
    let w08 : World = world (p a) (r (installed lost)) (p b) t2 s2 [] g2 (Some 2) k3 in
    let w09 : World = world (p a) (r (installed lost)) (p b) t2 s3 [] g2 (Some 2) k3 in
    let w10 : World = world (p a) (r (copy_of won)) (p b) t2 s3 [] g2 (Some 2) (Departed 1 ∷ k3) in
    let w11 : World = world (p a) (r (copy_of lost)) (p b) t2 s3 [] g2 (Some 2) (Departed 1 ∷ Departed 1 ∷ k3) in
    let w12 : World = world (p a) (r (copy_of won)) (p b) t2 s3 [] g2 (Some 2) k4 in
    let w13 : World = world (p a) (node Halted (copy_of won) None) (p b) t2 s3 [] g2 (Some 2) k4 in
    let w14 : World = world (p a) (node Halted (copy_of won) (Some next_file)) (p b) t2 s3 [] g2 (Some 2) k4 in
    let w15 : World = world (p a) (node Halted (copy_of won) (Some next_file)) (p c) t3 s3 (next_file ∷ []) g2 (Some 2) k5 in
    let w16 : World = world (p a) (h d) (p c) t3 s3 (next_file ∷ []) g2 (Some 2) k6 in
    let w17 : World = world (p a) (h d) (p c) t3 s3 (next_file ∷ []) g2 (Some 2) k6 in
    let w18 : World = world (p a) (h d) (p c) t3 s4 (next_file ∷ []) g2 (Some 2) k6 in
    let w19 : World = world (p a) (h d) (p dropped_store) t3 s4 (next_file ∷ []) g2 (Some 2) k7 in
    let w20 : World = world (p a) (h d) (p dropped_store) t3 s5 (next_file ∷ []) g2 (Some 2) k7 in
    let w21 : World = world (p a) (h dropped_store) (p dropped_store) t3 s5 (next_file ∷ []) g2 (Some 2) k8 in
    let w22 : World = world (p a) (h dropped_store) (p dropped_store) t3 s5 (next_file ∷ []) g2 None k8 in
    let grown_b : Grown t1 e won t2 = record { lineage = []; stands = Contains-append_left ([] ∷ []) ((lost.change ∷ []) ∷ []) [] (Contains-push [] []); position_is = position_of-nothing ∙ sym end_of-none; is = refl } in
    let h01 : Leases w00 g1 (Some 0) w01 = leased (p e) (r e) (p e) t0 [] [] [] g1 None (Some 0) [] in
    let h02 : LedTurn w01 0 File Done w02 =
    turn-0 (p e) (r e) (p e) (p a) t0 t1 [] [] g1 (Some 0) [] File Done (Commit lost ∷ []) None (commits-first lost l) tt
    (goes-commit 0 1 e t0 lost [] (Contains-push [] []) (position_of-nothing ∙ sym end_of-none))
    in
    let h03 : LedTurn w02 0 (Hello nowhere None) (Item lost) w03 =
    turn-0 (p a) (r e) (p e) (p a) t1 t1 [] [] g1 (Some 0) k1 (Hello nowhere None) (Item lost) [] None (sends-file lost l) tt (goes-idle 0 1 a t1 (Some 0)) in
    let h04 : LedTurn w03 1 (Frame lost) (Applied (after lost)) w04 =
    turn-1 (p a) (r e) (p e) (r (installed lost)) t1 t1 s1 [] g1 (Some 0) k1 (Frame lost) (Applied (after lost)) (Install lost ∷ []) None
    (installs lost e l.sound l.min (after lost) (end_of-one lost)) (Contains-push [] (FileFrame lost)) (goes-install 1 1 e t1 (Some 0) lost)
    in
    let h05 : Leases w04 g2 (Some 2) w05 = leased (p a) (r (installed lost)) (p e) t1 s1 [] g1 g2 (Some 0) (Some 2) k2 in
    let h06 : LedTurn w05 2 File (Refused Disk) w06 =
    turn-2 (p a) (r (installed lost)) (p e) (broken_node (Commit won)) t1 t1 s1 [] g2 (Some 2) k2 File (Refused Disk) [] (Some (FailedIn (Commit won))) (fails won (can-commit-first won w)) tt
    (record { leads = λ v same. (same, tt); tree_is = refl; failing = refl })
    in
    let h07 : Reopens w06 2 b w07 = record {
      opened = record { store = refl; whole = refl; waits = refl; served = refl };
      along = record { finds = inr (refl, grown_b, refl); failing = λ j. refl; frames = (refl, refl); lease = (refl, refl) };
      others = λ other differs. stays-2 (p a) (r (installed lost)) (broken_node (Commit won)) (p b) other differs;
    } in
    let h08 : LedTurn w07 0 (Hello (after won) None) (Item fa) w08 =
    turn-0 (p a) (r (installed lost)) (p b) (p a) t2 t2 s1 [] g2 (Some 2) k3 (Hello (after won) None) (Item fa) [] None (sends-snapshot lost won l w differ) tt (goes-idle 0 2 a t2 (Some 2)) in
    let h09 : LedTurn w08 2 (Hello (after lost) None) (Item fb) w09 =
    turn-2 (p a) (r (installed lost)) (p b) (p b) t2 t2 s2 [] g2 (Some 2) k3 (Hello (after lost) None) (Item fb) [] None (sends-snapshot won lost w l back) tt (goes-idle 2 2 b t2 (Some 2)) in
    let sent_b : Contains s3 (FileFrame fb) = Contains-push s2 (FileFrame fb) in
    let sent_a : Contains s3 (FileFrame fa) = Contains-append_left s2 (FileFrame fb ∷ []) (FileFrame fa) (Contains-push s1 (FileFrame fa)) in
    let h10 : LedTurn w09 1 (Frame fb) (Applied (after won)) w10 =
    turn-1 (p a) (r (installed lost)) (p b) (r (copy_of won)) t2 t2 s3 [] g2 (Some 2) k3 (Frame fb) (Applied (after won)) (Install fb ∷ []) None
    (installs fb (installed lost) (snapshot-sent won w) (snapshot-first b) (after won) (copy-at won)) sent_b (goes-install 1 2 (installed lost) t2 (Some 2) fb)
    in
    let h11 : LedTurn w10 1 (Frame fa) (Applied (after lost)) w11 =
    turn-1 (p a) (r (copy_of won)) (p b) (r (copy_of lost)) t2 t2 s3 [] g2 (Some 2) (Departed 1 ∷ k3) (Frame fa) (Applied (after lost)) (Install fa ∷ []) None
    (installs fa (copy_of won) (snapshot-sent lost l) (snapshot-first a) (after lost) (copy-at lost)) sent_a (goes-install 1 2 (copy_of won) t2 (Some 2) fa)
    in
    let h12 : LedTurn w11 1 (Frame fb) (Applied (after won)) w12 =
    turn-1 (p a) (r (copy_of lost)) (p b) (r (copy_of won)) t2 t2 s3 [] g2 (Some 2) (Departed 1 ∷ Departed 1 ∷ k3) (Frame fb) (Applied (after won)) (Install fb ∷ []) None
    (installs fb (copy_of lost) (snapshot-sent won w) (snapshot-first b) (after won) (copy-at won)) sent_b (goes-install 1 2 (copy_of lost) t2 (Some 2) fb)
    in
    let h13 : LedTurn w12 1 Permit Done w13 =
    turn-1 (p a) (r (copy_of won)) (p b) (node Halted (copy_of won) None) t2 t2 s3 [] g2 (Some 2) k4 Permit Done [] None (gets-permit (copy_of won)) tt (goes-idle 1 2 (copy_of won) t2 (Some 2)) in
    let h14 : LedTurn w13 1 File (Send next_file) w14 =
    turn-1 (p a) (node Halted (copy_of won) None) (p b) (node Halted (copy_of won) (Some next_file)) t2 t2 s3 [] g2 (Some 2) k4 File (Send next_file) [] None
    (sends-commit (copy_of won) next_file) tt (goes-idle 1 2 (copy_of won) t2 (Some 2))
    in
    let h15 : LedTurn w14 2 (Forward next_file) (Applied (after next_file)) w15 =
    turn-2 (p a) (node Halted (copy_of won) (Some next_file)) (p b) (p c) t2 t3 s3 [] g2 (Some 2) k4 (Forward next_file) (Applied (after next_file)) (Commit next_file ∷ []) None
    (accepts-commit won next_file n) tt
    (goes-commit 2 2 b t2 next_file (won.change ∷ []) (Contains-push t1 (won.change ∷ [])) (position-first won w ∙ sym (at-first won)))
    in
    let h16 : LedTurn w15 1 (Forwarded true) Done w16 =
    turn-1 (p a) (node Halted (copy_of won) (Some next_file)) (p c) (h d) t3 t3 s3 (next_file ∷ []) g2 (Some 2) k5 (Forwarded true) Done (Apply next_file ∷ []) None
    (is-told won next_file w n)
    (λ other same. subst (λ (f : Ltx). Contains (next_file ∷ []) f) (some_same next_file other same) (Contains-push [] next_file))
    (goes-apply 1 2 (copy_of won) t3 (Some 2) next_file)
    in
    let h17 : Leases w16 g2 (Some 2) w17 = leased (p a) (h d) (p c) t3 s3 (next_file ∷ []) g2 g2 (Some 2) (Some 2) k6 in
    let h18 : LedTurn w17 2 (Hello nowhere None) (Item (both won next_file)) w18 =
    turn-2 (p a) (h d) (p c) (p c) t3 t3 s3 (next_file ∷ []) g2 (Some 2) k6 (Hello nowhere None) (Item (both won next_file)) [] None (sends-both won next_file w becomes) tt (goes-idle 2 2 c t3 (Some 2)) in
    let h19 : LedTurn w18 2 File Done w19 =
    turn-2 (p a) (h d) (p c) (p dropped_store) t3 t3 s4 (next_file ∷ []) g2 (Some 2) k6 File Done (DropAll ∷ []) None (drops-it c (written-second b won next_file n)) tt (goes-drop 2 2 c t3 (Some 2)) in
    let h20 : LedTurn w19 2 (Hello (after next_file) None) Gone w20 =
    turn-2 (p a) (h d) (p dropped_store) (p dropped_store) t3 t3 s4 (next_file ∷ []) g2 (Some 2) k7 (Hello (after next_file) None) Gone [] None (says-gone won next_file n) tt
    (goes-idle 2 2 dropped_store t3 (Some 2))
    in
    let h21 : LedTurn w20 1 Drop (Applied nowhere) w21 =
    turn-1 (p a) (h d) (p dropped_store) (h dropped_store) t3 t3 s5 (next_file ∷ []) g2 (Some 2) k7 Drop (Applied nowhere) (DropAll ∷ []) None
    (drops-too d (written-second (copy_of won) won next_file n)) (Contains-push s4 DropFrame) (goes-drop 1 2 d t3 (Some 2))
    in
    let h22 : Leases w21 g2 None w22 = leased (p a) (h dropped_store) (p dropped_store) t3 s5 (next_file ∷ []) g2 g2 (Some 2) None k8 in
    record {
      first = w00;
      last = w22;
      start = record {
        stores = λ k. (empty-at k).0;
        served = λ k. (empty-at k).1;
        tree = refl;
        frames = (refl, refl);
        lease = (refl, refl);
        acts = refl;
      };
      runs =
          goes {v = w01} h01 (goes {v = w02} h02.turn (goes {v = w03} h03.turn (goes {v = w04} h04.turn (goes {v = w05} h05 (goes {v = w06} h06.turn (goes {v = w07} h07
          (goes {v = w08} h08.turn (goes {v = w09} h09.turn (goes {v = w10} h10.turn (goes {v = w11} h11.turn (goes {v = w12} h12.turn (goes {v = w13} h13.turn (goes {v = w14} h14.turn
          (goes {v = w15} h15.turn (goes {v = w16} h16.turn (goes {v = w17} h17 (goes {v = w18} h18.turn (goes {v = w19} h19.turn (goes {v = w20} h20.turn (goes {v = w21} h21.turn (goes {v = w22} h22 ends)))))))))))))))))))));
      led = (tt, (h02.leads, (h03.leads, (h04.leads, (tt, (h06.leads, (tt, (h08.leads, (h09.leads, (h10.leads, (h11.leads, (h12.leads, (h13.leads, (h14.leads, (h15.leads, (h16.leads, (tt, (h18.leads, (h19.leads, (h20.leads, (h21.leads, (tt, tt))))))))))))))))))))));
      one_image = one-image lost won next_file l w differ;
      tree = refl;
    }

pub something_happens-of : SomethingHappens
something_happens-of lost won new l w n differ =
    told (first_file lost) (first_file won) (second_file won new) (first-is lost l) (first-is won w) (second-is won new w n) (become-one won new n)
    (λ same. differ (ap (λ (p : Pos). p.sum) same))
