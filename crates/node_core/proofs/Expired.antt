-- What becomes of a node where its standing is another, and of its files where it is a replica then.
use Rattle.std.proofs.Common.{◌≡◌, ◌∙◌, ◌⊎◌, ℕ, ◌<◌, ◌≤◌, Bool, true, false, IsTrue, inl, inr, Option, None, Some, refl, sym, ap, subst, arith}
use Rattle.std.specs.Prelude.{is_some, max, nat_lt, if◌then◌else◌}
use Rattle.std.specs.Option.{option_map}
use Rattle.std.proofs.lemmas.Bool.Decides.{nat_tests}
use Rattle.byte_locks.specs.declared.owner.Owner.{Owner}
use Rattle.lf_disk.specs.History.{History}
use Rattle.lf_sqlite_pages.specs.Image.{DatabaseImage}
use Rattle.lf_sqlite_pages.specs.PageSize.{IsPageSize}
use Rattle.database_file.specs.DatabaseFile.{clean}
use Rattle.database_under_log.specs.Over.{Agrees}
use Rattle.file_view.specs.declared.view.Role.{Role}
use Rattle.file_view.specs.declared.view.Role.TheVariants as role
use Rattle.file_view.specs.Endings.{dropped}
use Rattle.file_view.specs.Overlay.{FitsImage, IsOverImage}
use Rattle.file_view.specs.Served.{Served, log_contents}
use Rattle.halt_forward.specs.declared.halt_pass.HaltPass.{HaltPass}
use Rattle.halt_forward.specs.Permits.{unless_ended}
use Rattle.lease_core.specs.Belief.{LeaseBelief, is_before, may_commit}
use Rattle.world_laws.specs.MomentLaw.{Ends}
use Rattle.world_laws.specs.Node as laws
use Rattle.world_laws.specs.Node.{IsSoundNode}
use Rattle.world_laws.specs.Served.{ShareForReading}
use Rattle.node_core.specs.declared.standing.Standing.{Standing}
use Rattle.node_core.specs.Nodes.{NodeParts, at_moment, role_in, seen, served_over, writer_in}
use Rattle.node_core.specs.Roles.{files_at, in_force, law_role, pass_by, role_by, role_of}
use Rattle.node_core.specs.Stores.{state}
use Rattle.node_core.proofs.Endings.{nothing}
use Rattle.node_core.proofs.Sound.{is-replica, meets}

-- without a writer nothing is dropped
pub dropped-none : (s : Served) → s.writer ≡ None → dropped s ≡ s
dropped-none s none = rw none refl

-- and with one its pages
abbrev torn : Served → Owner → Served
torn s owner = record s { database = clean s.database; writer = None; torn = Some owner }

dropped-some : (s : Served) (owner : Owner) → s.writer ≡ Some owner → dropped s ≡ torn s owner
dropped-some s owner some = rw some refl

-- whatever holds of both
dropped-either : (P : Served → Type 0) (s : Served) → P s → ((owner : Owner) → s.writer ≡ Some owner → P (torn s owner)) → P (dropped s)
dropped-either P s still went = by-writer s.writer refl where
  by-writer : (w : Option Owner) → s.writer ≡ w → P (dropped s)
  by-writer None none = subst P (sym (dropped-none s none)) still
  by-writer (Some owner) some = subst P (sym (dropped-some s owner some)) (went owner some)

files-either : (P : Served → Type 0) (s : Served) → P s → ((owner : Owner) → s.writer ≡ Some owner → P (torn s owner)) → (r : Role) → P (files_at r s)
files-either P s still went role.Primary = still
files-either P s still went role.Replica = dropped-either P s still went
files-either P s still went role.Halted = still

dropped-writer : (s : Served) → (dropped s).writer ≡ None
dropped-writer s = by-writer s.writer refl where
  by-writer : (w : Option Owner) → s.writer ≡ w → (dropped s).writer ≡ None
  by-writer None none = ap (λ (f : Served). f.writer) (dropped-none s none) ∙ none
  by-writer (Some owner) some = ap (λ (f : Served). f.writer) (dropped-some s owner some)

primary_replica : role.Primary ≡ role.Replica → ⊥
primary_replica same = cc

halted_replica : role.Halted ≡ role.Replica → ⊥
halted_replica same = cc

module _ (s : Served) where
  -- what else there is of the files stays
  pub files-field : {X : Type 0} (f : Served → X) → ((owner : Owner) → f (torn s owner) ≡ f s) → (r : Role) → f (files_at r s) ≡ f s
  files-field f stays r = files-either (λ (t : Served). f t ≡ f s) s refl (λ owner some. stays owner) r

  -- at a replica there is no writer then
  pub files-writer : (r : Role) → r ≡ role.Replica → (files_at r s).writer ≡ None
  files-writer role.Primary is = absurd (primary_replica is)
  files-writer role.Replica is = dropped-writer s
  files-writer role.Halted is = absurd (halted_replica is)

  -- and where there was none the files stay
  pub files-still : s.writer ≡ None → (r : Role) → files_at r s ≡ s
  files-still none r = files-either (λ (t : Served). t ≡ s) s refl (λ owner some. absurd (no_owner owner (sym some ∙ none))) r where
    no_owner : (owner : Owner) → Some owner ≡ None → ⊥
    no_owner owner same = cc

  pub files-fit : (page_size commit : ℕ) → (0 < commit → IsPageSize page_size) → FitsImage s page_size commit → (r : Role) → FitsImage (files_at r s) page_size commit
  files-fit page_size commit sized fits r =
      files-either (λ (t : Served). FitsImage t page_size commit) s fits (λ owner some. record { fits = (nothing s.database).fits page_size commit sized; follows = fits.follows }) r

  pub files-over : (image : DatabaseImage) → IsOverImage s image → (r : Role) → IsOverImage (files_at r s) image
  files-over image over r =
      files-either (λ (t : Served). IsOverImage t image) s over (λ owner some. record {
        differs = (nothing s.database).differs image;
        agrees = subst (λ (w : Option Owner). Agrees (if is_some w then clean s.database else s.database) image (log_contents s)) some over.agrees;
      }) r

-- a belief that has not ended at a later moment had not before
before-end : (belief : LeaseBelief) (moment now : ℕ) → may_commit belief (max moment now) ≡ true → may_commit belief moment ≡ true
before-end belief moment now later = go belief.end later where
  go : (end : Option ℕ) → is_before (max moment now) end ≡ true → is_before moment end ≡ true
  go None later = refl
  go (Some end) later = grind (arith, nat_tests, later)

true_false : false ≡ true → ⊥
true_false same = cc

-- a permit that has not ended is not looked at again
again : (moment : ℕ) (pass : Option HaltPass) → unless_ended moment (unless_ended moment pass) ≡ unless_ended moment pass
again moment None = refl
again moment (Some pass) = go (nat_lt moment pass.until) refl where
  go : (b : Bool) → nat_lt moment pass.until ≡ b → unless_ended moment (if b then Some pass else None) ≡ (if b then Some pass else None)
  go true is = ap (λ (b : Bool). if b then Some pass else None) is
  go false is = refl

-- nor had it before
unless-later : (moment now : ℕ) (pass : Option HaltPass) (out : HaltPass) → unless_ended (max moment now) pass ≡ Some out → unless_ended moment pass ≡ Some out
unless-later moment now None out some = absurd (let no : None ≡ Some out = some in cc)
unless-later moment now (Some pass) out some = go (nat_lt (max moment now) pass.until) refl where
  go : (b : Bool) → nat_lt (max moment now) pass.until ≡ b → unless_ended moment (Some pass) ≡ Some out
  go true is =
      let before : nat_lt moment pass.until ≡ true = grind (arith, nat_tests, is) in
      ap (λ (b : Bool). if b then Some pass else None) (before ∙ sym is) ∙ some
  go false is = absurd (let no : None ≡ Some out = sym (ap (λ (b : Bool). if b then Some pass else None) is) ∙ some in cc)

-- what goes of a standing that ended leaves the role
pub role-in-force : (s : Standing) → role_of (in_force s) ≡ role_of s
role-in-force s = go (may_commit s.belief s.moment) where
  go : (b : Bool) → role_by b (unless_ended s.moment (pass_by b (unless_ended s.moment s.pass))) ≡ role_by b (unless_ended s.moment s.pass)
  go true = refl
  go false = ap (λ (pass : Option HaltPass). role_by false pass) (again s.moment s.pass)

-- and a lease is alone
pub alone-in-force : (s : Standing) → may_commit s.belief s.moment ≡ true → (in_force s).pass ≡ None
alone-in-force s leads = ap (λ (b : Bool). pass_by b (unless_ended s.moment s.pass)) leads

-- a later moment leaves a role, or makes a replica of it
roles : (before after : Bool) (had has : Option HaltPass) → (after ≡ true → before ≡ true) → (before ≡ true → has ≡ None) → ((pass : HaltPass) → has ≡ Some pass → had ≡ Some pass) →
    (role_by after has ≡ role_by before had) ⊎ (role_by after has ≡ role.Replica)
roles true true had has back alone same = inl refl
roles false true had has back alone same = absurd (true_false (back refl))
roles before false had None back alone same = inr refl
roles true false had (Some pass) back alone same = absurd (let no : Some pass ≡ None = alone refl in cc)
roles false false had (Some pass) back alone same = inl (ap (λ (p : Option HaltPass). role_by false p) (sym (same pass refl)))

role-later : (s : Standing) (now : ℕ) → (may_commit s.belief s.moment ≡ true → s.pass ≡ None) →
    (role_of (record s { moment = max s.moment now }) ≡ role_of s) ⊎ (role_of (record s { moment = max s.moment now }) ≡ role.Replica)
role-later s now alone =
    roles (may_commit s.belief s.moment) (may_commit s.belief (max s.moment now)) (unless_ended s.moment s.pass) (unless_ended (max s.moment now) s.pass)
    (before-end s.belief s.moment now) (λ leads. ap (λ (p : Option HaltPass). unless_ended (max s.moment now) p) (alone leads)) (unless-later s.moment now s.pass)

module _ (h : History) (n : NodeParts) (over : IsOverImage n.files (state h n.store).image) (locks : ShareForReading n.files.locks) where
  abbrev image : DatabaseImage
  image = (state h n.store).image

  abbrev EndsAs : Role → Role → Type 0
  EndsAs before after = Ends (record (seen h n) { role = law_role before }) (law_role after) (served_over (files_at after n.files) image)

  -- a node that is a replica then
  to-replica : (before : Role) → (before ≡ role.Replica → n.files.writer ≡ None) → EndsAs before role.Replica
  to-replica before replica = record {
    locks = files-field n.files (λ (s : Served). s.locks) (λ owner. refl) role.Replica;
    ends = inr refl;
    replica = λ is. (refl, ap (λ (s : Served). served_over s image) (files-still n.files (replica (is-replica before is)) role.Replica));
    sound = λ was. record {
      overlay = meets (dropped n.files) image (files-over n.files image over role.Replica);
      shares = subst ShareForReading (sym (files-field n.files (λ (s : Served). s.locks) (λ owner. refl) role.Replica)) locks;
      replica = λ is. ap (λ w. option_map (writer_in (dropped n.files).database image) w) (dropped-writer n.files);
    };
  }

  -- and one that is what it was
  to-itself : (r : Role) → (r ≡ role.Replica → n.files.writer ≡ None) → EndsAs r r
  to-itself role.Primary replica = record { locks = refl; ends = inl (refl, refl); replica = λ is. absurd cc; sound = λ was. was }
  to-itself role.Halted replica = record { locks = refl; ends = inl (refl, refl); replica = λ is. absurd cc; sound = λ was. was }
  to-itself role.Replica replica = to-replica role.Replica replica

  ends-by : (before after : Role) → (after ≡ before) ⊎ (after ≡ role.Replica) → (before ≡ role.Replica → n.files.writer ≡ None) → EndsAs before after
  ends-by before after (inl same) replica = subst (EndsAs before) (sym same) (to-itself before replica)
  ends-by before after (inr is) replica = subst (EndsAs before) (sym is) (to-replica before replica)

  -- what a moment leaves of a node
  pub moment-ends : (now : ℕ) → (role_in n ≡ role.Replica → n.files.writer ≡ None) → (may_commit n.standing.belief n.standing.moment ≡ true → n.standing.pass ≡ None) →
      Ends (seen h n) (law_role (role_in (at_moment n now))) (served_over (at_moment n now).files image)
  moment-ends now replica alone =
      let later : Standing = record n.standing { moment = max n.standing.moment now } in
      subst (λ (r : Role). Ends (seen h n) (law_role r) (served_over (files_at (role_of later) n.files) image)) (sym (role-in-force later))
      (ends-by (role_in n) (role_of later) (role-later n.standing now alone) replica)
