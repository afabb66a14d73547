-- Row by row.
use Rattle.std.proofs.Common.{◌≡◌, ◌∙◌, Some, Option, ap, sym, subst, List, ℕ}
use Rattle.std.proofs.lemmas.Bool.{cond-true, cond-false}
use Rattle.lf_base.specs.declared.errno.Errno.{Errno}
use Rattle.wal_watch.specs.File.{contents_of}
use Rattle.database_under_log.specs.Fault.{wanted_size}
use Rattle.file_view.specs.Errno.{EPERM}
use Rattle.file_view.specs.LogParts.{log_own_rows, begins_anew}
use Rattle.file_view.specs.LogRules.{log_commit_rows}
use Rattle.file_view.specs.Refusal.{first_refusal}
use Rattle.file_view.specs.Served.{Served, log_contents}
use Rattle.file_view.specs.declared.view.Scene.{Scene}
use Rattle.file_view.proofs.LogWriteLemmas.{owner-refuses, own-refuses, own-passes}
use Rattle.file_view.proofs.view.View.log_write_refusal.Goals as goal

-- what the log refuses, as the files have it
as-served : (o : Option Errno) (s : Served) (scene : Scene) (contents : List ℕ) (size at : ℕ) (bytes : List ℕ) → contents ≡ log_contents s → size ≡ wanted_size scene.page_size scene.commit →
    o ≡ first_refusal (log_own_rows contents size at bytes) → o ≡ first_refusal (log_own_rows (log_contents s) (wanted_size scene.page_size scene.commit) at bytes)
as-served o s scene contents size at bytes one two is =
    subst (λ (t : List ℕ). o ≡ first_refusal (log_own_rows t (wanted_size scene.page_size scene.commit) at bytes)) one
    (subst (λ (n : ℕ). o ≡ first_refusal (log_own_rows contents n at bytes)) two is)

pub returns-in-Some-clause-refused : goal.returns-in-Some-clause-refused
returns-in-Some-clause-refused c =
    owner-refuses c.args.self.now c.args.scene.now c.args.write.now.given c.args.write.now.at c.args.write.now.bytes.now c.in-Some.errno c.in-Some.ensures.value

pub returns-in-Some-own_refusal-clause-refused : goal.returns-in-Some-own_refusal-clause-refused
returns-in-Some-own_refusal-clause-refused c =
    own-refuses c.args.self.now c.args.scene.now c.args.write.now.given c.args.write.now.at c.args.write.now.bytes.now c.in-Some-own_refusal.errno c.in_default.ensures.value
    (as-served _ c.args.self.now c.args.scene.now (contents_of c.self.inside.log) c.wanted_size.result c.args.write.now.at c.args.write.now.bytes.now (ap log_contents c.self.view_is) c.wanted_size.ensures
    c.in-Some-own_refusal.ensures.value)

pub returns-then-begins_anew-clause-refused : goal.returns-then-begins_anew-clause-refused
returns-then-begins_anew-clause-refused c =
    own-passes c.args.self.now c.args.scene.now c.args.write.now.given c.args.write.now.at c.args.write.now.bytes.now c.in_default.ensures.value
    (as-served _ c.args.self.now c.args.scene.now (contents_of c.self.inside.log) c.wanted_size.result c.args.write.now.at c.args.write.now.bytes.now (ap log_contents c.self.view_is) c.wanted_size.ensures
    c.in_default-own_refusal.ensures.value)
    ∙ cond-true (begins_anew c.args.self.now c.args.write.now.at c.args.write.now.bytes.now) (Some EPERM) (first_refusal (log_commit_rows c.args.self.now c.args.write.now.at c.args.write.now.bytes.now))
    (sym c.begins_anew.ensures.value ∙ c.if-begins_anew.true)

pub returns-clause-passed : goal.returns-clause-passed
returns-clause-passed c =
    own-passes c.args.self.now c.args.scene.now c.args.write.now.given c.args.write.now.at c.args.write.now.bytes.now c.in_default.ensures.value
    (as-served _ c.args.self.now c.args.scene.now (contents_of c.self.inside.log) c.wanted_size.result c.args.write.now.at c.args.write.now.bytes.now (ap log_contents c.self.view_is) c.wanted_size.ensures
    c.in_default-own_refusal.ensures.value)
    ∙ cond-false (begins_anew c.args.self.now c.args.write.now.at c.args.write.now.bytes.now) (Some EPERM) (first_refusal (log_commit_rows c.args.self.now c.args.write.now.at c.args.write.now.bytes.now))
    (sym c.begins_anew.ensures.value ∙ c.if-begins_anew.false)
