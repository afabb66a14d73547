-- What a write to the log leaves over an image.
use Rattle.std.proofs.Common.{◌≡◌, ℕ, length, List, Option, Some, None, sym, ap, ◌∙◌, subst}
use Rattle.database_file.specs.DatabaseFile.{FitsShape}
use Rattle.database_under_log.specs.Over.{Agrees}
use Rattle.lf_base.specs.FileBytes.{written}
use Rattle.lf_sqlite_pages.specs.Apply.{apply}
use Rattle.lf_sqlite_pages.specs.Change.{PageChange}
use Rattle.lf_sqlite_pages.specs.Image.{DatabaseImage}
use Rattle.lf_sqlite_pages.proofs.Laws.{length-apply}
use Rattle.wal_watch.specs.Frames.{page_size_in}
use Rattle.wal_watch.specs.News.{last_size}
use Rattle.file_view.specs.declared.view.Scene.{Scene}
use Rattle.file_view.specs.LogLaws.{StandsOver, CommitsOver, KeepsOver}
use Rattle.file_view.specs.LogRules.{FollowsImage, LogCommits, LogKeeps, LogWaits, LogDone, log_after, log_written}
use Rattle.file_view.specs.Served.{Served, log_contents}

-- a write that is done
stored-keeps : (old new : Served) (scene : Scene) (image : DatabaseImage) (at : ℕ) (bytes : List ℕ) → scene.page_size ≡ image.page_size → scene.commit ≡ length image.pages →
    StandsOver old image → LogKeeps (Some image) old.database (log_contents old) (log_after old at bytes) scene.page_size scene.commit → new ≡ log_written old at bytes →
    StandsOver new image
stored-keeps old new scene image at bytes size count stands keeps state = subst (λ (s : Served). StandsOver s image) (sym state) (record {
  differs = stands.differs;
  fits = stands.fits;
  follows = subst (λ (n : ℕ). FollowsImage (log_after old at bytes) image.page_size n) count
      (subst (λ (n : ℕ). FollowsImage (log_after old at bytes) n scene.commit) size keeps.follows);
  agrees = keeps.agrees stands.differs stands.agrees;
})

-- the log's new bytes follow the image that the change leads to
change-follows : (contents : List ℕ) (image : DatabaseImage) (change : PageChange) → change.page_size ≡ page_size_in contents → change.commit ≡ last_size contents →
    FollowsImage contents (apply image change).page_size (length (apply image change).pages)
change-follows contents image change size count = record {
  page_size_is = λ some. sym size;
  commit_is = λ some. sym count ∙ sym (length-apply image change);
}

-- a write that waited is done
done-stands : (old : Served) (scene : Scene) (image : DatabaseImage) (at : ℕ) (bytes : List ℕ) (change : PageChange) (new : Served) → StandsOver old image →
    LogCommits (Some image) old.database (log_contents old) (log_after old at bytes) scene.commit (Some change) → LogWaits (Some image) old at bytes change new →
    CommitsOver old image change new
done-stands old scene image at bytes change new stands commits waits =
    let leads = waits.is.leads stands.differs stands.agrees in
    let contents : written waits.write.at waits.write.bytes (log_contents old) ≡ log_after old at bytes =
    ap (λ (n : ℕ). written n waits.write.bytes (log_contents old)) waits.is.at_is ∙ ap (λ (b : List ℕ). written at b (log_contents old)) waits.is.bytes_are in
    let size : change.page_size ≡ page_size_in (log_after old at bytes) = ap (λ (c : PageChange). c.page_size) commits.is in
    let count : change.commit ≡ last_size (log_after old at bytes) = ap (λ (c : PageChange). c.commit) commits.is in
    subst (λ (s : Served). CommitsOver old image change s) (sym waits.state) (record {
      stands = record {
        differs = leads.stays.differs;
        fits = subst (λ (n : ℕ). FitsShape waits.write.file change.page_size n) (sym (length-apply image change)) waits.is.fits;
        follows = subst (λ (t : List ℕ). FollowsImage t (apply image change).page_size (length (apply image change).pages)) (sym contents)
            (change-follows (log_after old at bytes) image change size count);
        agrees = subst (λ (t : List ℕ). Agrees waits.write.file (apply image change) t) (sym contents) leads.agrees;
      };
      reads = leads.stays.reads;
    })

pub keeps-over : (old new : Served) (scene : Scene) (image : DatabaseImage) (at : ℕ) (bytes : List ℕ) (change : Option PageChange) → scene.page_size ≡ image.page_size →
    scene.commit ≡ length image.pages → StandsOver old image → LogDone (Some image) old scene at bytes change new → KeepsOver old image change new
keeps-over old new scene image at bytes None size count stands done = stored-keeps old new scene image at bytes size count stands done.1.0 done.1.1
keeps-over old new scene image at bytes (Some change) size count stands done = done-stands old scene image at bytes change new stands done.0 done.1
