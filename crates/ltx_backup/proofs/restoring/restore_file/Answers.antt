use Rattle.std.proofs.Common.{◌≡◌, ◌∙◌, true, refl, sym, subst}
use Rattle.std.proofs.lemmas.Bool.{false≢true}
use Rattle.lf_disk.specs.History.{now}
use Rattle.lf_sqlite_pages.specs.Apply.{Fits}
use Rattle.ltx_codec.specs.declared.file.Ltx.{Ltx}
use Rattle.ltx_backup.proofs.Unique.{stands_once}
use Rattle.ltx_backup.proofs.restoring.restore_file.Goals as goal

pub returns-then-not-fits-clause-misfit : goal.returns-then-not-fits-clause-misfit
returns-then-not-fits-clause-misfit g c honest = (
  refl,
  refl,
  refl,
  λ file numbers stands fits.
      let same : file ≡ c.in-Ok.file =
      stands_once (now (g.D.Disk.history c.args.disk.now)) file c.in-Ok.file stands (c.in-Ok.ensures.stands honest) (numbers.0 ∙ sym c.in-Ok.ensures.min) (numbers.1 ∙ sym c.in-Ok.ensures.max) in
      let yes : c.fits.result ≡ true = c.fits.ensures.1 (subst (λ (x : Ltx). Fits c.args.before.image x.change) same fits) in
      false≢true (sym c.if-not-fits.true ∙ yes),
)

pub returns-in-Ok-after-clause-restores : goal.returns-in-Ok-after-clause-restores
returns-in-Ok-after-clause-restores g c honest = record {
  file = c.in-Ok.file;
  stands = c.in-Ok.ensures.stands honest;
  numbers = (c.in-Ok.ensures.min, c.in-Ok.ensures.max);
  fits = c.fits.ensures.0 c.if-not-fits.false;
  image = c.in-Ok-after.ensures.image;
  post = c.in-Ok-after.ensures.post;
}
