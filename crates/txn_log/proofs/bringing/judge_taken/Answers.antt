use Rattle.std.proofs.Common.{rules, ◌≡◌, ◌∙◌, Option, true, refl, sym, subst}
use Rattle.txn_log.specs.Taking.{TakenIn}
use Rattle.txn_log.specs.declared.taking_source.Intake.{Intake}
use Rattle.ltx_codec.specs.declared.file.Ltx.{Ltx}
use Rattle.txn_log.proofs.Bringings.{none_room, some_room, some_sum}
use Rattle.txn_log.proofs.bringing.judge_taken.Goals as goal

pub returns-in_default : goal.returns-in_default
returns-in_default c = record {
  judges = λ encoding change sums octets is taken.
      let file : Ltx = record { header = c.args.outline.now.header; change = change; post = c.args.outline.now.post } in (
        none_room c.args.table.now.sums sums c.args.ground.now.commit c.args.ground.now.wal c.args.ground.now.room encoding file octets is
            (subst (λ (o : Option Intake). TakenIn o c.args.table.now.sums sums c.args.ground.now.commit c.args.ground.now.wal c.args.ground.now.room encoding change) c.in_default.is taken),
        refl,
      );
}

pub returns-then-ne : goal.returns-then-ne
returns-then-ne c =
    let differ : c.before-want.result ≡ c.args.ground.now.position → ⊥ = search rules in
    record {
      judges = λ encoding change sums octets is taken.
          let file : Ltx = record { header = c.args.outline.now.header; change = change; post = c.args.outline.now.post } in
          let it = subst (λ (o : Option Intake). TakenIn o c.args.table.now.sums sums c.args.ground.now.commit c.args.ground.now.wal c.args.ground.now.room encoding change) c.in-Some.is taken in
          (some_room c.args.table.now.sums sums c.args.ground.now.commit c.args.ground.now.wal c.args.ground.now.room encoding file octets is c.in-Some.intake it, tt, (refl, (refl, c.before-want.ensures change, differ)));
    }

pub returns-then-not-fits : goal.returns-then-not-fits
returns-then-not-fits c =
    let next : c.before-want.result ≡ c.args.ground.now.position = search rules in
    record {
      judges = λ encoding change sums octets is taken.
          let file : Ltx = record { header = c.args.outline.now.header; change = change; post = c.args.outline.now.post } in
          let it = subst (λ (o : Option Intake). TakenIn o c.args.table.now.sums sums c.args.ground.now.commit c.args.ground.now.wal c.args.ground.now.room encoding change) c.in-Some.is taken in
          let both = c.fits.ensures change is.valid.block.pages is.valid.block.page_size is.valid.block.commit it.3.held_is in
          let isnt = c.if-not-fits.true in (
            some_room c.args.table.now.sums sums c.args.ground.now.commit c.args.ground.now.wal c.args.ground.now.room encoding file octets is c.in-Some.intake it,
            tt,
            (
              refl,
              sym (c.before-want.ensures change) ∙ next,
              (λ fit. let no : c.fits.result ≡ true = both.1 fit in cc),
              refl,
              sym is.valid.block.page_size,
            ),
          );
    }

pub returns-then-want-got : goal.returns-then-want-got
returns-then-want-got c =
    let next : c.before-want.result ≡ c.args.ground.now.position = search rules in
    record {
      judges = λ encoding change sums octets is taken.
          let file : Ltx = record { header = c.args.outline.now.header; change = change; post = c.args.outline.now.post } in
          let it = subst (λ (o : Option Intake). TakenIn o c.args.table.now.sums sums c.args.ground.now.commit c.args.ground.now.wal c.args.ground.now.room encoding change) c.in-Some.is taken in
          let both = c.fits.ensures change is.valid.block.pages is.valid.block.page_size is.valid.block.commit it.3.held_is in (
            some_room c.args.table.now.sums sums c.args.ground.now.commit c.args.ground.now.wal c.args.ground.now.room encoding file octets is c.in-Some.intake it,
            tt,
            (
              refl,
              sym (c.before-want.ensures change) ∙ next,
              both.0 c.if-not-fits.false,
              refl,
              c.total-got.ensures ∙ some_sum c.args.table.now.sums sums c.args.ground.now.commit c.args.ground.now.wal c.args.ground.now.room encoding file octets is c.in-Some.intake it,
              c.if-want-got.true,
            ),
          );
    }

pub returns : goal.returns
returns c =
    let next : c.before-want.result ≡ c.args.ground.now.position = search rules in
    record {
      judges = λ encoding change sums octets is taken.
          let file : Ltx = record { header = c.args.outline.now.header; change = change; post = c.args.outline.now.post } in
          let it = subst (λ (o : Option Intake). TakenIn o c.args.table.now.sums sums c.args.ground.now.commit c.args.ground.now.wal c.args.ground.now.room encoding change) c.in-Some.is taken in
          let both = c.fits.ensures change is.valid.block.pages is.valid.block.page_size is.valid.block.commit it.3.held_is in (
            c.in-Some.is,
            some_room c.args.table.now.sums sums c.args.ground.now.commit c.args.ground.now.wal c.args.ground.now.room encoding file octets is c.in-Some.intake it,
            record {
              next = sym (c.before-want.ensures change) ∙ next;
              fits = both.0 c.if-not-fits.false;
              sum = c.if-want-got.false ∙ c.total-got.ensures ∙ some_sum c.args.table.now.sums sums c.args.ground.now.commit c.args.ground.now.wal c.args.ground.now.room encoding file octets is c.in-Some.intake it;
            },
          );
    }
