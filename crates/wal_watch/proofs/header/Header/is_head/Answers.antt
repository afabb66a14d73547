use Rattle.std.proofs.Common.{◌≡◌, ◌==◌, ◌∙◌, sym, refl, false, true}
use Rattle.std.proofs.lemmas.Bool.{and_left, and_right, eq-eqb, ne_eqb, not_from_true}
use Rattle.lf_base.specs.Endian.{be32_at}
use Rattle.wal_watch.proofs.PieceLemmas.{head-is}
use Rattle.wal_watch.proofs.header.Header.is_head.Goals as goal

pub returns-then-be32_at-eq0 : goal.returns-then-be32_at-eq0
returns-then-be32_at-eq0 c = λ contents place states is.
    let none : be32_at 0 c.args.head.now ≡ 0 = sym c.be32_at.ensures ∙ c.if-be32_at-eq0.true in
    sym (head-is contents c.args.head.now place c.args.self.now states is ∙ and_left _ _ (not_from_true _ (eq-eqb _ _ none)))

pub returns-then-be32_at-self : goal.returns-then-be32_at-self
returns-then-be32_at-self c = λ contents place states is.
    sym (head-is contents c.args.head.now place c.args.self.now states is
    ∙ and_right _ _ (and_left _ _ (ne_eqb (be32_at 8 c.args.head.now) c.args.self.now.first_salt (λ same. c.if-be32_at-self.true (c.be32_at-2.ensures ∙ same)))))

pub returns : goal.returns
returns c = λ contents place states is.
    let some : (be32_at 0 c.args.head.now == 0) ≡ false = ne_eqb (be32_at 0 c.args.head.now) 0 (λ none. c.if-be32_at-eq0.false (c.be32_at.ensures ∙ none)) in
    let salt : (be32_at 8 c.args.head.now == c.args.self.now.first_salt) ≡ true = eq-eqb _ _ (sym c.be32_at-2.ensures ∙ c.if-be32_at-self.false) in
    rw (head-is contents c.args.head.now place c.args.self.now states is, some, salt, ← c.be32_at-3.ensures) refl
