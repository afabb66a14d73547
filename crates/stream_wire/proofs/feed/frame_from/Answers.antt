use Rattle.std.proofs.Common.{rules, ◌≡◌, ◌∙◌, sym, ap, arith, subst, Some}
use Rattle.stream_wire.specs.Frame.{pos_body}
use Rattle.stream_wire.specs.Front.{kind_at, GivesName}
use Rattle.stream_wire.proofs.Cutting.{AreBytes, are_bytes, frame_is, end_frame, drop_frame, nameless}
use Rattle.stream_wire.proofs.feed.frame_from.Goals as goal

pub returns-in_default : goal.returns-in_default
returns-in_default c =
    let all : AreBytes c.args.bytes.items = are_bytes c.args.bytes.items (search (rules, c.items_fit)) in
    end_frame c.args.bytes.items all c.requires.frame
    (nameless c.args.bytes.items c.requires.frame (subst (GivesName c.args.bytes.items) c.in_default.is c.requires.name))

pub returns-in-1 : goal.returns-in-1
returns-in-1 c =
    let all : AreBytes c.args.bytes.items = are_bytes c.args.bytes.items (search (rules, c.items_fit)) in
    let name : GivesName c.args.bytes.items (Some c.in-Some.name) = subst (GivesName c.args.bytes.items) c.in-Some.is c.requires.name in
    frame_is c.args.bytes.items c.in-Some.name c.of.result 1 all c.requires.frame (sym c.in-1.is ∙ c.be32_at-kind.ensures ∙ ap kind_at c.deref.ensures.value) name.2 (c.of.ensures ∙ c.body_of-body.ensures)

pub returns-in-2 : goal.returns-in-2
returns-in-2 c =
    let all : AreBytes c.args.bytes.items = are_bytes c.args.bytes.items (search (rules, c.items_fit)) in
    let name : GivesName c.args.bytes.items (Some c.in-Some.name) = subst (GivesName c.args.bytes.items) c.in-Some.is c.requires.name in
    frame_is c.args.bytes.items c.in-Some.name (pos_body c.pos_of.result) 2 all c.requires.frame (sym c.in-2.is ∙ c.be32_at-kind.ensures ∙ ap kind_at c.deref.ensures.value) name.2 (c.pos_of.ensures ∙ c.deref-in-2.ensures.value ∙ c.body_of-body.ensures)

pub returns-in_default-kind : goal.returns-in_default-kind
returns-in_default-kind c =
    let all : AreBytes c.args.bytes.items = are_bytes c.args.bytes.items (search (rules, c.items_fit)) in
    let name : GivesName c.args.bytes.items (Some c.in-Some.name) = subst (GivesName c.args.bytes.items) c.in-Some.is c.requires.name in
    let k : c.be32_at-kind.result ≡ kind_at c.args.bytes.items = c.be32_at-kind.ensures ∙ ap kind_at c.deref.ensures.value in
    drop_frame c.args.bytes.items c.in-Some.name all c.requires.frame name.0 (λ e. omega arith) (λ e. omega arith) name.2
