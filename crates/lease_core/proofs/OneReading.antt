-- No two requests and no two replies have the same members.
use Rattle.std.proofs.Common.{◌≡◌, ℕ, ◌<◌, ◌^◌, List, ap, refl, sym, ◌∙◌, arith, get_or}
use Rattle.lf_base.specs.Hex.{hex_digits, number_after}
use Rattle.lf_base.proofs.HexLemmas.{sixteen}
use Rattle.lease_core.specs.declared.lease_ask.LeaseAsk.{LeaseAsk}
use Rattle.lease_core.specs.declared.lease_ask.LeaseAsk.TheVariants as ask
use Rattle.lease_core.specs.declared.lease_reply.LeaseKind.{LeaseKind}
use Rattle.lease_core.specs.declared.lease_reply.LeaseKind.TheVariants as kind
use Rattle.lease_core.specs.declared.lease_reply.LeaseReply.{LeaseReply}
use Rattle.lease_core.specs.declared.lease_reply.LeaseReply.TheVariants as reply
use Rattle.lease_core.specs.Bodies.{ask_members, FitsAsk, kind_name, reply_members}
use Rattle.lease_core.proofs.Shapes.{count_ask, ask_count, count_reply, reply_count}

one_node : (n m : ℕ) → n < 2 ^ 64 → m < 2 ^ 64 → hex_digits 16 n ≡ hex_digits 16 m → n ≡ m
one_node n m f g e = sym (sixteen n f) ∙ ap (number_after 0) e ∙ sixteen m g

counts : (a b : LeaseAsk) → ask_members a ≡ ask_members b → count_ask a ≡ count_ask b
counts a b e = sym (ask_count (ask_members a) a refl) ∙ ask_count (ask_members a) b e

pub one_ask : (a b : LeaseAsk) → FitsAsk a → FitsAsk b → ask_members a ≡ ask_members b → a ≡ b
one_ask (ask.Acquire n u h) (ask.Acquire m v g) f k e = let d : hex_digits 16 n ≡ hex_digits 16 m = cc in let i = one_node n m f k d in cc
one_ask (ask.Acquire n u h) (ask.Renew m t) f k e = absurd (omega (arith, counts (ask.Acquire n u h) (ask.Renew m t) e))
one_ask (ask.Acquire n u h) (ask.Release m t) f k e = absurd (omega (arith, counts (ask.Acquire n u h) (ask.Release m t) e))
one_ask (ask.Acquire n u h) ask.Info f k e = absurd (omega (arith, counts (ask.Acquire n u h) ask.Info e))
one_ask (ask.Renew n t) (ask.Acquire m v g) f k e = absurd (omega (arith, counts (ask.Renew n t) (ask.Acquire m v g) e))
one_ask (ask.Renew n t) (ask.Renew m s) f k e = let d : hex_digits 16 n ≡ hex_digits 16 m = cc in let i = one_node n m f k d in cc
one_ask (ask.Renew n t) (ask.Release m s) f k e = cc
one_ask (ask.Renew n t) ask.Info f k e = absurd (omega (arith, counts (ask.Renew n t) ask.Info e))
one_ask (ask.Release n t) (ask.Acquire m v g) f k e = absurd (omega (arith, counts (ask.Release n t) (ask.Acquire m v g) e))
one_ask (ask.Release n t) (ask.Renew m s) f k e = cc
one_ask (ask.Release n t) (ask.Release m s) f k e = let d : hex_digits 16 n ≡ hex_digits 16 m = cc in let i = one_node n m f k d in cc
one_ask (ask.Release n t) ask.Info f k e = absurd (omega (arith, counts (ask.Release n t) ask.Info e))
one_ask ask.Info (ask.Acquire m v g) f k e = absurd (omega (arith, counts ask.Info (ask.Acquire m v g) e))
one_ask ask.Info (ask.Renew m s) f k e = absurd (omega (arith, counts ask.Info (ask.Renew m s) e))
one_ask ask.Info (ask.Release m s) f k e = absurd (omega (arith, counts ask.Info (ask.Release m s) e))
one_ask ask.Info ask.Info f k e = refl

-- the names differ in their second letters
second : List ℕ → ℕ
second name = get_or name 1 0

one_kind : (a b : LeaseKind) → kind_name a ≡ kind_name b → a ≡ b
unfolding second
one_kind kind.Held kind.Held e = refl
one_kind kind.Held kind.Unknown e = absurd (omega (arith, ap second e))
one_kind kind.Held kind.Late e = absurd (omega (arith, ap second e))
one_kind kind.Held kind.Limit e = absurd (omega (arith, ap second e))
one_kind kind.Unknown kind.Held e = absurd (omega (arith, ap second e))
one_kind kind.Unknown kind.Unknown e = refl
one_kind kind.Unknown kind.Late e = absurd (omega (arith, ap second e))
one_kind kind.Unknown kind.Limit e = absurd (omega (arith, ap second e))
one_kind kind.Late kind.Held e = absurd (omega (arith, ap second e))
one_kind kind.Late kind.Unknown e = absurd (omega (arith, ap second e))
one_kind kind.Late kind.Late e = refl
one_kind kind.Late kind.Limit e = absurd (omega (arith, ap second e))
one_kind kind.Limit kind.Held e = absurd (omega (arith, ap second e))
one_kind kind.Limit kind.Unknown e = absurd (omega (arith, ap second e))
one_kind kind.Limit kind.Late e = absurd (omega (arith, ap second e))
one_kind kind.Limit kind.Limit e = refl

counts_reply : (a b : LeaseReply) → reply_members a ≡ reply_members b → count_reply a ≡ count_reply b
counts_reply a b e = sym (reply_count (reply_members a) a refl) ∙ reply_count (reply_members a) b e

pub one_reply : (a b : LeaseReply) → reply_members a ≡ reply_members b → a ≡ b
one_reply (reply.Grant h t l u) (reply.Grant g s m v) e = cc
one_reply (reply.Grant h t l u) (reply.Renewed m) e = absurd (omega (arith, counts_reply (reply.Grant h t l u) (reply.Renewed m) e))
one_reply (reply.Grant h t l u) reply.Empty e = absurd (omega (arith, counts_reply (reply.Grant h t l u) reply.Empty e))
one_reply (reply.Grant h t l u) (reply.Refused k n) e = absurd (omega (arith, counts_reply (reply.Grant h t l u) (reply.Refused k n) e))
one_reply (reply.Renewed l) (reply.Grant g s m v) e = absurd (omega (arith, counts_reply (reply.Renewed l) (reply.Grant g s m v) e))
one_reply (reply.Renewed l) (reply.Renewed m) e = cc
one_reply (reply.Renewed l) reply.Empty e = absurd (omega (arith, counts_reply (reply.Renewed l) reply.Empty e))
one_reply (reply.Renewed l) (reply.Refused k n) e = absurd (omega (arith, counts_reply (reply.Renewed l) (reply.Refused k n) e))
one_reply reply.Empty (reply.Grant g s m v) e = absurd (omega (arith, counts_reply reply.Empty (reply.Grant g s m v) e))
one_reply reply.Empty (reply.Renewed m) e = absurd (omega (arith, counts_reply reply.Empty (reply.Renewed m) e))
one_reply reply.Empty reply.Empty e = refl
one_reply reply.Empty (reply.Refused k n) e = absurd (omega (arith, counts_reply reply.Empty (reply.Refused k n) e))
one_reply (reply.Refused j i) (reply.Grant g s m v) e = absurd (omega (arith, counts_reply (reply.Refused j i) (reply.Grant g s m v) e))
one_reply (reply.Refused j i) (reply.Renewed m) e = absurd (omega (arith, counts_reply (reply.Refused j i) (reply.Renewed m) e))
one_reply (reply.Refused j i) reply.Empty e = absurd (omega (arith, counts_reply (reply.Refused j i) reply.Empty e))
one_reply (reply.Refused j i) (reply.Refused k n) e =
    let d : kind_name j ≡ kind_name k = cc in
    let same = one_kind j k d in
    cc
