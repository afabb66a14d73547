use Rattle.std.proofs.Common.{◌≡◌, ◌∙◌, ◌++◌, List, ℕ, ap, subst, sym}
use Rattle.ltx_codec.specs.Fields.{AreBytes}
use Rattle.ltx_codec.specs.Format.{IsLtx, file_encoding, no_meaning}
use Rattle.ltx_codec.specs.declared.file.Ltx.{Ltx}
use Rattle.node_core.proofs.sending.file_to_send.Goals as goal

pub returns-in-Ok-clause-valid : goal.returns-in-Ok-clause-valid
returns-in-Ok-clause-valid g c = record {
  valid = c.in_ok-file.ensures.valid;
  single = ap (λ (f : Ltx). f.header.max) c.in_ok-file.ensures.drafts.3 ∙ sym (ap (λ (f : Ltx). f.header.min) c.in_ok-file.ensures.drafts.3);
}

pub returns-in-Ok-clause-encodes : goal.returns-in-Ok-clause-encodes
returns-in-Ok-clause-encodes g c =
    let file = c.in_ok-file.file in
    let bytes : c.of.result ≡ file_encoding file no_meaning = c.of.ensures ∙ c.in-Ok.ensures.ok ∙ ap (λ (items : List ℕ). items ++ file_encoding file no_meaning) c.new-bytes.ensures.items in
    let is : IsLtx c.of.result file = subst (λ (b : List ℕ). IsLtx b file) (sym bytes) c.in-Ok.ensures.reads_back in
    (is, c.file_is_read.ensures c.of.result file (subst AreBytes (sym c.of.ensures) (subst AreBytes c.as_slice.ensures.value c.are_bytes.ensures)) is)
