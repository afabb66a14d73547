-- The bytes of a file, and the file.
use Rattle.std.proofs.Common.{◌≡◌, ◌∙◌, ℕ, Option, Some, List, sym, ap, subst}
use Rattle.ltx_codec.specs.Fields.{AreBytes}
use Rattle.ltx_codec.specs.FileIn.{file_in}
use Rattle.ltx_codec.specs.Format.{IsLtx}
use Rattle.ltx_codec.specs.declared.file.Ltx.{Ltx}
use Rattle.ltx_codec.specs.declared.header.Header.{Header}
use Rattle.txn_log.specs.Coming.{ReadsFile}
use Rattle.txn_log.specs.Kept.{file_of}
use Rattle.txn_log.specs.declared.outline.Outline.{Outline}
use Rattle.txn_log.proofs.Sourced.{all_given}
use Rattle.snapshot.specs.Encoded.{IsEncoded}

-- the file of an encoding is the one that it is of
pub file_is : ((bytes : List ℕ) (file : Ltx) → AreBytes bytes → IsLtx bytes file → file_in bytes ≡ file) → (bytes : List ℕ) (file : Ltx) → AreBytes bytes → IsLtx bytes file → file_of bytes ≡ file
unfolding file_of
file_is law bytes file octets is = law bytes file octets is

-- an encoding, with what its file says
pub encoded : (bytes : List ℕ) (file : Ltx) (header : Header) (post : ℕ) → file_of bytes ≡ file → IsLtx bytes file → header ≡ file.header → post ≡ file.post → IsEncoded bytes header post
encoded bytes file header post same is header_is post_is = record {
  is = subst (λ (f : Ltx). IsLtx bytes f) (sym same) is;
  header_is = header_is ∙ sym (ap (λ (f : Ltx). f.header) same);
  post_is = post_is ∙ sym (ap (λ (f : Ltx). f.post) same);
}

-- what a source of bytes was read as is the file of all of them
abbrev pub read_file : (left : List ℕ) (left_now : Option (List ℕ)) (outline : Outline) → ReadsFile (Some left) left_now outline → Ltx
read_file left left_now outline reads = record { header = outline.header; change = reads.change; post = outline.post }

pub read_is : (bytes left : List ℕ) (left_now : Option (List ℕ)) (outline : Outline) (reads : ReadsFile (Some left) left_now outline) → left ≡ bytes → IsLtx bytes (read_file left left_now outline reads)
read_is bytes left left_now outline reads same =
    subst (λ (l : List ℕ). IsLtx l (read_file left left_now outline reads)) (sym (all_given left reads.encoding left_now reads.read reads.end) ∙ same) reads.is
