-- What stands under the name of an entry is the encoding of its file.
use Rattle.std.proofs.Common.{◌≡◌, ℕ, ◌<◌, List, length, get_or, sym, ◌∙◌, ap, subst, arith}
use Rattle.std.proofs.lemmas.List.{get_or-map}
use Rattle.lf_disk.specs.declared.name.FileName.TheVariants.{Ltx as LtxName}
use Rattle.lf_disk.specs.Folder.{Folder, bytes_of}
use Rattle.ltx_codec.specs.Format.{IsLtx}
use Rattle.ltx_codec.specs.declared.file.Ltx.{Ltx}
use Rattle.txn_log.specs.declared.entry.Entry.{Entry}
use Rattle.txn_log.specs.Durable.{IsEncoding, IsLog, log_of}
use Rattle.txn_log.specs.Giving.{IsEncodingAt}
use Rattle.txn_log.specs.Kept.{LogFile, file_of}
use Rattle.txn_log.specs.Store.{files_in}
use Rattle.txn_log.proofs.Stores.{file_at, length-files_in}

pub encoding_at : (entries : List Entry) (f : Folder) (at : ℕ) (e : Entry) (encoding : List ℕ) → IsLog (files_in entries f) → at < length entries → e ≡ get_or entries at e → encoding ≡ bytes_of (f (LtxName e.min e.max))
    → IsEncodingAt (log_of (files_in entries f)) at encoding
encoding_at entries f at e encoding log within is read d =
    let file : LogFile = file_at f e in
    let inside : at < length (files_in entries f) = omega (arith, within, length-files_in entries f) in
    let same : get_or (files_in entries f) at file ≡ file = get_or-map (file_at f) entries at e file within ∙ ap (file_at f) (sym is) in
    let there : IsEncoding file.encoding = subst (λ (x : LogFile). IsEncoding x.encoding) same (log.encodings at file inside) in
    let one : get_or (log_of (files_in entries f)) at d ≡ file_of file.encoding =
    get_or-map (λ (x : LogFile). file_of x.encoding) (files_in entries f) at file d inside ∙ ap (λ (x : LogFile). file_of x.encoding) same in
    subst (λ (g : Ltx). ∥ IsLtx encoding g ∥₁) (sym one) (subst (λ (t : List ℕ). ∥ IsLtx t (file_of file.encoding) ∥₁) (sym read) there)
