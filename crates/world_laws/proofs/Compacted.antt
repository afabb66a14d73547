-- One file that stands for several of a log: it is of the tree where they are.
use Rattle.std.proofs.Common.{◌≡◌, ℕ, ◌-◌, Some, List, [], ◌∷◌, ◌++◌, length, get_or, inl, inr, refl, sym, ap, subst, ◌∙◌, arith}
use Rattle.std.specs.List.{All, Contains, slice_get}
use Rattle.std.proofs.lemmas.List.Elements.{All-head, All-tail, Contains-append_left, Contains-append_right, Contains-get_or}
use Rattle.std.proofs.lemmas.Option.{same_Some}
use Rattle.lf_base.specs.declared.pos.Pos.{Pos}
use Rattle.lf_sqlite_pages.specs.Image.{DatabaseImage, SameImage}
use Rattle.lf_sqlite_pages.specs.Apply.{apply}
use Rattle.lf_sqlite_pages.specs.Change.{PageChange, written}
use Rattle.lf_sqlite_pages.specs.LockPage.{lock_page_of}
use Rattle.ltx_codec.specs.declared.file.Ltx.{Ltx}
use Rattle.ltx_codec.specs.declared.header.Header.{Header}
use Rattle.ltx_codec.specs.Format.{IsFile}
use Rattle.ltx_codec.specs.Positions.{after, before}
use Rattle.ltx_codec.specs.Sums.{image_sum}
use Rattle.ltx_compact.specs.Application.{apply_all}
use Rattle.ltx_compact.specs.Compaction.{Compacts, page_of}
use Rattle.ltx_compact.specs.Joining.{AllJoin}
use Rattle.ltx_compact.proofs.Applied.{IsSome-page_of}
use Rattle.ltx_compact.proofs.Made.{does, holds, sizes}
use Rattle.world_laws.specs.Answers.{IsRunOf}
use Rattle.world_laws.specs.Lineage.{IsOfTree, Lineage, Names, Suits, image_of}
use Rattle.world_laws.specs.Premises.{OneImagePerPosition}
use Rattle.world_laws.specs.Safe.{IsSendable}
use Rattle.world_laws.specs.Store.{LeadTo}
use Rattle.world_laws.proofs.Images.{apply-same}
use Rattle.world_laws.proofs.Lineages.{Names-next}

-- a log's back leads on
LeadTo-back : (start end : Pos) (front files : List Ltx) → LeadTo start (front ++ files) end → (from : Pos) × LeadTo from files end
LeadTo-back start end [] files leads = (start, leads)
LeadTo-back start end (f ∷ fs) files leads = LeadTo-back (after f) end fs files leads.1

-- and so does its front
LeadTo-front : (start end : Pos) (files behind : List Ltx) → LeadTo start (files ++ behind) end → (to : Pos) × LeadTo start files to
LeadTo-front start end [] behind leads = (start, refl)
LeadTo-front start end (f ∷ fs) behind leads = let more = LeadTo-front (after f) end fs behind leads.1 in (more.0, (leads.0, more.1))

-- files of a log lead from one position to another
pub run-leads : (start end : Pos) (log files : List Ltx) → IsRunOf log files → LeadTo start log end → (from to : Pos) × LeadTo from files to
run-leads start end log files run leads =
    let front = LeadTo-front start end (run.front ++ files) run.behind (subst (λ (l : List Ltx). LeadTo start l end) run.is leads) in
    let back = LeadTo-back start front.0 run.front files front.1 in
    (back.0, front.0, back.1)

-- and stand in it
pub run-contains : (log files : List Ltx) → IsRunOf log files → (file : Ltx) → Contains files file → Contains log file
run-contains log files run file here =
    subst (λ (l : List Ltx). Contains l file) (sym run.is)
    (Contains-append_left (run.front ++ files) run.behind file (Contains-append_right run.front files file here))

-- files lead to where the last of them does
last-leads : (start end : Pos) (file : Ltx) (files : List Ltx) (last : Ltx) → LeadTo start (file ∷ files) end → slice_get (file ∷ files) (length files) ≡ Some last → after last ≡ end
last-leads start end file [] last leads is = ap after (sym (same_Some file last is)) ∙ leads.1
last-leads start end file (f ∷ fs) last leads is = last-leads (after file) end f fs last leads.1 is

-- the lineage that a file goes on from has the pages of a named position that it follows
from-same : (tree : List Lineage) (position : Pos) (image : DatabaseImage) (file : Ltx) → OneImagePerPosition tree → Names tree position image → (of : IsOfTree tree file) →
    before file ≡ position → SameImage (image_of of.from) image
from-same tree position image file one named of joins =
    one of.from named.lineage of.from_stands named.stands (of.from_at ∙ joins ∙ sym named.position_is) ∙ named.image_is

-- files of the tree lead from a named position to one, whose sum is that of the image after them
Names-all : (tree : List Lineage) (start end : Pos) (image : DatabaseImage) (file : Ltx) (files : List Ltx) → OneImagePerPosition tree → Names tree start image →
    All (IsOfTree tree) (file ∷ files) → LeadTo start (file ∷ files) end → Names tree end (apply_all image (file ∷ files)) × (image_sum (apply_all image (file ∷ files)) ≡ end.sum)
unfolding apply_all
Names-all tree start end image f [] one named of leads =
    let here : IsOfTree tree f = All-head (IsOfTree tree) f [] of in
    let from : SameImage (image_of here.from) image = from-same tree start image f one named here leads.0 in (
      subst (λ (p : Pos). Names tree p (apply image f.change)) leads.1 (Names-next tree start image f one named here leads.0),
      ap image_sum (sym (apply-same (image_of here.from) image f.change from)) ∙ here.sum ∙ ap (λ (p : Pos). p.sum) leads.1,
    )
Names-all tree start end image f (g ∷ gs) one named of leads =
    let here : IsOfTree tree f = All-head (IsOfTree tree) f (g ∷ gs) of in
    Names-all tree (after f) end (apply image f.change) g gs one (Names-next tree start image f one named here leads.0) (All-tail (IsOfTree tree) f (g ∷ gs) of) leads.1

-- of a list that begins with a file that can be applied to pages, the one file can be
suits-run : (pages : List (List ℕ)) (f : Ltx) (fs : List Ltx) (file : Ltx) → AllJoin (f ∷ fs) → All IsFile (f ∷ fs) → Compacts (f ∷ fs) file → Suits pages f.change → Suits pages file.change
suits-run pages f fs file joined sound made suits =
    let last_size : file.change.page_size ≡ made.last.header.page_size = ap (λ (c : PageChange). c.page_size) made.change in
    let size : f.change.page_size ≡ file.change.page_size = All-head (λ g. g.change.page_size ≡ made.last.header.page_size) f fs (sizes (f ∷ fs) joined sound made.last made.is_last) ∙ sym last_size in
    elim suits [
      | inl all ↦ inl (subst (λ (s : ℕ). All (λ page. length page ≡ s) pages) size all)
      | inr every ↦ inr (λ n above within data_page.
          let held : written file.change.pages n ≡ page_of (f ∷ fs) n = holds (f ∷ fs) joined sound file made n above within data_page in
          rw held (IsSome-page_of f fs n every above (λ lock. data_page (lock ∙ ap lock_page_of size))))
    ]

-- the one file begins where the first does, and leads to where the last does
begins-as : (f : Ltx) (fs : List Ltx) (file : Ltx) → Compacts (f ∷ fs) file → before f ≡ before file
begins-as f fs file made =
    let start : Header → Pos = λ h. record { txid = h.min - 1; sum = h.pre } in
    ap before (same_Some f made.first made.is_first) ∙ sym (ap start made.header)

ends-as : (start end : Pos) (f : Ltx) (fs : List Ltx) (file : Ltx) → Compacts (f ∷ fs) file → LeadTo start (f ∷ fs) end → end ≡ after file
ends-as start end f fs file made leads =
    let count : length (f ∷ fs) - 1 ≡ length fs = omega arith in
    let is_last : slice_get (f ∷ fs) (length fs) ≡ Some made.last = subst (λ (n : ℕ). slice_get (f ∷ fs) n ≡ Some made.last) count made.is_last in
    let at : Header → Pos = λ h. record { txid = h.max; sum = made.last.post } in
    sym (last-leads start end f fs made.last leads is_last)
    ∙ sym (ap at made.header)
    ∙ sym (ap (λ (sum : ℕ). let p : Pos = record { txid = file.header.max; sum = sum } in p) made.post)

-- the one file of files that stand in a log leads where they do
run-of_tree : (tree : List Lineage) (start end : Pos) (f : Ltx) (fs : List Ltx) (file : Ltx) → OneImagePerPosition tree → All (IsOfTree tree) (f ∷ fs) → All IsFile (f ∷ fs) →
    LeadTo start (f ∷ fs) end → AllJoin (f ∷ fs) → Compacts (f ∷ fs) file → IsOfTree tree file
run-of_tree tree start end f fs file one of sound leads joined made =
    let first : IsOfTree tree f = All-head (IsOfTree tree) f fs of in
    let named : Names tree (before f) (image_of first.from) = record { lineage = first.from; stands = first.from_stands; position_is = first.from_at; image_is = refl } in
    let led = Names-all tree (before f) end (image_of first.from) f fs one named of (refl, leads.1) in
    let same : apply (image_of first.from) file.change ≡ apply_all (image_of first.from) (f ∷ fs) = (does (f ∷ fs) joined sound file made).same (image_of first.from) in
    let ends : end ≡ after file = ends-as start end f fs file made leads in
    record {
      from = first.from;
      to = led.0.lineage;
      from_stands = first.from_stands;
      to_stands = led.0.stands;
      from_at = first.from_at ∙ begins-as f fs file made;
      to_at = led.0.position_is ∙ ends;
      suits = suits-run (image_of first.from).pages f fs file joined sound made first.suits;
      leads = led.0.image_is ∙ ap (λ (i : DatabaseImage). i.pages) (sym same);
      sum = ap image_sum same ∙ led.1 ∙ ap (λ (p : Pos). p.sum) ends;
    }

-- and it may be sent where each of them may
pub run-sendable : (tree : List Lineage) (start end : Pos) (log files : List Ltx) (file : Ltx) → OneImagePerPosition tree → ((f : Ltx) → Contains log f → IsSendable tree f) → LeadTo start log end →
    IsRunOf log files → AllJoin files → Compacts files file → IsFile file → IsSendable tree file
run-sendable tree start end log [] file one may leads run joined made sound = absurd (omega (arith, joined.some))
run-sendable tree start end log (f ∷ fs) file one may leads run joined made sound =
    let led = run-leads start end log (f ∷ fs) run leads in
    let each : All (IsSendable tree) (f ∷ fs) = λ k d within. may (get_or (f ∷ fs) k d) (run-contains log (f ∷ fs) run (get_or (f ∷ fs) k d) (Contains-get_or (f ∷ fs) k d within)) in
    record {
      of_tree = run-of_tree tree led.0 led.1 f fs file one (λ k d within. (each k d within).of_tree) (λ k d within. (each k d within).sound) led.2 joined made;
      sound = sound;
    }

-- a run that begins at a position has a file of the log there
pub run-begins : (log files : List Ltx) (file : Ltx) → IsRunOf log files → AllJoin files → Compacts files file → (first : Ltx) × Contains log first × (before first ≡ before file)
run-begins log [] file run joined made = absurd (omega (arith, joined.some))
run-begins log (f ∷ fs) file run joined made = (f, run-contains log (f ∷ fs) run f (Contains-get_or (f ∷ fs) 0 f (omega arith)), begins-as f fs file made)
