-- URLs read one after another.
use Rattle.std.proofs.Common.{◌≡◌, ℕ, ◌≤◌, ◌<◌, List, [], ◌∷◌, ◌++◌, length, Result, refl, sym, ap, subst, ◌∙◌, arith}
use Rattle.toml.specs.Data.{Data, Items, no_items, item, array}
use Rattle.toml.specs.View.{items_view, view}
use Rattle.toml.specs.declared.value.Value.{Value}
use Rattle.node_settings.specs.declared.settings_fault.SettingsFault.{SettingsFault}
use Rattle.node_settings.specs.Answers.{Reads}
use Rattle.node_settings.specs.Values.{AreUrls, IsUrls, IsUrlText}
use Rattle.node_settings.proofs.Answering.{both}
use Rattle.node_settings.proofs.OneConfiguration.{one_url}

-- the items are URLs, which stand behind those before
abbrev pub Adds : Items → List (List ℕ) → List (List ℕ) → Type 0
Adds items before all = (more : List (List ℕ)) × AreUrls items more × (all ≡ before ++ more)

append_one : (before : List (List ℕ)) (u : List ℕ) (more : List (List ℕ)) → (before ++ u ∷ []) ++ more ≡ before ++ u ∷ more
append_one [] u more = refl
append_one (v ∷ before) u more = ap (λ (l : List (List ℕ)). v ∷ l) (append_one before u more)

one_more : (d : Data) (items : Items) (u : List ℕ) (before all : List (List ℕ)) → IsUrlText d u → Adds items (before ++ u ∷ []) all → Adds (item d items) before all
one_more d items u before all is h = (u ∷ h.0, (is, h.1), h.2 ∙ append_one before u h.0)

one_less : (d : Data) (items : Items) (u : List ℕ) (before all : List (List ℕ)) → IsUrlText d u → Adds (item d items) before all → Adds items (before ++ u ∷ []) all
one_less d items u before all is ([], are, e) = absurd are
one_less d items u before all is (v ∷ more, are, e) =
    let same = one_url d v u are.0 is in
    (more, are.1, e ∙ ap (λ (w : List ℕ). before ++ w ∷ more) same ∙ sym (append_one before u more))

-- where the items are URLs, the first one is
pub first_is : (d : Data) (items : Items) (before all : List (List ℕ)) → Adds (item d items) before all → (u : List ℕ) × IsUrlText d u
first_is d items before all ([], are, e) = absurd are
first_is d items before all (u ∷ more, are, e) = (u, are.0)

-- one URL, and then the others
pub then_others : (d : Data) (items : Items) (u : List ℕ) (before : List (List ℕ)) (r : Result (List (List ℕ)) SettingsFault) → IsUrlText d u
    → Reads (Adds items (before ++ u ∷ [])) r → Reads (Adds (item d items) before) r
then_others d items u before r is h =
    both (Adds items (before ++ u ∷ [])) (Adds (item d items) before) r (λ all x. one_more d items u before all is x) (λ all x. one_less d items u before all is x) h

-- as many URLs as there are values
pub as_many : (values : List Value) (urls : List (List ℕ)) → AreUrls (items_view values) urls → length urls ≡ length values
as_many [] [] are = refl
as_many [] (u ∷ urls) are = absurd are
as_many (v ∷ values) [] are = absurd are
as_many (v ∷ values) (u ∷ urls) are = let more = as_many values urls are.1 in omega arith

-- the URLs of an array of values
pub urls_of : (d : Data) (values : List Value) (urls : List (List ℕ)) → d ≡ array (items_view values) → IsUrls d urls → AreUrls (items_view values) urls
urls_of d values urls e is =
    let arrays : array is.items ≡ array (items_view values) = sym is.is_array ∙ e in
    let same : is.items ≡ items_view values = cc in
    subst (λ (i : Items). AreUrls i urls) same is.each

-- all URLs of an array that has one at least and sixteen at the most
pub all_of : (d : Data) (values : List Value) (r : Result (List (List ℕ)) SettingsFault) → d ≡ array (items_view values) → 0 < length values → length values ≤ 16
    → Reads (Adds (items_view values) []) r → Reads (IsUrls d) r
all_of d values r e some few h = both (Adds (items_view values) []) (IsUrls d) r to from h
  where
    to : (urls : List (List ℕ)) → Adds (items_view values) [] urls → IsUrls d urls
    to urls x =
        let count = as_many values x.0 x.1 in
        subst (λ (u : List (List ℕ)). IsUrls d u) (sym x.2) (record { items = items_view values; is_array = e; each = x.1; some = omega (arith, count, some); few = omega (arith, count, few) })

    from : (urls : List (List ℕ)) → IsUrls d urls → Adds (items_view values) [] urls
    from urls is = (urls, urls_of d values urls e is, refl)
