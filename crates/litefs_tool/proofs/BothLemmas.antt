-- Options of two flags among words.
use Rattle.std.proofs.Common.{◌≡◌, ◌≢◌, ◌∙◌, ℕ, List, [], ◌∷◌, ◌++◌, get_or, codes, refl, sym, ap, subst, append-nil, append_assoc, arith}
use Rattle.litefs_tool.specs.Words.{AreApart, BeginsWithBoth, IsOption, SaysBoth, Words, apart, in_order, joined, turned}
use Rattle.litefs_tool.proofs.OptionLemmas.{NoneFound, cancel, first_of, longer}

abbrev pub tail_of : Words → Words
tail_of [] = []
tail_of (word ∷ words) = words

-- words begin with one option of a flag
pub option_once : (flag one other : List ℕ) (option another rest more : Words) → IsOption flag one option → IsOption flag other another
    → option ++ rest ≡ another ++ more → (one ≡ other) × (rest ≡ more)
option_once flag one other option another rest more (apart is _) (apart too _) e =
    let both : flag ∷ one ∷ rest ≡ flag ∷ other ∷ more = sym (ap (λ (l : Words). l ++ rest) is) ∙ e ∙ ap (λ (l : Words). l ++ more) too in
    (ap (λ l. first_of (tail_of l)) both, ap (λ l. tail_of (tail_of l)) both)
option_once flag one other option another rest more (apart is _) (joined too _) e =
    let both : flag ∷ one ∷ rest ≡ (flag ++ 61 ∷ other) ∷ more = sym (ap (λ (l : Words). l ++ rest) is) ∙ e ∙ ap (λ (l : Words). l ++ more) too in
    absurd (longer flag other (sym (ap first_of both)))
option_once flag one other option another rest more (joined is _) (apart too _) e =
    let both : (flag ++ 61 ∷ one) ∷ rest ≡ flag ∷ other ∷ more = sym (ap (λ (l : Words). l ++ rest) is) ∙ e ∙ ap (λ (l : Words). l ++ more) too in
    absurd (longer flag one (ap first_of both))
option_once flag one other option another rest more (joined is _) (joined too _) e =
    let both : (flag ++ 61 ∷ one) ∷ rest ≡ (flag ++ 61 ∷ other) ∷ more = sym (ap (λ (l : Words). l ++ rest) is) ∙ e ∙ ap (λ (l : Words). l ++ more) too in
    (cancel flag one other (ap first_of both), ap tail_of both)

-- an option is no empty list
pub option_some : (flag value : List ℕ) (option : Words) → IsOption flag value option → option ≢ []
option_some flag value option (apart is _) none = let no : [] ≡ flag ∷ value ∷ [] = sym none ∙ is in absurd (cc)
option_some flag value option (joined is _) none = let no : [] ≡ (flag ++ 61 ∷ value) ∷ [] = sym none ∙ is in absurd (cc)

-- options begin by their flag
begins : (flag value : List ℕ) (option rest : Words) → IsOption flag value option → (tail : List ℕ) × (first_of (option ++ rest) ≡ flag ++ tail)
begins flag value option rest (apart is _) = ([], ap (λ (l : Words). first_of (l ++ rest)) is ∙ sym (append-nil flag))
begins flag value option rest (joined is _) = (61 ∷ value, ap (λ (l : Words). first_of (l ++ rest)) is)

-- words don't begin with options of two flags
pub not_both : (first second one other : List ℕ) (option another rest more : Words) → AreApart first second
    → IsOption first one option → IsOption second other another → option ++ rest ≡ another ++ more → ⊥
not_both first second one other option another rest more apart_from is too e =
    let here = begins first one option rest is in
    let there = begins second other another more too in
    apart_from here.0 there.0 (sym here.1 ∙ ap first_of e ∙ there.1)

-- two splits of words that begin by an option each
resplit : (a b rest d f more options others : Words) → options ≡ a ++ b → others ≡ d ++ f → options ++ rest ≡ others ++ more
    → a ++ (b ++ rest) ≡ d ++ (f ++ more)
resplit a b rest d f more options others split parts e =
    sym (append_assoc a b rest) ∙ ap (λ (l : Words). l ++ rest) (sym split) ∙ e ∙ ap (λ (l : Words). l ++ more) parts ∙ append_assoc d f more

-- words begin with one pair of values of two flags
pub front_once : (first second one given other offered : List ℕ) (options others rest more : Words) → AreApart first second
    → SaysBoth first second one given options → SaysBoth first second other offered others → options ++ rest ≡ others ++ more
    → (one ≡ other) × (given ≡ offered) × (rest ≡ more)
front_once first second one given other offered options others rest more apart_from (in_order a b split is and) (in_order d f parts too also) e =
    let front = option_once first one other a d (b ++ rest) (f ++ more) is too (resplit a b rest d f more options others split parts e) in
    let back = option_once second given offered b f rest more and also front.1 in
    (front.0, back.0, back.1)
front_once first second one given other offered options others rest more apart_from (in_order a b split is and) (turned d f parts too also) e =
    absurd (not_both first second one offered a d (b ++ rest) (f ++ more) apart_from is too (resplit a b rest d f more options others split parts e))
front_once first second one given other offered options others rest more apart_from (turned a b split is and) (in_order d f parts too also) e =
    absurd (not_both first second other given d a (f ++ more) (b ++ rest) apart_from too is (sym (resplit a b rest d f more options others split parts e)))
front_once first second one given other offered options others rest more apart_from (turned a b split is and) (turned d f parts too also) e =
    let front = option_once second given offered a d (b ++ rest) (f ++ more) is too (resplit a b rest d f more options others split parts e) in
    let back = option_once first one other b f rest more and also front.1 in
    (back.0, front.0, back.1)

-- words say one pair of values of two flags
pub both_once : (first second one given other offered : List ℕ) (words : Words) → AreApart first second
    → SaysBoth first second one given words → SaysBoth first second other offered words → (one ≡ other) × (given ≡ offered)
both_once first second one given other offered words apart_from says too =
    let once = front_once first second one given other offered words words [] [] apart_from says too refl in
    (once.0, once.1)

-- the flags differ in their third byte
pub name_or_addr : AreApart (codes "--name") (codes "--addr")
name_or_addr front back e = let letters : 110 ≡ 97 = ap (λ l. get_or l 2 0) e in absurd (omega (arith, letters))

pub name_or_txid : AreApart (codes "--name") (codes "--txid")
name_or_txid front back e = let letters : 110 ≡ 116 = ap (λ l. get_or l 2 0) e in absurd (omega (arith, letters))

pub socket_or_name : AreApart (codes "--socket") (codes "--name")
socket_or_name front back e = let letters : 115 ≡ 110 = ap (λ l. get_or l 2 0) e in absurd (omega (arith, letters))

-- words that begin with an option of each of two flags
pub begins_in_order : (first second one other : List ℕ) (words option behind another rest : Words) → words ≡ option ++ behind → IsOption first one option
    → behind ≡ another ++ rest → IsOption second other another → BeginsWithBoth first second one other words rest
begins_in_order first second one other words option behind another rest split is parts too =
    (option ++ another, in_order option another refl is too, split ∙ ap (λ (l : Words). option ++ l) parts ∙ sym (append_assoc option another rest))

pub begins_turned : (first second one other : List ℕ) (words option behind another rest : Words) → words ≡ option ++ behind → IsOption second other option
    → behind ≡ another ++ rest → IsOption first one another → BeginsWithBoth first second one other words rest
begins_turned first second one other words option behind another rest split is parts too =
    (option ++ another, turned option another refl is too, split ∙ ap (λ (l : Words). option ++ l) parts ∙ sym (append_assoc option another rest))

-- words that begin with an option of the one flag, and not then with one of the other, don't begin with both
pub none_in_order : (first second value : List ℕ) (option behind words : Words) → AreApart first second → words ≡ option ++ behind
    → IsOption first value option → NoneFound second behind → (one other : List ℕ) (rest : Words) → BeginsWithBoth first second one other words rest → ⊥
none_in_order first second value option behind words apart_from split is none one other rest begins_with = go begins_with.0 begins_with.1 begins_with.2
  where
    joined_at : (options a b : Words) → options ≡ a ++ b → words ≡ options ++ rest → option ++ behind ≡ a ++ (b ++ rest)
    joined_at options a b parts all = sym split ∙ all ∙ ap (λ (l : Words). l ++ rest) parts ∙ append_assoc a b rest

    go : (options : Words) → SaysBoth first second one other options → words ≡ options ++ rest → ⊥
    go options (in_order a b parts too also) all =
        let same : behind ≡ b ++ rest = (option_once first value one option a behind (b ++ rest) is too (joined_at options a b parts all)).1 in
        none other b rest also same
    go options (turned a b parts too also) all =
        not_both first second value other option a behind (b ++ rest) apart_from is too (joined_at options a b parts all)

-- and the other way round, where they don't begin with the first flag
pub none_turned : (first second value : List ℕ) (option behind words : Words) → words ≡ option ++ behind → IsOption second value option
    → NoneFound first behind → NoneFound first words → (one other : List ℕ) (rest : Words) → BeginsWithBoth first second one other words rest → ⊥
none_turned first second value option behind words split is none neither one other rest begins_with = go begins_with.0 begins_with.1 begins_with.2
  where
    split_at : (options a b : Words) → options ≡ a ++ b → words ≡ options ++ rest → words ≡ a ++ (b ++ rest)
    split_at options a b parts all = all ∙ ap (λ (l : Words). l ++ rest) parts ∙ append_assoc a b rest

    go : (options : Words) → SaysBoth first second one other options → words ≡ options ++ rest → ⊥
    go options (in_order a b parts too also) all = neither one a (b ++ rest) too (split_at options a b parts all)
    go options (turned a b parts too also) all =
        let same : behind ≡ b ++ rest =
        (option_once second value other option a behind (b ++ rest) is too (sym split ∙ split_at options a b parts all)).1
        in
        none one b rest also same

pub none_at_all : (first second : List ℕ) (words : Words) → NoneFound first words → NoneFound second words → (one other : List ℕ) (rest : Words)
    → BeginsWithBoth first second one other words rest → ⊥
none_at_all first second words neither nor one other rest begins_with = go begins_with.0 begins_with.1 begins_with.2
  where
    split_at : (options a b : Words) → options ≡ a ++ b → words ≡ options ++ rest → words ≡ a ++ (b ++ rest)
    split_at options a b parts all = all ∙ ap (λ (l : Words). l ++ rest) parts ∙ append_assoc a b rest

    go : (options : Words) → SaysBoth first second one other options → words ≡ options ++ rest → ⊥
    go options (in_order a b parts too also) all = neither one a (b ++ rest) too (split_at options a b parts all)
    go options (turned a b parts too also) all = nor other a (b ++ rest) too (split_at options a b parts all)

-- two options and nothing behind them are all of the words
pub both_alone : (first second one other : List ℕ) (words rest : Words) → BeginsWithBoth first second one other words rest → rest ≡ []
    → SaysBoth first second one other words
both_alone first second one other words rest begins_with none =
    let same : words ≡ begins_with.0 = begins_with.2 ∙ ap (λ (l : Words). begins_with.0 ++ l) none ∙ append-nil begins_with.0 in
    subst (SaysBoth first second one other) (sym same) begins_with.1

-- and with something behind them they aren't
pub both_and_more : (first second one other : List ℕ) (words rest : Words) → AreApart first second → BeginsWithBoth first second one other words rest
    → (rest ≡ [] → ⊥) → (given offered : List ℕ) → SaysBoth first second given offered words → ⊥
both_and_more first second one other words rest apart_from begins_with some given offered says =
    some (front_once first second one other given offered begins_with.0 words rest [] apart_from begins_with.1 says
    (sym begins_with.2 ∙ sym (append-nil words))).2

-- words that don't begin with both aren't both
pub both_nowhere : (first second : List ℕ) (words : Words) → ((one other : List ℕ) (rest : Words) → BeginsWithBoth first second one other words rest → ⊥)
    → (one other : List ℕ) → SaysBoth first second one other words → ⊥
both_nowhere first second words none one other says = none one other [] (words, says, sym (append-nil words))
