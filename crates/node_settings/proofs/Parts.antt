-- A text has one last colon, so an address has one host and one port.
use Rattle.std.proofs.Common.{◌≡◌, ◌≢◌, ℕ, ◌∷◌, ◌<◌, inl, inr, List, [], ◌++◌, length, get_or, All, IsTrue, IsUtf8, codes, refl, sym, ap, ◌∙◌, subst, arith}
use Rattle.std.proofs.lemmas.Grind.{common_steps}
use Rattle.std.proofs.lemmas.Bool.Decides.{nat_tests}
use Rattle.std.proofs.lemmas.Fmt.{IsAscii-from_digits}
use Rattle.std.proofs.lemmas.List.Elements.{All-cons, All-nil, All-head, All-tail}
use Rattle.std.proofs.lemmas.Str.{IsUtf8-from_ascii}
use Rattle.std.proofs.lemmas.Str.Parse.{digit_from_value}
use Rattle.std.specs.Str.Parse.{AllDigits}
use Rattle.node_settings.specs.Address.{is_host_byte, IsHost, IsPort, IsAddress, IsUrl}

-- a byte that is no colon
abbrev pub HasNoColon : List ℕ → Type 0
HasNoColon bytes = All (λ b. b ≢ 58) bytes

pub has_colon : (host port : List ℕ) → HasNoColon (host ++ codes ":" ++ port) → ⊥
has_colon [] port none = All-head (λ b. b ≢ 58) 58 port none refl
has_colon (b ∷ host) port none = has_colon host port (All-tail (λ b. b ≢ 58) b (host ++ codes ":" ++ port) none)

pub one_split : (h p g q : List ℕ) → HasNoColon p → HasNoColon q → h ++ codes ":" ++ p ≡ g ++ codes ":" ++ q → (h ≡ g) × (p ≡ q)
one_split [] p [] q np nq e = (refl, cc)
one_split [] p (b ∷ g) q np nq e = absurd (has_colon g q (subst HasNoColon (cc) np))
one_split (b ∷ h) p [] q np nq e = absurd (has_colon h p (subst HasNoColon (cc) nq))
one_split (b ∷ h) p (d ∷ g) q np nq e = let more = one_split h p g q np nq (cc) in (cc, more.1)

digits_no_colon : (ds : List ℕ) → AllDigits 10 ds → HasNoColon ds
digits_no_colon [] all = All-nil _
digits_no_colon (d ∷ ds) all = let r = digit_from_value d all.0 in All-cons (λ b. b ≢ 58) d ds (λ e. omega arith) (digits_no_colon ds all.1)

pub port_no_colon : (port : List ℕ) → IsPort port → HasNoColon port
port_no_colon port is = digits_no_colon port is.0.1

pub address_parts : (text host port : List ℕ) → text ≡ host ++ codes ":" ++ port → HasNoColon port → IsAddress text → IsHost host × IsPort port
address_parts text host port e none is =
    let same = one_split host port is.host is.port none (port_no_colon is.port is.is_port) (sym e ∙ is.parts) in
    (subst IsHost (sym same.0) is.is_host, subst IsPort (sym same.1) is.is_port)

pub no_address : (text : List ℕ) → HasNoColon text → IsAddress text → ⊥
no_address text none is = has_colon is.host is.port (subst HasNoColon is.parts none)

pub port_text : (port : List ℕ) → IsPort port → IsUtf8 port
port_text port is = IsUtf8-from_ascii port (IsAscii-from_digits port is.0.1)

no_name_colon : (b : ℕ) → IsTrue (is_host_byte b) → b ≢ 58
no_name_colon b h e = grind (arith, nat_tests, common_steps, e)

no_first : (b : ℕ) (rest : List ℕ) → IsHost (b ∷ rest) → b ≢ 58
no_first b rest (inl name) e = no_name_colon b (All-head (λ b. IsTrue (is_host_byte b)) b rest name) e
no_first b rest (inr bracketed) e = let first : b ≡ 91 = cc (bracketed.1) in omega arith

pub behind : (host port address : List ℕ) → address ≡ host ++ codes ":" ++ port → 0 < length host → IsHost host → get_or address 0 0 ≢ 58
behind [] port address e some is first = absurd (omega arith)
behind (b ∷ host) port address e some is first = let f : get_or address 0 0 ≡ b = ap (λ (l : List ℕ). get_or l 0 0) e in no_first b host is (sym f ∙ first)

-- an address that doesn't begin with the colon has a host
pub some_host : (text host port : List ℕ) → text ≡ host ++ codes ":" ++ port → get_or text 0 0 ≢ 58 → 0 < length host
some_host text [] port e first = absurd (first (ap (λ (l : List ℕ). get_or l 0 0) e))
some_host text (b ∷ host) port e first = omega arith

-- an address behind `http://`, and it does not begin with the colon
pub url_address : (url address : List ℕ) → url ≡ codes "http://" ++ address → IsUrl url → IsAddress address × (get_or address 0 0 ≢ 58)
url_address url address e is =
    let same : address ≡ is.host ++ codes ":" ++ is.port = cc (e, is.parts) in
    (record { host = is.host; port = is.port; parts = same; is_host = is.is_host; is_port = is.is_port }, behind is.host is.port address same is.some is.is_host)
