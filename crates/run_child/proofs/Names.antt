-- The name of a lock's file.
use Rattle.std.proofs.Common.{◌≡◌, ℕ, ◌+◌, ◌<◌, ◌≤◌, ◌==◌, ◌&&◌, Bool, true, false, List, ◌++◌, length, refl, ◌∙◌, arith}
use Rattle.std.specs.Prelude.{IsTrue, codes, nat_le, not}
use Rattle.std.specs.List.{list_any}
use Rattle.std.proofs.lemmas.Grind.{common_steps}
use Rattle.std.proofs.lemmas.Bool.{le-leb, ne_eqb}
use Rattle.std.proofs.lemmas.Bool.Decides.{nat_tests}
use Rattle.std.proofs.lemmas.List.{length-append}
use Rattle.std.proofs.lemmas.List.Elements.{All-from_get_or, All-weaker}
use Rattle.std.proofs.lemmas.List.Folds.{list_any-append, list_any_none}
use Rattle.fuse_msgs.specs.Names.{is_name}
use Rattle.lf_base.specs.Name.{IsName, is_name_byte}
use Rattle.run_child.specs.Requests.{lock_name}

above_zero : (b : ℕ) → IsTrue (is_name_byte b) → 0 < b
above_zero b h = grind (arith, nat_tests, common_steps)

not_zero : (b : ℕ) → IsTrue (is_name_byte b) → (b == 0) ≡ false
not_zero b h = let some : 0 < b = above_zero b h in ne_eqb b 0 (λ e. omega (arith, e, some))

-- no byte of a name is zero
no_zero : (name : List ℕ) → IsName name → list_any (λ b. b == 0) name ≡ false
no_zero name h = list_any_none (λ b. b == 0) name (All-weaker (λ b. IsTrue (is_name_byte b)) (λ b. (b == 0) ≡ false) not_zero name
    (All-from_get_or (λ b. IsTrue (is_name_byte b)) name 0 h.allowed))

fits_by : (n : ℕ) (any : Bool) → 1 ≤ n → n ≤ 80 → any ≡ false → IsTrue (nat_le 1 n && nat_le n 80 && not any)
fits_by n any low high e = rw (le-leb 1 n low) (rw (le-leb n 80 high) (rw e refl))

pub lock_name_fits : (name : List ℕ) → IsName name → IsTrue (is_name (lock_name name))
lock_name_fits name h =
    let any : list_any (λ b. b == 0) (lock_name name) ≡ false = list_any-append (λ b. b == 0) name (codes "-lock") ∙ rw (no_zero name h) refl in
    let len : length (lock_name name) ≡ length name + 5 = length-append name (codes "-lock") in
    fits_by (length (lock_name name)) (list_any (λ b. b == 0) (lock_name name)) (omega (arith, len)) (omega (arith, len, h.fits.1)) any
