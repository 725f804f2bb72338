-- A text code is a byte: no list has a number from 256 on.
use Rattle.std.proofs.Common.{◌≡◌, ℕ, ◌<◌, ◌≤◌, Bool, true, false, not, ◌&&◌, ltb, leb, List, [], ◌∷◌, refl, ap, ⊎_elim, arith}
use Rattle.std.proofs.lemmas.Bool.{and_left, and_parts, and_right, both_ways, cases_lt, lt-leb, ltb-true, or_from}
use Rattle.codes.specs.declared.classes.Class.{Class}
use Rattle.codes.specs.declared.classes.Class.TheVariants.{Ctrl}
use Rattle.codes.specs.Classes.{among, class_of, first_with, is_control, is_text, is_unused, lists}

-- every range ends below 256
abbrev low : List (ℕ × ℕ) → Bool
low [] = true
low (r ∷ rs) = ltb r.1 256 && low rs

abbrev all_low : List (Class × List (ℕ × ℕ)) → Bool
all_low [] = true
all_low (l ∷ ls) = low l.1 && all_low ls

in_none : (c : ℕ) (rs : List (ℕ × ℕ)) → 256 ≤ c → low rs ≡ true → among c rs ≡ false
in_none c [] h e = refl
in_none c (r ∷ rs) h e =
    let parts = and_parts (ltb r.1 256) (low rs) e in
    or_from _ _ (and_right (leb r.0 c) _ (lt-leb c r.1 (omega (arith, ltb-true r.1 256 parts.0)))) (in_none c rs h parts.1)

no_class : (c : ℕ) (ls : List (Class × List (ℕ × ℕ))) → 256 ≤ c → all_low ls ≡ true → first_with c ls ≡ Ctrl
no_class c [] h e = refl
no_class c (l ∷ ls) h e =
    let parts = and_parts (low l.1) (all_low ls) e in
    let none = in_none c l.1 h parts.0 in
    rw none (no_class c ls h parts.1)

no_text : (c : ℕ) → 256 ≤ c → is_text c ≡ false
unfolding is_text class_of
no_text c h = and_left _ (not (is_unused c)) (ap (λ k. not (is_control k)) (no_class c lists h refl))

pub text_below_256 : (c : ℕ) → is_text c ≡ true → c < 256
text_below_256 c e = ⊎_elim (λ l. l) (λ h. absurd (both_ways (is_text c) (no_text c h) e)) (cases_lt c 256)
