-- What is computed at each class, or at each number below a bound, holds at any.
use Rattle.std.proofs.Common.{◌≡◌, ℕ, zero, suc, ◌<◌, Bool, true, false, not, ◌&&◌, ◌||◌, refl}
use Rattle.std.specs.List.{AllByRecursion, list_all}
use Rattle.std.proofs.lemmas.Bool.Decides.{Decides-below_and}
use Rattle.std.proofs.ByRecursion.{Decides-by_and}
use Rattle.codes.specs.declared.classes.Class.{Class}
use Rattle.codes.specs.declared.classes.Class.TheVariants.{Ctrl, Non, Cons, Lv, Fv1, Fv2, Fv3, Bv1, Bv2, Bd, Tone, Ad1, Ad2, Ad3, Av1, Av2, Av3}
use Rattle.codes.specs.Classes.{classes}

pub every : (P : Class → Type 0) → AllByRecursion P classes → (c : Class) → P c
every P h Ctrl = h.0
every P h Non = h.1.0
every P h Cons = h.1.1.0
every P h Lv = h.1.1.1.0
every P h Fv1 = h.1.1.1.1.0
every P h Fv2 = h.1.1.1.1.1.0
every P h Fv3 = h.1.1.1.1.1.1.0
every P h Bv1 = h.1.1.1.1.1.1.1.0
every P h Bv2 = h.1.1.1.1.1.1.1.1.0
every P h Bd = h.1.1.1.1.1.1.1.1.1.0
every P h Tone = h.1.1.1.1.1.1.1.1.1.1.0
every P h Ad1 = h.1.1.1.1.1.1.1.1.1.1.1.0
every P h Ad2 = h.1.1.1.1.1.1.1.1.1.1.1.1.0
every P h Ad3 = h.1.1.1.1.1.1.1.1.1.1.1.1.1.0
every P h Av1 = h.1.1.1.1.1.1.1.1.1.1.1.1.1.1.0
every P h Av2 = h.1.1.1.1.1.1.1.1.1.1.1.1.1.1.1.0
every P h Av3 = h.1.1.1.1.1.1.1.1.1.1.1.1.1.1.1.1.0

abbrev pub all_classes : (Class → Bool) → Bool
all_classes p = list_all p classes

pub at_class : (p : Class → Bool) → all_classes p ≡ true → (c : Class) → p c ≡ true
at_class p t =
    every (λ c. p c ≡ true)
    ((Decides-by_and p (λ c. p c ≡ true) (list_all p) (λ _. ((λ h. h), (λ h. h))) refl (λ _ _. refl) classes).0 t)

pub at_classes : (p : Class → Class → Bool) → all_classes (λ x. all_classes (p x)) ≡ true → (x y : Class) → p x y ≡ true
at_classes p t x = at_class (p x) (at_class (λ z. all_classes (p z)) t x)

abbrev pub all_below : ℕ → (ℕ → Bool) → Bool
all_below zero p = true
all_below (suc n) p = p n && all_below n p

pub at_below : (n : ℕ) (p : ℕ → Bool) → all_below n p ≡ true → (k : ℕ) → k < n → p k ≡ true
at_below n p t = (Decides-below_and p (λ k. p k ≡ true) (λ m. all_below m p) (λ _. ((λ h. h), (λ h. h))) refl (λ _. refl) n).0 t

-- a test of the form 'not b, or t' that holds, where b does
pub from_or : (b t : Bool) → b ≡ true → (not b || t) ≡ true → t ≡ true
from_or true t e h = h
from_or false t e h = cc
