-- The width of a string, counted in one pass, for any kind of code that tells its class.
use Rattle.std.proofs.Common.{◌≡◌, ℕ, ◌+◌, ◌<◌, Bool, true, false, cond, not, ◌&&◌, List, [], ◌∷◌, length, get_or, drop, sym, refl, ap, ◌∙◌, arith}
use Rattle.std.proofs.lemmas.List.{at_drop_more}
use Rattle.std.proofs.lemmas.Bool.{not-true}
use Rattle.codes.specs.declared.classes.Class.{Class}
use Rattle.codes.specs.declared.classes.Class.TheVariants.{Ctrl}
use Rattle.codes.specs.Classes.{is_control}
use Rattle.codes.specs.Verdicts.{class_verdict, letter_at}
use Rattle.codes.proofs.Every.{at_class}
use Rattle.cells.specs.Runs.{joins, into, runs, first_run, is_cell, cells, width_of}
use Rattle.cells.proofs.Fronts.{led, first_cell}

-- nothing joins a control code, so the start of a string may count as one
pub none_joins_control : (x : Class) → joins Ctrl x ≡ false
unfolding joins class_verdict letter_at
none_joins_control x = not-true (joins Ctrl x) (at_class (λ y. not (joins Ctrl y)) refl x)

abbrev pub one : Bool → ℕ
one b = cond b 1 0

module _ {X : Type 0} (k : X → Class) where
  -- how many cells begin in a string that stands after a code of class b
  abbrev pub begun : Class → List X → ℕ
  begun b [] = 0
  begun b (c ∷ cs) = one (not (joins b (k c)) && not (is_control (k c))) + begun (k c) cs

  counted : (b : Bool) (r : List X) (rs : List (List X)) → length (cond b (r ∷ rs) rs) ≡ one b + length rs
  counted true r rs = omega arith
  counted false r rs = omega arith

  into_counted : (c : X) (rs : List (List X)) (n : ℕ) → length (cells k rs) ≡ one (is_cell k (first_run rs)) + n → length (cells k (into c rs)) ≡ one (not (is_control (k c))) + n
  into_counted c [] n e = counted (not (is_control (k c))) (c ∷ []) [] ∙ ap (λ m. one (not (is_control (k c))) + m) (omega arith)
  into_counted c (r ∷ rs) n e =
      let same : length (cells k rs) ≡ n = omega (arith, counted (is_cell k r) r (cells k rs)) in
      counted (not (is_control (k c))) (c ∷ r) (cells k rs) ∙ ap (λ m. one (not (is_control (k c))) + m) same

  led_counted : (b : Bool) (c d : X) (rs : List (List X)) (n : ℕ) → is_cell k (first_run rs) ≡ not (is_control (k d)) → length (cells k rs) ≡ one (not (is_control (k d))) + n → length (cells k (led b c rs)) ≡ one (not (is_control (k c))) + (one (not b && not (is_control (k d))) + n)
  led_counted true c d rs n f e =
      into_counted c rs n (e ∙ ap (λ b. one b + n) (sym f)) ∙ ap (λ m. one (not (is_control (k c))) + m) (omega arith)
  led_counted false c d rs n f e =
      counted (not (is_control (k c))) (c ∷ []) (cells k rs) ∙ ap (λ m. one (not (is_control (k c))) + m) e

  width_begun : (c : X) (s : List X) → width_of k (c ∷ s) ≡ one (not (is_control (k c))) + begun (k c) s
  width_begun c [] = counted (not (is_control (k c))) (c ∷ []) []
  width_begun c (d ∷ s) = led_counted (joins (k c) (k d)) c d (runs k (d ∷ s)) (begun (k d) s) (first_cell k d s) (width_begun d s)

  -- the start of a string counts as a control code
  pub width_from_start : (s : List X) → width_of k s ≡ begun Ctrl s
  width_from_start [] = refl
  width_from_start (c ∷ s) =
      width_begun c s ∙ ap (λ j. one (not j && not (is_control (k c))) + begun (k c) s) (sym (none_joins_control (k c)))

  -- `begun` at a place, by the class of the code there and whether a cell begins with it
  pub begun_at : (b : Class) (s : List X) (i : ℕ) (d : X) (x : Class) (t : Bool) → i < length s → x ≡ k (get_or s i d) → t ≡ (not (joins b x) && not (is_control x)) → begun b (drop i s) ≡ one t + begun x (drop (i + 1) s)
  begun_at b s i d x t h v e =
      at_drop_more (begun b) s i d h ∙ sym (λ j. one ((e ∙ ap (λ y. not (joins b y) && not (is_control y)) v) j) + begun (v j) (drop (i + 1) s))
