-- Runs from the front of a string, for any kind of code that tells its class.
use Rattle.std.proofs.Common.{◌≡◌, ℕ, suc, ◌+◌, ◌-◌, ◌<◌, ◌≤◌, Bool, true, false, cond, not, List, [], ◌∷◌, length, get_or, take, drop, sym, refl, ap, ◌∙◌, arith}
use Rattle.std.proofs.lemmas.List.{at_drop_more, take_rest}
use Rattle.codes.specs.declared.classes.Class.{Class}
use Rattle.codes.specs.Classes.{is_control}
use Rattle.cells.specs.Runs.{joins, into, runs, first_run, is_cell}

-- what `runs` gives at a code, by whether the next one joins it
abbrev pub led : {X : Type 0} → Bool → X → List (List X) → List (List X)
led b c rs = cond b (into c rs) ((c ∷ []) ∷ rs)

module _ {X : Type 0} (k : X → Class) where
  -- how many codes the first run has
  abbrev pub front : List X → ℕ
  front s = length (first_run (runs k s))

  -- how many codes go on with the run of a code of class b
  abbrev pub more : Class → List X → ℕ
  more b [] = 0
  more b (c ∷ cs) = cond (joins b (k c)) (suc (more (k c) cs)) 0

  into_front : (c : X) (rs : List (List X)) → length (first_run (into c rs)) ≡ suc (length (first_run rs))
  into_front c [] = refl
  into_front c (r ∷ rs) = refl

  led_front : (b : Bool) (c : X) (rs : List (List X)) (n : ℕ) → length (first_run rs) ≡ suc n → length (first_run (led b c rs)) ≡ suc (cond b (suc n) 0)
  led_front true c rs n e = into_front c rs ∙ ap suc e
  led_front false c rs n e = refl

  pub front_more : (c : X) (s : List X) → front (c ∷ s) ≡ suc (more (k c) s)
  front_more c [] = refl
  front_more c (d ∷ s) = led_front (joins (k c) (k d)) c (runs k (d ∷ s)) (more (k d) s) (front_more d s)

  -- `more` at a place, by the class of the code there and whether it joins
  pub more_at : (b : Class) (s : List X) (i : ℕ) (d : X) (x : Class) (j : Bool) → i < length s → x ≡ k (get_or s i d) → j ≡ joins b x → more b (drop i s) ≡ cond j (suc (more x (drop (i + 1) s))) 0
  more_at b s i d x j h v e =
      at_drop_more (more b) s i d h ∙ sym (λ t. cond ((e ∙ ap (joins b) v) t) (suc (more (v t) (drop (i + 1) s))) 0)

  pub front_first : (d : X) (s : List X) → 0 < length s → front s ≡ suc (more (k (get_or s 0 d)) (take (length s - 1) (drop 1 s)))
  front_first d [] h = absurd (omega arith)
  front_first d (c ∷ s) h = front_more c s ∙ ap (λ t. suc (more (k c) t)) (sym (take_rest (c ∷ s) 1))

  -- the first run, and then the runs of what is left
  into_step : (c : X) (t : List X) (rs : List (List X)) → rs ≡ first_run rs ∷ runs k (drop (length (first_run rs)) t) → into c rs ≡ first_run (into c rs) ∷ runs k (drop (length (first_run (into c rs))) (c ∷ t))
  into_step c t [] e = cc
  into_step c t (r ∷ rs) e = let same : rs ≡ runs k (drop (length r) t) = cc in ap (λ x. (c ∷ r) ∷ x) same

  led_step : (b : Bool) (c : X) (t : List X) → runs k t ≡ first_run (runs k t) ∷ runs k (drop (front t) t) → led b c (runs k t) ≡ first_run (led b c (runs k t)) ∷ runs k (drop (length (first_run (led b c (runs k t)))) (c ∷ t))
  led_step true c t e = into_step c t (runs k t) e
  led_step false c t e = refl

  pub runs_front : (c : X) (s : List X) → runs k (c ∷ s) ≡ first_run (runs k (c ∷ s)) ∷ runs k (drop (front (c ∷ s)) (c ∷ s))
  runs_front c [] = refl
  runs_front c (d ∷ s) = led_step (joins (k c) (k d)) c (d ∷ s) (runs_front d s)

  into_cell : (c : X) (rs : List (List X)) → is_cell k (first_run (into c rs)) ≡ not (is_control (k c))
  into_cell c [] = refl
  into_cell c (r ∷ rs) = refl

  led_cell : (b : Bool) (c : X) (rs : List (List X)) → is_cell k (first_run (led b c rs)) ≡ not (is_control (k c))
  led_cell true c rs = into_cell c rs
  led_cell false c rs = refl

  pub first_cell : (c : X) (s : List X) → is_cell k (first_run (runs k (c ∷ s))) ≡ not (is_control (k c))
  first_cell c [] = refl
  first_cell c (d ∷ s) = led_cell (joins (k c) (k d)) c (runs k (d ∷ s))

  cond_le : (b : Bool) (m n : ℕ) → m ≤ n → cond b (suc m) 0 ≤ suc n
  cond_le true m n h = omega arith
  cond_le false m n h = omega arith

  more_le : (b : Class) (s : List X) → more b s ≤ length s
  more_le b [] = omega arith
  more_le b (c ∷ s) = cond_le (joins b (k c)) (more (k c) s) (length s) (more_le (k c) s)

  pub front_within : (c : X) (s : List X) → front (c ∷ s) ≤ length (c ∷ s)
  front_within c s = omega (arith, front_more c s, more_le (k c) s)
