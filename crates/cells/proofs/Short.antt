-- No run has more than three codes: along a run the classes climb, and there are three steps.
use Rattle.std.proofs.Common.{◌≡◌, ℕ, suc, ◌+◌, ◌*◌, ◌<◌, ◌≤◌, Bool, true, false, cond, not, ◌||◌, ltb, leb, List, [], ◌∷◌, length, refl, ap, ◌∙◌, arith, length-append}
use Rattle.std.specs.List.{flat_map, AllByRecursion}
use Rattle.std.proofs.lemmas.Bool.{leb-true, ltb-true}
use Rattle.codes.specs.declared.classes.Class.{Class}
use Rattle.codes.specs.Classes.{class_number, is_control}
use Rattle.codes.specs.Verdicts.{class_verdict, letter_at}
use Rattle.codes.proofs.Every.{at_class, at_classes, from_or}
use Rattle.cells.specs.Runs.{joins, into, runs, first_run, is_cell, cells, width_of}
use Rattle.cells.proofs.Fronts.{front, front_more, led, more}

-- 0 before any mark, 1 for vowels above and below, 2 for the marks over them
climb : Class → ℕ
climb x = cond (ltb (class_number x) 7) 0 (cond (ltb (class_number x) 10) 1 (cond (ltb (class_number x) 14) 2 1))

climbs : (x y : Class) → joins x y ≡ true → climb x < climb y
unfolding climb joins class_verdict letter_at
climbs x y e =
    ltb-true (climb x) (climb y) (from_or (joins x y) (ltb (climb x) (climb y)) e (at_classes (λ a b. not (joins a b) || ltb (climb a) (climb b)) refl x y))

low : (x : Class) → climb x ≤ 2
unfolding climb
low x = leb-true (climb x) 2 (at_class (λ a. leb (climb a) 2) refl x)

-- the length of each run is bounded
abbrev pub Short : {X : Type 0} → List (List X) → Type 0
Short rs = AllByRecursion (λ r. length r ≤ 3) rs

module _ {X : Type 0} (k : X → Class) where
  few : (j : Bool) (b : Class) (c : X) (n : ℕ) → joins b (k c) ≡ j → n + climb (k c) ≤ 2 → cond j (suc n) 0 + climb b ≤ 2
  few true b c n e h = omega (arith, climbs b (k c) e)
  few false b c n e h = omega (arith, low b)

  more_few : (b : Class) (s : List X) → more k b s + climb b ≤ 2
  more_few b [] = omega (arith, low b)
  more_few b (c ∷ s) = few (joins b (k c)) b c (more k (k c) s) refl (more_few (k c) s)

  pub front_short : (c : X) (s : List X) → front k (c ∷ s) ≤ 3
  front_short c s = omega (arith, front_more k c s, more_few (k c) s)

  into_short : (c : X) (rs : List (List X)) → length (first_run (into c rs)) ≤ 3 → Short rs → Short (into c rs)
  into_short c [] l h = (l, tt)
  into_short c (r ∷ rs) l h = (l, h.1)

  led_short : (b : Bool) (c : X) (rs : List (List X)) → length (first_run (led b c rs)) ≤ 3 → Short rs → Short (led b c rs)
  led_short true c rs l h = into_short c rs l h
  led_short false c rs l h = (l, h)

  pub runs_short : (s : List X) → Short (runs k s)
  runs_short [] = tt
  runs_short (c ∷ []) = (omega arith, tt)
  runs_short (c ∷ d ∷ s) = led_short (joins (k c) (k d)) c (runs k (d ∷ s)) (front_short c (d ∷ s)) (runs_short (d ∷ s))

  -- a string with no control code has at most three codes for each cell
  into_cells : (c : X) (rs : List (List X)) → is_control (k c) ≡ false → AllByRecursion (λ r. is_cell k r ≡ true) rs → AllByRecursion (λ r. is_cell k r ≡ true) (into c rs)
  into_cells c [] e h = (ap not e, tt)
  into_cells c (r ∷ rs) e h = (ap not e, h.1)

  led_cells : (b : Bool) (c : X) (rs : List (List X)) → is_control (k c) ≡ false → AllByRecursion (λ r. is_cell k r ≡ true) rs → AllByRecursion (λ r. is_cell k r ≡ true) (led b c rs)
  led_cells true c rs e h = into_cells c rs e h
  led_cells false c rs e h = (ap not e, h)

  all_cells : (s : List X) → AllByRecursion (λ c. is_control (k c) ≡ false) s → AllByRecursion (λ r. is_cell k r ≡ true) (runs k s)
  all_cells [] h = tt
  all_cells (c ∷ []) h = (ap not h.0, tt)
  all_cells (c ∷ d ∷ s) h = led_cells (joins (k c) (k d)) c (runs k (d ∷ s)) h.0 (all_cells (d ∷ s) h.1)

  glued_short : (rs : List (List X)) → Short rs → AllByRecursion (λ r. is_cell k r ≡ true) rs → length (flat_map (λ r. r) rs) ≤ 3 * length (cells k rs)
  glued_short [] h e = omega arith
  glued_short (r ∷ rs) h e =
      let is = e.0 in
      let less = glued_short rs h.1 e.1 in
      rw is (omega (arith, length-append r (flat_map (λ p. p) rs), h.0, less))

  into_whole : (c : X) (rs : List (List X)) → flat_map (λ r. r) (into c rs) ≡ c ∷ flat_map (λ r. r) rs
  into_whole c [] = refl
  into_whole c (r ∷ rs) = refl

  led_whole : (b : Bool) (c : X) (rs : List (List X)) → flat_map (λ r. r) (led b c rs) ≡ c ∷ flat_map (λ r. r) rs
  led_whole true c rs = into_whole c rs
  led_whole false c rs = refl

  -- the runs, one after the other, are the string
  pub whole : (s : List X) → flat_map (λ r. r) (runs k s) ≡ s
  whole [] = refl
  whole (c ∷ []) = refl
  whole (c ∷ d ∷ s) = led_whole (joins (k c) (k d)) c (runs k (d ∷ s)) ∙ ap (λ l. c ∷ l) (whole (d ∷ s))

  pub three_to_a_cell : (s : List X) → AllByRecursion (λ c. is_control (k c) ≡ false) s → length s ≤ 3 * width_of k s
  three_to_a_cell s h = omega (arith, ap length (whole s), glued_short (runs k s) (runs_short s) (all_cells s h))
