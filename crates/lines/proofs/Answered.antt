-- The function that checks a string gives the answer that the relation has.
use Rattle.std.proofs.Common.{◌≡◌, ℕ, ◌<◌, Bool, List, length, get_or, Some, None, Ok, Err, Option, Result, sym, refl, ap, ◌∙◌, subst, ⊎_elim, arith}
use Rattle.std.proofs.lemmas.Bool.{both_ways}
use Rattle.codes.specs.Classes.{class_of, is_text}
use Rattle.cells.specs.declared.division.Span.{Span}
use Rattle.cells.specs.Runs.{cell_at, width_of}
use Rattle.cells.proofs.Spans.{cell_within}
use Rattle.lines.specs.declared.refusal.Refusal.{Refusal}
use Rattle.lines.specs.declared.refusal.Refusal.TheVariants.{NotText, NotAdmitted, NextNotAdmitted, TooWide, NothingThere, WouldMeet}
use Rattle.lines.specs.Checks.{Checked, Flaw, Sooner, after, before, checked, fitted, walked}
use Rattle.lines.specs.Checks.Checked.{refused, taken}
use Rattle.lines.specs.Checks.Flaw.{not_admitted, not_text, too_wide}
use Rattle.lines.proofs.Walks.{Fine, Stop, Walked, walks}

module _ (f : ℕ → ℕ → Bool) (w : ℕ) (s : List ℕ) where
  -- the code where the walk stops is a flaw
  flaw_of : (r : Refusal) → Stop f 0 0 s r → Flaw f w s r
  flaw_of (NotText p) h =
      let is : p ≡ h.number = omega (arith, h.stops.0) in
      subst (λ (q : ℕ). Flaw f w s (NotText q)) (sym is) (not_text h.number h.within h.stops.1)
  flaw_of (NotAdmitted p) h =
      let is : p ≡ h.number = omega (arith, h.stops.0) in
      subst (λ (q : ℕ). Flaw f w s (NotAdmitted q)) (sym is) (not_admitted h.number h.within h.stops.2)
  flaw_of (NextNotAdmitted p) h = absurd h.stops
  flaw_of (TooWide p) h = absurd h.stops
  flaw_of (NothingThere p) h = absurd h.stops
  flaw_of (WouldMeet p) h = absurd h.stops

  -- a string whose codes are all fine has no flaw but its width
  only_wide : ((k : ℕ) → k < length s → Fine f 0 s k) → (q : Refusal) → Flaw f w s q → ((x : Span) → cell_at class_of s w ≡ Some x → ⊥) → ⊥
  only_wide fine q (not_text i h e) none = both_ways (is_text (get_or s i 0)) e (fine i h).0
  only_wide fine q (not_admitted i h e) none = both_ways (f (before s i) (get_or s i 0)) e (fine i h).1
  only_wide fine q (too_wide x l e) none = none x e

  -- where the walk stops, no flaw is sooner
  no_sooner : (r : Refusal) → Stop f 0 0 s r → (q : Refusal) → Flaw f w s q → Sooner q r → ⊥
  no_sooner (NotText p) h q (not_text i l e) so =
      ⊎_elim (λ z. omega arith) (⊎_elim (λ lower. both_ways (is_text (get_or s i 0)) e (h.fine i (omega (arith, h.stops.0))).0) (λ here. omega (arith, here.1))) so.1
  no_sooner (NotText p) h q (not_admitted i l e) so =
      ⊎_elim (λ z. omega arith) (⊎_elim (λ lower. both_ways (f (before s i) (get_or s i 0)) e (h.fine i (omega (arith, h.stops.0))).1) (λ here. omega (arith, here.1))) so.1
  no_sooner (NotText p) h q (too_wide x l e) so = omega (arith, so.0)
  no_sooner (NotAdmitted p) h q (not_text i l e) so =
      ⊎_elim (λ z. omega arith)
      (⊎_elim (λ lower. both_ways (is_text (get_or s i 0)) e (h.fine i (omega (arith, h.stops.0))).0)
      (λ here. let same : i ≡ h.number = omega (arith, here.0, h.stops.0) in both_ways (is_text (get_or s i 0)) e (ap (λ k. is_text (get_or s k 0)) same ∙ h.stops.1)))
      so.1
  no_sooner (NotAdmitted p) h q (not_admitted i l e) so =
      ⊎_elim (λ z. omega arith) (⊎_elim (λ lower. both_ways (f (before s i) (get_or s i 0)) e (h.fine i (omega (arith, h.stops.0))).1) (λ here. omega (arith, here.1))) so.1
  no_sooner (NotAdmitted p) h q (too_wide x l e) so = omega (arith, so.0)
  no_sooner (NextNotAdmitted p) h q d so = h.stops
  no_sooner (TooWide p) h q d so = h.stops
  no_sooner (NothingThere p) h q d so = h.stops
  no_sooner (WouldMeet p) h q d so = h.stops

  -- of a string that is too wide and else fine, no flaw is sooner
  none_sooner_than_wide : ((k : ℕ) → k < length s → Fine f 0 s k) → (p : ℕ) (q : Refusal) → Flaw f w s q → Sooner q (TooWide p) → ⊥
  none_sooner_than_wide fine p q (not_text i h e) so = both_ways (is_text (get_or s i 0)) e (fine i h).0
  none_sooner_than_wide fine p q (not_admitted i h e) so = both_ways (f (before s i) (get_or s i 0)) e (fine i h).1
  none_sooner_than_wide fine p q (too_wide x l e) so = omega (arith, so.0)

  answered : (r : Result (Unit {0}) Refusal) (o : Option Span) → Walked f 0 0 s r → cell_at class_of s w ≡ o → Checked f w s (after r (fitted o (width_of class_of s)))
  answered (Ok u) (Some x) fine e =
      refused (TooWide x.start) (too_wide x (cell_within class_of s w x e) e) (none_sooner_than_wide fine x.start)
  answered (Ok u) None fine e = taken (λ q d. only_wide fine q d (λ x is. let z : ◌≡◌ {A = ℕ} 0 1 = cc in omega arith))
  answered (Err r) o h e = refused r (flaw_of r h) (no_sooner r h)

  -- an answer put together as the code does it
  pub checked_as : (r : Result (Unit {0}) Refusal) (o : Option Span) (n : ℕ) → r ≡ walked f 0 0 s → o ≡ cell_at class_of s w → n ≡ width_of class_of s → after r (fitted o n) ≡ checked f w s
  unfolding checked
  checked_as r o n a b c = λ i. after (a i) (fitted (b i) (c i))

  pub told : (r : Result ℕ Refusal) → r ≡ checked f w s → Checked f w s r
  unfolding checked
  told r e = subst (Checked f w s) (sym e) (answered (walked f 0 0 s) (cell_at class_of s w) (walks f 0 0 s) refl)
