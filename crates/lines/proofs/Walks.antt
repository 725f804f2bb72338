-- What the walk over a string finds: that every code is fine, or the first that is not.
use Rattle.std.proofs.Common.{◌≡◌, ℕ, zero, suc, ◌+◌, ◌<◌, Bool, true, false, cond, List, [], ◌∷◌, length, get_or, Ok, Err, Result, refl, arith}
use Rattle.codes.specs.Classes.{is_text}
use Rattle.lines.specs.declared.refusal.Refusal.{Refusal}
use Rattle.lines.specs.declared.refusal.Refusal.TheVariants.{NotText, NotAdmitted, NextNotAdmitted, TooWide, NothingThere, WouldMeet}
use Rattle.lines.specs.Checks.{walked}

module _ (f : ℕ → ℕ → Bool) where
  -- code number k of cs is text, and admitted after the one before it, where b stands before them all
  abbrev pub Fine : ℕ → List ℕ → ℕ → Type 0
  Fine b cs k = (is_text (get_or cs k 0) ≡ true) × (f (get_or (b ∷ cs) k 0) (get_or cs k 0) ≡ true)

  -- why the walk stops at code number k, if the first of them has a place
  abbrev pub Stops : ℕ → ℕ → List ℕ → ℕ → Refusal → Type 0
  Stops at b cs k (NotText p) = (p ≡ at + k) × (is_text (get_or cs k 0) ≡ false)
  Stops at b cs k (NotAdmitted p) = (p ≡ at + k) × (is_text (get_or cs k 0) ≡ true) × (f (get_or (b ∷ cs) k 0) (get_or cs k 0) ≡ false)
  Stops at b cs k (NextNotAdmitted p) = ⊥
  Stops at b cs k (TooWide p) = ⊥
  Stops at b cs k (NothingThere p) = ⊥
  Stops at b cs k (WouldMeet p) = ⊥

  pub record Stop (at b : ℕ) (cs : List ℕ) (r : Refusal) : Type 0 where
    pub number : ℕ
    pub within : number < length cs
    pub fine : (k : ℕ) → k < number → Fine b cs k
    pub stops : Stops at b cs number r

  abbrev pub Walked : ℕ → ℕ → List ℕ → Result (Unit {0}) Refusal → Type 0
  Walked at b cs (Ok u) = (k : ℕ) → k < length cs → Fine b cs k
  Walked at b cs (Err r) = Stop at b cs r

  one_more : (b c : ℕ) (cs : List ℕ) (n : ℕ) → Fine b (c ∷ cs) 0 → ((k : ℕ) → k < n → Fine c cs k) → (k : ℕ) → k < suc n → Fine b (c ∷ cs) k
  one_more b c cs n e h zero l = e
  one_more b c cs n e h (suc k) l = h k (omega arith)

  stops_later : (at b c : ℕ) (cs : List ℕ) (k : ℕ) (r : Refusal) → Stops (at + 1) c cs k r → Stops at b (c ∷ cs) (suc k) r
  stops_later at b c cs k (NotText p) h = (omega (arith, h.0), h.1)
  stops_later at b c cs k (NotAdmitted p) h = (omega (arith, h.0), h.1, h.2)
  stops_later at b c cs k (NextNotAdmitted p) h = h
  stops_later at b c cs k (TooWide p) h = h
  stops_later at b c cs k (NothingThere p) h = h
  stops_later at b c cs k (WouldMeet p) h = h

  goes_on : (at b c : ℕ) (cs : List ℕ) → Fine b (c ∷ cs) 0 → (r : Result (Unit {0}) Refusal) → Walked (at + 1) c cs r → Walked at b (c ∷ cs) r
  goes_on at b c cs e (Ok u) h = one_more b c cs (length cs) e h
  goes_on at b c cs e (Err r) h =
      record {
        number = suc h.number;
        within = omega (arith, h.within);
        fine = one_more b c cs h.number e h.fine;
        stops = stops_later at b c cs h.number r h.stops;
      }

  steps : (t p : Bool) (at b c : ℕ) (cs : List ℕ) → is_text c ≡ t → f b c ≡ p → (r : Result (Unit {0}) Refusal) → Walked (at + 1) c cs r → Walked at b (c ∷ cs) (cond t (cond p r (Err (NotAdmitted at))) (Err (NotText at)))
  steps false p at b c cs e g r h =
      record { number = 0; within = omega arith; fine = λ k l. absurd (omega arith); stops = (omega arith, e) }
  steps true false at b c cs e g r h =
      record { number = 0; within = omega arith; fine = λ k l. absurd (omega arith); stops = (omega arith, e, g) }
  steps true true at b c cs e g r h = goes_on at b c cs (e, g) r h

  pub walks : (at b : ℕ) (cs : List ℕ) → Walked at b cs (walked f at b cs)
  walks at b [] = λ k h. absurd (omega arith)
  walks at b (c ∷ cs) = steps (is_text c) (f b c) at b c cs refl refl (walked f (at + 1) c cs) (walks (at + 1) c cs)
