-- What four rows have in a column, and what a change of one column makes of it.
use Rattle.std.proofs.Common.{◌≡◌, ℕ, ◌<◌, Bool, true, false, Decides, cond, List, [], set, replicate, Some, None, Option, sym, refl, ap, ◌∙◌, subst, ⊎_elim, arith, IsSome, MatchOption}
use Rattle.std.specs.Option.{option_map}
use Rattle.std.proofs.lemmas.List.{get_or-set_other, get_or-set_same}
use Rattle.std.specs.Bool.{then_some}
use Rattle.std.proofs.lemmas.Option.{none-some, same_Some}
use Rattle.std.proofs.lemmas.Bool.{both_ways, cases_eq, cond-true}
use Rattle.cells.specs.declared.cell.Cell.{Cell}
use Rattle.cells.specs.Contents.{held}
use Rattle.cells.specs.Values.{lawful}
use Rattle.cells.proofs.Same.{by_codes, held_lawful, holder}
use Rattle.panels.specs.declared.row.Rows.{Rows}
use Rattle.panels.specs.declared.stack.Stack.{Stack}
use Rattle.panels.specs.Rows.{stack_at}
use Rattle.panels.specs.Stacks.{Proper, gathered, present, stack_in, stack_of}
use Rattle.panels.proofs.Alike.{alike_everywhere}
use Rattle.panels.proofs.Outward.{held_again}

stack_proper : (s : List ℕ) → lawful s ≡ true → s ≡ gathered (stack_of s) → Proper (stack_of s)
stack_proper s e again = (ap lawful (sym again) ∙ e, ap stack_of again)

pub cell_proper : (x : Cell) → Proper (stack_of (held x))
cell_proper x = stack_proper (held x) (held_lawful x) (sym (held_again x))

-- rows of 00

pub empty_rows : (j : ℕ) → stack_in (replicate 80 0) (replicate 80 0) (replicate 80 0) (replicate 80 0) j ≡ stack_of []
unfolding stack_of
empty_rows j = let e = alike_everywhere 80 j 0 in λ i. record { top = e i; above = e i; base = e i; below = e i }

pub empty_gathered : gathered (stack_of []) ≡ []
unfolding gathered stack_of present
empty_gathered = refl

pub empty_proper : Proper (stack_of [])
empty_proper = stack_proper [] refl (sym empty_gathered)

-- rows with one column changed

module _ (r : Rows) (j : ℕ) (within : j < 80) (x : Stack) where
  abbrev pub changed : ℕ → Stack
  changed = stack_in (set r.top j x.top) (set r.above j x.above) (set r.base j x.base) (set r.below j x.below)

  pub changed_here : changed j ≡ x
  changed_here =
      let long = r.long in
      λ i. record {
        top = get_or-set_same r.top j x.top 0 (omega arith) i;
        above = get_or-set_same r.above j x.above 0 (omega arith) i;
        base = get_or-set_same r.base j x.base 0 (omega arith) i;
        below = get_or-set_same r.below j x.below 0 (omega arith) i;
      }

  pub changed_there : (k : ℕ) → (k ≡ j → ⊥) → changed k ≡ stack_at r k
  changed_there k apart =
      λ i. record {
        top = get_or-set_other r.top j k x.top 0 apart i;
        above = get_or-set_other r.above j k x.above 0 apart i;
        base = get_or-set_other r.base j k x.base 0 apart i;
        below = get_or-set_other r.below j k x.below 0 apart i;
      }

  pub changed_proper : Proper x → (k : ℕ) → Proper (changed k)
  changed_proper new k =
      ⊎_elim (λ e. subst Proper (sym (ap changed e ∙ changed_here)) new) (λ apart. subst Proper (sym (changed_there k apart)) (r.proper k)) (cases_eq k j)

-- a stack and the cell that has it

-- what is gathered from the rows of a cell is that cell
pub found : (x : Stack) (o : Option Cell) → option_map held o ≡ cond (lawful (gathered x)) (Some (gathered x)) None → (y : Cell) → stack_of (held y) ≡ x → o ≡ Some y
found x o e y same = by o (e ∙ ap (λ s. cond (lawful s) (Some s) None) (ap gathered (sym same) ∙ held_again y) ∙ cond-true _ _ _ (held_lawful y))
  where
    by : (o : Option Cell) → option_map held o ≡ Some (held y) → o ≡ Some y
    by (Some z) is = let codes : held z ≡ held y = cc in ap Some (by_codes z y codes)
    by None is = cc

-- the cell that is gathered is kept if it has the rows, and else no cell has them
pub kept : {Says : Cell → Bool → Type 0} (x : Stack) (o r : Option Cell) → option_map held o ≡ cond (lawful (gathered x)) (Some (gathered x)) None → MatchOption o (r ≡ None) (λ y. (b : Bool) × Says y b × (r ≡ then_some b y)) → ((y : Cell) (b : Bool) → Says y b → Decides b (stack_of (held y) ≡ x)) → MatchOption r ((y : Cell) → stack_of (held y) ≡ x → ⊥) (λ y. stack_of (held y) ≡ x)
kept x None r e gone says = rw gone (λ y same. let is = found x None e y same in absurd (none-some y is))
kept x (Some z) r e (b, said, is) says = rw is (by b (says z b said))
  where
    by : (b : Bool) → Decides b (stack_of (held z) ≡ x) → MatchOption (then_some b z) ((y : Cell) → stack_of (held y) ≡ x → ⊥) (λ y. stack_of (held y) ≡ x)
    by true d = d.0 refl
    by false d = λ y same. let one : z ≡ y = same_Some z y (found x (Some z) e y same) in both_ways false refl (d.1 (ap (λ c. stack_of (held c)) one ∙ same))

-- some cell has the rows that the codes of a cell have
pub proper_cell : (x : Stack) → Proper x → (r : Option Cell) → MatchOption r ((y : Cell) → stack_of (held y) ≡ x → ⊥) (λ y. stack_of (held y) ≡ x) → IsSome r
proper_cell x proper (Some y) h = refl
proper_cell x proper None h =
    let some = holder (gathered x) proper.0 in
    absurd (h some.cell (ap stack_of some.holds ∙ sym proper.1))
