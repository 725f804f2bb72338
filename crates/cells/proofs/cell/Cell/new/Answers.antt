use Rattle.std.proofs.Common.{◌≡◌, length, Some, sym, ap, ◌∙◌, arith, ltb-false, ltb-true}
use Rattle.std.proofs.lemmas.Bool.{cond-true}
use Rattle.cells.specs.Contents.{held}
use Rattle.cells.specs.Values.{filled, lawful, padded}
use Rattle.cells.proofs.Count.{cell_values}
use Rattle.cells.proofs.Packed.{filled_padded, none, one, three, two}
use Rattle.cells.proofs.cell.Cell.new.Goals as goal
use Rattle.cells.proofs.cell.Cell.new.Goals.{Joined-codes-lt1, in-empty, in-len1, in-len2, in-len3}

-- the places are the codes, padded
stored : (c : Joined-codes-lt1) → c.if-codes-lt1.places ≡ padded c.args.codes.now
stored c =
    let s = c.args.codes.now in
    elim c.if-codes-lt1.branch [
      | in-empty w ↦ let e : length s ≡ 0 = omega (arith, ltb-true, ltb-false) in w.places-is ∙ none s e
      | in-len1 w ↦ let e : length s ≡ 1 = omega (arith, ltb-true, ltb-false) in w.places-is ∙ one s e
      | in-len2 w ↦ let e : length s ≡ 2 = omega (arith, ltb-true, ltb-false) in w.places-is ∙ two s e
      | in-len3 w ↦ let e : length s ≡ 3 = omega (arith, ltb-true, ltb-false) in w.places-is ∙ three s e
    ]

filled_stored : (c : Joined-codes-lt1) → filled c.if-codes-lt1.places ≡ c.args.codes.now
filled_stored c = ap filled (stored c) ∙ filled_padded _ (sym c.if-not-is_lawful.ensures)

pub returns-then-not-is_lawful : goal.returns-then-not-is_lawful
returns-then-not-is_lawful c = let no_cell = sym c.if-not-is_lawful.ensures in record { value = rw no_cell; count = cell_values }

pub invariant_of-result : goal.invariant_of-result
invariant_of-result c =
    record {
      legal = ap lawful (filled_stored c) ∙ sym c.if-not-is_lawful.ensures;
      packed = stored c ∙ ap padded (sym (filled_stored c));
    }

pub returns : goal.returns
unfolding held
returns c = let a-cell = sym c.if-not-is_lawful.ensures in record { value = ap Some (filled_stored (goal.at.returns c).Joined-codes-lt1) ∙ sym (cond-true _ _ _ a-cell); count = cell_values }
