use Rattle.std.proofs.Common.{take, ap, ◌∙◌, arith}
use Rattle.cells.specs.Contents.{held}
use Rattle.cells.proofs.Packed.{filled_first, lawful_short}
use Rattle.cells.proofs.Same.{by_codes}
use Rattle.cells.proofs.cell.Cell.codes.Goals as goal

pub slice_bounds-result-end : goal.slice_bounds-result-end
unfolding held
slice_bounds-result-end c = omega (arith, c.len-len.ensures, lawful_short (held c.args.self.now) c.args.self.now.legal)

pub returns : goal.returns
unfolding held
returns c =
    let places = c.args.self.now.places in
    record {
      value = ap (λ n. take n places) (omega (arith, c.len-len.ensures)) ∙ filled_first places c.args.self.now.packed;
      only = λ other e. by_codes other c.args.self.now e;
    }
