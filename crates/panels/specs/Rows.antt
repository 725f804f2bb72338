-- What the row panel shows: in each column the codes that the four rows have there.
use Rattle.std.specs.Prelude.{ℕ, List}
use Rattle.panels.specs.declared.row.Rows.{Rows}
use Rattle.panels.specs.declared.ruled.Ruled.{Ruled}
use Rattle.panels.specs.declared.stack.Stack.{Stack}
use Rattle.panels.specs.Ruled.{ruled_screen}
use Rattle.panels.specs.Screens.{Screen}
use Rattle.panels.specs.Stacks.{gathered, stack_in}

abbrev pub stack_at : Rows → ℕ → Stack
stack_at r j = stack_in r.top r.above r.base r.below j

-- the codes that the rows have in column j
abbrev pub rows_held : Rows → ℕ → List ℕ
rows_held r j = gathered (stack_at r j)

abbrev pub row_screen : Ruled Rows → Screen
row_screen = ruled_screen rows_held
