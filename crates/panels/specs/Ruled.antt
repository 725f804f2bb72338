-- What a panel shows that keeps its cells in a store: in each of its columns the codes that the store has there.
use Rattle.std.specs.Prelude.{ℕ, List, map}
use Rattle.std.specs.List.{range_with_len}
use Rattle.panels.specs.declared.ruled.Ruled.{Ruled}
use Rattle.panels.specs.Screens.{Screen, screen_of}

abbrev pub ruled_screen : {S : Type 0} → (S → ℕ → List ℕ) → Ruled S → Screen
ruled_screen held_at p = screen_of p.ruler.columns (map (held_at p.store) (range_with_len 0 p.ruler.columns)) p.ruler.cursor
