-- What is known, of the values that hold it.
use Rattle.std.specs.Prelude.{ℕ, List}
use Rattle.neighbours.specs.Known.{Known}
use Rattle.neighbours.specs.declared.LinkedEdges.{LinkedEdges}
use Rattle.neighbours.specs.declared.Numbers.{Numbers}

abbrev pub Knows : LinkedEdges → List ℕ → ℕ → Numbers → Type 0
Knows e table k n = Known e.from.now e.to.now table k n.low n.high n.marks
