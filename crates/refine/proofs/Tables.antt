-- Laws of the loops over vertices.
use Prim.Native.Nat.{ℕ}
use mathlib.Core.Path.{◌≡◌, refl, sym}
use mathlib.Core.List.{List}
use native.Mathlib.Omega.{arith}
use lib.ListN.{length, get_or, replicate, get_or-replicate}
use Rattle.folds.proofs.Lists.{listed}
use Rattle.graph.specs.Graph.{through}
use Rattle.neighbours.specs.Visit.{Placed}
use Rattle.refine.specs.Tables.{Inherits}

-- the parts of clusters
pub placed_zeros : Placed (replicate 512 0)
placed_zeros = record { long = refl; low = λ c l. rw (get_or-replicate {A = ℕ} 512 c 0 0 l) (omega arith) }

pub inherits_through : (row parts table : List ℕ) → length parts ≡ length row → Inherits row parts (length row) table → through row table ≡ parts
unfolding through
inherits_through row parts table e I = sym (listed parts (length row) (λ v. get_or table (get_or row v 0) 0) e (λ v l. sym (I.is v l)))
