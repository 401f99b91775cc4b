-- The lists and the queue from which ranks are guessed: nothing is asked of the ranks, so that little is asked of these.
use Rattle.std.specs.Prelude.{◌≡◌, ℕ, ◌+◌, ◌*◌, ◌/◌, ◌<◌, ◌≤◌, List, length, slice_index}

-- each edge leads on to a later one
pub record Onward (m : ℕ) (arcs : List ℕ) : Type 0 where
  pub later : (j : ℕ) → j < m → j < slice_index arcs j / 512

-- while the lists are filled from the last edge down: no list leads to an edge below j, and the counts leave room for j more
pub record Filling (m j : ℕ) (cells arcs : List ℕ) : Type 0 where
  pub tall : length cells ≡ 512
  pub long : length arcs ≡ 1024
  pub heads : (v : ℕ) → v < 512 → j * 65536 ≤ slice_index cells v
  pub small : (v : ℕ) → v < 512 → slice_index cells v + j ≤ 67109888
  pub later : (i : ℕ) → j ≤ i → i < m → i < slice_index arcs i / 512
