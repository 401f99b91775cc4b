-- Reading a kit text into four borrowed lists: 14, 15, 16, then 4.
use Rattle.std.specs.Prelude.{Result, ℕ, ◌≤◌, List, [], ◌∷◌, ltb, length}
use Rattle.folds.specs.Fold.{pick, over}
use Rattle.kit_lines.specs.Kit.{Kit, Says, accepted, refused, kit_of}
use Rattle.validity.specs.Cause.{Answer, refusal, told, Passed, answered, if_answered}
use Rattle.validity.specs.declared.Cause.TheVariants.{Room}
use Rattle.validity.specs.declared.Refusal.{Refusal}
use Rattle.kit_text.specs.declared.Figures.{Figures}

-- the four lists that the reading call borrows
pub record Lists : Type 0 where
  pub costs : List ℕ
  pub starts : List ℕ
  pub ends : List ℕ
  pub widths : List ℕ

abbrev pub lists : List ℕ → List ℕ → List ℕ → List ℕ → Lists
lists costs starts ends widths = record { costs = costs; starts = starts; ends = ends; widths = widths }

-- check 4: a list too short for the kit
unfoldable pub roomed : Lists → Says → Says
roomed old (refused cause place) = refused cause place
roomed old (accepted k) =
    pick (ltb (length old.costs) (length k.costs)) (refused Room 0)
    (pick (ltb (length old.starts) (length k.starts)) (refused Room 0)
    (pick (ltb (length old.ends) (length k.ends)) (refused Room 0)
    (pick (ltb (length old.widths) (length k.widths)) (refused Room 0) (accepted k))))

-- the reading of a text into lists: 14, 15, 16, then 4
unfoldable pub reading_of : List ℕ → Lists → Says
reading_of t old = roomed old (kit_of t)

-- the lists afterwards: with the kit's entries over their fronts, or as they were
unfoldable pub written : Says → Lists → Lists
written (refused cause place) old = old
written (accepted k) old = lists (over k.costs old.costs) (over k.starts old.starts) (over k.ends old.ends) (over k.widths old.widths)

-- what the reading call answers: the numbers of blocks and wires, the stage count and the limit
abbrev pub figures : Says → Answer
figures (refused cause place) = refusal cause place
figures (accepted k) = told Passed (length k.costs ∷ length k.starts ∷ k.stages ∷ k.limit ∷ [])

-- document 01's number and values of each case
abbrev pub outcome : Result Figures Refusal → Answer
outcome r = if_answered r (λ f. answered (f.blocks ∷ f.wires ∷ f.stages ∷ f.limit ∷ [])) refusal

-- lists that are long enough for a kit
pub record ListsRoom (old : Lists) (k : Kit) : Type 0 where
  pub costs : length k.costs ≤ length old.costs
  pub starts : length k.starts ≤ length old.starts
  pub ends : length k.ends ≤ length old.ends
  pub widths : length k.widths ≤ length old.widths
