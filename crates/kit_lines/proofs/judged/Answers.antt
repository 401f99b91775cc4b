-- The lines have been passed already: each answer is read off from their counts and from the kit line's own figures.
use Rattle.kit_lines.proofs.Checks.{no_kit_line, line_too_many, block_count_differs, is_fine}
use Rattle.kit_lines.proofs.judged.Goals as goal

pub returns-in_default : goal.returns-in_default
returns-in_default c = rw c.at.ensures (no_kit_line _ c.kit_line.ensures c.in_default.is)

pub returns-then-e-text : goal.returns-then-e-text
returns-then-e-text c = rw c.at-then-e-text.ensures (line_too_many _ _ _ c.kit_line.ensures c.in-Some.is _ _ _ _ _ c.requires c.if-e-text.true)

pub returns-then-n-line : goal.returns-then-n-line
returns-then-n-line c = rw c.at-then-n-line.ensures (block_count_differs _ _ _ c.kit_line.ensures c.in-Some.is _ _ _ _ _ c.requires c.if-e-text.false c.if-n-line.true)

pub returns : goal.returns
returns c = is_fine _ _ _ c.kit_line.ensures c.in-Some.is _ _ _ _ _ c.requires c.if-e-text.false c.if-n-line.false
