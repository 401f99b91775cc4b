-- Each kind is the run of lines that its reader passes.
use Rattle.std.proofs.Common.{rules}
use Rattle.kit_lines.proofs.Lines.{kit_reads, block_reads, wire_reads}
use Rattle.kit_lines.proofs.lines_of.Goals as goal

pub returns-in-Kit : goal.returns-in-Kit
returns-in-Kit c = rw c.in-Kit.is (c.run_of.ensures _ _ _ (kit_reads _) (λ n i r l p. search rules))

pub returns-in-Block : goal.returns-in-Block
returns-in-Block c = rw c.in-Block.is (c.run_of-in-Block.ensures _ _ _ (block_reads _) (λ n i r l p. search rules))

pub returns-in-Wire : goal.returns-in-Wire
returns-in-Wire c = rw c.in-Wire.is (c.run_of-in-Wire.ensures _ _ _ (wire_reads _) (λ n i r l p. search rules))
