-- The costs are the entries of the block lines.
use Rattle.std.proofs.Common.{rules}
use Rattle.line_forms.proofs.Rows.{entry_most}
use Rattle.kit_lines.specs.Kit.{block_rows}
use Rattle.kit_lines.proofs.Lines.{block_reads, block_clear}
use Rattle.kit_lines.specs.Forms.{block_form}
use Rattle.kit_text.proofs.write_costs.Goals as goal

pub write_entries-requires : goal.write_entries-requires
write_entries-requires c = record { callable = search rules; low = λ n i v j p. entry_most block_form block_clear c.args.text.now i 0 v j (search rules) }

pub returns : goal.returns
unfolding block_rows
returns c = c.write_entries.ensures _ _ _ 0 (block_reads _) (λ n i r l p. search rules) c.requires
