-- A wire line a turn, and an entry of it into each list.
use Rattle.std.proofs.Common.{arith, sym}
use Rattle.line_forms.proofs.Lines.{entered_start, entered_room, entered_line, entered_none, entered_full}
use Rattle.line_forms.proofs.Rows.{line_most}
use Rattle.kit_lines.specs.Kit.{wire_rows}
use Rattle.kit_lines.specs.Forms.{wire_form}
use Rattle.kit_lines.proofs.Lines.{wire_reads, wire_clear}
use Rattle.kit_text.proofs.write_wires.Goals as goal

pub loop-n-init : goal.loop-n-init
unfolding wire_rows
loop-n-init c =
    record {
      starts = entered_start (wire_reads _) _ _ _ _ c.requires.0;
      ends = entered_start (wire_reads _) _ _ _ _ c.requires.1;
      widths = entered_start (wire_reads _) _ _ _ _ c.requires.2;
    }

pub returns-in_default : goal.returns-in_default
unfolding wire_rows
returns-in_default c =
    let g = sym c.in_default.ensures in
    let v = c.loop-n.invariant in
    record {
      starts_after = entered_none (wire_reads _) v.starts g;
      ends_after = entered_none (wire_reads _) v.ends g;
      widths_after = entered_none (wire_reads _) v.widths g;
    }

pub overflow_cast-starts : goal.overflow_cast-starts
overflow_cast-starts c = omega (arith, line_most wire_form wire_clear _ _ _ _ (sym c.in-Some.ensures) 0)

pub bounds-starts-n : goal.bounds-starts-n
bounds-starts-n c = entered_room (wire_reads _) c.loop-n.invariant.starts _ _ c.loop-n-test.true (sym c.in-Some.ensures)

pub overflow_cast-ends : goal.overflow_cast-ends
overflow_cast-ends c = omega (arith, line_most wire_form wire_clear _ _ _ _ (sym c.in-Some.ensures) 1)

pub bounds-ends-n : goal.bounds-ends-n
bounds-ends-n c = entered_room (wire_reads _) c.loop-n.invariant.ends _ _ c.loop-n-test.true (sym c.in-Some.ensures)

pub overflow_cast-widths : goal.overflow_cast-widths
overflow_cast-widths c = omega (arith, line_most wire_form wire_clear _ _ _ _ (sym c.in-Some.ensures) 2)

pub bounds-widths-n : goal.bounds-widths-n
bounds-widths-n c = entered_room (wire_reads _) c.loop-n.invariant.widths _ _ c.loop-n-test.true (sym c.in-Some.ensures)

pub loop-n-preserved : goal.loop-n-preserved
loop-n-preserved c =
    let g = sym c.in-Some.ensures in
    let v = c.loop-n.invariant in
    record {
      starts = entered_line (wire_reads _) v.starts _ _ c.loop-n-test.true g;
      ends = entered_line (wire_reads _) v.ends _ _ c.loop-n-test.true g;
      widths = entered_line (wire_reads _) v.widths _ _ c.loop-n-test.true g;
    }

pub returns : goal.returns
unfolding wire_rows
returns c =
    let v = c.loop-n.invariant in
    record {
      starts_after = entered_full (wire_reads _) v.starts c.loop-n-test.false;
      ends_after = entered_full (wire_reads _) v.ends c.loop-n-test.false;
      widths_after = entered_full (wire_reads _) v.widths c.loop-n-test.false;
    }
