-- Check 4 list by list, then both passes: each return by the tests before it.
use native.Mathlib.Omega.{arith}
use Rattle.kit_text.specs.Reading.{lists}
use Rattle.kit_text.proofs.Room.{too_short, short_costs, short_starts, short_ends, short_widths, all_written}
use Rattle.kit_text.proofs.load.Goals as goal
use Rattle.kit_text.proofs.load.Goals.{then-costs-n-via-then-costs-n, then-costs-n-via-else-costs-n+then-starts-m, then-costs-n-via-else-costs-n+else-starts-m+then-ends-m, then-costs-n-via-else-costs-n+else-starts-m+else-ends-m+then-widths-m}

pub returns-then-costs-n : goal.returns-then-costs-n
returns-then-costs-n c =
    let old = lists c.args.costs.now c.args.starts.now c.args.ends.now c.args.widths.now in
    let t = too_short _ _ c.requires old
    (elim c.then-costs-n.branch [
      | then-costs-n-via-then-costs-n w ↦ short_costs _ _ c.requires old w.if-costs-n.true
      | then-costs-n-via-else-costs-n+then-starts-m w ↦ short_starts _ _ c.requires old w.if-costs-n.false w.if-starts-m.true
      | then-costs-n-via-else-costs-n+else-starts-m+then-ends-m w ↦ short_ends _ _ c.requires old w.if-costs-n.false w.if-starts-m.false w.if-ends-m.true
      | then-costs-n-via-else-costs-n+else-starts-m+else-ends-m+then-widths-m w ↦ short_widths _ _ c.requires old w.if-costs-n.false w.if-starts-m.false w.if-ends-m.false w.if-widths-m.true
    ]) in
    record { result_value = rw c.at.ensures t.0; widths_after = t.1 }

pub write_costs-requires : goal.write_costs-requires
write_costs-requires c = omega (arith, c.requires.blocks)

pub write_wires-requires : goal.write_wires-requires
write_wires-requires c = (omega (arith, c.requires.wires), omega (arith, c.requires.wires), omega (arith, c.requires.wires))

pub returns : goal.returns
returns c =
    let old = lists c.args.costs.now c.args.starts.now c.args.ends.now c.args.widths.now in
    let w = c.write_wires.ensures in
    let t = all_written _ _ c.requires old c.if-costs-n.false c.if-starts-m.false c.if-ends-m.false c.if-widths-m.false _ _ _ _ c.write_costs.ensures (w.starts_after, (w.ends_after, w.widths_after)) in
    record { result_value = t.0; widths_after = t.1 }
