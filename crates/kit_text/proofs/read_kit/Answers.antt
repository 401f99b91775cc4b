-- Too long, refused by the lines, or loaded: each case by what the calls before it ensure.
use Rattle.std.proofs.Common.{rules, ◌≡◌, Err}
use Rattle.kit_text.specs.Reading.{lists}
use Rattle.kit_text.proofs.Room.{too_long, bad_lines, loaded}
use Rattle.kit_text.proofs.read_kit.Goals as goal

pub returns-then-text-gt65536 : goal.returns-then-text-gt65536
returns-then-text-gt65536 c =
    let old = lists c.args.costs.now c.args.starts.now c.args.ends.now c.args.widths.now in
    let t = too_long _ old c.if-text-gt65536.true in
    record { result_value = rw c.at.ensures t.0; widths_after = t.1 }

pub returns-in_err-y : goal.returns-in_err-y
returns-in_err-y c =
    let old = lists c.args.costs.now c.args.starts.now c.args.ends.now c.args.widths.now in
    let t = bad_lines _ old c.if-text-gt65536.false _ _ c.in_err-y.ensures in
    let q : c.from_residual.result ≡ Err c.in_err-y.field-0.0 = search rules in
    record { result_value = rw q t.0; widths_after = t.1 }

pub returns : goal.returns
returns c =
    let old = lists c.args.costs.now c.args.starts.now c.args.ends.now c.args.widths.now in
    let t = loaded _ old c.if-text-gt65536.false _ c.in_ok-y.ensures _ _ (c.load.ensures.result_value, c.load.ensures.widths_after) in
    record { result_value = t.0; widths_after = t.1 }
