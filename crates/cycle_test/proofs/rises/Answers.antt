use Rattle.std.proofs.Common.{arith}
use Rattle.cycle_test.proofs.Guesses.{ranks_free}
use Rattle.folds.proofs.Cases.{no_bool, either, eq_or_ne}
use Rattle.cycle_test.proofs.rises.Goals as goal

pub loop-j-init : goal.loop-j-init
loop-j-init c = λ i l. absurd (omega arith)

pub returns-then-edges-j : goal.returns-then-edges-j
returns-then-edges-j c = λ t. absurd (no_bool t)

pub loop-j-preserved : goal.loop-j-preserved
loop-j-preserved c = λ i h. either (eq_or_ne i c.loop-j.j) (λ q. rw q c.if-edges-j.false) (λ n. c.loop-j.invariant i (omega arith))

pub returns : goal.returns
returns c = λ _. ranks_free c.args.edges.starts.now c.args.edges.ends.now (λ v. v) (λ i l. c.loop-j.invariant i (omega arith))
