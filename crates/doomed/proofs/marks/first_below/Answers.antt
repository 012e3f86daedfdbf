use Rattle.std.proofs.Common.{arith, refl, ◌≡◌, ◌+◌, ◌-◌}
use Rattle.delete_model.specs.Marks.{first_below_in}
use Rattle.doomed.proofs.Laws.Marks.{below_end, below_here, below_next}
use Rattle.doomed.proofs.marks.first_below.Goals as goal

pub loop-chain-init : goal.loop-chain-init
unfolding first_below_in
loop-chain-init c = let e : c.args.j + 16 - c.args.j ≡ 16 = omega arith in rw e refl

pub returns-in-Some : goal.returns-in-Some
returns-in-Some c = below_here _ _ _ _ _ _ _ c.loop-chain.invariant _ (omega arith) (omega (arith, c.word.ensures, c.min-end.ensures)) c.first_in.ensures _ c.in-Some.is

pub loop-chain-preserved : goal.loop-chain-preserved
loop-chain-preserved c =
    below_next _ _ _ _ _ _ _ c.loop-chain.invariant _ (omega arith) (omega (arith, c.word.ensures, c.min-end.ensures)) c.first_in.ensures _
    c.in_default.is (omega arith)

pub returns : goal.returns
returns c = below_end _ _ _ _ _ _ _ c.loop-chain.invariant (λ more. omega (arith, c.word.ensures, c.min-end.ensures, c.saturating_add.ensures))
