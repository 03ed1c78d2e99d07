use Rattle.std.proofs.Common.{ℕ, ap, sym, ◌∙◌, eqb, arith}
use borrow.Author.Tests.{eqb-true, eqb-false}
use Rattle.claims.proofs.Noting.{power_not, power_is}
use Rattle.claims.proofs.is_power.Goals.{then-p-s, else-p-s, then-s-p-eq3, else-s-p-eq3}
use Rattle.claims.proofs.is_power.Goals as goal

pub returns-then-s-p-eq2 : goal.returns-then-s-p-eq2
returns-then-s-p-eq2 c = elim c.if-s-p-eq3.branch [
  | then-s-p-eq3 w ↦ elim c.if-p-s.branch [
    | then-p-s v ↦ power_is _ _ _ c.requires.2 (λ i. (c.type_inv.s i).fits) _ v.if-p-s.true
        (eqb-true _ _ (sym v.value-is ∙ w.if-s-p-eq3.true)) (eqb-true _ _ (sym w.value-is ∙ c.if-s-p-eq2.true))
        (ap (λ (a : ℕ). eqb a c.args.n) c.number.ensures)
    | else-p-s v ↦ absurd (grind arith)
  ]
  | else-s-p-eq3 w ↦ absurd (cc)
]

pub returns-else-s-p-eq2 : goal.returns-else-s-p-eq2
returns-else-s-p-eq2 c = elim c.if-s-p-eq3.branch [
  | then-s-p-eq3 w ↦ rw c.if-s-p-eq2.false
      (power_not _ _ _ c.requires.2 (λ b. eqb-false _ _ (sym w.value-is ∙ c.if-s-p-eq2.false) b.given_byte))
  | else-s-p-eq3 w ↦ elim c.if-p-s.branch [
    | then-p-s v ↦ rw c.if-s-p-eq2.false
        (power_not _ _ _ c.requires.2 (λ b. eqb-false _ _ (sym v.value-is ∙ w.if-s-p-eq3.false) b.pow_byte))
    | else-p-s v ↦ rw c.if-s-p-eq2.false (power_not _ _ _ c.requires.2 (λ b. let r = b.room in omega arith))
  ]
]
