-- `heads::read_head` meets its contract.
use mathlib.Core.Bool.{not}
use mathlib.Core.Path.{sym, ap, ◌∙◌}
use Rattle.std.proofs.Common.{Ok}
use Rattle.heads.specs.HeadPost.{said}
use Rattle.heads.specs.declared.Head.{Head as ReadHead}
use Rattle.heads.proofs.HeadTurns.{sort_tested, head_short, head_unlisted, head_sort, head_cut, head_range, head_types_no, head_found}
use Rattle.heads.proofs.read_head.Goals.{then-not-is_listed-via-then-not-is_listed, then-not-is_listed-via-else-not-is_listed+then-ne}
use Rattle.heads.proofs.read_head.Goals as goal

pub returns-then-s-at-clause-answer : goal.returns-then-s-at-clause-answer
returns-then-s-at-clause-answer c = head_short _ _ _ c.if-s-at.true

pub returns-then-not-is_listed-clause-answer : goal.returns-then-not-is_listed-clause-answer
returns-then-not-is_listed-clause-answer c = elim c.then-not-is_listed.branch [
  | then-not-is_listed-via-then-not-is_listed w ↦ head_unlisted _ _ _ c.if-s-at.false _ c.number-tag.ensures _ c.form_of-form.ensures
      (sym c.is_listed.ensures ∙ w.if-not-is_listed.true)
  | then-not-is_listed-via-else-not-is_listed+then-ne w ↦ head_sort _ _ _ c.if-s-at.false _ c.number-tag.ensures _ c.form_of-form.ensures
      (sym c.is_listed.ensures ∙ w.if-not-is_listed.false)
      (sort_tested _ _ _ w.sort.ensures _ w.ne.ensures ∙ ap not w.if-ne.true)
]

pub returns-then-s-at-2-clause-answer : goal.returns-then-s-at-2-clause-answer
returns-then-s-at-2-clause-answer c = head_cut _ _ _ c.if-s-at.false _ c.number-tag.ensures _ c.form_of-form.ensures
    (sym c.is_listed.ensures ∙ c.if-not-is_listed.false)
    (sort_tested _ _ _ c.sort.ensures _ c.ne.ensures ∙ ap not c.if-ne.false) _ c.width-w.ensures.0 c.if-s-at-2.true

pub returns-then-not-in_range-clause-answer : goal.returns-then-not-in_range-clause-answer
returns-then-not-in_range-clause-answer c = head_range _ _ _ c.if-s-at.false _ c.number-tag.ensures _ c.form_of-form.ensures
    (sym c.is_listed.ensures ∙ c.if-not-is_listed.false)
    (sort_tested _ _ _ c.sort.ensures _ c.ne.ensures ∙ ap not c.if-ne.false) _ c.width-w.ensures.0 c.if-s-at-2.false _ c.number-x.ensures
    (sym c.in_range.ensures ∙ c.if-not-in_range.true)

pub returns-in_err-children-clause-answer : goal.returns-in_err-children-clause-answer
returns-in_err-children-clause-answer c = head_types_no _ _ _ c.if-s-at.false _ c.number-tag.ensures _ c.form_of-form.ensures
    (sym c.is_listed.ensures ∙ c.if-not-is_listed.false)
    (sort_tested _ _ _ c.sort.ensures _ c.ne.ensures ∙ ap not c.if-ne.false) _ c.width-w.ensures.0 c.if-s-at-2.false _ c.number-x.ensures
    (sym c.in_range.ensures ∙ c.if-not-in_range.false) _ c.many_types.ensures _ _ c.from_residual.ensures.1 c.in_err-children.ensures

pub returns-clause-answer : goal.returns-clause-answer
returns-clause-answer c =
    ap (λ (h : ReadHead). Ok (said h)) c.with_children.ensures
    ∙ head_found _ _ _ c.if-s-at.false _ c.number-tag.ensures _ c.form_of-form.ensures
    (sym c.is_listed.ensures ∙ c.if-not-is_listed.false)
    (sort_tested _ _ _ c.sort.ensures _ c.ne.ensures ∙ ap not c.if-ne.false) _ c.width-w.ensures.0 c.if-s-at-2.false _ c.number-x.ensures
    (sym c.in_range.ensures ∙ c.if-not-in_range.false) _ c.many_types.ensures _ c.in_ok-children.ensures
