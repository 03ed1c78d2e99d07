use Rattle.std.proofs.Common.{Some, ap, sym, ◌∙◌}
use Rattle.frame.specs.Tags.{class_of}
use Rattle.type_rules.specs.CodeRules.{own_type}
use Rattle.type_rules.specs.declared.Own.TheVariants.{Carried, Bound}
use Rattle.synthesis.proofs.OwnTurns.{own_put_pre, own_put, own_none, own_one, own_nothing, place_of, put_pre_at, own_post_at}
use Rattle.synthesis.proofs.own_type.Goals as goal

pub put_type-requires : goal.put_type-requires
put_type-requires c =
    put_pre_at (place_of (class_of c.args.tag) Carried (sym c.own_of.ensures ∙ c.in-Some-Carried.is ∙ ap Some c.in-Some-Carried.field-0-is) c.args.carried c.args.leaf)
    (own_put_pre (class_of c.args.tag) _ _ _ _ (λ n us Γ. (own_type Carried n us Γ, own_one (class_of c.args.tag) Carried (sym c.own_of.ensures ∙ c.in-Some-Carried.is ∙ ap Some c.in-Some-Carried.field-0-is) n us Γ)) c.requires)

pub returns-in-Some-Carried : goal.returns-in-Some-Carried
returns-in-Some-Carried c =
    own_put (class_of c.args.tag) _ _ _ _ (λ n us Γ. (own_type Carried n us Γ, own_one (class_of c.args.tag) Carried (sym c.own_of.ensures ∙ c.in-Some-Carried.is ∙ ap Some c.in-Some-Carried.field-0-is) n us Γ)) _ _
    (own_post_at (place_of (class_of c.args.tag) Carried (sym c.own_of.ensures ∙ c.in-Some-Carried.is ∙ ap Some c.in-Some-Carried.field-0-is) c.args.carried c.args.leaf) c.put_type.ensures)

pub put_type-requires-in-Some-Bound : goal.put_type-requires-in-Some-Bound
put_type-requires-in-Some-Bound c =
    put_pre_at (place_of (class_of c.args.tag) Bound (sym c.own_of.ensures ∙ c.in-Some-Bound.is ∙ ap Some c.in-Some-Bound.field-0-is) c.args.carried c.args.leaf)
    (own_put_pre (class_of c.args.tag) _ _ _ _ (λ n us Γ. (own_type Bound n us Γ, own_one (class_of c.args.tag) Bound (sym c.own_of.ensures ∙ c.in-Some-Bound.is ∙ ap Some c.in-Some-Bound.field-0-is) n us Γ)) c.requires)

pub returns-in-Some-Bound : goal.returns-in-Some-Bound
returns-in-Some-Bound c =
    own_put (class_of c.args.tag) _ _ _ _ (λ n us Γ. (own_type Bound n us Γ, own_one (class_of c.args.tag) Bound (sym c.own_of.ensures ∙ c.in-Some-Bound.is ∙ ap Some c.in-Some-Bound.field-0-is) n us Γ)) _ _
    (own_post_at (place_of (class_of c.args.tag) Bound (sym c.own_of.ensures ∙ c.in-Some-Bound.is ∙ ap Some c.in-Some-Bound.field-0-is) c.args.carried c.args.leaf) c.put_type-in-Some-Bound.ensures)

pub returns-in-None : goal.returns-in-None
returns-in-None c = own_none (class_of c.args.tag) _ _ _ _ (own_nothing (class_of c.args.tag) (sym c.own_of.ensures ∙ c.in-None.is)) c.requires
