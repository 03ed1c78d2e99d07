use Rattle.build.proofs.DecisionTurns.{fixed_asked, each_asked, kept_asked, apart_asked, within_asked, fixed_answered, each_answered, kept_answered, apart_answered, within_answered}
use Rattle.build.proofs.build.Goals as goal

pub fill-requires : goal.fill-requires
fill-requires c = fixed_asked _ _ _ _ _ _ _ _ _ c.in-Fixed.is c.requires

pub build_each-requires : goal.build_each-requires
build_each-requires c = each_asked _ _ _ _ _ _ _ c.in-Each.is c.requires

pub build_kept-requires : goal.build_kept-requires
build_kept-requires c = kept_asked _ _ _ _ c.in-Kept.is c.requires

pub build_apart-requires : goal.build_apart-requires
build_apart-requires c = apart_asked _ _ _ _ _ _ c.in-Apart.is c.requires

pub build_within-requires : goal.build_within-requires
build_within-requires c = within_asked _ _ _ _ _ c.in-Within.is c.requires

pub returns-in-Fixed : goal.returns-in-Fixed
returns-in-Fixed c = fixed_answered _ _ _ _ _ _ _ _ _ c.in-Fixed.is _ _ c.fill.ensures

pub returns-in-Each : goal.returns-in-Each
returns-in-Each c = each_answered _ _ _ _ _ _ _ c.in-Each.is _ _ c.build_each.ensures

pub returns-in-Kept : goal.returns-in-Kept
returns-in-Kept c = kept_answered _ _ _ _ c.in-Kept.is _ _ c.build_kept.ensures

pub returns-in-Apart : goal.returns-in-Apart
returns-in-Apart c = apart_answered _ _ _ _ _ _ c.in-Apart.is _ _ c.build_apart.ensures

pub returns-in-Within : goal.returns-in-Within
returns-in-Within c = within_answered _ _ _ _ _ c.in-Within.is _ _ c.build_within.ensures
